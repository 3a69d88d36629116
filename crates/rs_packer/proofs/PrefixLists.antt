-- Lists of prefixes: their octets, and those of a front.
use Rattle.std.proofs.Common.{◌≡◌, ℕ, zero, suc, ◌+◌, ◌<◌, ◌≤◌, List, [], ◌∷◌, ◌++◌, length, take, get_or, ap, ◌∙◌, arith}
use Rattle.std.specs.Prelude.{sum_by}
use Rattle.std.specs.Int.{w32, to_be_bytes}
use Rattle.std.proofs.lemmas.List.{append-nil, take_more, length-take}
use Rattle.std.proofs.lemmas.List.Concat.{length-flat_map}
use Rattle.std.proofs.lemmas.Grind.{flat_map-append}
use Rattle.rs_octets.specs.Prefixes.{Prefix, octet_count}
use Rattle.rs_octets.specs.PrefixFields.{prefix_octets}
use Rattle.rs_packer.specs.Packed.{prefixes_octets}
use Rattle.rs_packer.specs.Parts.{prefix_size}

pub prefixes_length : (ps : List Prefix) → length (prefixes_octets ps) ≡ sum_by prefix_size ps
prefixes_length ps = length-flat_map prefix_octets ps

pub prefixes_more : (ps : List Prefix) (i : ℕ) (d : Prefix) → i < length ps → prefixes_octets (take (i + 1) ps) ≡ prefixes_octets (take i ps) ++ prefix_octets (get_or ps i d)
prefixes_more ps i d h =
    ap prefixes_octets (take_more ps i d h)
    ∙ flat_map-append prefix_octets (take i ps) (get_or ps i d ∷ [])
    ∙ ap (λ xs. prefixes_octets (take i ps) ++ xs) (append-nil (prefix_octets (get_or ps i d)))

pub some_fits : (n room : ℕ) (ps : List Prefix) → (n < length ps → room < sum_by prefix_size (take (n + 1) ps)) → 0 < length ps → sum_by prefix_size (take 1 ps) ≤ room → 0 < n
some_fits zero room ps full some fits = absurd (omega (arith, full some, fits))
some_fits (suc n) room ps full some fits = omega arith

prefix_most : (p : Prefix) → length (prefix_octets p) ≤ 5
prefix_most p = omega (arith, length-take (octet_count p.len) (to_be_bytes w32 p.bits))

pub one_fits : (ps : List Prefix) → sum_by prefix_size (take 1 ps) ≤ 5
one_fits [] = omega arith
one_fits (p ∷ ps) = let most = prefix_most p in omega arith
