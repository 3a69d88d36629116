-- The longest front of octets that is UTF-8.
use Rattle.std.proofs.Common.{◌≡◌, ℕ, List, [], length, take, drop, Option, Some, None, refl, sym, subst, ap, ◌∙◌, arith}
use Rattle.std.specs.Prelude.{IsUtf8}
use Rattle.std.specs.Str.Lossy.{utf8_valid_len, utf8_error_len}
use Rattle.std.proofs.lemmas.List.{take_all, drop_all}
use Rattle.std.proofs.lemmas.Str.{utf8_valid_len-IsUtf8}
use Rattle.rs_reports.specs.Communications.{front_before, front_of}

no_error : utf8_error_len [] ≡ None
unfolding utf8_error_len
no_error = refl

-- where they are UTF-8, it is all of them
pub front_whole : (octets : List ℕ) → IsUtf8 octets → front_of octets ≡ Some octets
front_whole octets is =
    let end : utf8_error_len (drop (length octets) octets) ≡ None = ap utf8_error_len (drop_all (length octets) octets (omega arith)) ∙ no_error in
    subst (λ n. front_before octets n (utf8_error_len (drop n octets)) ≡ Some octets) (sym (utf8_valid_len-IsUtf8 octets is))
    (ap (front_before octets (length octets)) end ∙ ap (λ (t : List ℕ). Some t) (take_all (length octets) octets (omega arith)))
