-- Equal patterns of communities are one.
use Rattle.std.proofs.Common.{◌≡◌, ℕ, ◌==◌, Bool, true, ◌&&◌, Option, None, Some, refl, ap, subst}
use Rattle.std.specs.Bool.{Decides}
use Rattle.std.specs.Option.{option_eq}
use Rattle.std.specs.Cmp.{unsigned_Decides, first_so, second_so}
use Rattle.rs_attrs.specs.declared.patterns.CommunityPattern.{CommunityPattern}
use Rattle.rs_attrs.specs.declared.patterns.LargeCommunityPattern.{LargeCommunityPattern}

abbrev pub same_part : Option ℕ → Option ℕ → Bool
same_part = option_eq (λ x y. x == y)

part_itself : (x : Option ℕ) → same_part x x ≡ true
part_itself None = refl
part_itself (Some x) = (unsigned_Decides x x).1 refl

part_from : (x y : Option ℕ) → same_part x y ≡ true → x ≡ y
part_from None None e = refl
part_from None (Some y) e = absurd (cc e)
part_from (Some x) None e = absurd (cc e)
part_from (Some x) (Some y) e = ap Some ((unsigned_Decides x y).0 e)

abbrev pub same_pattern : CommunityPattern → CommunityPattern → Bool
same_pattern x y = same_part x.high y.high && same_part x.low y.low

pattern_from : (x y : CommunityPattern) → same_pattern x y ≡ true → x ≡ y
pattern_from x y e =
    let high : x.high ≡ y.high = part_from x.high y.high (first_so (same_part x.high y.high) (same_part x.low y.low) e) in
    let low : x.low ≡ y.low = part_from x.low y.low (second_so (same_part x.high y.high) (same_part x.low y.low) e) in
    λ i. record { high = high i; low = low i }

pub pattern_decides : (x y : CommunityPattern) → Decides (same_pattern x y) (x ≡ y)
pattern_decides x y = (pattern_from x y, λ e. subst (λ z. same_pattern x z ≡ true) e (λ i. part_itself x.high i && part_itself x.low i))

abbrev pub same_large : LargeCommunityPattern → LargeCommunityPattern → Bool
same_large x y = same_part x.global y.global && (same_part x.first y.first && same_part x.second y.second)

large_from : (x y : LargeCommunityPattern) → same_large x y ≡ true → x ≡ y
large_from x y e =
    let g : Bool = same_part x.global y.global in
    let f : Bool = same_part x.first y.first in
    let s : Bool = same_part x.second y.second in
    let two : f && s ≡ true = second_so g (f && s) e in
    let global : x.global ≡ y.global = part_from x.global y.global (first_so g (f && s) e) in
    let first : x.first ≡ y.first = part_from x.first y.first (first_so f s two) in
    let second : x.second ≡ y.second = part_from x.second y.second (second_so f s two) in
    λ i. record { global = global i; first = first i; second = second i }

pub large_decides : (x y : LargeCommunityPattern) → Decides (same_large x y) (x ≡ y)
large_decides x y = (large_from x y, λ e. subst (λ z. same_large x z ≡ true) e (λ i. part_itself x.global i && (part_itself x.first i && part_itself x.second i)))
