-- Lists of prefixes as finite sets.
use Rattle.std.proofs.Common.{Result, Ok, Err, OnOk, is_ok, ◌≡◌, ℕ, Bool, true, false, cond, ◌&&◌, ◌||◌, List, [], ◌∷◌, length, ◌+◌, refl, sym, ap, ◌∙◌, arith, nat_eq}
use mathlib.Core.Bool.{true≢false}
use Rattle.rs_outlet.specs.Views.{Prefixes}
use Rattle.std.specs.List.{list_any, IsDistinct, AllByRecursion}
use Rattle.std.specs.FinSet as set
use Rattle.std.specs.Ordering.{eq_by_cmp, is_eq, nat_cmp, ordering_then}
use Rattle.std.specs.declared.cmp.Ordering.{Ordering}
use Rattle.std.specs.declared.cmp.Ordering.TheVariants.{Less, Equal, Greater}
use Rattle.std.proofs.lemmas.Bool.Decides.{nat_tests}
use Rattle.std.proofs.lemmas.Map.Keys.{IsDistinct-head, IsDistinct-tail}
use Rattle.rs_octets.specs.Prefixes.{Prefix, prefix_order}
use Rattle.rs_adjin.proofs.Listed.{prefixes_total, exact_prefixes}

-- what `==` computes
abbrev pub prefix_eq : Prefix → Prefix → Bool
prefix_eq a b = nat_eq a.bits b.bits && nat_eq a.len b.len

is_eq-then : (r s : Ordering) → is_eq (ordering_then r s) ≡ (is_eq r && is_eq s)
is_eq-then Less s = refl
is_eq-then Equal s = refl
is_eq-then Greater s = refl

pub unsigned : (x y : ℕ) → is_eq (nat_cmp x y) ≡ nat_eq x y
unsigned x y = grind (arith, nat_tests)

pub prefix_eq-cmp : (a b : Prefix) → eq_by_cmp prefix_order a b ≡ prefix_eq a b
prefix_eq-cmp a b = is_eq-then (nat_cmp a.bits b.bits) (nat_cmp a.len b.len) ∙ (λ i. unsigned a.bits b.bits i && unsigned a.len b.len i)

pub equal_only : (r : Ordering) → is_eq r ≡ true → r ≡ Equal
equal_only Less h = cc h
equal_only Equal h = refl
equal_only Greater h = cc h

pub prefix_eq-is : (p q : Prefix) → prefix_eq p q ≡ true → p ≡ q
prefix_eq-is p q h = exact_prefixes p q (equal_only (prefix_order p q) (prefix_eq-cmp p q ∙ h))

pub any_eq-cmp : (p : Prefix) (ps : List Prefix) → list_any (eq_by_cmp prefix_order p) ps ≡ list_any (prefix_eq p) ps
any_eq-cmp p [] = refl
any_eq-cmp p (q ∷ ps) = λ i. prefix_eq-cmp p q i || any_eq-cmp p ps i

pub contains-from_list : (p : Prefix) (ps : List Prefix) → set.contains (set.from_list {R = prefix_order} ps) p ≡ list_any (prefix_eq p) ps
contains-from_list p ps = set.contains-from_list prefixes_total ps p ∙ any_eq-cmp p ps

none_passes : (p : Prefix) (ps : List Prefix) → AllByRecursion (λ q. prefix_eq p q ≡ false) ps → list_any (prefix_eq p) ps ≡ false
none_passes p [] h = refl
none_passes p (q ∷ ps) h = (λ i. h.0 i || list_any (prefix_eq p) ps) ∙ none_passes p ps h.1

-- as many as the list has
pub len-from_list : (ps : List Prefix) → IsDistinct prefix_eq ps → set.len (set.from_list {R = prefix_order} ps) ≡ length ps
len-from_list [] h = set.len-empty prefix_order
len-from_list (p ∷ ps) h =
    let s : Prefixes = set.from_list ps in
    let out : set.contains s p ≡ false = contains-from_list p ps ∙ none_passes p ps (IsDistinct-head prefix_eq p ps h) in
    let rest : set.len s ≡ length ps = len-from_list ps (IsDistinct-tail prefix_eq p ps h) in
    set.len-insert prefixes_total s p ∙ ap (λ b. cond b (set.len s) (set.len s + 1)) out ∙ omega (arith, rest)

pub from_on_ok : {A E : Type 0} (r : Result A E) (P : Type 0) → OnOk r P → is_ok r ≡ true → P
from_on_ok (Ok x) P h ok = h
from_on_ok (Err e) P h ok = absurd (true≢false (sym ok))

pub on_ok : {A E : Type 0} (r : Result A E) (P : Type 0) → (is_ok r ≡ true → P) → OnOk r P
on_ok (Ok x) P h = h refl
on_ok (Err e) P h = tt
