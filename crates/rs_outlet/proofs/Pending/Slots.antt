-- Slots of different prefixes: one of them written, and what stands then of a prefix.
use Rattle.std.proofs.Common.{◌≡◌, ◌-◌, ◌<◌, ◌≤◌, ℕ, zero, suc, Bool, true, false, cond, ◌&&◌, Option, None, Some, List, [], ◌∷◌, length, get_or, slice_set, refl, sym, ap, ◌∙◌, subst, arith}
use Rattle.std.specs.Prelude.{slice_get}
use mathlib.Core.Bool.{true≢false}
use Rattle.std.specs.Cmp.{IsTotalOrder, eq_by_cmp_equiv}
use Rattle.std.proofs.lemmas.Cmp.{on_total}
use Rattle.std.specs.List.{AllByRecursion, IsDistinct}
use Rattle.std.specs.List.Sorted.{IsStrictlySortedBy}
use Rattle.std.specs.Ordering.{eq_by_cmp, is_eq}
use Rattle.std.specs.declared.cmp.Ordering.{Ordering}
use Rattle.std.specs.declared.cmp.Ordering.TheVariants.{Less, Equal, Greater}
use Rattle.std.proofs.lemmas.List.Sums.{sum_by-set, get_or-le-sum_by}
use Rattle.std.proofs.Math.Bool.{and-false}
use Rattle.std.proofs.lemmas.Option.{same_Some}
use Rattle.rs_octets.specs.Prefixes.{Prefix, prefix_order}
use Rattle.rs_outlet.specs.declared.waiting.Wait.{Wait}
use Rattle.rs_outlet.specs.Pending.Slots.{prefixes_at, open_count, open_at}
use Rattle.rs_adjin.proofs.Listed.{prefixes_total}
use Rattle.rs_outlet.proofs.Decided.LocByNumber.{same, same_is, same_itself}

-- ---- rising

abbrev pub by_prefix : Wait → Wait → Ordering
by_prefix v w = prefix_order v.prefix w.prefix

pub slots_total : IsTotalOrder by_prefix
slots_total = on_total (λ w. w.prefix) prefixes_total

all_prefixes : (p : Prefix) (ws : List Wait) → AllByRecursion (λ w. prefix_order p w.prefix ≡ Less) ws → AllByRecursion (λ q. prefix_order p q ≡ Less) (prefixes_at ws)
all_prefixes p [] h = tt
all_prefixes p (w ∷ ws) h = (h.0, all_prefixes p ws h.1)

pub prefixes_rise : (ws : List Wait) → IsStrictlySortedBy by_prefix ws → IsStrictlySortedBy prefix_order (prefixes_at ws)
unfolding IsStrictlySortedBy
prefixes_rise [] h = tt
prefixes_rise (w ∷ ws) h = (all_prefixes w.prefix ws h.0, prefixes_rise ws h.1)

pub none_rise : (ws : List Wait) → ws ≡ [] → IsStrictlySortedBy prefix_order (prefixes_at ws)
unfolding IsStrictlySortedBy
none_rise ws h = subst (λ ws. IsStrictlySortedBy prefix_order (prefixes_at ws)) (sym h) tt

pub no_part : IsStrictlySortedBy prefix_order []
unfolding IsStrictlySortedBy
no_part = tt

-- ---- one slot written

pub same_prefixes : (ws : List Wait) (n : ℕ) (y d : Wait) → y.prefix ≡ (get_or ws n d).prefix → prefixes_at (slice_set ws n y) ≡ prefixes_at ws
same_prefixes [] zero y d h = refl
same_prefixes [] (suc n) y d h = refl
same_prefixes (w ∷ ws) zero y d h = ap (λ p. p ∷ prefixes_at ws) h
same_prefixes (w ∷ ws) (suc n) y d h = ap (λ ps. w.prefix ∷ ps) (same_prefixes ws n y d h)

-- how many are open with one shut, which was open or not
pub count_shut : (ws : List Wait) (n : ℕ) (y d : Wait) (b : Bool) (k m : ℕ) → n < length ws → (get_or ws n d).open ≡ b → y.open ≡ false → open_count ws ≡ k → m ≡ cond b 1 0 → open_count (slice_set ws n y) ≡ k - m
count_shut ws n y d b k m below was shut count one =
    let e = sum_by-set (λ (w : Wait). cond w.open 1 0) ws n y d below in
    let old : ◌≡◌ {A = ℕ} (cond (get_or ws n d).open 1 0) (cond b 1 0) = ap (λ b. cond b 1 0) was in
    let new : ◌≡◌ {A = ℕ} (cond y.open 1 0) 0 = ap (λ b. cond b 1 0) shut in
    omega (arith, e, old, new, count, one)

pub count_less : (ws : List Wait) (n : ℕ) (y d : Wait) → n < length ws → y.open ≡ false → open_count (slice_set ws n y) ≤ open_count ws
count_less ws n y d below shut =
    let e = count_shut ws n y d (get_or ws n d).open (open_count ws) (cond (get_or ws n d).open 1 0) below refl shut refl refl in
    omega (arith, e)

-- an open slot is one of them
pub count_one : (ws : List Wait) (n : ℕ) (d : Wait) (b : Bool) (k m : ℕ) → n < length ws → (get_or ws n d).open ≡ b → open_count ws ≡ k → m ≡ cond b 1 0 → m ≤ k
count_one ws n d b k m below was count one =
    let most = get_or-le-sum_by (λ (w : Wait). cond w.open 1 0) ws n d below in
    let old : ◌≡◌ {A = ℕ} (cond (get_or ws n d).open 1 0) (cond b 1 0) = ap (λ b. cond b 1 0) was in
    omega (arith, most, old, count, one)

-- ---- what stands of a prefix

pub less_apart : (r : Ordering) → r ≡ Less → is_eq r ≡ false
less_apart Less h = refl
less_apart Equal h = absurd (cc)
less_apart Greater h = absurd (cc)

-- a slot of another prefix, or one that waits no more
pub later_at : (q : Prefix) (w : Wait) (ws : List Wait) → same q w.prefix ≡ false → open_at q (w ∷ ws) ≡ open_at q ws
later_at q w ws is = ap (λ b. cond (w.open && b) (Some w) (open_at q ws)) is ∙ ap (λ b. cond b (Some w) (open_at q ws)) (and-false w.open)

pub shut_at : (q : Prefix) (w : Wait) (ws : List Wait) → w.open ≡ false → open_at q (w ∷ ws) ≡ open_at q ws
shut_at q w ws is = ap (λ b. cond (b && same q w.prefix) (Some w) (open_at q ws)) is

not_same : (p q x : Prefix) → prefix_order p x ≡ Less → same q p ≡ true → same q x ≡ false
not_same p q x h is = ap (λ r. eq_by_cmp prefix_order r x) (same_is q p is) ∙ less_apart (prefix_order p x) h

-- none behind a slot has its prefix
pub none_behind : (p q : Prefix) (ws : List Wait) → AllByRecursion (λ x. prefix_order p x ≡ Less) (prefixes_at ws) → same q p ≡ true → open_at q ws ≡ None
none_behind p q [] h is = refl
none_behind p q (w ∷ ws) h is =
    ap (λ b. cond (w.open && b) (Some w) (open_at q ws)) (not_same p q w.prefix h.0 is)
    ∙ ap (λ b. cond b (Some w) (open_at q ws)) (and-false w.open)
    ∙ none_behind p q ws h.1 is

-- ---- slots of different prefixes

pub flips : (p q : Prefix) → same p q ≡ same q p
flips p q = (eq_by_cmp_equiv prefixes_total).symm p q

another : (p q x : Prefix) → same p x ≡ false → same q p ≡ true → same q x ≡ false
another p q x h is = ap (λ r. same r x) (same_is q p is) ∙ h

apart_at : (p q : Prefix) (ps : List Prefix) (n : ℕ) → AllByRecursion (λ x. same p x ≡ false) ps → slice_get ps n ≡ Some q → same p q ≡ false
apart_at p q [] zero h is = absurd (cc)
apart_at p q [] (suc n) h is = absurd (cc)
apart_at p q (x ∷ ps) zero h is = ap (same p) (sym (same_Some x q is)) ∙ h.0
apart_at p q (x ∷ ps) (suc n) h is = apart_at p q ps n h.1 is

none_apart : (p q : Prefix) (ws : List Wait) → AllByRecursion (λ x. same p x ≡ false) (prefixes_at ws) → same q p ≡ true → open_at q ws ≡ None
none_apart p q [] h is = refl
none_apart p q (w ∷ ws) h is = later_at q w ws (another p q w.prefix h.0 is) ∙ none_apart p q ws h.1 is

shut_apart : (x : Wait) (p q : Prefix) → same x.prefix p ≡ false → same q p ≡ true → (x.open && same q x.prefix) ≡ false
shut_apart x p q h is = ap (λ b. x.open && b) (another p q x.prefix (flips p x.prefix ∙ h) is) ∙ and-false x.open

-- another slot written
pub later_set : {A : Type 0} (a b : Bool) (x r o : Option A) → (b ≡ true → a ≡ false) → cond a x (cond b r o) ≡ cond b r (cond a x o)
later_set true true x r o apart = absurd (true≢false (apart refl))
later_set false true x r o apart = refl
later_set a false x r o apart = refl

-- ---- a slot read

pub prefix_at : (ws : List Wait) (n : ℕ) (w : Wait) → n < length ws → w ≡ get_or ws n w → slice_get (prefixes_at ws) n ≡ Some w.prefix
prefix_at [] n w below is = absurd (omega (arith, below))
prefix_at (x ∷ ws) zero w below is = ap (λ (t : Wait). Some t.prefix) (sym is)
prefix_at (x ∷ ws) (suc n) w below is = prefix_at ws n w (omega (arith, below)) is

pub first_open : (q : Prefix) (x : Wait) (ws : List Wait) → x.open ≡ true → same q x.prefix ≡ true → open_at q (x ∷ ws) ≡ Some x
first_open q x ws is at = λ i. cond (is i && at i) (Some x) (open_at q ws)

-- an open slot is what stands of its prefix
pub found_at : (ws : List Wait) (n : ℕ) (w : Wait) → n < length ws → w ≡ get_or ws n w → w.open ≡ true → IsDistinct same (prefixes_at ws) → open_at w.prefix ws ≡ Some w
unfolding IsDistinct
found_at [] n w below is opened apart = absurd (omega (arith, below))
found_at (x ∷ ws) zero w below is opened apart =
    first_open w.prefix x ws (ap (λ (t : Wait). t.open) (sym is) ∙ opened) (ap (λ (t : Wait). same w.prefix t.prefix) (sym is) ∙ same_itself w.prefix) ∙ ap (λ t. Some t) (sym is)
found_at (x ∷ ws) (suc n) w below is opened apart =
    ap (λ b. cond b (Some x) (open_at w.prefix ws)) (shut_apart x w.prefix w.prefix (apart_at x.prefix w.prefix (prefixes_at ws) n apart.0 (prefix_at ws n w (omega (arith, below)) is)) (same_itself w.prefix))
    ∙ found_at ws n w (omega (arith, below)) is opened apart.1

-- where it waits no more, nothing stands of its prefix
pub shut_here : (ws : List Wait) (n : ℕ) (w : Wait) → n < length ws → w ≡ get_or ws n w → w.open ≡ false → IsDistinct same (prefixes_at ws) → open_at w.prefix ws ≡ None
unfolding IsDistinct
shut_here [] n w below is shut apart = absurd (omega (arith, below))
shut_here (x ∷ ws) zero w below is shut apart =
    shut_at w.prefix x ws (ap (λ (t : Wait). t.open) (sym is) ∙ shut)
    ∙ none_apart x.prefix w.prefix ws apart.0 (ap (λ (t : Wait). same w.prefix t.prefix) (sym is) ∙ same_itself w.prefix)
shut_here (x ∷ ws) (suc n) w below is shut apart =
    ap (λ b. cond b (Some x) (open_at w.prefix ws)) (shut_apart x w.prefix w.prefix (apart_at x.prefix w.prefix (prefixes_at ws) n apart.0 (prefix_at ws n w (omega (arith, below)) is)) (same_itself w.prefix))
    ∙ shut_here ws n w (omega (arith, below)) is shut apart.1
