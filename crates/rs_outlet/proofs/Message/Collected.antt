-- The prefixes collected for a message from both parts beside each other: they are the front of all that pass a test, in order.
use Rattle.std.proofs.Common.{◌≡◌, ◌≢◌, ◌+◌, ◌<◌, ◌≤◌, ℕ, zero, suc, Bool, true, false, Option, None, Some, List, [], ◌∷◌, ◌++◌, length, take, drop, append-nil, length-append, refl, sym, ap, ◌∙◌, subst, arith, inl, inr}
use Rattle.std.specs.Prelude.{◌⊎◌, IfSome, slice_get}
use Rattle.std.specs.List.{AllByRecursion, AllWithin, HoldsAt}
use Rattle.std.specs.List.Sorted.{IsStrictlySortedBy}
use Rattle.std.specs.declared.cmp.Ordering.{Ordering}
use Rattle.std.specs.declared.cmp.Ordering.TheVariants.{Less, Equal, Greater}
use Rattle.std.proofs.lemmas.Bool.{cases_eq, cases_lt}
use Rattle.std.proofs.lemmas.Option.{get_or_from_slice_get, same_Some, slice_get_within}
use Rattle.std.specs.Ordering.{ordering_reverse}
use Rattle.rs_octets.specs.Prefixes.{Prefix, prefix_order}
use Rattle.rs_adjin.proofs.Listed.{prefixes_total, exact_prefixes}
use Rattle.rs_adjin.proofs.TableRows.{some_row}
use Rattle.rs_outlet.specs.declared.waiting.Wait.{Wait}
use Rattle.rs_outlet.specs.Pending.Slots.{AreApart, prefixes_at, rising}
use Rattle.rs_outlet.specs.Pending.Choosing.{IsLeast, IsLesser, passing}
use Rattle.rs_outlet.proofs.Decided.LocByNumber.{same, same_is, same_itself}
use Rattle.rs_outlet.proofs.Message.Fullest.{passing_none, passing_one}
use Rattle.rs_outlet.proofs.Pending.Apart.{unique}
use Rattle.rs_outlet.proofs.Pending.Chains.{first_get, within_take}
use Rattle.rs_outlet.proofs.Pending.InOrder.{front_of, in_behind, in_cases, in_here, in_order_from, in_order_in, is_in, never_less, not_both, passing_up, rising_up}

-- ---- prefixes that rise in both parts

abbrev pub Rises : ℕ → ℕ → List Wait → Type 0
Rises from to ws = (n m : ℕ) (w z : Wait) → slice_get ws n ≡ Some w → slice_get ws m ≡ Some z → from ≤ n → n < m → m < to → prefix_order w.prefix z.prefix ≡ Less

pub record BothRise (sorted : ℕ) (ws : List Wait) : Type 0 where
  pub first : Rises 0 sorted ws
  pub late : (n m : ℕ) (w z : Wait) → slice_get ws n ≡ Some w → slice_get ws m ≡ Some z → sorted ≤ n → n < m → prefix_order w.prefix z.prefix ≡ Less

above_later : (p : Prefix) (ws : List Wait) (k m : ℕ) (z : Wait) → AllByRecursion (λ q. prefix_order p q ≡ Less) (take k (prefixes_at ws)) → slice_get ws m ≡ Some z → m < k → prefix_order p z.prefix ≡ Less
above_later p ws zero m z above at h = absurd (omega (arith, h))
above_later p [] (suc k) zero z above at h = absurd (cc)
above_later p [] (suc k) (suc m) z above at h = absurd (cc)
above_later p (w ∷ ws) (suc k) zero z above at h = ap (λ (v : Wait). prefix_order p v.prefix) (sym (same_Some w z at)) ∙ above.0
above_later p (w ∷ ws) (suc k) (suc m) z above at h = above_later p ws k m z above.1 at (omega (arith, h))

first_rises : (ws : List Wait) (k n m : ℕ) (w z : Wait) → IsStrictlySortedBy prefix_order (take k (prefixes_at ws)) → slice_get ws n ≡ Some w → slice_get ws m ≡ Some z → n < m → m < k → prefix_order w.prefix z.prefix ≡ Less
unfolding IsStrictlySortedBy
first_rises ws zero n m w z up at to less within = absurd (omega (arith, within))
first_rises [] (suc k) zero m w z up at to less within = absurd (cc)
first_rises [] (suc k) (suc n) m w z up at to less within = absurd (cc)
first_rises (v ∷ ws) (suc k) n zero w z up at to less within = absurd (omega (arith, less))
first_rises (v ∷ ws) (suc k) zero (suc m) w z up at to less within =
    ap (λ (x : Wait). prefix_order x.prefix z.prefix) (sym (same_Some v w at)) ∙ above_later v.prefix ws k m z up.0 to (omega (arith, within))
first_rises (v ∷ ws) (suc k) (suc n) (suc m) w z up at to less within = first_rises ws k n m w z up.1 at to (omega (arith, less)) (omega (arith, within))

above_any : (p : Prefix) (ws : List Wait) (m : ℕ) (z : Wait) → AllByRecursion (λ q. prefix_order p q ≡ Less) (prefixes_at ws) → slice_get ws m ≡ Some z → prefix_order p z.prefix ≡ Less
above_any p [] zero z above at = absurd (cc)
above_any p [] (suc m) z above at = absurd (cc)
above_any p (w ∷ ws) zero z above at = ap (λ (v : Wait). prefix_order p v.prefix) (sym (same_Some w z at)) ∙ above.0
above_any p (w ∷ ws) (suc m) z above at = above_any p ws m z above.1 at

late_rises : (ws : List Wait) (k n m : ℕ) (w z : Wait) → IsStrictlySortedBy prefix_order (drop k (prefixes_at ws)) → slice_get ws n ≡ Some w → slice_get ws m ≡ Some z → k ≤ n → n < m → prefix_order w.prefix z.prefix ≡ Less
unfolding IsStrictlySortedBy
late_rises [] zero zero m w z up at to past less = absurd (cc)
late_rises [] zero (suc n) m w z up at to past less = absurd (cc)
late_rises [] (suc k) zero m w z up at to past less = absurd (cc)
late_rises [] (suc k) (suc n) m w z up at to past less = absurd (cc)
late_rises (v ∷ ws) zero n zero w z up at to past less = absurd (omega (arith, less))
late_rises (v ∷ ws) zero zero (suc m) w z up at to past less = ap (λ (x : Wait). prefix_order x.prefix z.prefix) (sym (same_Some v w at)) ∙ above_any v.prefix ws m z up.0 to
late_rises (v ∷ ws) zero (suc n) (suc m) w z up at to past less = late_rises ws zero n m w z up.1 at to (omega arith) (omega (arith, less))
late_rises (v ∷ ws) (suc k) zero m w z up at to past less = absurd (omega (arith, past))
late_rises (v ∷ ws) (suc k) (suc n) zero w z up at to past less = absurd (omega (arith, less))
late_rises (v ∷ ws) (suc k) (suc n) (suc m) w z up at to past less = late_rises ws k n m w z up at to (omega (arith, past)) (omega (arith, less))

pub both_rise : (sorted : ℕ) (ws : List Wait) → IsStrictlySortedBy prefix_order (take sorted (prefixes_at ws)) → IsStrictlySortedBy prefix_order (drop sorted (prefixes_at ws)) → BothRise sorted ws
both_rise sorted ws first late = record {
  first = λ n m w z at to from less within. first_rises ws sorted n m w z first at to less within;
  late = λ n m w z at to past less. late_rises ws sorted n m w z late at to past less;
}

-- ---- the lesser of two slots

module _ (ws : List Wait) (sorted first late : ℕ) (l f : Wait) (late_at : slice_get ws late ≡ Some l) (first_at : slice_get ws first ≡ Some f) where
  pub lesser_late : prefix_order l.prefix f.prefix ≡ Less → IsLesser sorted first late ws late
  lesser_late h w z m at to (inl (e, within)) less =
      let w_is : l ≡ w = same_Some l w (sym late_at ∙ at) in
      let z_is : f ≡ z = same_Some f z (sym first_at ∙ ap (slice_get ws) (sym e) ∙ to) in
      not_both l.prefix f.prefix h ((λ i. prefix_order (z_is i).prefix (w_is i).prefix) ∙ less)
  lesser_late h w z m at to (inr e) less =
      let w_is : l ≡ w = same_Some l w (sym late_at ∙ at) in
      let z_is : l ≡ z = same_Some l z (sym late_at ∙ ap (slice_get ws) (sym e) ∙ to) in
      never_less l.prefix ((λ i. prefix_order (z_is i).prefix (w_is i).prefix) ∙ less)

  pub lesser_first : prefix_order l.prefix f.prefix ≢ Less → IsLesser sorted first late ws first
  lesser_first h w z m at to (inl (e, within)) less =
      let w_is : f ≡ w = same_Some f w (sym first_at ∙ at) in
      let z_is : f ≡ z = same_Some f z (sym first_at ∙ ap (slice_get ws) (sym e) ∙ to) in
      never_less f.prefix ((λ i. prefix_order (z_is i).prefix (w_is i).prefix) ∙ less)
  lesser_first h w z m at to (inr e) less =
      let w_is : f ≡ w = same_Some f w (sym first_at ∙ at) in
      let z_is : l ≡ z = same_Some l z (sym late_at ∙ ap (slice_get ws) (sym e) ∙ to) in
      h ((λ i. prefix_order (z_is i).prefix (w_is i).prefix) ∙ less)

-- ---- where both parts are looked through so far

abbrev pub IsCovered : ℕ → ℕ → ℕ → ℕ → Type 0
IsCovered sorted first late n = ((n < first) × (n < sorted)) ⊎ ((sorted ≤ n) × (n < late))

abbrev pub IsBeyond : ℕ → ℕ → ℕ → ℕ → Type 0
IsBeyond sorted first late n = ((first ≤ n) × (n < sorted)) ⊎ ((sorted ≤ n) × (late ≤ n))

pub covered_or : (sorted first late n : ℕ) → IsCovered sorted first late n ⊎ IsBeyond sorted first late n
covered_or sorted first late n = elim (cases_lt n sorted) [
  | inl within ↦ elim (cases_lt n first) [ inl a ↦ inl (inl (a, within)) | inr b ↦ inr (inl (b, within)) ]
  | inr past ↦ elim (cases_lt n late) [ inl a ↦ inl (inr (past, a)) | inr b ↦ inr (inr (past, b)) ]
]

-- the slot with the lesser prefix has the least beyond
module _ (sorted first late : ℕ) (ws : List Wait) (rise : BothRise sorted ws) (n : ℕ) (w : Wait) (at : slice_get ws n ≡ Some w) (lesser : IsLesser sorted first late ws n) where
  pub least_beyond : sorted ≤ late → (m : ℕ) (z : Wait) → slice_get ws m ≡ Some z → IsBeyond sorted first late m → prefix_order z.prefix w.prefix ≢ Less
  least_beyond past m z to (inl (from, within)) less = elim (cases_eq m first) [
    | inl e ↦ lesser w z m at to (inl (e, within)) less
    | inr ne ↦
        let apart : m ≢ first = ne in
        let below : first < length ws = (let b = slice_get_within ws m z to in omega (arith, b, from, apart)) in
        let v = some_row ws first z below in
        lesser w v.0 first at v.1 (inl (refl, omega (arith, from, within, apart)))
        (prefixes_total.trans v.0.prefix z.prefix w.prefix (rise.first first m v.0 z v.1 to (omega arith) (omega (arith, from, apart)) within) less)
  ]
  least_beyond past m z to (inr (behind, from)) less = elim (cases_eq m late) [
    | inl e ↦ lesser w z m at to (inr e) less
    | inr ne ↦
        let apart : m ≢ late = ne in
        let below : late < length ws = (let b = slice_get_within ws m z to in omega (arith, b, from, apart)) in
        let v = some_row ws late z below in
        lesser w v.0 late at v.1 (inr refl)
        (prefixes_total.trans v.0.prefix z.prefix w.prefix (rise.late late m v.0 z v.1 to past (omega (arith, from, apart))) less)
  ]

-- ---- the least that passes a test

pub not_before : (test : Wait → Bool) (sorted from to : ℕ) (ws : List Wait) → AllWithin (λ w. test w ≡ false) (take sorted ws) from to → (n : ℕ) (w : Wait) → slice_get ws n ≡ Some w → from ≤ n → n < to → n < sorted → test w ≡ false
not_before test sorted from to ws none n w at low high within =
    ap test (sym (get_or_from_slice_get (take sorted ws) n w w (first_get sorted n ws w within at))) ∙ none n w low high

pub holds_there : (test : Wait → Bool) (ws : List Wait) (n : ℕ) (w : Wait) → HoldsAt (λ v. test v ≡ true) ws n → slice_get ws n ≡ Some w → test w ≡ true
holds_there test ws n w holds at = ap test (sym (get_or_from_slice_get ws n w w at)) ∙ holds w

module _ (test : Wait → Bool) (ws : List Wait) (sorted first late : ℕ) (rise : BothRise sorted ws)
    (before : (n : ℕ) (w : Wait) → slice_get ws n ≡ Some w → n < first → n < sorted → test w ≡ false) (there : first < sorted → (v : Wait) → slice_get ws first ≡ Some v → test v ≡ true)
    (late_before : (n : ℕ) (w : Wait) → slice_get ws n ≡ Some w → sorted ≤ n → n < late → test w ≡ false) (late_there : late < length ws → (v : Wait) → slice_get ws late ≡ Some v → test v ≡ true) (past : sorted ≤ late) where
  uncovered : (m : ℕ) (z : Wait) → slice_get ws m ≡ Some z → test z ≡ true → IsCovered sorted first late m → ⊥
  uncovered m z to is (inl (a, b)) = absurd (let f : true ≡ false = sym is ∙ before m z to a b in cc)
  uncovered m z to is (inr (a, b)) = absurd (let f : true ≡ false = sym is ∙ late_before m z to a b in cc)

  pub least_none : (sorted ≤ first) × (length ws ≤ late) → IsLeast test ws None
  least_none ended m z to = go (test z) refl
    where
      covered : IsCovered sorted first late m
      covered = elim (cases_lt m sorted) [
        | inl within ↦ inl (omega (arith, within, ended.0), within)
        | inr beyond ↦ inr (beyond, let b = slice_get_within ws m z to in omega (arith, b, ended.1))
      ]

      go : (b : Bool) → test z ≡ b → b ≡ false
      go false is = refl
      go true is = absurd (uncovered m z to is covered)

  pub least_some : (n : ℕ) (w : Wait) → slice_get ws n ≡ Some w → ((n ≡ first) × (n < sorted)) ⊎ (n ≡ late) → IsLesser sorted first late ws n → IsLeast test ws (Some n)
  least_some n w at which lesser = (w, at, passes which, λ m z to is less. by_place m z to is less (covered_or sorted first late m))
    where
      passes : ((n ≡ first) × (n < sorted)) ⊎ (n ≡ late) → test w ≡ true
      passes (inl (e, within)) = there (omega (arith, e, within)) w (ap (slice_get ws) (sym e) ∙ at)
      passes (inr e) = late_there (omega (arith, e, slice_get_within ws n w at)) w (ap (slice_get ws) (sym e) ∙ at)

      by_place : (m : ℕ) (z : Wait) → slice_get ws m ≡ Some z → test z ≡ true → prefix_order z.prefix w.prefix ≡ Less → IsCovered sorted first late m ⊎ IsBeyond sorted first late m → ⊥
      by_place m z to is less (inl covered) = uncovered m z to is covered
      by_place m z to is less (inr beyond) = least_beyond sorted first late ws rise n w at lesser past m z to beyond less

pub of_first : (n first late sorted : ℕ) → ((n ≡ first) × (n < sorted)) ⊎ (n ≡ late) → n < sorted → sorted ≤ late → n ≡ first
of_first n first late sorted (inl (e, within)) below past = e
of_first n first late sorted (inr e) below past = absurd (omega (arith, e, below, past))

pub of_late : (n first late sorted : ℕ) → ((n ≡ first) × (n < sorted)) ⊎ (n ≡ late) → sorted ≤ n → n ≡ late
of_late n first late sorted (inl (e, within)) beyond = absurd (omega (arith, within, beyond))
of_late n first late sorted (inr e) beyond = e

pub at_index : (ws : List Wait) (n : ℕ) → n < length ws → (w : Wait) × (slice_get ws n ≡ Some w)
at_index [] n below = absurd (omega (arith, below))
at_index (w ∷ ws) zero below = (w, refl)
at_index (w ∷ ws) (suc n) below = at_index ws n (omega (arith, below))

pub read_holds : (P : Wait → Type 0) (ws : List Wait) (n : ℕ) (w : Wait) → slice_get ws n ≡ Some w → HoldsAt P ws n → P w
read_holds P ws n w at holds = subst P (get_or_from_slice_get ws n w w at) (holds w)

pub there_holds : (P : Wait → Type 0) (ws : List Wait) (n : ℕ) (w : Wait) → slice_get ws n ≡ Some w → P w → HoldsAt P ws n
there_holds P ws n w at p = λ d. subst P (sym (get_or_from_slice_get ws n w d at)) p

pub least_both : (test : Wait → Bool) (ws zs ys : List Wait) (sorted gone first late size : ℕ) → zs ≡ ws → ys ≡ ws → size ≡ length ws → sorted ≤ length ws → BothRise sorted ws → AllWithin (λ w. test w ≡ false) (take sorted ws) 0 gone
    → AllWithin (λ w. test w ≡ false) (take sorted zs) gone first → (first < length (take sorted zs) → HoldsAt (λ w. test w ≡ true) (take sorted zs) first) → (sorted ≤ length ys → sorted ≤ late) → AllWithin (λ w. test w ≡ false) ys sorted late → (late < length ys → HoldsAt (λ w. test w ≡ true) ys late)
    → (o : Option ℕ) → IfSome o (λ n. n < size) → IfSome o (λ n. ((n ≡ first) × (n < sorted)) ⊎ (n ≡ late)) → IfSome o (λ n. IsLesser sorted first late ws n) → (o ≡ None → (sorted ≤ first) × (size ≤ late)) → IsLeast test ws o
least_both test ws zs ys sorted gone first late size same_zs same_ys whole small rise none before there past late_before late_there o = go o
  where
    before_is : AllWithin (λ w. test w ≡ false) (take sorted ws) gone first
    before_is = subst (λ xs. AllWithin (λ w. test w ≡ false) (take sorted xs) gone first) same_zs before

    first_none : (n : ℕ) (w : Wait) → slice_get ws n ≡ Some w → n < first → n < sorted → test w ≡ false
    first_none n w at below within = elim (cases_lt n gone) [
      | inl early ↦ not_before test sorted 0 gone ws none n w at (omega arith) early within
      | inr from ↦ not_before test sorted gone first ws before_is n w at from below within
    ]

    first_there : first < sorted → (v : Wait) → slice_get ws first ≡ Some v → test v ≡ true
    first_there within v at =
        holds_there test (take sorted ws) first v
        (subst (λ xs. first < length (take sorted xs) → HoldsAt (λ w. test w ≡ true) (take sorted xs) first) same_zs there (within_take sorted first ws within (slice_get_within ws first v at)))
        (first_get sorted first ws v within at)

    late_none : (n : ℕ) (w : Wait) → slice_get ws n ≡ Some w → sorted ≤ n → n < late → test w ≡ false
    late_none n w at low high = ap test (sym (get_or_from_slice_get ws n w w at)) ∙ subst (λ xs. AllWithin (λ w. test w ≡ false) xs sorted late) same_ys late_before n w low high

    late_is : late < length ws → (v : Wait) → slice_get ws late ≡ Some v → test v ≡ true
    late_is below v at = holds_there test ws late v (subst (λ xs. late < length xs → HoldsAt (λ w. test w ≡ true) xs late) same_ys late_there below) at

    past_is : sorted ≤ late
    past_is = past (omega (arith, small, ap length same_ys))

    go : (o : Option ℕ) → IfSome o (λ n. n < size) → IfSome o (λ n. ((n ≡ first) × (n < sorted)) ⊎ (n ≡ late)) → IfSome o (λ n. IsLesser sorted first late ws n) → (o ≡ None → (sorted ≤ first) × (size ≤ late)) → IsLeast test ws o
    go None within which lesser ended = let e = ended refl in least_none test ws sorted first late rise first_none first_there late_none late_is past_is (e.0, omega (arith, e.1, whole))
    go (Some n) within which lesser ended =
        let v = at_index ws n (omega (arith, within, whole)) in
        least_some test ws sorted first late rise first_none first_there late_none late_is past_is n v.0 v.1 which lesser

-- ---- collected

pub record AreCollected (test : Wait → Bool) (ws : List Wait) (sorted room first late : ℕ) (ps : List Prefix) : Type 0 where
  pub within : length ps ≤ room
  pub up : IsStrictlySortedBy prefix_order ps
  pub just : (p : Prefix) → is_in p ps ≡ true → (n : ℕ) × (w : Wait) × (slice_get ws n ≡ Some w) × (test w ≡ true) × (w.prefix ≡ p)
  pub all : (n : ℕ) (w : Wait) → slice_get ws n ≡ Some w → test w ≡ true → IsCovered sorted first late n → is_in w.prefix ps ≡ true
  pub above : (n : ℕ) (w : Wait) (p : Prefix) → slice_get ws n ≡ Some w → test w ≡ true → IsBeyond sorted first late n → is_in p ps ≡ true → prefix_order p w.prefix ≡ Less

none_up : (ps : List Prefix) → ps ≡ [] → IsStrictlySortedBy prefix_order ps
unfolding IsStrictlySortedBy
none_up [] h = tt
none_up (p ∷ ps) h = absurd (cc)

from_in : (P : Prefix → Type 0) (ps : List Prefix) → ((p : Prefix) → is_in p ps ≡ true → P p) → AllByRecursion P ps
from_in P [] h = tt
from_in P (p ∷ ps) h = (h p (in_here p p ps (same_itself p)), from_in P ps (λ q q_in. h q (in_behind q p ps q_in)))

push_all : (P : Prefix → Type 0) (ps : List Prefix) (x : Prefix) → AllByRecursion P ps → P x → AllByRecursion P (ps ++ x ∷ [])
push_all P [] x h k = (k, tt)
push_all P (p ∷ ps) x h k = (h.0, push_all P ps x h.1 k)

up_push : (ps : List Prefix) (x : Prefix) → IsStrictlySortedBy prefix_order ps → ((p : Prefix) → is_in p ps ≡ true → prefix_order p x ≡ Less) → IsStrictlySortedBy prefix_order (ps ++ x ∷ [])
unfolding IsStrictlySortedBy
up_push [] x up below = (tt, tt)
up_push (p ∷ ps) x up below = (push_all (λ q. prefix_order p q ≡ Less) ps x up.0 (below p (in_here p p ps (same_itself p))), up_push ps x up.1 (λ q q_in. below q (in_behind q p ps q_in)))

in_push : (q x : Prefix) (ps : List Prefix) → is_in q (ps ++ x ∷ []) ≡ true → (is_in q ps ≡ true) ⊎ (same q x ≡ true)
in_push q x [] h = elim (in_cases q x [] h) [ inl is ↦ inr is | inr none ↦ absurd (let f : false ≡ true = none in cc) ]
in_push q x (p ∷ ps) h = elim (in_cases q p (ps ++ x ∷ []) h) [
  | inl is ↦ inl (in_here q p ps is)
  | inr rest ↦ elim (in_push q x ps rest) [ inl there ↦ inl (in_behind q p ps there) | inr is ↦ inr is ]
]

push_old : (q x : Prefix) (ps : List Prefix) → is_in q ps ≡ true → is_in q (ps ++ x ∷ []) ≡ true
push_old q x [] h = absurd (let f : false ≡ true = h in cc)
push_old q x (p ∷ ps) h = elim (in_cases q p ps h) [
  | inl is ↦ in_here q p (ps ++ x ∷ []) is
  | inr rest ↦ in_behind q p (ps ++ x ∷ []) (push_old q x ps rest)
]

push_new : (q x : Prefix) (ps : List Prefix) → same q x ≡ true → is_in q (ps ++ x ∷ []) ≡ true
push_new q x [] is = in_here q x [] is
push_new q x (p ∷ ps) is = in_behind q p (ps ++ x ∷ []) (push_new q x ps is)

module _ (test : Wait → Bool) (opens : (w : Wait) → test w ≡ true → w.open ≡ true) (ws : List Wait) (sorted room : ℕ) (apart : AreApart ws) where
  pub collected_none : (first : ℕ) (ps : List Prefix) → ps ≡ [] → ((n : ℕ) (w : Wait) → slice_get ws n ≡ Some w → n < first → n < sorted → test w ≡ false) → AreCollected test ws sorted room first sorted ps
  collected_none first ps none before = record {
    within = omega (arith, ap length none);
    up = none_up ps none;
    just = λ p p_in. absurd (let f : false ≡ true = sym (ap (is_in p) none) ∙ p_in in cc);
    all = λ n w at is covered. never n w at is covered;
    above = λ n w p at is beyond p_in. absurd (let f : false ≡ true = sym (ap (is_in p) none) ∙ p_in in cc);
  }
    where
      never : (n : ℕ) (w : Wait) → slice_get ws n ≡ Some w → test w ≡ true → IsCovered sorted first sorted n → is_in w.prefix ps ≡ true
      never n w at is (inl (a, b)) = absurd (let f : true ≡ false = sym is ∙ before n w at a b in cc)
      never n w at is (inr (a, b)) = absurd (omega (arith, a, b))

  -- one slot more, which stands beyond and has the least prefix there
  module _ (first late first' late' s : ℕ) (v : Wait) (ps : List Prefix) (at_s : slice_get ws s ≡ Some v) (here : IsBeyond sorted first late s)
      (least : (m : ℕ) (z : Wait) → slice_get ws m ≡ Some z → IsBeyond sorted first late m → prefix_order z.prefix v.prefix ≢ Less)
      (covers : (n : ℕ) (w : Wait) → slice_get ws n ≡ Some w → test w ≡ true → IsCovered sorted first' late' n → IsCovered sorted first late n ⊎ (n ≡ s))
      (leaves : (n : ℕ) → IsBeyond sorted first' late' n → IsBeyond sorted first late n × (n ≢ s))
      (are : AreCollected test ws sorted room first late ps) where
    passed : test v ≡ false → AreCollected test ws sorted room first' late' ps
    passed not = record {
      within = are.within;
      up = are.up;
      just = are.just;
      all = λ n w at is covered. elim (covers n w at is covered) [
        | inl old ↦ are.all n w at is old
        | inr e ↦ absurd (let f : true ≡ false = sym is ∙ ap test (same_Some w v (sym at ∙ ap (slice_get ws) e ∙ at_s)) ∙ not in cc)
      ];
      above = λ n w p at is beyond p_in. are.above n w p at is (leaves n beyond).0 p_in;
    }

    -- another one beyond comes behind it
    behind : test v ≡ true → (n : ℕ) (w : Wait) → slice_get ws n ≡ Some w → test w ≡ true → IsBeyond sorted first late n → n ≢ s → (o : Ordering) → prefix_order v.prefix w.prefix ≡ o → o ≡ Less
    behind is n w at also beyond ne Less h = refl
    behind is n w at also beyond ne Equal h = absurd (ne (unique ws n s w v apart at at_s (opens w also) (opens v is) (sym (exact_prefixes v.prefix w.prefix h))))
    behind is n w at also beyond ne Greater h = absurd (least n w at beyond (prefixes_total.antisymm w.prefix v.prefix ∙ ap ordering_reverse h))

    taken : test v ≡ true → length ps < room → AreCollected test ws sorted room first' late' (ps ++ v.prefix ∷ [])
    taken is more = record {
      within = omega (arith, length-append ps (v.prefix ∷ []), more);
      up = up_push ps v.prefix are.up (λ p p_in. are.above s v p at_s is here p_in);
      just = λ p p_in. elim (in_push p v.prefix ps p_in) [
        | inl old ↦ are.just p old
        | inr e ↦ (s, v, at_s, is, sym (same_is p v.prefix e))
      ];
      all = λ n w at also covered. elim (covers n w at also covered) [
        | inl old ↦ push_old w.prefix v.prefix ps (are.all n w at also old)
        | inr e ↦ push_new w.prefix v.prefix ps (ap (λ (x : Wait). same w.prefix x.prefix) (same_Some v w (sym at_s ∙ ap (slice_get ws) (sym e) ∙ at)) ∙ same_itself w.prefix)
      ];
      above = λ n w p at also beyond p_in. elim (in_push p v.prefix ps p_in) [
        | inl old ↦ are.above n w p at also (leaves n beyond).0 old
        | inr e ↦ ap (λ q. prefix_order q w.prefix) (same_is p v.prefix e) ∙ behind is n w at also (leaves n beyond).0 (leaves n beyond).1 (prefix_order v.prefix w.prefix) refl
      ];
    }

    pub collected_more : (new : List Prefix) → length ps < room → new ≡ ps ++ passing test (v ∷ []) → AreCollected test ws sorted room first' late' new
    collected_more new more added = go (test v) refl
      where
        go : (b : Bool) → test v ≡ b → AreCollected test ws sorted room first' late' new
        go true is = subst (AreCollected test ws sorted room first' late') (sym (added ∙ ap (λ qs. ps ++ qs) (passing_one test v is))) (taken is more)
        go false not = subst (AreCollected test ws sorted room first' late') (sym (added ∙ ap (λ qs. ps ++ qs) (passing_none test v not) ∙ append-nil ps)) (passed not)

  -- one slot more of the first part, and those up to the next one to be looked at
  pub collected_first : (first late next s : ℕ) (v : Wait) (ps new : List Prefix) → BothRise sorted ws → slice_get ws s ≡ Some v → s ≡ first → s < sorted → sorted ≤ late → s < next → ((n : ℕ) (w : Wait) → slice_get ws n ≡ Some w → s < n → n < next → test w ≡ false)
      → IsLesser sorted first late ws s → length ps < room → new ≡ ps ++ passing test (v ∷ []) → AreCollected test ws sorted room first late ps → AreCollected test ws sorted room next late new
  collected_first first late next s v ps new rise at here within past later between lesser more added are =
      collected_more first late next late s v ps at (inl (omega (arith, here), within)) (least_beyond sorted first late ws rise s v at lesser past) covers leaves are new more added
    where
      covers : (n : ℕ) (w : Wait) → slice_get ws n ≡ Some w → test w ≡ true → IsCovered sorted next late n → IsCovered sorted first late n ⊎ (n ≡ s)
      covers n w at is (inr c) = inl (inr c)
      covers n w at is (inl (a, b)) = elim (cases_lt n first) [
        | inl old ↦ inl (inl (old, b))
        | inr from ↦ elim (cases_eq n s) [
          | inl e ↦ inr e
          | inr ne ↦ absurd (let apart : n ≢ s = ne in let f : true ≡ false = sym is ∙ between n w at (omega (arith, from, here, apart)) a in cc)
        ]
      ]

      leaves : (n : ℕ) → IsBeyond sorted next late n → IsBeyond sorted first late n × (n ≢ s)
      leaves n (inl (a, b)) = (inl (omega (arith, a, later, here), b), λ e. omega (arith, e, a, later))
      leaves n (inr (a, b)) = (inr (a, b), λ e. omega (arith, e, a, within))

  -- one slot more of the late part
  pub collected_late : (first late next s : ℕ) (v : Wait) (ps new : List Prefix) → BothRise sorted ws → slice_get ws s ≡ Some v → s ≡ late → sorted ≤ late → next ≡ s + 1
      → IsLesser sorted first late ws s → length ps < room → new ≡ ps ++ passing test (v ∷ []) → AreCollected test ws sorted room first late ps → AreCollected test ws sorted room first next new
  collected_late first late next s v ps new rise at here past after lesser more added are =
      collected_more first late first next s v ps at (inr (omega (arith, here, past), omega (arith, here))) (least_beyond sorted first late ws rise s v at lesser past) covers leaves are new more added
    where
      covers : (n : ℕ) (w : Wait) → slice_get ws n ≡ Some w → test w ≡ true → IsCovered sorted first next n → IsCovered sorted first late n ⊎ (n ≡ s)
      covers n w at is (inl c) = inl (inl c)
      covers n w at is (inr (a, b)) = elim (cases_lt n late) [
        | inl old ↦ inl (inr (a, old))
        | inr from ↦ inr (omega (arith, from, b, after, here))
      ]

      leaves : (n : ℕ) → IsBeyond sorted first next n → IsBeyond sorted first late n × (n ≢ s)
      leaves n (inl (a, b)) = (inl (a, b), λ e. omega (arith, e, b, here, past))
      leaves n (inr (a, b)) = (inr (a, omega (arith, b, after, here)), λ e. omega (arith, e, b, after))

  -- once there is room for no more, or both parts are looked through
  pub collected_all : (first late : ℕ) (ps : List Prefix) → (room ≤ length ps) ⊎ ((sorted ≤ first) × (length ws ≤ late)) → AreCollected test ws sorted room first late ps → ps ≡ take room (passing test (rising ws))
  collected_all first late ps done are =
      front_of room ps (passing test (rising ws)) are.up (passing_up test (rising ws) (rising_up ws)) are.within
      (λ p p_in. let j = are.just p p_in in ap (λ q. is_in q (passing test (rising ws))) (sym j.4) ∙ in_order_in test opens ws apart j.0 j.1 j.2 j.3)
      (λ q q_in. let j = in_order_from test opens ws apart q q_in in rest q j.0 j.1 j.2 j.3 j.4 done (covered_or sorted first late j.0))
    where
      rest : (q : Prefix) (n : ℕ) (w : Wait) → slice_get ws n ≡ Some w → test w ≡ true → w.prefix ≡ q → (room ≤ length ps) ⊎ ((sorted ≤ first) × (length ws ≤ late)) → IsCovered sorted first late n ⊎ IsBeyond sorted first late n
          → (is_in q ps ≡ true) ⊎ ((room ≤ length ps) × ((p : Prefix) → is_in p ps ≡ true → prefix_order p q ≡ Less))
      rest q n w at is e done (inl covered) = inl (ap (λ r. is_in r ps) (sym e) ∙ are.all n w at is covered)
      rest q n w at is e (inl full) (inr beyond) = inr (full, λ p p_in. ap (prefix_order p) (sym e) ∙ are.above n w p at is beyond p_in)
      rest q n w at is e (inr ended) (inr (inl (a, b))) = absurd (omega (arith, a, b, ended.0))
      rest q n w at is e (inr ended) (inr (inr (a, b))) = absurd (let c = slice_get_within ws n w at in omega (arith, b, c, ended.1))
