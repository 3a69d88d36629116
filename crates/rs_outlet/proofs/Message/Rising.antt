-- The prefixes of a message rise, and the first of them is the least that waits for the like.
use Rattle.std.proofs.Common.{◌≡◌, ◌≢◌, ◌<◌, ℕ, zero, suc, Bool, true, false, not, ◌&&◌, Option, None, Some, List, [], ◌∷◌, length, take, get_or, refl, sym, ap, ◌∙◌, subst, arith, inl, inr}
use Rattle.std.specs.Prelude.{is_none, option_map, slice_get}
use Rattle.std.specs.List.{AllByRecursion}
use Rattle.std.specs.List.Sorted.{IsStrictlySortedBy}
use Rattle.std.specs.Ordering.{ordering_reverse}
use Rattle.std.specs.declared.cmp.Ordering.{Ordering}
use Rattle.std.specs.declared.cmp.Ordering.TheVariants.{Less, Equal, Greater}
use Rattle.std.proofs.lemmas.Bool.{and_parts}
use Rattle.std.proofs.lemmas.List.{get_or_default}
use Rattle.std.proofs.lemmas.Option.{same_Some, slice_get_read}
use Rattle.rs_octets.specs.Prefixes.{Prefix, prefix_order}
use Rattle.rs_attrs.specs.Meaning.{Attribute}
use Rattle.rs_attrs.specs.ComparisonLaws.{attributes_decides}
use Rattle.rs_adjin.proofs.Listed.{prefixes_total, exact_prefixes}
use Rattle.rs_rows.specs.Rows.{Row}
use Rattle.rs_outlet.specs.declared.waiting.Due.{Due}
use Rattle.rs_outlet.specs.declared.waiting.Due.TheVariants as due
use Rattle.rs_outlet.specs.declared.waiting.Wait.{Wait}
use Rattle.rs_outlet.specs.Inside.{row_by, shown}
use Rattle.rs_outlet.specs.Message.Next.{has_attributes}
use Rattle.rs_outlet.specs.Pending.Choosing.{AnyPasses, IsFirst, IsLeast, IsLeastOf, NoneBefore, NoneWithdrawn, WaitsFor, is_said, passing, shares}
use Rattle.rs_outlet.specs.Pending.Slots.{AreApart, is_announced, is_withdrawal, is_withdrawn, open_at, rising}
use Rattle.rs_outlet.proofs.Decided.LocByNumber.{same, same_is, same_itself}
use Rattle.rs_outlet.proofs.Pending.Apart.{stands_somewhere}
use Rattle.rs_outlet.proofs.Pending.InOrder.{above_head, in_cases, in_here, in_order_from, in_order_in, is_in, never_less, not_both, passing_up, rising_up}

-- ---- the front of prefixes that rise

take_above : (x : Prefix) (k : ℕ) (ps : List Prefix) → AllByRecursion (λ p. prefix_order x p ≡ Less) ps → AllByRecursion (λ p. prefix_order x p ≡ Less) (take k ps)
take_above x zero ps above = tt
take_above x (suc k) [] above = tt
take_above x (suc k) (p ∷ ps) above = (above.0, take_above x k ps above.1)

pub up_take : (k : ℕ) (ps : List Prefix) → IsStrictlySortedBy prefix_order ps → IsStrictlySortedBy prefix_order (take k ps)
unfolding IsStrictlySortedBy
up_take zero ps up = tt
up_take (suc k) [] up = tt
up_take (suc k) (p ∷ ps) up = (take_above p k ps up.0, up_take k ps up.1)

head_take : (k : ℕ) (ps : List Prefix) (p : Prefix) → slice_get (take k ps) 0 ≡ Some p → slice_get ps 0 ≡ Some p
head_take zero ps p h = absurd (cc)
head_take (suc k) [] p h = absurd (cc)
head_take (suc k) (q ∷ ps) p h = h

head_in : (ps : List Prefix) (p : Prefix) → slice_get ps 0 ≡ Some p → is_in p ps ≡ true
head_in [] p h = absurd (cc)
head_in (q ∷ ps) p h = in_here p q ps (ap (same p) (same_Some q p h) ∙ same_itself p)

-- none of them comes before the first
head_least : (k : ℕ) (ps : List Prefix) (p q : Prefix) → IsStrictlySortedBy prefix_order ps → slice_get (take k ps) 0 ≡ Some p → is_in q ps ≡ true → prefix_order q p ≢ Less
head_least zero ps p q up head there less = absurd (let f = head in cc)
head_least (suc k) [] p q up head there less = absurd (let f : false ≡ true = there in cc)
head_least (suc k) (x ∷ ps) p q up head there less = elim (in_cases q x ps there) [
  | inl is ↦ never_less p (ap (λ r. prefix_order r p) (sym (same_is q x is ∙ same_Some x p head)) ∙ less)
  | inr later ↦ not_both p q (ap (λ r. prefix_order r q) (sym (same_Some x p head)) ∙ above_head x q ps up later) less
]

some_taken : (k : ℕ) (ps : List Prefix) (q : Prefix) → 0 < k → is_in q ps ≡ true → 0 < length (take k ps)
some_taken zero ps q more there = absurd (omega (arith, more))
some_taken (suc k) [] q more there = absurd (let f : false ≡ true = there in cc)
some_taken (suc k) (p ∷ ps) q more there = omega arith

neither_less : (p q : Prefix) → prefix_order p q ≢ Less → prefix_order q p ≢ Less → p ≡ q
neither_less p q a b = go (prefix_order p q) refl
  where
    go : (o : Ordering) → prefix_order p q ≡ o → p ≡ q
    go Less h = absurd (a h)
    go Equal h = exact_prefixes p q h
    go Greater h = absurd (b (prefixes_total.antisymm q p ∙ ap ordering_reverse h))

-- ---- slots found first

pub withdrawn_opens : (w : Wait) → is_withdrawn w ≡ true → w.open ≡ true
withdrawn_opens w is = (and_parts w.open (is_withdrawal w.due) is).0

pub shared_opens : (rows : List (Option Row)) (m : List Attribute) (w : Wait) → shares rows m w ≡ true → w.open ≡ true
shared_opens rows m w is = (and_parts w.open (has_attributes (shown (row_by rows w.due)) m) is).0

shared_announced : (rows : List (Option Row)) (m : List Attribute) (w : Wait) → shares rows m w ≡ true → is_announced w ≡ true
shared_announced rows m w is = go w.open w.due is
  where
    go : (b : Bool) (d : Due) → (b && has_attributes (shown (row_by rows d)) m) ≡ true → (b && not (is_withdrawal d)) ≡ true
    go false d h = absurd (let f : false ≡ true = h in cc)
    go true due.Withdrawn h = absurd (let f : false ≡ true = h in cc)
    go true (due.Announced number hash) h = refl

pub waits_shares : (rows : List (Option Row)) (m : List Attribute) (w : Wait) → WaitsFor rows m w → shares rows m w ≡ true
waits_shares rows m w is = (λ i. is.opened i && has_attributes (value (row_by rows w.due) is.said i) m) ∙ (attributes_decides m m).1 refl
  where
    value : (o : Option Row) → option_map (λ (r : Row). r.attributes) o ≡ Some m → shown o ≡ Some m
    value None h = absurd (let f : ◌≡◌ {A = Option (List Attribute)} None (Some m) = h in cc)
    value (Some r) h = h

pub any_passes : (test : Wait → Bool) (ws xs : List Wait) (n : ℕ) → ws ≡ xs → IsLeast test xs (Some n) → AnyPasses test ws
any_passes test ws xs n e is = (n, is.0, ap (λ vs. slice_get vs n) e ∙ is.1, is.2)

pub none_withdrawn : (ws : List Wait) → IsLeast is_withdrawn ws None → NoneWithdrawn ws
none_withdrawn ws none k d low high = none k (get_or ws k d) (slice_get_read ws (length ws) k (get_or ws k d) refl high (get_or_default ws k d (get_or ws k d) high))

module _ (ws : List Wait) (apart : AreApart ws) (room : ℕ) (front : List Prefix) where
  -- a withdrawal begins with the least prefix that is to be withdrawn
  pub withdrawn_first : front ≡ take room (passing is_withdrawn (rising ws)) → IsFirst None ws front
  withdrawn_first all p head m z at is =
      head_least room (passing is_withdrawn (rising ws)) p z.prefix (passing_up is_withdrawn (rising ws) (rising_up ws)) (ap (λ ps. slice_get ps 0) (sym all) ∙ head) (in_order_in is_withdrawn withdrawn_opens ws apart m z at is)

  pub some_withdrawn : 0 < room → AnyPasses is_withdrawn ws → front ≡ take room (passing is_withdrawn (rising ws)) → 0 < length front
  some_withdrawn more any all = subst (λ ps. 0 < length ps) (sym all) (some_taken room (passing is_withdrawn (rising ws)) any.1.prefix more (in_order_in is_withdrawn withdrawn_opens ws apart any.0 any.1 any.2 any.3))

  module _ (rows : List (Option Row)) (m : List Attribute) (least : IsLeastOf (WaitsFor rows m) is_announced ws) (all : front ≡ take room (passing (shares rows m) (rising ws))) where
    least_in : is_in least.1.prefix (passing (shares rows m) (rising ws)) ≡ true
    least_in = in_order_in (shares rows m) (shared_opens rows m) ws apart least.0 least.1 least.2 (waits_shares rows m least.1 least.3)

    pub some_announced : 0 < room → 0 < length front
    some_announced more = subst (λ ps. 0 < length ps) (sym all) (some_taken room (passing (shares rows m) (rising ws)) least.1.prefix more least_in)

    -- an announcement begins with the least prefix that is to be announced
    pub announced_first : IsFirst (Some m) ws front
    announced_first p head = subst (NoneBefore is_announced ws) is least.5
      where
        taken : slice_get (take room (passing (shares rows m) (rising ws))) 0 ≡ Some p
        taken = ap (λ ps. slice_get ps 0) (sym all) ∙ head

        not_before_it : prefix_order least.1.prefix p ≢ Less
        not_before_it = head_least room (passing (shares rows m) (rising ws)) p least.1.prefix (passing_up (shares rows m) (rising ws) (rising_up ws)) taken least_in

        it_not_before : prefix_order p least.1.prefix ≢ Less
        it_not_before less =
            let z = in_order_from (shares rows m) (shared_opens rows m) ws apart p (head_in (passing (shares rows m) (rising ws)) p (head_take room (passing (shares rows m) (rising ws)) p taken)) in
            least.5 z.0 z.1 z.2 (shared_announced rows m z.1 z.3) (ap (λ q. prefix_order q least.1.prefix) z.4 ∙ less)

        is : least.1.prefix ≡ p
        is = neither_less least.1.prefix p not_before_it it_not_before

-- ---- as callers see it

seen_so : (q : Prefix) (ws : List Wait) (o : Option Wait) (b : Bool) → open_at q ws ≡ o → option_map (λ w. is_withdrawal w.due) o ≡ Some b → (w : Wait) × (open_at q ws ≡ Some w) × (is_withdrawal w.due ≡ b)
seen_so q ws None b at h = absurd (cc)
seen_so q ws (Some w) b at h = (w, at, same_Some (is_withdrawal w.due) b h)

kind_of : (said : Option (List Attribute)) (w : Wait) → w.open ≡ true → is_withdrawal w.due ≡ is_none said → is_said said w ≡ true
kind_of None w opened is = (λ i. opened i && is i)
kind_of (Some m) w opened is = (λ i. opened i && not (is i))

-- no prefix that waits for the like comes before the first of the message
pub least_chosen : (ws : List Wait) (said : Option (List Attribute)) (k : ℕ) (ps : List Prefix) → IsFirst said ws ps
    → (p q : Prefix) → slice_get (take k ps) 0 ≡ Some p → option_map (λ (w : Wait). is_withdrawal w.due) (open_at q ws) ≡ Some (is_none said) → prefix_order q p ≢ Less
least_chosen ws said k ps first p q head waits less =
    let w = seen_so q ws (open_at q ws) (is_none said) refl waits in
    let there = stands_somewhere q ws w.0 w.1 in
    first p (head_take k ps p head) there.0 w.0 there.1 (kind_of said w.0 there.2 w.2) (ap (λ r. prefix_order r p) there.3 ∙ less)
