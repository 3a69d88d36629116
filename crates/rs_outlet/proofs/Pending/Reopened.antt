-- A client asked for everything again: slots that waited no more wait again where they stand, and those that wait are marked.
use Rattle.std.proofs.Common.{◌≡◌, ◌<◌, ◌≤◌, ◌+◌, ◌-◌, ℕ, zero, suc, Bool, true, false, cond, ◌&&◌, Option, None, Some, IsSome, List, [], ◌∷◌, length, map, take, drop, inl, inr, refl, sym, ap, ◌∙◌, subst, arith}
use Rattle.std.specs.Prelude.{count_by, option_map, slice_get}
use Rattle.std.specs.FinMap as fin
use Rattle.std.proofs.lemmas.Map.Keys.{IsDistinct-from_sorted}
use Rattle.std.proofs.lemmas.Bool.{cases_eq}
use Rattle.std.proofs.lemmas.List.Sums.{sum_by-cons, sum_by-set}
use Rattle.std.proofs.lemmas.Option.{get_or_from_slice_get, same_Some, slice_get_within}
use Rattle.std.proofs.Math.Bool.{and-false}
use Rattle.rs_octets.specs.Prefixes.{Prefix, prefix_order}
use Rattle.rs_attrs.specs.Meaning.{Attribute}
use Rattle.rs_rows.specs.Rows.{Row}
use Rattle.rs_outlet.specs.declared.waiting.Wait.{Wait}
use Rattle.rs_outlet.specs.Inside.{AreBacked, IsBacked, loc_of, prefix_and_hash, row_at}
use Rattle.rs_outlet.specs.Pending.Slots.{AreApart, is_withdrawal, is_withdrawn, open_at, open_count, prefixes_at, waits_there, withdrawn_count}
use Rattle.rs_outlet.specs.Pending.Parts.{AreParts}
use Rattle.rs_outlet.specs.Pending.Marking.{AreReopened, IsReopened, MayBeReopened, MayReopen, MayWaitAgain, WaitsAgain, is_told, remarked}
use Rattle.rs_outlet.proofs.Decided.LocByNumber.{same, same_is, same_itself}
use Rattle.rs_outlet.proofs.Pending.Apart.{count_at, count_one, none_counted, opened_apart_at, some_counted}
use Rattle.rs_outlet.proofs.Pending.MarkedAgain.{open_remarked, prefixes_remarked, row_due}
use Rattle.rs_outlet.proofs.Pending.MarkedAll.{at_last, due_row}
use Rattle.rs_outlet.proofs.Pending.Slots.{same_prefixes, shut_here}
use Rattle.rs_outlet.proofs.Pending.TwoParts.{first_part, slot_nowhere}
use Rattle.rs_outlet.proofs.Pending.Withdrawals.{one_at_most, one_if}

-- ---- slots that wait again

again_there : (due : Option (List Attribute)) (o : Option Wait) (z : Wait) → MayReopen due o None → WaitsAgain due None z → MayReopen due o (Some z)
again_there due None z h again = again
again_there due (Some w) z h again = absurd (cc)

again_itself : (due : Option (List Attribute)) (o : Option Wait) → MayReopen due o o
again_itself due None = tt
again_itself due (Some w) = refl

pub none_reopened : (rows : List (Option Row)) (old : List Wait) → AreApart old → AreReopened rows old old
none_reopened rows old apart = record {
  prefixes = refl;
  apart = apart;
  again = λ q. again_itself (fin.get (loc_of rows) q) (open_at q old);
  withdrawn = omega arith;
  backed = λ backed. backed;
}

module _ (rows : List (Option Row)) (n : ℕ) (old now new : List Wait) (are : AreReopened rows old now) (is : IsReopened rows n now new) where
  same_prefix : is.wait.prefix ≡ is.was.prefix
  same_prefix = is.again.is.prefix ∙ is.again.prefix

  nothing : open_at is.wait.prefix now ≡ None
  nothing = ap (λ p. open_at p now) same_prefix ∙ is.alone

  waits : WaitsAgain (fin.get (loc_of rows) is.wait.prefix) None is.wait
  waits = (
    subst (λ p. IsSome (fin.get (loc_of rows) p)) (sym is.again.is.prefix) (row_due rows is.again.number is.again.row is.again.at),
    ap is_withdrawal is.again.is.due,
    is.again.is.told,
    is.again.is.marked,
  )

  one : (q : Prefix) → open_at q new ≡ cond (same q is.wait.prefix) (Some is.wait) (open_at q now)
  one q = ap (open_at q) is.reopened ∙ opened_apart_at now n is.was is.wait is.at is.again.shut is.again.is.opened nothing q

  below : n < length now
  below = slice_get_within now n is.was is.at

  apart_still : (p : Prefix) (b : Bool) → same p is.wait.prefix ≡ b → count_at p new ≤ 1
  apart_still p true t =
      omega (arith, ap (count_at p) is.reopened, sum_by-set (λ v. one_if (waits_there p v)) now n is.wait is.was below, one_at_most (waits_there p is.wait), ap (λ q. count_at q now) (same_is p is.wait.prefix t), none_counted is.wait.prefix now nothing)
  apart_still p false f =
      omega (arith, ap (count_at p) is.reopened, sum_by-set (λ v. one_if (waits_there p v)) now n is.wait is.was below, are.apart p, count_one p is.wait false (ap (λ b. is.wait.open && b) f ∙ and-false is.wait.open))

  none_withdrawn : one_if (is_withdrawn is.wait) ≡ 0
  none_withdrawn = ap one_if (ap (λ d. is.wait.open && is_withdrawal d) is.again.is.due ∙ and-false is.wait.open)

  again_at : (q : Prefix) (b : Bool) → same q is.wait.prefix ≡ b → MayReopen (fin.get (loc_of rows) q) (open_at q old) (cond b (Some is.wait) (open_at q now))
  again_at q true t =
      let e = same_is q is.wait.prefix t in
      again_there (fin.get (loc_of rows) q) (open_at q old) is.wait
      (subst (MayReopen (fin.get (loc_of rows) q) (open_at q old)) (ap (λ p. open_at p now) e ∙ nothing) (are.again q))
      (subst (λ p. WaitsAgain (fin.get (loc_of rows) p) None is.wait) (sym e) waits)
  again_at q false f = are.again q

  backed_there : IsBacked rows is.wait.prefix is.wait.due
  backed_there =
      subst (λ p. IsBacked rows p is.wait.due) (sym is.again.is.prefix)
      (subst (IsBacked rows is.again.row.prefix) (sym is.again.is.due) (ap (option_map prefix_and_hash) is.again.at))

  backed_still : AreBacked rows now → (q : Prefix) (z : Wait) (b : Bool) → cond b (Some is.wait) (open_at q now) ≡ Some z → IsBacked rows z.prefix z.due
  backed_still backed q z true e = subst (λ (v : Wait). IsBacked rows v.prefix v.due) (same_Some is.wait z e) backed_there
  backed_still backed q z false e = backed q z e

  reopened_more : AreReopened rows old new
  reopened_more = record {
    prefixes = ap prefixes_at is.reopened ∙ same_prefixes now n is.wait is.was (same_prefix ∙ ap (λ (v : Wait). v.prefix) (sym (get_or_from_slice_get now n is.was is.was is.at))) ∙ are.prefixes;
    apart = λ p. apart_still p (same p is.wait.prefix) refl;
    again = λ q. subst (MayReopen (fin.get (loc_of rows) q) (open_at q old)) (sym (one q)) (again_at q (same q is.wait.prefix) refl);
    withdrawn = omega (arith, are.withdrawn, ap withdrawn_count is.reopened, sum_by-set (λ v. one_if (is_withdrawn v)) now n is.wait is.was below, none_withdrawn);
    backed = λ backed q z e. backed_still (are.backed backed) q z (same q is.wait.prefix) (sym (one q) ∙ e);
  }

pub one_reopened : (rows : List (Option Row)) (n : ℕ) (old now new : List Wait) → AreReopened rows old now → MayBeReopened rows n now new → AreReopened rows old new
one_reopened rows n old now new are (inl stays) = subst (AreReopened rows old) (sym stays) are
one_reopened rows n old now new are (inr is) = reopened_more rows n old now new are is

-- what waits once some slots wait again, and then all are marked
pub again_both : (due : Option (List Attribute)) (was now then : Option Wait) → MayReopen due was now → MayWaitAgain due now then → MayWaitAgain due was then
again_both due (Some w) now then is h = subst (λ o. MayWaitAgain due o then) is h
again_both due None None then is h = h
again_both due None (Some z) None is h = absurd (cc)
again_both due None (Some z) (Some y) is h = (is.0, ap is_withdrawal h.0 ∙ is.1, h.1 ∙ is.2, h.2 ∙ ap is_told is.2)

-- the prefix of a shut slot of the first part waits nowhere, where it doesn't wait in the late part
front_has : (n k : ℕ) (ws : List Wait) (w : Wait) → slice_get ws k ≡ Some w → k < n → slice_get (take n ws) k ≡ Some w
front_has zero k ws w at below = absurd (omega (arith, below))
front_has (suc n) zero [] w at below = absurd (cc)
front_has (suc n) (suc k) [] w at below = absurd (cc)
front_has (suc n) zero (x ∷ ws) w at below = at
front_has (suc n) (suc k) (x ∷ ws) w at below = front_has n k ws w at (omega (arith, below))

pub alone_there : (k : ℕ) (ws : List Wait) (n : ℕ) (was : Wait) → AreParts k (prefixes_at ws) → n < k → slice_get ws n ≡ Some was → was.open ≡ false → open_at was.prefix (take (length ws - k) (drop k ws)) ≡ None → open_at was.prefix ws ≡ None
alone_there k ws n was parts below at shut late =
    let there = front_has k n ws was at below in
    slot_nowhere was.prefix k ws
    (shut_here (take k ws) n was (slice_get_within (take k ws) n was there) (sym (get_or_from_slice_get (take k ws) n was was there)) shut (IsDistinct-from_sorted prefix_order (prefixes_at (take k ws)) (first_part k ws parts)))
    late

-- ---- slots that are marked

marked_itself : (due : Option (List Attribute)) (o : Option Wait) → MayWaitAgain due o (option_map remarked o)
marked_itself due None = refl
marked_itself due (Some w) = (refl, refl, refl)

pub marked_where : (due : Option (List Attribute)) (q : Prefix) (now new : List Wait) → new ≡ map remarked now → MayWaitAgain due (open_at q now) (open_at q new)
marked_where due q now new is = subst (MayWaitAgain due (open_at q now)) (sym (ap (open_at q) is ∙ open_remarked q now)) (marked_itself due (open_at q now))

some_remarked : (o : Option Wait) → IsSome o → IsSome (option_map remarked o)
some_remarked None h = absurd (cc)
some_remarked (Some w) h = refl

-- where each row's prefix waits, each prefix that is due waits
pub each_due : (rows : List (Option Row)) (now new : List Wait) → ((n : ℕ) (row : Row) → row_at rows n ≡ Some row → IsSome (open_at row.prefix now)) → new ≡ map remarked now → (q : Prefix) → IsSome (fin.get (loc_of rows) q) → IsSome (open_at q new)
each_due rows now new each is q due =
    let r = due_row rows q due in
    subst IsSome (sym (ap (open_at q) is ∙ open_remarked q now)) (some_remarked (open_at q now) (subst (λ p. IsSome (open_at p now)) r.prefix (each r.number r.row r.at)))

pub backed_marked : (rows : List (Option Row)) (now new : List Wait) → new ≡ map remarked now → AreBacked rows now → AreBacked rows new
backed_marked rows now new is backed q z at = go (open_at q now) refl (sym (ap (open_at q) is ∙ open_remarked q now) ∙ at)
  where
    go : (o : Option Wait) → open_at q now ≡ o → option_map remarked o ≡ Some z → IsBacked rows z.prefix z.due
    go None e h = absurd (cc)
    go (Some w) e h = subst (λ (v : Wait). IsBacked rows v.prefix v.due) (same_Some (remarked w) z h) (backed q w e)

-- marks count for nothing where slots are counted
count_marked : (f : Wait → Bool) → ((w : Wait) → f (remarked w) ≡ f w) → (ws : List Wait) → count_by f (map remarked ws) ≡ count_by f ws
count_marked f h [] = refl
count_marked f h (w ∷ ws) =
    sum_by-cons (λ v. one_if (f v)) (remarked w) (map remarked ws) ∙ (λ i. one_if (h w i) + count_marked f h ws i) ∙ sym (sum_by-cons (λ v. one_if (f v)) w ws)

pub withdrawn_marked : (now new : List Wait) → new ≡ map remarked now → withdrawn_count new ≡ withdrawn_count now
withdrawn_marked now new is = ap withdrawn_count is ∙ count_marked is_withdrawn (λ w. refl) now

pub open_marked : (now new : List Wait) → new ≡ map remarked now → open_count new ≡ open_count now
open_marked now new is = ap open_count is ∙ count_marked (λ (w : Wait). w.open) (λ w. refl) now

pub apart_marked : (now new : List Wait) → new ≡ map remarked now → AreApart now → AreApart new
apart_marked now new is apart p = omega (arith, ap (count_at p) is ∙ count_marked (waits_there p) (λ w. refl) now, apart p)

pub prefixes_marked : (now new : List Wait) → new ≡ map remarked now → prefixes_at new ≡ prefixes_at now
prefixes_marked now new is = ap prefixes_at is ∙ prefixes_remarked now

-- ---- whether each row's prefix waits

-- a slot that waits is found
pub waits_here : (q : Prefix) (ws : List Wait) (n : ℕ) (w : Wait) → slice_get ws n ≡ Some w → w.open ≡ true → w.prefix ≡ q → IsSome (open_at q ws)
waits_here q ws n w at opened is =
    let there : waits_there q w ≡ true = λ i. opened i && (ap (same q) is ∙ same_itself q) i in
    elim (open_at q ws) as (λ o. open_at q ws ≡ o → IsSome o) [
      | None ↦ λ none. absurd (omega (arith, some_counted q ws n w at there, none_counted q ws none))
      | Some v ↦ λ _. refl
    ] refl

pub one_more_waits : (rows : List (Option Row)) (ws : List Wait) (k : ℕ) → ((n : ℕ) (row : Row) → n < k → row_at rows n ≡ Some row → IsSome (open_at row.prefix ws)) → ((row : Row) → row_at rows k ≡ Some row → IsSome (open_at row.prefix ws))
    → (n : ℕ) (row : Row) → n < k + 1 → row_at rows n ≡ Some row → IsSome (open_at row.prefix ws)
one_more_waits rows ws k before here n row within at = elim (cases_eq n k) [
  | inl e ↦ here row (ap (row_at rows) (sym e) ∙ at)
  | inr ne ↦ before n row (at_last n k within ne) at
]
