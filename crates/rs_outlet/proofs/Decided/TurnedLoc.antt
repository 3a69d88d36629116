-- The Loc-RIB after a turn: at each touched prefix what is due, at each other what it had.
use Rattle.std.proofs.Common.{◌≡◌, ◌∙◌, ℕ, Bool, true, false, cond, ◌||◌, nat_eq, List, [], ◌∷◌, Option, None, Some, inl, inr, refl, sym, ap}
use Rattle.std.specs.Prelude.{option_map}
use mathlib.Core.Bool.{true≢false}
use Rattle.std.specs.List.{list_any}
use Rattle.std.specs.FinMap as fin
use Rattle.std.specs.Arc.{arc_value}
use Rattle.rs_octets.specs.Prefixes.{Prefix}
use Rattle.rs_attrs.specs.Meaning.{Attribute}
use Rattle.rs_adjin.specs.declared.adj_ins.AdjIns.{AdjIns}
use Rattle.rs_adjin.specs.AdjIns.{number_of}
use Rattle.rs_rows.specs.Rows.{Row}
use Rattle.rs_outlet.specs.declared.changes.Change.{Change}
use Rattle.rs_outlet.specs.Views.{HaveNumbers, IsOneOf, is_touched}
use Rattle.rs_outlet.specs.Inside.{AreDecided, AreFresh, ArePlaced, attributes_at, is_changed, loc_of, numbers_from, numbers_of}
use Rattle.rs_outlet.specs.Decided.Touching.{is_number_touched, prefixes_in, stale_of, touched_of}
use Rattle.rs_outlet.proofs.Decided.LocByNumber.{same, same_is, by_number, numbered}
use Rattle.rs_outlet.proofs.Decided.Touches.{contains-from_list, prefix_eq-cmp}
use Rattle.rs_outlet.proofs.Decided.TouchedList.{stale_within}
use Rattle.rs_outlet.proofs.Decided.TouchedNumbers.{any_number, eq_numbers}

-- ---- one change carried out

after_change : (b : Bool) (m : Option (List Attribute)) → cond b m m ≡ m
after_change true m = refl
after_change false m = refl

-- what is left to be carried out is as much less as was done
pub change_done : (due_at : Prefix → Option (List Attribute)) (x : Change) (rest : List Change) (q : Prefix) (new mid : Option (List Attribute)) (b : Bool) → same q x.prefix ≡ b
    → new ≡ cond b (option_map arc_value x.due) mid → option_map arc_value x.due ≡ due_at x.prefix
    → cond (is_changed rest q) (due_at q) new ≡ cond (b || is_changed rest q) (due_at q) mid
change_done due_at x rest q new mid true s is due =
    ap (cond (is_changed rest q) (due_at q)) (is ∙ due ∙ ap due_at (sym (same_is q x.prefix s))) ∙ after_change (is_changed rest q) (due_at q)
change_done due_at x rest q new mid false s is due = ap (cond (is_changed rest q) (due_at q)) is

-- ---- all of them

module _ (ins : AdjIns) where
  pub changed_numbered : (cs : List Change) (p : Prefix) (n : ℕ) → ArePlaced cs ins → number_of ins p ≡ Some n → is_changed cs p ≡ list_any (nat_eq n) (numbers_of cs)
  changed_numbered [] p n h at = refl
  changed_numbered (c ∷ cs) p n h at = λ i. (prefix_eq-cmp p c.prefix ∙ eq_numbers ins p c.prefix n c.number at h.0) i || changed_numbered cs p n h.1 at i

  changed_unnumbered : (cs : List Change) (p : Prefix) → ArePlaced cs ins → number_of ins p ≡ None → is_changed cs p ≡ false
  changed_unnumbered [] p h none = refl
  changed_unnumbered (c ∷ cs) p h none =
      elim (same p c.prefix) as (λ b. same p c.prefix ≡ b → (b || is_changed cs p) ≡ false) [
        | true ↦ λ t. absurd (let f : None ≡ Some c.number = sym none ∙ ap (number_of ins) (same_is p c.prefix t) ∙ h.0 in (cc))
        | false ↦ λ _. changed_unnumbered cs p h.1 none
      ] refl

  stale_numbered : (all : Bool) (es : List (ℕ × Prefix)) (p : Prefix) (n : ℕ) → HaveNumbers es ins → number_of ins p ≡ Some n → is_touched (stale_of all es) p ≡ is_number_touched all es n
  stale_numbered true es p n h at = refl
  stale_numbered false es p n h at = contains-from_list p (prefixes_in es) ∙ any_number ins es p n h at

  -- a prefix without a number has nothing, and nothing is due there
  unnumbered_at : (t : Bool) (due was new : Option (List Attribute)) → due ≡ None → was ≡ None → new ≡ was → new ≡ cond t due was
  unnumbered_at true due was new d w is = is ∙ w ∙ sym d
  unnumbered_at false due was new d w is = is

  numbered_at : (changed touched : Bool) (due was new : Option (List Attribute)) → new ≡ cond changed due was → (changed ≡ true → touched ≡ true) → (touched ≡ true → changed ≡ false → was ≡ due) → new ≡ cond touched due was
  numbered_at true true due was new is within all = is
  numbered_at true false due was new is within all = absurd (true≢false (sym (within refl)))
  numbered_at false true due was new is within all = is ∙ all refl refl
  numbered_at false false due was new is within all = is

  -- where what is touched and not stale is due, it has what is due
  touched_at : (stale touched : Bool) (due was new : Option (List Attribute)) → new ≡ cond stale due was → (touched ≡ false → stale ≡ false) → (stale ≡ false → was ≡ due) → new ≡ cond touched due was
  touched_at true true due was new is within current = is
  touched_at true false due was new is within current = absurd (true≢false (within refl))
  touched_at false true due was new is within current = is ∙ current refl
  touched_at false false due was new is within current = is

  module _ (rows : List (Option Row)) (es : List (ℕ × Prefix)) (all : Bool) (due_at : Prefix → Option (List Attribute)) (cs : List Change)
      (h : HaveNumbers (numbers_from 0 rows) ins) (k : HaveNumbers es ins) where
    -- what is not stale is due, by number
    pub fresh_rows : ((p : Prefix) → is_touched (stale_of all es) p ≡ false → fin.get (loc_of rows) p ≡ due_at p) → AreFresh ins due_at rows (is_number_touched all es)
    fresh_rows current p n at out = sym (by_number ins rows (numbered ins rows h) p (Some n) at) ∙ current p (stale_numbered all es p n k at ∙ out)

    module _ (are : AreDecided ins due_at rows (is_number_touched all es) cs) (nothing : (p : Prefix) → number_of ins p ≡ None → due_at p ≡ None) where
      stale_by : (p : Prefix) (new : Option (List Attribute)) (o : Option ℕ) → number_of ins p ≡ o → new ≡ cond (is_changed cs p) (due_at p) (fin.get (loc_of rows) p)
          → new ≡ cond (is_touched (stale_of all es) p) (due_at p) (fin.get (loc_of rows) p)
      stale_by p new None at is =
          let was : fin.get (loc_of rows) p ≡ None = by_number ins rows (numbered ins rows h) p None at in
          unnumbered_at (is_touched (stale_of all es) p) (due_at p) _ new (nothing p at) was (is ∙ ap (λ b. cond b (due_at p) (fin.get (loc_of rows) p)) (changed_unnumbered cs p are.placed at))
      stale_by p new (Some n) at is =
          let was : fin.get (loc_of rows) p ≡ attributes_at rows n = by_number ins rows (numbered ins rows h) p (Some n) at in
          let changed : is_changed cs p ≡ list_any (nat_eq n) (numbers_of cs) = changed_numbered cs p n are.placed at in
          let stale : is_touched (stale_of all es) p ≡ is_number_touched all es n = stale_numbered all es p n k at in
          numbered_at (is_changed cs p) (is_touched (stale_of all es) p) (due_at p) _ new is
          (λ t. stale ∙ are.within n (sym changed ∙ t))
          (λ t f. was ∙ are.all n (sym stale ∙ t) (sym changed ∙ f) p at)

      pub stale_at : (p : Prefix) (new : Option (List Attribute)) → new ≡ cond (is_changed cs p) (due_at p) (fin.get (loc_of rows) p)
          → new ≡ cond (is_touched (stale_of all es) p) (due_at p) (fin.get (loc_of rows) p)
      stale_at p new is = stale_by p new (number_of ins p) refl is

      pub turned_at : ((p : Prefix) → is_touched (stale_of all es) p ≡ false → fin.get (loc_of rows) p ≡ due_at p) → (p : Prefix) (new : Option (List Attribute)) → new ≡ cond (is_changed cs p) (due_at p) (fin.get (loc_of rows) p)
          → new ≡ cond (is_touched (touched_of all es) p) (due_at p) (fin.get (loc_of rows) p)
      turned_at current p new is = touched_at (is_touched (stale_of all es) p) (is_touched (touched_of all es) p) (due_at p) _ new (stale_at p new is) (stale_within all es p) (current p)

-- ---- one of two

pub one_of : (b : Bool) (m due was : Option (List Attribute)) → m ≡ cond b due was → IsOneOf m was due
one_of true m due was is = inr is
one_of false m due was is = inl is
