-- What was told stays as a client asks for everything again, and what waits is as exact as it was.
use Rattle.std.proofs.Common.{◌≡◌, Bool, true, false, cond, ◌&&◌, not, Option, None, Some, IsSome, is_some, List, refl, sym, ap, ◌∙◌, subst}
use Rattle.std.specs.Prelude.{option_map}
use mathlib.Core.Bool.{true≢false}
use Rattle.std.specs.Arc.{arc_value}
use Rattle.std.specs.FinMap as fin
use Rattle.std.specs.FinSet as set
use Rattle.std.proofs.Math.Bool.{and-false}
use Rattle.rs_octets.specs.Prefixes.{Prefix}
use Rattle.rs_attrs.specs.Meaning.{Attribute}
use Rattle.rs_attrs.specs.Comparing.{same_attributes}
use Rattle.rs_rows.specs.Cells.{within}
use Rattle.rs_outlet.specs.declared.waiting.Told.{Told}
use Rattle.rs_outlet.specs.declared.waiting.Told.TheVariants as told
use Rattle.rs_outlet.specs.declared.waiting.Wait.{Wait}
use Rattle.rs_outlet.specs.Views.{Table, View, WaitsAreExact}
use Rattle.rs_outlet.specs.Views as views
use Rattle.rs_outlet.specs.Pending.Slots.{open_at, told_of, told_by, marked_told, is_withdrawal}
use Rattle.rs_outlet.specs.Inside.{told_over, marked_of, waits_of}
use Rattle.rs_outlet.specs.Pending.Marking.{MayWaitAgain, is_told}
use Rattle.rs_adjin.proofs.Listed.{prefixes_total, exact_prefixes}
use Rattle.rs_outlet.proofs.Pending.Standing.{told_at, marked_at, waits_at}

told_so : (due : Option (List Attribute)) (was now : Option Wait) → MayWaitAgain due was now → told_by now due ≡ told_by was due
told_so due was None h = sym (ap (λ o. told_by o due) h)
told_so due None (Some z) h = ap (λ t. told_of t due) h.2
told_so due (Some w) (Some z) h = ap (λ t. told_of t due) h.1

told_some : (t : Told) (due : Option (List Attribute)) → IsSome (told_of t due) → (is_told t && is_some (told_of t due)) ≡ true
told_some told.Nothing due h = absurd (cc)
told_some told.Same due h = h
told_some (told.Other m) due h = refl
told_some (told.Within index block) due h = (λ i. h i && h i)

first_of : (a b : Bool) → Some b ≡ cond a None (Some false) → b ≡ false
first_of true b h = absurd (cc)
first_of false b h = cc

-- what waits where something else is marked that was told
waits_so : (b : Bool) (due t : Option (List Attribute)) (k l : Bool) → Some b ≡ views.waits_at due t k → (IsSome t → l ≡ true) → Some b ≡ views.waits_at due t l
waits_so b None None k l h f = h
waits_so b None (Some m) k l h f = h
waits_so b (Some d) None k l h f = h
waits_so b (Some d) (Some m) k l h f =
    ap (λ x. Some x) (first_of (same_attributes d m && not k) b h)
    ∙ sym (ap (λ x. cond x None (Some false)) (ap (λ x. same_attributes d m && not x) (f refl) ∙ and-false (same_attributes d m)))

abbrev IsExact : Option (List Attribute) → Option Wait → Type 0
IsExact due o = option_map (λ (w : Wait). is_withdrawal w.due) o ≡ views.waits_at due (told_by o due) (marked_told o due)

fresh_exact : (due : Option (List Attribute)) (z : Wait) → MayWaitAgain due None (Some z) → IsExact due (Some z)
fresh_exact None z h = absurd (true≢false (sym h.0))
fresh_exact (Some m) z h =
    ap (λ b. Some b) h.1
    ∙ sym ((λ i. views.waits_at (Some m) (told_of (h.2 i) (Some m)) (h.3 i && is_some (told_of (h.2 i) (Some m)))) ∙ ap (λ x. cond x None (Some false)) (and-false (same_attributes m m)))

exact_so : (due : Option (List Attribute)) (was now : Option Wait) → MayWaitAgain due was now → IsExact due was → IsExact due now
exact_so due was None h exact = subst (IsExact due) h exact
exact_so due None (Some z) h exact = fresh_exact due z h
exact_so due (Some w) (Some z) h exact =
    ap (λ d. Some (is_withdrawal d)) h.0
    ∙ waits_so (is_withdrawal w.due) due (told_of w.told due) (marked_told (Some w) due) (is_told w.told && is_some (told_of w.told due)) exact (told_some w.told due)
    ∙ sym (λ i. views.waits_at due (told_of (h.1 i) due) (h.2 i && is_some (told_of (h.1 i) due)))

-- ---- what is marked, where something is open wherever something is due

none_due : (due : Option (List Attribute)) → (IsSome due → false ≡ true) → false ≡ is_some due
none_due None all = refl
none_due (Some m) all = all refl

told_part : (t : Told) (due : Option (List Attribute)) → (is_told t && is_some (told_of t due)) ≡ is_some (told_of t due)
told_part told.Nothing due = refl
told_part told.Same due = refl
told_part (told.Other m) due = refl
told_part (told.Within index block) due = twice (is_some (within index (arc_value block)))
  where
    twice : (b : Bool) → (b && b) ≡ b
    twice true = refl
    twice false = refl

marks : (due : Option (List Attribute)) (was now : Option Wait) → MayWaitAgain due was now → (IsSome due → IsSome now) → marked_told now due ≡ is_some (told_by was due)
marks due was None h all = none_due due all ∙ sym (ap (λ o. is_some (told_by o due)) h)
marks due None (Some z) h all = λ i. h.3 i && is_some (told_of (h.2 i) due)
marks due (Some w) (Some z) h all = (λ i. h.2 i && is_some (told_of (h.1 i) due)) ∙ told_part w.told due

module _ (loc : Table) (ws zs : List Wait) (again : (q : Prefix) → MayWaitAgain (fin.get loc q) (open_at q ws) (open_at q zs)) where
  pub told_again : told_over loc zs ≡ told_over loc ws
  told_again = fin.same_map prefixes_total exact_prefixes (told_over loc zs) (told_over loc ws) (λ q. told_at loc zs q ∙ told_so (fin.get loc q) (open_at q ws) (open_at q zs) (again q) ∙ sym (told_at loc ws q))

  -- what callers see at a prefix, by the slot that stands open there
  abbrev pub seen : List Wait → Prefix → Type 0
  seen slots q = fin.get (waits_of slots) q ≡ views.waits_at (fin.get loc q) (fin.get (told_over loc slots) q) (set.contains (marked_of loc slots) q)

  by_slot : (slots : List Wait) (q : Prefix) → views.waits_at (fin.get loc q) (fin.get (told_over loc slots) q) (set.contains (marked_of loc slots) q) ≡ views.waits_at (fin.get loc q) (told_by (open_at q slots) (fin.get loc q)) (marked_told (open_at q slots) (fin.get loc q))
  by_slot slots q = λ i. views.waits_at (fin.get loc q) (told_at loc slots q i) (marked_at loc slots q i)

  pub marked_all : ((q : Prefix) → IsSome (fin.get loc q) → IsSome (open_at q zs)) → (q : Prefix) → set.contains (marked_of loc zs) q ≡ is_some (fin.get (told_over loc ws) q)
  marked_all all q = marked_at loc zs q ∙ marks (fin.get loc q) (open_at q ws) (open_at q zs) (again q) (all q) ∙ sym (ap is_some (told_at loc ws q))

  pub exact_again : (v : View) → loc ≡ v.loc → told_over loc ws ≡ v.told → marked_of loc ws ≡ v.marked → waits_of ws ≡ v.waits → WaitsAreExact v → (q : Prefix) → seen zs q
  exact_again v a b c d exact q =
      let was : IsExact (fin.get loc q) (open_at q ws) =
      sym (waits_at ws q) ∙ ap (λ t. fin.get t q) d ∙ exact q
      ∙ sym (λ i. views.waits_at (fin.get (a i) q) (fin.get (b i) q) (set.contains (c i) q))
      ∙ by_slot ws q in
      waits_at zs q ∙ exact_so (fin.get loc q) (open_at q ws) (open_at q zs) (again q) was ∙ sym (by_slot zs q)
