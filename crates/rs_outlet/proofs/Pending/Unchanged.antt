-- What was told, what is marked and what waits, where each prefix keeps it.
use Rattle.std.proofs.Common.{◌≡◌, List, Option, ap, sym, ◌∙◌, subst}
use Rattle.std.specs.Prelude.{option_map}
use Rattle.std.specs.FinMap as fin
use Rattle.std.specs.FinSet as set
use Rattle.rs_octets.specs.Prefixes.{Prefix}
use Rattle.rs_rows.specs.Rows.{Row}
use Rattle.rs_outlet.specs.declared.waiting.Wait.{Wait}
use Rattle.rs_outlet.specs.Views.{Table}
use Rattle.rs_outlet.specs.Views as views
use Rattle.rs_outlet.specs.Pending.Slots.{open_at, told_by, marked_told, is_withdrawal}
use Rattle.rs_outlet.specs.Inside.{AreBacked, IsAskedAgain, told_over, marked_of, waits_of}
use Rattle.rs_outlet.specs.Pending.Owed.{IsExactAt, Keeps}
use Rattle.rs_adjin.proofs.Listed.{prefixes_total, exact_prefixes}
use Rattle.rs_outlet.proofs.Pending.Standing.{told_at, marked_at, waits_at}

-- what is said of a prefix by the tables, and by the slot that stands open for it
abbrev pub AreExact : Table → List Wait → Type 0
AreExact loc ws = (q : Prefix) → fin.get (waits_of ws) q ≡ views.waits_at (fin.get loc q) (fin.get (told_over loc ws) q) (set.contains (marked_of loc ws) q)

by_slot : (loc : Table) (ws : List Wait) (q : Prefix) → views.waits_at (fin.get loc q) (fin.get (told_over loc ws) q) (set.contains (marked_of loc ws) q) ≡ views.waits_at (fin.get loc q) (told_by (open_at q ws) (fin.get loc q)) (marked_told (open_at q ws) (fin.get loc q))
by_slot loc ws q = λ i. views.waits_at (fin.get loc q) (told_at loc ws q i) (marked_at loc ws q i)

pub exact_slot : (loc : Table) (ws : List Wait) → AreExact loc ws → (q : Prefix) → IsExactAt (open_at q ws) (fin.get loc q)
exact_slot loc ws h q = sym (waits_at ws q) ∙ h q ∙ by_slot loc ws q

pub exact_slots : (loc : Table) (ws : List Wait) → ((q : Prefix) → IsExactAt (open_at q ws) (fin.get loc q)) → AreExact loc ws
exact_slots loc ws h q = waits_at ws q ∙ h q ∙ sym (by_slot loc ws q)

module _ (loc loc' : Table) (ws ws' : List Wait) (keeps : (q : Prefix) → Keeps (open_at q ws) (fin.get loc q) (open_at q ws') (fin.get loc' q)) where
  pub told_kept : told_over loc' ws' ≡ told_over loc ws
  told_kept = fin.same_map prefixes_total exact_prefixes _ _ (λ q. told_at loc' ws' q ∙ (keeps q).told ∙ sym (told_at loc ws q))

  pub marked_kept : marked_of loc' ws' ≡ marked_of loc ws
  marked_kept = set.same_set prefixes_total exact_prefixes _ _ (λ q. marked_at loc' ws' q ∙ (keeps q).marked ∙ sym (marked_at loc ws q))

  pub exact_kept : AreExact loc ws → AreExact loc' ws'
  exact_kept h = exact_slots loc' ws' (λ q. (keeps q).exact (exact_slot loc ws h q))

-- the same stands of each prefix
module _ (loc : Table) (ws ws' : List Wait) (is : (q : Prefix) → open_at q ws' ≡ open_at q ws) where
  pub told_same : told_over loc ws' ≡ told_over loc ws
  told_same = fin.same_map prefixes_total exact_prefixes _ _ (λ q. told_at loc ws' q ∙ ap (λ o. told_by o (fin.get loc q)) (is q) ∙ sym (told_at loc ws q))

  pub marked_same : marked_of loc ws' ≡ marked_of loc ws
  marked_same = set.same_set prefixes_total exact_prefixes _ _ (λ q. marked_at loc ws' q ∙ ap (λ o. marked_told o (fin.get loc q)) (is q) ∙ sym (marked_at loc ws q))

  pub waits_same : waits_of ws' ≡ waits_of ws
  waits_same = fin.same_map prefixes_total exact_prefixes _ _ (λ q. waits_at ws' q ∙ ap (option_map (λ (w : Wait). is_withdrawal w.due)) (is q) ∙ sym (waits_at ws q))

pub asked_same : (loc loc' : Table) (ws ws' : List Wait) → loc' ≡ loc → ws' ≡ ws → IsAskedAgain loc ws → IsAskedAgain loc' ws'
asked_same loc loc' ws ws' e f h = subst (λ t. IsAskedAgain t ws') (sym e) (subst (IsAskedAgain loc) (sym f) h)

pub backed_same : (rows : List (Option Row)) (ws ws' : List Wait) → ((q : Prefix) → open_at q ws' ≡ open_at q ws) → AreBacked rows ws → AreBacked rows ws'
backed_same rows ws ws' is backed q w there = backed q w (sym (is q) ∙ there)
