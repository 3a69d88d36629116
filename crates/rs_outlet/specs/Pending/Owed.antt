-- What waits at one prefix, beside what is due there, what was told and whether that is to be told again.
use Rattle.std.specs.Prelude.{◌≡◌, Bool, ◌&&◌, is_some, true, false, map, Option, None, Some, List, [], ◌∷◌, ◌++◌, option_map, IfSome, if◌then◌else◌}
use Rattle.std.specs.Arc.{arc_value}
use Rattle.std.specs.Ordering.{eq_by_cmp}
use Rattle.rs_octets.specs.Prefixes.{Prefix, prefix_order}
use Rattle.rs_attrs.specs.Meaning.{Attribute}
use Rattle.rs_outlet.specs.declared.changes.Change.{Change}
use Rattle.rs_outlet.specs.declared.waiting.Told.{Told}
use Rattle.rs_outlet.specs.declared.waiting.Wait.{Wait}
use Rattle.rs_rows.specs.Rows.{Row}
use Rattle.rs_outlet.specs.Inside.{IsBacked}
use Rattle.rs_outlet.specs.Views.{waits_at}
use Rattle.rs_outlet.specs.Pending.Slots.{is_withdrawal, open_at, told_of, told_by, marked_by, marked_told}

-- what waits at a prefix where this is due is just what is owed there
abbrev pub IsExactAt : Option Wait → Option (List Attribute) → Type 0
IsExactAt o due = option_map (λ w. is_withdrawal w.due) o ≡ waits_at due (told_by o due) (marked_told o due)

-- what waits at a prefix where this is due and this was told, and is to be told again or not
pub record IsOwed (o : Option Wait) (due told : Option (List Attribute)) (marked : Bool) : Type 0 where
  pub tells : told_by o due ≡ told
  pub marks : marked_told o due ≡ (marked && is_some told)
  pub exact : IsExactAt o due

-- what is known of what was told beside what is due: nothing, where that was told and is not to be told again
abbrev pub IsBeside : Option Told → List Attribute → Option (List Attribute) → Bool → Type 0
IsBeside None due told marked = (told ≡ Some due) × (marked ≡ false)
IsBeside (Some t) due told marked = (told_of t (Some due) ≡ told) × (waits_at (Some due) told (marked && is_some told) ≡ Some false)

-- a slot of this prefix that waits
abbrev pub IsOpenAt : Prefix → Wait → Type 0
IsOpenAt p w = (w.prefix ≡ p) × (w.open ≡ true)

-- what was told and what is to be told again stays as something else becomes due, and what waits is as exact as it was
pub record Keeps (was : Option Wait) (was_due : Option (List Attribute)) (waits : Option Wait) (due : Option (List Attribute)) : Type 0 where
  pub told : told_by waits due ≡ told_by was was_due
  pub marked : marked_told waits due ≡ marked_told was was_due
  pub exact : IsExactAt was was_due → IsExactAt waits due

abbrev pub listed : Option Wait → List Wait
listed None = []
listed (Some w) = w ∷ []

abbrev pub prefixes_of : List Change → List Prefix
prefixes_of cs = map (λ c. c.prefix) cs

-- a change is carried out where this was due: nothing of its prefix waits among the slots, and what is owed there now is
-- added at the end of the fresh ones, and has its row
pub record IsCarriedOut (c : Change) (was_due : Option (List Attribute)) (rows : List (Option Row)) (slots fresh new_slots new_fresh : List Wait) : Type 0 where
  pub wait : Option Wait
  pub owed : IsOwed wait (option_map arc_value c.due) (told_by (open_at c.prefix slots) was_due) (marked_by (open_at c.prefix slots))
  pub slot : IfSome wait (IsOpenAt c.prefix)
  pub backed : IfSome wait (λ w. IsBacked rows w.prefix w.due)
  pub added : new_fresh ≡ fresh ++ listed wait
  pub closed : (q : Prefix) → open_at q new_slots ≡ (if eq_by_cmp prefix_order q c.prefix then None else open_at q slots)
