-- The slots of what waits: a list of them, and what stands there of a prefix.
use Rattle.std.specs.Prelude.{◌≡◌, ◌≢◌, ◌⊎◌, ◌<◌, ◌≤◌, length, slice_get, slice_set, is_some, ℕ, Bool, ◌&&◌, not, true, false, map, Option, None, Some, List, [], ◌∷◌, count_by, if◌then◌else◌}
use Rattle.std.specs.List.{AllByRecursion, IsDistinct, filter, list_any}
use Rattle.std.specs.Arc.{arc_value}
use Rattle.std.specs.Ordering.{eq_by_cmp}
use Rattle.std.specs.declared.cmp.Ordering.{Ordering}
use Rattle.std.specs.declared.cmp.Ordering.TheVariants.{Less, Equal, Greater}
use Rattle.rs_octets.specs.Prefixes.{Prefix, prefix_order}
use Rattle.rs_attrs.specs.Meaning.{Attribute}
use Rattle.rs_rows.specs.Cells.{within}
use Rattle.rs_outlet.specs.declared.waiting.Told.{Told}
use Rattle.rs_outlet.specs.declared.waiting.Told.TheVariants as told
use Rattle.rs_outlet.specs.declared.waiting.Due.{Due}
use Rattle.rs_outlet.specs.declared.waiting.Due.TheVariants as due
use Rattle.rs_outlet.specs.declared.waiting.Wait.{Wait}

abbrev pub prefixes_at : List Wait → List Prefix
prefixes_at ws = map (λ w. w.prefix) ws

abbrev pub is_withdrawal : Due → Bool
is_withdrawal due.Withdrawn = true
is_withdrawal (due.Announced number hash) = false

-- the hash of the attributes that are due
abbrev pub hash_of : Due → Option ℕ
hash_of due.Withdrawn = None
hash_of (due.Announced number hash) = Some hash

-- whether a slot waits to be withdrawn
abbrev pub is_withdrawn : Wait → Bool
is_withdrawn w = w.open && is_withdrawal w.due

-- whether it waits to be announced
abbrev pub is_announced : Wait → Bool
is_announced w = w.open && not (is_withdrawal w.due)

-- those that wait still
abbrev pub still_open : List Wait → List Wait
still_open ws = filter (λ w. w.open) ws

-- how many wait still
abbrev pub open_count : List Wait → ℕ
open_count ws = count_by (λ w. w.open) ws

-- how many are to be withdrawn
abbrev pub withdrawn_count : List Wait → ℕ
withdrawn_count ws = count_by is_withdrawn ws

-- a slot put among others that rise by prefix, in place of the one of its prefix
abbrev pub put_by : Ordering → Wait → Wait → List Wait → List Wait → List Wait
put_by Less w x xs rest = w ∷ x ∷ xs
put_by Equal w x xs rest = w ∷ xs
put_by Greater w x xs rest = x ∷ rest

abbrev pub put_rising : Wait → List Wait → List Wait
put_rising w [] = w ∷ []
put_rising w (x ∷ xs) = put_by (prefix_order w.prefix x.prefix) w x xs (put_rising w xs)

-- those that wait still, by rising prefix
abbrev pub rising : List Wait → List Wait
rising [] = []
rising (w ∷ ws) = if w.open then put_rising w (rising ws) else rising ws

-- a slot waits no more, where it is one
abbrev pub IsShut : ℕ → List Wait → List Wait → Type 0
IsShut n old new =
    ((length old ≤ n) × (new ≡ old))
    ⊎ ((w y : Wait) × (slice_get old n ≡ Some w) × (y.open ≡ false) × (new ≡ slice_set old n y))

-- between a slot and the one that it leads to, none that waits has its hash
abbrev pub AreByHash : List Wait → List ℕ → Type 0
AreByHash ws chains =
    (n m chain hash : ℕ) (w z : Wait) → slice_get chains n ≡ Some chain → slice_get ws n ≡ Some w → slice_get ws m ≡ Some z
    → n < m → m < chain → z.open ≡ true → hash_of w.due ≡ Some hash → hash_of z.due ≢ Some hash

-- whether a slot waits, of this prefix
abbrev pub waits_there : Prefix → Wait → Bool
waits_there p w = w.open && eq_by_cmp prefix_order p w.prefix

-- no prefix waits at two slots
abbrev pub AreApart : List Wait → Type 0
AreApart ws = (p : Prefix) → count_by (waits_there p) ws ≤ 1

-- the open slot of a prefix
abbrev pub open_at : Prefix → List Wait → Option Wait
open_at q [] = None
open_at q (w ∷ ws) = if w.open && eq_by_cmp prefix_order q w.prefix then Some w else open_at q ws

-- what was told at a slot, where this is due
abbrev pub told_of : Told → Option (List Attribute) → Option (List Attribute)
told_of told.Nothing due = None
told_of told.Same due = due
told_of (told.Other attrs) due = Some (arc_value attrs)
told_of (told.Within index block) due = within index (arc_value block)

-- what was told of a prefix that waits so, or doesn't wait, where this is due
abbrev pub told_by : Option Wait → Option (List Attribute) → Option (List Attribute)
told_by None due = due
told_by (Some w) due = told_of w.told due

-- whether it is to be told again
abbrev pub marked_by : Option Wait → Bool
marked_by None = false
marked_by (Some w) = w.marked

-- whether something was told there that is to be told again, where this is due
abbrev pub marked_told : Option Wait → Option (List Attribute) → Bool
marked_told None due = false
marked_told (Some w) due = w.marked && is_some (told_of w.told due)

-- the open slot of a prefix stands here
pub record IsOpenSlot (q : Prefix) (ws : List Wait) (n : ℕ) : Type 0 where
  pub wait : Wait
  pub at : slice_get ws n ≡ Some wait
  pub prefix : wait.prefix ≡ q
  pub stands : open_at q ws ≡ Some wait
  pub within : n < length ws

-- these wait, each at a prefix of its own at which nothing waits among the slots
pub record AreFresh (slots fresh : List Wait) : Type 0 where
  pub waiting : AllByRecursion (λ w. w.open ≡ true) fresh
  pub apart : IsDistinct (eq_by_cmp prefix_order) (prefixes_at fresh)
  pub alone : (q : Prefix) → list_any (eq_by_cmp prefix_order q) (prefixes_at fresh) ≡ true → open_at q slots ≡ None
