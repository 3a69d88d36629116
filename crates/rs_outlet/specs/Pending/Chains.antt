-- The chains of slots: each leads to the next one that has its attributes.
use Rattle.std.specs.Prelude.{◌≡◌, ◌⊎◌, ◌&&◌, ◌==◌, ℕ, suc, ◌<◌, ◌≤◌, Bool, true, false, List, Option, None, Some, [], slice_get}
use Rattle.std.specs.List.{Contains}
use Rattle.std.specs.declared.cmp.Ordering.TheVariants.{Less}
use Rattle.rs_attrs.specs.Meaning.{Attribute}
use Rattle.rs_attrs.specs.Comparing.{attributes_cmp}
use Rattle.rs_rows.specs.Rows.{Row}
use Rattle.rs_outlet.specs.declared.waiting.Due.TheVariants as due
use Rattle.rs_outlet.specs.declared.waiting.Wait.{Wait}
use Rattle.rs_outlet.specs.declared.waiting.chains.Keyed.{Keyed}
use Rattle.rs_outlet.specs.Inside.{row_by, shown}

-- the attributes that are due at a slot; none where it has no row
abbrev pub or_none : Option (List Attribute) → List Attribute
or_none None = []
or_none (Some m) = m

abbrev pub by_rows : List (Option Row) → Option Wait → List Attribute
by_rows rows None = []
by_rows rows (Some w) = or_none (shown (row_by rows w.due))

abbrev pub due_there : List (Option Row) → List Wait → Keyed → List Attribute
due_there rows ws e = by_rows rows (slice_get ws e.slot)

-- the key of attributes of no set
abbrev pub no_set : ℕ
no_set = 4294967295

abbrev pub key_of_set : Option ℕ → ℕ
key_of_set None = no_set
key_of_set (Some s) = s

-- the key of a slot of this hash, at which these attributes are due: the hash, or where slots are chained by their very attributes the number of their set
abbrev pub key_by : Bool → (List Attribute → Option ℕ) → List Attribute → ℕ → ℕ
key_by true set_of m hash = key_of_set (set_of m)
key_by false set_of m hash = hash

abbrev pub attributes_if : Bool → List Attribute → List Attribute
attributes_if true m = m
attributes_if false m = []

-- the attributes by which slots of one key are told apart: those due there, where slots are chained by their very attributes and these have no set
unfoldable pub due_by : Bool → List (Option Row) → List Wait → Keyed → List Attribute
due_by exact rows ws e = attributes_if (exact && e.key == no_set) (due_there rows ws e)

-- one slot comes before another: by the key, by the attributes, or by its place where these are equal
abbrev pub IsBefore : (Keyed → List Attribute) → Keyed → Keyed → Type 0
IsBefore due e f =
    (e.key < f.key)
    ⊎ ((e.key ≡ f.key) × ((attributes_cmp (due e) (due f) ≡ Less) ⊎ ((due e ≡ due f) × (e.slot < f.slot))))

-- each of so many slots comes before the next one
abbrev pub AreInOrder : (Keyed → List Attribute) → List Keyed → ℕ → Type 0
AreInOrder due es count = (n : ℕ) (e f : Keyed) → n < count → slice_get es n ≡ Some e → slice_get es (suc n) ≡ Some f → IsBefore due e f

-- each slot leads nowhere, or stands in the list, and leads no further than to the next one there, where that has its attributes
abbrev pub Leads : (Keyed → List Attribute) → List Keyed → ℕ → ℕ → Type 0
Leads due es n chain =
    (chain ≡ 0)
    ⊎ ((i : ℕ) × (e : Keyed) × (slice_get es i ≡ Some e) × (e.slot ≡ n)
    × ((f : Keyed) → slice_get es (suc i) ≡ Some f → f.key ≡ e.key → due f ≡ due e → chain ≤ f.slot))

abbrev pub AreLinked : (Keyed → List Attribute) → List Keyed → List ℕ → Type 0
AreLinked due es chains = (n chain : ℕ) → slice_get chains n ≡ Some chain → Leads due es n chain

-- the key of a slot of this hash
abbrev pub key_at : Bool → (List Attribute → Option ℕ) → List (Option Row) → Wait → ℕ → ℕ
key_at exact set_of rows w hash = key_by exact set_of (by_rows rows (Some w)) hash

-- this is a slot that waits to be announced, with its key
pub record IsKeyed (exact : Bool) (set_of : List Attribute → Option ℕ) (rows : List (Option Row)) (ws : List Wait) (e : Keyed) : Type 0 where
  pub wait : Wait
  pub number : ℕ
  pub hash : ℕ
  pub at : slice_get ws e.slot ≡ Some wait
  pub waits : wait.open ≡ true
  pub due : wait.due ≡ due.Announced number hash
  pub key : e.key ≡ key_at exact set_of rows wait hash

-- these are such slots, and all of the first so many
pub record AreKeyed (exact : Bool) (set_of : List Attribute → Option ℕ) (rows : List (Option Row)) (ws : List Wait) (count : ℕ) (es : List Keyed) : Type 0 where
  pub just : (e : Keyed) → Contains es e → IsKeyed exact set_of rows ws e
  pub all : (m number hash : ℕ) (z : Wait) → slice_get ws m ≡ Some z → m < count → z.open ≡ true → z.due ≡ due.Announced number hash → Contains es (record { key = key_at exact set_of rows z hash; slot = m })
