-- Changes, whoever owns their attributes, and news: routes that are due where nothing was.
use Rattle.std.specs.Prelude.{◌≡◌, ◌+◌, ℕ, suc, false, true, List, [], ◌∷◌, Option, Some, None, is_some, option_map, slice_get, slice_set}
use Rattle.std.specs.Arc.{arc_value}
use Rattle.std.specs.Ptr.{null_ptr}
use Rattle.std.specs.List.{AllByRecursion}
use Rattle.rs_octets.specs.Prefixes.{Prefix}
use Rattle.rs_attrs.specs.Meaning.{Attribute}
use Rattle.rs_attrs.specs.Comparing.{attributes_hash}
use Rattle.rs_rows.specs.Rows.{Row, row_at}
use Rattle.rs_outlet.specs.declared.changes.Change.{Change}
use Rattle.rs_outlet.specs.declared.news.News.{News}
use Rattle.rs_outlet.specs.declared.waiting.Due.TheVariants as due
use Rattle.rs_outlet.specs.declared.waiting.Told.TheVariants as told
use Rattle.rs_outlet.specs.declared.waiting.Wait.{Wait}

-- a change, whoever owns its attributes
abbrev pub seen : Change → (ℕ × Prefix) × Option (List Attribute)
seen c = ((c.number, c.prefix), option_map arc_value c.due)

-- the change that news are
abbrev pub change_of : News → Change
change_of n = record { number = n.number; prefix = n.prefix; due = Some n.attrs }

-- the row that has them
abbrev pub row_of : News → Option Row
row_of n = Some (record { prefix = n.prefix; attributes = arc_value n.attrs })

-- the slot of attributes at a number: nothing was told
abbrev pub slot_with : ℕ → Prefix → List Attribute → Wait
slot_with number p m = record { prefix = p; due = due.Announced number (attributes_hash m); marked = false; «open» = true; told = told.Nothing }

-- the slot of news
abbrev pub slot_of : News → Wait
slot_of n = slot_with n.number n.prefix (arc_value n.attrs)

-- each of these rows has a route
abbrev pub HaveRoutes : List (Option Row) → Type 0
HaveRoutes rows = AllByRecursion (λ row. is_some row ≡ true) rows

-- the news that rows with a route are, whose first has this number; where the attributes lie is left open
abbrev pub news_from : ℕ → List (Option Row) → List News
news_from k [] = []
news_from k (None ∷ rows) = []
news_from k (Some r ∷ rows) = record { number = k; prefix = r.prefix; attrs = record { ptr = null_ptr; value = r.attributes } } ∷ news_from (suc k) rows

-- the rows once these news are written, each in its own
abbrev pub written : List News → List (Option Row) → List (Option Row)
written [] rows = rows
written (n ∷ ns) rows = written ns (slice_set rows n.number (row_of n))

-- they have the numbers from this one on, one after the other
abbrev pub AreFrom : ℕ → List News → Type 0
AreFrom k ns = (i : ℕ) (n : News) → slice_get ns i ≡ Some n → n.number ≡ k + i

-- their rows are free
abbrev pub AreFree : List (Option Row) → List News → Type 0
AreFree rows ns = AllByRecursion (λ n. row_at rows n.number ≡ None) ns
