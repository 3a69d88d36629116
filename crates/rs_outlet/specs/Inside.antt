-- How the fields of an outlet make what callers see, and what the fields keep.
use Rattle.std.specs.Prelude.{◌≡◌, ◌≢◌, ◌⊎◌, ℕ, suc, ◌+◌, ◌≤◌, ◌<◌, ◌||◌, Bool, true, false, nat_eq, Option, None, Some, List, [], ◌∷◌, ◌++◌, map, option_map, slice_range, slice_get, take, vec_len, length, IfSome, if◌then◌else◌}
use Rattle.std.specs.List.{AllByRecursion, IsDistinct, list_any}
use Rattle.std.specs.Ordering.{eq_by_cmp}
use Rattle.std.specs.Vec.{vec_capacity}
use Rattle.std.specs.Arc.{arc_value}
use Rattle.std.specs.FinMap as fin
use Rattle.std.specs.FinSet as set
use Rattle.rs_octets.specs.Numbers.{longest_where}
use Rattle.rs_octets.specs.Prefixes.{Prefix, prefix_order}
use Rattle.rs_attrs.specs.Meaning.{Attribute}
use Rattle.rs_attrs.specs.Comparing.{attributes_hash}
use Rattle.rs_open.specs.declared.short.Limit.TheVariants as limits
use Rattle.rs_outlet.specs.declared.answers.Speech.{Speech}
pub use Rattle.rs_rows.specs.Rows.{joined, row_at, shown}
use Rattle.rs_rows.specs.Rows.{IsPrepared, Listed, Row}
use Rattle.rs_outlet.specs.declared.waiting.Wait.{Wait}
use Rattle.rs_outlet.specs.declared.changes.Change.{Change}
use Rattle.rs_adjin.specs.declared.adj_ins.AdjIns.{AdjIns}
use Rattle.rs_adjin.specs.AdjIns.{number_of}
use Rattle.rs_outlet.specs.declared.outlet.Outlet.TheInside.{Inside}
use Rattle.rs_outlet.specs.Decided.Touching.{stale_of, touched_of}
use Rattle.rs_outlet.specs.Views.{View, Table, Prefixes, Waiting}
use Rattle.rs_open.specs.Notes.{limit_octets}
use Rattle.rs_packer.specs.Packed.{announcement}
use Rattle.rs_outlet.specs.declared.waiting.Due.{Due}
use Rattle.rs_outlet.specs.declared.waiting.Due.TheVariants as due
use Rattle.rs_outlet.specs.Pending.Slots.{hash_of, open_at, told_of, marked_told, is_withdrawal, withdrawn_count}

-- ---- rows

-- what is due, by the rows
abbrev pub loc_of : List (Option Row) → Table
loc_of [] = fin.empty
loc_of (None ∷ rows) = loc_of rows
loc_of (Some r ∷ rows) = fin.insert (loc_of rows) r.prefix r.attributes

-- the prefixes of the rows from number n on, with their numbers
abbrev pub numbers_from : ℕ → List (Option Row) → List (ℕ × Prefix)
numbers_from n [] = []
numbers_from n (None ∷ rows) = numbers_from (suc n) rows
numbers_from n (Some r ∷ rows) = (n, r.prefix) ∷ numbers_from (suc n) rows

-- each change stands at the number of its prefix
abbrev pub ArePlaced : List Change → AdjIns → Type 0
ArePlaced cs ins = AllByRecursion (λ c. number_of ins c.prefix ≡ Some c.number) cs

-- each change has what is due at its prefix
abbrev pub AreDue : (Prefix → Option (List Attribute)) → List Change → Type 0
AreDue due cs = AllByRecursion (λ c. option_map arc_value c.due ≡ due c.prefix) cs

-- whether there is a change at p
abbrev pub is_changed : List Change → Prefix → Bool
is_changed [] p = false
is_changed (c ∷ cs) p = eq_by_cmp prefix_order p c.prefix || is_changed cs p

abbrev pub numbers_of : List Change → List ℕ
numbers_of cs = map (λ c. c.number) cs

-- what stands in the row of a number
abbrev pub attributes_at : List (Option Row) → ℕ → Option (List Attribute)
attributes_at rows n = shown (row_at rows n)

-- a row that has a route has this prefix
abbrev pub IsOwn : Option Row → Prefix → Type 0
IsOwn o p = (r : Row) → o ≡ Some r → r.prefix ≡ p

-- each change stands at a row that is free or has its prefix
abbrev pub AreOwn : List Change → List (Option Row) → Type 0
AreOwn cs rows = AllByRecursion (λ c. IsOwn (row_at rows c.number) c.prefix) cs

-- a change at number n, of what is due there, whose row is free or has its prefix
pub record IsChangeAt (ins : AdjIns) (due_at : Prefix → Option (List Attribute)) (rows : List (Option Row)) (n : ℕ) (c : Change) : Type 0 where
  pub number : c.number ≡ n
  pub placed : number_of ins c.prefix ≡ Some n
  pub due : option_map arc_value c.due ≡ due_at c.prefix
  pub own : IsOwn (row_at rows n) c.prefix

-- where number n has what is due, no change is added; else one is
abbrev pub IsDecidedAt : AdjIns → (Prefix → Option (List Attribute)) → List (Option Row) → ℕ → List Change → List Change → Type 0
IsDecidedAt ins due_at rows n old new =
    ((new ≡ old) × ((p : Prefix) → number_of ins p ≡ Some n → attributes_at rows n ≡ due_at p))
    ⊎ ((c : Change) × IsChangeAt ins due_at rows n c × (new ≡ old ++ c ∷ []))

-- these are the changes at the numbers that pass the test: each once, at a row that is free or has its prefix, and none where
-- the row has what is due
pub record AreDecided (ins : AdjIns) (due_at : Prefix → Option (List Attribute)) (rows : List (Option Row)) (is_in : ℕ → Bool) (cs : List Change) : Type 0 where
  pub placed : ArePlaced cs ins
  pub due : AreDue due_at cs
  pub own : AreOwn cs rows
  pub once : IsDistinct nat_eq (numbers_of cs)
  pub within : (n : ℕ) → list_any (nat_eq n) (numbers_of cs) ≡ true → is_in n ≡ true
  pub all : (n : ℕ) → is_in n ≡ true → list_any (nat_eq n) (numbers_of cs) ≡ false → (p : Prefix) → number_of ins p ≡ Some n → attributes_at rows n ≡ due_at p

-- each prefix whose number doesn't pass the test has what is due
abbrev pub AreFresh : AdjIns → (Prefix → Option (List Attribute)) → List (Option Row) → (ℕ → Bool) → Type 0
AreFresh ins due_at rows is_in = (p : Prefix) (n : ℕ) → number_of ins p ≡ Some n → is_in n ≡ false → attributes_at rows n ≡ due_at p

-- there is a row for each change, which can be written
abbrev pub HaveRows : List Change → Listed → Type 0
HaveRows cs rows = AllByRecursion (λ c. (c.number < length rows.items) × IsPrepared rows.prepared c.number) cs

-- each change has a number below this one
abbrev pub AreBelow : List Change → ℕ → Type 0
AreBelow cs count = AllByRecursion (λ c. c.number < count) cs

-- none of them has this number
abbrev pub IsNoNumberOf : ℕ → List (ℕ × Prefix) → Type 0
IsNoNumberOf n es = AllByRecursion (λ e. e.0 ≢ n) es

-- ---- what waits

abbrev pub put : Table → Prefix → Option (List Attribute) → Table
put t p None = fin.remove t p
put t p (Some m) = fin.insert t p m

-- what was told: what is due, but where something waits
abbrev pub told_over : Table → List Wait → Table
told_over loc [] = loc
told_over loc (w ∷ ws) = if w.open then put (told_over loc ws) w.prefix (told_of w.told (fin.get loc w.prefix)) else told_over loc ws

abbrev pub mark : Prefixes → Prefix → Bool → Prefixes
mark s p true = set.insert s p
mark s p false = set.remove s p

-- the prefixes at which something was told that is to be told again
abbrev pub marked_of : Table → List Wait → Prefixes
marked_of loc [] = set.empty
marked_of loc (w ∷ ws) = if w.open then mark (marked_of loc ws) w.prefix (marked_told (Some w) (fin.get loc w.prefix)) else marked_of loc ws

-- the prefixes that wait, each with whether it is to be withdrawn
abbrev pub waits_of : List Wait → Waiting
waits_of [] = fin.empty
waits_of (w ∷ ws) = if w.open then fin.insert (waits_of ws) w.prefix (is_withdrawal w.due) else waits_of ws

-- all that was told is to be told again, and nothing else
abbrev pub IsAskedAgain : Table → List Wait → Type 0
IsAskedAgain loc ws = (p : Prefix) → set.contains (marked_of loc ws) p ≡ fin.contains_key (told_over loc ws) p

-- ---- each slot to be announced has its row, and each row fits

-- the row of what is due at a slot
abbrev pub row_by : List (Option Row) → Due → Option Row
row_by rows due.Withdrawn = None
row_by rows (due.Announced number hash) = row_at rows number

abbrev pub prefix_and_hash : Row → Prefix × ℕ
prefix_and_hash r = (r.prefix, attributes_hash r.attributes)

-- the row of a number has this prefix, and attributes of this hash
abbrev pub IsRowOf : List (Option Row) → ℕ → Prefix → ℕ → Type 0
IsRowOf rows n p hash = option_map prefix_and_hash (row_at rows n) ≡ Some (p, hash)

-- a slot of this prefix that is to be announced has the row of the prefix
abbrev pub IsBacked : List (Option Row) → Prefix → Due → Type 0
IsBacked rows p due.Withdrawn = Unit {0}
IsBacked rows p (due.Announced number hash) = IsRowOf rows number p hash

abbrev pub AreBacked : List (Option Row) → List Wait → Type 0
AreBacked rows ws = (q : Prefix) (w : Wait) → open_at q ws ≡ Some w → IsBacked rows w.prefix w.due

-- between a slot that waits and the one that it leads to, none that waits has its hash and the attributes that are due at it
abbrev pub AreChained : List (Option Row) → List Wait → List ℕ → Type 0
AreChained rows ws chains =
    (n m chain hash : ℕ) (w z : Wait) (a : List Attribute) → slice_get chains n ≡ Some chain → slice_get ws n ≡ Some w → slice_get ws m ≡ Some z
    → n < m → m < chain → w.open ≡ true → z.open ≡ true → hash_of w.due ≡ Some hash → hash_of z.due ≡ Some hash
    → shown (row_by rows w.due) ≡ Some a → shown (row_by rows z.due) ≢ Some a

-- a message to the client has room for these attributes beside this prefix
abbrev pub FitsAlone : Speech → Prefix → List Attribute → Type 0
FitsAlone speech p m = length (announcement m speech.mode (p ∷ [])) ≤ limit_octets speech.limit

abbrev pub RowsFit : Speech → List (Option Row) → Type 0
RowsFit speech rows = (n : ℕ) (r : Row) → row_at rows n ≡ Some r → FitsAlone speech r.prefix r.attributes

abbrev pub ChangesFit : Speech → List Change → Type 0
ChangesFit speech cs = AllByRecursion (λ c. IfSome c.due (λ attrs. FitsAlone speech c.prefix (arc_value attrs))) cs

-- ---- all of it

-- what contracts see of an outlet
abbrev pub view_of : Inside → View
view_of a = record {
  client = a.client;
  extended = a.extended;
  speech = a.speech;
  loc = loc_of a.rows.rows.items;
  told = told_over (loc_of a.rows.rows.items) a.waits.slots.items;
  flight = slice_range a.octets.items a.start a.end;
  keepalive_due = a.keepalive_due;
  note = a.note;
  touched = touched_of a.touched.all a.touched.prefixes.items;
  stale = stale_of a.touched.all a.touched.prefixes.items;
  marked = marked_of (loc_of a.rows.rows.items) a.waits.slots.items;
  waits = waits_of a.waits.slots.items;
  numbers = numbers_from 0 a.rows.rows.items ++ a.touched.prefixes.items;
  last = a.last;
}

pub record IsKept (a : Inside) : Type 0 where
  pub octets : vec_len a.octets ≡ longest_where a.extended
  pub started : a.start ≤ a.end
  pub ended : a.end ≤ longest_where a.extended
  pub slots : a.rows.used + withdrawn_count a.waits.slots.items ≤ vec_capacity a.waits.slots
  pub extended : (speech : Speech) → a.speech ≡ Some speech → speech.limit ≡ limits.Long → a.extended ≡ true
  pub backed : AreBacked a.rows.rows.items a.waits.slots.items
  pub chained : AreChained a.rows.rows.items (take a.waits.sorted a.waits.slots.items) a.waits.chains.items
  pub fit : (speech : Speech) → a.speech ≡ Some speech → RowsFit speech a.rows.rows.items
  pub asked : a.asked ≡ true → IsAskedAgain (loc_of a.rows.rows.items) a.waits.slots.items
