-- The value at a key of a table: how it is read, and what is wrong with it.
use Rattle.std.proofs.Common.{Vec, Global}
use Rattle.std.specs.Prelude.{◌≡◌, ◌≢◌, IfOk, IfErr, vec_items, ℕ, ◌+◌, ◌++◌, Bool, true, ◌&&◌, ℤ, pos, int_le, nat_abs, nat_lt, List, [], ◌∷◌, length, codes, bytes_eq, Option, Some, None, Result, Ok, Err, option_map, option_and_then, ok_or, is_some, if◌then◌else◌}
use Rattle.std.specs.List.{list_all}
use Rattle.toml.specs.Data.{Data, Items, Members, no_items, item, no_members, member, get, as_integer, as_str, as_array, as_table}
use Rattle.rs_octets.specs.HoldTimes.{is_refused_hold}
use Rattle.rs_policy.specs.Keys.{key_text, is_among}
use Rattle.rs_policy.specs.Texts.{address_of, as_range_of, is_name, no_zero, or_else, prefix_range_of}
use Rattle.rs_policy.specs.declared.faults.Key.{Key}
use Rattle.rs_policy.specs.declared.faults.Key.TheVariants as K
use Rattle.rs_policy.specs.declared.faults.Place.{Place}
use Rattle.rs_policy.specs.declared.faults.Table.TheVariants.{Entry, List as OfList}
use Rattle.rs_policy.specs.declared.faults.ConfigFault.{ConfigFault}
use Rattle.rs_policy.specs.declared.faults.ConfigFault.TheVariants.{Missing, BadValue, TooMany, OutOfMemory}
use Rattle.rs_policy.specs.declared.rules.Disposition.{Disposition}
use Rattle.rs_policy.specs.declared.rules.Disposition.TheVariants.{Pass, Drop}
use Rattle.rs_policy.specs.declared.rules.Range.{Range}

-- what a value of each kind is, and None for a value of another kind or out of its range

abbrev pub between : ℕ → ℕ → ℤ → Option ℕ
between low high z = if int_le (pos low) z && int_le z (pos high) then Some (nat_abs z) else None

abbrev pub integer_in : ℕ → ℕ → Data → Option ℕ
integer_in low high d = option_and_then (between low high) (as_integer d)

-- AS numbers (RFC 6793; 0 is reserved by RFC 7607), and limits
abbrev pub positive : Data → Option ℕ
positive = integer_in 1 4294967295

-- seconds: 0, or from 3 on (RFC 4271, 4.2)
abbrev pub hold_seconds : Data → Option ℕ
hold_seconds d = option_and_then (λ n. if is_refused_hold n then None else Some n) (integer_in 0 65535 d)

abbrev pub text_as : {A : Type 0} → (List ℕ → Option A) → Data → Option A
text_as reads d = option_and_then reads (as_str d)

abbrev pub address : Data → Option ℕ
address = text_as address_of

-- a BGP Identifier (RFC 4271, 4.2)
abbrev pub identifier : Data → Option ℕ
identifier d = option_and_then no_zero (address d)

abbrev pub disposition_of : List ℕ → Option Disposition
disposition_of text = if bytes_eq text (codes "pass") then Some Pass else (if bytes_eq text (codes "drop") then Some Drop else None)

abbrev pub name_of : List ℕ → Option (List ℕ)
name_of text = if is_name text then Some text else None

-- an entry of a list: prefixes, and AS numbers, one or those from one to another. AS 0 is among them (RFC 7607)

abbrev pub prefix_entry : Data → Option Range
prefix_entry = text_as prefix_range_of

abbrev pub as_entry : Data → Option (ℕ × ℕ)
as_entry d = or_else (option_map (λ n. (n, n)) (integer_in 0 4294967295 d)) (text_as as_range_of d)

-- no value is right
abbrev pub nothing : {A : Type 0} → Data → Option A
nothing d = None

-- what is at a key

abbrev pub keyed : Place → Key → Place
keyed place k = record place { key = k }

abbrev pub read_or_bad : {A : Type 0} → Place → Option A → Result A ConfigFault
read_or_bad place o = ok_or o (BadValue place)

abbrev pub required : {A : Type 0} → (Data → Option A) → Place → Option Data → Result A ConfigFault
required reads place None = Err (Missing place)
required reads place (Some d) = read_or_bad place (reads d)

abbrev pub optional : {A : Type 0} → (Data → Option A) → A → Place → Option Data → Result A ConfigFault
optional reads other place None = Ok other
optional reads other place (Some d) = read_or_bad place (reads d)

-- a key that has to be there
unfoldable pub required_at : {A : Type 0} → (Data → Option A) → Place → Key → Data → Result A ConfigFault
required_at reads place k d = required reads (keyed place k) (get (key_text k) d)

-- a key that may be left out, and what it is then
unfoldable pub optional_at : {A : Type 0} → (Data → Option A) → A → Place → Key → Data → Result A ConfigFault
optional_at reads other place k d = optional reads other (keyed place k) (get (key_text k) d)

-- a key that may be left out and is nothing then
abbrev pub maybe_at : {A : Type 0} → (Data → Option A) → Place → Key → Data → Result (Option A) ConfigFault
maybe_at reads place k d = optional_at (λ v. option_map Some (reads v)) None place k d

-- arrays of tables

abbrev pub list_of : Items → List Data
list_of no_items = []
list_of (item d ds) = d ∷ list_of ds

abbrev pub is_table : Data → Bool
is_table d = is_some (as_table d)

-- an array that is too long is that first, whatever it holds
abbrev pub tables_of : ℕ → Place → Option (List Data) → Result (List Data) ConfigFault
tables_of most place None = Err (BadValue place)
tables_of most place (Some ds) = if nat_lt most (length ds) then Err (TooMany place) else (if list_all is_table ds then Ok ds else Err (BadValue place))

abbrev pub tables_in : ℕ → Place → Data → Result (List Data) ConfigFault
tables_in most place d = tables_of most place (option_map list_of (as_array d))

abbrev pub optional_tables : ℕ → Place → Option Data → Result (List Data) ConfigFault
optional_tables most place None = Ok []
optional_tables most place (Some d) = tables_in most place d

unfoldable pub tables_at : ℕ → Place → Key → Data → Result (List Data) ConfigFault
tables_at most place k d = optional_tables most (keyed place k) (get (key_text k) d)

abbrev pub needed_tables : ℕ → Place → Option Data → Result (List Data) ConfigFault
needed_tables most place None = Err (Missing place)
needed_tables most place (Some d) = tables_in most place d

-- such an array that has to be there
unfoldable pub needed_tables_at : ℕ → Place → Key → Data → Result (List Data) ConfigFault
needed_tables_at most place k d = needed_tables most (keyed place k) (get (key_text k) d)

-- and has a table
abbrev pub some_tables : Place → Result (List Data) ConfigFault → Result (List Data) ConfigFault
some_tables place (Ok []) = Err (Missing place)
some_tables place r = r

unfoldable pub some_tables_at : ℕ → Place → Key → Data → Result (List Data) ConfigFault
some_tables_at most place k d = some_tables (keyed place k) (tables_at most place k d)

-- arrays of entries, in list number n

abbrev pub list_place : ℕ → Place
list_place n = record { table = OfList n; key = K.Other }

abbrev pub entry_place : ℕ → Key → ℕ → Place
entry_place n k e = record { table = Entry n e; key = k }

-- one before others
abbrev pub before : {A : Type 0} → Option A → ConfigFault → Result (List A) ConfigFault → Result (List A) ConfigFault
before None f r = Err f
before (Some a) f (Ok more) = Ok (a ∷ more)
before (Some a) f (Err g) = Err g

-- what each is, counted from e, or the place of the first that is none
unfoldable pub entries_from : {A : Type 0} → (Data → Option A) → ℕ → Key → ℕ → List Data → Result (List A) ConfigFault
entries_from reads n k e [] = Ok []
entries_from reads n k e (d ∷ ds) = before (reads d) (BadValue (entry_place n k e)) (entries_from reads n k (e + 1) ds)

-- an array that is too long is that first, whatever it holds
abbrev pub array_at : ℕ → Key → Option (List Data) → Result (List Data) ConfigFault
array_at n k None = Err (BadValue (keyed (list_place n) k))
array_at n k (Some ds) = if nat_lt 1048576 (length ds) then Err (TooMany (keyed (list_place n) k)) else Ok ds

abbrev pub entries_of : {A : Type 0} → (Data → Option A) → ℕ → Key → Result (List Data) ConfigFault → Result (List A) ConfigFault
entries_of reads n k (Ok ds) = entries_from reads n k 1 ds
entries_of reads n k (Err f) = Err f

abbrev pub given : {A : Type 0} → Result A ConfigFault → Result (Option A) ConfigFault
given (Ok a) = Ok (Some a)
given (Err f) = Err f

abbrev pub entries_found : {A : Type 0} → (Data → Option A) → ℕ → Key → Option Data → Result (Option (List A)) ConfigFault
entries_found reads n k None = Ok None
entries_found reads n k (Some d) = given (entries_of reads n k (array_at n k (option_map list_of (as_array d))))

-- such an array that may be left out
unfoldable pub entries_at : {A : Type 0} → (Data → Option A) → ℕ → Key → Data → Result (Option (List A)) ConfigFault
entries_at reads n k d = entries_found reads n k (get (key_text k) d)

-- keys that a table hasn't

abbrev pub are_among : List Key → Members → Bool
are_among keys no_members = true
are_among keys (member k d ms) = is_among keys k && are_among keys ms

abbrev pub only_among : List Key → Option Members → Bool
only_among keys None = true
only_among keys (Some ms) = are_among keys ms

unfoldable pub has_only : List Key → Data → Bool
has_only keys d = only_among keys (as_table d)

-- checks

-- the fault of what was read, where it is one
abbrev pub fault_in : {A : Type 0} → Result A ConfigFault → Option ConfigFault
fault_in (Ok a) = None
fault_in (Err f) = Some f

-- what was read, or this where there was a fault
abbrev pub value_or : {A : Type 0} → A → Result A ConfigFault → A
value_or other (Ok a) = a
value_or other (Err f) = other

-- an unknown key
abbrev pub stranger : List Key → Place → Data → Result (Unit {0}) ConfigFault
stranger keys place d = if has_only keys d then Ok tt else Err (BadValue (keyed place K.Other))

-- the first check that fails
abbrev pub first_failing : List (Option ConfigFault) → Option ConfigFault
first_failing [] = None
first_failing (None ∷ rest) = first_failing rest
first_failing (Some f ∷ rest) = Some f

abbrev pub or_fault : {A : Type 0} → A → Option ConfigFault → Result A ConfigFault
or_fault a None = Ok a
or_fault a (Some f) = Err f

-- the first fault, or the value where no check fails
unfoldable pub answer : {A : Type 0} → List (Option ConfigFault) → A → Result A ConfigFault
answer checks a = or_fault a (first_failing checks)

-- a call answers this: its value, or its first fault. Where memory is refused it answers that instead
abbrev pub Answers : {A : Type 0} → Result A ConfigFault → Result A ConfigFault → Type 0
Answers result said = IfOk result (λ v. said ≡ Ok v) × IfErr result (λ f. f ≢ OutOfMemory → said ≡ Err f)

-- the same of a list
abbrev pub AnswersItems : {A : Type 0} → Result (Vec A Global) ConfigFault → Result (List A) ConfigFault → Type 0
AnswersItems result said = IfOk result (λ v. said ≡ Ok (vec_items v)) × IfErr result (λ f. f ≢ OutOfMemory → said ≡ Err f)

-- what each of some tables is, counted from n
unfoldable pub each_from : {A : Type 0} → (ℕ → Data → A) → ℕ → List Data → List A
each_from f n [] = []
each_from f n (d ∷ ds) = f n d ∷ each_from f (n + 1) ds

-- the checks of each
unfoldable pub checks_from : (ℕ → Data → List (Option ConfigFault)) → ℕ → List Data → List (Option ConfigFault)
checks_from g n [] = []
checks_from g n (d ∷ ds) = g n d ++ checks_from g (n + 1) ds
