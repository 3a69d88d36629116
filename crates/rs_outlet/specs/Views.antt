-- What contracts see of an outlet, and what its calls make of that.
use Rattle.std.specs.Prelude.{◌≡◌, ◌⊎◌, ℕ, Bool, true, false, ◌&&◌, not, ◌||◌, List, [], nat_lt, Option, Some, None, IsSome, if◌then◌else◌, refl}
use Rattle.std.specs.List.{AllByRecursion}
use Rattle.rs_adjin.specs.AdjIns.{number_of}
use Rattle.rs_adjin.specs.declared.adj_ins.AdjIns.{AdjIns}
use Rattle.std.specs.Coded.{Coded, code_by, coded×, coded_ℕ, coded_bool}
use Rattle.std.specs.FinMap as map
use Rattle.std.specs.FinSet as set
use Rattle.std.specs.FinMap.{FinMap}
use Rattle.std.specs.FinSet.{FinSet}
use Rattle.rs_octets.specs.Prefixes.{Prefix, prefix_order}
use Rattle.rs_attrs.specs.Meaning.{Attribute, attributes_code}
use Rattle.rs_attrs.specs.Comparing.{same_attributes}
use Rattle.rs_open.specs.declared.short.Short.{Short}
use Rattle.rs_outlet.specs.declared.answers.Speech.{Speech}
use Rattle.rs_outlet.specs.declared.answers.Last.{Last}

abbrev pub Table : Type 0
Table = FinMap prefix_order (List Attribute)

abbrev pub Prefixes : Type 0
Prefixes = FinSet prefix_order

abbrev pub Waiting : Type 0
Waiting = FinMap prefix_order Bool

-- `loc`: the Loc-RIB, due at the last turn. `told`: what the messages begun so far leave with the client. `flight`: the
-- octets still to lend. `keepalive_due`: a KEEPALIVE is due. `note`: a NOTIFICATION waits. `touched`: the prefixes to decide at the
-- next turn, and with None all. `stale`: of these the ones where something else may be due than the Loc-RIB has; with None all may
-- be. `marked`: those told that are to be told again. `waits`: the prefixes that wait for a
-- message, each with whether it is to be withdrawn. `numbers`: the prefixes that are due or touched by themselves, each with
-- the number that it was touched with.
pub record View : Type 0 where
  pub client : ℕ
  pub extended : Bool
  pub speech : Option Speech
  pub loc : Table
  pub told : Table
  pub flight : List ℕ
  pub keepalive_due : Bool
  pub note : Option Short
  pub touched : Option Prefixes
  pub stale : Option Prefixes
  pub marked : Prefixes
  pub waits : Waiting
  pub numbers : List (ℕ × Prefix)
  pub last : Last

-- nothing is there but what it was made with and the answer of the last turn
abbrev pub bare : ℕ → Bool → Last → View
bare client extended last = record { client = client; extended = extended; speech = None; loc = map.empty; told = map.empty; flight = []; keepalive_due = false; note = None; touched = Some set.empty; stale = Some set.empty; marked = set.empty; waits = map.empty; numbers = []; last = last }

abbrev pub cleared : View → View
cleared v = bare v.client v.extended v.last

abbrev pub flight_after : Option Short → List ℕ → List ℕ
flight_after None octets = []
flight_after (Some note) octets = octets

-- the session has ended, with this NOTIFICATION or with none
abbrev pub finished : Option Short → View → View
finished note v = record (cleared v) { flight = flight_after note v.flight; note = note }

-- a session begins: nothing is due or told, and all is to be decided
abbrev pub begun : Speech → View → View
begun speech v = record v { speech = Some speech; loc = map.empty; told = map.empty; touched = None; stale = None; marked = set.empty; waits = map.empty; numbers = [] }

-- each of these prefixes has the number beside it
abbrev pub HaveNumbers : List (ℕ × Prefix) → AdjIns → Type 0
HaveNumbers es ins = AllByRecursion (λ e. number_of ins e.1 ≡ Some e.0) es

-- each prefix that is due or touched by itself has the number that it stands at
abbrev pub AreNumbered : View → AdjIns → Type 0
AreNumbered v ins = HaveNumbers v.numbers ins

-- ---- touches

-- with p, or all where there is no room for it
abbrev pub with_touch : Option Prefixes → Prefix → Option Prefixes
with_touch None p = None
with_touch (Some s) p = if set.contains s p then Some s else if nat_lt (set.len s) 4096 then Some (set.insert s p) else None

-- before the client is Established nothing is touched
abbrev pub if_up : {A : Type 0} → Option Speech → A → A → A
if_up None then_is was = was
if_up (Some speech) then_is was = then_is

abbrev pub touched_at : Prefix → View → View
touched_at p v = record v { touched = if_up v.speech (with_touch v.touched p) v.touched }

abbrev pub is_touched : Option Prefixes → Prefix → Bool
is_touched None p = true
is_touched (Some s) p = set.contains s p

abbrev pub is_whole : Option Prefixes → Bool
is_whole None = true
is_whole (Some s) = false

-- ---- what is stale

-- what is stale is touched
abbrev pub IsStaleTouched : View → Type 0
IsStaleTouched v = (p : Prefix) → is_touched v.touched p ≡ false → is_touched v.stale p ≡ false

-- where the client is Established p is stale now, and all that was stale still is
pub record IsStaleToo (p : Prefix) (old new : View) : Type 0 where
  pub added : IsSome old.speech → is_touched new.stale p ≡ true
  pub kept : (q : Prefix) → is_touched old.stale q ≡ true → is_touched new.stale q ≡ true

-- ---- turns

-- it is one of two
abbrev pub IsOneOf : Option (List Attribute) → Option (List Attribute) → Option (List Attribute) → Type 0
IsOneOf m a b = (m ≡ a) ⊎ (m ≡ b)

-- so many prefixes pass the test
pub record IsNumberOf (is_in : Prefix → Bool) (n : ℕ) : Type 0 where
  pub all : Prefixes
  pub holds : (p : Prefix) → set.contains all p ≡ is_in p
  pub size : n ≡ set.len all

-- How many prefixes a turn decides, each once: those touched; with all, those that a client holds or the Loc-RIB has. One that is not
-- stale counts too, though the body passes over it: it has the value that deciding it anew gives.
abbrev pub IsCount : (Prefix → Bool) → Table → Option Prefixes → ℕ → Type 0
IsCount held loc None n = IsNumberOf (λ p. map.contains_key loc p || held p) n
IsCount held loc (Some s) n = n ≡ set.len s

-- ---- what waits

-- whether a prefix waits for a message, and whether that is a withdrawal, where this is due and this was told
abbrev pub waits_at : Option (List Attribute) → Option (List Attribute) → Bool → Option Bool
waits_at None None marked = None
waits_at None (Some told) marked = Some true
waits_at (Some due) None marked = Some false
waits_at (Some due) (Some told) marked = if same_attributes due told && not marked then None else Some false

-- the prefixes that wait are those at which something else is due than was told, and those marked
abbrev pub WaitsAreExact : View → Type 0
WaitsAreExact v = (p : Prefix) → map.get v.waits p ≡ waits_at (map.get v.loc p) (map.get v.told p) (set.contains v.marked p)

-- ---- nothing is left to do

-- nothing is touched, marked or in flight, no KEEPALIVE is due, and what was told is what is due
pub record IsDrained (v : View) : Type 0 where
  pub up : IsSome v.speech
  pub untouched : v.touched ≡ Some set.empty
  pub unmarked : v.marked ≡ set.empty
  pub told : v.told ≡ v.loc
  pub flight : v.flight ≡ []
  pub keepalive_due : v.keepalive_due ≡ false

-- ---- codes, which a Model asks for

abbrev pub prefix_code : Coded Prefix
prefix_code = code_by (ℕ × ℕ) (coded× coded_ℕ coded_ℕ) (λ s. (s.bits, s.len)) (λ p. record { bits = p.0; len = p.1 }) (λ _. refl)

abbrev pub table_code : Coded Table
table_code = map.code prefix_code attributes_code

abbrev pub waiting_code : Coded Waiting
waiting_code = map.code prefix_code coded_bool

abbrev pub prefixes_code : Coded Prefixes
prefixes_code = set.code prefix_code
