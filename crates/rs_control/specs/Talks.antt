-- The course of a talk.
use Rattle.std.specs.Prelude.{◌≡◌, ◌≢◌, ◌≤◌, ◌<◌, ◌⊎◌, ◌==◌, ◌||◌, ℕ, ◌+◌, ◌-◌, min, Bool, true, false, not, List, [], ◌∷◌, ◌++◌, length, take, drop, filter, Option, Some, None, if◌then◌else◌}
use Rattle.std.specs.List.{after_first}
use Rattle.rs_policy.specs.Configuration.{Configuration}
use Rattle.rs_window.specs.declared.page.Page.{Page}
use Rattle.rs_window.specs.declared.page.Next.{Next}
use Rattle.rs_window.specs.Pages.{page_behind, is_end, is_cut}
use Rattle.rs_control.specs.declared.order.Order.TheVariants.{Reload}
use Rattle.rs_control.specs.declared.orders.Orders.{Orders}
use Rattle.rs_control.specs.declared.steps.Outcome.{Outcome}
use Rattle.rs_control.specs.declared.steps.Outcome.TheVariants as outcomes
use Rattle.rs_control.specs.declared.steps.Owed.{Owed}
use Rattle.rs_control.specs.declared.fronts.Front.{Front}
use Rattle.rs_control.specs.declared.fronts.Front.TheVariants as fronts
use Rattle.rs_control.specs.declared.talk.Talk.{Talk}
use Rattle.rs_control.specs.Answers.{no_memory, long_line}
use Rattle.rs_control.specs.Fronts.{is_end as is_line_end}
use Rattle.rs_control.specs.Lines.{line_meaning}
use Rattle.rs_control.specs.Orders.{due, given_of, IsReloading}
use Rattle.rs_control.specs.Steps.{ComesOf}

-- what was said and not answered
abbrev pub said : Talk → List ℕ
said talk = talk.heard.items

-- what is to be sent still
abbrev pub unsent : Talk → List ℕ
unsent talk = talk.outbox

-- the page that is being written
abbrev pub page_of : Talk → Option Page
page_of talk = talk.page

-- the order whose answer is owed
abbrev pub owed_of : Talk → Option Owed
owed_of talk = talk.owed

-- the answer on its way is the last
abbrev pub is_last : Talk → Bool
is_last talk = talk.is_last

-- the operator says nothing more
abbrev pub has_ended : Talk → Bool
has_ended talk = talk.has_ended

-- the rest of a line that is too long is passed over
abbrev pub is_passing : Talk → Bool
is_passing talk = talk.is_passing

-- nothing was said yet
pub record IsFresh (talk : Talk) : Type 0 where
  pub said_is : said talk ≡ []
  pub passing : is_passing talk ≡ false
  pub unsent_is : unsent talk ≡ []
  pub page_is : page_of talk ≡ None
  pub owed_is : owed_of talk ≡ None
  pub last : is_last talk ≡ false
  pub ended : has_ended talk ≡ false

-- all but what was said is as it was
pub record SameAnswer (old new : Talk) : Type 0 where
  pub unsent_is : unsent new ≡ unsent old
  pub page_is : page_of new ≡ page_of old
  pub owed_is : owed_of new ≡ owed_of old
  pub last : is_last new ≡ is_last old

-- the operator said this, of which a line's room is kept; what is left of one that is too long is passed over
pub record Hears (octets : List ℕ) (old new : Talk) : Type 0 where
  pub said_is : said new ≡ said old ++ take (1025 - length (said old)) (if is_passing old then after_first is_line_end octets else octets)
  pub ended : has_ended new ≡ has_ended old
  pub answer : SameAnswer old new

-- the operator says nothing more
pub record Ends (old new : Talk) : Type 0 where
  pub said_is : said new ≡ said old
  pub ended : has_ended new ≡ true
  pub answer : SameAnswer old new

-- so many octets were sent
pub record Takes (count : ℕ) (old new : Talk) : Type 0 where
  pub unsent_is : unsent new ≡ drop count (unsent old)
  pub page_is : page_of new ≡ page_of old
  pub owed_is : owed_of new ≡ owed_of old
  pub said_is : said new ≡ said old
  pub last : is_last new ≡ is_last old
  pub ended : has_ended new ≡ has_ended old

-- these octets are to be sent; where there is no room for them the talk ends
abbrev pub IsAnswered : List ℕ → Talk → Type 0
IsAnswered answer talk = (length answer ≤ 34816 → unsent talk ≡ answer) × (34816 < length answer → is_last talk ≡ true)

-- the answer is on its way, or owed
abbrev pub TakesUp : Outcome → Talk → Type 0
TakesUp (outcomes.Page page) talk = (page_of talk ≡ Some page) × (unsent talk ≡ [])
TakesUp (outcomes.Text text) talk = IsAnswered text.items talk
TakesUp (outcomes.Fixed text) talk = IsAnswered text.now talk
TakesUp (outcomes.Owed owed) talk = (owed_of talk ≡ Some owed) × (unsent talk ≡ [])

-- a line is answered by what comes of it, once; or memory is refused: nothing is ordered, and the answer says so
pub data Obeys (finds : List ℕ → Option Page → Type 0) (config : Configuration) (line : List ℕ) (orders ordered : Orders) (talk : Talk) : Type 0 where
  Obeyed : (outcome : Outcome) → ComesOf finds config (line_meaning config line) orders ordered outcome → TakesUp outcome talk → Obeys finds config line orders ordered talk
  NoMemory : due ordered ≡ due orders → unsent talk ≡ no_memory → Obeys finds config line orders ordered talk

-- what comes of what stands in front: no order of no whole line, which waits for more, nor of one that is too long, which is answered
abbrev pub Begins : (List ℕ → Option Page → Type 0) → Configuration → Front → Orders → Orders → Talk → Talk → Type 0
Begins finds config fronts.Part orders ordered old new = (due ordered ≡ due orders) × (said new ≡ said old) × (is_last new ≡ has_ended old)
Begins finds config fronts.Long orders ordered old new = (due ordered ≡ due orders) × (said new ≡ []) × (is_passing new ≡ true) × (unsent new ≡ long_line)
Begins finds config (fronts.Line count) orders ordered old new = Obeys finds config (take count (said old)) orders ordered new × (said new ≡ drop (min (count + 1) (length (said old))) (said old))

-- one piece of the page is to be sent, its lines as one, and behind the last the end of the line; one that is cut off is the last answer
pub record PutsPiece (piece : List ℕ) (next : Next) (old new : Talk) : Type 0 where
  pub unsent_is : unsent new ≡ filter (λ octet. not (octet == 10)) piece ++ (if is_end next then 10 ∷ [] else [])
  pub page_is : page_of new ≡ page_behind next
  pub said_is : said new ≡ said old
  pub last : is_last new ≡ (is_last old || is_cut next)

-- nothing is put, and it was the last answer
pub record CutsOff (old new : Talk) : Type 0 where
  pub unsent_is : unsent new ≡ []
  pub page_is : page_of new ≡ None
  pub said_is : said new ≡ said old
  pub last : is_last new ≡ true

-- one piece of the page is put, unless memory is refused
pub data GoesOn (writes : List ℕ → Next → Type 0) (old new : Talk) : Type 0 where
  Wrote : (piece : List ℕ) (next : Next) → writes piece next → PutsPiece piece next old new → GoesOn writes old new
  Cut : CutsOff old new → GoesOn writes old new

-- An order is answered once it was given, and it is known what came of it; the answer says something.
pub data Pays (orders : Orders) (owed : Owed) (old new : Talk) : Type 0 where
  Waits : ((given_of orders < owed.number) ⊎ ((owed.order ≡ Reload) × IsReloading orders)) → new ≡ old → Pays orders owed old new
  Paid : (answer : List ℕ) → owed.number ≤ given_of orders → answer ≢ [] → IsAnswered answer new → owed_of new ≡ None → said new ≡ said old → Pays orders owed old new

-- an answer is owed or on its way, or was the last
abbrev pub IsBusy : Talk → Type 0
IsBusy talk = (unsent talk ≢ []) ⊎ (page_of talk ≢ None) ⊎ (owed_of talk ≢ None) ⊎ (is_last talk ≡ true)
