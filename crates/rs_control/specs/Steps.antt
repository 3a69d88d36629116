-- What comes of a line.
use Rattle.std.specs.Prelude.{◌≡◌, ◌<◌, ℕ, ◌+◌, List, [], ◌∷◌, ◌++◌, length, codes, Option, Some, None}
use Rattle.rs_policy.specs.Configuration.{Configuration, client_of}
use Rattle.rs_window.specs.declared.page.Page.{Page}
use Rattle.rs_control.specs.declared.order.Order.{Order}
use Rattle.rs_control.specs.declared.orders.Orders.{Orders}
use Rattle.rs_control.specs.declared.steps.Outcome.{Outcome}
use Rattle.rs_control.specs.declared.steps.Outcome.TheVariants as outcomes
use Rattle.rs_control.specs.Answers.{SaysSomething, IsError}
use Rattle.rs_control.specs.Lines.{Meaning, Help, Show, ShowMember, Why, Ordered, Refused}
use Rattle.rs_control.specs.Orders.{due, given_of, IsShut}

-- the answer is a text such as this
abbrev pub IsTextThat : (List ℕ → Type 0) → Outcome → Type 0
IsTextThat Is (outcomes.Page page) = ⊥
IsTextThat Is (outcomes.Text text) = Is text.items
IsTextThat Is (outcomes.Fixed text) = Is text.now
IsTextThat Is (outcomes.Owed owed) = ⊥

-- it is a text that says something
abbrev pub IsText : Outcome → Type 0
IsText outcome = IsTextThat SaysSomething outcome

-- the page that was found, or a text where there is none
abbrev pub IsFound : Option Page → Outcome → Type 0
IsFound None outcome = IsText outcome
IsFound (Some page) outcome = outcome ≡ outcomes.Page page

pub record Shows (finds : List ℕ → Option Page → Type 0) (target : List ℕ) (outcome : Outcome) : Type 0 where
  pub page : Option Page
  pub found : finds target page
  pub is : IsFound page outcome

-- an order is put behind those that are due, and its answer owed by its number; or it can't be put
pub data Puts (order : Order) (old new : Orders) (outcome : Outcome) : Type 0 where
  Put : (number : ℕ) → outcome ≡ outcomes.Owed (record { number = number; order = order }) → due new ≡ due old ++ order ∷ [] → number ≡ given_of new + length (due new) → Puts order old new outcome
  Shut : IsShut old → due new ≡ due old → IsText outcome → Puts order old new outcome

abbrev pub member_target : Configuration → ℕ → List ℕ
member_target config c = codes "/protocols/bgp/" ++ (client_of config c).name

abbrev pub why_target : Configuration → ℕ → List ℕ → List ℕ
why_target config c prefix = codes "/why?to=" ++ (client_of config c).name ++ codes "&prefix=" ++ prefix

-- what comes of a line by what it asks for: an order is put by no other
abbrev pub ComesOf : (List ℕ → Option Page → Type 0) → Configuration → Meaning → Orders → Orders → Outcome → Type 0
ComesOf finds config Help old new outcome = (due new ≡ due old) × IsText outcome
ComesOf finds config Show old new outcome = (due new ≡ due old) × Shows finds (codes "/protocols/bgp") outcome
ComesOf finds config (ShowMember c) old new outcome = (due new ≡ due old) × (c < length config.clients → Shows finds (member_target config c) outcome)
ComesOf finds config (Why c prefix) old new outcome = (due new ≡ due old) × (c < length config.clients → Shows finds (why_target config c prefix) outcome)
ComesOf finds config (Ordered order) old new outcome = Puts order old new outcome
ComesOf finds config (Refused cause word) old new outcome = (due new ≡ due old) × IsTextThat IsError outcome
