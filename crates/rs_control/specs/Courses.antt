-- The course of a talk beside the orders: what it hears, sends, and goes on by.
use Rattle.std.specs.Prelude.{◌≡◌, ◌≢◌, ◌⊎◌, ℕ, false, List, [], Option, Some, None, IfSome}
use Rattle.rs_policy.specs.Configuration.{Configuration}
use Rattle.rs_window.specs.declared.page.Page.{Page}
use Rattle.rs_window.specs.declared.page.Next.{Next}
use Rattle.rs_control.specs.declared.orders.Orders.{Orders}
use Rattle.rs_control.specs.declared.talk.Talk.{Talk}
use Rattle.rs_control.specs.Fronts.{front_in}
use Rattle.rs_control.specs.Orders.{due}
use Rattle.rs_control.specs.Talks.{Begins, GoesOn, Hears, Ends, IsBusy, IsFresh, Pays, Takes, has_ended, is_last, owed_of, page_of, said, unsent}

-- what `Talk::advance` does, with the orders before and after
pub record Advances (finds : List ℕ → Option Page → Type 0) (writes : Page → List ℕ → Next → Type 0) (config : Configuration) (orders ordered : Orders) (old new : Talk) : Type 0 where
  pub begins : unsent old ≡ [] → page_of old ≡ None → owed_of old ≡ None → is_last old ≡ false → Begins finds config (front_in (said old) (has_ended old)) orders ordered old new
  pub goes_on : unsent old ≡ [] → IfSome (page_of old) (λ page. GoesOn (writes page) old new)
  pub pays : unsent old ≡ [] → page_of old ≡ None → IfSome (owed_of old) (λ owed. Pays orders owed old new)
  pub busy : IsBusy old → due ordered ≡ due orders

-- what the operator says, if anything
pub data Listens (old new : Talk) : Type 0 where
  Silent : new ≡ old → Listens old new
  Heard : (octets : List ℕ) → Hears octets old new → Listens old new
  Ended : Ends old new → Listens old new

-- what was sent
pub record Sends (old new : Talk) : Type 0 where
  pub count : ℕ
  pub takes : Takes count old new

-- one step of a talk
pub data Step (finds : List ℕ → Option Page → Type 0) (writes : Page → List ℕ → Next → Type 0) (config : Configuration) (orders ordered : Orders) (old new : Talk) : Type 0 where
  Listen : ordered ≡ orders → Listens old new → Step finds writes config orders ordered old new
  Send : ordered ≡ orders → Sends old new → Step finds writes config orders ordered old new
  Advance : Advances finds writes config orders ordered old new → Step finds writes config orders ordered old new

-- steps, one behind the other
pub data Course (finds : List ℕ → Option Page → Type 0) (writes : Page → List ℕ → Next → Type 0) (config : Configuration) : Orders → Talk → Orders → Talk → Type 0 where
  Still : (orders : Orders) (talk : Talk) → Course finds writes config orders talk orders talk
  Then : (orders ordered last : Orders) (first old new : Talk) → Course finds writes config orders first ordered old → Step finds writes config ordered last old new → Course finds writes config orders first last new

-- each talk that somebody has now is the one that they had, or a fresh one
abbrev pub AreOfThese : (ℕ → Option Talk) → (ℕ → Option Talk) → Type 0
AreOfThese old new = (key : ℕ) → IfSome (new key) (λ talk. (old key ≡ Some talk) ⊎ IsFresh talk)

-- the orders of a server, and the talks with those who are there, by their keys: each goes on by its course, others stay as they are
-- meanwhile; and between, callers come with fresh talks, and go
pub data Serves (finds : List ℕ → Option Page → Type 0) (writes : Page → List ℕ → Next → Type 0) (config : Configuration) : Orders → (ℕ → Option Talk) → Orders → (ℕ → Option Talk) → Type 0 where
  Nobody : (orders : Orders) (talks : ℕ → Option Talk) → Serves finds writes config orders talks orders talks
  ComeAndGo : (orders ordered : Orders) (first talks after : ℕ → Option Talk) → Serves finds writes config orders first ordered talks → AreOfThese talks after → Serves finds writes config orders first ordered after
  Somebody : (orders ordered last : Orders) (first talks after : ℕ → Option Talk) (key : ℕ) (old new : Talk) → Serves finds writes config orders first ordered talks → talks key ≡ Some old → Course finds writes config ordered old last new → after key ≡ Some new
      → ((other : ℕ) → other ≢ key → after other ≡ talks other) → Serves finds writes config orders first last after
