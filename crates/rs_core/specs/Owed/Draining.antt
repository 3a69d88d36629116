-- What is owed to a client is sent where its link has room: a turn decides what is due to it, and room after the turn drains it.
use Rattle.std.specs.Prelude.{◌≡◌, ◌<◌, ◌≤◌, ◌-◌, ℕ, true, false, List, length, take, ⊤}
use Rattle.rs_core.specs.Run.Meaning.{is_established, IsServed}
use Rattle.rs_core.specs.Core.{client_count, is_decided, is_refused, lent_octets, owed}
use Rattle.rs_core.specs.Drives.Steps.{Happened}
use Rattle.rs_core.specs.Drives.Courses.{Course, called}
use Rattle.rs_core.specs.Drives.Answers.{Offers, Nothing, Fails, Takes, Gives, Used, Stopped, Goes_on, Answers, EndsAll}
use Rattle.rs_core.specs.declared.links.Event.TheVariants as events

-- a client is Established, nothing is touched for it, and nothing is owed to it: just then `is_drained` answers yes
pub record IsDrained (x : Course) (c : ℕ) : Type 0 where
  pub client : c < client_count x.core
  pub established : is_established x.run c ≡ true
  pub decided : is_decided x.core c ≡ true
  pub none_owed : owed x.core c ≡ 0

-- ---- a link that takes whole what it is offered

abbrev pub TakesWhole : (c room k : ℕ) (x y : Course) → Offers c room k x y → Type 0
TakesWhole c room k x y (Nothing u core lent none empty) = ⊤
TakesWhole c room k x y (Fails u core after lent some lost) = ⊥
TakesWhole c room k x y (Takes j u core after lent some within taken) = j ≡ length (take room (lent_octets core c))

abbrev pub TakesAll : (c room : ℕ) (x y : Course) → Gives c room x y → Type 0
TakesAll c room x y (Used u) = ⊤
TakesAll c room x y (Stopped r u v some offers) = TakesWhole c r 0 u v offers
TakesAll c room x y (Goes_on r k u v w some within offers rest) = TakesWhole c r k u v offers × TakesAll c (r - k) v w rest

-- ---- rounds

-- a turn, and the ends after it; memory was not refused for client c
pub record TurnsFor (c : ℕ) (x y : Course) : Type 0 where
  pub octets : List ℕ
  pub turned : Course
  pub answers : Answers octets events.Turn (called (Happened events.Turn octets) x) turned
  pub done : is_refused turned.core c ≡ false
  pub ends : EndsAll turned y

-- room for so many octets to client d, all of what was offered was taken, and the ends after it
pub record RoomFor (d room : ℕ) (x y : Course) : Type 0 where
  pub octets : List ℕ
  pub given : Course
  pub gives : Gives d room (called (Happened (events.Room d room) octets) x) given
  pub takes : TakesAll d room (called (Happened (events.Room d room) octets) x) given gives
  pub ends : EndsAll given y

-- so for any clients, one after the other
pub data Rooms (x : Course) : Course → Type 0 where
  NoRoom : Rooms x x
  MoreRoom : (d room : ℕ) (y z : Course) → Rooms x y → RoomFor d room y z → Rooms x z

-- After a turn that was not refused for an Established client, whatever room other clients had before: room of at least what is
-- owed to it, where its link takes whole what it is offered, leaves it drained, and so it was told exactly what is due to it.
pub record LeavesDrained (y : Course) (c : ℕ) : Type 0 where
  pub drained : IsDrained y c
  pub served : IsServed y.run c

abbrev pub RoomDrains : Type 0
RoomDrains = (c room : ℕ) (w x y z : Course) → c < client_count w.core → is_established w.run c ≡ true → TurnsFor c w x → Rooms x y → owed y.core c ≤ room → RoomFor c room y z → LeavesDrained z c
