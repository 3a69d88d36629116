-- When a KEEPALIVE is due to a client, and when it goes out (RFC 4271, 4.4 and 8.2.2).
use Rattle.std.specs.Prelude.{◌≡◌, ◌≢◌, ◌⊎◌, ℕ, Bool, true, false, List, [], ◌∷◌, ◌++◌, if◌then◌else◌}
use Rattle.rs_octets.specs.declared.heads.Kind.TheVariants as kinds
use Rattle.rs_octets.specs.Messages.{IsMessageOf}
use Rattle.rs_open.specs.Writing.{keepalive, server_open}
use Rattle.rs_open.specs.declared.short.Limit.{Limit}
use Rattle.rs_open.specs.declared.short.Short.TheVariants as short
use Rattle.rs_open.specs.declared.writing.ServerOpen.{ServerOpen}
use Rattle.rs_session.specs.declared.act.Act.{Act}
use Rattle.rs_session.specs.declared.act.Act.TheVariants as acts
use Rattle.rs_core.specs.Told.Telling.{allowed_to}

pub data KeepaliveMove : Type 0 where
  FellDue : KeepaliveMove  -- a KEEPALIVE fell due
  Begun : (taken : List ℕ) → KeepaliveMove  -- where none was in flight the next message began, if there was one; these octets were taken before

-- a session asks for a KEEPALIVE: it has accepted the OPEN, or a third of the Hold Time has passed since one fell due
abbrev pub asks_for_keepalive : Act → Bool
asks_for_keepalive acts.None = false
asks_for_keepalive (acts.Say short.Open) = false
asks_for_keepalive (acts.Say short.Keepalive) = true
asks_for_keepalive (acts.Say (short.Note code sub extra count)) = false
asks_for_keepalive acts.Up = false
asks_for_keepalive (acts.Down ending) = false
asks_for_keepalive acts.Again = false

abbrev pub fell_if : Bool → List KeepaliveMove → List KeepaliveMove
fell_if falls keepalives = if falls then FellDue ∷ keepalives else keepalives

-- the next message while a session lasts: a KEEPALIVE where one is due, and else an UPDATE, no longer than the client takes, or none
abbrev pub IsNext : Limit → Bool → List ℕ → Type 0
IsNext limit true octets = octets ≡ keepalive
IsNext limit false octets = (octets ≡ []) ⊎ IsMessageOf (allowed_to limit) kinds.Update octets

-- Before this beginning these octets were put on the connection, and a KEEPALIVE was due or not. Where some of them were not yet
-- taken, nothing began. Where all were, the next message began, and no KEEPALIVE is due any more.
pub record IsBegunAt (limit : Limit) (taken before : List ℕ) (was : Bool) (octets : List ℕ) (due : Bool) : Type 0 where
  pub message : List ℕ
  pub whole : octets ≡ before ++ message
  pub is : ((before ≢ taken) × (message ≡ []) × (due ≡ was)) ⊎ ((before ≡ taken) × IsNext limit was message × (due ≡ false))

-- While a session lasts, this was put on the connection, after the OPEN, by what befell the client, the newest first, and a
-- KEEPALIVE is due or not: it is, exactly where one fell due since the last message began.
abbrev pub AreKeepalives : ServerOpen → Limit → List KeepaliveMove → List ℕ → Bool → Type 0
AreKeepalives said limit [] octets due = (octets ≡ server_open said) × (due ≡ false)
AreKeepalives said limit (FellDue ∷ keepalives) octets due = (due ≡ true) × (was : Bool) × AreKeepalives said limit keepalives octets was
AreKeepalives said limit (Begun taken ∷ keepalives) octets due =
    (before : List ℕ) × (was : Bool) × AreKeepalives said limit keepalives before was × IsBegunAt limit taken before was octets due
