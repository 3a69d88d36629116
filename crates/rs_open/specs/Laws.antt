-- What whoever hears a message of ours has from it.
use Rattle.std.specs.Prelude.{◌≡◌, ◌≢◌, ℕ, ◌<◌, ◌≤◌, ◌^◌, false, List, length, take, Some, ⊤}
use Rattle.rs_octets.specs.declared.heads.Allowed.{Allowed}
use Rattle.rs_octets.specs.declared.heads.Kind.{Kind}
use Rattle.rs_octets.specs.declared.heads.Kind.TheVariants as kinds
use Rattle.rs_octets.specs.Headers.{longest}
use Rattle.rs_octets.specs.Messages.{IsMessageOf, body_of}
use Rattle.rs_open.specs.declared.open.Open.{Open}
use Rattle.rs_open.specs.declared.short.Short.{Short}
use Rattle.rs_open.specs.declared.short.Short.TheVariants as shorts
use Rattle.rs_open.specs.declared.writing.ServerOpen.{ServerOpen}
use Rattle.rs_octets.specs.HoldTimes.{is_refused_hold}
use Rattle.rs_open.specs.Writing.{my_as_said, body_said, notification, server_open, short_octets}

-- it is no longer than its receiver takes, as an OPEN of ours and a KEEPALIVE always are
abbrev pub Fits : Allowed → Short → Type 0
Fits allowed shorts.Open = ⊤
Fits allowed shorts.Keepalive = ⊤
Fits allowed (shorts.Note code sub extra count) = length (notification code sub (take count extra)) ≤ longest allowed

-- as is a NOTIFICATION with 129 octets of data at most
abbrev pub NoteFits : Type 0
NoteFits = (allowed : Allowed) (code sub : ℕ) (extra : List ℕ) (count : ℕ) → length (take count extra) ≤ 129 → Fits allowed (shorts.Note code sub extra count)

-- the type that stands in its header (RFC 4271, 4.1)
abbrev pub kind_of : Short → Kind
kind_of shorts.Open = kinds.Open
kind_of shorts.Keepalive = kinds.Keepalive
kind_of (shorts.Note code sub extra count) = kinds.Note

-- to whoever takes messages of that length it is one whole message of its type
abbrev pub ShortIsMessage : Type 0
ShortIsMessage =
    (allowed : Allowed) (said : ServerOpen) (short : Short) → Fits allowed short → IsMessageOf allowed (kind_of short) (short_octets said short)

-- behind the header of an OPEN of ours stands its body
abbrev pub OpenHasItsBody : Type 0
OpenHasItsBody = (said : ServerOpen) → body_of (server_open said) ≡ body_said said

-- its numbers fit, the Hold Time is 0 or at least 3, and the identifier isn't 0
pub record IsOpenToSay (said : ServerOpen) : Type 0 where
  pub number : said.server_as < 2 ^ 32
  pub hold : said.hold < 2 ^ 16
  pub identifier : said.identifier < 2 ^ 32
  pub good_hold : is_refused_hold said.hold ≡ false
  pub some_identifier : said.identifier ≢ 0

abbrev pub heard_from : ServerOpen → Open
heard_from said = record {
  my_as = my_as_said said.server_as;
  four = Some said.server_as;
  hold = said.hold;
  identifier = said.identifier;
  long = said.extended;
}
