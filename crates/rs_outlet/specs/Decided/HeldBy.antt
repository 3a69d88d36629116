-- The tables that the code decides by.
use Rattle.std.specs.Prelude.{◌≡◌, ◌<◌, List, true, Some, length}
use Rattle.rs_adjin.specs.AdjIns.{client_count, held_of, identifier_of, AreNoted}
use Rattle.rs_adjin.specs.declared.adj_ins.AdjIns.{AdjIns}
use Rattle.rs_attrs.specs.Meaning.{Attribute}
use Rattle.rs_attrs.specs.Tagged.{LacksAsked}
use Rattle.rs_attrs.specs.declared.asked.AskedTags.{AskedTags}
use Rattle.rs_policy.specs.Alike.{PassesPlainly, PrefixesAreAlike, ReceiversAreAlike}
use Rattle.rs_policy.specs.Configuration.{Configuration}
use Rattle.rs_policy.specs.Noted.{note_of_import}
use Rattle.rs_outlet.specs.Decided.Due.{Held}
use Rattle.rs_outlet.specs.declared.deciding.Sources.{Sources}

abbrev pub tables_of : Configuration → AdjIns → Held
tables_of config ins = record { settings = config; count = client_count ins; held = held_of ins; identifier = identifier_of ins }

abbrev pub held_by : Sources → Held
held_by s = tables_of s.config.now s.ins.now

-- The tables and the rules are of one server, whose client this is, and each route has the note of its import list. Of the rules on
-- the way to the client three things are known beforehand, where they are so.
pub record AreOfOneServer (s : Sources) : Type 0 where
  pub client : s.client < length s.config.now.clients
  pub count : client_count s.ins.now ≡ length s.config.now.clients
  pub noted : AreNoted (note_of_import s.config.now) s.ins.now
  pub alike : s.alike ≡ true → PrefixesAreAlike s.config.now s.client
  pub plain : (asked : AskedTags) → s.asked ≡ Some asked → PassesPlainly s.config.now s.client asked
  pub receivers : (m : List Attribute) → LacksAsked s.receivers m → ReceiversAreAlike s.config.now s.client m
