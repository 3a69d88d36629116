-- What a turn makes of an outlet, by the tables and the rules.
use Rattle.std.specs.Prelude.{◌≡◌, Some, None, IsSome, false, if◌then◌else◌}
use Rattle.std.specs.FinMap as map
use Rattle.std.specs.FinSet as set
use Rattle.rs_octets.specs.Prefixes.{Prefix}
use Rattle.rs_adjin.specs.declared.adj_ins.AdjIns.{AdjIns}
use Rattle.rs_policy.specs.Configuration.{Configuration}
use Rattle.rs_outlet.specs.declared.answers.Speech.{Speech}
use Rattle.rs_outlet.specs.declared.answers.Last.TheVariants.{Done, Refused}
use Rattle.rs_outlet.specs.declared.answers.Turned.{Turned}
use Rattle.rs_outlet.specs.Views.{View, IsCount, is_touched, is_whole}
use Rattle.rs_outlet.specs.Decided.Due.{any_holds, due_to}
use Rattle.rs_outlet.specs.Decided.HeldBy.{tables_of}

-- where a prefix is not stale, the Loc-RIB has what is due there
abbrev pub IsCurrent : Configuration → AdjIns → View → Type 0
IsCurrent config ins v = (speech : Speech) → v.speech ≡ Some speech → (p : Prefix) → is_touched v.stale p ≡ false → map.get v.loc p ≡ due_to (tables_of config ins) v.client speech p

-- what a turn does that is not refused, where each prefix stands at its number and what is not stale is due: each touched prefix has what is due there,
-- each other what it had; what was told stays, and what is to be told again; an outlet that is not up decides nothing
pub record HasTurned (config : Configuration) (ins : AdjIns) (old new : View) (turned : Turned) : Type 0 where
  pub loc : (speech : Speech) → old.speech ≡ Some speech → (p : Prefix) → map.get new.loc p ≡ (if is_touched old.touched p then due_to (tables_of config ins) old.client speech p else map.get old.loc p)
  pub told : new.told ≡ old.told
  pub marked : new.marked ≡ old.marked
  pub touched : IsSome old.speech → new.touched ≡ Some set.empty
  pub stale : IsSome old.speech → new.stale ≡ Some set.empty
  pub whole : IsSome old.speech → turned.whole ≡ is_whole old.touched
  pub count : IsSome old.speech → IsCount (any_holds (tables_of config ins)) old.loc old.touched turned.decided
  pub down : old.speech ≡ None → (turned ≡ record { decided = 0; whole = false }) × (new ≡ record old { last = Done turned })
  pub last : new.last ≡ Done turned

-- what a turn does that memory was refused: it was of an outlet that is up, and nothing but the answer of the last turn has changed
pub record IsRefused (old new : View) : Type 0 where
  pub up : IsSome old.speech
  pub rest : new ≡ record old { last = Refused }
