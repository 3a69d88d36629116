use Rattle.std.proofs.Common.{sym, subst}
use Rattle.rs_outlet.specs.Decided.HeldBy.{held_by}
use Rattle.rs_outlet.specs.Decided.Precedents.{AreDueAlike}
use Rattle.rs_outlet.proofs.precedent.Precedent.of.Goals as goal

pub returns : goal.returns
returns c =
    let s = c.args.sources.now in
    record {
      client = c.requires.server.client;
      listed = record {
        changes = c.requires.due;
        wholes = c.in_ok-wholes.ensures (held_by s) s.ins.now s.client c.args.speech c.requires.known (subst (AreDueAlike (held_by s) s.ins.now s.client c.args.speech) (sym c.deref.ensures.value) c.requires.due);
      };
      plain = c.requires.server.plain;
    }
