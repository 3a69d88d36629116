use Rattle.std.proofs.Common.{subst, sym}
use Rattle.rs_outlet.specs.Decided.Precedents.{IsHandover}
use Rattle.rs_outlet.specs.Decided.HeldBy.{tables_of}
use Rattle.rs_core.specs.Touched.Turns.{IsTurn}
use Rattle.rs_core.proofs.Run.Loops.{walk_begins, walk_on, walk_ends, all_changed, all_numbered}
use Rattle.rs_core.proofs.Touched.Turned.{turn_numbered, turned_fresh}
use Rattle.rs_core.proofs.ribs.Ribs.turn.Goals as goal

pub loop-c-init : goal.loop-c-init
loop-c-init c = record {
  walked = walk_begins _ c.args.self.now;
  handover = c.new-handover.ensures (tables_of c.args.self.now.config c.args.self.now.tables) c.args.self.now.tables;
}

pub turn_one-requires-clause-handover : goal.turn_one-requires-clause-handover
turn_one-requires-clause-handover c =
    subst (λ ins. IsHandover (tables_of c.loop-c.self.config ins) ins c.loop-c.handover) (sym c.loop-c.invariant.walked.tables)
    (subst (λ config. IsHandover (tables_of config c.args.self.now.tables) c.args.self.now.tables c.loop-c.handover) (sym c.loop-c.invariant.walked.settings.config) c.loop-c.invariant.handover)

pub loop-c-preserved : goal.loop-c-preserved
loop-c-preserved c =
    let walked = c.loop-c.invariant.walked in
    record {
      walked =
          walk_on _ _ c.loop-c.c c.args.self.now c.loop-c.self c.turn_one.new.self c.loop-c-test.true walked c.turn_one.ensures.settings c.turn_one.ensures.tables c.turn_one.ensures.outlet
          (λ v w so. subst (λ config. IsTurn config c.args.self.now.tables v w) walked.settings.config (subst (λ ins. IsTurn c.loop-c.self.config ins v w) walked.tables so));
      handover =
          subst (λ config. IsHandover (tables_of config c.args.self.now.tables) c.args.self.now.tables c.turn_one.new.handover) walked.settings.config
          (subst (λ ins. IsHandover (tables_of c.loop-c.self.config ins) ins c.turn_one.new.handover) walked.tables c.turn_one.ensures.handover);
    }

pub returns : goal.returns
returns c =
    let done = walk_ends (λ k. IsTurn c.args.self.now.config c.args.self.now.tables) c.loop-c.c c.args.self.now c.loop-c.self c.loop-c.auto.c-end c.loop-c-test.false c.loop-c.invariant.walked in
    record {
      settings = done.settings;
      tables = done.tables;
      turned = all_changed _ c.args.self.now c.loop-c.self done;
      kept = record {
        numbered = λ h. all_numbered _ c.args.self.now c.loop-c.self done (λ d v w so. turn_numbered c.args.self.now.config c.args.self.now.tables v w so) h;
        fresh = λ h f. turned_fresh c.args.self.now c.loop-c.self done h f;
      };
    }
