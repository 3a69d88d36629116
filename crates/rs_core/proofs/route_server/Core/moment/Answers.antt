use Rattle.std.proofs.Common.{refl, sym, ◌∙◌, arith}
use Rattle.rs_core.specs.Core.{client_count}
use Rattle.rs_core.proofs.Run.Agreeing.{none_seen, one_seen, all_seen}
use Rattle.rs_core.proofs.Touched.Growing.{saw_agrees}
use Rattle.rs_core.proofs.Touched.KeptAnswers.{answers_on}
use Rattle.rs_core.proofs.Touched.Moments.{all_touched_then, none_touched_yet, one_touched_more}
use Rattle.rs_core.proofs.route_server.Core.moment.Goals as goal

pub loop-c-init : goal.loop-c-init
unfolding client_count
loop-c-init c = record { count = refl; seen = λ run h. none_seen c.args.t c.args.self.now run h; touched = λ run h. none_touched_yet c.args.t c.args.self.now run; answers = λ d none lt. refl }

pub loop-c-preserved : goal.loop-c-preserved
unfolding client_count
loop-c-preserved c = record {
  count = c.see.ensures.spares.count ∙ c.loop-c.invariant.count;
  seen = λ run h. one_seen c.args.t c.loop-c.c _ c.loop-c.self c.see.new.self run (omega arith) (omega arith) c.see.ensures.spares c.see.ensures.seen (c.loop-c.invariant.seen run h);
  touched = λ run h. one_touched_more c.args.t c.loop-c.c _ c.args.self.now c.loop-c.self c.see.new.self run (omega arith) (omega arith) c.loop-c.invariant.count (c.loop-c.invariant.seen run h) c.see.ensures.spares.config c.see.ensures.seen c.see.ensures.others_touched c.see.ensures.keeps
      (c.loop-c.invariant.touched run h);
  answers = answers_on c.args.self.now.ribs c.loop-c.self.ribs c.see.new.self.ribs (c.loop-c.self.ribs_len ∙ c.loop-c.invariant.count ∙ sym c.args.self.now.ribs_len) c.loop-c.invariant.answers c.see.ensures.spares.answers;
}

pub returns-clause-saw : goal.returns-clause-saw
unfolding client_count
returns-clause-saw c = λ run h. saw_agrees c.args.t c.args.self.now c.loop-c.self run c.loop-c.invariant.count
    (all_touched_then c.args.t c.loop-c.c c.args.self.now c.loop-c.self run (omega arith) (omega arith) c.loop-c.invariant.count (c.loop-c.invariant.touched run h))
    c.loop-c.invariant.answers h
    (all_seen c.args.t c.loop-c.c c.loop-c.self run (omega arith) (c.loop-c.invariant.seen run h))

pub returns-clause-touched : goal.returns-clause-touched
unfolding client_count
returns-clause-touched c = λ run h. all_touched_then c.args.t c.loop-c.c c.args.self.now c.loop-c.self run (omega arith) (omega arith) c.loop-c.invariant.count (c.loop-c.invariant.touched run h)
