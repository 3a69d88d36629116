use Rattle.std.proofs.Common.{refl, subst}
use Rattle.rs_policy.specs.Replacing.{Replaces}
use Rattle.rs_core.specs.Core.{client_count}
use Rattle.rs_core.proofs.Run.Agreeing.{on_clients}
use Rattle.rs_core.proofs.Touched.Growing.{ruled_agrees}
use Rattle.rs_core.proofs.Touched.KeptAnswers.{marked_answers}
use Rattle.rs_core.proofs.Run.OtherRules.{ruled}
use Rattle.rs_core.proofs.Touched.Calls.{touches_all}
use Rattle.rs_core.proofs.route_server.Core.rules.Goals as goal

pub returns-clause-accepted : goal.returns-clause-accepted
unfolding client_count
returns-clause-accepted c = λ run h.
    let on = on_clients c.args.self.now run h in
    let replaces = subst (λ s. Replaces s c.args.octets.now c.in_ok-config.config) h.config c.in_ok-config.ensures.accepted in
    record {
      config = c.in_ok-config.config;
      replaces = replaces;
      agrees = ruled_agrees c.in_ok-config.config c.args.self.now _ run refl replaces.same (touches_all c.args.self.now _ run refl c.replace.ensures.touched on)
          (marked_answers c.replace.new.self.tables c.args.self.now.ribs c.replace.new.self c.replace.ensures.touched) h
          (ruled c.args.self.now _ run c.in_ok-config.config replaces.same refl c.replace.ensures.config refl refl refl c.replace.ensures.tables c.replace.ensures.touched on);
    }

pub returns-clause-touched : goal.returns-clause-touched
unfolding client_count
returns-clause-touched c = λ run h. touches_all c.args.self.now _ run refl c.replace.ensures.touched (on_clients c.args.self.now run h)
