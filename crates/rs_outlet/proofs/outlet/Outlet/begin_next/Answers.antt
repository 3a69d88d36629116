use Rattle.std.proofs.Common.{ap, rules}
use Rattle.rs_outlet.specs.Views.{View}
use Rattle.rs_outlet.proofs.Pending.Exact.{update_exact}
use Rattle.rs_outlet.proofs.outlet.Outlet.begin_next.Goals as goal

pub returns-in-Some-speech-clause-exact : goal.returns-in-Some-speech-clause-exact
returns-in-Some-speech-clause-exact c = λ exact.
    update_exact c.args.self.now c.begin_update.new.self (ap (λ (v : View). v.loc) c.begin_update.ensures.rest) exact c.in-Some-speech.speech (c.begin_update.ensures.begins c.in-Some-speech.speech (search rules))
