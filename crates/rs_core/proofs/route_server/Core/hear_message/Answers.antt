use Rattle.std.proofs.Common.{refl, sym, subst}
use Rattle.rs_session.specs.declared.heard.Heard.TheVariants as heard
use Rattle.rs_core.specs.Core.{client_count}
use Rattle.rs_core.specs.Session.Hearing.{takes_in, notified, refresh_said, without_change}
use Rattle.rs_core.specs.Run.Agreeing.{Knows}
use Rattle.rs_core.specs.Run.Parts.{Hears}
use Rattle.rs_core.proofs.Run.Acting.{alone_follows}
use Rattle.rs_core.proofs.Run.OtherRules.{unmoved}
use Rattle.rs_core.proofs.route_server.Core.hear_message.Goals as goal

pub returns-in-Open-clause-heard : goal.returns-in-Open-clause-heard
unfolding client_count
returns-in-Open-clause-heard c = subst (λ k. Hears k c.args.body.now c.args.c c.args.self.now c.session_hears.new.self) (sym c.in-Open.is) (λ s h config live knows.
    subst (λ o. Knows c.session_hears.new.self s c.args.c (takes_in s c.args.c (without_change (heard.Open o)) h)) c.read_open.ensures
    (c.session_hears.ensures.alone s h (unmoved c.args.self.now _ s c.args.c h refl refl refl knows)))

pub returns-in-Open-clause-keeps : goal.returns-in-Open-clause-keeps
returns-in-Open-clause-keeps c = λ s h config knows none. c.session_hears.ensures.keeps s h config (unmoved c.args.self.now _ s c.args.c h refl refl refl knows) none

pub returns-in-Note-clause-heard : goal.returns-in-Note-clause-heard
unfolding client_count
returns-in-Note-clause-heard c = subst (λ k. Hears k c.args.body.now c.args.c c.args.self.now c.session_hears_with.new.self) (sym c.in-Note.is) (λ s h config live knows.
    c.session_hears_with.ensures.heard s h (takes_in s c.args.c (notified c.args.body.now) h) (alone_follows s c.args.c heard.Note c.args.body.now h) knows)

pub returns-in-Refresh-clause-heard : goal.returns-in-Refresh-clause-heard
unfolding client_count
returns-in-Refresh-clause-heard c = subst (λ k. Hears k c.args.body.now c.args.c c.args.self.now c.session_hears-in-Refresh.new.self) (sym c.in-Refresh.is) (λ s h config live knows.
    subst (λ f. Knows c.session_hears-in-Refresh.new.self s c.args.c (takes_in s c.args.c (without_change (refresh_said f)) h)) c.read_refresh-afi.ensures (c.session_hears-in-Refresh.ensures.alone s h knows))
