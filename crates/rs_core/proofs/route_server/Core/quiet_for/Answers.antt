use Rattle.std.proofs.Common.{◌<◌, length, refl, sym, subst}
use Rattle.std.proofs.lemmas.Option.{slice_get_read}
use Rattle.rs_core.specs.Core.{client_count}
use Rattle.rs_core.specs.Session.Hearing.{session_in}
use Rattle.rs_core.proofs.route_server.Core.quiet_for.Goals as goal

pub returns-clause-quiet : goal.returns-clause-quiet
unfolding client_count
returns-clause-quiet c = λ s h knows t le.
    let kept = c.args.self.now.sessions.items in
    let lt : c.args.c < length kept = subst (λ n. c.args.c < n) (sym c.args.self.now.sessions_len) c.requires in
    c.quiet_until.ensures.quiet (session_in s c.args.c) h.items (knows.session c.index.result.now (slice_get_read kept (length kept) c.args.c c.index.result.now refl lt c.index.ensures)) t le

pub returns-clause-greatest : goal.returns-clause-greatest
unfolding client_count
returns-clause-greatest c = λ s h knows t lt le.
    let kept = c.args.self.now.sessions.items in
    let there : c.args.c < length kept = subst (λ n. c.args.c < n) (sym c.args.self.now.sessions_len) c.requires in
    c.quiet_until.ensures.greatest (session_in s c.args.c) h.items (knows.session c.index.result.now (slice_get_read kept (length kept) c.args.c c.index.result.now refl there c.index.ensures)) t lt le
