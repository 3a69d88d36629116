use Rattle.std.proofs.Common.{◌≡◌, inl, inr, false, sym, subst, arith}
use Rattle.std.proofs.lemmas.Bool.{cases_eq, cases_lt}
use Rattle.rs_core.specs.Core.{client_count}
use Rattle.rs_core.specs.Run.Moves.{config_in}
use Rattle.rs_core.specs.Run.Meaning.{hearing, is_ended_at}
use Rattle.rs_core.proofs.route_server.Core.quiet_until.Goals as goal

pub loop-c-init : goal.loop-c-init
unfolding client_count
loop-c-init c = record { quiet = λ run h t le d lt. absurd (omega (arith, lt)); greatest = λ run h t lt le. absurd (omega (arith, lt, le)) }

pub loop-c-preserved : goal.loop-c-preserved
unfolding client_count
loop-c-preserved c = record {
  quiet = λ run h t le d lt. elim (cases_eq d c.loop-c.c) [
    | inl e ↦ subst (λ k. is_ended_at run k t ≡ false) (sym e) (c.quiet_for.ensures.quiet (config_in run) (hearing c.loop-c.c run) ((h.clients c.loop-c.c (omega arith)).knows) t (omega (arith, le, c.min-until.ensures)))
    | inr ne ↦ c.loop-c.invariant.quiet run h t (omega (arith, le, c.min-until.ensures)) d (omega (arith, lt, ne))
  ];
  greatest = λ run h t lt le. elim (cases_lt c.loop-c.until t) [
    | inl past ↦ let some = c.loop-c.invariant.greatest run h t past le in (some.0, omega (arith, some.1), some.2)
    | inr ge ↦ (c.loop-c.c, omega arith, c.quiet_for.ensures.greatest (config_in run) (hearing c.loop-c.c run) ((h.clients c.loop-c.c (omega arith)).knows) t (omega (arith, lt, c.min-until.ensures, ge)) le)
  ];
}

pub returns-clause-quiet : goal.returns-clause-quiet
unfolding client_count
returns-clause-quiet c = λ run h t le d below. c.loop-c.invariant.quiet run h t le d (omega (arith, below))

pub returns-clause-greatest : goal.returns-clause-greatest
unfolding client_count
returns-clause-greatest c = λ run h t lt le. let some = c.loop-c.invariant.greatest run h t lt le in (some.0, omega (arith, some.1), some.2)
