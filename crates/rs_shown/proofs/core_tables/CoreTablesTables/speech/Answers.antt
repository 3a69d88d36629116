use Rattle.std.proofs.Common.{arith, ◌∙◌}
use Rattle.rs_session.specs.Sessions.{agreed_of}
use Rattle.rs_core.specs.Run.Moves.{config_in}
use Rattle.rs_core.specs.Run.Meaning.{hearing}
use Rattle.rs_core.specs.Session.Hearing.{is_up, session_in, state_in}
use Rattle.rs_shown.proofs.Showing.{spoken}
use Rattle.rs_shown.proofs.core_tables.CoreTablesTables.speech.Goals as goal

pub returns : goal.returns
returns c = record {
  client = λ run agrees lt.
      let s = config_in run in
      let h = hearing c.args.member run in
      c.speech_with.ensures ∙ spoken (is_up (state_in s c.args.member h)) s.top.extended (agreed_of (session_in s c.args.member) h.items) c.mode.result c.limit.result (c.mode.ensures run agrees) (c.limit.ensures run agrees);
  other = λ high. absurd (omega (arith, c.if-member-clients.false, c.clients.ensures.count));
}
