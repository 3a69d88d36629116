-- The talks with those who are at a control socket.
use Rattle.std.specs.Prelude.{ℕ, Option, option_map}
use Rattle.slab.specs.Slab.{Slab, get}
use Rattle.rs_control.specs.declared.talk.Talk.{Talk}
use Rattle.rs_visitors.specs.declared.caller.Caller.{Caller}
use Rattle.rs_visitors.specs.declared.control.Control.{Control}

abbrev pub talks_with : Slab Caller → ℕ → Option Talk
talks_with callers key = option_map (λ caller. caller.talk) (get callers key)

abbrev pub talks_at : Control → ℕ → Option Talk
talks_at control = talks_with control.callers
