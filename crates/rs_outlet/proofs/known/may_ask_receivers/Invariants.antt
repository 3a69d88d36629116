use Rattle.std.proofs.Common.{map}
use Rattle.rs_outlet.specs.Decided.HeldBy.{held_by}
use Rattle.rs_outlet.specs.Decided.Precedents.{AreAlikeForAll}
use Rattle.rs_outlet.proofs.known.may_ask_receivers.Given as goal

abbrev pub invariant-loop-holder : goal.invariant-loop-holder
invariant-loop-holder l =
    AreAlikeForAll (held_by l.sources) l.sources.client (map (λ h. h.0) l.holder-iterator)
    → AreAlikeForAll (held_by l.sources) l.sources.client (map (λ h. h.0) l.fn.holders)
