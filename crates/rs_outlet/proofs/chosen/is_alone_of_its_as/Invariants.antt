use Rattle.std.proofs.Common.{◌<◌, length, map, All}
use Rattle.rs_outlet.specs.Decided.Choices.{IsAloneOfItsAs}
use Rattle.rs_outlet.specs.Decided.HeldBy.{held_by}
use Rattle.rs_outlet.proofs.chosen.is_alone_of_its_as.Given as goal

abbrev pub invariant-loop-holder : goal.invariant-loop-holder
invariant-loop-holder l = record {
  known : All (λ h. h.0.0 < length l.sources.config.now.clients) l.holder-iterator;
  alone :
      IsAloneOfItsAs (held_by l.sources) l.sources.client (map (λ h. h.0) l.holder-iterator)
      → IsAloneOfItsAs (held_by l.sources) l.sources.client (map (λ h. h.0) l.fn.holders);
}
