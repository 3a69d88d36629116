-- Where no slot waits, none is left once those that wait no more are dropped.
use Rattle.std.proofs.Common.{◌≡◌, ◌∙◌, List, [], sym}
use Rattle.std.proofs.lemmas.List.Sums.{length-filter}
use Rattle.rs_outlet.specs.declared.waiting.Wait.{Wait}
use Rattle.rs_outlet.specs.Pending.Slots.{open_count, still_open}
use Rattle.rs_outlet.proofs.Decided.Numbering.{no_elements}

pub none_still : (ws : List Wait) → open_count ws ≡ 0 → still_open ws ≡ []
none_still ws none = sym (no_elements (still_open ws) (length-filter (λ (w : Wait). w.open) ws ∙ none))
