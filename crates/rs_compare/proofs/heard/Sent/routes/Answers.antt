use Rattle.std.proofs.Common.{◌≡◌, ◌∙◌, ◌++◌, T, sym, ap, subst}
use Rattle.std.specs.FinMap.{find, is_sorted}
use Rattle.std.proofs.lemmas.List.{append-nil}
use Rattle.rs_octets.specs.Prefixes.{prefix_order}
use Rattle.rs_compare.specs.Differences.{entries_of}
use Rattle.rs_compare.proofs.Listed.{found_shown, rising_shown, shown}
use Rattle.rs_compare.proofs.heard.Sent.routes.Goals as goal

pub returns : goal.returns
returns c =
    let entries = c.args.self.now.routes.entries in
    let listed = entries_of c.loop-prefix.routes.items in
    let same : listed ≡ shown entries = sym (append-nil listed) ∙ ap (λ es. listed ++ shown es) (sym c.in-None.ensures.steps.0) ∙ c.loop-prefix.invariant.2 in
    record {
      rising = subst (λ es. T (is_sorted prefix_order es)) (sym same) (rising_shown entries c.iter-prefix-items.ensures.ordered);
      each = λ p. ap (find prefix_order p) same ∙ found_shown p entries;
    }
