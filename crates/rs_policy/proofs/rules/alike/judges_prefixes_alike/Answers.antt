use Rattle.std.proofs.Common.{◌≡◌, ◌∙◌, false, ap, sym}
use Rattle.std.specs.List.{list_any}
use Rattle.rs_policy.specs.Asking.{asks_prefix}
use Rattle.rs_policy.specs.Configuration.{policy_of}
use Rattle.rs_policy.proofs.Judging.Prefixes.{alike_but_for_prefix, none_written, not_so}
use Rattle.rs_policy.proofs.rules.alike.judges_prefixes_alike.Goals as goal

pub returns : goal.returns
returns c = λ so from p q m known noted.
    let s = c.args.config.now in
    let none : list_any asks_prefix (policy_of s c.args.to).export ≡ false =
    ap (list_any asks_prefix) (sym c.export-exports.ensures ∙ c.parts.ensures)
    ∙ none_written asks_prefix c.parts.result.1.now c.parts.result.0.now (sym c.asks_prefix_among.ensures ∙ not_so c.asks_prefix_among.result so) in
    alike_but_for_prefix s from c.args.to m c.is_read.ensures known p q none noted
