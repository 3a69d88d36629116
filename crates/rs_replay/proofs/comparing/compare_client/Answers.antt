use Rattle.std.proofs.Common.{◌∙◌, T, ap, subst, sym, arith}
use Rattle.std.specs.FinMap.{find, is_sorted}
use Rattle.rs_octets.specs.Prefixes.{prefix_order}
use Rattle.rs_compare.specs.Differences.{AreDifferences, entries_of, listed_at, reports_of}
use Rattle.rs_replay.proofs.Held.{as_many_entries, held_against}
use Rattle.rs_replay.proofs.comparing.compare_client.Goals as goal

pub returns-clause-compared : goal.returns-clause-compared
returns-clause-compared c =
    let due = entries_of c.in_ok-due.due.items in
    let sent = entries_of c.in_ok-sent.sent.items in
    let found = reports_of c.in_ok-differences.differences.items in
    let are : AreDifferences (listed_at due) (listed_at sent) found =
    subst (λ rs. AreDifferences (listed_at (entries_of rs)) (listed_at sent) found) c.deref.ensures.value
    (subst (λ rs. AreDifferences (listed_at (entries_of c.deref.result.now)) (listed_at (entries_of rs)) found) c.deref-2.ensures.value c.in_ok-differences.ensures) in
    held_against c.args.core.now c.args.c c.args.sent.now due sent _ _ found c.requires (subst (λ rs. T (is_sorted prefix_order rs)) (sym c.in_ok-due.ensures) c.routes.ensures.rising)
    (λ p. ap (find prefix_order p) c.in_ok-due.ensures ∙ c.routes.ensures.routes p) c.in_ok-sent.ensures are
    (omega (arith, c.of-counts.ensures.of_due, c.len.ensures, c.in_ok-due.due.ok.0, as_many_entries c.in_ok-due.due.items))
    (omega (arith, c.of-counts.ensures.of_sent, c.len-2.ensures, c.in_ok-sent.sent.ok.0, as_many_entries c.in_ok-sent.sent.items))
