-- The steps of the walk, by the first routes of both tables.
use Rattle.std.proofs.Common.{◌≡◌, ◌∙◌, List, [], ◌∷◌, ◌++◌, length, sym, ap, subst, arith}
use Rattle.std.specs.Prelude.{Some}
use Rattle.std.specs.List.{IsFirstAndRest}
use Rattle.std.specs.Arc.{arc_value}
use Rattle.std.specs.Ordering.{ordering_reverse}
use Rattle.std.specs.declared.cmp.Ordering.TheVariants.{Less, Equal, Greater}
use Rattle.rs_octets.specs.Prefixes.{Prefix, prefix_order}
use Rattle.rs_octets.specs.PrefixOrder.{prefix_order_total}
use Rattle.rs_compare.specs.declared.routes.Route.{Route}
use Rattle.rs_compare.specs.declared.compared.Step.{Step}
use Rattle.rs_compare.specs.declared.compared.Kind.TheVariants as kinds
use Rattle.rs_compare.specs.Differences.{entries_of, kind_of}
use Rattle.rs_compare.specs.Merging.{IsBefore, IsStep, Merges, OfDue, OfSent, OfBoth, reported}

pub of_due : (due sent : List Route) (r : Route) (rest : List Route) (step : Step) → IsFirstAndRest due r rest → IsBefore r.prefix (entries_of sent)
    → step.prefix ≡ r.prefix → step.kind ≡ Some kinds.Missing → step.due.now ≡ rest → step.sent.now ≡ sent → IsStep due sent step
of_due due sent r rest step first before prefix kind left others = record {
  fewer = omega (arith, first.1, ap length left, ap length others);
  goes = λ found merges.
      subst (λ ds. Merges (entries_of ds) (entries_of sent) (reported step.prefix step.kind ++ found)) (sym first.0)
      (subst (λ p. Merges (entries_of (r ∷ rest)) (entries_of sent) (reported p step.kind ++ found)) (sym prefix)
      (subst (λ k. Merges (entries_of (r ∷ rest)) (entries_of sent) (reported r.prefix k ++ found)) (sym kind)
      (OfDue r.prefix (arc_value r.attrs) (entries_of rest) (entries_of sent) found before
      (subst (λ ds. Merges (entries_of ds) (entries_of sent) found) left (subst (λ ss. Merges (entries_of step.due.now) (entries_of ss) found) others merges)))));
}

pub of_sent : (due sent : List Route) (r : Route) (rest : List Route) (step : Step) → IsFirstAndRest sent r rest → IsBefore r.prefix (entries_of due)
    → step.prefix ≡ r.prefix → step.kind ≡ Some kinds.NotDue → step.due.now ≡ due → step.sent.now ≡ rest → IsStep due sent step
of_sent due sent r rest step first before prefix kind left others = record {
  fewer = omega (arith, first.1, ap length left, ap length others);
  goes = λ found merges.
      subst (λ ss. Merges (entries_of due) (entries_of ss) (reported step.prefix step.kind ++ found)) (sym first.0)
      (subst (λ p. Merges (entries_of due) (entries_of (r ∷ rest)) (reported p step.kind ++ found)) (sym prefix)
      (subst (λ k. Merges (entries_of due) (entries_of (r ∷ rest)) (reported r.prefix k ++ found)) (sym kind)
      (OfSent r.prefix (arc_value r.attrs) (entries_of due) (entries_of rest) found before
      (subst (λ ds. Merges (entries_of ds) (entries_of rest) found) left (subst (λ ss. Merges (entries_of step.due.now) (entries_of ss) found) others merges)))));
}

pub of_both : (due sent : List Route) (r s : Route) (rest others : List Route) (step : Step) → IsFirstAndRest due r rest → IsFirstAndRest sent s others → prefix_order r.prefix s.prefix ≡ Equal
    → step.prefix ≡ r.prefix → step.kind ≡ kind_of (Some (arc_value r.attrs)) (Some (arc_value s.attrs)) → step.due.now ≡ rest → step.sent.now ≡ others → IsStep due sent step
of_both due sent r s rest others step first other tied prefix kind left behind = record {
  fewer = omega (arith, first.1, other.1, ap length left, ap length behind);
  goes = λ found merges.
      subst (λ ds. Merges (entries_of ds) (entries_of sent) (reported step.prefix step.kind ++ found)) (sym first.0)
      (subst (λ ss. Merges (entries_of (r ∷ rest)) (entries_of ss) (reported step.prefix step.kind ++ found)) (sym other.0)
      (subst (λ p. Merges (entries_of (r ∷ rest)) (entries_of (s ∷ others)) (reported p step.kind ++ found)) (sym prefix)
      (subst (λ k. Merges (entries_of (r ∷ rest)) (entries_of (s ∷ others)) (reported r.prefix k ++ found)) (sym kind)
      (OfBoth r.prefix s.prefix (arc_value r.attrs) (arc_value s.attrs) (entries_of rest) (entries_of others) found tied
      (subst (λ ds. Merges (entries_of ds) (entries_of others) found) left (subst (λ ss. Merges (entries_of step.due.now) (entries_of ss) found) behind merges))))));
}

-- any prefix comes before an empty table
pub before_none : (p : Prefix) (routes : List Route) → length routes ≡ 0 → IsBefore p (entries_of routes)
before_none p [] e = tt
before_none p (r ∷ routes) e = absurd (omega arith)

pub before_one : (p : Prefix) (routes : List Route) (r : Route) (rest : List Route) → routes ≡ r ∷ rest → prefix_order p r.prefix ≡ Less → IsBefore p (entries_of routes)
before_one p routes r rest e less = subst (λ rs. IsBefore p (entries_of rs)) (sym e) less

pub turned : (p q : Prefix) → prefix_order p q ≡ Greater → prefix_order q p ≡ Less
turned p q e = prefix_order_total.antisymm q p ∙ ap ordering_reverse e
