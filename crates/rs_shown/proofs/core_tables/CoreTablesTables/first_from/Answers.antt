use Rattle.std.proofs.Common.{arith, option_map, subst, sym}
use Rattle.std.specs.Arc.{arc_value}
use Rattle.rs_page_parts.specs.Firsts.{IsFirst}
use Rattle.rs_shown.specs.Shown.{table_after}
use Rattle.rs_shown.proofs.core_tables.CoreTablesTables.first_from.Goals as goal

pub returns-in-Received : goal.returns-in-Received
returns-in-Received c = record {
  client = λ run agrees lt. subst (λ rib. IsFirst (table_after run rib c.args.member) c.args.at (option_map (λ route. (route.0, arc_value route.1.now)) c.first_received.result)) (sym c.in-Received.is) (c.first_received.ensures run agrees);
  other = λ high. absurd (omega (arith, c.if-member-clients.false, c.clients.ensures.count));
}

pub returns-in-Sent : goal.returns-in-Sent
returns-in-Sent c = record {
  client = λ run agrees lt. subst (λ rib. IsFirst (table_after run rib c.args.member) c.args.at (option_map (λ route. (route.0, arc_value route.1.now)) c.first_sent.result)) (sym c.in-Sent.is) (c.first_sent.ensures run agrees);
  other = λ high. absurd (omega (arith, c.if-member-clients.false, c.clients.ensures.count));
}
