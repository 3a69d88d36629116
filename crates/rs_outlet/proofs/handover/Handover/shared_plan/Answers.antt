use Rattle.rs_outlet.proofs.Answered.{if_some_at}
use Rattle.rs_outlet.proofs.handover.Handover.shared_plan.Goals as goal

pub returns-in-Some-clause-planned : goal.returns-in-Some-clause-planned
returns-in-Some-clause-planned c = record {
  decided = if_some_at _ c.in_ok-news_to.field-0 c.in-Some.pieces c.in-Some.is c.in_ok-news_to.ensures.decided;
  fitting = (c.if-not-idle.false, if_some_at _ c.in_ok-news_to.field-0 c.in-Some.pieces c.in-Some.is c.in_ok-news_to.ensures.free);
}
