use Rattle.std.proofs.Common.{◌≡◌, ◌<◌, length, ◌∙◌, sym, ap}
use Rattle.std.specs.Arc.{arc_value}
use Rattle.std.proofs.lemmas.List.Elements.{All-rest}
use Rattle.rs_policy.specs.Noted.{note_of_import}
use Rattle.rs_outlet.specs.Decided.HeldBy.{held_by}
use Rattle.rs_outlet.proofs.Decided.Ranks.{sent, taken_some, taken_none}
use Rattle.rs_outlet.proofs.chosen.rank_all.Goals as goal

pub loop-holder-preserved-in-Continue-1 : goal.loop-holder-preserved-in-Continue-1
loop-holder-preserved-in-Continue-1 c = record {
  known = All-rest (λ h. h.0.0 < length c.args.sources.now.config.now.clients) ((c.in-Some.holder.client, arc_value c.in-Some.holder.attrs.now), c.in-Some.holder.note) c.next.new.self _ c.in-Some.ensures.steps c.loop-holder.invariant.known;
  noted = All-rest (λ h. h.1 ≡ note_of_import c.args.sources.now.config.now h.0.0 c.args.prefix.now h.0.1) ((c.in-Some.holder.client, arc_value c.in-Some.holder.attrs.now), c.in-Some.holder.note) c.next.new.self _ c.in-Some.ensures.steps c.loop-holder.invariant.noted;
  ranks = taken_some (held_by c.args.sources.now) _ _ _ _ _ _ _ _ _ (ap sent c.in-Some.ensures.steps) c.loop-holder.invariant.ranks (sym c.rank_to.ensures ∙ c.in-Some-rank_to.is) c.in_ok-push.ensures.items;
}

pub loop-holder-preserved : goal.loop-holder-preserved
loop-holder-preserved c = record {
  known = All-rest (λ h. h.0.0 < length c.args.sources.now.config.now.clients) ((c.in-Some.holder.client, arc_value c.in-Some.holder.attrs.now), c.in-Some.holder.note) c.next.new.self _ c.in-Some.ensures.steps c.loop-holder.invariant.known;
  noted = All-rest (λ h. h.1 ≡ note_of_import c.args.sources.now.config.now h.0.0 c.args.prefix.now h.0.1) ((c.in-Some.holder.client, arc_value c.in-Some.holder.attrs.now), c.in-Some.holder.note) c.next.new.self _ c.in-Some.ensures.steps c.loop-holder.invariant.noted;
  ranks = taken_none (held_by c.args.sources.now) _ _ _ _ _ _ _ (ap sent c.in-Some.ensures.steps) c.loop-holder.invariant.ranks (sym c.rank_to.ensures ∙ c.in_default.is);
}
