use Rattle.std.proofs.Common.{◌∙◌, ap, sym}
use Rattle.std.specs.List.{list_any}
use Rattle.std.specs.Prelude.{None}
use Rattle.rs_attrs.specs.Patterns.{is_like, is_like_large}
use Rattle.rs_policy.proofs.Judging.PassedOver.{no_community, no_large_community}
use Rattle.rs_policy.proofs.Judging.Prefixes.{not_so}
use Rattle.rs_policy.proofs.rules.verdict.offer_to.Goals as goal

pub invariant_of-result : goal.invariant_of-result
invariant_of-result c = record {
  communities = c.tags-tags.ensures.communities;
  large = c.tags-tags.ensures.large;
  none = λ so. no_community c.args.attrs.now
      (ap (list_any (is_like (record { high = None; low = None }))) (sym c.tags-tags.ensures.communities) ∙ sym c.has_community_like.ensures ∙ not_so c.has_community_like.result so);
  none_large = λ so. no_large_community c.args.attrs.now
      (ap (list_any (is_like_large (record { global = None; first = None; second = None }))) (sym c.tags-tags.ensures.large) ∙ sym c.has_large_community_like.ensures ∙ not_so c.has_large_community_like.result so);
}
