-- What a route and a verdict of the code stand for.
use Rattle.rs_attrs.specs.Stripping.{taken_by}
use Rattle.rs_policy.specs.Verdicts.{AnnouncedRoute, Passing, Judgement, dropped, passed}
use Rattle.rs_policy.specs.declared.rules.offer.Offer.{Offer}
use Rattle.rs_policy.specs.declared.rules.verdict.Passed.{Passed}
use Rattle.rs_attrs.specs.declared.stripping.Strip.{Strip}
use Rattle.rs_policy.specs.declared.rules.verdict.Fate.{Fate}
use Rattle.rs_policy.specs.declared.rules.verdict.Fate.TheVariants.{Drop, Pass}

abbrev pub offered : Offer → AnnouncedRoute
offered o = record { from = o.from; peer = o.peer; peer_as = o.peer_as; prefix = o.prefix.now; attributes = o.attrs.now; to_as = o.to_as }

abbrev pub passed_as : Passed → Passing
passed_as p = record { preference = p.preference; communities = p.communities.now; all_communities = p.all_communities; large = p.large.now; all_large = p.all_large }

abbrev pub judged : Fate Strip → Judgement
judged Drop = dropped
judged (Pass preference strip) = passed preference (taken_by strip)
