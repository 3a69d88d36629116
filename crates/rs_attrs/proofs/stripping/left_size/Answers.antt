use Rattle.std.proofs.Common.{◌≡◌, not, cond, ap, ◌∙◌, length, rules, tests, arith}
use Rattle.std.specs.List.{flat_map}
use Rattle.std.proofs.lemmas.Bool.{ne_eqb}
use Rattle.std.proofs.lemmas.Iterator.Consumers.{YieldsList-from_first, YieldsList-from_filter, count_from_yields_List}
use Rattle.rs_attrs.specs.Paths.{quads}
use Rattle.rs_attrs.specs.Patterns.{large_communities_in, parts_of}
use Rattle.rs_attrs.specs.Stripping.{is_stripped, is_stripped_large, taken_by, unstripped, unstripped_large}
use Rattle.rs_attrs.proofs.Strips.Communities.{filter_short, length-parts, length-quads_4, length-triples}
use Rattle.rs_attrs.proofs.stripping.left_size.Goals as goal

pub returns-then-kind-eq-COMMUNITIES-clause-most : goal.returns-then-kind-eq-COMMUNITIES-clause-most
returns-then-kind-eq-COMMUNITIES-clause-most c =
    let count : c.count.result ≡ length (unstripped (taken_by c.args.strip.now) (quads c.args.value.now)) =
    count_from_yields_List c.filter.result _ c.count.ensures.ran
    (YieldsList-from_filter _ (λ n. not (is_stripped (taken_by c.args.strip.now) n))
    (YieldsList-from_first (λ n. n) (λ numbers. numbers) (quads c.args.value.now) (c.filter.ensures.source ∙ c.of.ensures.numbers))
    c.filter.ensures.closure (λ x b q k. search (rules, tests))) in
    omega (arith, count, filter_short (λ n. not (is_stripped (taken_by c.args.strip.now) n)) (quads c.args.value.now), length-quads_4 c.args.value.now)

pub returns-else-kind-eq-COMMUNITIES-clause-size : goal.returns-else-kind-eq-COMMUNITIES-clause-size
returns-else-kind-eq-COMMUNITIES-clause-size c =
    let count : c.count-else-kind-eq-COMMUNITIES.result ≡ length (unstripped_large (taken_by c.args.strip.now) (large_communities_in c.args.value.now)) =
    count_from_yields_List c.filter-else-kind-eq-COMMUNITIES.result _ c.count-else-kind-eq-COMMUNITIES.ensures.ran
    (YieldsList-from_filter _ (λ community. not (is_stripped_large (taken_by c.args.strip.now) community))
    (YieldsList-from_first (λ community. community) (λ communities. communities) (large_communities_in c.args.value.now) (c.filter-else-kind-eq-COMMUNITIES.ensures.source ∙ c.of-else-kind-eq-COMMUNITIES.ensures.communities))
    c.filter-else-kind-eq-COMMUNITIES.ensures.closure (λ x b q k. search (rules, tests))) in
    let stay = unstripped_large (taken_by c.args.strip.now) (large_communities_in c.args.value.now) in
    let left = ap (λ b. length (cond b (unstripped (taken_by c.args.strip.now) (quads c.args.value.now)) (flat_map parts_of stay))) (ne_eqb c.args.kind 8 c.if-kind-eq-COMMUNITIES.false) in
    omega (arith, count, left, length-parts stay)

pub returns-else-kind-eq-COMMUNITIES-clause-most : goal.returns-else-kind-eq-COMMUNITIES-clause-most
returns-else-kind-eq-COMMUNITIES-clause-most c =
    let count : c.count-else-kind-eq-COMMUNITIES.result ≡ length (unstripped_large (taken_by c.args.strip.now) (large_communities_in c.args.value.now)) =
    count_from_yields_List c.filter-else-kind-eq-COMMUNITIES.result _ c.count-else-kind-eq-COMMUNITIES.ensures.ran
    (YieldsList-from_filter _ (λ community. not (is_stripped_large (taken_by c.args.strip.now) community))
    (YieldsList-from_first (λ community. community) (λ communities. communities) (large_communities_in c.args.value.now) (c.filter-else-kind-eq-COMMUNITIES.ensures.source ∙ c.of-else-kind-eq-COMMUNITIES.ensures.communities))
    c.filter-else-kind-eq-COMMUNITIES.ensures.closure (λ x b q k. search (rules, tests))) in
    omega (arith, count, filter_short (λ community. not (is_stripped_large (taken_by c.args.strip.now) community)) (large_communities_in c.args.value.now), length-triples (quads c.args.value.now), length-quads_4 c.args.value.now)
