use Rattle.std.proofs.Common.{◌≡◌, ◌++◌, ℕ, List, true, false, length, sym, subst, ap, ◌∙◌, arith}
use Rattle.std.specs.Prelude.{option_map}
use Rattle.rs_attrs.specs.Paths.{two_octets, four_octets, path_octets}
use Rattle.rs_attrs.specs.Meaning.{merged_with, ignores_as4}
use Rattle.rs_attrs.specs.Walking.{spelling_in, noted}
use Rattle.rs_attrs.specs.Merging.{IsWhole, as4_value, segments_in, plain}
use Rattle.rs_attrs.proofs.Paths.Widening.{on_ok}
use Rattle.rs_attrs.proofs.Fields.ByTwo.{good_path, good_aggregator, good_as4_path, good_as4_value, as4_value_is, path_value}
use Rattle.rs_attrs.proofs.reading.two.push_value_by_two.Goals as goal

pub ignores_as4-ignores-requires : goal.ignores_as4-ignores-requires
ignores_as4-ignores-requires c = λ f e.
    let kept = c.requires.kept 7 (spelling_in f) (sym c.kept_of.ensures ∙ ap (option_map spelling_in) e) in
    let six : length f.value.now ≡ 6 = good_aggregator (spelling_in f) kept.1 kept.0 in
    omega arith

pub push_path-requires-clause-path : goal.push_path-requires-clause-path
push_path-requires-clause-path c =
    let kept = c.requires.kept c.args.found.now.kind (spelling_in c.args.found.now) c.requires.here in
    good_path (spelling_in c.args.found.now) c.if-found-eq-AS_PATH.true kept.0

pub push_path-requires-clause-as4_path : goal.push_path-requires-clause-as4_path
push_path-requires-clause-as4_path c =
    let P : List ℕ → Type 0 = λ value. IsWhole four_octets true value in
    subst P (sym (as4_value_is _ _ _ _ _ _ _ _ c.as4_path_value.ensures c.ignores_as4-ignores.ensures c.kept_of.ensures c.kept_of-as4_aggregator.ensures c.kept_of-then-found-eq-AS_PATH.ensures))
    (good_as4_value (ignores_as4 (noted c.args.kept.now 7) (noted c.args.kept.now 18)) (noted c.args.kept.now 17) (λ s e. (let kept = c.requires.kept 17 s e in good_as4_path s kept.1 kept.0)))

pub returns-then-found-eq-AS_PATH : goal.returns-then-found-eq-AS_PATH
returns-then-found-eq-AS_PATH c =
    let kept = c.requires.kept c.args.found.now.kind (spelling_in c.args.found.now) c.requires.here in
    let value = path_value (noted c.args.kept.now) (spelling_in c.args.found.now) c.if-found-eq-AS_PATH.true kept.2 (good_path (spelling_in c.args.found.now) c.if-found-eq-AS_PATH.true kept.0) in
    let as4 : c.as4_path_value.result.now ≡ as4_value (ignores_as4 (noted c.args.kept.now 7) (noted c.args.kept.now 18)) (noted c.args.kept.now 17) =
    as4_value_is _ _ _ _ _ _ _ _ c.as4_path_value.ensures c.ignores_as4-ignores.ensures c.kept_of.ensures c.kept_of-as4_aggregator.ensures c.kept_of-then-found-eq-AS_PATH.ensures in
    on_ok c.push_path.result _ _
    (λ e. e ∙ ap (λ as4. c.args.values.now.items ++ path_octets four_octets (merged_with (segments_in two_octets false c.args.found.now.value.now) (plain (segments_in four_octets true as4)))) as4
    ∙ ap (λ value. c.args.values.now.items ++ value) (sym value))
    c.push_path.ensures
