use Rattle.std.proofs.Common.{◌≡◌, List, not, sym, ap, ◌∙◌, subst, rules, tests}
use Rattle.std.specs.Prelude.{filter}
use Rattle.std.specs.List.Sorted.{IsStrictlySortedBy}
use Rattle.std.proofs.lemmas.Fn.{filter_same}
use Rattle.std.proofs.lemmas.List.Kept.{IsStrictlySortedBy-filter}
use Rattle.rs_octets.specs.Prefixes.{Prefix, prefix_order}
use Rattle.rs_attrs.specs.Effects.{has_prefix}
use Rattle.rs_attrs.proofs.EachOnce.{filtered_has}
use Rattle.rs_update.proofs.prefixes.take_away.Goals as goal

-- what is left
left : (c : goal.After-retain) → c.retain.new.self.items ≡ filter (λ (p : Prefix). not (has_prefix p c.args.others.now)) c.args.prefixes.now.items
left c = filter_same _ _ _ (λ x b f' k. search (rules, tests)) _ _ c.retain.ensures.filtered

pub returns-clause-rising : goal.returns-clause-rising
returns-clause-rising c =
    subst (λ (ps : List Prefix). IsStrictlySortedBy prefix_order ps) (sym (left c)) (IsStrictlySortedBy-filter prefix_order (λ (p : Prefix). not (has_prefix p c.args.others.now)) c.args.prefixes.now.items c.requires.rising)

pub returns-clause-members : goal.returns-clause-members
returns-clause-members c p = ap (has_prefix p) (left c) ∙ filtered_has p c.args.others.now c.args.prefixes.now.items
