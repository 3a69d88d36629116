use Rattle.std.proofs.Common.{List, ◌∙◌, sym, ap, subst, rules}
use Rattle.std.specs.List.{Contains, list_any}
use Rattle.std.specs.List.Sorted.{IsStrictlySortedBy}
use Rattle.std.proofs.lemmas.Fn.{dedup_same}
use Rattle.std.proofs.lemmas.List.Kept.{Contains-from_dedup, IsStrictlySortedBy-dedup}
use Rattle.std.proofs.lemmas.List.Sorted.{Contains-permutation, IsPermutation-map, IsPermutation-sym, list_any-IsPermutation}
use Rattle.rs_outlet.specs.declared.waiting.Wait.{Wait}
use Rattle.rs_outlet.specs.Pending.Slots.{prefixes_at}
use Rattle.rs_outlet.proofs.Decided.LocByNumber.{same}
use Rattle.rs_outlet.proofs.Pending.MarkedAgain.{deduped}
use Rattle.rs_outlet.proofs.Pending.Slots.{by_prefix, slots_total, prefixes_rise}
use Rattle.rs_outlet.proofs.Decided.Touches.{prefix_eq, prefix_eq-cmp}
use Rattle.rs_outlet.proofs.Pending.Withdrawals.{withdrawn_ordered}
use Rattle.rs_outlet.proofs.waiting.put_in_order.Goals as goal

pub returns : goal.returns
returns c =
    let up = c.sort_from.ensures.sorted in
    let kept = dedup_same _ (λ v w. prefix_eq v.prefix w.prefix) _ (λ x y b f' x' y' k. search rules) _ _ c.dedup_by_key.ensures.filtered in
    let moved = c.sort_from.ensures.permutation in
    record {
      rises = prefixes_rise _ (subst (IsStrictlySortedBy by_prefix) (sym kept) (IsStrictlySortedBy-dedup slots_total (λ v w. sym (prefix_eq-cmp v.prefix w.prefix)) _ up));
      from = λ w here. Contains-permutation _ _ w (IsPermutation-sym _ _ moved) (Contains-from_dedup (λ v w. prefix_eq v.prefix w.prefix) _ w (subst (λ (xs : List Wait). Contains xs w) kept here));
      all = λ q.
          ap (λ xs. list_any (same q) (prefixes_at xs)) kept
          ∙ deduped (λ v w. prefix_eq v.prefix w.prefix) (λ v w. sym (prefix_eq-cmp v.prefix w.prefix)) q _
          ∙ sym (list_any-IsPermutation (same q) _ _ (IsPermutation-map (λ (w : Wait). w.prefix) _ _ moved));
      withdrawn = withdrawn_ordered (λ v w. prefix_eq v.prefix w.prefix) _ _ _ moved kept;
      capacity = c.dedup_by_key.ensures.capacity ∙ c.sort_from.ensures.capacity;
    }
