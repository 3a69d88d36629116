use Rattle.std.proofs.Common.{rules}
use Rattle.std.proofs.lemmas.Fn.{dedup_same}
use Rattle.std.proofs.lemmas.List.Sorted.{answers_always}
use Rattle.rs_outlet.proofs.Decided.TouchedList.{ordered, same_number}
use Rattle.rs_outlet.proofs.ordered.put_in_order.Goals as goal

pub returns-clause-once : goal.returns-clause-once
returns-clause-once c =
    ordered c.args.touches.now.items c.sort_unstable_by_key.new.self.items c.dedup_by_key.new.self.items
    c.sort_unstable_by_key.ensures.permutation
    (c.sort_unstable_by_key.ensures.sorted (λ e. e.0) (answers_always _ _ _ (λ f a r g h. search rules)))
    (dedup_same _ same_number _ (λ x y b f' x' y' k. search rules) _ _ c.dedup_by_key.ensures.filtered)
