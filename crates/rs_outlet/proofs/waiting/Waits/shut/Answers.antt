use Rattle.std.proofs.Common.{drop, inr, length, refl, sym, subst, take, ap, rules}
use Rattle.std.proofs.lemmas.Option.{slice_get_read}
use Rattle.std.specs.List.Sorted.{IsStrictlySortedBy}
use Rattle.rs_octets.specs.Prefixes.{prefix_order}
use Rattle.rs_outlet.specs.declared.waiting.Wait.{Wait}
use Rattle.rs_outlet.specs.Pending.Slots.{is_withdrawn, is_announced}
use Rattle.rs_outlet.proofs.Pending.Chains.{first_shut_by_hash, first_shut_chained, none_set}
use Rattle.rs_outlet.proofs.Pending.Slots.{count_shut, count_one, same_prefixes}
use Rattle.rs_outlet.proofs.Pending.Apart.{shut_fewer}
use Rattle.rs_outlet.proofs.Pending.Withdrawals.{withdrawn_less}
use Rattle.rs_outlet.proofs.waiting.Waits.shut.Goals as goal

pub overflow_sub-self : goal.overflow_sub-self
overflow_sub-self c = count_one c.args.self.now.slots.items c.args.slot c.index_mut-wait.result.now c.index_mut-wait.result.now.open _ _ (search rules) (ap (λ (w : Wait). w.open) (sym c.index_mut-wait.ensures.value)) c.args.self.now.counted (search rules)

pub invariant_of-self-clause-counted : goal.invariant_of-self-clause-counted
invariant_of-self-clause-counted c = count_shut c.args.self.now.slots.items c.args.slot _ c.index_mut-wait.result.now c.index_mut-wait.result.now.open _ _ (search rules) (ap (λ (w : Wait). w.open) (sym c.index_mut-wait.ensures.value)) refl c.args.self.now.counted (search rules)

pub invariant_of-self-clause-first : goal.invariant_of-self-clause-first
invariant_of-self-clause-first c =
    subst (λ ps. IsStrictlySortedBy prefix_order (take c.args.self.now.sorted ps))
    (sym (same_prefixes c.args.self.now.slots.items c.args.slot _ c.index_mut-wait.result.now (ap (λ (w : Wait). w.prefix) c.index_mut-wait.ensures.value)))
    c.args.self.now.first

pub invariant_of-self-clause-late : goal.invariant_of-self-clause-late
invariant_of-self-clause-late c =
    subst (λ ps. IsStrictlySortedBy prefix_order (drop c.args.self.now.sorted ps))
    (sym (same_prefixes c.args.self.now.slots.items c.args.slot _ c.index_mut-wait.result.now (ap (λ (w : Wait). w.prefix) c.index_mut-wait.ensures.value)))
    c.args.self.now.late

pub invariant_of-self-clause-apart : goal.invariant_of-self-clause-apart
invariant_of-self-clause-apart c = shut_fewer c.args.self.now.slots.items c.args.slot _ c.index_mut-wait.result.now (search rules) refl c.args.self.now.apart

pub invariant_of-self-clause-withdrawn : goal.invariant_of-self-clause-withdrawn
invariant_of-self-clause-withdrawn c = none_set is_withdrawn c.args.self.now.sorted c.args.self.now.gone c.args.self.now.slots.items c.args.slot _ (search rules) refl c.args.self.now.withdrawn

pub invariant_of-self-clause-announced : goal.invariant_of-self-clause-announced
invariant_of-self-clause-announced c = none_set is_announced c.args.self.now.sorted c.args.self.now.news c.args.self.now.slots.items c.args.slot _ (search rules) refl c.args.self.now.announced

pub invariant_of-self-clause-by_hash : goal.invariant_of-self-clause-by_hash
invariant_of-self-clause-by_hash c = λ is.
    let ws = c.args.self.now.slots.items in
    first_shut_by_hash c.args.self.now.sorted ws c.args.slot c.index_mut-wait.result.now _ c.args.self.now.chains.items (slice_get_read ws (length ws) c.args.slot c.index_mut-wait.result.now refl (search rules) c.index_mut-wait.ensures.value) refl refl (c.args.self.now.by_hash is)

pub returns : goal.returns
returns c =
    let ws = c.args.self.now.slots.items in
    let was = c.index_mut-wait.result.now in
    record {
      shut = inr (was, _, slice_get_read ws (length ws) c.args.slot was refl (search rules) c.index_mut-wait.ensures.value, refl, refl);
      chained = λ rows. first_shut_chained rows c.args.self.now.sorted ws c.args.slot was _ c.args.self.now.chains.items (slice_get_read ws (length ws) c.args.slot was refl (search rules) c.index_mut-wait.ensures.value) refl;
      withdrawn = withdrawn_less ws c.args.slot _ was (search rules) refl;
      capacity = refl;
    }
