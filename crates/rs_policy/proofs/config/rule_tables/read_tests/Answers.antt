use Rattle.std.proofs.Common.{◌≡◌, Result, Ok, Err, sym, ap, ◌∙◌}
use Rattle.std.specs.Result.{IsErrAnd}
use Rattle.rs_policy.specs.Rules.{test_checks}
use Rattle.rs_policy.specs.declared.faults.ConfigFault.{ConfigFault}
use Rattle.rs_policy.proofs.Reading.Checks.{passes_one, fails_one}
use Rattle.rs_policy.proofs.config.rule_tables.read_tests.Goals as goal

-- a fault that `?` passes on
faulty : {A : Type 0} (r : Result A ConfigFault) (f : ConfigFault) (m : Result A ConfigFault) → IsErrAnd r (λ e. e ≡ f) → m ≡ Err f → r ≡ m
faulty (Ok x) f m same e = absurd same
faulty (Err g) f m same e = ap Err same ∙ sym e

pub returns-in_err-maybe : goal.returns-in_err-maybe
unfolding test_checks
returns-in_err-maybe c =
    faulty _ _ _ c.from_residual.ensures.1
    (fails_one _ _ _ _ c.in_err-maybe.ensures)

pub returns-in_err-maybe-2 : goal.returns-in_err-maybe-2
unfolding test_checks
returns-in_err-maybe-2 c =
    faulty _ _ _ c.from_residual-in_err-maybe-2.ensures.1
    (passes_one _ _ _ _ c.in_ok-maybe.ensures ∙ fails_one _ _ _ _ c.in_err-maybe-2.ensures)

pub returns-in_err-maybe-3 : goal.returns-in_err-maybe-3
unfolding test_checks
returns-in_err-maybe-3 c =
    faulty _ _ _ c.from_residual-in_err-maybe-3.ensures.1
    (passes_one _ _ _ _ c.in_ok-maybe.ensures ∙ passes_one _ _ _ _ c.in_ok-maybe-2.ensures ∙ fails_one _ _ _ _ c.in_err-maybe-3.ensures)

pub returns-in_err-maybe-4 : goal.returns-in_err-maybe-4
unfolding test_checks
returns-in_err-maybe-4 c =
    faulty _ _ _ c.from_residual-in_err-maybe-4.ensures.1
    (passes_one _ _ _ _ c.in_ok-maybe.ensures ∙ passes_one _ _ _ _ c.in_ok-maybe-2.ensures ∙ passes_one _ _ _ _ c.in_ok-maybe-3.ensures
    ∙ fails_one _ _ _ _ c.in_err-maybe-4.ensures)

pub returns-in_err-maybe-5 : goal.returns-in_err-maybe-5
unfolding test_checks
returns-in_err-maybe-5 c =
    faulty _ _ _ c.from_residual-in_err-maybe-5.ensures.1
    (passes_one _ _ _ _ c.in_ok-maybe.ensures ∙ passes_one _ _ _ _ c.in_ok-maybe-2.ensures ∙ passes_one _ _ _ _ c.in_ok-maybe-3.ensures
    ∙ passes_one _ _ _ _ c.in_ok-maybe-4.ensures ∙ fails_one _ _ _ _ c.in_err-maybe-5.ensures)

pub returns-in_err-maybe-6 : goal.returns-in_err-maybe-6
unfolding test_checks
returns-in_err-maybe-6 c =
    faulty _ _ _ c.from_residual-in_err-maybe-6.ensures.1
    (passes_one _ _ _ _ c.in_ok-maybe.ensures ∙ passes_one _ _ _ _ c.in_ok-maybe-2.ensures ∙ passes_one _ _ _ _ c.in_ok-maybe-3.ensures
    ∙ passes_one _ _ _ _ c.in_ok-maybe-4.ensures ∙ passes_one _ _ _ _ c.in_ok-maybe-5.ensures ∙ fails_one _ _ _ _ c.in_err-maybe-6.ensures)

pub returns-in_err-maybe-7 : goal.returns-in_err-maybe-7
unfolding test_checks
returns-in_err-maybe-7 c =
    faulty _ _ _ c.from_residual-in_err-maybe-7.ensures.1
    (passes_one _ _ _ _ c.in_ok-maybe.ensures ∙ passes_one _ _ _ _ c.in_ok-maybe-2.ensures ∙ passes_one _ _ _ _ c.in_ok-maybe-3.ensures
    ∙ passes_one _ _ _ _ c.in_ok-maybe-4.ensures ∙ passes_one _ _ _ _ c.in_ok-maybe-5.ensures ∙ passes_one _ _ _ _ c.in_ok-maybe-6.ensures
    ∙ fails_one _ _ _ _ c.in_err-maybe-7.ensures)

pub returns-in_err-maybe-8 : goal.returns-in_err-maybe-8
unfolding test_checks
returns-in_err-maybe-8 c =
    faulty _ _ _ c.from_residual-in_err-maybe-8.ensures.1
    (passes_one _ _ _ _ c.in_ok-maybe.ensures ∙ passes_one _ _ _ _ c.in_ok-maybe-2.ensures ∙ passes_one _ _ _ _ c.in_ok-maybe-3.ensures
    ∙ passes_one _ _ _ _ c.in_ok-maybe-4.ensures ∙ passes_one _ _ _ _ c.in_ok-maybe-5.ensures ∙ passes_one _ _ _ _ c.in_ok-maybe-6.ensures
    ∙ passes_one _ _ _ _ c.in_ok-maybe-7.ensures ∙ fails_one _ _ _ _ c.in_err-maybe-8.ensures)

pub returns-in_err-maybe-9 : goal.returns-in_err-maybe-9
unfolding test_checks
returns-in_err-maybe-9 c =
    faulty _ _ _ c.from_residual-in_err-maybe-9.ensures.1
    (passes_one _ _ _ _ c.in_ok-maybe.ensures ∙ passes_one _ _ _ _ c.in_ok-maybe-2.ensures ∙ passes_one _ _ _ _ c.in_ok-maybe-3.ensures
    ∙ passes_one _ _ _ _ c.in_ok-maybe-4.ensures ∙ passes_one _ _ _ _ c.in_ok-maybe-5.ensures ∙ passes_one _ _ _ _ c.in_ok-maybe-6.ensures
    ∙ passes_one _ _ _ _ c.in_ok-maybe-7.ensures ∙ passes_one _ _ _ _ c.in_ok-maybe-8.ensures
    ∙ fails_one _ _ _ _ (rw c.has_receiver-peer.ensures at c.in_err-maybe-9.ensures))

pub returns-in_err-maybe-10 : goal.returns-in_err-maybe-10
unfolding test_checks
returns-in_err-maybe-10 c =
    faulty _ _ _ c.from_residual-in_err-maybe-10.ensures.1
    (passes_one _ _ _ _ c.in_ok-maybe.ensures ∙ passes_one _ _ _ _ c.in_ok-maybe-2.ensures ∙ passes_one _ _ _ _ c.in_ok-maybe-3.ensures
    ∙ passes_one _ _ _ _ c.in_ok-maybe-4.ensures ∙ passes_one _ _ _ _ c.in_ok-maybe-5.ensures ∙ passes_one _ _ _ _ c.in_ok-maybe-6.ensures
    ∙ passes_one _ _ _ _ c.in_ok-maybe-7.ensures ∙ passes_one _ _ _ _ c.in_ok-maybe-8.ensures
    ∙ passes_one _ _ _ _ (rw c.has_receiver-peer.ensures at c.in_ok-maybe-9.ensures)
    ∙ fails_one _ _ _ _ (rw c.has_receiver-peer.ensures at c.in_err-maybe-10.ensures))

pub returns-in_err-maybe-11 : goal.returns-in_err-maybe-11
unfolding test_checks
returns-in_err-maybe-11 c =
    faulty _ _ _ c.from_residual-in_err-maybe-11.ensures.1
    (passes_one _ _ _ _ c.in_ok-maybe.ensures ∙ passes_one _ _ _ _ c.in_ok-maybe-2.ensures ∙ passes_one _ _ _ _ c.in_ok-maybe-3.ensures
    ∙ passes_one _ _ _ _ c.in_ok-maybe-4.ensures ∙ passes_one _ _ _ _ c.in_ok-maybe-5.ensures ∙ passes_one _ _ _ _ c.in_ok-maybe-6.ensures
    ∙ passes_one _ _ _ _ c.in_ok-maybe-7.ensures ∙ passes_one _ _ _ _ c.in_ok-maybe-8.ensures
    ∙ passes_one _ _ _ _ (rw c.has_receiver-peer.ensures at c.in_ok-maybe-9.ensures)
    ∙ passes_one _ _ _ _ (rw c.has_receiver-peer.ensures at c.in_ok-maybe-10.ensures) ∙ fails_one _ _ _ _ c.in_err-maybe-11.ensures)
