use Rattle.std.proofs.Common.{◌∙◌}
use Rattle.rs_policy.proofs.Reading.Checks.{passes, fails, passes_one, fails_one, answer-append-err, answer-err_for, passed_on}
use Rattle.rs_policy.proofs.Reading.Wholes.{top_is, top_passes, clients_pass, lists_pass, shared_pass, document_passes}
use Rattle.rs_policy.proofs.Accepted.Imports.{answer_read}
use Rattle.rs_policy.proofs.config.Config.from_document.Goals as goal

pub returns-in_err-top : goal.returns-in_err-top
returns-in_err-top c = passed_on _ _ _ c.from_residual.ensures.1 (λ _. fails _ _ _ _ _ c.in_err-top.ensures)

pub returns-in_err-tables : goal.returns-in_err-tables
returns-in_err-tables c =
    passed_on _ _ _ c.from_residual-in_err-tables.ensures.1
    (λ _. passes _ _ _ _ _ c.in_ok-top.ensures ∙ fails_one _ _ _ _ c.in_err-tables.ensures.tables)

pub returns-in_err-named : goal.returns-in_err-named
returns-in_err-named c =
    passed_on _ _ _ c.from_residual-in_err-named.ensures.1
    (λ _. passes _ _ _ _ _ c.in_ok-top.ensures ∙ passes_one _ _ _ _ c.in_ok-tables.ensures.tables ∙ fails_one _ _ _ _ c.in_err-named.ensures.tables)

pub returns-in_err-used : goal.returns-in_err-used
returns-in_err-used c =
    passed_on _ _ _ c.from_residual-in_err-used.ensures.1
    (λ _. passes _ _ _ _ _ c.in_ok-top.ensures ∙ passes_one _ _ _ _ c.in_ok-tables.ensures.tables ∙ passes_one _ _ _ _ c.in_ok-named.ensures.tables
    ∙ fails_one _ _ _ _ c.in_err-used.ensures)

pub returns-in_err-refuse_other_keys : goal.returns-in_err-refuse_other_keys
returns-in_err-refuse_other_keys c =
    passed_on _ _ _ c.from_residual-in_err-refuse_other_keys.ensures.1
    (λ _. passes _ _ _ _ _ c.in_ok-top.ensures ∙ passes_one _ _ _ _ c.in_ok-tables.ensures.tables ∙ passes_one _ _ _ _ c.in_ok-named.ensures.tables
    ∙ passes_one _ _ _ _ c.in_ok-used.ensures ∙ fails_one _ _ _ _ c.in_err-refuse_other_keys.ensures)

pub returns-in_err-clients : goal.returns-in_err-clients
returns-in_err-clients c =
    passed_on _ _ _ c.from_residual-in_err-clients.ensures.1
    (λ other. top_passes _ _ _ _ _ _ (top_is _ _ _ _ _ c.in_ok-top.ensures c.in_ok-tables.ensures.tables c.in_ok-named.ensures.tables c.in_ok-used.ensures c.in_ok-refuse_other_keys.ensures)
    ∙ answer-append-err _ _ _ _ _ (c.in_err-clients.ensures.answers.1 other))

pub returns-in_err-lists : goal.returns-in_err-lists
returns-in_err-lists c =
    passed_on _ _ _ c.from_residual-in_err-lists.ensures.1
    (λ other. clients_pass _ _ _ _ _ _ _ (top_is _ _ _ _ _ c.in_ok-top.ensures c.in_ok-tables.ensures.tables c.in_ok-named.ensures.tables c.in_ok-used.ensures c.in_ok-refuse_other_keys.ensures) c.in_ok-clients.ensures.answers.0
    ∙ answer-append-err _ _ _ _ _ (c.in_err-lists.ensures.1 other))

pub returns-in_err-shared : goal.returns-in_err-shared
returns-in_err-shared c =
    passed_on _ _ _ c.from_residual-in_err-shared.ensures.1
    (λ other. lists_pass _ _ _ _ _ _ _ _ (top_is _ _ _ _ _ c.in_ok-top.ensures c.in_ok-tables.ensures.tables c.in_ok-named.ensures.tables c.in_ok-used.ensures c.in_ok-refuse_other_keys.ensures) c.in_ok-clients.ensures.answers.0 c.in_ok-lists.ensures.0
    ∙ answer-append-err _ _ _ _ _ (rw (c.deref.ensures.value, c.deref-2.ensures.value) at (c.in_err-shared.ensures.1 other)))

pub returns-in_err-policies : goal.returns-in_err-policies
returns-in_err-policies c =
    passed_on _ _ _ c.from_residual-in_err-policies.ensures.1
    (λ other. shared_pass _ _ _ _ _ _ _ _ _ (top_is _ _ _ _ _ c.in_ok-top.ensures c.in_ok-tables.ensures.tables c.in_ok-named.ensures.tables c.in_ok-used.ensures c.in_ok-refuse_other_keys.ensures) c.in_ok-clients.ensures.answers.0 c.in_ok-lists.ensures.0
    (rw (c.deref.ensures.value, c.deref-2.ensures.value) at c.in_ok-shared.ensures.0)
    ∙ answer-err_for _ _ _ _ (rw (c.deref-3.ensures.value, c.deref-4.ensures.value, c.deref-5.ensures.value) at (c.in_err-policies.ensures.answers.1 other)))

pub returns : goal.returns
returns c = (
  document_passes _ _ _ _ _ _ _ _ _ (top_is _ _ _ _ _ c.in_ok-top.ensures c.in_ok-tables.ensures.tables c.in_ok-named.ensures.tables c.in_ok-used.ensures c.in_ok-refuse_other_keys.ensures) c.in_ok-clients.ensures.answers.0 c.in_ok-lists.ensures.0
      (rw (c.deref.ensures.value, c.deref-2.ensures.value) at c.in_ok-shared.ensures.0)
      (rw (c.deref-3.ensures.value, c.deref-4.ensures.value, c.deref-5.ensures.value) at c.in_ok-policies.ensures.answers.0),
  tt,
)

pub invariant_of-result : goal.invariant_of-result
invariant_of-result c =
    answer_read _ _
    (document_passes _ _ _ _ _ _ _ _ _ (top_is _ _ _ _ _ c.in_ok-top.ensures c.in_ok-tables.ensures.tables c.in_ok-named.ensures.tables c.in_ok-used.ensures c.in_ok-refuse_other_keys.ensures) c.in_ok-clients.ensures.answers.0 c.in_ok-lists.ensures.0
    (rw (c.deref.ensures.value, c.deref-2.ensures.value) at c.in_ok-shared.ensures.0)
    (rw (c.deref-3.ensures.value, c.deref-4.ensures.value, c.deref-5.ensures.value) at c.in_ok-policies.ensures.answers.0))
