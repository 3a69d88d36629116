use Rattle.std.proofs.Common.{◌≡◌, ◌≤◌, ◌∙◌, Some, false, sym, subst, ap}
use Rattle.rs_policy.specs.Configuration.{stated_of}
use Rattle.rs_policy.specs.Judged.{passed_as}
use Rattle.rs_policy.specs.Noted.{import_outcome, is_plain, place_of, rule_of}
use Rattle.rs_policy.specs.Reasons.{decider}
use Rattle.rs_policy.specs.Verdicts.{outcome}
use Rattle.rs_policy.proofs.Judging.Noted.{decider_small}
use Rattle.rs_policy.proofs.rules.noting.import_note.Goals as goal

pub note_of-requires-clause-place : goal.note_of-requires-clause-place
note_of-requires-clause-place c =
    let s = c.args.config.now in
    let passed : import_outcome s c.args.from c.args.from c.args.prefix.now c.args.attrs.now ≡ Some (passed_as c.in-Some.import) =
    sym (λ i. outcome (c.default.ensures i) (c.lists.ensures i) (c.import-imports.ensures i) (c.offer_to-offer.ensures i)) ∙ sym c.in-Some.ensures in
    let other : is_plain (passed_as c.in-Some.import) ≡ false = sym c.is_plain.ensures ∙ c.if-is_plain.false in
    let small = decider_small s c.args.from c.args.prefix.now c.args.attrs.now (passed_as c.in-Some.import) c.is_read.ensures c.requires passed other in
    subst (λ d. place_of d ≤ 64) (sym (c.import_decider.ensures ∙ ap (decider s.lists s.shared (stated_of s c.args.from).import) c.offer_to-offer.ensures)) small.0

pub note_of-requires-clause-rule : goal.note_of-requires-clause-rule
note_of-requires-clause-rule c =
    let s = c.args.config.now in
    let passed : import_outcome s c.args.from c.args.from c.args.prefix.now c.args.attrs.now ≡ Some (passed_as c.in-Some.import) =
    sym (λ i. outcome (c.default.ensures i) (c.lists.ensures i) (c.import-imports.ensures i) (c.offer_to-offer.ensures i)) ∙ sym c.in-Some.ensures in
    let other : is_plain (passed_as c.in-Some.import) ≡ false = sym c.is_plain.ensures ∙ c.if-is_plain.false in
    let small = decider_small s c.args.from c.args.prefix.now c.args.attrs.now (passed_as c.in-Some.import) c.is_read.ensures c.requires passed other in
    subst (λ d. rule_of d ≤ 64) (sym (c.import_decider.ensures ∙ ap (decider s.lists s.shared (stated_of s c.args.from).import) c.offer_to-offer.ensures)) small.1
