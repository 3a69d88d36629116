use Rattle.std.proofs.Common.{◌≡◌, ◌∙◌, List, Some, rules, sym, ap}
use Rattle.std.specs.Prelude.{Result, Ok, Err, OnErr, slice_set}
use Rattle.std.specs.Arc.{arc_value}
use Rattle.rs_attrs.specs.Meaning.{Attribute}
use Rattle.rs_adjin.specs.SetNumbering.{number_by}
use Rattle.rs_adjin.proofs.SetRows.{IsAdded, added_by, inverse_kept, written}
use Rattle.rs_adjin.proofs.sets.Sets.share.Goals as goal

-- ---- where they had no number

new : (c : goal.After-self-1) → IsAdded (number_by c.unused.new.self.numbers) (number_by c.find_or_give.new.self) (slice_set c.unused.new.self.rows.items c.in-Ok.unused record { attrs = Some c.in_ok-kept.kept }) (arc_value c.args.attrs.now)
new c =
    let same : arc_value c.in_ok-key.key ≡ arc_value c.args.attrs.now = search rules in
    added_by (number_by c.unused.new.self.numbers) (number_by c.find_or_give.new.self) c.unused.new.self.rows.items c.in-Ok.unused c.index_mut.result.now c.unused.new.self.inverse c.in-Ok.ensures.within c.index_mut.ensures.value
    (arc_value c.in_ok-key.key) (arc_value c.args.attrs.now) c.in_ok-kept.kept same (sym c.in-Ok-None.ensures.found ∙ c.in-Ok-None.field-0-is) c.in-Ok.ensures.unused (search rules) (c.in-Ok-None.ensures.given c.in-Ok-None.field-0-is)

pub invariant_of-self : goal.invariant_of-self
invariant_of-self c = record { inverse = (new c).inverse; counted = c.unused.new.self.counted }

added : (c : goal.Joined-index_mut) → IsAdded (number_by c.unused.new.self.numbers) (number_by c.find_or_give.new.self) (slice_set c.unused.new.self.rows.items c.in-Ok.unused record { attrs = Some c.in_ok-kept.kept }) (arc_value c.args.attrs.now)
added c =
    let same : arc_value c.in_ok-key.key ≡ arc_value c.args.attrs.now = search rules in
    added_by (number_by c.unused.new.self.numbers) (number_by c.find_or_give.new.self) c.unused.new.self.rows.items c.in-Ok.unused c.index_mut.result.now c.unused.new.self.inverse c.in-Ok.ensures.within c.index_mut.ensures.value
    (arc_value c.in_ok-key.key) (arc_value c.args.attrs.now) c.in_ok-kept.kept same (sym c.in-Ok-None.ensures.found ∙ c.in-Ok-None.field-0-is) c.in-Ok.ensures.unused (search rules) (c.in-Ok-None.ensures.given c.in-Ok-None.field-0-is)

pub returns-in-Ok-None-clause-set : goal.returns-in-Ok-None-clause-set
returns-in-Ok-None-clause-set c =
    let same : arc_value c.in_ok-key.key ≡ arc_value c.args.attrs.now = search rules in
    ap (number_by c.find_or_give.new.self) (sym same) ∙ written (number_by c.unused.new.self.numbers) (number_by c.find_or_give.new.self) (arc_value c.in_ok-key.key) (Some c.in-Ok.unused) (c.in-Ok-None.ensures.given c.in-Ok-None.field-0-is)

pub returns-in-Ok-None-clause-kept : goal.returns-in-Ok-None-clause-kept
returns-in-Ok-None-clause-kept c q m is = (added c).kept q m (c.unused.ensures.sets q ∙ is)

pub returns-in-Ok-None-clause-others : goal.returns-in-Ok-None-clause-others
returns-in-Ok-None-clause-others c q ne = (added c).others q ne ∙ c.unused.ensures.sets q

-- ---- where they had one

known : (c : goal.After-push) (m : List Attribute) → number_by c.find_or_give.new.self m ≡ number_by c.unused.new.self.numbers m
known c = c.in-Ok-Some.ensures.kept c.in-Ok-Some.set c.in-Ok-Some.field-0-is

pub invariant_of-self-in-Ok-Some : goal.invariant_of-self-in-Ok-Some
invariant_of-self-in-Ok-Some c = record { inverse = inverse_kept _ _ c.unused.new.self.rows.items (known c) c.unused.new.self.inverse; counted = c.unused.new.self.counted }

pub returns-in_ok-attrs-in-Ok-Some-clause-kept : goal.returns-in_ok-attrs-in-Ok-Some-clause-kept
returns-in_ok-attrs-in-Ok-Some-clause-kept c q m is = c.in-Ok-Some.ensures.kept c.in-Ok-Some.set c.in-Ok-Some.field-0-is q ∙ c.unused.ensures.sets q ∙ is

pub returns-in_ok-attrs-in-Ok-Some-clause-others : goal.returns-in_ok-attrs-in-Ok-Some-clause-others
returns-in_ok-attrs-in-Ok-Some-clause-others c q ne = c.in-Ok-Some.ensures.kept c.in-Ok-Some.set c.in-Ok-Some.field-0-is q ∙ c.unused.ensures.sets q

pub returns-in_err-attrs-in-Ok-Some-clause-kept : goal.returns-in_err-attrs-in-Ok-Some-clause-kept
returns-in_err-attrs-in-Ok-Some-clause-kept c q m is = c.in-Ok-Some.ensures.kept c.in-Ok-Some.set c.in-Ok-Some.field-0-is q ∙ c.unused.ensures.sets q ∙ is

pub returns-in_err-attrs-in-Ok-Some-clause-others : goal.returns-in_err-attrs-in-Ok-Some-clause-others
returns-in_err-attrs-in-Ok-Some-clause-others c q ne = c.in-Ok-Some.ensures.kept c.in-Ok-Some.set c.in-Ok-Some.field-0-is q ∙ c.unused.ensures.sets q

pub returns-in_err-attrs-in-Ok-Some-clause-err : goal.returns-in_err-attrs-in-Ok-Some-clause-err
returns-in_err-attrs-in-Ok-Some-clause-err c =
    at_err c.from_residual-in_err-attrs-in-Ok-Some.result (λ q. c.in-Ok-Some.ensures.kept c.in-Ok-Some.set c.in-Ok-Some.field-0-is q ∙ c.unused.ensures.sets q)
  where
    at_err : {A E P : Type 0} (r : Result A E) → P → OnErr r P
    at_err (Ok x) p = tt
    at_err (Err e) p = p

-- ---- where memory was refused

refused : (c : goal.After-push-in-Err) (m : List Attribute) → number_by c.find_or_give.new.self m ≡ number_by c.unused.new.self.numbers m
refused c = c.in-Err.ensures.err

pub invariant_of-self-in-Err : goal.invariant_of-self-in-Err
invariant_of-self-in-Err c = record { inverse = inverse_kept _ _ c.unused.new.self.rows.items (refused c) c.unused.new.self.inverse; counted = c.unused.new.self.counted }

pub returns-in-Err-clause-kept : goal.returns-in-Err-clause-kept
returns-in-Err-clause-kept c q m is = c.in-Err.ensures.err q ∙ c.unused.ensures.sets q ∙ is

pub returns-in-Err-clause-others : goal.returns-in-Err-clause-others
returns-in-Err-clause-others c q ne = c.in-Err.ensures.err q ∙ c.unused.ensures.sets q

pub returns-in-Err-clause-err : goal.returns-in-Err-clause-err
returns-in-Err-clause-err c q = c.in-Err.ensures.err q ∙ c.unused.ensures.sets q
