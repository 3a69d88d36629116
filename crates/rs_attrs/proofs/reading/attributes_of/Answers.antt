use Rattle.std.proofs.Common.{◌≡◌, ◌+◌, ◌-◌, ℕ, List, [], length, drop, get_or, sym, subst, ap, ◌∙◌, arith}
use Rattle.std.specs.Prelude.{Vec}
use Rattle.std.specs.Global.{Global}
use Rattle.std.proofs.lemmas.List.{drop_more, drop_all}
use Rattle.rs_attrs.specs.Heads.{Head}
use Rattle.rs_attrs.specs.declared.reading.field.Found.{Found}
use Rattle.rs_attrs.specs.Meaning.{value_meant}
use Rattle.rs_attrs.specs.Walking.{noted, spelling_in}
use Rattle.rs_attrs.specs.Writing.{IsLegal}
use Rattle.rs_attrs.proofs.Fields.Placing.{rising_noted}
use Rattle.rs_attrs.proofs.Fields.Building.{Building, building_start, building_skip, building_noted, building_end, added_length}
use Rattle.rs_attrs.proofs.reading.attributes_of.Goals as goal
use Rattle.rs_attrs.proofs.reading.attributes_of.Goals.{then-not-has_no_meaning+in_ok-push_value+in_ok-push, else-not-has_no_meaning}

-- what an index past the end would give
abbrev blank : Found
blank = record { flags = 0; kind = 0; value = record { ref_ptr = (0, 0); now = [] } }

pub push_value-requires-clause-here : goal.push_value-requires-clause-here
push_value-requires-clause-here c = rising_noted c.args.kept.now c.loop-found.found-index blank c.requires.rising c.loop-found-test.true

pub overflow_cast-len : goal.overflow_cast-len
overflow_cast-len c =
    let here = rising_noted c.args.kept.now c.loop-found.found-index blank c.requires.rising c.loop-found-test.true in
    let added : c.len.result - c.len-before.result ≡ length (value_meant c.args.mode (noted c.args.kept.now) (spelling_in (get_or c.args.kept.now c.loop-found.found-index blank))) =
    added_length _ _ _ _ _ (omega (arith, c.len-before.ensures, c.loop-found.values.ok.0)) (omega (arith, c.len.ensures, c.push_value.new.values.ok.0)) c.in_ok-push_value.ensures in
    let short = c.requires.short _ _ here in
    omega (arith, added, short)

pub loop-found-preserved : goal.loop-found-preserved
loop-found-preserved c =
    let left = drop_more c.args.kept.now c.loop-found.found-index blank c.loop-found-test.true in
    elim c.if-not-has_no_meaning.branch [
      | then-not-has_no_meaning+in_ok-push_value+in_ok-push w ↦
          building_noted _ _ _ _ _ _ _ _ _ w.head_of.result (w.len.result - w.len-before.result) c.loop-found.invariant left (sym c.has_no_meaning.ensures ∙ w.if-not-has_no_meaning.true)
          (rising_noted c.args.kept.now c.loop-found.found-index blank c.requires.rising c.loop-found-test.true)
          (ap (λ (v : Vec ℕ Global). v.items) w.values-is ∙ w.in_ok-push_value.ensures)
          (added_length _ _ _ _ _ (omega (arith, w.len-before.ensures, c.loop-found.values.ok.0)) (omega (arith, w.len.ensures, w.push_value.new.values.ok.0)) w.in_ok-push_value.ensures)
          w.head_of.ensures
          (ap (λ (v : Vec Head Global). v.items) w.heads-is ∙ w.in_ok-push.ensures.items)
      | else-not-has_no_meaning w ↦
          let P : List Head → List ℕ → Type 0 = λ heads values. Building c.args.mode c.args.kept.now heads values (drop (c.loop-found.found-index + 1) c.args.kept.now) in
          subst (λ (heads : List Head). P heads c.if-not-has_no_meaning.values.items) (sym (ap (λ (v : Vec Head Global). v.items) w.heads-is))
          (subst (λ (values : List ℕ). P c.loop-found.heads.items values) (sym (ap (λ (v : Vec ℕ Global). v.items) w.values-is))
          (building_skip _ _ _ _ _ _ _ c.loop-found.invariant left (sym c.has_no_meaning.ensures ∙ w.if-not-has_no_meaning.false)))
    ]

pub loop-found-init : goal.loop-found-init
loop-found-init c = rw (c.in_ok-heads.ensures.items, c.in_ok-values.ensures.items) (building_start c.args.mode c.args.kept.now)

pub of-requires-clause-size : goal.of-requires-clause-size
of-requires-clause-size c = c.loop-found.invariant.size

pub of-requires-clause-legal : goal.of-requires-clause-legal
of-requires-clause-legal c =
    subst IsLegal (sym (building_end _ _ _ _ _ c.loop-found.invariant (drop_all c.loop-found.found-index c.args.kept.now c.loop-found-test.false))) c.requires.legal

pub returns : goal.returns
returns c = c.of.ensures ∙ building_end _ _ _ _ _ c.loop-found.invariant (drop_all c.loop-found.found-index c.args.kept.now c.loop-found-test.false)
