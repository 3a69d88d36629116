use Rattle.std.proofs.Common.{◌≡◌, ◌∙◌, ℕ, false, Option, Some, IsSome, is_some, ap, sym, subst}
use mathlib.Core.Bool.{true≢false}
use Rattle.rs_outlet.specs.declared.answers.Speech.{Speech}
use Rattle.rs_octets.specs.Prefixes.{Prefix}
use Rattle.rs_adjin.specs.AdjIns.{number_of}
use Rattle.rs_outlet.specs.Views.{View, AreNumbered, is_touched}
use Rattle.rs_outlet.specs.Inside.{view_of, numbers_from}
use Rattle.rs_outlet.proofs.Decided.Numbering.{all_front, all_behind, all_both}
use Rattle.rs_outlet.proofs.Decided.TouchedNumbers.{touch_up}
use Rattle.rs_outlet.proofs.Decided.TouchedList.{added_stale, kept_stale, stale_within}
use Rattle.rs_outlet.proofs.outlet.Outlet.touch.Goals as goal

not_up : (o u : Option Speech) (P : Type 0) → o ≡ u → is_some o ≡ false → IsSome u → P
not_up o u P same none up = absurd (true≢false (sym up ∙ sym (ap is_some same) ∙ none))

pub returns-then-is_some-clause-touched : goal.returns-then-is_some-clause-touched
returns-then-is_some-clause-touched c = λ ins h is.
    let P = λ (e : ℕ × Prefix). number_of ins e.1 ≡ Some e.0 in
    let rows = numbers_from 0 c.self.inside.rows.rows.items in
    let was = subst (λ (v : View). AreNumbered v ins) (sym c.self.view_is) h in
    touch_up (view_of c.self.inside) c.args.self.now c.args.prefix _ c.self.view_is (sym c.if-is_some.ensures) (c.add.ensures.touched ins (all_behind P rows _ was))

pub returns-then-is_some-clause-numbered : goal.returns-then-is_some-clause-numbered
returns-then-is_some-clause-numbered c = λ ins h is.
    let P = λ (e : ℕ × Prefix). number_of ins e.1 ≡ Some e.0 in
    let rows = numbers_from 0 c.self.inside.rows.rows.items in
    let was = subst (λ (v : View). AreNumbered v ins) (sym c.self.view_is) h in
    all_both P rows _ (all_front P rows _ was) (c.add.ensures.numbered ins (all_behind P rows _ was) is)

pub returns-then-is_some-clause-stale : goal.returns-then-is_some-clause-stale
returns-then-is_some-clause-stale c = λ ins h is.
    let P = λ (e : ℕ × Prefix). number_of ins e.1 ≡ Some e.0 in
    let rows = numbers_from 0 c.self.inside.rows.rows.items in
    let was = subst (λ (v : View). AreNumbered v ins) (sym c.self.view_is) h in
    let added = c.add.ensures.stale ins (all_behind P rows _ was) in
    record {
      added = λ up. added_stale c.args.prefix _ _ added;
      kept = λ q there. kept_stale c.args.prefix q _ _ added (ap (λ (v : View). is_touched v.stale q) c.self.view_is ∙ there);
    }

pub returns-then-is_some-clause-stale_touched : goal.returns-then-is_some-clause-stale_touched
returns-then-is_some-clause-stale_touched c = λ q out. stale_within c.add.new.self.all c.add.new.self.prefixes.items q out

pub returns-else-is_some-clause-stale : goal.returns-else-is_some-clause-stale
returns-else-is_some-clause-stale c = λ ins h is. record {
  added = λ up. not_up c.self.inside.speech c.args.self.now.speech _ (ap (λ (v : View). v.speech) c.self.view_is) (sym c.if-is_some.ensures) up;
  kept = λ q there. there;
}

pub returns-else-is_some-clause-stale_touched : goal.returns-else-is_some-clause-stale_touched
returns-else-is_some-clause-stale_touched c = λ q out.
    ap (λ (v : View). is_touched v.stale q) (sym c.self.view_is)
    ∙ stale_within c.self.inside.touched.all c.self.inside.touched.prefixes.items q (ap (λ (v : View). is_touched v.touched q) c.self.view_is ∙ out)
