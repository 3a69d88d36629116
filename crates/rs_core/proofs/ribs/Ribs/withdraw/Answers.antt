use Rattle.std.proofs.Common.{◌≡◌, false, true, None, ap, sym, ◌∙◌, refl}
use Rattle.std.specs.Prelude.{is_some}
use Rattle.rs_adjin.specs.AdjIns.{held_of}
use Rattle.rs_core.proofs.Run.Numbers.{same_kept}
use Rattle.rs_core.proofs.Run.Changing.{none_of, sets_nothing, told_others, told_nobody}
use Rattle.rs_core.proofs.ribs.Ribs.withdraw.Goals as goal

pub returns-then-withdraw_at-clause-touched : goal.returns-then-withdraw_at-clause-touched
returns-then-withdraw_at-clause-touched c =
    (told_others c.args.c c.args.prefix None c.args.self.now _ c.touch_others.new.self (record { count = refl; extended = refl; config = refl }) refl (same_kept _ _ c.withdraw_at.ensures.numbers) (c.withdraw_at.ensures.withdrawn c.args.prefix (sym c.in-Some.ensures.number))
    (λ e. absurd (let f : true ≡ false = sym c.if-withdraw_at.true ∙ c.withdraw_at.ensures.taken c.args.prefix (sym c.in-Some.ensures.number) ∙ ap is_some e in (cc))) c.touch_others.ensures.settings c.touch_others.ensures.tables c.touch_others.ensures.touched c.touch_others.ensures.numbered).0

pub returns-then-withdraw_at-clause-kept : goal.returns-then-withdraw_at-clause-kept
returns-then-withdraw_at-clause-kept c =
    (told_others c.args.c c.args.prefix None c.args.self.now _ c.touch_others.new.self (record { count = refl; extended = refl; config = refl }) refl (same_kept _ _ c.withdraw_at.ensures.numbers) (c.withdraw_at.ensures.withdrawn c.args.prefix (sym c.in-Some.ensures.number))
    (λ e. absurd (let f : true ≡ false = sym c.if-withdraw_at.true ∙ c.withdraw_at.ensures.taken c.args.prefix (sym c.in-Some.ensures.number) ∙ ap is_some e in (cc))) c.touch_others.ensures.settings c.touch_others.ensures.tables c.touch_others.ensures.touched c.touch_others.ensures.numbered).1

pub returns-else-withdraw_at-clause-kept : goal.returns-else-withdraw_at-clause-kept
returns-else-withdraw_at-clause-kept c =
    told_nobody c.args.self.now _ (record { count = refl; extended = refl; config = refl }) refl (same_kept _ _ c.withdraw_at.ensures.numbers)
    (sets_nothing _ _ c.args.c c.args.prefix None (c.withdraw_at.ensures.withdrawn c.args.prefix (sym c.in-Some.ensures.number)) (none_of (held_of c.args.self.now.tables c.args.c c.args.prefix) (sym (c.withdraw_at.ensures.taken c.args.prefix (sym c.in-Some.ensures.number)) ∙ c.if-withdraw_at.false)))
