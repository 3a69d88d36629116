use Rattle.std.proofs.Common.{Some, ◌∙◌, refl}
use Rattle.std.specs.Arc.{arc_value}
use Rattle.rs_adjin.specs.AdjIns.{held_of}
use Rattle.rs_core.proofs.Run.Numbers.{same_kept, kept_on}
use Rattle.rs_core.proofs.Run.Changing.{changed_is, keeps_on, unchanged_is, same_on, sets_on, sets_nothing, told_others, told_nobody}
use Rattle.rs_core.proofs.ribs.Ribs.announce.Goals as goal

pub returns-in_err-number-clause-kept : goal.returns-in_err-number-clause-kept
returns-in_err-number-clause-kept c = told_nobody c.args.self.now _ (record { count = refl; extended = refl; config = refl }) refl c.add.ensures.numbers c.add.ensures.same

pub returns-in-Err-clause-settings : goal.returns-in-Err-clause-settings
returns-in-Err-clause-settings c = record { count = c.give_up.ensures.settings.count; extended = c.give_up.ensures.settings.extended; config = c.give_up.ensures.settings.config }

pub returns-in-Err-clause-refused : goal.returns-in-Err-clause-refused
returns-in-Err-clause-refused c = same_on _ _ _ (same_on _ _ _ c.add.ensures.same c.in-Err.ensures.err) c.give_up.ensures.tables

pub returns-in-Err-clause-touched : goal.returns-in-Err-clause-touched
returns-in-Err-clause-touched c = λ h. record {
  changed = λ ne. absurd (ne ((same_on _ _ _ (same_on _ _ _ c.add.ensures.same c.in-Err.ensures.err) c.give_up.ensures.tables).held c.args.c c.args.prefix));
  unchanged = λ e. c.give_up.ensures.outlets;
}

pub returns-in-Err-clause-kept : goal.returns-in-Err-clause-kept
returns-in-Err-clause-kept c = keeps_on _ _ _
    (told_nobody c.args.self.now _ (record { count = refl; extended = refl; config = refl }) refl
    (kept_on _ _ _ c.add.ensures.numbers (same_kept _ _ c.put_at.ensures.numbers)) (same_on _ _ _ c.add.ensures.same c.in-Err.ensures.err))
    c.give_up.ensures.kept

pub returns-then-changed-clause-touched : goal.returns-then-changed-clause-touched
returns-then-changed-clause-touched c =
    (told_others c.args.c c.args.prefix (Some (arc_value c.args.attrs.now)) c.args.self.now _ c.touch_others.new.self (record { count = refl; extended = refl; config = refl }) refl
    (kept_on _ _ _ c.add.ensures.numbers (same_kept _ _ c.put_at.ensures.numbers)) (sets_on _ _ _ c.args.c c.args.prefix _ c.add.ensures.same (c.in-Ok.ensures.ok c.args.prefix c.in_ok-number.ensures.number))
    (λ e. changed_is c.in-Ok.changed (held_of c.add.new.self c.args.c c.args.prefix) (Some (arc_value c.args.attrs.now)) (c.in-Ok.ensures.changed c.args.prefix c.in_ok-number.ensures.number) c.if-changed.true (c.add.ensures.same.held c.args.c c.args.prefix ∙ e))
    c.touch_others.ensures.settings c.touch_others.ensures.tables c.touch_others.ensures.touched c.touch_others.ensures.numbered).0

pub returns-then-changed-clause-kept : goal.returns-then-changed-clause-kept
returns-then-changed-clause-kept c =
    (told_others c.args.c c.args.prefix (Some (arc_value c.args.attrs.now)) c.args.self.now _ c.touch_others.new.self (record { count = refl; extended = refl; config = refl }) refl
    (kept_on _ _ _ c.add.ensures.numbers (same_kept _ _ c.put_at.ensures.numbers)) (sets_on _ _ _ c.args.c c.args.prefix _ c.add.ensures.same (c.in-Ok.ensures.ok c.args.prefix c.in_ok-number.ensures.number))
    (λ e. changed_is c.in-Ok.changed (held_of c.add.new.self c.args.c c.args.prefix) (Some (arc_value c.args.attrs.now)) (c.in-Ok.ensures.changed c.args.prefix c.in_ok-number.ensures.number) c.if-changed.true (c.add.ensures.same.held c.args.c c.args.prefix ∙ e))
    c.touch_others.ensures.settings c.touch_others.ensures.tables c.touch_others.ensures.touched c.touch_others.ensures.numbered).1

pub returns-else-changed-clause-kept : goal.returns-else-changed-clause-kept
returns-else-changed-clause-kept c =
    told_nobody c.args.self.now _ (record { count = refl; extended = refl; config = refl }) refl (kept_on _ _ _ c.add.ensures.numbers (same_kept _ _ c.put_at.ensures.numbers))
    (same_on _ _ _ c.add.ensures.same (sets_nothing _ _ c.args.c c.args.prefix (Some (arc_value c.args.attrs.now)) (c.in-Ok.ensures.ok c.args.prefix c.in_ok-number.ensures.number)
    (unchanged_is c.in-Ok.changed (held_of c.add.new.self c.args.c c.args.prefix) (Some (arc_value c.args.attrs.now)) (c.in-Ok.ensures.changed c.args.prefix c.in_ok-number.ensures.number) c.if-changed.false)))
