use Rattle.std.proofs.Common.{◌≡◌, ℕ, true, nat_eq, arith, refl, sym, ap, subst, ◌∙◌}
use Rattle.std.proofs.lemmas.Bool.Decides.{nat_tests}
use Rattle.rs_outlet.specs.Views.{View, IsDrained}
use Rattle.rs_outlet.specs.Inside.{loc_of}
use Rattle.rs_outlet.specs.Pending.Left.{HasNothingLeft}
use Rattle.rs_outlet.specs.Pending.Slots.{open_count}
use Rattle.rs_outlet.proofs.Pending.Draining.{told_drained, marked_drained, waits_drained, drained_open, empty_open}
use Rattle.rs_outlet.proofs.Message.Ranges.{empty_range}
use Rattle.rs_outlet.proofs.outlet.Outlet.is_drained.Goals as goal

zero_is : (n m : ℕ) → nat_eq n 0 ≡ true → n ≡ m → m ≡ 0
zero_is n m t e = grind (arith, nat_tests)

is_zero : (n m : ℕ) → n ≡ m → m ≡ 0 → nat_eq n 0 ≡ true
is_zero n m e h = grind (arith, nat_tests)

pub returns-clause-drained : goal.returns-clause-drained
returns-clause-drained c = λ t.
    let a = c.self.inside in
    let none : open_count a.waits.slots.items ≡ 0 = zero_is c.len.result _ t c.len.ensures in
    subst IsDrained c.self.view_is (record {
      up = c.if-is_none.ensures;
      untouched = c.if-not-is_empty.ensures.0 refl;
      unmarked = marked_drained (loc_of a.rows.rows.items) a.waits.slots.items none;
      told = told_drained (loc_of a.rows.rows.items) a.waits.slots.items none;
      flight = empty_range a.octets.items a.start a.end (omega arith);
      keepalive_due = c.if-self-2.false;
    })

pub returns-clause-exact : goal.returns-clause-exact
returns-clause-exact c = λ exact.
    let a = c.self.inside in (
      returns-clause-drained c,
      λ d. is_zero c.len.result _ c.len.ensures
          (drained_open c.args.self.now a.waits.slots.items exact (sym (ap (λ (v : View). v.waits) c.self.view_is)) d.told d.unmarked),
    )

pub returns-clause-left : goal.returns-clause-left
returns-clause-left c =
    let a = c.self.inside in (
      λ t. subst HasNothingLeft c.self.view_is (record {
        up = c.if-is_none.ensures;
        untouched = c.if-not-is_empty.ensures.0 refl;
        flight = empty_range a.octets.items a.start a.end (omega arith);
        keepalive_due = c.if-self-2.false;
        waits = waits_drained a.waits.slots.items (zero_is c.len.result _ t c.len.ensures);
      }),
      λ h. is_zero c.len.result _ c.len.ensures (empty_open a.waits.slots.items (ap (λ (v : View). v.waits) c.self.view_is ∙ h.waits)),
    )
