use Rattle.std.proofs.Common.{◌≡◌, ◌-◌, ◌∙◌, None, Some, ap, false, length, refl, sym, true}
use Rattle.std.specs.Prelude.{slice_get}
use Rattle.std.proofs.lemmas.Option.{slice_get_past, slice_get_read}
use Rattle.rs_outlet.specs.Pending.Linking.{is_for, place_from}
use Rattle.rs_outlet.proofs.Pending.Linking.{first_place, it_is_further, it_is_there, none_there}
use Rattle.rs_outlet.proofs.waiting.linking.place_of.Goals as goal

pub loop-left-init : goal.loop-left-init
loop-left-init c = first_place c.args.table.now c.args.hash c.saturating_sub.result c.saturating_sub.ensures

pub returns-in_default : goal.returns-in_default
returns-in_default c =
    let none : slice_get c.args.table.now c.loop-left.place ≡ None = slice_get_past c.args.table.now c.loop-left.place c.in_default.ensures.lookup.3 in
    sym (sym c.loop-left.invariant ∙ none_there c.args.table.now c.args.hash c.loop-left.left c.loop-left.place c.loop-left-test.true none)

pub returns-then-is_for : goal.returns-then-is_for
returns-then-is_for c =
    let here : slice_get c.args.table.now c.loop-left.place ≡ Some c.in-Some.entry.now = slice_get_read c.args.table.now (length c.args.table.now) c.loop-left.place c.in-Some.entry.now refl c.in-Some.ensures.lookup.3.0 c.in-Some.ensures.lookup.1 in
    let test : is_for c.args.hash c.in-Some.entry.now ≡ true = sym c.is_for.ensures ∙ c.if-is_for.true in
    sym (sym c.loop-left.invariant ∙ it_is_there c.args.table.now c.args.hash c.loop-left.left c.loop-left.place c.loop-left-test.true c.in-Some.entry.now here test)

pub loop-left-preserved : goal.loop-left-preserved
loop-left-preserved c =
    let here : slice_get c.args.table.now c.loop-left.place ≡ Some c.in-Some.entry.now = slice_get_read c.args.table.now (length c.args.table.now) c.loop-left.place c.in-Some.entry.now refl c.in-Some.ensures.lookup.3.0 c.in-Some.ensures.lookup.1 in
    let test : is_for c.args.hash c.in-Some.entry.now ≡ false = sym c.is_for.ensures ∙ c.if-is_for.false in
    ap (place_from c.args.table.now c.args.hash (c.loop-left.left - 1)) c.next_place-place.ensures
    ∙ sym (it_is_further c.args.table.now c.args.hash c.loop-left.left c.loop-left.place c.loop-left-test.true c.in-Some.entry.now here test) ∙ c.loop-left.invariant
