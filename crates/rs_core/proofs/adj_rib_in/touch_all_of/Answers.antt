use Rattle.std.proofs.Common.{◌≡◌, List, ℕ, ◌<◌, length, Some, ap, subst, sym, slice_index_or}
use Rattle.rs_octets.specs.Prefixes.{Prefix}
use Rattle.rs_adjin.specs.AdjIns.{number_of}
use Rattle.rs_outlet.specs.Views.{View}
use Rattle.rs_core.proofs.Touched.Touching.{IsTouching, touching_on, touching_ends, touching_stops, next_number}
use Rattle.rs_core.proofs.adj_rib_in.touch_all_of.Goals as goal

pub loop-prefix-preserved : goal.loop-prefix-preserved
loop-prefix-preserved c =
    let tables = c.args.tables.now in
    let all = c.into_iter-prefix-iterator.result in
    let e : Prefix × ℕ = (c.in-Some.prefix, c.in-Some.number) in
    let now = subst (λ s. IsTouching tables all s c.args.outlet.now c.loop-prefix.outlet) c.in-Some.ensures.steps c.loop-prefix.invariant in
    let numbers = subst (λ (es : List (Prefix × ℕ)). (k : ℕ) (d : Prefix × ℕ) → k < length es → number_of tables (slice_index_or es k d).0 ≡ Some (slice_index_or es k d).1)
    (sym c.into_iter-prefix-iterator.ensures.into_iter_gives) c.held_by_number-prefix-items.ensures.numbers in
    let number = next_number tables all c.next.new.self e c.args.outlet.now c.loop-prefix.outlet now numbers in
    touching_on tables all c.next.new.self e c.args.outlet.now c.loop-prefix.outlet c.touch.new.self now
    c.touch.ensures.rest (λ h. c.touch.ensures.touched tables h number) (λ h. c.touch.ensures.stale tables h number) c.touch.ensures.stale_touched (λ h. c.touch.ensures.numbered tables h number)

pub returns : goal.returns
returns c =
    let now = subst (λ s. IsTouching c.args.tables.now c.held_by_number-prefix-items.result s c.args.outlet.now c.loop-prefix.outlet) c.in-None.ensures.steps.0
    (subst (λ s. IsTouching c.args.tables.now s c.loop-prefix.prefix-iterator c.args.outlet.now c.loop-prefix.outlet) c.into_iter-prefix-iterator.ensures.into_iter_gives c.loop-prefix.invariant) in
    record {
      client = ap (λ (v : View). v.client) now.rest;
      extended = ap (λ (v : View). v.extended) now.rest;
      rest = now.rest;
      touched = touching_ends c.args.tables.now c.args.c c.held_by_number-prefix-items.result c.args.outlet.now c.loop-prefix.outlet (record { all = c.held_by_number-prefix-items.ensures.all }) now;
      numbered = now.numbered;
    }

pub returns-then-is_all_touched-clause-touched : goal.returns-then-is_all_touched-clause-touched
returns-then-is_all_touched-clause-touched c =
    let now = subst (λ s. IsTouching c.args.tables.now s c.loop-prefix.prefix-iterator c.args.outlet.now c.loop-prefix.outlet) c.into_iter-prefix-iterator.ensures.into_iter_gives c.loop-prefix.invariant in
    touching_stops c.args.tables.now c.args.c c.held_by_number-prefix-items.result c.loop-prefix.prefix-iterator c.args.outlet.now c.loop-prefix.outlet (record { all = c.held_by_number-prefix-items.ensures.all }) now
    (c.is_all_touched.ensures.touched c.if-is_all_touched.true) (c.is_all_touched.ensures.stale c.if-is_all_touched.true)
