use Rattle.std.proofs.Common.{◌≡◌, ◌+◌, ◌<◌, ◌≤◌, ◌++◌, [], ◌∙◌, ℕ, Bool, List, length, map, take, drop, get_or, slice_set, append-nil, ap, arith}
use Rattle.std.proofs.lemmas.List.{take-append-le}
use Rattle.std.proofs.lemmas.List.Edits.{map_over_more}
use Rattle.rs_outlet.specs.declared.waiting.Wait.{Wait}
use Rattle.rs_outlet.specs.Pending.Marking.{is_told, remarked}
use Rattle.rs_outlet.proofs.Message.Chosen.{take_past}
use Rattle.rs_outlet.proofs.Message.Ranges.{drop_all}
use Rattle.rs_outlet.proofs.waiting.marking.mark_told.Goals as goal

self : (now : List Wait) (i : ℕ) (w : Wait) → w ≡ get_or now i w → get_or now i w ≡ get_or now i (get_or now i w)
self now i w is = ap (get_or now i) is

-- one slot more
more : (old now : List Wait) (i : ℕ) (w : Wait) (told : Bool) → i < length old → now ≡ map remarked (take i old) ++ drop i old → w ≡ get_or now i w → told ≡ is_told (get_or now i w).told
    → slice_set now i (record (get_or now i w) { marked = told }) ≡ map remarked (take (i + 1) old) ++ drop (i + 1) old
more old now i w told below was is marks =
    ap (λ b. slice_set now i (record (get_or now i w) { marked = b })) marks
    ∙ map_over_more remarked old now i (get_or now i w) below was (self now i w is)

back : (xs ys : List Wait) (n : ℕ) → n ≡ length xs → take n (xs ++ ys) ≡ xs
back xs ys n e = take-append-le n xs ys (omega (arith, e)) ∙ take_past n xs (omega (arith, e))

all_done : (old now : List Wait) (i : ℕ) → length old ≤ i → now ≡ map remarked (take i old) ++ drop i old → now ≡ map remarked old ++ []
all_done old now i past is = is ∙ (λ j. map remarked (take_past i old past j) ++ drop_all i old past j)

pub loop-wait-preserved : goal.loop-wait-preserved
loop-wait-preserved c =
    more c.args.slots.now.items c.loop-wait.wait-items c.loop-wait.wait-index c.wait-item.result c.is_told-wait.result
    (omega (arith, ap (λ (xs : List Wait). length xs) c.deref_mut-wait-items.ensures.value, c.loop-wait-test.true))
    c.loop-wait.invariant c.wait-item.is c.is_told-wait.ensures

pub returns-clause-items : goal.returns-clause-items
returns-clause-items c =
    let old = c.args.slots.now.items in
    let now = c.loop-wait.wait-items in
    let same : length c.deref_mut-wait-items.result.now ≡ length old = ap (λ (xs : List Wait). length xs) c.deref_mut-wait-items.ensures.value in
    back now (drop (length now) old) c.args.slots.now.len (omega (arith, same, c.loop-wait.auto.wait-items, c.args.slots.now.ok))
    ∙ all_done old now c.loop-wait.wait-index (omega (arith, same, c.loop-wait-test.false)) c.loop-wait.invariant
    ∙ append-nil (map remarked old)
