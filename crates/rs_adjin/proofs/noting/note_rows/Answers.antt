use Rattle.std.proofs.Common.{◌≡◌, ◌+◌, ◌<◌, ◌++◌, ◌∙◌, ℕ, suc, List, length, take, drop, refl, sym, subst, ap, arith}
use Rattle.std.specs.Prelude.{All, Some, slice_get, slice_set}
use Rattle.std.proofs.lemmas.List.{take_all, take-append-le}
use Rattle.rs_adjin.specs.declared.numbers.Row.{Row}
use Rattle.rs_adjin.specs.Numbering.{routes_in}
use Rattle.rs_adjin.specs.Noting.{RowsNote}
use Rattle.rs_adjin.proofs.TableRows.{shown}
use Rattle.rs_adjin.proofs.NotedRows.{FrontNotes, front_same, front_more, front_all}
use Rattle.rs_adjin.proofs.noting.note_rows.Goals as goal

pub note_row-requires : goal.note_row-requires
note_row-requires g c =
    let old = c.args.rows.now.items in
    let i = c.loop-row.row-index in
    let row = c.row-item.result in
    let known = g.N.Notes.known c.args.notes.now in
    let same : length c.deref_mut-row-items.result.now ≡ length old = ap (λ (rows : List Row). length rows) c.deref_mut-row-items.ensures.value in
    let read : slice_get old i ≡ Some row = shown old old i row refl (omega (arith, same, c.loop-row-test.true)) (c.row-item.is ∙ front_same (g.N.Notes.note_by c.args.notes.now) i old c.loop-row.row-items row c.loop-row.invariant) in
    subst (λ (r : Row). All (λ s. s.client < known) r.routes) c.row-item.is (subst (λ o. All (λ s. s.client < known) (routes_in o)) read (c.requires i))

pub loop-row-preserved : goal.loop-row-preserved
loop-row-preserved g c =
    let f = g.N.Notes.note_by c.args.notes.now in
    let old = c.args.rows.now.items in
    let now = c.loop-row.row-items in
    let i = c.loop-row.row-index in
    let next : suc i ≡ i + 1 = omega arith in
    subst (λ n. FrontNotes f n old (slice_set now i c.note_row.new.row)) next
    (front_more f i old now c.row-item.result c.note_row.new.row c.loop-row.invariant (omega (arith, c.loop-row.auto.row-items, c.loop-row-test.true)) (record { prefix = c.note_row.ensures.prefix; routes = c.note_row.ensures.routes }))

back : (xs ys : List Row) (n : ℕ) → n ≡ length xs → take n (xs ++ ys) ≡ xs
back xs ys n e = take-append-le n xs ys (omega (arith, e)) ∙ take_all n xs (omega (arith, e))

pub returns : goal.returns
returns g c =
    let f = g.N.Notes.note_by c.args.notes.now in
    let old = c.args.rows.now.items in
    let now = c.loop-row.row-items in
    let same : length c.deref_mut-row-items.result.now ≡ length old = ap (λ (rows : List Row). length rows) c.deref_mut-row-items.ensures.value in
    subst (RowsNote f old) (sym (back now (drop (length now) old) c.args.rows.now.len (omega (arith, same, c.loop-row.auto.row-items, c.args.rows.now.ok))))
    (front_all f c.loop-row.row-index old now c.loop-row.invariant (omega (arith, c.loop-row.auto.row-items, c.loop-row-test.false)))
