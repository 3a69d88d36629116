use Rattle.std.proofs.Common.{◌≡◌, ◌+◌, ◌<◌, ◌++◌, ◌∙◌, ℕ, List, length, map, take, drop, get_or, slice_set, ap, arith}
use Rattle.std.specs.Arc.{arc_value}
use Rattle.std.proofs.lemmas.List.Edits.{map_over_more}
use Rattle.rs_attrs.specs.Meaning.{Attribute}
use Rattle.rs_adjin.specs.declared.routes.Route.{Route}
use Rattle.rs_adjin.specs.Noting.{with_note}
use Rattle.rs_adjin.proofs.noting.note_routes.Goals as goal

-- one route more
more : (f : ℕ → List Attribute → ℕ) (old now : List Route) (i : ℕ) (r : Route) (note : ℕ) → i < length old → now ≡ map (with_note f) (take i old) ++ drop i old → r ≡ get_or now i r → note ≡ f (get_or now i r).client (arc_value (get_or now i r).attrs)
    → slice_set now i (record (get_or now i r) { note = note }) ≡ map (with_note f) (take (i + 1) old) ++ drop (i + 1) old
more f old now i r note below was is noted =
    ap (λ n. slice_set now i (record (get_or now i r) { note = n })) noted
    ∙ map_over_more (with_note f) old now i (get_or now i r) below was (ap (get_or now i) is)

pub loop-route-preserved : goal.loop-route-preserved
loop-route-preserved g c =
    let f : ℕ → List Attribute → ℕ = λ d m. g.N.Notes.note_by c.args.notes.now d c.args.prefix.now m in
    let now = c.loop-route.routes in
    let i = c.loop-route.route-index in
    more f c.args.routes.now now i c.route-item.result c.note-route.result (omega (arith, c.loop-route-test.true, c.loop-route.auto.routes)) c.loop-route.invariant c.route-item.is
    (c.note-route.ensures ∙ ap (f (get_or now i c.route-item.result).client) c.deref.ensures)
