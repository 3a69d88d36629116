-- Where an outlet is drained, what its client asked for again was told again.
use Rattle.std.proofs.Common.{◌≡◌, ◌<◌, ℕ, true, false, List, [], ◌++◌, sym, ◌∙◌, ap, subst}
use Rattle.std.specs.Prelude.{is_some}
use Rattle.std.specs.FinMap as fin
use Rattle.std.specs.FinSet as set
use Rattle.std.proofs.lemmas.Bool.{false≢true, false_from_ne_true}
use Rattle.std.proofs.lemmas.List.{append-nil}
use Rattle.rs_octets.specs.Messages.{header_fault_of, rest_of}
use Rattle.rs_octets.specs.Prefixes.{prefix_order}
use Rattle.rs_outlet.specs.Views.{View, IsDrained}
use Rattle.rs_core.specs.Run.Moves.{Move}
use Rattle.rs_core.specs.Session.Hearing.{Hearing}
use Rattle.rs_core.specs.Told.InTurn.{IsAnswered}
use Rattle.rs_core.specs.Told.Order.{TellsAt, TellsInOrder}
use Rattle.rs_core.specs.Ribs.{outlet_in}
use Rattle.rs_core.specs.Told.Telling.{allowed_to}
use Rattle.rs_core.specs.Run.Meaning.{hearing, due}
use Rattle.rs_core.specs.Run.Agreeing.{Agrees}
use Rattle.rs_core.specs.declared.route_server.Core.{Core}
use Rattle.rs_core.proofs.Told.Serving.{drained_done, told_is_due}

pub drained_is_answered : (core : Core) (run : List Move) (c : ℕ) (none : View) → c < core.count → IsDrained (outlet_in core.ribs c none) → Agrees core run → IsAnswered run c
drained_is_answered core run c none lt drained h = record {
  told = λ speech p is some.
      let v : View = outlet_in core.ribs c none in
      let at = (h.clients c lt).knows in
      let it : Hearing = hearing c run in
      let up = (at.outlet h.config none).speech ∙ is in
      let octets : it.taken ++ v.flight ≡ it.taken = ap (λ f. it.taken ++ f) drained.flight ∙ append-nil it.taken in
      let t = (at.ordered h.config none).told speech up p in
      let same : due run c p ≡ fin.get v.told p = told_is_due core run c none speech lt (drained_done v drained) h up is p in
      let there : fin.contains_key v.told p ≡ true = ap is_some (sym same) ∙ some in
      let unmarked : set.contains v.marked p ≡ false = ap (λ x. set.contains x p) drained.unmarked ∙ set.contains-empty prefix_order p in
      let whole : rest_of (allowed_to speech.limit) it.taken ≡ [] = ap (rest_of (allowed_to speech.limit)) (sym octets) ∙ ((at.outlet h.config none).since speech up).whole in
      record {
        readable = ap (header_fault_of (allowed_to speech.limit)) whole;
        values = t.values;
        tells = subst (λ o. TellsAt speech o p t.values) octets t.tells;
        last = sym t.told ∙ sym same;
        order = subst (λ a. TellsInOrder speech it.points p t.values a) (false_from_ne_true t.asked (λ a. false≢true (sym unmarked ∙ t.pending a there))) t.order;
      };
}
