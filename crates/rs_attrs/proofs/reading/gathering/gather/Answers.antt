use Rattle.std.proofs.Common.{ap, ◌∙◌, arith, get_or, false}
use Rattle.rs_attrs.specs.declared.reading.field.Found.{Found}
use Rattle.rs_attrs.specs.Flaws.{with_flaw}
use Rattle.rs_attrs.specs.Walking.{spelling_in}
use Rattle.smallvec.specs.SmallVec.{SmallVec}
use Rattle.rs_attrs.proofs.Fields.GatherWalk.{gathering_start, gathering_kept, kept_new, gathering_noted, rest_faulted}
use Rattle.rs_attrs.proofs.reading.gathering.gather.Goals as goal
use Rattle.rs_attrs.proofs.reading.gathering.gather.Goals.{then-counts+in_ok-keep, else-counts}

pub loop-found-init : goal.loop-found-init
loop-found-init c = gathering_start c.args.mode c.args.field.now _ c.requires

pub keep-requires-clause-new : goal.keep-requires-clause-new
keep-requires-clause-new c = kept_new _ _ _ _ _ _ (spelling_in c.in-Some.found) c.from-place.result c.counts.result c.loop-found.invariant c.from-place.ensures c.counts.ensures c.if-counts.true

pub loop-found-preserved : goal.loop-found-preserved
loop-found-preserved c = elim c.if-counts.branch [
  | then-counts+in_ok-keep w ↦
      gathering_kept _ _ _ _ _ _ _ _ _ _ (spelling_in c.in-Some.found) c.from-place.result c.counts.result c.loop-found.invariant c.in-Some.ensures.step (omega (arith, c.in-Some.ensures.byte)) c.from-place.ensures c.counts.ensures w.if-counts.true
      (λ i. (w.faults-is i, w.faulted-is i))
      (ap (λ (v : SmallVec Found). v.items) w.kept-is)
      w.in_ok-keep.ensures.rising
      w.in_ok-keep.ensures.noted
  | else-counts w ↦
      gathering_noted _ _ _ _ _ _ _ _ _ (spelling_in c.in-Some.found) c.from-place.result c.counts.result c.loop-found.invariant c.in-Some.ensures.step (omega (arith, c.in-Some.ensures.byte)) c.from-place.ensures c.counts.ensures w.if-counts.false
      (ap (λ (v : SmallVec Found). v.items) w.kept-is)
      (λ i. ((w.faults-is ∙ w.take_note.ensures) i, (w.faulted-is ∙ w.noting_found-faulted.ensures) i))
]

pub returns-clause-faulted : goal.returns-clause-faulted
returns-clause-faulted c =
    let noted = c.noting.ensures ∙ ap (with_flaw c.loop-found.faulted) c.flaw_of_rest.ensures in
    (λ i. record (noted i) { mp_reach = get_or c.loop-found.came (c.from.ensures i) false })
    ∙ rest_faulted _ _ _ _ _ _ c.loop-found.invariant c.in_default.ensures.step
