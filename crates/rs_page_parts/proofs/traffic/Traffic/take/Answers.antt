use Rattle.std.proofs.Common.{◌++◌, [], refl, sym, ap, subst, ◌∙◌, append_assoc}
use Rattle.std.proofs.lemmas.List.{append-nil, take-append-drop}
use Rattle.rs_page_parts.specs.Traffic.{HasCounted}
use Rattle.rs_page_parts.proofs.Counted.{nothing_left}
use Rattle.rs_page_parts.proofs.traffic.Traffic.take.Goals as goal

pub loop-rest-init : goal.loop-rest-init
loop-rest-init c = record {
  octets = refl;
  counted = λ before octets h.
      let so_far = subst (λ all. HasCounted before all c.args.self.now) (sym (append-nil octets)) h in
      ([], (record { count = so_far.count; reading = so_far.reading }, refl));
}

pub loop-rest-preserved : goal.loop-rest-preserved
loop-rest-preserved c = record {
  octets = c.pass.ensures.octets ∙ c.loop-rest.invariant.octets;
  counted = λ before octets h.
      let so_far = c.loop-rest.invariant.counted before octets h in (
        so_far.0 ++ c.split_at.result.0.now,
        (
          subst (λ all. HasCounted before all c.pass.new.self) (append_assoc octets so_far.0 c.split_at.result.0.now) (c.pass.ensures.counted before (octets ++ so_far.0) so_far.1.0),
          append_assoc so_far.0 c.split_at.result.0.now c.split_at.result.1.now
              ∙ ap (λ left. so_far.0 ++ left) ((λ k. c.split_at.ensures.front k ++ c.split_at.ensures.back k) ∙ take-append-drop c.min.result c.loop-rest.rest.now)
              ∙ so_far.1.1,
        ),
      );
}

pub returns-clause-counted : goal.returns-clause-counted
returns-clause-counted c before octets h =
    let so_far = c.loop-rest.invariant.counted before octets h in
    let none = nothing_left c.loop-rest.rest.now (sym c.is_empty.ensures ∙ c.loop-rest-test.false) in
    subst (λ piece. HasCounted before (octets ++ piece) c.loop-rest.self) (sym (append-nil so_far.0) ∙ ap (λ left. so_far.0 ++ left) (sym none) ∙ so_far.1.1) so_far.1.0
