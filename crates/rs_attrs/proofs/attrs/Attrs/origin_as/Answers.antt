use Rattle.std.proofs.Common.{◌≡◌, ap, sym, ◌∙◌}
use Rattle.std.proofs.lemmas.Iterator.{items_from_drains}
use Rattle.std.proofs.lemmas.Iterator.Consumers.{YieldsList-from_first}
use Rattle.rs_attrs.specs.Paths.{segment_origin, last_of}
use Rattle.rs_attrs.specs.Getters.{path_of}
use Rattle.rs_attrs.proofs.Paths.SegmentWalk.{last_of_drained}
use Rattle.rs_attrs.proofs.attrs.Attrs.origin_as.Goals as goal

pub returns : goal.returns
returns c =
    let drains = c.last.ensures.ran.1 in
    let drained = items_from_drains c.last.ensures.ran.0 (drains.1.0, drains.1.1, λ w. (drains.0, drains.1.2)) (YieldsList-from_first (λ s. s) (λ segments. segments) (path_of c.args.self.now) c.path.ensures.segments) in
    let last : c.last.result ≡ last_of (path_of c.args.self.now) = c.last.ensures.ran.2 ∙ last_of_drained c.last.ensures.ran.0 (path_of c.args.self.now) drained in
    c.origin.ensures ∙ ap segment_origin (sym c.in_ok-last.was ∙ last)
