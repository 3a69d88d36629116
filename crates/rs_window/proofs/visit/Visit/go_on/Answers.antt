use Rattle.std.proofs.Common.{◌||◌, refl, subst, ap}
use Rattle.rs_window.specs.Chunks.{IsFramed}
use Rattle.rs_window.specs.Visits.{Wrote}
use Rattle.rs_window.proofs.visit.Visit.go_on.Goals as goal

pub returns : goal.returns
returns g c =
    Wrote c.write.new.piece c.in-Ok.next c.in-Ok.ensures (record {
      framed =
          subst (λ is_end. IsFramed c.args.self.now.is_chunked c.write.new.piece is_end c.put_piece.new.outbox) c.is_end.ensures
          (subst (λ octets. IsFramed c.args.self.now.is_chunked octets c.is_end.result c.put_piece.new.outbox) c.octets.ensures.value c.put_piece.ensures);
      page_is = c.page-self.ensures;
      said_is = refl;
      chunked = refl;
      last = ap (λ cut. c.args.self.now.is_last || cut) c.is_cut.ensures;
      ended = refl;
    })
