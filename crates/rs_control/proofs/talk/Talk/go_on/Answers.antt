use Rattle.std.proofs.Common.{◌||◌, ap, refl}
use Rattle.rs_control.specs.Talks.{Wrote}
use Rattle.rs_control.proofs.Pieces.{joined}
use Rattle.rs_control.proofs.talk.Talk.go_on.Goals as goal

pub returns : goal.returns
returns g c =
    Wrote c.write.new.piece c.in-Ok.next c.in-Ok.ensures (record {
      unsent_is = joined _ _ _ _ _ _ _ _ c.requires c.put.ensures c.octets.ensures.value c.join_lines.ensures c.put-2.ensures c.line_end.ensures.value c.is_end.ensures;
      page_is = c.page-self.ensures;
      said_is = refl;
      last = ap (λ cut. c.args.self.now.is_last || cut) c.is_cut.ensures;
    })
