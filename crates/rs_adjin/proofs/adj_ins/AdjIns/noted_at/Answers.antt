use Rattle.std.proofs.Common.{◌≡◌, ◌∙◌, ap, sym, subst}
use Rattle.std.specs.Prelude.{IfSome, Some}
use Rattle.std.specs.Arc.{arc_value}
use Rattle.rs_octets.specs.Prefixes.{Prefix}
use Rattle.rs_adjin.specs.Routes.{IsRising, value_in, note_in}
use Rattle.rs_adjin.specs.Numbering.{routes_by}
use Rattle.rs_adjin.specs.Numbers.{number_in, routes_at}
use Rattle.rs_adjin.specs.AdjIns.{number_of, held_of, note_of}
use Rattle.rs_adjin.proofs.Holding.{row_rises}
use Rattle.rs_adjin.proofs.Noted.{noted_one}
use Rattle.rs_adjin.proofs.adj_ins.AdjIns.noted_at.Goals as goal

pub holder_in-requires : goal.holder_in-requires
holder_in-requires c = subst IsRising (sym c.routes.ensures) (row_rises c.args.self.now.table c.args.self.now.whole c.args.number)

here : (c : goal.After-holder_in) (p : Prefix) → number_in c.args.self.now.table p ≡ Some c.args.number → c.routes.result.now ≡ routes_at c.args.self.now.table p
here c p is = c.routes.ensures ∙ sym (ap (routes_by c.args.self.now.table.rows.items) is)

pub returns-clause-route : goal.returns-clause-route
unfolding number_of held_of
returns-clause-route c p is = c.holder_in.ensures.attrs ∙ ap (value_in c.args.client) (here c p is)

pub returns-clause-noted : goal.returns-clause-noted
unfolding number_of held_of note_of
returns-clause-noted c f h p is =
    noted_one f c.args.self.now c.args.client p (λ holder. arc_value holder.attrs.now) (λ holder. holder.note) c.holder_in.result h (c.holder_in.ensures.attrs ∙ ap (value_in c.args.client) (here c p is))
    (subst (λ rs. IfSome c.holder_in.result (λ holder. holder.note ≡ note_in c.args.client rs)) (here c p is) c.holder_in.ensures.note)
