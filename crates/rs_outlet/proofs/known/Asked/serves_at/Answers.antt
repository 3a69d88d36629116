use Rattle.std.proofs.Common.{◌≡◌, ◌<◌, ◌∙◌, All, Some, ap, subst}
use Rattle.rs_adjin.specs.AdjIns.{ListsHolders, number_of}
use Rattle.rs_policy.specs.Noted.{note_of_import}
use Rattle.rs_outlet.specs.Decided.HeldBy.{held_by}
use Rattle.rs_outlet.proofs.Decided.Precedents.{plain_here}
use Rattle.rs_outlet.proofs.Decided.Ranks.{sent}
use Rattle.rs_outlet.proofs.known.Asked.serves_at.Goals as goal

pub returns : goal.returns
returns c = λ so other speech it first next is h.
    let s = c.args.sources.now in
    let p = it.0.1 in
    let placed : number_of s.ins.now p ≡ Some c.args.number = h.placed ∙ ap (λ n. Some n) is in
    let hs = c.at_number.result in
    let listed : ListsHolders s.ins.now p (sent hs) = c.at_number.ensures.holders p placed in
    plain_here (held_by s) s.ins.now other s.client speech it c.args.self hs listed.all
    (subst (λ n. All (λ h. h.0 < n) (sent hs)) c.requires.server.count listed.known) listed.each
    (c.at_number.ensures.noted (note_of_import s.config.now) c.requires.server.noted p placed) (c.is_lacked_by_all.ensures so) first next h
