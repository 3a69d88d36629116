use Rattle.std.proofs.Common.{◌≡◌, List, Some, subst, sym, ap, ◌∙◌, arith}
use Rattle.std.specs.Arc.{arc_value}
use Rattle.std.proofs.lemmas.Bool.Decides.{nat_tests}
use Rattle.rs_attrs.specs.Meaning.{Attribute}
use Rattle.rs_attrs.specs.Tagged.{LacksAsked}
use Rattle.rs_attrs.specs.Writing.{IsLegal}
use Rattle.rs_policy.specs.Noted.{note_of_import}
use Rattle.rs_outlet.specs.Decided.Due.{passed_on}
use Rattle.rs_outlet.proofs.Decided.Plain.{nothing_stripped}
use Rattle.rs_outlet.proofs.deciding.pass_on.Goals as goal

pub returns-clause-passed : goal.returns-clause-passed
returns-clause-passed c =
    let m : List Attribute = arc_value c.args.holder.now.attrs.now in
    let noted : note_of_import c.args.sources.now.config.now c.args.holder.now.client c.args.prefix.now m ≡ 1 =
    sym c.requires.noted ∙ grind (arith, nat_tests, c.is_plain_note.ensures, c.if-is_plain_note.true) in
    let lacks : LacksAsked c.in-Some.asked m = subst (LacksAsked c.in-Some.asked) c.deref.ensures (c.lacks.ensures c.if-lacks.true) in
    ap (λ m. Some m) (sym (nothing_stripped m (subst IsLegal c.deref-2.ensures c.attributes_are_legal.ensures)))
    ∙ sym (ap (passed_on m) (c.requires.server.plain c.in-Some.asked c.in-Some.is c.args.holder.now.client c.args.prefix.now m c.requires.known noted lacks))
