use Rattle.std.proofs.Common.{◌∙◌, ap, subst, sym}
use Rattle.rs_outlet.specs.Decided.Touching.{AreOnce, touched_of}
use Rattle.rs_outlet.proofs.Decided.TouchedList.{is_many, many_are}
use Rattle.rs_outlet.proofs.touched.Touched.list.Goals as goal

pub returns-clause-whole : goal.returns-clause-whole
returns-clause-whole c = λ ins h.
    let es = c.args.self.now.prefixes.items in
    let fs = c.in_ok-list.list.items in
    let once = subst (λ xs. AreOnce xs fs) c.deref.ensures.value c.in_ok-list.ensures in
    is_many ins es fs once h c.args.self.now.all c.if-self.false

pub returns-clause-count : goal.returns-clause-count
returns-clause-count c = λ ins h prefixes is.
    let es = c.args.self.now.prefixes.items in
    let fs = c.in_ok-list.list.items in
    let once = subst (λ xs. AreOnce xs fs) c.deref.ensures.value c.in_ok-list.ensures in
    many_are ins es fs once h prefixes (sym (ap (λ b. touched_of b es) c.if-self.false) ∙ is)
