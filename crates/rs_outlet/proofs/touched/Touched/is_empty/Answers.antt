use Rattle.std.proofs.Common.{◌∙◌, ap, arith, sym, vec_len}
use Rattle.rs_outlet.specs.Decided.Touching.{touched_of}
use Rattle.rs_outlet.proofs.Decided.TouchedList.{emptied}
use Rattle.rs_outlet.proofs.touched.Touched.is_empty.Goals as goal

pub returns : goal.returns
returns c =
    let es = c.args.self.now.prefixes.items in
    let is = emptied es (vec_len c.args.self.now.prefixes) c.is_empty.result (omega arith) c.is_empty.ensures in (
      λ t. ap (λ b. touched_of b es) c.if-self.false ∙ is.0 t,
      λ e. is.1 (sym (ap (λ b. touched_of b es) c.if-self.false) ∙ e),
    )
