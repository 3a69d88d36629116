use Rattle.std.proofs.Common.{refl, ap, arith, unwrap_or, option_map, []}
use Rattle.rs_attrs.specs.Paths.{path_length}
use Rattle.rs_attrs.specs.Writing.{path_in}
use Rattle.rs_attrs.proofs.getters.path_in.Goals as goal

pub of-requires : goal.of-requires
of-requires c = c.in-Some.ensures.form.form _ refl refl

pub returns-in-Some-clause-short : goal.returns-in-Some-clause-short
returns-in-Some-clause-short c =
    let path = ap (λ v. path_length (unwrap_or (option_map path_in v) [])) c.in-Some.ensures.value in
    let read = ap path_length c.of.ensures.segments in
    omega (arith, path, read, c.of.ensures.short)
