use Rattle.std.proofs.Common.{ap, ◌∙◌, arith}
use Rattle.rs_attrs.specs.Heads.{Head, head_in}
use Rattle.rs_attrs.proofs.HeadWords.{head_back, flag_byte}
use Rattle.rs_attrs.proofs.heads.Head.new.Goals as goal

pub returns : goal.returns
returns c =
    let head : Head = record { kind = c.args.kind; optional = c.args.flags.optional; transitive = c.args.flags.transitive; partial = c.args.flags.partial; len = c.args.len } in
    let optional = flag_byte c.args.flags.optional in
    let transitive = flag_byte c.args.flags.transitive in
    let partial = flag_byte c.args.flags.partial in
    let word = ap head_in (omega arith) in
    word ∙ head_back head c.ranges.len.fits
