use Rattle.std.proofs.Common.{true, arith}
use Rattle.rs_attrs.specs.Paths.{four_octets}
use Rattle.rs_attrs.specs.Merging.{segments_in, plain}
use Rattle.rs_attrs.proofs.Fields.Legal.{are_octets}
use Rattle.rs_attrs.proofs.Paths.Widening.{on_ok}
use Rattle.rs_attrs.proofs.Paths.MergedPaths.{merged_shorter, merged_longer}
use Rattle.rs_attrs.proofs.reading.two.push_path.Goals as goal

pub returns-then-length-as4_length : goal.returns-then-length-as4_length
returns-then-length-as4_length c =
    on_ok c.push_leading.result _ _
    (merged_shorter c.args.values.now.items c.push_leading.new.values.items c.args.path.now (plain (segments_in four_octets true c.args.as4_path.now)) _ _
    (are_octets c.args.path.now (λ i. omega (arith, c.type_inv.path i))) c.requires.path c.path_length-length.ensures c.path_length-as4_length.ensures c.if-length-as4_length.true)
    c.push_leading.ensures

pub returns : goal.returns
returns c =
    on_ok c.push_as4_path.result _ _
    (merged_longer c.args.values.now.items c.push_leading-2.new.values.items c.push_as4_path.new.values.items c.args.path.now (plain (segments_in four_octets true c.args.as4_path.now)) _ _
    (are_octets c.args.path.now (λ i. omega (arith, c.type_inv.path i))) c.requires.path c.path_length-length.ensures c.path_length-as4_length.ensures c.if-length-as4_length.false c.in_ok-push_leading.ensures)
    c.push_as4_path.ensures
