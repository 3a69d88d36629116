use Rattle.std.proofs.Common.{◌++◌, length, take, arith, sym, ap, ◌∙◌, length-append}
use Rattle.std.proofs.lemmas.List.Folds.{length-flat_map-take}
use Rattle.rs_octets.specs.PrefixFields.{prefix_octets}
use Rattle.rs_octets.proofs.Writing.{writes_then}
use Rattle.rs_packer.specs.Packed.{prefixes_octets}
use Rattle.rs_packer.proofs.PrefixLists.{prefixes_more}
use Rattle.rs_packer.proofs.fields.put_prefixes.Goals as goal

pub put_prefix-end-requires : goal.put_prefix-end-requires
put_prefix-end-requires c =
    let most = length-flat_map-take prefix_octets c.args.prefixes.now c.loop-prefix.prefix-index c.prefix-item.result c.loop-prefix-test.true in
    let is = ap (λ p. length (prefix_octets p)) c.prefix-item.is in
    omega (arith, most, is)

pub loop-prefix-preserved : goal.loop-prefix-preserved
loop-prefix-preserved c =
    let most = length-flat_map-take prefix_octets c.args.prefixes.now c.loop-prefix.prefix-index c.prefix-item.result c.loop-prefix-test.true in
    let is = ap (λ p. length (prefix_octets p)) c.prefix-item.is in
    let more = prefixes_more c.args.prefixes.now c.loop-prefix.prefix-index c.prefix-item.result c.loop-prefix-test.true
    ∙ ap (λ p. prefixes_octets (take c.loop-prefix.prefix-index c.args.prefixes.now) ++ prefix_octets p) (sym c.prefix-item.is) in
    let sizes = ap length more ∙ length-append (prefixes_octets (take c.loop-prefix.prefix-index c.args.prefixes.now)) (prefix_octets c.prefix-item.result) in (
      omega (arith, sizes, c.put_prefix-end.ensures.end),
      writes_then c.args.at c.loop-prefix.end (prefixes_octets (take c.loop-prefix.prefix-index c.args.prefixes.now)) (prefix_octets c.prefix-item.result) _ c.args.out.now c.loop-prefix.out c.put_prefix-end.new.out
          more c.loop-prefix.invariant.0 (omega (arith, sizes, most, is)) c.loop-prefix.invariant.1 c.put_prefix-end.ensures.octets,
    )
