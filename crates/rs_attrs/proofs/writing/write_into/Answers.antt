use Rattle.std.proofs.Common.{◌≡◌, ◌+◌, ◌<◌, List, length, sym, ◌∙◌, subst, arith}
use Rattle.std.specs.List.{flat_map, AllByRecursion}
use Rattle.rs_attrs.specs.Meaning.{Attribute}
use Rattle.rs_attrs.specs.Writing.{attribute_octets, in_mode}
use Rattle.rs_attrs.proofs.Written.LeftToWrite.{left_all, left_from, left_fits, left_next, left_done}
use Rattle.rs_attrs.proofs.writing.write_into.Goals as goal

abbrev Short : List Attribute → Type 0
Short m = AllByRecursion (λ a. length a.value < 65536) m

pub loop-part-init : goal.loop-part-init
loop-part-init c =
    let same : in_mode c.args.mode c.args.attrs.now ≡ c.into_iter-part-iterator.result = sym (c.into_iter-part-iterator.ensures.into_iter_gives ∙ c.of-part-items.ensures.value) in
    (subst Short same c.requires.spelling, left_from attribute_octets _ _ _ _ _ _ _ same (left_all attribute_octets (in_mode c.args.mode c.args.attrs.now) 0 c.args.out.now (omega (arith, c.requires.fits))))

pub put-at-requires-clause-short : goal.put-at-requires-clause-short
put-at-requires-clause-short c = (subst Short c.in-Some.ensures.steps c.loop-part.invariant.0).0

pub put-at-requires-clause-fits : goal.put-at-requires-clause-fits
put-at-requires-clause-fits c = left_fits attribute_octets _ _ _ c.in-Some.part _ _ _ (left_from attribute_octets _ _ _ _ _ _ _ c.in-Some.ensures.steps c.loop-part.invariant.1)

pub loop-part-preserved : goal.loop-part-preserved
loop-part-preserved c = (
  (subst Short c.in-Some.ensures.steps c.loop-part.invariant.0).1,
  left_next attribute_octets _ _ _ c.in-Some.part _ _ _ _ _ (left_from attribute_octets _ _ _ _ _ _ _ c.in-Some.ensures.steps c.loop-part.invariant.1) c.put-at.auto.out c.put-at.ensures.end c.put-at.ensures.octets,
)

pub returns-clause-end : goal.returns-clause-end
returns-clause-end c =
    let left = left_from attribute_octets _ _ _ _ _ _ _ c.in-None.ensures.steps.0 c.loop-part.invariant.1 in
    let end : c.loop-part.at + 0 ≡ 0 + length (flat_map attribute_octets (in_mode c.args.mode c.args.attrs.now)) = left.end in
    omega (arith, end)

pub returns-clause-octets : goal.returns-clause-octets
returns-clause-octets c = left_done attribute_octets _ _ _ _ _ (left_from attribute_octets _ _ _ _ _ _ _ c.in-None.ensures.steps.0 c.loop-part.invariant.1)
