use Rattle.std.proofs.Common.{◌≡◌, ℕ, ◌+◌, ◌≤◌, List, length, sym, ap, ◌∙◌, subst, arith}
use Rattle.std.specs.List.{flat_map}
use Rattle.std.specs.Int.{w16, to_be_bytes}
use Rattle.rs_octets.specs.Writes.{Writes}
use Rattle.rs_attrs.specs.Paths.{two_octets, number_octets}
use Rattle.rs_attrs.specs.Writing.{as_trans_or}
use Rattle.rs_attrs.proofs.Written.LeftToWrite.{left_all, left_from, left_fits, left_next, left_done}
use Rattle.rs_attrs.proofs.writing.narrow.put_numbers.Goals as goal

abbrev octets : ℕ → List ℕ
octets n = number_octets two_octets (as_trans_or n)

pub loop-number-init : goal.loop-number-init
loop-number-init c = left_from octets _ _ _ _ _ _ _ (sym c.into_iter-number-iterator.ensures.into_iter_gives) (left_all octets c.args.numbers c.args.at c.args.out.now c.requires)

pub put-at-requires : goal.put-at-requires
put-at-requires c =
    let here = left_from octets _ _ _ _ _ _ _ c.in-Some.ensures.steps c.loop-number.invariant in
    let fits : c.loop-number.at + 2 ≤ length c.loop-number.out = left_fits octets _ _ _ c.in-Some.number _ _ _ here in
    let size : length c.to_be_bytes.result ≡ 2 = ap length c.to_be_bytes.ensures in
    omega arith

pub loop-number-preserved : goal.loop-number-preserved
loop-number-preserved c =
    let here = left_from octets _ _ _ _ _ _ _ c.in-Some.ensures.steps c.loop-number.invariant in
    let same : c.to_be_bytes.result ≡ octets c.in-Some.number = c.to_be_bytes.ensures ∙ ap (to_be_bytes w16) c.narrow.ensures in
    let P : List ℕ → Type 0 = λ written. Writes c.loop-number.at written c.loop-number.out c.put-at.new.out in
    left_next octets _ _ _ c.in-Some.number _ _ _ _ _ here c.put-at.auto.out (c.put-at.ensures.end ∙ ap (λ written. c.loop-number.at + length written) same) (subst P same c.put-at.ensures.octets)

pub returns-clause-end : goal.returns-clause-end
returns-clause-end c =
    let left = left_from octets _ _ _ _ _ _ _ c.in-None.ensures.steps.0 c.loop-number.invariant in
    let end : c.loop-number.at + 0 ≡ c.args.at + length (flat_map octets c.args.numbers) = left.end in
    omega arith

pub returns-clause-octets : goal.returns-clause-octets
returns-clause-octets c = left_done octets _ _ _ _ _ (left_from octets _ _ _ _ _ _ _ c.in-None.ensures.steps.0 c.loop-number.invariant)
