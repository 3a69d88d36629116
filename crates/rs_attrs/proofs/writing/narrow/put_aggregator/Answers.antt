use Rattle.std.proofs.Common.{◌≡◌, ℕ, List, ◌++◌, sym, ap, ◌∙◌}
use Rattle.std.specs.Int.{w16, to_be_bytes}
use Rattle.rs_octets.proofs.Writing.{writes_then}
use Rattle.rs_attrs.specs.Writing.{as_trans_or, aggregator_in}
use Rattle.rs_attrs.specs.Parts.{narrow_aggregator}
use Rattle.rs_attrs.proofs.writing.narrow.put_aggregator.Goals as goal

pub returns-clause-octets : goal.returns-clause-octets
returns-clause-octets c =
    let number : List ℕ = c.to_be_bytes.result in
    let address : List ℕ = c.split_at.result.1.now in
    let number_is : number ≡ to_be_bytes w16 (as_trans_or (aggregator_in c.args.value.now)) = c.to_be_bytes.ensures ∙ ap (to_be_bytes w16) (c.narrow.ensures ∙ ap as_trans_or c.aggregator.ensures) in
    let parts : narrow_aggregator c.args.value.now ≡ number ++ address = λ i. sym number_is i ++ sym c.split_at.ensures.back i in
    writes_then c.args.at c.put-address_at.result number address (narrow_aggregator c.args.value.now) c.args.out.now c.put-address_at.new.out c.put.new.out
    parts c.put-address_at.ensures.end c.requires.fits c.put-address_at.ensures.octets c.put.ensures.octets
