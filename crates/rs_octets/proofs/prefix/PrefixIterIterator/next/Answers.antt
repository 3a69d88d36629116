use Rattle.std.proofs.Common.{◌∙◌, ◌∷◌, sym, ap}
use Rattle.std.specs.Prelude.{Ok}
use Rattle.rs_octets.proofs.PrefixLemmas.{first_prefix}
use Rattle.rs_octets.specs.PrefixFields.{prefixes_of}
use Rattle.rs_octets.proofs.prefix.PrefixIterIterator.next.Goals as goal

pub returns-clause-steps : goal.returns-clause-steps
returns-clause-steps c =
    let rest = c.split_at.result.1.now in
    let first = first_prefix _ c.octets_for-size.result c.address.result _ c.in_ok-len.octets.now c.split_at.result.0.now rest c.in_ok-len.ensures.cases.0 c.if-len-gt32.false
    c.octets_for-size.ensures c.if-octets-size.false c.split_at.ensures.front c.split_at.ensures.back c.address.ensures in
    sym c.self.view_is ∙ first ∙ ap (λ p. Ok p ∷ prefixes_of rest) (sym c.front_of.ensures)
