use Rattle.std.proofs.Common.{rules, arith}
use Rattle.rs_attrs.proofs.SameOctets.{front_grows, same_told, other_told}
use Rattle.rs_attrs.proofs.attrs.have_same_octets.Goals as goal

pub returns-then-not-are_same_at : goal.returns-then-not-are_same_at
returns-then-not-are_same_at c = other_told c.are_same_at.result c.loop-at.at _ _ (search rules) c.are_same_at.ensures

pub loop-at-preserved : goal.loop-at-preserved
loop-at-preserved c = front_grows c.loop-at.at _ _ c.loop-at.invariant (c.are_same_at.ensures.0 (search rules))

pub returns : goal.returns
returns c = same_told c.are_same_at-2.result c.loop-at.at _ _ _ (omega arith) (search rules) (omega arith) c.loop-at.invariant c.are_same_at-2.ensures
