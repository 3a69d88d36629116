use Rattle.std.proofs.Common.{◌≡◌, ◌↔◌, ◌%◌, IsTrue, not, eqb, take, drop, sym, subst, w8}
use Rattle.std.proofs.lemmas.Simd.{tops_compared, length-chunk}
use Rattle.std.specs.Simd.Lanes.{mask_l}
use Rattle.rs_attrs.proofs.SameOctets.{differ, sixteen_told}
use Rattle.rs_attrs.proofs.attrs.are_same_at.Goals as goal

pub returns : goal.returns
returns c =
    let xs = take 16 (drop c.args.at c.args.one.now) in
    let ys = take 16 (drop c.args.at c.args.other.now) in
    subst (λ ms. IsTrue (not (not (eqb (mask_l ms % 18446744073709551616) 0))) ↔ (xs ≡ ys)) (sym (tops_compared w8 differ xs ys))
    (sixteen_told xs ys (length-chunk c.args.at 16 c.args.one.now c.requires.one) (length-chunk c.args.at 16 c.args.other.now c.requires.other))
