use Rattle.std.proofs.Common.{◌≡◌, ◌+◌, ℕ, length, take, arith, sym, subst, ◌∙◌}
use Rattle.rs_octets.specs.Writes.{Writes}
use Rattle.rs_packer.specs.Packed.{prefixes_octets}
use Rattle.rs_packer.specs.Parts.{withdrawn_front}
use Rattle.rs_packer.proofs.Withdrawing.{withdrawal_length, withdrawal_written}
use Rattle.rs_packer.proofs.PrefixLists.{prefixes_length, some_fits, one_fits}
use Rattle.rs_packer.proofs.withdrawn.pack_withdrawn.Goals as goal

pub put_prefixes-end-requires : goal.put_prefixes-end-requires
put_prefixes-end-requires c =
    let size = prefixes_length (take c.longest_front-count.result.0 c.args.prefixes.now) in
    omega (arith, c.longest_front-count.ensures.size, c.longest_front-count.ensures.fits)

pub put-requires : goal.put-requires
put-requires c =
    let size = prefixes_length (take c.longest_front-count.result.0 c.args.prefixes.now) in
    omega (arith, c.longest_front-count.ensures.size, c.longest_front-count.ensures.fits)

pub returns-clause-some : goal.returns-clause-some
returns-clause-some c = some_fits c.longest_front-count.result.0 _ c.args.prefixes.now c.longest_front-count.ensures.full c.requires.some (omega (arith, one_fits c.args.prefixes.now, c.requires.fits))

pub returns-clause-longest : goal.returns-clause-longest
returns-clause-longest c =
    let count : ℕ = c.longest_front-count.result.0 in
    record {
      within = c.longest_front-count.ensures.within;
      fits = omega (arith, withdrawal_length (take count c.args.prefixes.now), prefixes_length (take count c.args.prefixes.now), c.longest_front-count.ensures.size, c.longest_front-count.ensures.fits);
      full = λ h. omega (arith, withdrawal_length (take (count + 1) c.args.prefixes.now), prefixes_length (take (count + 1) c.args.prefixes.now), c.longest_front-count.ensures.full h);
    }

pub returns-clause-length : goal.returns-clause-length
returns-clause-length c =
    let count : ℕ = c.longest_front-count.result.0 in
    omega (arith, withdrawal_length (take count c.args.prefixes.now), prefixes_length (take count c.args.prefixes.now), c.longest_front-count.ensures.size)

pub returns-clause-octets : goal.returns-clause-octets
returns-clause-octets c =
    let count : ℕ = c.longest_front-count.result.0 in
    let size = prefixes_length (take count c.args.prefixes.now) in
    let total : ℕ = 23 + c.longest_front-count.result.1 in
    let same : c.longest_front-count.result.1 ≡ length (prefixes_octets (take count c.args.prefixes.now)) = c.longest_front-count.ensures.size ∙ sym size in
    let P : ℕ → Type 0 = λ size. Writes 0 (withdrawn_front total size) c.args.out.now c.put_withdrawn_front-end.new.out in
    withdrawal_written total c.put_withdrawn_front-end.result c.put_prefixes-end.result (take count c.args.prefixes.now) c.args.out.now c.put_withdrawn_front-end.new.out c.put_prefixes-end.new.out c.put.new.out
    (omega (arith, same)) (omega (arith, c.longest_front-count.ensures.fits))
    c.put_withdrawn_front-end.ensures.end c.put_prefixes-end.ensures.end
    (subst P same c.put_withdrawn_front-end.ensures.octets) c.put_prefixes-end.ensures.octets c.put.ensures.octets
