use Rattle.std.proofs.Common.{◌+◌, ℕ, List, take, arith, subst}
use Rattle.rs_octets.specs.Prefixes.{Prefix}
use Rattle.rs_octets.specs.Writes.{Writes}
use Rattle.rs_attrs.specs.Writing.{in_mode, spelt}
use Rattle.rs_attrs.proofs.HeldLemmas.{short_values}
use Rattle.rs_packer.specs.Parts.{announced_front}
use Rattle.rs_packer.proofs.Announcing.{update_length, announced_written}
use Rattle.rs_packer.proofs.PrefixLists.{prefixes_length, some_fits}
use Rattle.rs_packer.proofs.announced.pack_sized.Goals as goal

pub put_attributes-end-requires-clause-spelling : goal.put_attributes-end-requires-clause-spelling
put_attributes-end-requires-clause-spelling c =
    let one = update_length (spelt c.args.attrs.now c.args.mode) (take 1 c.args.prefixes.now) in
    short_values (in_mode c.args.mode c.args.attrs.now) (omega (arith, c.requires.limit, c.requires.fits))

pub put_prefixes-requires : goal.put_prefixes-requires
put_prefixes-requires c =
    let one = update_length (spelt c.args.attrs.now c.args.mode) (take 1 c.args.prefixes.now) in
    let size = prefixes_length (take c.longest_front-count.result.0 c.args.prefixes.now) in
    omega (arith, c.requires.fits, c.longest_front-count.ensures.size, c.longest_front-count.ensures.fits)

pub returns : goal.returns
returns c =
    let a : List ℕ = spelt c.args.attrs.now c.args.mode in
    let ps : List Prefix = c.args.prefixes.now in
    let count : ℕ = c.longest_front-count.result.0 in
    let total : ℕ = 23 + c.args.size + c.longest_front-count.result.1 in
    let one = update_length a (take 1 ps) in
    let first = prefixes_length (take 1 ps) in
    let all = update_length a (take count ps) in
    let size = prefixes_length (take count ps) in
    let P : ℕ → Type 0 = λ size. Writes 0 (announced_front total size) c.args.out.now c.put_announced_front-end.new.out in
    record {
      some = some_fits count _ ps c.longest_front-count.ensures.full c.requires.some (omega (arith, c.requires.fits, c.requires.size));
      longest = record {
        within = c.longest_front-count.ensures.within;
        fits = omega (arith, all, size, c.longest_front-count.ensures.size, c.longest_front-count.ensures.fits, c.requires.size, c.requires.fits);
        full = λ h. omega (arith, update_length a (take (count + 1) ps), prefixes_length (take (count + 1) ps), c.longest_front-count.ensures.full h, c.requires.size);
      };
      size = omega (arith, all, size, c.longest_front-count.ensures.size, c.requires.size);
      octets = announced_written total c.put_announced_front-end.result c.put_attributes-end.result a (take count ps) c.args.out.now c.put_announced_front-end.new.out c.put_attributes-end.new.out c.put_prefixes.new.out
          (omega (arith, c.requires.size, c.longest_front-count.ensures.size))
          (omega (arith, c.requires.fits, c.requires.size, c.longest_front-count.ensures.fits))
          c.put_announced_front-end.ensures.end c.put_attributes-end.ensures.end
          (subst P c.requires.size c.put_announced_front-end.ensures.octets) c.put_attributes-end.ensures.octets c.put_prefixes.ensures.octets;
    }
