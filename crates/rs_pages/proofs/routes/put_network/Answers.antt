use Rattle.std.proofs.Common.{◌≡◌, ◌++◌, ℕ, List, arith}
use Rattle.std.proofs.lemmas.Grind.{common_steps}
use Rattle.rs_pages.specs.Rows.{network_text}
use Rattle.rs_pages.proofs.routes.put_network.Goals as goal

-- five texts, put one behind the other
joined : (old a b c d e first second third fourth whole : List ℕ) → first ≡ old ++ a → second ≡ first ++ b → third ≡ second ++ c → fourth ≡ third ++ d → whole ≡ fourth ++ e → whole ≡ old ++ (a ++ b ++ c ++ d ++ e)
joined old a b c d e first second third fourth whole f g h i j = grind (arith, common_steps)

pub returns : goal.returns
unfolding network_text
returns c = joined c.args.text.now.items _ _ _ _ _ _ _ _ _ _ c.in_ok-extend_from_slice.ensures.items c.in_ok-put_prefix.ensures c.in_ok-extend_from_slice-2.ensures.items c.in_ok-put_address.ensures c.in_ok-extend_from_slice-3.ensures.items
