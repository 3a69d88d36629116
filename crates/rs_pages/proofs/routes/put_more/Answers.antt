use Rattle.std.proofs.Common.{◌≡◌, ◌++◌, ℕ, List, arith}
use Rattle.std.proofs.lemmas.Grind.{common_steps}
use Rattle.rs_pages.specs.Rows.{more_text}
use Rattle.rs_pages.proofs.routes.put_more.Goals as goal

-- three texts, put one behind the other
joined : (old a b c first second whole : List ℕ) → first ≡ old ++ a → second ≡ first ++ b → whole ≡ second ++ c → whole ≡ old ++ (a ++ b ++ c)
joined old a b c first second whole f g h = grind (arith, common_steps)

pub returns : goal.returns
unfolding more_text
returns c = joined c.args.text.now.items _ _ _ _ _ _ c.in_ok-extend_from_slice.ensures.items c.in_ok-put_from.ensures c.in_ok-extend_from_slice-2.ensures.items
