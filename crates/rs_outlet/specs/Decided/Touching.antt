-- What is touched, by the touches that are listed.
use Rattle.std.specs.Prelude.{◌≡◌, ◌⊎◌, ℕ, Bool, true, false, nat_eq, Option, None, Some, option_map, List, [], ◌∷◌}
use Rattle.std.specs.List.{IsDistinct, list_any}
use Rattle.std.specs.Map.{keys_of}
use Rattle.std.specs.FinSet as set
use Rattle.rs_octets.specs.Prefixes.{Prefix}
use Rattle.rs_adjin.specs.declared.adj_ins.AdjIns.{AdjIns}
use Rattle.rs_outlet.specs.Views.{HaveNumbers, Prefixes, with_touch}

abbrev pub prefixes_in : List (ℕ × Prefix) → List Prefix
prefixes_in [] = []
prefixes_in (e ∷ es) = e.1 ∷ prefixes_in es

-- whether a number is among these
abbrev pub is_numbered_in : List (ℕ × Prefix) → ℕ → Bool
is_numbered_in es n = list_any (nat_eq n) (keys_of es)

abbrev pub is_number_touched : Bool → List (ℕ × Prefix) → ℕ → Bool
is_number_touched true es n = true
is_number_touched false es n = is_numbered_in es n

-- what touches of these prefixes make, in any order
abbrev pub touched_by : List (ℕ × Prefix) → Option Prefixes
touched_by [] = Some set.empty
touched_by (e ∷ es) = with_touch (touched_by es) e.1

-- what is touched: all, or these
abbrev pub touched_of : Bool → List (ℕ × Prefix) → Option Prefixes
touched_of true es = None
touched_of false es = touched_by es

-- what is stale: all, or these
abbrev pub stale_of : Bool → List (ℕ × Prefix) → Option Prefixes
stale_of true es = None
stale_of false es = Some (set.from_list (prefixes_in es))

-- as before, and p too; or all
abbrev pub MayAdd : Prefix → Option Prefixes → Option Prefixes → Type 0
MayAdd p old new = (new ≡ option_map (λ s. set.insert s p) old) ⊎ (new ≡ None)

-- the same numbers, each once
pub record AreOnce (es fs : List (ℕ × Prefix)) : Type 0 where
  pub once : IsDistinct nat_eq (keys_of fs)
  pub same : (n : ℕ) → is_numbered_in fs n ≡ is_numbered_in es n
  pub numbered : (ins : AdjIns) → HaveNumbers es ins → HaveNumbers fs ins
