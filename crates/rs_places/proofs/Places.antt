-- The line and the column behind one octet more.
use Rattle.std.proofs.Common.{◌≡◌, ℕ, ◌+◌, ◌<◌, List, [], ◌∷◌, length, take, get_or, suc, arith}
use Rattle.std.proofs.lemmas.List.Sums.{fold-append}
use Rattle.std.proofs.Math.Seq.{take-suc}
use Rattle.rs_places.specs.Positions.{moved, place_behind}

pub place_behind-more : (octets : List ℕ) (i d : ℕ) → i < length octets → place_behind (take (i + 1) octets) ≡ moved (place_behind (take i octets)) (get_or octets i d)
place_behind-more octets i d h =
    let e : i + 1 ≡ suc i = omega arith in
    rw e (rw (take-suc octets i d h) (fold-append moved (1, 1) (take i octets) (get_or octets i d ∷ [])))
