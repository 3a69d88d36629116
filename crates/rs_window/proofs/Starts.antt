-- How a text that was put in parts begins.
use Rattle.std.proofs.Common.{◌≡◌, ℕ, ◌≤◌, List, [], ◌++◌, length, length-append, take, ap, ◌∙◌, arith}
use Rattle.std.proofs.lemmas.List.{take-append-le}

-- three parts were put into nothing: it begins as the first
pub starts : (n : ℕ) (a b c none one : List ℕ) {two three status : List ℕ} → none ≡ [] → one ≡ none ++ a → two ≡ one ++ b → three ≡ two ++ c → n ≤ length a → take n a ≡ status → take n three ≡ status
starts n a b c none one {two} {three} e first second third h s =
    let front : one ≡ a = first ∙ ap (λ w. w ++ a) e in
    let two_long : n ≤ length two = omega (arith, ap length second, ap length front, length-append one b) in
    let one_long : n ≤ length one = omega (arith, ap length front) in
    ap (take n) third ∙ take-append-le n two c two_long ∙ ap (take n) second ∙ take-append-le n one b one_long ∙ ap (take n) front ∙ s
