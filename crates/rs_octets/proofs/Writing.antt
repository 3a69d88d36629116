-- Octets written one after the other.
use Rattle.std.proofs.Common.{◌≡◌, ℕ, ◌+◌, ◌≤◌, List, ◌++◌, length, take, drop, sym, ap, subst, ◌∙◌, arith, append_assoc, length-append}
use Rattle.std.proofs.Math.Seq.{take-append_seam, drop-append-add}
use Rattle.std.proofs.lemmas.List.{length-take-le, drop-drop}
use Rattle.rs_octets.specs.Writes.{Writes}

-- octets behind a front whose length is known
take_front : (n : ℕ) (xs ys : List ℕ) → n ≡ length xs → take n (xs ++ ys) ≡ xs
take_front n xs ys e = ap (λ k. take k (xs ++ ys)) e ∙ take-append_seam xs ys

drop_front : (n k : ℕ) (xs ys : List ℕ) → n ≡ length xs → drop (n + k) (xs ++ ys) ≡ drop k ys
drop_front n k xs ys e = ap (λ n. drop (n + k) (xs ++ ys)) e ∙ drop-append-add xs ys k

pub writes-append : (at : ℕ) (a b old mid new : List ℕ) → at + length a + length b ≤ length old → Writes at a old mid → Writes (at + length a) b mid new → Writes at (a ++ b) old new
writes-append at a b old mid new fits first second =
    let front : List ℕ = take at old ++ a in
    let tail : List ℕ = drop (at + length a) old in
    let at_fits : length (take at old) ≡ at = length-take-le at old (omega arith) in
    let front_length : at + length a ≡ length front = omega (arith, length-append (take at old) a) in
    let taken : take (at + length a) mid ≡ front = ap (take (at + length a)) first ∙ take_front (at + length a) front tail front_length in
    let dropped : drop (at + length a + length b) mid ≡ drop (length b) tail =
    ap (drop (at + length a + length b)) first ∙ drop_front (at + length a) (length b) front tail front_length in
    let left : at + length a + length b ≡ at + length (a ++ b) = omega (arith, length-append a b) in
    let rest : drop (length b) tail ≡ drop (at + length (a ++ b)) old = drop-drop (length b) (at + length a) old ∙ ap (λ n. drop n old) left in
    second
    ∙ ap (λ xs. xs ++ b ++ drop (at + length a + length b) mid) taken
    ∙ ap (λ xs. front ++ b ++ xs) (dropped ∙ rest)
    ∙ ap (λ xs. xs ++ drop (at + length (a ++ b)) old) (append_assoc (take at old) a b)

-- the same, where the parts are known by equations
pub writes_then : (at next : ℕ) (a b both old mid new : List ℕ) → both ≡ a ++ b → next ≡ at + length a → at + length both ≤ length old → Writes at a old mid → Writes next b mid new → Writes at both old new
writes_then at next a b both old mid new parts e fits first second =
    let P : List ℕ → Type 0 = λ both. Writes at both old new in
    let Q : ℕ → Type 0 = λ next. Writes next b mid new in
    subst P (sym parts) (writes-append at a b old mid new (omega (arith, fits, ap length parts, length-append a b)) first (subst Q e second))

-- octets written behind those that stand at the front
pub written : (so_far more octets old mid new : List ℕ) (end : ℕ) → more ≡ octets → end ≡ length so_far → length so_far + length octets ≤ length old
    → Writes 0 so_far old mid → Writes end more mid new → Writes 0 (so_far ++ octets) old new
written so_far more octets old mid new end is at room first second =
    writes_then 0 end so_far more (so_far ++ octets) old mid new
    (ap (λ xs. so_far ++ xs) (sym is)) (omega (arith, at)) (omega (arith, room, length-append so_far octets)) first second
