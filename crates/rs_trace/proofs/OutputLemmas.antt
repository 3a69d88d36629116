-- Octets that were put, and those that are left.
use Rattle.std.proofs.Common.{◌≡◌, ◌≤◌, ◌-◌, ℕ, List, [], ◌++◌, length, take, drop, ap, sym, ◌∙◌, append_assoc, arith, length-append, length-drop, subst}
use Rattle.std.specs.Prelude.{Result, Ok, Err, OnErr}
use Rattle.std.proofs.lemmas.List.{append-nil, take-append-drop, take_all, take-append-le}

pub on_err : {A B : Type 0} {P : Type 0} (r : Result A B) → P → OnErr r P
on_err (Ok x) p = tt
on_err (Err e) p = p

-- what was put is a front of the octets
pub front_put : (octets done rest : List ℕ) → octets ≡ done ++ rest → (P : List ℕ → Type 0) → P (done ++ []) → (n : ℕ) × (n ≤ length octets) × P (take n octets)
front_put octets done rest e P p =
    let front : take (length done) octets ≡ done = ap (λ xs. take (length done) xs) e ∙ take-append-le (length done) done rest (omega arith) ∙ take_all (length done) done (omega arith) in
    (length done, omega (arith, ap length e, length-append done rest), subst P (append-nil done ∙ sym front) p)

-- what is left after n octets more
pub more_put : (octets done rest : List ℕ) (n : ℕ) → octets ≡ done ++ rest → octets ≡ (done ++ take n rest) ++ take (length rest - n) (drop n rest)
more_put octets done rest n e =
    let all : take (length rest - n) (drop n rest) ≡ drop n rest = take_all (length rest - n) (drop n rest) (omega (arith, length-drop n rest)) in
    rw all (e ∙ ap (λ xs. done ++ xs) (sym (take-append-drop n rest)) ∙ sym (append_assoc done (take n rest) (drop n rest)))
