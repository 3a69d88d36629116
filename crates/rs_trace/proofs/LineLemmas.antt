-- Lines in what waits, and what waits in a buffer.
use Rattle.std.proofs.Common.{◌≡◌, ℕ, zero, suc, ◌+◌, ◌-◌, ◌<◌, ◌≤◌, List, [], ◌∷◌, ◌++◌, length, take, drop, get_or, min, refl, sym, ◌∙◌, ap, arith, Bool, true, false, inl, inr, Some, None, length-drop, append_assoc}
use Rattle.std.specs.Prelude.{◌==◌, position}
use Rattle.std.specs.List.{slice_range, list_any, position_or_len}
use Rattle.std.proofs.Math.Seq.{drop-cons, take-add}
use Rattle.std.proofs.lemmas.List.{take-append-drop, drop-take, drop-drop, take-take, take_all, drop_all, length-take, get_or-take}
use Rattle.std.proofs.lemmas.Bool.Decides.{nat_tests}
use Rattle.std.proofs.lemmas.List.Quantifiers.{position-Some}
use Rattle.std.proofs.lemmas.List.Sums.{position_or_len_is, prefix_len-le-length}
use Rattle.rs_trace.specs.Lines.{Reading, IsFirstLine}

-- a front, and what follows it
take_on : (xs : List ℕ) (m n : ℕ) → take ((m + n) - 0) (drop 0 xs) ≡ take m xs ++ take n (drop m xs)
take_on xs m n =
    let all : (m + n) - 0 ≡ m + n = omega arith in
    rw all (take-add m n xs)

abbrev pub ends : ℕ → Bool
ends octet = octet == 10

-- what waits after the first n octets of what waits
pub rest_behind : (xs : List ℕ) (a b n : ℕ) → a + n ≤ b → slice_range xs (a + n) b ≡ drop n (slice_range xs a b)
rest_behind xs a b n h =
    let m : ℕ = b - (a + n) in
    let size : b - a ≡ n + m = omega (arith, h) in
    rw size (ap (λ ys. take m ys) (sym (drop-drop n a xs)) ∙ sym (drop-take n m (drop a xs)))

none_at : (p : ℕ → Bool) (x : ℕ) (xs : List ℕ) (k : ℕ) (b : Bool) → p x ≡ b → (k ≤ position_or_len p xs → list_any p (take k xs) ≡ false) → suc k ≤ position_or_len p (x ∷ xs) → list_any p (take (suc k) (x ∷ xs)) ≡ false
none_at p x xs k true e ih h =
    let never : suc k ≤ 0 = rw e at h in
    absurd (omega (arith, never))
none_at p x xs k false e ih h =
    let behind : suc k ≤ 1 + position_or_len p xs = rw e at h in
    rw e (ih (omega (arith, behind)))

-- nothing before the first place passes
pub none_before : (p : ℕ → Bool) (xs : List ℕ) (k : ℕ) → k ≤ position_or_len p xs → list_any p (take k xs) ≡ false
none_before p xs zero h = refl
none_before p [] (suc k) h = refl
none_before p (x ∷ xs) (suc k) h = none_at p x xs k (p x) refl (λ l. none_before p xs k l) h

same_octet : (x : ℕ) → (x == 10) ≡ true → x ≡ 10
same_octet x h = grind (arith, nat_tests)

-- with an end among the first octets, the line is what stands before it
pub first_ended : (rest : List ℕ) (most k : ℕ) (r : Reading) → most ≤ 8241 → position ends (take most rest) ≡ Some k → r.line ≡ take k rest → r.rest ≡ drop (k + 1) rest → IsFirstLine rest r
first_ended rest most k r small found line behind =
    let facts = position-Some ends (take most rest) k 0 found in
    let place = position_or_len_is ends (take most rest) k 0 (omega (arith, facts.0)) facts.2 (λ l. facts.1) in
    let inside : (k < most) × (k < length rest) = (omega (arith, facts.0, length-take most rest), omega (arith, facts.0, length-take most rest)) in
    let front : take k (take most rest) ≡ take k rest = take-take k most rest (omega (arith, inside.0)) in
    let none : list_any ends (take k rest) ≡ false = rw front at (none_before ends (take most rest) k (omega (arith, place))) in
    let octet : get_or rest k 0 ≡ 10 = sym (get_or-take most rest k 0 inside.0) ∙ same_octet (get_or (take most rest) k 0) facts.1 in
    let next : k + 1 ≡ suc k = omega arith in
    let at_end : drop k rest ≡ 10 ∷ drop (k + 1) rest = rw next (rw octet at (drop-cons rest k 0 inside.1)) in
    let parts : rest ≡ r.line ++ (10 ∷ []) ++ r.rest =
    sym (take-append-drop k rest) ∙ ap (λ ys. take k rest ++ ys) at_end ∙ sym (append_assoc (take k rest) (10 ∷ []) (drop (k + 1) rest)) ∙ rw line (rw behind refl) in
    let fits : length r.line ≤ 8240 = rw line (omega (arith, length-take k rest, inside.0)) in
    record { one_line = rw line none; kind = inl (record { parts = parts; fits = fits }) }

none_in : (xs : List ℕ) → position ends xs ≡ None → list_any ends xs ≡ false
none_in xs h =
    let place : position_or_len ends xs ≡ length xs = grind (arith, nat_tests, prefix_len-le-length {X = ℕ}) in
    let whole : take (length xs) xs ≡ xs = take_all (length xs) xs (omega arith) in
    rw whole at (none_before ends xs (length xs) (omega (arith, place)))

-- with more octets than a line may have and no end among them, the line is a front of them
pub first_too_long : (rest : List ℕ) (most : ℕ) (r : Reading) → most ≡ min (length rest) 8241 → 8240 < length rest → position ends (take most rest) ≡ None → r.line ≡ take most rest → r.rest ≡ drop (most + 0) rest → IsFirstLine rest r
first_too_long rest most r size long none line behind =
    let same : most + 0 ≡ most = omega arith in
    record {
      one_line = rw line (none_in (take most rest) none);
      kind = inr (inr (record {
        parts = rw line (rw behind (rw same (sym (take-append-drop most rest))));
        too_long = rw line (omega (arith, size, long, length-take most rest));
      }));
    }

-- at the end of the text what waits is the last line
pub first_last : (rest : List ℕ) (most : ℕ) (r : Reading) → most ≡ min (length rest) 8241 → length rest ≤ 8240 → 0 < length rest → position ends (take most rest) ≡ None → r.line ≡ take most rest → r.rest ≡ drop (most + 0) rest → r.is_over ≡ true → IsFirstLine rest r
first_last rest most r size short some none line behind over =
    let all : take most rest ≡ rest = take_all most rest (omega (arith, size, short)) in
    record {
      one_line = rw line (none_in (take most rest) none);
      kind = inr (inl (record {
        parts = sym (line ∙ all);
        some = rw line (rw all some);
        fits = rw line (rw all short);
        none_left = behind ∙ drop_all (most + 0) rest (omega (arith, size, short));
        over = over;
      }));
    }

-- the front of what waits, as it lies in the buffer
pub front_of_rest : (xs held rest : List ℕ) (a b most : ℕ) → held ≡ xs → slice_range xs a b ≡ rest → most ≤ b - a → take ((a + most) - a) (drop a held) ≡ take most rest
front_of_rest xs held rest a b most same e h =
    let size : (a + most) - a ≡ most = omega arith in
    rw size (ap (λ ys. take most (drop a ys)) same ∙ sym (take-take most (b - a) (drop a xs) h) ∙ ap (λ ys. take most ys) e)

-- how much waits
pub length_of_rest : (xs rest : List ℕ) (a b : ℕ) → slice_range xs a b ≡ rest → b ≤ length xs → length rest ≡ b - a
length_of_rest xs rest a b e h =
    omega (arith, ap length e, length-take (b - a) (drop a xs), length-drop a xs)

-- what waits after the next n octets
pub behind_of_rest : (xs rest : List ℕ) (a b n : ℕ) → slice_range xs a b ≡ rest → a ≤ b → n ≤ length rest → slice_range xs (a + n) b ≡ drop n rest
behind_of_rest xs rest a b n e order h =
    rest_behind xs a b n (omega (arith, ap length e, length-take (b - a) (drop a xs))) ∙ ap (λ ys. drop n ys) e

-- what waits once more was read to the octets after it
pub rest_read : (old moved new rest : List ℕ) (a b n : ℕ) → slice_range old a b ≡ rest → take (b - a) moved ≡ slice_range old a b → take (b - a) new ≡ take (b - a) moved
    → slice_range new 0 ((b - a) + n) ≡ rest ++ slice_range new (b - a) ((b - a) + n)
rest_read old moved new rest a b n waits moves keeps =
    let m : ℕ = b - a in
    let size : (m + n) - m ≡ n = omega arith in
    let front : take m new ≡ rest = keeps ∙ moves ∙ waits in
    rw size (take_on new m n ∙ ap (λ xs. xs ++ take n (drop m new)) front)

-- how much a reading took
pub length_read : (new : List ℕ) (m n : ℕ) → m + n ≤ length new → length (slice_range new m (m + n)) ≡ n
length_read new m n h = omega (arith, length-take ((m + n) - m) (drop m new), length-drop m new)
