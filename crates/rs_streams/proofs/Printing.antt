-- One piece after the other goes to a stream.
use Rattle.std.proofs.Common.{◌≡◌, ◌≢◌, ◌+◌, ℕ, zero, suc, List, [], ◌∷◌, ◌++◌, length, take, drop, decimal, refl, sym, subst, ap, ◌∙◌, append-nil, append_assoc, take-append-drop, arith}
use Rattle.std.specs.Prelude.{codes}
use Rattle.std.proofs.lemmas.List.{length-append}
use Rattle.rs_streams.specs.Printing.{Took, Nothing, Another, Goes, count_line}

-- nothing was given yet
pub goes_none : {S : Type 0} (takes : S → List ℕ → S → Type 0) (stream : S) (octets : List ℕ) → Goes takes stream octets stream octets
goes_none takes stream octets = record { front = []; took = Nothing stream; all = refl }

-- one piece more was given
pub goes_piece : {S : Type 0} (takes : S → List ℕ → S → Type 0) (a b c : S) (octets rest : List ℕ) (n : ℕ) → Goes takes a octets b rest → takes b (take n rest) c → Goes takes a octets c (drop n rest)
goes_piece takes a b c octets rest n h t = record {
  front = h.front ++ take n rest;
  took = Another a b c h.front (take n rest) h.took t;
  all = append_assoc h.front (take n rest) (drop n rest) ∙ ap (λ w. h.front ++ w) (take-append-drop n rest) ∙ h.all;
}

took_on : {S : Type 0} (takes : S → List ℕ → S → Type 0) (a b c : S) (octets more : List ℕ) → Took takes a octets b → Took takes b more c → Took takes a (octets ++ more) c
took_on takes a _ _ octets _ h (Nothing b) = subst (λ o. Took takes a o b) (sym (append-nil octets)) h
took_on takes a _ _ octets _ h (Another b m c more piece k t) = subst (λ o. Took takes a o c) (append_assoc octets more piece) (Another a m c (octets ++ more) piece (took_on takes a b m octets more h k) t)

-- more came behind what waited, and that was given
pub goes_on : {S : Type 0} (takes : S → List ℕ → S → Type 0) (a b c : S) (octets rest text last : List ℕ) → Goes takes a octets b rest → Goes takes b (rest ++ text) c last → Goes takes a (octets ++ text) c last
goes_on takes a b c octets rest text last h k = record {
  front = h.front ++ k.front;
  took = took_on takes a b c h.front k.front h.took k.took;
  all = append_assoc h.front k.front last ∙ ap (λ w. h.front ++ w) k.all ∙ sym (append_assoc h.front rest text) ∙ ap (λ w. w ++ text) h.all;
}

-- one part after the other was given
pub goes_then : {S : Type 0} (takes : S → List ℕ → S → Type 0) (a b c : S) (octets rest last : List ℕ) → Goes takes a octets b rest → Goes takes b rest c last → Goes takes a octets c last
goes_then takes a b c octets rest last h k = record {
  front = h.front ++ k.front;
  took = took_on takes a b c h.front k.front h.took k.took;
  all = append_assoc h.front k.front last ∙ ap (λ w. h.front ++ w) k.all ∙ h.all;
}

-- a line that fitted after the count of those that were dropped waits behind all that waited
pub line_waits : {S : Type 0} (takes : S → List ℕ → S → Type 0) (a b put_on c : S) (octets rest : List ℕ) (n m : ℕ) (line put last : List ℕ) → Goes takes a octets b rest → put_on ≡ b → n ≡ m → put ≡ rest ++ (count_line n ++ line) → Goes takes put_on put c last → Goes takes a (octets ++ (count_line m ++ line)) c last
line_waits takes a b put_on c octets rest n m line put last h same count is k = goes_on takes a b c octets rest (count_line m ++ line) last h
    (subst (λ s. Goes takes s (rest ++ (count_line m ++ line)) c last) same (subst (λ p. Goes takes put_on p c last) (subst (λ d. put ≡ rest ++ (count_line d ++ line)) count is) k))

-- the count has the word, the digits and the end of a line
count_parts : (n : ℕ) → n ≢ 0 → count_line n ≡ codes "dropped " ++ decimal n ++ 10 ∷ []
count_parts zero ne = absurd (ne refl)
count_parts (suc n) ne = refl

pub counted_length : (n : ℕ) (line : List ℕ) → n ≢ 0 → length (count_line n ++ line) ≡ 9 + length (decimal n) + length line
counted_length n line ne = rw (count_parts n ne, length-append, length-append, length-append) (omega arith)

pub counted_parts : (n : ℕ) (w digits line : List ℕ) → n ≢ 0 → digits ≡ decimal n → w ++ codes "dropped " ++ digits ++ (10 ∷ []) ++ line ≡ w ++ (count_line n ++ line)
counted_parts n w digits line ne is = rw (is, count_parts n ne, append_assoc, append_assoc, append_assoc, append_assoc, append_assoc) refl

-- nothing stands before a line where none was dropped
pub counted_none : (n : ℕ) (line : List ℕ) → n ≡ zero → count_line n ++ line ≡ line
counted_none n line is = rw (is) refl
