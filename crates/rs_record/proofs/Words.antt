-- Words that a line is made of: names, numbers and hex.
use Rattle.std.proofs.Common.{◌≡◌, ℕ, ◌+◌, ◌-◌, ◌*◌, ◌/◌, ◌%◌, ◌^◌, ◌<◌, ◌≤◌, List, [], ◌∷◌, ◌++◌, length, refl, ◌∙◌, ap, arith, Bool, true, false, ◌&&◌, Some, subst}
use Rattle.std.specs.Prelude.{nat_lt, nat_le, ◌==◌, decimal}
use Rattle.std.specs.List.{list_any, list_all}
use Rattle.std.proofs.lemmas.Bool.Decides.{nat_tests}
use Rattle.std.proofs.lemmas.List.Folds.{list_any-append, list_all-append}
use Rattle.std.proofs.lemmas.List.Sums.{fold-append, list_all-from_AllPass}
use Rattle.std.proofs.lemmas.Fmt.{decimal_by_steps, length-decimal-le, decimal_nonempty}
use Rattle.std.proofs.lemmas.Nat.{div-add-mod', mod_below}
use Rattle.rs_policy.specs.Texts.{is_digit, is_name, is_name_octet}
use Rattle.hex.specs.Hex.{encode_lower, is_hex_digit, lower_digits, IsBytes}
use Rattle.hex.proofs.HexLemmas.{decode_of-encode_lower, decode_of-ok, length-encode_with}
use Rattle.rs_trace.specs.Numbers.{number_of, value_of}
use Rattle.rs_trace.specs.Trace.{octets_of, text_of}
use Rattle.rs_trace.specs.Words.{words_of}
use Rattle.rs_trace.proofs.LineLemmas.{ends}
use Rattle.rs_trace.proofs.NumberLemmas.{number_of-good, has_length}
use Rattle.rs_trace.proofs.WordLemmas.{space}

-- it has at most so many octets, no space and no end of a line
pub record IsWord (word : List ℕ) (most : ℕ) : Type 0 where
  pub short : length word ≤ most
  pub no_space : list_any space word ≡ false
  pub no_end : list_any ends word ≡ false

pub none_append : (p : ℕ → Bool) (xs ys : List ℕ) → list_any p xs ≡ false → list_any p ys ≡ false → list_any p (xs ++ ys) ≡ false
none_append p xs ys f s = rw (list_any-append p xs ys) (rw f s)

both : (a b : Bool) → (a && b) ≡ true → (a ≡ true) × (b ≡ true)
both true b h = (refl, h)
both false b h = let bad : false ≡ true = h in cc

not_it : (q : ℕ → Bool) (k x : ℕ) → q k ≡ false → q x ≡ true → (b : Bool) → (x == k) ≡ b → b ≡ false
not_it q k x not is true e =
    let same : x ≡ k = grind (arith, nat_tests) in
    let bad : q k ≡ true = subst (λ y. q y ≡ true) same is in
    cc
not_it q k x not is false e = refl

none_in_all : (q : ℕ → Bool) (k : ℕ) → q k ≡ false → (xs : List ℕ) → list_all q xs ≡ true → list_any (λ octet. octet == k) xs ≡ false
none_in_all q k not [] h = refl
none_in_all q k not (x ∷ xs) h =
    let parts = both (q x) (list_all q xs) h in
    rw (not_it q k x not parts.0 (x == k) refl) (none_in_all q k not xs parts.1)

is_word : (q : ℕ → Bool) (most : ℕ) → q 32 ≡ false → q 10 ≡ false → (xs : List ℕ) → length xs ≤ most → list_all q xs ≡ true → IsWord xs most
is_word q most space end xs short all = record { short = short; no_space = none_in_all q 32 space xs all; no_end = none_in_all q 10 end xs all }

-- ---- a name

pub name_is_word : (name : List ℕ) → is_name name ≡ true → IsWord name 32
name_is_word name h =
    let parts = both (nat_lt 0 (length name) && nat_le (length name) 32) (list_all is_name_octet name) h in
    let lengths = both (nat_lt 0 (length name)) (nat_le (length name) 32) parts.0 in
    is_word is_name_octet 32 refl refl name (grind (arith, nat_tests)) parts.1

-- ---- a number

record IsDecimal (n : ℕ) (digits : List ℕ) : Type 0 where
  all : list_all is_digit digits ≡ true
  value : value_of digits ≡ n

digit : (d : ℕ) → d < 10 → is_digit (48 + d) ≡ true
digit d h = grind (arith, nat_tests)

value_more : (digits : List ℕ) (d : ℕ) → value_of (digits ++ (d ∷ [])) ≡ value_of digits * 10 + (d - 48)
value_more digits d = fold-append (λ n digit. n * 10 + (digit - 48)) 0 digits (d ∷ [])

one_digit : (n : ℕ) → n < 10 → IsDecimal n ((48 + n) ∷ [])
one_digit n h = record { all = rw (digit n h) refl; value = omega arith }

more_digits : (n : ℕ) (digits : List ℕ) → 10 ≤ n → IsDecimal (n / 10) digits → IsDecimal n (digits ++ ((48 + n % 10) ∷ []))
more_digits n digits h d =
    let low : n % 10 < 10 = mod_below n 10 (omega arith) in
    record {
      all = rw (list_all-append is_digit digits ((48 + n % 10) ∷ [])) (rw d.all (rw (digit (n % 10) low) refl));
      value = omega (arith, value_more digits (48 + n % 10), d.value, div-add-mod' n 10);
    }

is_decimal : (n : ℕ) → n < 2 ^ 64 → IsDecimal n (decimal n)
is_decimal n h = decimal_by_steps IsDecimal one_digit more_digits n h

decimal_short : (n : ℕ) → n < 2 ^ 64 → length (decimal n) ≤ 20
decimal_short n h = length-decimal-le 20 n (omega arith) (omega (arith, h)) h

pub decimal_is_word : (n : ℕ) → n < 2 ^ 64 → IsWord (decimal n) 20
decimal_is_word n h = is_word is_digit 20 refl refl (decimal n) (decimal_short n h) (is_decimal n h).all

pub decimal_is_number : (n : ℕ) → n < 2 ^ 64 → number_of (decimal n) ≡ Some n
decimal_is_number n h =
    let is = is_decimal n h in
    let some : (length (decimal n) == 0) ≡ false = let nonempty = decimal_nonempty n h in grind (arith, nat_tests) in
    let within : value_of (decimal n) < 2 ^ 64 = omega (arith, is.value, h) in
    number_of-good (decimal n) (has_length (decimal n) some (decimal_short n h)) is.all within ∙ ap Some is.value

-- ---- hex

pub hex_is_word : (octets : List ℕ) → length octets ≤ 4096 → IsBytes octets → IsWord (encode_lower octets) 8192
hex_is_word octets short bytes =
    let facts = decode_of-ok (encode_lower octets) octets (decode_of-encode_lower octets bytes) in
    is_word is_hex_digit 8192 refl refl (encode_lower octets) (omega (arith, short, facts.2)) (list_all-from_AllPass is_hex_digit (encode_lower octets) facts.1)

pub hex_is_octets : (octets : List ℕ) → length octets ≤ 4096 → IsBytes octets → octets_of (encode_lower octets) ≡ Some octets
hex_is_octets octets short bytes =
    let size = length-encode_with lower_digits octets in
    let fits : nat_lt 8192 (length (encode_lower octets)) ≡ false = grind (arith, nat_tests) in
    rw fits (rw (decode_of-encode_lower octets bytes) refl)

some_text : (digits : List ℕ) → 0 < length digits → text_of digits ≡ octets_of digits
some_text [] h = absurd (omega (arith, h))
some_text (digit ∷ digits) h = refl

pub hex_is_text : (octets : List ℕ) → 0 < length octets → length octets ≤ 4096 → IsBytes octets → text_of (encode_lower octets) ≡ Some octets
hex_is_text octets some short bytes =
    some_text (encode_lower octets) (omega (arith, length-encode_with lower_digits octets, some)) ∙ hex_is_octets octets short bytes

-- ---- the words of a line

no_space : (x : ℕ) (xs : List ℕ) → list_any space (x ∷ xs) ≡ false → (space x ≡ false) × (list_any space xs ≡ false)
no_space x xs h = cases (space x) refl h
  where
    cases : (b : Bool) → space x ≡ b → list_any space (x ∷ xs) ≡ false → (space x ≡ false) × (list_any space xs ≡ false)
    cases true e h = let bad : true ≡ false = rw e at h in cc
    cases false e h = (e, rw e at h)

pub words_one : (word : List ℕ) → list_any space word ≡ false → words_of word ≡ word ∷ []
words_one [] h = refl
words_one (x ∷ xs) h = let parts = no_space x xs h in rw parts.0 (rw (words_one xs parts.1) refl)

pub words_two : (first second : List ℕ) → list_any space first ≡ false → list_any space second ≡ false → words_of ((first ++ (32 ∷ [])) ++ second) ≡ first ∷ second ∷ []
words_two [] second f s = rw (words_one second s) refl
words_two (x ∷ first) second f s = let parts = no_space x first f in rw parts.0 (rw (words_two first second parts.1 s) refl)
