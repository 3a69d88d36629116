-- What is spelt for a four-octet peer is read again.
use Rattle.std.proofs.Common.{◌≡◌, ℕ, ◌+◌, ◌<◌, ◌≤◌, Bool, true, false, cond, ◌||◌, List, [], ◌∷◌, ◌++◌, length, map, Option, Some, None, refl, sym, ap, ◌∙◌, subst, lit<, arith, append_assoc, nat_lt, nat_eq}
use Rattle.std.specs.Prelude.{option_map, count_by, ◌==◌}
use Rattle.std.specs.List.{flat_map, AllByRecursion}
use Rattle.std.proofs.lemmas.List.Sums.{sum_by-cons}
use Rattle.std.proofs.lemmas.Bool.{ltb-false, le-ltb, eqb-true, ne_eqb}
use Rattle.rs_attrs.specs.declared.mode.Mode.TheVariants.{Four}
use Rattle.rs_attrs.specs.Spellings.{Spelling, spelling_octets, has_flag, is_long, IsSpelling}
use Rattle.rs_attrs.specs.Table.{is_withdraw, is_discard, is_unknown}
use Rattle.rs_attrs.proofs.Fields.FirstOfType.{four_by, kept_four, IsGood, none_comes_to, not_withdraw, not_discard, not_unknown}
use Rattle.rs_attrs.specs.Meaning.{Attribute, attribute_of, partial_of, is_never_partial, is_known_optional, that_counts, kept, get, some_comes_to, stands_twice, IsRising, AllAbove, faults_of}
use Rattle.rs_attrs.specs.Writing.{flags_with, spelling_of, attribute_octets, IsLegal, IsLegalAttribute, is_legal_partial, no_faults, ReadsBack}

-- the four flags of an octet made of them
pub record FlagsBack (o t p l : Bool) : Type 0 where
  pub fits : flags_with o t p l < 256
  pub optional : has_flag 0x80 (flags_with o t p l) ≡ o
  pub transitive : has_flag 0x40 (flags_with o t p l) ≡ t
  pub partial : has_flag 0x20 (flags_with o t p l) ≡ p
  pub long : is_long (flags_with o t p l) ≡ l

flags_back : (o t p l : Bool) → FlagsBack o t p l
flags_back true true true true = record { fits = lit< tt; optional = refl; transitive = refl; partial = refl; long = refl }
flags_back true true true false = record { fits = lit< tt; optional = refl; transitive = refl; partial = refl; long = refl }
flags_back true true false true = record { fits = lit< tt; optional = refl; transitive = refl; partial = refl; long = refl }
flags_back true true false false = record { fits = lit< tt; optional = refl; transitive = refl; partial = refl; long = refl }
flags_back true false true true = record { fits = lit< tt; optional = refl; transitive = refl; partial = refl; long = refl }
flags_back true false true false = record { fits = lit< tt; optional = refl; transitive = refl; partial = refl; long = refl }
flags_back true false false true = record { fits = lit< tt; optional = refl; transitive = refl; partial = refl; long = refl }
flags_back true false false false = record { fits = lit< tt; optional = refl; transitive = refl; partial = refl; long = refl }
flags_back false true true true = record { fits = lit< tt; optional = refl; transitive = refl; partial = refl; long = refl }
flags_back false true true false = record { fits = lit< tt; optional = refl; transitive = refl; partial = refl; long = refl }
flags_back false true false true = record { fits = lit< tt; optional = refl; transitive = refl; partial = refl; long = refl }
flags_back false true false false = record { fits = lit< tt; optional = refl; transitive = refl; partial = refl; long = refl }
flags_back false false true true = record { fits = lit< tt; optional = refl; transitive = refl; partial = refl; long = refl }
flags_back false false true false = record { fits = lit< tt; optional = refl; transitive = refl; partial = refl; long = refl }
flags_back false false false true = record { fits = lit< tt; optional = refl; transitive = refl; partial = refl; long = refl }
flags_back false false false false = record { fits = lit< tt; optional = refl; transitive = refl; partial = refl; long = refl }

-- what partial_of makes of a legal partial bit
partial_back : (never known t p : Bool) → cond never (cond p false true) (cond known true (cond t p true)) ≡ true → cond never false (cond known p (t || p)) ≡ p
partial_back true true true true e = cc
partial_back true true true false e = refl
partial_back true true false true e = cc
partial_back true true false false e = refl
partial_back true false true true e = cc
partial_back true false true false e = refl
partial_back true false false true e = cc
partial_back true false false false e = refl
partial_back false true true true e = refl
partial_back false true true false e = refl
partial_back false true false true e = refl
partial_back false true false false e = refl
partial_back false false true true e = refl
partial_back false false true false e = cc
partial_back false false false true e = refl
partial_back false false false false e = refl

pub flags_of_back : (a : Attribute) → FlagsBack a.optional a.transitive a.partial (nat_lt 255 (length a.value))
flags_of_back a = flags_back a.optional a.transitive a.partial (nat_lt 255 (length a.value))

pub partial_of_back : (a : Attribute) → is_legal_partial a ≡ true → partial_of (spelling_of a) ≡ a.partial
partial_of_back a legal =
    let back = flags_of_back a in
    let never : Bool = is_never_partial a.kind in
    let known : Bool = is_known_optional a.kind in
    let read : partial_of (spelling_of a) ≡ cond never false (cond known a.partial (a.transitive || a.partial)) =
    λ i. cond never false (cond known (back.partial i) (back.transitive i || back.partial i)) in
    read ∙ partial_back never known a.transitive a.partial legal

attribute_back : (a : Attribute) → IsLegalAttribute a → attribute_of (spelling_of a) ≡ a
attribute_back a legal =
    let back = flags_of_back a in
    let partial : partial_of (spelling_of a) ≡ a.partial = partial_of_back a legal.partial in
    λ i. record { kind = a.kind; optional = back.optional i; transitive = back.transitive i; partial = partial i; value = a.value }

-- ---- the spellings

pub spellings_back : (m : List Attribute) → flat_map attribute_octets m ≡ flat_map spelling_octets (map spelling_of m) ++ []
spellings_back [] = refl
spellings_back (a ∷ m) = ap (λ octets. attribute_octets a ++ octets) (spellings_back m) ∙ sym (append_assoc (attribute_octets a) _ [])

pub fits_by : (long : Bool) (n : ℕ) → nat_lt 255 n ≡ long → n < 65536 → n < cond long 65536 256
fits_by true n e h = h
fits_by false n e h = omega (arith, ltb-false 255 n e)

spelling_back : (a : Attribute) → IsLegalAttribute a → length a.value < 65536 → IsSpelling (spelling_of a)
spelling_back a legal short =
    let back = flags_of_back a in
    let P : Bool → Type 0 = λ long. length a.value < cond long 65536 256 in
    record {
      flags = back.fits;
      kind = legal.kind;
      length_fits = subst P (sym back.long) (fits_by (nat_lt 255 (length a.value)) (length a.value) refl short);
    }

each_back : (m : List Attribute) → AllByRecursion IsLegalAttribute m → AllByRecursion (λ a. length a.value < 65536) m → AllByRecursion IsSpelling (map spelling_of m)
each_back [] legal short = tt
each_back (a ∷ m) legal short = (spelling_back a legal.0 short.0, each_back m legal.1 short.1)

-- ---- the map

given_back : (a : Attribute) → IsLegalAttribute a → four_by (Some (spelling_of a)) ≡ Some a
given_back a legal = ap (λ b. option_map attribute_of (cond b (Some (spelling_of a)) None)) legal.is_kept ∙ ap Some (attribute_back a legal)

found_back : (here : Bool) (a : Attribute) (x : Option Spelling) (y : Option Attribute) → IsLegalAttribute a → four_by x ≡ y → four_by (cond here (Some (spelling_of a)) x) ≡ cond here (Some a) y
found_back true a x y legal e = given_back a legal
found_back false a x y legal e = e

counts_back : (m : List Attribute) → AllByRecursion IsLegalAttribute m → (kind : ℕ) → get kind m ≡ four_by (that_counts kind (map spelling_of m))
counts_back [] legal kind = refl
counts_back (a ∷ m) legal kind = sym (found_back (nat_eq a.kind kind) a _ _ legal.0 (sym (counts_back m legal.1 kind)))

same_back : (m : List Attribute) → AllByRecursion IsLegalAttribute m → (kind : ℕ) → get kind m ≡ kept Four (map spelling_of m) kind
same_back m legal kind = counts_back m legal kind ∙ sym (kept_four (map spelling_of m) kind)

-- ---- the faults

goods_back : (m : List Attribute) → AllByRecursion IsLegalAttribute m → AllByRecursion (IsGood Four) (map spelling_of m)
goods_back [] legal = tt
goods_back (a ∷ m) legal = (legal.0.is_kept, goods_back m legal.1)

-- no type stands twice
abbrev pub count : ℕ → List Attribute → ℕ
count kind m = count_by (λ s. s.kind == kind) (map spelling_of m)

pub count_cons : (kind : ℕ) (a : Attribute) (m : List Attribute) → count kind (a ∷ m) ≡ cond (nat_eq a.kind kind) 1 0 + count kind m
count_cons kind a m = sum_by-cons (λ s. cond (s.kind == kind) 1 0) (spelling_of a) (map spelling_of m)

count_above : (kind low : ℕ) (m : List Attribute) → kind ≤ low → AllAbove low m → count kind m ≡ 0
count_above kind low [] h above = refl
count_above kind low (a ∷ m) h above =
    let higher : low < a.kind = above.0 in
    let other : nat_eq a.kind kind ≡ false = ne_eqb a.kind kind (λ e. omega arith) in
    count_cons kind a m ∙ ap (λ b. cond b 1 0 + count kind m) other ∙ ap (λ n. 0 + n) (count_above kind low m h above.1)

count_by_case : (b : Bool) (n : ℕ) → (b ≡ true → n ≡ 0) → n ≤ 1 → cond b 1 0 + n ≤ 1
count_by_case true n none h = let e : n ≡ 0 = none refl in omega arith
count_by_case false n none h = omega arith

count_rising : (kind : ℕ) (m : List Attribute) → IsRising m → count kind m ≤ 1
count_rising kind [] rising = omega arith
count_rising kind (a ∷ m) rising =
    let P : ℕ → Type 0 = λ n. n ≤ 1 in
    subst P (sym (count_cons kind a m))
    (count_by_case (nat_eq a.kind kind) (count kind m)
    (λ e. let same : a.kind ≡ kind = eqb-true a.kind kind e in count_above kind a.kind m (omega arith) rising.0)
    (count_rising kind m rising.1))

once : (kind : ℕ) (m : List Attribute) → IsRising m → stands_twice kind (map spelling_of m) ≡ false
once kind m rising = le-ltb 1 _ (count_rising kind m rising)

faults_back : (m : List Attribute) → IsLegal m → no_faults ≡ faults_of Four (map spelling_of m) []
faults_back m legal =
    let good = goods_back m legal.each in
    let twice : (stands_twice 14 (map spelling_of m) || stands_twice 15 (map spelling_of m)) ≡ false =
    ap (λ b. b || stands_twice 15 (map spelling_of m)) (once 14 m legal.rising) ∙ once 15 m legal.rising in
    let withdraw : (some_comes_to is_withdraw Four (map spelling_of m) || false) ≡ false =
    ap (λ b. b || false) (none_comes_to is_withdraw not_withdraw Four (map spelling_of m) good) in
    let unknown = none_comes_to is_unknown not_unknown Four (map spelling_of m) good in
    let discard = none_comes_to is_discard not_discard Four (map spelling_of m) good in
    sym (λ i. record { mp_twice = twice i; withdraw = withdraw i; unknown = unknown i; discard = discard i })

pub reads_back : ReadsBack Four
reads_back m legal short = (
  map spelling_of m,
  [],
  record { whole = spellings_back m; each = each_back m legal.each short; stops = λ s after h e. cc },
  record { rising = legal.rising; same = same_back m legal.each },
  faults_back m legal,
)
