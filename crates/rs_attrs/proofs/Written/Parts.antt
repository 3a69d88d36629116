-- What is to be written of attributes, taken from the front.
use Rattle.std.proofs.Common.{◌≡◌, ℕ, suc, ◌+◌, ◌*◌, ◌<◌, ◌≤◌, Bool, true, false, cond, List, [], ◌∷◌, ◌++◌, length, map, take, drop, refl, sym, ap, ◌∙◌, subst, arith, nat_lt, nat_eq, length-append, length-drop}
use mathlib.Core.Bool.{true≢false}
use Rattle.std.specs.Prelude.{filter, ◌&&◌}
use Rattle.std.specs.List.{flat_map, AllByRecursion}
use Rattle.std.proofs.lemmas.Bool.{eq-eqb, ne_eqb, lt-ltb, le-ltb, ltb-true, ltb-false}
use Rattle.std.proofs.lemmas.List.{length-map, length-take-le}
use Rattle.rs_octets.specs.Writes.{Writes}
use Rattle.rs_octets.proofs.Writing.{writes_then}
use Rattle.rs_attrs.specs.declared.mode.Mode.{Mode}
use Rattle.rs_attrs.specs.declared.mode.Mode.TheVariants.{Two, Four}
use Rattle.rs_attrs.specs.Heads.{Head}
use Rattle.rs_attrs.specs.Meaning.{Attribute, IsRising, AllAbove, is_as4}
use Rattle.rs_attrs.specs.Held.{attribute_by, attributes_in, values_size, head_spelling}
use Rattle.rs_attrs.specs.Writing.{attribute_octets, with_value, narrowed, as4_of, as4_attribute, path_needs_four_octets, needs_four_octets, aggregator_in, spelling_of, in_mode, IsLegal, IsLegalAttribute}
use Rattle.rs_attrs.specs.Parts.{narrow_path, narrow_aggregator, octets_of_length, parts_left, begins_below}
use Rattle.rs_attrs.proofs.Fields.FirstOfType.{as4_discarded}
use Rattle.rs_attrs.proofs.HeldLemmas.{attribute_length, attribute_spelling}
use Rattle.rs_attrs.proofs.Written.Narrowing.{narrowed_is, narrowed_value, other_value}

-- ---- one attribute for a two-octet peer

path_value : (a : Attribute) → a.kind ≡ 2 → narrowed_value a ≡ narrow_path a.value
path_value a kind = ap (λ b. cond b (narrow_path a.value) (cond (nat_eq a.kind 7) (narrow_aggregator a.value) a.value)) (eq-eqb a.kind 2 kind)

aggregator_value : (a : Attribute) → a.kind ≡ 7 → narrowed_value a ≡ narrow_aggregator a.value
aggregator_value a kind = λ i. cond (ne_eqb a.kind 2 (λ e. omega arith) i) (narrow_path a.value) (cond (eq-eqb a.kind 7 kind i) (narrow_aggregator a.value) a.value)

pub narrowed_path : (a : Attribute) → a.kind ≡ 2 → with_value a (narrow_path a.value) ≡ narrowed a
narrowed_path a kind = sym (narrowed_is a ∙ ap (with_value a) (path_value a kind))

pub narrowed_aggregator : (a : Attribute) → a.kind ≡ 7 → with_value a (narrow_aggregator a.value) ≡ narrowed a
narrowed_aggregator a kind = sym (narrowed_is a ∙ ap (with_value a) (aggregator_value a kind))

pub narrowed_other : (a : Attribute) → (a.kind ≡ 2 → ⊥) → (a.kind ≡ 7 → ⊥) → a ≡ narrowed a
narrowed_other a no2 no7 = sym (narrowed_is a ∙ ap (with_value a) (other_value a no2 no7))

-- ---- an attribute is taken off

pub record FirstLeft (h : Head) (heads : List Head) (values : List ℕ) : Type 0 where
  pub fits : h.len ≤ length values
  pub len : h.len ≡ length (take h.len values)
  pub size : values_size heads ≤ length (drop h.len values)
  pub legal : IsLegal (attributes_in heads (drop h.len values))

pub first_left : (h : Head) (heads : List Head) (values : List ℕ) → values_size (h ∷ heads) ≤ length values → IsLegal (attributes_in (h ∷ heads) values) → FirstLeft h heads values
first_left h heads values size legal = record {
  fits = omega (arith, size);
  len = sym (length-take-le h.len values (omega (arith, size)));
  size = omega (arith, size, length-drop h.len values);
  legal = record { rising = legal.rising.1; each = legal.each.1 };
}

-- ---- what is left to be written

-- an attribute of a type below AS4_PATH
pub low_step : (left rest as4 : List Attribute) (a : Attribute) → left ≡ a ∷ rest → begins_below left ≡ true → parts_left Two left as4 ≡ narrowed a ∷ parts_left Two rest as4
low_step left rest as4 a is below =
    let here : nat_lt a.kind 17 ≡ true = sym (ap begins_below is) ∙ below in
    let not_high : nat_lt 18 a.kind ≡ false = le-ltb 18 a.kind (omega (arith, ltb-true a.kind 17 here)) in
    ap (λ m. parts_left Two m as4) is
    ∙ (λ i. map narrowed (cond (here i) (a ∷ filter (λ a. nat_lt a.kind 17) rest) (filter (λ a. nat_lt a.kind 17) rest)) ++ flat_map as4_of as4 ++ cond (not_high i) (a ∷ filter (λ a. nat_lt 18 a.kind) rest) (filter (λ a. nat_lt 18 a.kind) rest))

none_above : (m : List Attribute) (n : ℕ) → AllAbove n m → 17 ≤ n + 1 → filter (λ a. nat_lt a.kind 17) m ≡ []
none_above [] n above up = refl
none_above (a ∷ m) n above up = ap (λ b. cond b (a ∷ filter (λ a. nat_lt a.kind 17) m) (filter (λ a. nat_lt a.kind 17) m)) (le-ltb a.kind 17 (omega (arith, up, above.0))) ∙ none_above m n above.1 up

none_below : (m : List Attribute) → IsRising m → begins_below m ≡ false → filter (λ a. nat_lt a.kind 17) m ≡ []
none_below [] up none = refl
none_below (a ∷ m) up none =
    ap (λ b. cond b (a ∷ filter (λ a. nat_lt a.kind 17) m) (filter (λ a. nat_lt a.kind 17) m)) none
    ∙ none_above m a.kind up.0 (omega (arith, ltb-false a.kind 17 none))

-- AS4_PATH or AS4_AGGREGATOR, where none of those is left
pub beside_step : (left as4 rest : List Attribute) (p : Attribute) → IsRising left → begins_below left ≡ false → flat_map as4_of as4 ≡ p ∷ flat_map as4_of rest → parts_left Two left as4 ≡ p ∷ parts_left Two left rest
beside_step left as4 rest p up none is =
    (λ i. map narrowed (none_below left up none i) ++ is i ++ filter (λ a. nat_lt 18 a.kind) left)
    ∙ (λ i. p ∷ (map narrowed (sym (none_below left up none) i) ++ flat_map as4_of rest ++ filter (λ a. nat_lt 18 a.kind) left))

-- AS4_PATH and AS4_AGGREGATOR are not among legal attributes
high_kind : (a : Attribute) → IsLegalAttribute a → nat_lt a.kind 17 ≡ false → 18 < a.kind
high_kind a legal not_low =
    let no17 : a.kind ≡ 17 → ⊥ = λ e. true≢false (sym legal.is_kept ∙ as4_discarded (spelling_of a) (ap is_as4 e)) in
    let no18 : a.kind ≡ 18 → ⊥ = λ e. true≢false (sym legal.is_kept ∙ as4_discarded (spelling_of a) (ap is_as4 e)) in
    let up : 17 ≤ a.kind = ltb-false a.kind 17 not_low in
    omega (arith, no17, no18, up)

-- an attribute of a type above them, where nothing else is left
pub high_step : (left rest as4 as4_rest : List Attribute) (a : Attribute) → IsLegal left → left ≡ a ∷ rest → begins_below left ≡ false → flat_map as4_of as4 ≡ [] → as4_rest ≡ [] → parts_left Two left as4 ≡ a ∷ parts_left Two rest as4_rest
high_step left rest as4 as4_rest a legal is none nothing ended =
    let all : IsLegal (a ∷ rest) = subst IsLegal is legal in
    let not_low : nat_lt a.kind 17 ≡ false = sym (ap begins_below is) ∙ none in
    let here : nat_lt 18 a.kind ≡ true = lt-ltb 18 a.kind (high_kind a all.each.0 not_low) in
    let low_rest : filter (λ a. nat_lt a.kind 17) rest ≡ [] = none_above rest a.kind all.rising.0 (omega (arith, ltb-false a.kind 17 not_low)) in
    ap (λ m. parts_left Two m as4) is
    ∙ (λ i. map narrowed (none_below (a ∷ rest) all.rising not_low i) ++ nothing i ++ cond (here i) (a ∷ filter (λ a. nat_lt 18 a.kind) rest) (filter (λ a. nat_lt 18 a.kind) rest))
    ∙ (λ i. a ∷ (map narrowed (sym low_rest i) ++ flat_map as4_of (sym ended i) ++ filter (λ a. nat_lt 18 a.kind) rest))

-- the same, and for a four-octet peer any attribute, as the code names what is left
pub last_step : (mode mode_then : Mode) (left left_then as4 as4_then rest : List Attribute) (a : Attribute) → mode ≡ Two → mode_then ≡ mode → left_then ≡ left → as4_then ≡ [] → IsLegal left → begins_below left ≡ false → flat_map as4_of as4 ≡ [] → left_then ≡ a ∷ rest
    → parts_left mode left as4 ≡ a ∷ parts_left mode_then rest as4_then
last_step mode mode_then left left_then as4 as4_then rest a two same left_is ended legal none nothing is =
    ap (λ mode. parts_left mode left as4) two ∙ high_step left rest as4 as4_then a legal (sym left_is ∙ is) none nothing ended
    ∙ ap (λ mode. a ∷ parts_left mode rest as4_then) (sym (same ∙ two))

pub four_step : (mode mode_then : Mode) (left left_then as4 as4_then rest : List Attribute) (a : Attribute) → mode ≡ Four → mode_then ≡ mode → left_then ≡ left → left_then ≡ a ∷ rest → parts_left mode left as4 ≡ a ∷ parts_left mode_then rest as4_then
four_step mode mode_then left left_then as4 as4_then rest a four same left_is is =
    ap (λ mode. parts_left mode left as4) four ∙ sym left_is ∙ is ∙ ap (λ mode. a ∷ parts_left mode rest as4_then) (sym (same ∙ four))

-- nothing is left
pub none_step : (left as4 : List Attribute) → left ≡ [] → flat_map as4_of as4 ≡ [] → parts_left Two left as4 ≡ []
none_step left as4 is nothing = (λ i. parts_left Two (is i) as4) ∙ ap (λ m. m ++ []) nothing

-- ---- how many there are

kinds_above : (low : ℕ) (m : List Attribute) → low < 256 → AllAbove low m → IsRising m → AllByRecursion IsLegalAttribute m → length m + low < 256
kinds_above low [] h above rising legal = omega arith
kinds_above low (a ∷ m) h above rising legal =
    let more = kinds_above a.kind m legal.0.kind rising.0 rising.1 legal.1 in
    let higher : low < a.kind = above.0 in
    omega arith

types_most : (m : List Attribute) → IsRising m → AllByRecursion IsLegalAttribute m → length m ≤ 256
types_most [] rising legal = omega arith
types_most (a ∷ m) rising legal = let more = kinds_above a.kind m legal.0.kind rising.0 rising.1 legal.1 in omega arith

filter_most : (p : Attribute → Bool) (m : List Attribute) → length (filter p m) ≤ length m
filter_most p [] = omega arith
filter_most p (a ∷ m) = by_test (p a) (filter_most p m)
  where
    by_test : (b : Bool) → length (filter p m) ≤ length m → length (cond b (a ∷ filter p m) (filter p m)) ≤ suc (length m)
    by_test true h = omega (arith, h)
    by_test false h = omega (arith, h)

beside_one : (a : Attribute) (b c : Bool) → length (cond b (as4_attribute 17 a.value ∷ []) (cond c (as4_attribute 18 a.value ∷ []) [])) ≤ 1
beside_one a true c = omega arith
beside_one a false true = omega arith
beside_one a false false = omega arith

beside_most : (m : List Attribute) → length (flat_map as4_of m) ≤ length m
beside_most [] = omega arith
beside_most (a ∷ m) =
    omega (arith, length-append (as4_of a) (flat_map as4_of m), beside_one a (nat_eq a.kind 2 && path_needs_four_octets a.value) (nat_eq a.kind 7 && needs_four_octets (aggregator_in a.value)), beside_most m)

parts_most : (mode : Mode) (m : List Attribute) → IsLegal m → length (in_mode mode m) ≤ 768
parts_most Four m legal = omega (arith, types_most m legal.rising legal.each)
parts_most Two m legal =
    let below : List Attribute = filter (λ (a : Attribute). nat_lt a.kind 17) m in
    let above : List Attribute = filter (λ (a : Attribute). nat_lt 18 a.kind) m in
    omega (
      arith,
      length-append (map narrowed below ++ flat_map as4_of m) above,
      length-append (map narrowed below) (flat_map as4_of m),
      length-map below narrowed,
      filter_most (λ (a : Attribute). nat_lt a.kind 17) m,
      filter_most (λ (a : Attribute). nat_lt 18 a.kind) m,
      beside_most m,
      types_most m legal.rising legal.each,
    )

-- ---- their octets are counted

pub record Counted (all items : List Attribute) (size : ℕ) : Type 0 where
  pub left : size + length (flat_map attribute_octets items) ≡ length (flat_map attribute_octets all)
  pub most : size + length items * 8589934592 ≤ 6597069766656

pub count_all : (mode : Mode) (m items : List Attribute) → IsLegal m → items ≡ in_mode mode m → Counted (in_mode mode m) items 0
count_all mode m items legal is =
    subst (λ items. Counted (in_mode mode m) items 0) (sym is) (record { left = omega arith; most = omega (arith, parts_most mode m legal) })

pub count_next : (all items rest : List Attribute) (a : Attribute) (size n part : ℕ) → Counted all items size → items ≡ a ∷ rest → n ≡ length a.value → n < 4294967296 → part ≡ octets_of_length n → Counted all rest (size + part)
count_next all items rest a size n part counted is n_is short part_is =
    let here : part ≡ length (attribute_octets a) = part_is ∙ ap octets_of_length n_is ∙ sym (attribute_length a) in
    record {
      left = omega (arith, counted.left, ap (λ items. length (flat_map attribute_octets items)) is, length-append (attribute_octets a) (flat_map attribute_octets rest), here);
      most = omega (arith, counted.most, ap length is, part_most (nat_lt 255 n) n part part_is short);
    }
  where
    part_most : (b : Bool) (n part : ℕ) → part ≡ cond b 4 3 + n → n < 4294967296 → part ≤ 8589934592
    part_most true n part is short = omega (arith, is, short)
    part_most false n part is short = omega (arith, is, short)

pub count_done : (all items : List Attribute) (size : ℕ) → Counted all items size → items ≡ [] → size ≡ length (flat_map attribute_octets all)
count_done all items size counted is = omega (arith, counted.left, ap (λ items. length (flat_map attribute_octets items)) is)

-- ---- one of them is written

pub part_written : (h : Head) (bytes : List ℕ) (a : Attribute) (at value_at : ℕ) (old mid new : List ℕ) → a ≡ attribute_by h bytes → h.len ≡ length bytes → at + length (attribute_octets a) ≤ length old → value_at ≡ at + length (head_spelling h)
    → Writes at (head_spelling h) old mid → Writes value_at bytes mid new → Writes at (attribute_octets a) old new
part_written h bytes a at value_at old mid new a_is len fits value_is head value =
    writes_then at value_at (head_spelling h) bytes (attribute_octets a) old mid new (ap attribute_octets a_is ∙ attribute_spelling h bytes len) value_is fits head value

pub part_end : (h : Head) (bytes : List ℕ) (a : Attribute) (at value_at : ℕ) → a ≡ attribute_by h bytes → h.len ≡ length bytes → value_at ≡ at + length (head_spelling h) → value_at + length bytes ≡ at + length (attribute_octets a)
part_end h bytes a at value_at a_is len value_is =
    omega (arith, value_is, ap length (ap attribute_octets a_is ∙ attribute_spelling h bytes len), length-append (head_spelling h) bytes)
