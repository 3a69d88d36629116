-- What is read from a four-octet peer is legal.
use Rattle.std.proofs.Common.{◌≡◌, ℕ, zero, suc, ◌<◌, ◌||◌, ◌&&◌, Bool, true, false, cond, not, List, [], ◌∷◌, ◌++◌, length, get_or, Option, Some, None, refl, sym, ap, ◌∙◌, subst, arith, lit<, append_assoc}
use Rattle.std.specs.List.{filter_map, cons_option, flat_map, AllByRecursion}
use Rattle.rs_attrs.specs.declared.mode.Mode.{Mode}
use Rattle.rs_attrs.specs.declared.mode.Mode.TheVariants.{Four}
use Rattle.rs_attrs.specs.declared.table.Class.{Class}
use Rattle.rs_attrs.specs.declared.table.Class.TheVariants.{WellKnown, OptionalTransitive, OptionalNonTransitive, Any}
use Rattle.rs_attrs.specs.declared.table.Outcome.TheVariants.{Kept, Withdraw, Unknown}
use Rattle.rs_attrs.specs.Spellings.{Spelling, spelling_octets, length_octets, has_flag, is_long, IsSpelling, AreOctets}
use Rattle.rs_attrs.specs.Table.{Row, fits_class, is_well_formed, outcome_by, outcome_of, row_of, is_kept}
use Rattle.rs_attrs.specs.Meaning.{Attribute, attribute_with, is_never_partial, is_known_optional, kept, meaning_of, all_types}
use Rattle.rs_attrs.specs.Writing.{flags_of, is_legal_partial, IsLegal, IsLegalAttribute}
use Rattle.rs_attrs.proofs.Fields.Walk.{FitOctets, fit_behind}
use Rattle.rs_attrs.proofs.Fields.FirstOfType.{counts_has}
use Rattle.rs_attrs.proofs.Written.ReadBack.{flags_of_back}
use Rattle.rs_attrs.proofs.Fields.Meant.{behind, is_meant}

-- ---- the outcome goes by the two flags and the value alone

class_same : (class : Class) (f g : ℕ) → has_flag 0x80 f ≡ has_flag 0x80 g → has_flag 0x40 f ≡ has_flag 0x40 g → fits_class class f ≡ fits_class class g
class_same WellKnown f g o t = λ i. not (o i) && t i
class_same OptionalTransitive f g o t = λ i. o i && t i
class_same OptionalNonTransitive f g o t = λ i. o i && not (t i)
class_same Any f g o t = refl

pub outcome_same : (mode : Mode) (kind f g : ℕ) (value : List ℕ) → has_flag 0x80 f ≡ has_flag 0x80 g → has_flag 0x40 f ≡ has_flag 0x40 g
    → outcome_of mode (record { flags = f; kind = kind; value = value }) ≡ outcome_of mode (record { flags = g; kind = kind; value = value })
outcome_same mode kind f g value o t = by_row (row_of mode kind)
  where
    by_row : (r : Option Row) → outcome_by mode r (record { flags = f; kind = kind; value = value }) ≡ outcome_by mode r (record { flags = g; kind = kind; value = value })
    by_row None = ap (λ b. cond b Kept Unknown) o
    by_row (Some r) = ap (λ b. cond b (cond (is_well_formed mode r.shape value) Kept r.otherwise) Withdraw) (class_same r.class f g o t)

-- ---- the partial bit

legal_bits : (never known t p : Bool) → cond never (cond (cond never false (cond known p (t || p))) false true) (cond known true (cond t (cond never false (cond known p (t || p))) true)) ≡ true
legal_bits true known t p = refl
legal_bits false true t p = refl
legal_bits false false true p = refl
legal_bits false false false p = refl

legal_partial : (s : Spelling) (value : List ℕ) → is_legal_partial (attribute_with value s) ≡ true
legal_partial s value = legal_bits (is_never_partial s.kind) (is_known_optional s.kind) (has_flag 0x40 s.flags) (has_flag 0x20 s.flags)

-- ---- an attribute

pub legal_with : (s : Spelling) (value : List ℕ) → s.kind < 256 → AreOctets value → is_kept (outcome_of Four (record { flags = s.flags; kind = s.kind; value = value })) ≡ true → IsLegalAttribute (attribute_with value s)
legal_with s value kind octets good =
    let a : Attribute = attribute_with value s in
    let back = flags_of_back a in
    record {
      kind = kind;
      octets = octets;
      is_kept = ap is_kept (outcome_same Four s.kind (flags_of a) s.flags value back.optional back.transitive) ∙ good;
      partial = legal_partial s value;
    }

-- ---- all of them

each_cons : (o : Option Attribute) (m : List Attribute) → ((a : Attribute) → o ≡ Some a → IsLegalAttribute a) → AllByRecursion IsLegalAttribute m → AllByRecursion IsLegalAttribute (cons_option o m)
each_cons None m here later = later
each_cons (Some a) m here later = (here a refl, later)

each_legal : (f : ℕ → Option Attribute) → ((kind : ℕ) (a : Attribute) → f kind ≡ Some a → IsLegalAttribute a) → (kinds : List ℕ) → AllByRecursion IsLegalAttribute (filter_map f kinds)
each_legal f legal [] = tt
each_legal f legal (kind ∷ kinds) = each_cons (f kind) (filter_map f kinds) (legal kind) (each_legal f legal kinds)

pub legal_meaning : (mode : Mode) (ss : List Spelling) → AllByRecursion IsSpelling ss → ((kind : ℕ) (a : Attribute) → kept mode ss kind ≡ Some a → IsLegalAttribute a) → IsLegal (meaning_of mode ss)
legal_meaning mode ss each legal = record {
  rising = (is_meant mode ss each).rising;
  each = each_legal (kept mode ss) legal all_types;
}

-- ---- the values of a field's spellings are octets

pub are_octets : (octets : List ℕ) → FitOctets octets → AreOctets octets
are_octets [] fits = tt
are_octets (o ∷ octets) fits = (fits 0, are_octets octets (λ i. fits (suc i)))

fit_front : (front octets : List ℕ) → FitOctets (front ++ octets) → FitOctets front
fit_front [] octets fits = λ i. lit< tt
fit_front (o ∷ front) octets fits = by_index (fit_front front octets (λ i. fits (suc i)))
  where
    by_index : FitOctets front → (i : ℕ) → get_or (o ∷ front) i 0 < 256
    by_index later zero = fits 0
    by_index later (suc i) = later i

abbrev pub HasOctets : Spelling → Type 0
HasOctets s = AreOctets s.value

pub values_fit : (ss : List Spelling) (rest : List ℕ) → FitOctets (flat_map spelling_octets ss ++ rest) → AllByRecursion HasOctets ss
values_fit [] rest fits = tt
values_fit (s ∷ ss) rest fits =
    let P : List ℕ → Type 0 = FitOctets in
    let both = subst P (append_assoc (spelling_octets s) (flat_map spelling_octets ss) rest) fits in (
      are_octets s.value (fit_behind (s.flags ∷ s.kind ∷ length_octets s.flags (length s.value)) s.value (fit_front (spelling_octets s) _ both)),
      values_fit ss rest (fit_behind (spelling_octets s) _ both),
    )

-- what a four-octet peer's spellings mean is legal
pub legal_four : (ss : List Spelling) → AllByRecursion IsSpelling ss → AllByRecursion HasOctets ss → IsLegal (meaning_of Four ss)
legal_four ss each octets = legal_meaning Four ss each by_kind
  where
    by_kind : (kind : ℕ) (a : Attribute) → kept Four ss kind ≡ Some a → IsLegalAttribute a
    by_kind kind a e =
        let b = behind Four ss kind a e in
        let s = b.spelling in
        let is : IsSpelling s = counts_has IsSpelling kind ss s b.counts each in
        subst IsLegalAttribute (sym b.means) (legal_with s s.value is.kind (counts_has HasOctets kind ss s b.counts octets) b.is_kept)

pub short_value : (s : Spelling) → IsSpelling s → length s.value < 65536
short_value s is = by_long (is_long s.flags) is.length_fits
  where
    by_long : (b : Bool) → length s.value < cond b 65536 256 → length s.value < 65536
    by_long true h = h
    by_long false h = omega arith
