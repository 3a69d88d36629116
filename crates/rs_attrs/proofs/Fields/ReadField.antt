-- What is kept of a field, as what the field means.
use Rattle.std.proofs.Common.{◌≡◌, ℕ, ◌<◌, cond, Bool, true, false, List, length, Option, Some, None, refl, sym, ap, ◌∙◌, subst, arith}
use Rattle.std.specs.Prelude.{option_map}
use Rattle.std.specs.List.{AllByRecursion}
use Rattle.rs_attrs.specs.declared.mode.Mode.{Mode}
use Rattle.rs_attrs.specs.declared.mode.Mode.TheVariants.{Two, Four}
use Rattle.rs_attrs.specs.declared.faults.Faults.{Faults}
use Rattle.rs_attrs.specs.declared.reading.field.Found.{Found}
use Rattle.rs_attrs.specs.Spellings.{Spelling, IsSpelling, spellings_of, rest_of}
use Rattle.rs_attrs.specs.Meaning.{Attribute, attribute_with, that_counts, is_as4, value_meant, meant, meaning_of, kept as kept_of, get, IsMeant, Reads, faults_of}
use Rattle.rs_attrs.specs.Writing.{IsLegal}
use Rattle.rs_attrs.specs.Walking.{noted, Keeps, meant_by, AreKept, AreShort}
use Rattle.rs_attrs.proofs.Fields.Walk.{FitOctets, splits_of}
use Rattle.rs_attrs.proofs.Fields.FirstOfType.{counts_has, counts_kind}
use Rattle.rs_attrs.proofs.Fields.Meant.{GivesOwn, gives_own, is_meant, kept_is}
use Rattle.rs_attrs.proofs.Fields.Building.{rising_meant, get_meant}
use Rattle.rs_attrs.proofs.OneMeaning.{same_map}
use Rattle.rs_attrs.proofs.Fields.Legal.{HasOctets, values_fit, legal_four, short_value}
use Rattle.rs_attrs.proofs.Fields.LegalTwo.{legal_two}
use Rattle.rs_attrs.proofs.Fields.ShortTwo.{short_by_two}

field_octets : (field : List ℕ) → FitOctets field → AllByRecursion HasOctets (spellings_of field)
field_octets field fits = values_fit (spellings_of field) (rest_of field) (subst FitOctets (splits_of field fits).whole fits)

-- what is kept means what the spellings mean
meant_is : (mode : Mode) (kept : List Found) (ss : List Spelling) → AllByRecursion IsSpelling ss → Keeps mode kept ss → meant_by mode kept ≡ meaning_of mode ss
meant_is mode kept ss each keeps = same_map (meant_by mode kept) (meaning_of mode ss) (rising_meant (meant mode (noted kept)) own kept keeps.rising) whole.rising (λ kind. got kind ∙ sym (whole.same kind))
  where
    whole : IsMeant mode ss (meaning_of mode ss)
    whole = is_meant mode ss each

    same : meant mode (noted kept) ≡ kept_of mode ss
    same = λ i. meant mode (λ kind. keeps.same kind i)

    own : GivesOwn (meant mode (noted kept))
    own = subst GivesOwn (sym same) (gives_own mode ss)

    none : (kind : ℕ) → noted kept kind ≡ None → meant mode (noted kept) kind ≡ None
    none kind e = ap (λ o. cond (is_as4 kind) None (option_map (λ s. attribute_with (value_meant mode (noted kept) s) s) o)) e ∙ either (is_as4 kind)
      where
        either : (b : Bool) → cond {A = Option Attribute} b None None ≡ None
        either true = refl
        either false = refl

    got : (kind : ℕ) → get kind (meant_by mode kept) ≡ kept_of mode ss kind
    got kind = get_meant (meant mode (noted kept)) own kind kept (none kind) ∙ ap (λ f. f kind) same

pub keeps_as : (mode : Mode) (kept same : List Found) (ss : List Spelling) → same ≡ kept → Keeps mode kept ss → Keeps mode same ss
keeps_as mode kept same ss e keeps = let P : List Found → Type 0 = λ kept. Keeps mode kept ss in subst P (sym e) keeps

pub kept_field : (mode : Mode) (field : List ℕ) (kept : List Found) → FitOctets field → Keeps mode kept (spellings_of field) → AreKept mode kept
kept_field mode field kept fits keeps kind s e =
    let ss = spellings_of field in
    let had = kept_is mode kind (that_counts kind ss) s (sym (keeps.same kind) ∙ e) in
    (had.1, counts_kind kind ss s had.0, counts_has HasOctets kind ss s had.0 (field_octets field fits))

short_values : (mode : Mode) (field : List ℕ) (kept : List Found) → FitOctets field → Keeps mode kept (spellings_of field) → (kind : ℕ) (s : Spelling) → noted kept kind ≡ Some s → length s.value < 65536
short_values mode field kept fits keeps kind s e =
    let ss = spellings_of field in
    let had = kept_is mode kind (that_counts kind ss) s (sym (keeps.same kind) ∙ e) in
    short_value s (counts_has IsSpelling kind ss s had.0 (splits_of field fits).each)

pub short_field : (mode : Mode) (field : List ℕ) (kept : List Found) → FitOctets field → Keeps mode kept (spellings_of field) → AreShort mode kept
short_field Four field kept fits keeps kind s e = let short = short_values Four field kept fits keeps kind s e in omega arith
short_field Two field kept fits keeps kind s e =
    short_by_two (noted kept) (kept_field Two field kept fits keeps) (short_values Two field kept fits keeps) kind s e

legal_spellings : (mode : Mode) (ss : List Spelling) → AllByRecursion IsSpelling ss → AllByRecursion HasOctets ss → IsLegal (meaning_of mode ss)
legal_spellings Four ss each octets = legal_four ss each octets
legal_spellings Two ss each octets = legal_two ss each octets

pub legal_field : (mode : Mode) (field : List ℕ) (kept : List Found) → FitOctets field → Keeps mode kept (spellings_of field) → IsLegal (meant_by mode kept)
legal_field mode field kept fits keeps =
    let ss = spellings_of field in
    let each = (splits_of field fits).each in
    subst IsLegal (sym (meant_is mode kept ss each keeps)) (legal_spellings mode ss each (field_octets field fits))

pub field_reads : (mode : Mode) (field : List ℕ) (kept : List Found) (m : List Attribute) (faults : Faults) → FitOctets field → Keeps mode kept (spellings_of field) → m ≡ meant_by mode kept
    → faults ≡ faults_of mode (spellings_of field) (rest_of field) → Reads field mode m faults
field_reads mode field kept m faults fits keeps m_is faults_is =
    let ss = spellings_of field in
    let split = splits_of field fits in
    let Q : List Attribute → Type 0 = λ m. Reads field mode m faults in
    subst Q (sym (m_is ∙ meant_is mode kept ss split.each keeps)) (ss, rest_of field, split, is_meant mode ss split.each, faults_is)
