-- A body has one set of fields, and a field of attributes one meaning.
use Rattle.std.proofs.Common.{◌≡◌, ℕ, zero, suc, ◌<◌, ◌≤◌, ◌⊎◌, inl, inr, nat_eq, Bool, true, false, cond, List, [], ◌∷◌, ◌++◌, length, take, drop, get_or, Some, None, refl, sym, ap, ◌∙◌, subst, arith, lit<, append_assoc}
use Rattle.std.specs.Int.{w16, from_be_bytes, to_be_bytes}
use Rattle.std.proofs.lemmas.Bool.{cases_lt, eq-eqb, eqb-true, ne_eqb}
use Rattle.std.proofs.lemmas.Nat.{from_be_bytes-to_be_bytes_2}
use Rattle.rs_attrs.specs.declared.mode.Mode.{Mode}
use Rattle.rs_attrs.specs.declared.faults.Faults.{Faults}
use Rattle.rs_attrs.specs.Spellings.{AreOctets, Spelling, spelling_octets, is_long, IsSpelling, spellings_of, rest_of}
use Rattle.rs_attrs.specs.Paths.{segments_of}
use Rattle.rs_attrs.specs.Meaning.{Attribute, get, AllAbove, IsRising, Reads, faults_of, kept}
use Rattle.rs_attrs.specs.Effects.{Fields, IsBody, behind_its_length}
use Rattle.rs_attrs.specs.ReadingLaws.{FieldsAreRead, FieldsMeanOne, PathsAreRead}
use Rattle.rs_attrs.proofs.Fields.Walk.{FitOctets, splits_of}
use Rattle.rs_attrs.proofs.Fields.Meant.{is_meant}
use Rattle.rs_attrs.proofs.Paths.PathLaws.{path_found, path_back}
use Rattle.rs_octets.proofs.OneWay.{one_way, same_fronts}

-- two fields behind their lengths
same_field : (xs ys vs ws : List ℕ) → length xs < 65536 → length ys < 65536 → behind_its_length xs ++ vs ≡ behind_its_length ys ++ ws → (xs ≡ ys) × (vs ≡ ws)
same_field xs ys vs ws h k e =
    let size = sym (from_be_bytes-to_be_bytes_2 (length xs) h) ∙ ap (λ octets. from_be_bytes w16 (take 2 octets)) e ∙ from_be_bytes-to_be_bytes_2 (length ys) k in
    same_fronts xs ys vs ws size (ap (drop 2) e)

pub same_fields : (body : List ℕ) (f g : Fields) → IsBody body f → IsBody body g → f ≡ g
same_fields body f g is other =
    let whole =
    sym (append_assoc (behind_its_length f.withdrawn) (behind_its_length f.attributes) f.nlri) ∙ sym is.whole
    ∙ other.whole ∙ append_assoc (behind_its_length g.withdrawn) (behind_its_length g.attributes) g.nlri in
    let first = same_field f.withdrawn g.withdrawn (behind_its_length f.attributes ++ f.nlri) (behind_its_length g.attributes ++ g.nlri) is.withdrawn other.withdrawn whole in
    let second = same_field f.attributes g.attributes f.nlri g.nlri is.attributes other.attributes first.1 in
    λ i. record { withdrawn = first.0 i; attributes = second.0 i; nlri = second.1 i }

-- ---- attributes

abbrev behind : Bool → List ℕ → List ℕ
behind long value = cond long (to_be_bytes w16 (length value)) (length value ∷ []) ++ value

same_value : (long : Bool) (xs ys vs ws : List ℕ) → length xs < cond long 65536 256 → length ys < cond long 65536 256 → behind long xs ++ vs ≡ behind long ys ++ ws → (xs ≡ ys) × (vs ≡ ws)
same_value true xs ys vs ws h k e = same_field xs ys vs ws h k e
same_value false xs ys vs ws h k e =
    let size : length xs ≡ length ys = cc in
    same_fronts xs ys vs ws size (ap (drop 1) e)

-- no spelling is a front of another
same_spelling : (s t : Spelling) (vs ws : List ℕ) → IsSpelling s → IsSpelling t → spelling_octets s ++ vs ≡ spelling_octets t ++ ws → (s ≡ t) × (vs ≡ ws)
same_spelling s t vs ws is other e =
    let flags : s.flags ≡ t.flags = cc in
    let kind : s.kind ≡ t.kind = cc in
    let long : is_long t.flags ≡ is_long s.flags = ap is_long (sym flags) in
    let rest : behind (is_long s.flags) s.value ++ vs ≡ behind (is_long t.flags) t.value ++ ws = ap (drop 2) e in
    let both = same_value (is_long s.flags) s.value t.value vs ws is.length_fits
    (subst (λ long. length t.value < cond long 65536 256) long other.length_fits)
    (rest ∙ ap (λ long. behind long t.value ++ ws) long) in
    (λ i. record { flags = flags i; kind = kind i; value = both.0 i }, both.1)

get_above : (kind low : ℕ) (m : List Attribute) → kind ≤ low → AllAbove low m → get kind m ≡ None
get_above kind low [] h above = refl
get_above kind low (a ∷ m) h above =
    let here : low < a.kind = above.0 in
    ap (λ b. cond b (Some a) (get kind m)) (ne_eqb a.kind kind (λ e. omega arith)) ∙ get_above kind low m h above.1

get_first : (a : Attribute) (m : List Attribute) → get a.kind (a ∷ m) ≡ Some a
get_first a m = ap (λ b. cond b (Some a) (get a.kind m)) (eq-eqb a.kind a.kind refl)

-- a type that stands in a rising list does not stand below its first
below : (a b : Attribute) (m n : List Attribute) → AllAbove b.kind n → ((kind : ℕ) → get kind (a ∷ m) ≡ get kind (b ∷ n)) → b.kind ≤ a.kind
below a b m n above same = by_order (cases_lt a.kind b.kind)
  where
    by_order : (a.kind < b.kind) ⊎ (b.kind ≤ a.kind) → b.kind ≤ a.kind
    by_order (inl h) =
        let none : get a.kind (b ∷ n) ≡ None =
        ap (λ t. cond t (Some b) (get a.kind n)) (ne_eqb b.kind a.kind (λ e. omega arith)) ∙ get_above a.kind b.kind n (omega arith) above in
        let some : Some a ≡ None = sym (get_first a m) ∙ same a.kind ∙ none in cc
    by_order (inr h) = h

pub same_map : (m n : List Attribute) → IsRising m → IsRising n → ((kind : ℕ) → get kind m ≡ get kind n) → m ≡ n
same_map [] [] rising other same = refl
same_map [] (b ∷ n) rising other same = let e : None ≡ Some b = same b.kind ∙ get_first b n in cc
same_map (a ∷ m) [] rising other same = let e : None ≡ Some a = sym (same a.kind) ∙ get_first a m in cc
same_map (a ∷ m) (b ∷ n) rising other same =
    let kinds : a.kind ≡ b.kind = (let h = below a b m n other.0 same in let k = below b a n m rising.0 (λ kind. sym (same kind)) in omega arith) in
    let firsts : Some a ≡ Some b = sym (get_first a m) ∙ same a.kind ∙ ap (λ kind. get kind (b ∷ n)) kinds ∙ get_first b n in
    let first : a ≡ b = cc in
    let others = same_map m n rising.1 other.1 (λ kind. behind_first kind kinds (nat_eq a.kind kind) refl (same kind)) in
    λ i. first i ∷ others i
  where
    behind_first : (kind : ℕ) → a.kind ≡ b.kind → (t : Bool) → nat_eq a.kind kind ≡ t → get kind (a ∷ m) ≡ get kind (b ∷ n) → get kind m ≡ get kind n
    behind_first kind kinds true p e =
        let here : a.kind ≡ kind = eqb-true a.kind kind p in
        get_above kind a.kind m (omega arith) rising.0 ∙ sym (get_above kind b.kind n (omega arith) other.0)
    behind_first kind kinds false p e =
        ap (λ t. cond t (Some a) (get kind m)) (sym p) ∙ e ∙ ap (λ t. cond t (Some b) (get kind n)) (ap (λ k. nat_eq k kind) (sym kinds) ∙ p)

pub same_meaning : (octets : List ℕ) (mode : Mode) (m n : List Attribute) (faults others : Faults) → Reads octets mode m faults → Reads octets mode n others → (m ≡ n) × (faults ≡ others)
same_meaning octets mode m n faults others (ss, rest, split, meant, is) (ts, other, splits, means, are) =
    let both = one_way spelling_octets IsSpelling same_spelling octets ss ts rest other split splits in (
      same_map m n meant.rising means.rising (λ kind. meant.same kind ∙ ap (λ ss. kept mode ss kind) both.0 ∙ sym (means.same kind)),
      is ∙ (λ i. faults_of mode (both.0 i) (both.1 i)) ∙ sym are,
    )

-- ---- the laws

pub fit_all : (octets : List ℕ) → AreOctets octets → FitOctets octets
fit_all [] are = λ i. lit< tt
fit_all (o ∷ octets) are = by_index (fit_all octets are.1)
  where
    by_index : FitOctets octets → (i : ℕ) → get_or (o ∷ octets) i 0 < 256
    by_index later zero = are.0
    by_index later (suc i) = later i

pub fields_are_read : FieldsAreRead
fields_are_read octets mode are =
    let split = splits_of octets (fit_all octets are) in
    (spellings_of octets, rest_of octets, split, is_meant mode (spellings_of octets) split.each, refl)

pub fields_mean_one : FieldsMeanOne
fields_mean_one octets mode m n f g reads others = same_meaning octets mode m n f g reads others

pub paths_are_read : PathsAreRead
paths_are_read size is_kind value path are = (
  path_found size is_kind value path are,
  λ is. ap (segments_of size is_kind) is.whole ∙ path_back size is_kind path is.each,
)
