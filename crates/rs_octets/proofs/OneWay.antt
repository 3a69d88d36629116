-- Octets are split into parts of which none is a front of another in one way.
use Rattle.std.proofs.Common.{◌≡◌, ℕ, List, [], ◌∷◌, ◌++◌, length, take, drop, sym, ap, ◌∙◌, append_assoc}
use Rattle.std.specs.List.{flat_map, AllByRecursion}
use Rattle.std.proofs.Math.Seq.{take-append_seam, drop-append_seam}
use Rattle.rs_octets.specs.Parts.{BeginsNone, Splits, IsPrefixFree}

same_parts : {A : Type 0} (octets_of : A → List ℕ) (IsPart : A → Type 0) → IsPrefixFree octets_of IsPart
    → (parts others : List A) (rest left : List ℕ) → AllByRecursion IsPart parts → AllByRecursion IsPart others
    → BeginsNone octets_of IsPart rest → BeginsNone octets_of IsPart left
    → flat_map octets_of parts ++ rest ≡ flat_map octets_of others ++ left → (parts ≡ others) × (rest ≡ left)
same_parts octets_of IsPart free [] [] rest left all each stops ends e = (λ i. [], e)
same_parts octets_of IsPart free [] (b ∷ others) rest left all each stops ends e =
    absurd (stops b (flat_map octets_of others ++ left) each.0 (e ∙ append_assoc (octets_of b) (flat_map octets_of others) left))
same_parts octets_of IsPart free (a ∷ parts) [] rest left all each stops ends e =
    absurd (ends a (flat_map octets_of parts ++ rest) all.0 (sym e ∙ append_assoc (octets_of a) (flat_map octets_of parts) rest))
same_parts octets_of IsPart free (a ∷ parts) (b ∷ others) rest left all each stops ends e =
    let first : (a ≡ b) × (flat_map octets_of parts ++ rest ≡ flat_map octets_of others ++ left) =
    free a b (flat_map octets_of parts ++ rest) (flat_map octets_of others ++ left) all.0 each.0
    (sym (append_assoc (octets_of a) (flat_map octets_of parts) rest) ∙ e ∙ append_assoc (octets_of b) (flat_map octets_of others) left) in
    let later : (parts ≡ others) × (rest ≡ left) = same_parts octets_of IsPart free parts others rest left all.1 each.1 stops ends first.1 in
    ((λ i. first.0 i ∷ later.0 i), later.1)

pub one_way : {A : Type 0} (octets_of : A → List ℕ) (IsPart : A → Type 0) → IsPrefixFree octets_of IsPart
    → (octets : List ℕ) (parts others : List A) (rest left : List ℕ)
    → Splits octets_of IsPart octets parts rest → Splits octets_of IsPart octets others left → (parts ≡ others) × (rest ≡ left)
one_way octets_of IsPart free octets parts others rest left s t =
    same_parts octets_of IsPart free parts others rest left s.each t.each s.stops t.stops (sym s.whole ∙ t.whole)

-- fronts of one length are one front
pub same_fronts : (a b x y : List ℕ) → length a ≡ length b → a ++ x ≡ b ++ y → (a ≡ b) × (x ≡ y)
same_fronts a b x y n e = (
  sym (take-append_seam a x) ∙ ap (λ n. take n (a ++ x)) n ∙ ap (take (length b)) e ∙ take-append_seam b y,
  sym (drop-append_seam a x) ∙ ap (λ n. drop n (a ++ x)) n ∙ ap (drop (length b)) e ∙ drop-append_seam b y,
)

-- a part in front of octets that are split already
pub one_more : {A : Type 0} (octets_of : A → List ℕ) (IsPart : A → Type 0) (part : A) (octets : List ℕ) (parts : List A) (rest : List ℕ)
    → IsPart part → Splits octets_of IsPart octets parts rest → Splits octets_of IsPart (octets_of part ++ octets) (part ∷ parts) rest
one_more octets_of IsPart part octets parts rest is split = record {
  whole = ap (λ xs. octets_of part ++ xs) split.whole ∙ sym (append_assoc (octets_of part) (flat_map octets_of parts) rest);
  each = (is, split.each);
  stops = split.stops;
}
