-- The values of legal attributes are well formed.
use Rattle.std.proofs.Common.{◌≡◌, ℕ, ◌==◌, Bool, true, false, cond, List, [], ◌∷◌, length, get_or, Some, refl, sym, ap, ◌∙◌, subst, arith, eqb-true}
use Rattle.std.specs.List.{AllByRecursion, find}
use Rattle.std.specs.Int.{w32, from_be_bytes}
use Rattle.rs_attrs.specs.declared.mode.Mode.TheVariants.{Four}
use Rattle.rs_attrs.specs.declared.table.Outcome.{Outcome}
use Rattle.rs_attrs.specs.declared.table.Outcome.TheVariants.{Kept, Withdraw}
use Rattle.rs_attrs.specs.Table.{is_kept, is_well_formed, is_origin, fits_class, outcome_by}
use Rattle.rs_attrs.specs.Meaning.{Attribute, get}
use Rattle.rs_attrs.specs.Writing.{IsLegal, IsLegalAttribute, spelling_of}
use Rattle.rs_attrs.specs.Getters.{IsWellFormedAs}

-- what find answers is one of the list, and passes
pub record IsFound {A : Type 0} (P : A → Type 0) (test : A → Bool) (x : A) : Type 0 where
  pub has : P x
  pub passes : test x ≡ true

pub is_found : {A : Type 0} {P : A → Type 0} {test : A → Bool} (xs : List A) (x : A) → AllByRecursion P xs → find test xs ≡ Some x → IsFound P test x
is_found [] x all e = cc e
is_found {A} {P} {test} (y ∷ xs) x all e = by (test y) refl e (λ more. is_found xs x all.1 more)
  where
    by : (b : Bool) → b ≡ test y → cond b (Some y) (find test xs) ≡ Some x → (find test xs ≡ Some x → IsFound P test x) → IsFound P test x
    by true t e more = let same : y ≡ x = cc in subst (IsFound P test) same (record { has = all.0; passes = sym t })
    by false t e more = more e

both_kept : (a b : Bool) (o : Outcome) → is_kept o ≡ false → is_kept (cond a (cond b Kept o) Withdraw) ≡ true → b ≡ true
both_kept true true o n k = refl
both_kept true false o n k = cc
both_kept false true o n k = refl
both_kept false false o n k = cc

pub row_kept : (a : Attribute) → IsLegalAttribute a → IsWellFormedAs a.kind a.value
row_kept a legal = record {
  form = λ r row bad. both_kept (fits_class r.class (spelling_of a).flags) (is_well_formed Four r.shape a.value) r.otherwise bad (ap (λ o. is_kept (outcome_by Four o (spelling_of a))) (sym row) ∙ legal.is_kept);
}

pub well_formed_as : (m : List Attribute) (kind : ℕ) (a : Attribute) → IsLegal m → get kind m ≡ Some a → IsWellFormedAs kind a.value
well_formed_as m kind a legal e =
    let found = is_found {P = IsLegalAttribute} {test = λ a. a.kind == kind} m a legal.each e in
    subst (λ k. IsWellFormedAs k a.value) (eqb-true a.kind kind found.passes) (row_kept a found.has)

pub one_octet : (value : List ℕ) → is_origin value ≡ true → length value ≡ 1
one_octet [] h = cc h
one_octet (x ∷ []) h = refl
one_octet (x ∷ y ∷ value) h = cc h

pub four_cells : (value : List ℕ) → length value ≡ 4 → from_be_bytes w32 (get_or value 0 0 ∷ get_or value 1 0 ∷ get_or value 2 0 ∷ get_or value 3 0 ∷ []) ≡ from_be_bytes w32 value
four_cells [] h = absurd (omega arith)
four_cells (a ∷ []) h = absurd (omega arith)
four_cells (a ∷ b ∷ []) h = absurd (omega arith)
four_cells (a ∷ b ∷ c ∷ []) h = absurd (omega arith)
four_cells (a ∷ b ∷ c ∷ d ∷ []) h = refl
four_cells (a ∷ b ∷ c ∷ d ∷ e ∷ value) h = absurd (omega arith)
