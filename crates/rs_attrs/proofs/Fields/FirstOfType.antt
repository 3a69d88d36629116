-- The first spelling of a type, which is the one that counts (RFC 7606, 3, g).
use Rattle.std.proofs.Common.{◌≡◌, ℕ, ◌||◌, Bool, true, false, cond, List, [], ◌∷◌, Option, Some, None, refl, sym, ap, ◌∙◌, subst, nat_eq}
use Rattle.std.specs.Prelude.{option_map}
use Rattle.std.specs.List.{list_any, AllByRecursion}
use Rattle.std.proofs.lemmas.Bool.{eqb-true}
use Rattle.rs_attrs.specs.declared.mode.Mode.{Mode}
use Rattle.rs_attrs.specs.declared.mode.Mode.TheVariants.{Four}
use Rattle.rs_attrs.specs.declared.table.Outcome.{Outcome}
use Rattle.rs_attrs.specs.declared.table.Outcome.TheVariants.{Kept, Withdraw, Discard, Unknown}
use Rattle.rs_attrs.specs.Spellings.{Spelling}
use Rattle.rs_attrs.specs.Table.{outcome_of, is_kept, is_withdraw, is_discard, is_unknown}
use Rattle.rs_attrs.specs.Meaning.{Attribute, attribute_of, that_counts, if_kept, kept, is_as4, comes_to, some_comes_to, all_types}

-- what holds of all spellings holds of the one that counts
pub counts_has : (P : Spelling → Type 0) (kind : ℕ) (ss : List Spelling) (s : Spelling) → that_counts kind ss ≡ Some s → AllByRecursion P ss → P s
counts_has P kind [] s e all = cc
counts_has P kind (t ∷ ss) s e all = by_test (nat_eq t.kind kind) e (λ e. counts_has P kind ss s e all.1)
  where
    by_test : (b : Bool) → cond b (Some t) (that_counts kind ss) ≡ Some s → (that_counts kind ss ≡ Some s → P s) → P s
    by_test true e later = let same : t ≡ s = cc in subst P same all.0
    by_test false e later = later e

-- the spelling that counts is of its type
pub counts_kind : (kind : ℕ) (ss : List Spelling) (s : Spelling) → that_counts kind ss ≡ Some s → s.kind ≡ kind
counts_kind kind [] s e = cc
counts_kind kind (t ∷ ss) s e = by_test (nat_eq t.kind kind) refl e (λ e. counts_kind kind ss s e)
  where
    by_test : (b : Bool) → nat_eq t.kind kind ≡ b → cond b (Some t) (that_counts kind ss) ≡ Some s → (that_counts kind ss ≡ Some s → s.kind ≡ kind) → s.kind ≡ kind
    by_test true p e later = let same : t ≡ s = cc in ap (λ s. s.kind) (sym same) ∙ eqb-true t.kind kind p
    by_test false p e later = later e

-- a four-octet peer's AS4_PATH and AS4_AGGREGATOR are discarded
pub as4_discarded : (s : Spelling) → is_as4 s.kind ≡ true → is_kept (outcome_of Four s) ≡ false
as4_discarded s e = by_tests (nat_eq s.kind 17) (nat_eq s.kind 18) refl refl e
  where
    P : ℕ → Type 0
    P kind = is_kept (outcome_of Four (record { flags = s.flags; kind = kind; value = s.value })) ≡ false

    by_tests : (a b : Bool) → nat_eq s.kind 17 ≡ a → nat_eq s.kind 18 ≡ b → (a || b) ≡ true → is_kept (outcome_of Four s) ≡ false
    by_tests true b p q e = subst P (sym (eqb-true s.kind 17 p)) refl
    by_tests false true p q e = subst P (sym (eqb-true s.kind 18 q)) refl
    by_tests false false p q e = cc

abbrev pub four_by : Option Spelling → Option Attribute
four_by o = option_map attribute_of (if_kept Four o)

-- what a four-octet peer's spellings give a type, by the one that counts alone
pub kept_four : (ss : List Spelling) (kind : ℕ) → kept Four ss kind ≡ four_by (that_counts kind ss)
kept_four ss kind = by_test (is_as4 kind) refl
  where
    discarded : (o : Option Spelling) → that_counts kind ss ≡ o → is_as4 kind ≡ true → four_by o ≡ None
    discarded None e as4 = refl
    discarded (Some s) e as4 =
        let kind_is = counts_kind kind ss s e in
        ap (λ b. option_map attribute_of (cond b (Some s) None)) (as4_discarded s (ap is_as4 kind_is ∙ as4))

    by_test : (b : Bool) → is_as4 kind ≡ b → cond b None (four_by (that_counts kind ss)) ≡ four_by (that_counts kind ss)
    by_test true e = sym (discarded (that_counts kind ss) refl e)
    by_test false e = refl

-- ---- outcomes

abbrev pub IsGood : Mode → Spelling → Type 0
IsGood mode s = is_kept (outcome_of mode s) ≡ true

pub any_of : {X : Type 0} (test : X → Bool) → ((x : X) → test x ≡ false) → (xs : List X) → list_any test xs ≡ false
any_of test never [] = refl
any_of test never (x ∷ xs) = ap (λ b. b || list_any test xs) (never x) ∙ any_of test never xs

-- where all are kept, none comes to another outcome
pub none_comes_to : (is_it : Outcome → Bool) → ((o : Outcome) → is_kept o ≡ true → is_it o ≡ false) → (mode : Mode) (ss : List Spelling) → AllByRecursion (IsGood mode) ss → some_comes_to is_it mode ss ≡ false
none_comes_to is_it never mode ss good = any_of (λ kind. comes_to is_it mode (that_counts kind ss)) (λ kind. at kind (that_counts kind ss) refl) all_types
  where
    at : (kind : ℕ) (o : Option Spelling) → that_counts kind ss ≡ o → comes_to is_it mode o ≡ false
    at kind None e = refl
    at kind (Some s) e = never (outcome_of mode s) (counts_has (IsGood mode) kind ss s e good)

pub not_withdraw : (o : Outcome) → is_kept o ≡ true → is_withdraw o ≡ false
not_withdraw Kept e = refl
not_withdraw Withdraw e = cc
not_withdraw Discard e = refl
not_withdraw Unknown e = refl

pub not_discard : (o : Outcome) → is_kept o ≡ true → is_discard o ≡ false
not_discard Kept e = refl
not_discard Withdraw e = refl
not_discard Discard e = cc
not_discard Unknown e = refl

pub not_unknown : (o : Outcome) → is_kept o ≡ true → is_unknown o ≡ false
not_unknown Kept e = refl
not_unknown Withdraw e = refl
not_unknown Discard e = refl
not_unknown Unknown e = cc
