-- How many prefixes a test picks, where it changes at one of them.
use Rattle.std.proofs.Common.{Bool, true, false, not, ◌≡◌, ◌≢◌, ◌+◌, ◌||◌, ℕ, suc, List, [], ◌∷◌, length, refl, sym, ◌∙◌, ap, subst, arith}
use Rattle.std.specs.Prelude.{if◌then◌else◌}
use Rattle.std.specs.List.{filter}
use Rattle.std.proofs.lemmas.Bool.{not_from_false, not-true}
use Rattle.std.proofs.Math.Bool.{or-false}
use Rattle.rs_octets.specs.Prefixes.{Prefix}
use Rattle.rs_attrs.specs.Effects.{same_prefix, has_prefix}
use Rattle.rs_attrs.proofs.EachOnce.{same_is}
use Rattle.rs_adjin.specs.Held.{one_if}
use Rattle.rs_adjin.specs.Listing.{Lists, Counts}
use Rattle.rs_octets.proofs.Members.{Has, kept, keeps, apart_kept}
use Rattle.rs_adjin.proofs.TableRows.{at_prefix}
use Rattle.rs_adjin.proofs.Counting.{is_in, is_in_from, has_from, has_is_in, at_flip, iff, left_of, left_kept, distinct_apart, apart_distinct, counts_alike}

pub counts_from : (has : Prefix → Bool) (ps : List Prefix) (n : ℕ) → Lists has ps → length ps ≡ n → Counts has n
counts_from has ps n listed is = record { prefixes = ps; listed = listed; each = λ qs others. counts_alike has qs ps others listed ∙ is }

pub counts_same : (f g : Prefix → Bool) (k l : ℕ) → ((p : Prefix) → g p ≡ f p) → l ≡ k → Counts f k → Counts g l
counts_same f g k l same is counted =
    counts_from g counted.prefixes l record { once = counted.listed.once; all = λ p. counted.listed.all p ∙ sym (same p) }
    (counted.each counted.prefixes counted.listed ∙ sym is)

in_one : (p q : Prefix) → is_in (p ∷ []) q ≡ same_prefix q p
in_one p q = ap (λ b. b || false) (at_flip q p ∙ at_prefix p q) ∙ or-false (same_prefix q p)

pub listed_in : (has : Prefix → Bool) (ks : List Prefix) → Lists has ks → (q : Prefix) → is_in ks q ≡ has q
listed_in has ks listed q = sym (has_is_in q ks) ∙ listed.all q

module _ (f g : Prefix → Bool) (p : Prefix) (k l : ℕ) (counted : Counts f k) where
  ks : List Prefix
  ks = counted.prefixes

  long : length counted.prefixes ≡ k
  long = counted.each counted.prefixes counted.listed

  pointwise : (b : Bool) → ((q : Prefix) → g q ≡ (if same_prefix q p then b else f q)) → f p ≡ b → (q : Prefix) → g q ≡ f q
  pointwise b step is q = step q ∙ go (same_prefix q p) refl
    where
      go : (t : Bool) → same_prefix q p ≡ t → (if t then b else f q) ≡ f q
      go true at = sym is ∙ ap f (sym (same_is q p at))
      go false at = refl

  first_apart : f p ≡ false → (q : Prefix) → Has counted.prefixes q → p ≢ q
  first_apart none q h same =
      let there : is_in counted.prefixes p ≡ true = is_in_from counted.prefixes p (subst (Has counted.prefixes) (sym same) h) in
      let e : true ≡ false = sym there ∙ (listed_in f counted.prefixes counted.listed p ∙ none) in
      (cc)

  one_more : ((q : Prefix) → g q ≡ (if same_prefix q p then true else f q)) → f p ≡ false → l ≡ suc k → Counts g l
  one_more step none is =
      counts_from g (p ∷ counted.prefixes) l
      record {
        once = apart_distinct (p ∷ counted.prefixes) (first_apart none, distinct_apart counted.prefixes counted.listed.once);
        all = λ q. all q (same_prefix q p) refl;
      }
      (ap (λ n. suc n) long ∙ sym is)
    where
      all : (q : Prefix) (t : Bool) → same_prefix q p ≡ t → has_prefix q (p ∷ counted.prefixes) ≡ g q
      all q true at = ap (λ t. t || has_prefix q counted.prefixes) at ∙ sym (step q ∙ ap (λ t. if t then true else f q) at)
      all q false at = ap (λ t. t || has_prefix q counted.prefixes) at ∙ (counted.listed.all q ∙ sym (step q ∙ ap (λ t. if t then true else f q) at))

  abbrev less : List Prefix
  less = left_of (p ∷ []) counted.prefixes

  one_less : ((q : Prefix) → g q ≡ (if same_prefix q p then false else f q)) → f p ≡ true → l + 1 ≡ k → Counts g l
  one_less step there is =
      let member : is_in counted.prefixes p ≡ true = listed_in f counted.prefixes counted.listed p ∙ there in
      let sizes = left_kept (p ∷ []) counted.prefixes ((λ q h same. h), tt) (distinct_apart counted.prefixes counted.listed.once) in
      let one : length (filter (is_in counted.prefixes) (p ∷ [])) ≡ 1 = rw member refl in
      counts_from g less l
      record {
        once = apart_distinct less (apart_kept (λ q. not (is_in (p ∷ []) q)) counted.prefixes (distinct_apart counted.prefixes counted.listed.once));
        all = λ q. has_is_in q less ∙ iff (is_in less q) (g q) (λ h. stays q (has_from less q h)) (λ h. is_in_from less q (comes q h));
      }
      (omega (arith, sizes, one, long, is))
    where
      stays : (q : Prefix) → Has less q → g q ≡ true
      stays q h =
          let in_ks = kept (λ x. not (is_in (p ∷ []) x)) counted.prefixes q h in
          let other : same_prefix q p ≡ false = sym (in_one p q) ∙ not-true (is_in (p ∷ []) q) in_ks.1 in
          step q ∙ (ap (λ t. if t then false else f q) other ∙ (sym (listed_in f counted.prefixes counted.listed q) ∙ is_in_from counted.prefixes q in_ks.0))

      at : (q : Prefix) → g q ≡ true → (t : Bool) → same_prefix q p ≡ t → (same_prefix q p ≡ false) × (f q ≡ true)
      at q h true same = absurd (let e : true ≡ false = sym h ∙ (step q ∙ ap (λ t. if t then false else f q) same) in (cc))
      at q h false other = (other, sym (step q ∙ ap (λ t. if t then false else f q) other) ∙ h)

      comes : (q : Prefix) → g q ≡ true → Has less q
      comes q h =
          let was = at q h (same_prefix q p) refl in
          keeps (λ x. not (is_in (p ∷ []) x)) counted.prefixes q (has_from counted.prefixes q (listed_in f counted.prefixes counted.listed q ∙ was.1)) (not_from_false (is_in (p ∷ []) q) (in_one p q ∙ was.0))

  pub counts_marked : (b : Bool) → ((q : Prefix) → g q ≡ (if same_prefix q p then b else f q)) → l + one_if (f p) ≡ k + one_if b → Counts g l
  counts_marked b step is = go b (f p) refl step is
    where
      go : (b t : Bool) → f p ≡ t → ((q : Prefix) → g q ≡ (if same_prefix q p then b else f q)) → l + one_if (f p) ≡ k + one_if b → Counts g l
      go true true was step is = counts_same f g k l (pointwise true step was) (omega (arith, is, ap one_if was)) counted
      go false false was step is = counts_same f g k l (pointwise false step was) (omega (arith, is, ap one_if was)) counted
      go true false was step is = one_more step was (omega (arith, is, ap one_if was))
      go false true was step is = one_less step was (omega (arith, is, ap one_if was))
