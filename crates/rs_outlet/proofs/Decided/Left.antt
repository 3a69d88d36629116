-- How many prefixes a whole turn decides that passes over those that are not stale.
use Rattle.std.proofs.Common.{◌≡◌, ◌<◌, ◌≤◌, get_or, take, ◌+◌, ℕ, zero, suc, Bool, true, false, cond, not, ◌&&◌, ◌||◌, nat_eq, Option, None, Some, List, [], ◌∷◌, length, refl, sym, ap, ◌∙◌, subst, arith}
use Rattle.std.specs.Prelude.{count_by, is_some}
use mathlib.Core.Bool.{true≢false}
use Rattle.std.specs.List.{AllByRecursion, IsDistinct, list_any}
use Rattle.std.specs.Map.{keys_of}
use Rattle.std.specs.FinSet as set
use Rattle.std.proofs.lemmas.Bool.{eqb-true}
use Rattle.std.proofs.lemmas.List.Sums.{count_by_more_no, count_by_more_yes, sum_by-cons}
use Rattle.std.proofs.lemmas.Map.Keys.{IsDistinct-head, IsDistinct-tail}
use Rattle.std.proofs.Math.Bool.{or-false}
use Rattle.rs_octets.specs.Prefixes.{Prefix, prefix_order}
use Rattle.rs_adjin.specs.declared.adj_ins.AdjIns.{AdjIns}
use Rattle.rs_adjin.specs.AdjIns.{number_of}
use Rattle.rs_adjin.specs.Listing.{Counts}
use Rattle.rs_adjin.proofs.Listed.{prefixes_total}
use Rattle.rs_policy.specs.Configuration.{Configuration}
use Rattle.rs_outlet.specs.declared.answers.Speech.{Speech}
use Rattle.rs_rows.specs.Rows.{Row}
use Rattle.rs_outlet.specs.Views.{HaveNumbers, IsNumberOf}
use Rattle.rs_outlet.specs.Inside.{AreFresh, attributes_at, row_at}
use Rattle.rs_outlet.specs.Decided.Counted.{if_numbered, is_counted, is_left, is_standing}
use Rattle.rs_outlet.specs.Decided.Due.{Held, any_holds, due_to, holders_at}
use Rattle.rs_outlet.specs.Decided.HeldBy.{tables_of}
use Rattle.rs_outlet.specs.Decided.Touching.{is_numbered_in}
use Rattle.rs_outlet.proofs.Decided.Counting.{counted_as, counted_same, shown_some}
use Rattle.rs_outlet.proofs.Decided.LocByNumber.{same, same_is}
use Rattle.rs_outlet.proofs.Decided.Ranks.{due_unheld, none_holds}
use Rattle.rs_outlet.proofs.Decided.Touches.{contains-from_list, len-from_list, prefix_eq-cmp}
use Rattle.rs_outlet.proofs.Decided.TouchedNumbers.{eq_numbers}

-- as many prefixes as a list has
pub as_set : (has : Prefix → Bool) (n : ℕ) → Counts has n → IsNumberOf has n
as_set has n h = record {
  all = set.from_list {R = prefix_order} h.prefixes;
  holds = λ p. contains-from_list p h.prefixes ∙ h.listed.all p;
  size = sym (h.each h.prefixes h.listed) ∙ sym (len-from_list h.prefixes h.listed.once);
}

-- ---- counted one after the other

pub numbered_at : (ins : AdjIns) (es : List (ℕ × Prefix)) (i : ℕ) (e : ℕ × Prefix) → HaveNumbers es ins → i < length es → e ≡ get_or es i e → number_of ins e.1 ≡ Some e.0
numbered_at ins [] i e are below is = absurd (omega (arith, below))
numbered_at ins (x ∷ es) zero e are below is = subst (λ (y : ℕ × Prefix). number_of ins y.1 ≡ Some y.0) (sym is) are.0
numbered_at ins (x ∷ es) (suc i) e are below is = numbered_at ins es i e are.1 (omega (arith, below)) is

pub one_counted : (f : ℕ × Prefix → Bool) (es : List (ℕ × Prefix)) (i : ℕ) (e : ℕ × Prefix) (count more : ℕ) (b : Bool) → i < length es → e ≡ get_or es i e → b ≡ f e → more ≡ cond b 1 0 → count ≡ count_by f (take i es) → count + more ≡ count_by f (take (i + 1) es)
one_counted f es i e count more true below is there one was = let next = count_by_more_yes f es i e below (ap f (sym is) ∙ sym there) in omega (arith, next, one, was)
one_counted f es i e count more false below is there one was = let next = count_by_more_no f es i e below (ap f (sym is) ∙ sym there) in omega (arith, next, one, was)

pub at_most_one : (b : Bool) → cond b 1 0 ≤ 1
at_most_one true = omega arith
at_most_one false = omega arith

-- ---- those that a client holds, and those that are left

or_swap : (a b c : Bool) → (a || (b || c)) ≡ (b || ((a && true) || c))
or_swap true true c = refl
or_swap true false c = refl
or_swap false true c = refl
or_swap false false c = refl

and_false : (a c : Bool) → c ≡ ((a && false) || c)
and_false true c = refl
and_false false c = refl

not_held : (r h : Bool) → (r && not h) ≡ true → h ≡ false
not_held true true l = absurd (true≢false (sym l))
not_held true false l = refl
not_held false h l = absurd (true≢false (sym l))

absorbed : (l b : Bool) → (l || (b && l)) ≡ l
absorbed true b = refl
absorbed false true = refl
absorbed false false = refl

module _ (ins : AdjIns) (rows : List (Option Row)) (held : Prefix → Bool) where
  -- whether p is one of those that are left
  abbrev is_among : List (ℕ × Prefix) → Prefix → Bool
  is_among [] p = false
  is_among (e ∷ es) p = (same p e.1 && is_left rows held e) || is_among es p

  same_number : (p q : Prefix) (n m : ℕ) → number_of ins p ≡ Some n → number_of ins q ≡ Some m → same p q ≡ nat_eq n m
  same_number p q n m at there = prefix_eq-cmp p q ∙ eq_numbers ins p q n m at there

  none_among : (es : List (ℕ × Prefix)) (p : Prefix) (n : ℕ) → number_of ins p ≡ Some n → HaveNumbers es ins → AllByRecursion (λ m. nat_eq n m ≡ false) (keys_of es) → is_among es p ≡ false
  none_among [] p n at are apart = refl
  none_among (e ∷ es) p n at are apart = (λ i. ((same_number p e.1 n e.0 at are.0 ∙ apart.0) i && is_left rows held e) || is_among es p) ∙ none_among es p n at are.1 apart.1

  no_number : (es : List (ℕ × Prefix)) (p : Prefix) → number_of ins p ≡ None → HaveNumbers es ins → is_among es p ≡ false
  no_number [] p none are = refl
  no_number (e ∷ es) p none are =
      elim (same p e.1) as (λ b. same p e.1 ≡ b → ((b && is_left rows held e) || is_among es p) ≡ false) [
        | true ↦ λ t. absurd (let f : None ≡ Some e.0 = sym none ∙ ap (number_of ins) (same_is p e.1 t) ∙ are.0 in (cc))
        | false ↦ λ _. no_number es p none are.1
      ] refl

  -- by its number
  among_at : (es : List (ℕ × Prefix)) (p : Prefix) (n : ℕ) → number_of ins p ≡ Some n → HaveNumbers es ins → is_among es p ≡ (is_numbered_in es n && is_left rows held (n, p))
  among_at [] p n at are = refl
  among_at (e ∷ es) p n at are = by_first (among_at es p n at are.1) (nat_eq n e.0) refl
    where
      by_first : is_among es p ≡ (is_numbered_in es n && is_left rows held (n, p)) → (b : Bool) → nat_eq n e.0 ≡ b → ((same p e.1 && is_left rows held e) || is_among es p) ≡ ((nat_eq n e.0 || is_numbered_in es n) && is_left rows held (n, p))
      by_first rest true t =
          let it : same p e.1 ≡ true = same_number p e.1 n e.0 at are.0 ∙ t in
          let left : is_left rows held e ≡ is_left rows held (n, p) = λ i. is_left rows held (sym (eqb-true n e.0 t) i, sym (same_is p e.1 it) i) in
          (λ i. (it i && left i) || rest i) ∙ absorbed (is_left rows held (n, p)) (is_numbered_in es n) ∙ sym (ap (λ b. (b || is_numbered_in es n) && is_left rows held (n, p)) t)
      by_first rest false t =
          (λ i. ((same_number p e.1 n e.0 at are.0 ∙ t) i && is_left rows held e) || rest i) ∙ sym (ap (λ b. (b || is_numbered_in es n) && is_left rows held (n, p)) t)

  one_left : (e : ℕ × Prefix) (es : List (ℕ × Prefix)) (k : ℕ) → is_left rows held e ≡ true → is_among es e.1 ≡ false → IsNumberOf (λ p. held p || is_among es p) k → IsNumberOf (λ p. held p || ((same p e.1 && is_left rows held e) || is_among es p)) (k + 1)
  one_left e es k left out h = record {
    all = set.insert h.all e.1;
    holds = λ q.
        set.contains-insert prefixes_total h.all e.1 q ∙ ap (λ b. same q e.1 || b) (h.holds q) ∙ or_swap (same q e.1) (held q) (is_among es q)
        ∙ ap (λ b. held q || ((same q e.1 && b) || is_among es q)) (sym left);
    size =
        let there : set.contains h.all e.1 ≡ false = h.holds e.1 ∙ (λ i. not_held (is_some (row_at rows e.0)) (held e.1) left i || out i) in
        ap (λ n. n + 1) h.size ∙ sym (set.len-insert prefixes_total h.all e.1 ∙ ap (λ b. cond b (set.len h.all) (set.len h.all + 1)) there);
  }

  next_left : (e : ℕ × Prefix) (es : List (ℕ × Prefix)) (k : ℕ) → IsNumberOf (λ p. held p || is_among es p) (k + count_by (is_left rows held) es) → is_among es e.1 ≡ false → (b : Bool) → is_left rows held e ≡ b
      → IsNumberOf (λ p. held p || ((same p e.1 && is_left rows held e) || is_among es p)) (k + (cond (is_left rows held e) 1 0 + count_by (is_left rows held) es))
  next_left e es k rest out true t = counted_same (one_left e es _ t out rest) (let one : ◌≡◌ {A = ℕ} (cond (is_left rows held e) 1 0) 1 = ap (λ b. cond b 1 0) t in omega (arith, one))
  next_left e es k rest out false t =
      counted_same (counted_as _ _ _ (λ p. ap (λ b. held p || b) (and_false (same p e.1) (is_among es p) ∙ ap (λ b. (same p e.1 && b) || is_among es p) (sym t))) rest)
      (let none : ◌≡◌ {A = ℕ} (cond (is_left rows held e) 1 0) 0 = ap (λ b. cond b 1 0) t in omega (arith, none))

  -- those that a client holds, and those that are left
  counted_left : (es : List (ℕ × Prefix)) (k : ℕ) → HaveNumbers es ins → IsDistinct nat_eq (keys_of es) → IsNumberOf held k → IsNumberOf (λ p. held p || is_among es p) (k + count_by (is_left rows held) es)
  counted_left [] k are once h = counted_same (counted_as held (λ p. held p || false) k (λ p. sym (or-false (held p))) h) (omega arith)
  counted_left (e ∷ es) k are once h =
      counted_same (next_left e es k (counted_left es k are.1 (IsDistinct-tail nat_eq e.0 (keys_of es) once) h) (none_among es e.1 e.0 are.0 are.1 (IsDistinct-head nat_eq e.0 (keys_of es) once)) (is_left rows held e) refl)
      (let all : count_by (is_left rows held) (e ∷ es) ≡ cond (is_left rows held e) 1 0 + count_by (is_left rows held) es = sum_by-cons (λ f. cond (is_left rows held f) 1 0) e es in omega (arith, all))

-- ---- with what is not stale

nobody : {A : Type 0} (xs : List A) → list_any (λ x. true) xs ≡ false → [] ≡ xs
nobody [] h = refl
nobody (x ∷ xs) h = absurd (true≢false h)

all_stand : (h r b : Bool) → (b ≡ false → h ≡ false → r ≡ false) → (h || (b && (r && not h))) ≡ (r || h)
all_stand true true true fresh = refl
all_stand true true false fresh = refl
all_stand true false b fresh = refl
all_stand false true true fresh = refl
all_stand false true false fresh = absurd (true≢false (fresh refl refl))
all_stand false false true fresh = refl
all_stand false false false fresh = refl

module _ (config : Configuration) (ins : AdjIns) (rows : List (Option Row)) (client : ℕ) (speech : Speech) (es : List (ℕ × Prefix)) (are : HaveNumbers es ins) where
  abbrev t : Held
  t = tables_of config ins

  none_there : (p : Prefix) (n : ℕ) → attributes_at rows n ≡ due_to t client speech p → any_holds t p ≡ false → is_some (row_at rows n) ≡ false
  none_there p n is none = sym (shown_some (row_at rows n)) ∙ ap is_some (is ∙ due_unheld t client speech p (nobody (holders_at t p) none))

  stands : AreFresh ins (due_to t client speech) rows (is_numbered_in es) → (p : Prefix) (o : Option ℕ) → number_of ins p ≡ o → (any_holds t p || is_among ins rows (any_holds t) es p) ≡ if_numbered o (is_standing rows (any_holds t) p)
  stands fresh p None at = λ i. none_holds config ins p at i || no_number ins rows (any_holds t) es p at are i
  stands fresh p (Some n) at =
      ap (λ b. any_holds t p || b) (among_at ins rows (any_holds t) es p n at are)
      ∙ all_stand (any_holds t p) (is_some (row_at rows n)) (is_numbered_in es n) (λ out none. none_there p n (fresh p n at out) none)

  pub all_left : (k left count : ℕ) → IsDistinct nat_eq (keys_of es) → IsNumberOf (any_holds t) k → left ≡ count_by (is_left rows (any_holds t)) es → count ≡ k + left → AreFresh ins (due_to t client speech) rows (is_numbered_in es)
      → IsNumberOf (is_counted ins rows (any_holds t)) count
  all_left k left count once h is sum fresh =
      counted_same (counted_as _ _ _ (λ p. stands fresh p (number_of ins p) refl) (counted_left ins rows (any_holds t) es k are once h)) (sym (sum ∙ ap (λ n. k + n) is))
