-- How many prefixes a whole turn decides.
use Rattle.std.proofs.Common.{◌≡◌, ◌≢◌, ◌<◌, ◌+◌, ℕ, Bool, true, false, cond, ◌&&◌, ◌||◌, nat_lt, Option, None, Some, List, inl, inr, refl, sym, ap, ◌∙◌, arith}
use Rattle.std.specs.Prelude.{is_some}
use mathlib.Core.Bool.{true≢false}
use Rattle.std.specs.FinMap as fin
use Rattle.std.specs.FinSet as set
use Rattle.std.proofs.lemmas.Bool.Decides.{nat_tests}
use Rattle.std.proofs.Math.Bool.{and-false}
use Rattle.std.proofs.lemmas.Bool.{cases_eq}
use Rattle.rs_octets.specs.Prefixes.{Prefix, prefix_order}
use Rattle.rs_adjin.specs.declared.adj_ins.AdjIns.{AdjIns}
use Rattle.rs_adjin.specs.AdjIns.{number_of, prefix_of}
use Rattle.rs_rows.specs.Rows.{Row}
use Rattle.rs_outlet.specs.Views.{IsCount, IsNumberOf, Prefixes, Table, is_whole}
use Rattle.rs_outlet.specs.Inside.{row_at, shown, loc_of}
use Rattle.rs_outlet.specs.Decided.Counted.{if_numbered, is_standing, is_counted, is_counted_below}
use Rattle.rs_outlet.proofs.Decided.LocByNumber.{Numbered, same, same_is, same_itself, by_number}
use Rattle.rs_outlet.proofs.Decided.Numbering.{number_back, number_once, number_there}
use Rattle.rs_adjin.proofs.Listed.{prefixes_total}

pub counted_as : (f g : Prefix → Bool) (n : ℕ) → ((p : Prefix) → f p ≡ g p) → IsNumberOf f n → IsNumberOf g n
counted_as f g n is h = record { all = h.all; holds = λ p. h.holds p ∙ is p; size = h.size }

pub counted_same : {f : Prefix → Bool} {n m : ℕ} → IsNumberOf f n → n ≡ m → IsNumberOf f m
counted_same h e = record { all = h.all; holds = h.holds; size = sym e ∙ h.size }

pub shown_some : (r : Option Row) → is_some (shown r) ≡ is_some r
shown_some None = refl
shown_some (Some r) = refl

not_below : (n k : ℕ) → n ≢ k → nat_lt n k ≡ nat_lt n (k + 1)
not_below n k ne = grind (arith, nat_tests)

module _ (ins : AdjIns) (rows : List (Option Row)) (held : Prefix → Bool) where
  none_below : (p : Prefix) (o : Option ℕ) → false ≡ if_numbered o (λ n. nat_lt n 0 && is_standing rows held p n)
  none_below p None = refl
  none_below p (Some n) = ap (λ b. b && is_standing rows held p n) (let e : false ≡ nat_lt n 0 = grind (arith, nat_tests) in e)

  pub none_counted : IsNumberOf (is_counted_below ins rows held 0) 0
  none_counted = record { all = set.empty; holds = λ p. set.contains-empty prefix_order p ∙ none_below p (number_of ins p); size = sym (set.len-empty prefix_order) }

  -- a prefix of another number is counted as it was
  other_number : (k : ℕ) (p : Prefix) (o : Option ℕ) → (o ≡ Some k → is_standing rows held p k ≡ false) → if_numbered o (λ n. nat_lt n k && is_standing rows held p n) ≡ if_numbered o (λ n. nat_lt n (k + 1) && is_standing rows held p n)
  other_number k p None not = refl
  other_number k p (Some n) not = elim (cases_eq n k) [
    | inl e ↦
        let gone : is_standing rows held p n ≡ false = ap (is_standing rows held p) e ∙ not (ap (λ m. Some m) e) in
        (ap (λ b. nat_lt n k && b) gone ∙ and-false (nat_lt n k)) ∙ sym (ap (λ b. nat_lt n (k + 1) && b) gone ∙ and-false (nat_lt n (k + 1)))
    | inr ne ↦ ap (λ b. b && is_standing rows held p n) (not_below n k ne)
  ]

  skipped : (k count : ℕ) → ((p : Prefix) → number_of ins p ≡ Some k → is_standing rows held p k ≡ false) → IsNumberOf (is_counted_below ins rows held k) count → IsNumberOf (is_counted_below ins rows held (k + 1)) count
  skipped k count not h = counted_as _ _ count (λ p. other_number k p (number_of ins p) (not p)) h

  at_itself : (k : ℕ) (p : Prefix) → number_of ins p ≡ Some k → is_counted_below ins rows held k p ≡ false
  at_itself k p at = ap (λ o. if_numbered o (λ n. nat_lt n k && is_standing rows held p n)) at ∙ ap (λ b. b && is_standing rows held p k) (let e : nat_lt k k ≡ false = grind (arith, nat_tests) in e)

  at_next : (k : ℕ) (p : Prefix) → number_of ins p ≡ Some k → is_standing rows held p k ≡ true → true ≡ is_counted_below ins rows held (k + 1) p
  at_next k p at is =
      sym (ap (λ o. if_numbered o (λ n. nat_lt n (k + 1) && is_standing rows held p n)) at
      ∙ ap (λ b. b && is_standing rows held p k) (let e : nat_lt k (k + 1) ≡ true = grind (arith, nat_tests) in e) ∙ is)

  one_more : (k : ℕ) (p : Prefix) → number_of ins p ≡ Some k → is_standing rows held p k ≡ true → (q : Prefix) (b : Bool) → same q p ≡ b → (b || is_counted_below ins rows held k q) ≡ is_counted_below ins rows held (k + 1) q
  one_more k p at is q true s = at_next k p at is ∙ ap (is_counted_below ins rows held (k + 1)) (sym (same_is q p s))
  one_more k p at is q false s = other_number k q (number_of ins q) (λ there. absurd (true≢false (sym (same_itself p) ∙ ap (λ r. same r p) (number_once ins p q k at there) ∙ s)))

  taken : (k count : ℕ) (p : Prefix) → number_of ins p ≡ Some k → is_standing rows held p k ≡ true → IsNumberOf (is_counted_below ins rows held k) count → IsNumberOf (is_counted_below ins rows held (k + 1)) (count + 1)
  taken k count p at is h = record {
    all = set.insert h.all p;
    holds = λ q. set.contains-insert prefixes_total h.all p q ∙ ap (λ b. same q p || b) (h.holds q) ∙ one_more k p at is q (same q p) refl;
    size = ap (λ n. n + 1) h.size ∙ sym (set.len-insert prefixes_total h.all p ∙ ap (λ b. cond b (set.len h.all) (set.len h.all + 1)) (h.holds p ∙ at_itself k p at));
  }

  -- number k is decided, or there is nothing there
  pub next_counted : (k count more : ℕ) (decided : Bool) → more ≡ cond decided 1 0 → (prefix_of ins k ≡ None → decided ≡ false) → ((p : Prefix) → number_of ins p ≡ Some k → decided ≡ is_standing rows held p k)
      → IsNumberOf (is_counted_below ins rows held k) count → IsNumberOf (is_counted_below ins rows held (k + 1)) (count + more)
  next_counted k count more decided one free standing h = by_prefix (prefix_of ins k) refl decided refl
    where
      same_count : count + more ≡ count + cond decided 1 0
      same_count = ap (λ n. count + n) one

      zero_more : (n : ℕ) → n ≡ n + 0
      zero_more n = omega arith

      no_number : prefix_of ins k ≡ None → (p : Prefix) → number_of ins p ≡ Some k → is_standing rows held p k ≡ false
      no_number none p at = absurd (let f : None ≡ Some p = sym none ∙ number_there ins p k at in (cc))

      by_prefix : (o : Option Prefix) → prefix_of ins k ≡ o → (b : Bool) → decided ≡ b → IsNumberOf (is_counted_below ins rows held (k + 1)) (count + more)
      by_prefix None is true d = absurd (true≢false (sym d ∙ free is))
      by_prefix None is false d = counted_same (skipped k count (no_number is) h) (zero_more count ∙ sym (same_count ∙ ap (λ b. count + cond b 1 0) d))
      by_prefix (Some p) is true d = counted_same (taken k count p (number_back ins p k is) (sym (standing p (number_back ins p k is)) ∙ d) h) (sym (same_count ∙ ap (λ b. count + cond b 1 0) d))
      by_prefix (Some p) is false d = counted_same (skipped k count (λ q at. sym (standing q at) ∙ d) h) (zero_more count ∙ sym (same_count ∙ ap (λ b. count + cond b 1 0) d))

  all_below : (k : ℕ) (p : Prefix) (o : Option ℕ) → ((n : ℕ) → o ≡ Some n → n < k) → if_numbered o (λ n. nat_lt n k && is_standing rows held p n) ≡ if_numbered o (is_standing rows held p)
  all_below k p None below = refl
  all_below k p (Some n) below = ap (λ b. b && is_standing rows held p n) (let l = below n refl in let e : nat_lt n k ≡ true = grind (arith, nat_tests) in e)

  -- below the last number that is all of them
  pub all_counted : (k count : ℕ) → ((p : Prefix) (n : ℕ) → number_of ins p ≡ Some n → n < k) → IsNumberOf (is_counted_below ins rows held k) count → IsNumberOf (is_counted ins rows held) count
  all_counted k count below h = counted_as _ _ count (λ p. all_below k p (number_of ins p) (below p)) h

  standing_at : (are : Numbered rows ins) → (p : Prefix) (o : Option ℕ) → number_of ins p ≡ o → (o ≡ None → held p ≡ false) → if_numbered o (is_standing rows held p) ≡ (fin.contains_key (loc_of rows) p || held p)
  standing_at are p None at none = sym ((λ i. is_some (by_number ins rows are p None at i) || none refl i))
  standing_at are p (Some n) at none = sym (ap (λ b. b || held p) (ap is_some (by_number ins rows are p (Some n) at) ∙ shown_some (row_at rows n)))

  -- by prefix: what stands in the Loc-RIB, or a client holds
  pub counted_by_prefix : (count : ℕ) → Numbered rows ins → ((p : Prefix) → number_of ins p ≡ None → held p ≡ false) → IsNumberOf (is_counted ins rows held) count → IsNumberOf (λ p. fin.contains_key (loc_of rows) p || held p) count
  counted_by_prefix count are none h = counted_as _ _ count (λ p. standing_at are p (number_of ins p) refl (none p)) h

-- of what is touched by itself, or of all
pub count_touched : (held : Prefix → Bool) (loc : Table) (touched : Option Prefixes) (n : ℕ) → (is_whole touched ≡ true → IsNumberOf (λ p. fin.contains_key loc p || held p) n) → ((prefixes : Prefixes) → touched ≡ Some prefixes → n ≡ set.len prefixes) → IsCount held loc touched n
count_touched held loc None n whole each = whole refl
count_touched held loc (Some s) n whole each = each s refl
