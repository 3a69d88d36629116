-- The touched prefixes, found by their numbers.
use Rattle.std.proofs.Common.{◌≡◌, ℕ, true, false, ◌||◌, Option, None, Some, IsSome, List, [], ◌∷◌, length, suc, refl, sym, ap, ◌∙◌, nat_eq}
use mathlib.Core.Bool.{true≢false}
use Rattle.std.specs.List.{list_any, IsDistinct, AllByRecursion}
use Rattle.std.specs.List.Sorted.{IsPermutation}
use Rattle.std.specs.Map.{keys_of}
use Rattle.std.specs.FinSet as set
use Rattle.std.specs.Ordering.{is_eq}
use Rattle.std.proofs.lemmas.Cmp.{tied_itself}
use Rattle.std.proofs.lemmas.List.Elements.{All-from_recursion, recursion_from_All}
use Rattle.std.proofs.lemmas.List.Sorted.{All-permutation}
use Rattle.std.proofs.lemmas.Bool.{eq-eqb, eqb-true}
use Rattle.std.proofs.lemmas.Option.{same_Some}
use Rattle.rs_octets.specs.Prefixes.{Prefix, prefix_order}
use Rattle.rs_adjin.specs.declared.adj_ins.AdjIns.{AdjIns}
use Rattle.rs_adjin.specs.AdjIns.{number_of}
use Rattle.rs_adjin.proofs.Counting.{iff}
use Rattle.rs_outlet.specs.declared.answers.Speech.{Speech}
use Rattle.rs_outlet.specs.Views.{View, Prefixes, HaveNumbers, if_up, with_touch, touched_at}
use Rattle.rs_outlet.specs.Decided.Touching.{is_numbered_in, prefixes_in}
use Rattle.rs_adjin.proofs.Listed.{prefixes_total}
use Rattle.rs_outlet.proofs.Decided.Numbering.{number_once}
use Rattle.rs_outlet.proofs.Decided.Touches.{len-from_list, prefix_eq, prefix_eq-cmp, prefix_eq-is}

abbrev Entry : Type 0
Entry = ℕ × Prefix

prefix_itself : (p q : Prefix) → p ≡ q → prefix_eq p q ≡ true
prefix_itself p q h = ap (prefix_eq p) (sym h) ∙ sym (prefix_eq-cmp p p) ∙ ap is_eq (tied_itself prefixes_total p)

pub length-prefixes_in : (es : List Entry) → length (prefixes_in es) ≡ length es
length-prefixes_in [] = refl
length-prefixes_in (e ∷ es) = ap suc (length-prefixes_in es)

module _ (ins : AdjIns) where
  -- two prefixes are equal just where their numbers are
  pub eq_numbers : (p q : Prefix) (n m : ℕ) → number_of ins p ≡ Some n → number_of ins q ≡ Some m → prefix_eq p q ≡ nat_eq n m
  eq_numbers p q n m a b =
      iff (prefix_eq p q) (nat_eq n m)
      (λ h. eq-eqb n m (same_Some n m (sym a ∙ ap (number_of ins) (prefix_eq-is p q h) ∙ b)))
      (λ h. prefix_itself p q (number_once ins p q m (a ∙ ap (λ k. Some k) (eqb-true n m h)) b))

  -- a prefix is among the entries just where its number is
  pub any_number : (es : List Entry) (p : Prefix) (n : ℕ) → HaveNumbers es ins → number_of ins p ≡ Some n → list_any (prefix_eq p) (prefixes_in es) ≡ is_numbered_in es n
  any_number [] p n h is = refl
  any_number (e ∷ es) p n h is = λ i. eq_numbers p e.1 n e.0 is h.0 i || any_number es p n h.1 is i

  pub any_none : (es : List Entry) (p : Prefix) → HaveNumbers es ins → number_of ins p ≡ None → list_any (prefix_eq p) (prefixes_in es) ≡ false
  any_none [] p h is = refl
  any_none (e ∷ es) p h is =
      elim (prefix_eq p e.1) as (λ b. prefix_eq p e.1 ≡ b → (b || list_any (prefix_eq p) (prefixes_in es)) ≡ false) [
        | true ↦ λ t. absurd (let q : p ≡ e.1 = prefix_eq-is p e.1 t in let f : None ≡ Some e.0 = sym is ∙ ap (number_of ins) q ∙ h.0 in (cc))
        | false ↦ λ _. any_none es p h.1 is
      ] refl

  apart : (e : Entry) (es : List Entry) → number_of ins e.1 ≡ Some e.0 → HaveNumbers es ins → AllByRecursion (λ n. nat_eq e.0 n ≡ false) (keys_of es) → AllByRecursion (λ q. prefix_eq e.1 q ≡ false) (prefixes_in es)
  apart e [] is h d = tt
  apart e (f ∷ es) is h d = (eq_numbers e.1 f.1 e.0 f.0 is h.0 ∙ d.0, apart e es is h.1 d.1)

  -- no prefix stands among them twice
  pub distinct_prefixes : (es : List Entry) → HaveNumbers es ins → IsDistinct nat_eq (keys_of es) → IsDistinct prefix_eq (prefixes_in es)
  unfolding IsDistinct
  distinct_prefixes [] h d = tt
  distinct_prefixes (e ∷ es) h d = (apart e es h.0 h.1 d.0, distinct_prefixes es h.1 d.1)

  -- as many prefixes as entries
  pub touched_count : (es : List Entry) → HaveNumbers es ins → IsDistinct nat_eq (keys_of es) → length es ≡ set.len (set.from_list {R = prefix_order} (prefixes_in es))
  touched_count es h d = sym (length-prefixes_in es) ∙ sym (len-from_list (prefixes_in es) (distinct_prefixes es h d))

-- the same entries in another order
pub moved_numbers : (ins : AdjIns) (es fs : List Entry) → IsPermutation es fs → HaveNumbers es ins → HaveNumbers fs ins
moved_numbers ins es fs m h =
    recursion_from_All (λ e. number_of ins e.1 ≡ Some e.0) fs (All-permutation (λ e. number_of ins e.1 ≡ Some e.0) es fs m (All-from_recursion (λ e. number_of ins e.1 ≡ Some e.0) es h))

-- whether a call of an outlet that is up touches
is_up : {A : Type 0} (o : Option Speech) (x y : A) → IsSome o → if_up o x y ≡ x
is_up None x y h = absurd (true≢false (sym h))
is_up (Some speech) x y h = refl

pub touch_up : (v w : View) (p : Prefix) (t : Option Prefixes) → v ≡ w → IsSome v.speech → t ≡ with_touch v.touched p → t ≡ (touched_at p w).touched
touch_up v w p t e up is = is ∙ sym (is_up v.speech (with_touch v.touched p) v.touched up) ∙ ap (λ (x : View). (touched_at p x).touched) e
