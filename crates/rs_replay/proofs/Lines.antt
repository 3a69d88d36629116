-- Lines that are put one after the other.
use Rattle.std.proofs.Common.{◌≡◌, ◌∙◌, ◌+◌, ◌<◌, ◌≤◌, ◌++◌, ℕ, List, [], ◌∷◌, length, take, get_or, sym, ap, subst, append_assoc}
use Rattle.std.specs.List.{flat_map}
use Rattle.std.proofs.lemmas.Grind.{flat_map-append}
use Rattle.std.proofs.lemmas.List.{append-nil, take_all, take_more}

pub flat_more : {A : Type 0} (f : A → List ℕ) (xs : List A) (x : A) → flat_map f (xs ++ x ∷ []) ≡ flat_map f xs ++ f x
flat_more f xs x = flat_map-append f xs (x ∷ []) ∙ ap (λ (ys : List ℕ). flat_map f xs ++ ys) (append-nil (f x))

-- the lines of one more of a list
pub lines_more : {A : Type 0} (f : A → List ℕ) (xs : List A) (i : ℕ) (x : A) → i < length xs → x ≡ get_or xs i x → flat_map f (take (i + 1) xs) ≡ flat_map f (take i xs) ++ f x
lines_more f xs i x lt is = ap (flat_map f) (take_more xs i x lt) ∙ flat_more f (take i xs) (get_or xs i x) ∙ ap (λ y. flat_map f (take i xs) ++ f y) (sym is)

module _ {W A : Type 0} (puts : W → List ℕ → W → Type 0) (puts_on : (a b c : W) (xs ys : List ℕ) → puts a xs b → puts b ys c → puts a (xs ++ ys) c)
    (f : A → List ℕ) (to : W) (xs : List A) (i : ℕ) where
  pub put_more : (x : A) (before after : W) → i < length xs → x ≡ get_or xs i x → puts to (flat_map f (take i xs)) before → puts before (f x) after
      → puts to (flat_map f (take (i + 1) xs)) after
  put_more x before after lt is put line = subst (λ ys. puts to ys after) (sym (lines_more f xs i x lt is)) (puts_on to before after _ _ put line)

  pub put_all : (last : W) → length xs ≤ i → puts to (flat_map f (take i xs)) last → puts to (flat_map f xs) last
  put_all last all put = subst (λ ys. puts to (flat_map f ys) last) (take_all i xs all) put

-- three pieces that were put at the end of a list, one after the other
pub three_more : (before a b c one two three : List ℕ) → one ≡ before ++ a → two ≡ one ++ b → three ≡ two ++ c → three ≡ before ++ (a ++ b ++ c)
three_more before a b c one two three first second third =
    third ∙ ap (λ xs. xs ++ c) (second ∙ ap (λ xs. xs ++ b) first ∙ append_assoc before a b) ∙ append_assoc before (a ++ b) c
