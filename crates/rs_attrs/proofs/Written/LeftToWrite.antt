-- What is left to write, in a loop that writes the octets of a list's items one after the other.
use Rattle.std.proofs.Common.{◌≡◌, ℕ, ◌+◌, ◌≤◌, List, [], ◌∷◌, ◌++◌, length, take, drop, refl, sym, ap, ◌∙◌, subst, arith, length-append, add-zero}
use Rattle.std.specs.List.{flat_map}
use Rattle.std.proofs.lemmas.List.{take-append-drop, append-nil}
use Rattle.rs_octets.specs.Writes.{Writes}
use Rattle.rs_octets.proofs.Writing.{writes-append}

-- the items that are left complete what is to be written of all
pub record LeftToWrite {A : Type 0} (octets : A → List ℕ) (all : List A) (start : ℕ) (old : List ℕ) (items : List A) (at : ℕ) (out : List ℕ) : Type 0 where
  pub fits : at + length (flat_map octets items) ≤ length out
  pub end : at + length (flat_map octets items) ≡ start + length (flat_map octets all)
  pub rest : (new : List ℕ) → Writes at (flat_map octets items) out new → Writes start (flat_map octets all) old new

pub left_all : {A : Type 0} (octets : A → List ℕ) (all : List A) (start : ℕ) (old : List ℕ) → start + length (flat_map octets all) ≤ length old → LeftToWrite octets all start old all start old
left_all octets all start old fits = record { fits = fits; end = omega arith; rest = λ new w. w }

pub left_next : {A : Type 0} (octets : A → List ℕ) (all : List A) (start : ℕ) (old : List ℕ) (item : A) (items : List A) (at end : ℕ) (out new : List ℕ)
    → LeftToWrite octets all start old (item ∷ items) at out → length new ≡ length out → end ≡ at + length (octets item) → Writes at (octets item) out new
    → LeftToWrite octets all start old items end new
left_next octets all start old item items at end out new left same ends written =
    let both = length-append (octets item) (flat_map octets items) in
    let Q : ℕ → Type 0 = λ end. LeftToWrite octets all start old items end new in
    subst Q (sym ends) (record {
      fits = omega (arith, left.fits, both, same);
      end = omega (arith, left.end, both);
      rest = λ after w. left.rest after (writes-append at _ _ out new after (omega (arith, left.fits, both)) written w);
    })

pub nothing_written : (at : ℕ) (out octets : List ℕ) → octets ≡ [] → Writes at octets out out
nothing_written at out octets e =
    let P : List ℕ → Type 0 = λ octets. Writes at octets out out in
    subst P (sym e) (sym (ap (λ xs. xs ++ drop (at + 0) out) (append-nil (take at out)) ∙ ap (λ n. take at out ++ drop n out) (add-zero at) ∙ take-append-drop at out))

pub left_done : {A : Type 0} (octets : A → List ℕ) (all : List A) (start : ℕ) (old : List ℕ) (at : ℕ) (out : List ℕ) → LeftToWrite octets all start old [] at out → Writes start (flat_map octets all) old out
left_done octets all start old at out left = left.rest out (nothing_written at out [] refl)

pub left_from : {A : Type 0} (octets : A → List ℕ) (all : List A) (start : ℕ) (old : List ℕ) (items others : List A) (at : ℕ) (out : List ℕ) → items ≡ others → LeftToWrite octets all start old items at out → LeftToWrite octets all start old others at out
left_from {A} octets all start old items others at out e left =
    let P : List A → Type 0 = λ items. LeftToWrite octets all start old items at out in
    subst P e left

-- what is left has room for the first item
pub left_fits : {A : Type 0} (octets : A → List ℕ) (all : List A) (start : ℕ) (old : List ℕ) (item : A) (items : List A) (at : ℕ) (out : List ℕ) → LeftToWrite octets all start old (item ∷ items) at out → at + length (octets item) ≤ length out
left_fits octets all start old item items at out left = omega (arith, left.fits, length-append (octets item) (flat_map octets items))
