-- What comes of a page, when an item was put into a piece.
use Rattle.std.proofs.Common.{◌≡◌, ℕ, ◌+◌, ◌<◌, List, [], ◌∷◌, ◌++◌, length, Option, Some, None, sym, subst, ap, ◌∙◌, append_assoc, append-nil, length-append, arith}
use Rattle.rs_window.specs.declared.page.Page.{Page}
use Rattle.rs_window.specs.declared.page.Next.{Next}
use Rattle.rs_window.specs.declared.page.Next.TheVariants.{More, Last, Cut}
use Rattle.rs_pages.specs.Listings.{Writes, Full, CutOff, Ends, GoesOn, stopped}

-- what comes of the page that is next comes of the whole, behind what was put
abbrev pub Completes : (Page → List ℕ → Option Page → Type 0) → ℕ → Page → ℕ → List ℕ → Page → Type 0
Completes item most page n piece at = (octets : List ℕ) (next : Next) → Writes item most n (length piece) at octets next → Writes item most 0 0 page (piece ++ octets) next

pub begins : (item : Page → List ℕ → Option Page → Type 0) (most : ℕ) (page : Page) (piece : List ℕ) → piece ≡ [] → Completes item most page 0 piece page
begins item most page [] empty octets next w = w
begins item most page (o ∷ os) empty octets next w = absurd (cc)

-- nothing more is put
pub stops : (item : Page → List ℕ → Option Page → Type 0) (most : ℕ) (page at : Page) (n : ℕ) (piece : List ℕ) (next : Next) → Completes item most page n piece at → Writes item most n (length piece) at [] next → Writes item most 0 0 page piece next
stops item most page at n piece next so w = subst (λ o. Writes item most 0 0 page o next) (append-nil piece) (so [] next w)

-- an item has no room
pub fills : (item : Page → List ℕ → Option Page → Type 0) (most : ℕ) (page at : Page) (n : ℕ) (piece new octets text : List ℕ) (behind : Option Page) → Completes item most page n piece at → item at text behind → octets ≡ text → new ≡ piece → 32768 < length piece + length octets → Writes item most 0 0 page new (stopped new at)
fills item most page at n piece new octets text behind so is read same room =
    subst (λ o. Writes item most 0 0 page o (stopped o at)) (sym same)
    (none_fits piece so (subst (λ o. 32768 < length piece + length o) read room))
  where
    none_fits : (p : List ℕ) → Completes item most page n p at → 32768 < length p + length text → Writes item most 0 0 page p (stopped p at)
    none_fits [] so more = stops item most page at n [] Cut so (CutOff n 0 at text behind is (omega arith))
    none_fits (o ∷ os) so more = stops item most page at n (o ∷ os) (More at) so (Full n (length (o ∷ os)) at text behind is (omega arith) more)

-- the last item is put
pub ends : (item : Page → List ℕ → Option Page → Type 0) (most : ℕ) (page at : Page) (n : ℕ) (piece new octets text : List ℕ) (behind : Option Page) → Completes item most page n piece at → item at text behind → behind ≡ None → octets ≡ text → new ≡ piece ++ octets → Writes item most 0 0 page new Last
ends item most page at n piece new octets text behind so is last read whole =
    subst (λ o. Writes item most 0 0 page o Last) (sym (whole ∙ ap (λ o. piece ++ o) read))
    (so text Last (Ends n (length piece) at text (subst (λ x. item at text x) last is)))

-- an item is put, and more come
pub goes_on : (item : Page → List ℕ → Option Page → Type 0) (most : ℕ) (page at behind : Page) (n : ℕ) (piece new octets text : List ℕ) (next : Option Page) → Completes item most page n piece at → item at text next → next ≡ Some behind → octets ≡ text → new ≡ piece ++ octets → Completes item most page (n + 1) new behind
goes_on item most page at behind n piece new octets text next so is more read whole =
    subst (λ o. Completes item most page (n + 1) o behind) (sym (whole ∙ ap (λ o. piece ++ o) read))
    (λ others last w. subst (λ o. Writes item most 0 0 page o last) (sym (append_assoc piece text others))
    (so (text ++ others) last (GoesOn n (length piece) at behind text others last (subst (λ x. item at text x) more is)
    (subst (λ k. Writes item most (n + 1) k behind others last) (length-append piece text) w))))
