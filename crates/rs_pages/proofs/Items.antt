-- What the next item of a page that lists routes is.
use Rattle.std.proofs.Common.{◌≡◌, ℕ, Bool, true, false, List, [], Option, Some, None, sym, subst}
use Rattle.std.specs.Prelude.{Result, Ok, Err, IfOk}
use Rattle.rs_octets.specs.Prefixes.{Prefix}
use Rattle.rs_attrs.specs.Meaning.{Attribute}
use Rattle.rs_policy.specs.Configuration.{Configuration}
use Rattle.rs_window.specs.declared.page.Page.{Page}
use Rattle.rs_page_parts.specs.declared.tables.Rib.{Rib}
use Rattle.rs_page_parts.specs.declared.views.View.{View}
use Rattle.rs_page_parts.specs.declared.views.Listing.{Listing}
use Rattle.rs_page_parts.specs.declared.views.Stage.{Stage}
use Rattle.rs_pages.specs.Listings.{First, IsRow, IsNext, IsRouteItem, IsBehindTable, IsEnd, IsLast, Lists, Row, PassedOver, Behind, Onward, End, behind_route, passing_over, next_table, first_of}

module _ (firsts : Rib → ℕ → First) (configured : Configuration → Type 0) (view : View) (listing : Listing) (page : Page) where
  -- the row of a route, which was read and put as the same
  pub row_item : (stage : Stage) (behind : Page) (text : List ℕ) (listed : Bool) (p q : Prefix) (m n o : List Attribute) → IsNext (first_of firsts listing page) page (Some (p, m)) → Lists configured listing page q n listed → listed ≡ true → IsRow view stage q o text
      → behind ≡ behind_route view page q → p ≡ q → n ≡ m → o ≡ m → IsRouteItem firsts configured view listing stage page text (Some behind)
  row_item stage behind text listed p q m n o is lists so row e a b d =
      subst (λ x. IsRouteItem firsts configured view listing stage page text (Some x)) (sym e)
      (Row q m (subst (λ x. IsNext (first_of firsts listing page) page (Some (x, m))) a is)
      (subst (λ x. Lists configured listing page q x true) b (subst (Lists configured listing page q n) so lists))
      (subst (λ x. IsRow view stage q x text) d row))

  -- a route that isn't listed
  pub passed_item : (stage : Stage) (behind : Page) (text : List ℕ) (listed : Bool) (p q : Prefix) (m n : List Attribute) → IsNext (first_of firsts listing page) page (Some (p, m)) → Lists configured listing page q n listed → listed ≡ false → text ≡ []
      → behind ≡ passing_over page q → p ≡ q → m ≡ n → IsRouteItem firsts configured view listing stage page text (Some behind)
  passed_item stage behind text listed p q m n is lists so empty e a b =
      subst (λ x. IsRouteItem firsts configured view listing stage page text (Some x)) (sym e)
      (PassedOver q n (subst (λ x. IsNext (first_of firsts listing page) page (Some (x, n))) a (subst (λ x. IsNext (first_of firsts listing page) page (Some (p, x))) b is))
      (subst (Lists configured listing page q n) so lists) empty)

  -- the start of the next table
  pub onward : (behind : Page) (text : List ℕ) (last : Bool) → IsLast configured listing page last → last ≡ false → text ≡ [] → behind ≡ next_table page → IsBehindTable firsts configured view listing page text (Some behind)
  onward behind text last is so empty e =
      subst (λ x. IsBehindTable firsts configured view listing page text (Some x)) (sym e) (Onward (subst (IsLast configured listing page) so is) empty)

  pub ended : (text : List ℕ) (last : Bool) → IsLast configured listing page last → last ≡ true → IsEnd view (first_of firsts listing page) page text → IsBehindTable firsts configured view listing page text None
  ended text last is so end = End (subst (IsLast configured listing page) so is) end

  -- what comes behind a table, where no route of it is left
  pub behind_items : {E : Type 0} (stage : Stage) (text : List ℕ) (result : Result (Option Page) E) → IsNext (first_of firsts listing page) page None → IfOk result (IsBehindTable firsts configured view listing page text)
      → IfOk result (λ next. IsRouteItem firsts configured view listing stage page text next)
  behind_items stage text (Ok next) is behind = Behind next is behind
  behind_items stage text (Err fault) is behind = tt
