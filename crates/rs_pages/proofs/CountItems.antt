-- What the next item of a page that counts is.
use Rattle.std.proofs.Common.{◌≡◌, ℕ, Bool, true, false, List, [], Option, Some, None, sym, subst}
use Rattle.std.specs.Prelude.{codes}
use Rattle.rs_octets.specs.Prefixes.{Prefix}
use Rattle.rs_attrs.specs.Meaning.{Attribute}
use Rattle.rs_policy.specs.Configuration.{Configuration}
use Rattle.rs_window.specs.declared.page.Page.{Page}
use Rattle.rs_page_parts.specs.declared.tables.Rib.{Rib}
use Rattle.rs_page_parts.specs.declared.tables.Rib.TheVariants as ribs
use Rattle.rs_page_parts.specs.declared.views.View.{View}
use Rattle.rs_page_parts.specs.Holders.{Holding}
use Rattle.rs_page_parts.specs.Members.{IsGiven, is_client}
use Rattle.rs_pages.specs.Counting.{IsCountItem, IsPreferred, IsTold, Counted, Told, Over, counting, behind_count}

module _ (firsts : Rib → ℕ → ℕ → Option (Prefix × List Attribute) → Type 0) (configured : Configuration → Type 0) (holders : Prefix → List Holding → Type 0) (view : View) (page : Page) (c : ℕ) where
  -- there is no such member
  pub over : (text : List ℕ) (given : Bool) → IsGiven configured (λ s. is_client s c) given → given ≡ false → text ≡ codes "}}\n" → IsCountItem firsts configured holders view page c text None
  over text given is so end = Over (subst (IsGiven configured (λ s. is_client s c)) so is) end

  -- its next route is read and counted
  pub counted : (behind : Page) (text : List ℕ) (given preferred : Bool) (p q : Prefix) (m : List Attribute) → IsGiven configured (λ s. is_client s c) given → given ≡ true → firsts ribs.Received c page.at (Some (p, m)) → IsPreferred configured holders c q preferred → text ≡ []
      → behind ≡ counting page q preferred → p ≡ q → IsCountItem firsts configured holders view page c text (Some behind)
  counted behind text given preferred p q m is so route best empty e a =
      subst (λ x. IsCountItem firsts configured holders view page c text (Some x)) (sym e)
      (Counted q m preferred (subst (IsGiven configured (λ s. is_client s c)) so is) (subst (λ x. firsts ribs.Received c page.at (Some (x, m))) a route) best empty)

  -- none is left, and its counts are put
  pub told : (behind : Option Page) (text : List ℕ) (given : Bool) (preferred : ℕ) → IsGiven configured (λ s. is_client s c) given → given ≡ true → firsts ribs.Received c page.at None → IsTold view preferred text → preferred ≡ page.counted
      → behind ≡ behind_count view page c → IsCountItem firsts configured holders view page c text behind
  told behind text given preferred is so empty said same e =
      subst (IsCountItem firsts configured holders view page c text) (sym e)
      (Told (subst (IsGiven configured (λ s. is_client s c)) so is) empty (subst (λ n. IsTold view n text) same said))
