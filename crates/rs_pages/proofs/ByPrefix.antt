-- What the next item of a page is, and of one that goes over the holders of a prefix.
use Rattle.std.proofs.Common.{◌≡◌, ◌∙◌, ◌++◌, sym, ap, subst, ℕ, Bool, true, false, List, Option, Some, None}
use Rattle.std.specs.Prelude.{Result, Ok, Err, IfOk, codes}
use Rattle.rs_octets.specs.Prefixes.{Prefix}
use Rattle.rs_policy.specs.Configuration.{Configuration}
use Rattle.rs_outlet.specs.declared.answers.Speech.{Speech}
use Rattle.rs_window.specs.declared.page.Page.{Page}
use Rattle.rs_page_parts.specs.declared.tables.Rib.{Rib}
use Rattle.rs_page_parts.specs.declared.views.View.{View}
use Rattle.rs_page_parts.specs.declared.views.View.TheVariants as views
use Rattle.rs_page_parts.specs.declared.views.Listing.{Listing}
use Rattle.rs_page_parts.specs.declared.views.Stage.{Stage}
use Rattle.rs_page_parts.specs.declared.views.Stage.TheVariants as stages
use Rattle.rs_page_parts.specs.Holders.{Holding}
use Rattle.rs_page_parts.specs.Keys.{IsAt}
use Rattle.rs_page_parts.specs.Views.{counted_of, is_head, listing_of, read_which}
use Rattle.rs_pages.specs.Candidates.{next_candidate, next_holder, ranks_to, sent_outcome}
use Rattle.rs_pages.specs.Listings.{First, IsBehindHead, IsHead, IsHolderItem, IsHolderRow, IsItem, IsListed, IsRouteItem, IsWhyItem, behind_holder, behind_member, comma_text, why_text}
use Rattle.rs_pages.specs.Counting.{IsCountItem}
use Rattle.rs_pages.specs.Why.{told_text}

module _ (configured : Configuration → Type 0) (holders : Prefix → List Holding → Type 0) (stage : Stage) (page : Page) (q p : Prefix) (s : Configuration) (held : List Holding) (is : configured s) (are : holders q held) (same : q ≡ p) where
  -- one more holds the prefix
  pub one_more : (h : Holding) (o : Option Holding) (text : List ℕ) (behind : Page) → o ≡ Some h → o ≡ next_holder s held page.member → IsListed stage q h.attributes text → behind ≡ behind_member views.AtPrefix page h.member → IsHolderItem configured holders stage page p text (Some behind)
  one_more h o text behind some found row e =
      let n = sym some ∙ found in
      subst (λ x. IsHolderItem configured holders stage page x text (Some behind)) same (record {
        config = s;
        is = is;
        held = held;
        are = are;
        row = subst (λ o. IsHolderRow stage q o text) n row;
        behind = ap Some e ∙ ap (behind_holder views.AtPrefix page) n;
      })

  pub no_more : (o : Option Holding) (text : List ℕ) → o ≡ None → o ≡ next_holder s held page.member → text ≡ codes "]}\n" → IsHolderItem configured holders stage page p text None
  no_more o text none found end =
      let n = sym none ∙ found in
      subst (λ x. IsHolderItem configured holders stage page x text None) same (record {
        config = s;
        is = is;
        held = held;
        are = are;
        row = subst (λ o. IsHolderRow stage q o text) n end;
        behind = ap (behind_holder views.AtPrefix page) n;
      })

  -- what becomes of one's route is told
  pub told : (speaks : ℕ → Option Speech → Type 0) (speech : Option Speech) → speaks page.place speech → (h : Holding) (o : Option Holding) (text : List ℕ) (behind : Page) → o ≡ Some h → o ≡ next_candidate s page.place held page.member
      → text ≡ comma_text stage ++ told_text s page.place q h (sent_outcome s page.place speech q (ranks_to s page.place q held) h) → behind ≡ behind_member views.Why page h.member → IsWhyItem configured holders speaks stage page p text (Some behind)
  told speaks speech spoken h o text behind some found whole e =
      let n = sym some ∙ found in
      subst (λ x. IsWhyItem configured holders speaks stage page x text (Some behind)) same (record {
        config = s;
        is = is;
        held = held;
        are = are;
        speech = speech;
        spoken = spoken;
        told = whole ∙ ap (why_text s page.place speech q held stage) n;
        behind = ap Some e ∙ ap (behind_holder views.Why page) n;
      })

  pub all_told : (speaks : ℕ → Option Speech → Type 0) (speech : Option Speech) → speaks page.place speech → (o : Option Holding) (text : List ℕ) → o ≡ None → o ≡ next_candidate s page.place held page.member → text ≡ codes "]}\n" → IsWhyItem configured holders speaks stage page p text None
  all_told speaks speech spoken o text none found end =
      let n = sym none ∙ found in
      subst (λ x. IsWhyItem configured holders speaks stage page x text None) same (record {
        config = s;
        is = is;
        held = held;
        are = are;
        speech = speech;
        spoken = spoken;
        told = end ∙ ap (why_text s page.place speech q held stage) n;
        behind = ap (behind_holder views.Why page) n;
      })

-- a page that lists routes counts none
listed_alone : (view : View) (page : Page) (listing : Listing) (c : ℕ) → Some listing ≡ listing_of view → counted_of view page ≡ Some c → ⊥
listed_alone views.Protocols page listing c is e = absurd (cc)
listed_alone views.Protocol page listing c is e = absurd (cc)
listed_alone views.Home page listing c is e = absurd (cc)
listed_alone views.Member page listing c is e = absurd (cc)
listed_alone views.Status page listing c is e = absurd (cc)
listed_alone views.Routes page listing c is e = absurd (cc)
listed_alone views.Filtered page listing c is e = absurd (cc)
listed_alone views.NoExport page listing c is e = absurd (cc)
listed_alone views.Count page listing c is e = absurd (cc)
listed_alone views.AtPrefix page listing c is e = absurd (cc)
listed_alone views.Received page listing c is e = absurd (cc)
listed_alone views.Sent page listing c is e = absurd (cc)
listed_alone views.ReceivedTable page listing c is e = absurd (cc)
listed_alone views.SentTable page listing c is e = absurd (cc)
listed_alone views.Search page listing c is e = absurd (cc)
listed_alone views.Why page listing c is e = absurd (cc)
listed_alone views.Metrics page listing c is e = absurd (cc)

module _ (firsts : Rib → ℕ → First) (configured : Configuration → Type 0) (holders : Prefix → List Holding → Type 0) (speaks : ℕ → Option Speech → Type 0) (page : Page) (text : List ℕ) where
  -- a page that there isn't
  pub no_item : (next : Option Page) → None ≡ read_which page.which → IsItem firsts configured holders speaks page text next
  no_item next none = record { head = λ view is. absurd (cc); item = λ view stage is behind. absurd (cc) }

  -- the head of a page
  pub head_item : {E : Type 0} (view : View) (stage : Stage) (result : Result (Option Page) E) → Some (view, stage) ≡ read_which page.which → is_head stage ≡ true → IfOk result (IsHead view page) → IfOk result (IsItem firsts configured holders speaks page text)
  head_item view stage (Err fault) read top so = tt
  head_item view stage (Ok next) read top so = record {
    head = λ v is. let e : ◌≡◌ {A = View × Stage} (view, stage) (v, stages.Head) = same v stages.Head is in subst (λ r. IsHead r.0 page next) e so;
    item = λ v t is below. let e : ◌≡◌ {A = View × Stage} (view, stage) (v, t) = same v t is in absurd (apart (is_head stage) top (ap (λ r. is_head r.1) e ∙ below));
  }
    where
      same : (v : View) (t : Stage) → read_which page.which ≡ Some (v, t) → ◌≡◌ {A = View × Stage} (view, stage) (v, t)
      same v t is = let e : ◌≡◌ {A = Option (View × Stage)} (Some (view, stage)) (Some (v, t)) = read ∙ is in cc

      apart : (b : Bool) → b ≡ true → b ≡ false → ⊥
      apart b e f = cc

  -- what comes behind it
  pub item_behind : {E : Type 0} (view : View) (stage : Stage) (result : Result (Option Page) E) → Some (view, stage) ≡ read_which page.which → is_head stage ≡ false → IfOk result (IsBehindHead firsts configured holders speaks view stage page text) → IfOk result (IsItem firsts configured holders speaks page text)
  item_behind view stage (Err fault) read below so = tt
  item_behind view stage (Ok next) read below so = record {
    head = λ v is. let e : ◌≡◌ {A = View × Stage} (view, stage) (v, stages.Head) = same v stages.Head is in absurd (apart (is_head stage) (ap (λ r. is_head r.1) e) below);
    item = λ v t is low. let e : ◌≡◌ {A = View × Stage} (view, stage) (v, t) = same v t is in subst (λ r. IsBehindHead firsts configured holders speaks r.0 r.1 page text next) e so;
  }
    where
      same : (v : View) (t : Stage) → read_which page.which ≡ Some (v, t) → ◌≡◌ {A = View × Stage} (view, stage) (v, t)
      same v t is = let e : ◌≡◌ {A = Option (View × Stage)} (Some (view, stage)) (Some (v, t)) = read ∙ is in cc

      apart : (b : Bool) → b ≡ true → b ≡ false → ⊥
      apart b e f = cc

  -- of the holders of a prefix
  pub held_item : {E : Type 0} (view : View) (stage : Stage) (result : Result (Option Page) E) → view ≡ views.AtPrefix → IfOk result (λ next. (p : Prefix) → IsAt page.at p → IsHolderItem configured holders stage page p text next) → IfOk result (IsBehindHead firsts configured holders speaks view stage page text)
  held_item view stage (Err fault) is so = tt
  held_item view stage (Ok next) is so = subst (λ v. IsBehindHead firsts configured holders speaks v stage page text next) (sym is) (record { listed = λ listing e. absurd (cc); counted = λ c e. absurd (cc); held = λ e. so; why = λ e. absurd (cc) })

  -- of `/why`
  pub why_item : {E : Type 0} (view : View) (stage : Stage) (result : Result (Option Page) E) → view ≡ views.Why → IfOk result (λ next. (p : Prefix) → IsAt page.at p → IsWhyItem configured holders speaks stage page p text next) → IfOk result (IsBehindHead firsts configured holders speaks view stage page text)
  why_item view stage (Err fault) is so = tt
  why_item view stage (Ok next) is so = subst (λ v. IsBehindHead firsts configured holders speaks v stage page text next) (sym is) (record { listed = λ listing e. absurd (cc); counted = λ c e. absurd (cc); held = λ e. absurd (cc); why = λ e. so })

  -- of a list of routes
  pub listed_item : {E : Type 0} (view : View) (stage : Stage) (listing : Listing) (result : Result (Option Page) E) → Some listing ≡ listing_of view → IfOk result (IsRouteItem firsts configured view listing stage page text) → IfOk result (IsBehindHead firsts configured holders speaks view stage page text)
  listed_item view stage listing (Err fault) is so = tt
  listed_item view stage listing (Ok next) is so = record {
    listed = λ other e. let f : Some listing ≡ Some other = is ∙ e in let g : listing ≡ other = cc in subst (λ l. IsRouteItem firsts configured view l stage page text next) g so;
    counted = λ c e. absurd (listed_alone view page listing c is e);
    held = λ e. let f : Some listing ≡ listing_of views.AtPrefix = is ∙ ap listing_of e in absurd (cc);
    why = λ e. let f : Some listing ≡ listing_of views.Why = is ∙ ap listing_of e in absurd (cc);
  }

  -- of another page
  pub other_item : {E : Type 0} (view : View) (stage : Stage) (result : Result (Option Page) E) → None ≡ listing_of view → (view ≡ views.AtPrefix → ⊥) → (view ≡ views.Why → ⊥)
      → IfOk result (λ next. (c : ℕ) → counted_of view page ≡ Some c → IsCountItem firsts configured holders view page c text next) → IfOk result (IsBehindHead firsts configured holders speaks view stage page text)
  other_item view stage (Err fault) none apart other so = tt
  other_item view stage (Ok next) none apart other so = record { listed = λ listing e. let f : None ≡ Some listing = none ∙ e in absurd (cc); counted = so; held = λ e. absurd (apart e); why = λ e. absurd (other e) }
