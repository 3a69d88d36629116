-- Which routes of a member's are preferred, and how they are counted.
use Rattle.std.specs.Prelude.{◌≡◌, ◌<◌, length, slice_index_or, ℕ, ◌+◌, ◌==◌, min, Bool, true, false, List, [], ◌++◌, Option, Some, None, option_map, unwrap_or, if◌then◌else◌, codes}
use Rattle.std.specs.List.{filter_map}
use Rattle.rs_octets.specs.Prefixes.{Prefix}
use Rattle.rs_attrs.specs.Meaning.{Attribute}
use Rattle.rs_policy.specs.Configuration.{Configuration}
use Rattle.rs_decision.specs.declared.rank.Rank.{Rank}
use Rattle.rs_decision.specs.Choice.{best_of}
use Rattle.rs_window.specs.declared.page.Page.{Page}
use Rattle.rs_page_parts.specs.declared.views.View.{View}
use Rattle.rs_page_parts.specs.declared.views.View.TheVariants as views
use Rattle.rs_page_parts.specs.declared.views.Stage.TheVariants as stages
use Rattle.rs_page_parts.specs.declared.tables.Rib.{Rib}
use Rattle.rs_page_parts.specs.declared.tables.Rib.TheVariants as ribs
use Rattle.rs_page_parts.specs.Holders.{Holding}
use Rattle.rs_page_parts.specs.Keys.{key_of}
use Rattle.rs_page_parts.specs.Members.{IsGiven, is_client, counts_text}
use Rattle.rs_page_parts.specs.Views.{which_of}
use Rattle.rs_pages.specs.Candidates.{rank_with, rising_from}
use Rattle.rs_pages.specs.Judging.{is_accepted}

-- the rank of a route that its import list passes; each has the preference that its row shows
abbrev pub import_rank : Configuration → Prefix → Holding → Option Rank
import_rank s p h = if is_accepted s h.member p h.attributes then Some (rank_with s h 100) else None

-- each has a place before this one
abbrev pub AreBefore : ℕ → List Rank → Type 0
AreBefore place ranks = (k : ℕ) (d : Rank) → k < length ranks → (slice_index_or ranks k d).place < place

abbrev pub import_ranks : Configuration → Prefix → List Holding → List Rank
import_ranks s p held = rising_from 0 (filter_map (import_rank s p) held)

-- a member's route is the best of those for the prefix that their import lists pass
abbrev pub is_preferred : Configuration → Prefix → List Holding → ℕ → Bool
is_preferred s p held c = unwrap_or (option_map (λ r. r.place == c) (best_of (import_ranks s p held))) false

-- whether a member's route is preferred, by the configuration and who holds the prefix
pub record IsPreferred (configured : Configuration → Type 0) (holders : Prefix → List Holding → Type 0) (c : ℕ) (p : Prefix) (preferred : Bool) : Type 0 where
  pub config : Configuration
  pub is : configured config
  pub held : List Holding
  pub are : holders p held
  pub preferred_is : preferred ≡ is_preferred config p held c

-- the page behind a route, which is counted where it is preferred
abbrev pub counting : Page → Prefix → Bool → Page
counting page p preferred = record page { at = key_of p + 1; counted = if preferred then min (page.counted + 1) 18446744073709551615 else page.counted }

-- the page behind a member's count: with the next member, where it counts each
abbrev pub behind_count : View → Page → ℕ → Option Page
behind_count views.Protocols page c = Some (record page { which = which_of views.Protocols stages.Rest; member = c + 1; at = 0; counted = 0 })
behind_count view page c = None

-- what closes the page behind a member's counts
abbrev pub closing_text : View → List ℕ
closing_text views.Protocol = codes "}}\n"
closing_text view = []

-- the text ends with the counts; of the others nothing is said
pub record IsTold (view : View) (preferred : ℕ) (text : List ℕ) : Type 0 where
  pub before : List ℕ
  pub imported : ℕ
  pub filtered : ℕ
  pub exported : ℕ
  pub whole : text ≡ before ++ counts_text imported filtered exported preferred ++ closing_text view

-- the next item of a page that counts a member's preferred routes, and the page behind it: nothing for the next route, and the counts behind the
-- last; behind the last member the end
pub data IsCountItem (firsts : Rib → ℕ → ℕ → Option (Prefix × List Attribute) → Type 0) (configured : Configuration → Type 0) (holders : Prefix → List Holding → Type 0) (view : View) (page : Page) (c : ℕ) (text : List ℕ) : Option Page → Type 0 where
  Counted : (p : Prefix) (m : List Attribute) (preferred : Bool) → IsGiven configured (λ s. is_client s c) true → firsts ribs.Received c page.at (Some (p, m)) → IsPreferred configured holders c p preferred → text ≡ [] → IsCountItem firsts configured holders view page c text (Some (counting page p preferred))
  Told : IsGiven configured (λ s. is_client s c) true → firsts ribs.Received c page.at None → IsTold view page.counted text → IsCountItem firsts configured holders view page c text (behind_count view page c)
  Over : IsGiven configured (λ s. is_client s c) false → text ≡ codes "}}\n" → IsCountItem firsts configured holders view page c text None
