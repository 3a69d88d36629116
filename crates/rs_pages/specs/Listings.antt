-- What a page lists of a table of routes.
use Rattle.std.specs.Prelude.{◌≡◌, ℕ, ◌+◌, ◌-◌, ◌≤◌, ◌<◌, ◌⊎◌, nat_le, Bool, true, false, List, [], ◌∷◌, ◌++◌, length, Option, Some, None, codes}
use Rattle.rs_octets.specs.Prefixes.{Prefix}
use Rattle.rs_attrs.specs.Meaning.{Attribute}
use Rattle.rs_policy.specs.Configuration.{Configuration}
use Rattle.rs_outlet.specs.declared.answers.Speech.{Speech}
use Rattle.rs_window.specs.declared.page.Page.{Page}
use Rattle.rs_window.specs.declared.page.Next.{Next}
use Rattle.rs_window.specs.declared.page.Next.TheVariants.{More, Last, Cut}
use Rattle.rs_page_parts.specs.declared.views.View.{View}
use Rattle.rs_page_parts.specs.declared.views.View.TheVariants as views
use Rattle.rs_page_parts.specs.declared.views.Listing.{Listing}
use Rattle.rs_page_parts.specs.declared.views.Listing.TheVariants as listings
use Rattle.rs_page_parts.specs.declared.views.Stage.{Stage}
use Rattle.rs_page_parts.specs.declared.views.Stage.TheVariants as stages
use Rattle.rs_page_parts.specs.declared.tables.Rib.{Rib}
use Rattle.rs_page_parts.specs.Keys.{key_of, IsAt}
use Rattle.rs_page_parts.specs.Holders.{Holding}
use Rattle.rs_page_parts.specs.Members.{IsGiven}
use Rattle.rs_page_parts.specs.Texts.{prefix_text}
use Rattle.rs_page_parts.specs.Views.{is_head, which_of, read_which, listing_of, counted_of, table_of, owner_of}
use Rattle.rs_pages.specs.Candidates.{next_holder, next_candidate}
use Rattle.rs_pages.specs.Why.{candidate_text}
use Rattle.rs_pages.specs.Rows.{row_text, table_row, more_text}
use Rattle.rs_pages.specs.Judging.{is_accepted, is_filtered, is_kept_from}
use Rattle.rs_pages.specs.Counting.{IsCountItem}

-- what stands before an item
abbrev pub comma_text : Stage → List ℕ
comma_text stages.Head = []
comma_text stages.First = []
comma_text stages.Rest = codes ","

-- of a table: the first route from a number on, or that there is none
abbrev pub First : Type 1
First = ℕ → Option (Prefix × List Attribute) → Type 0

-- the route that a page has next: none where none is left to come, or to list
abbrev pub IsNext : First → Page → Option (Prefix × List Attribute) → Type 0
IsNext first page None = (page.left ≡ 0) ⊎ first page.at None
IsNext first page (Some route) = (0 < page.left) × first page.at (Some route)

-- the page behind a route: from right behind its prefix on, and one less
abbrev pub behind_route : View → Page → Prefix → Page
behind_route view page p = record page { which = which_of view stages.Rest; at = key_of p + 1; left = page.left - 1 }

-- the page behind a route that it doesn't list
abbrev pub passing_over : Page → Prefix → Page
passing_over page p = record page { at = key_of p + 1 }

-- the page at the start of the next member's table
abbrev pub next_table : Page → Page
next_table page = record page { member = page.member + 1; at = 0 }

-- whether a page lists a route of the table that it goes through
abbrev pub Lists : (Configuration → Type 0) → Listing → Page → Prefix → List Attribute → Bool → Type 0
Lists configured listings.Received page p m listed = listed ≡ true
Lists configured listings.Sent page p m listed = listed ≡ true
Lists configured listings.Imported page p m listed = IsGiven configured (λ s. is_accepted s page.place p m) listed
Lists configured listings.Filtered page p m listed = IsGiven configured (λ s. is_filtered s page.place p m) listed
Lists configured listings.NoExport page p m listed = IsGiven configured (λ s. is_kept_from s page.member page.place p m) listed

-- whether no other table comes behind it
abbrev pub IsLast : (Configuration → Type 0) → Listing → Page → Bool → Type 0
IsLast configured listings.Received page last = last ≡ true
IsLast configured listings.Sent page last = last ≡ true
IsLast configured listings.Imported page last = last ≡ true
IsLast configured listings.Filtered page last = last ≡ true
IsLast configured listings.NoExport page last = IsGiven configured (λ s. nat_le (length s.clients) (page.member + 1)) last

-- the end of one of our own pages of routes, which says from which prefix on more come
abbrev pub ends_with : Option (Prefix × List Attribute) → List ℕ
ends_with None = codes "],\"next\":null}\n"
ends_with (Some route) = codes "],\"next\":\"" ++ prefix_text route.0 ++ codes "\"}\n"

pub record IsOwnEnd (first : First) (at : ℕ) (text : List ℕ) : Type 0 where
  pub route : Option (Prefix × List Attribute)
  pub first_is : first at route
  pub whole : text ≡ ends_with route

-- the end of one for people, with a link to those that come
abbrev pub table_end : List ℕ → ℕ → Option (Prefix × List Attribute) → List ℕ
table_end target most None = codes "</table>\n</html>\n"
table_end target most (Some route) = codes "</table>\n" ++ more_text target route.0 most ++ codes "</html>\n"

pub record IsTableEnd (first : First) (page : Page) (text : List ℕ) : Type 0 where
  pub route : Option (Prefix × List Attribute)
  pub first_is : first page.at route
  pub target : List ℕ
  pub whole : text ≡ table_end target page.most route

abbrev pub IsEnd : View → First → Page → List ℕ → Type 0
IsEnd views.Routes first page text = text ≡ codes "]}\n"
IsEnd views.Filtered first page text = text ≡ codes "]}\n"
IsEnd views.NoExport first page text = text ≡ codes "]}\n"
IsEnd views.ReceivedTable first page text = IsTableEnd first page text
IsEnd views.SentTable first page text = IsTableEnd first page text
IsEnd view first page text = IsOwnEnd first page.at text

-- the text is the row of a route, behind a comma where it is not the first
pub record IsListed (stage : Stage) (p : Prefix) (m : List Attribute) (text : List ℕ) : Type 0 where
  pub common : List ℕ
  pub bgp : List ℕ
  pub whole : text ≡ comma_text stage ++ row_text common bgp p m

-- the text is the row of a route, for people
pub record IsTableRow (p : Prefix) (m : List Attribute) (text : List ℕ) : Type 0 where
  pub cells : List ℕ
  pub whole : text ≡ table_row cells p m

abbrev pub IsRow : View → Stage → Prefix → List Attribute → List ℕ → Type 0
IsRow views.ReceivedTable stage p m text = IsTableRow p m text
IsRow views.SentTable stage p m text = IsTableRow p m text
IsRow view stage p m text = IsListed stage p m text

-- of a table that a page goes through, the first route from a number on
abbrev pub first_of : (Rib → ℕ → First) → Listing → Page → First
first_of firsts listing page = firsts (table_of listing) (owner_of listing page)

-- what comes where no route is left: the start of the next table, or the end
pub data IsBehindTable (firsts : Rib → ℕ → First) (configured : Configuration → Type 0) (view : View) (listing : Listing) (page : Page) (text : List ℕ) : Option Page → Type 0 where
  Onward : IsLast configured listing page false → text ≡ [] → IsBehindTable firsts configured view listing page text (Some (next_table page))
  End : IsLast configured listing page true → IsEnd view (first_of firsts listing page) page text → IsBehindTable firsts configured view listing page text None

-- the next item of a page that lists routes, and the page behind it: the row of the next route, or nothing where it isn't listed,
-- or what comes behind the table
pub data IsRouteItem (firsts : Rib → ℕ → First) (configured : Configuration → Type 0) (view : View) (listing : Listing) (stage : Stage) (page : Page) (text : List ℕ) : Option Page → Type 0 where
  Row : (p : Prefix) (m : List Attribute) → IsNext (first_of firsts listing page) page (Some (p, m)) → Lists configured listing page p m true → IsRow view stage p m text → IsRouteItem firsts configured view listing stage page text (Some (behind_route view page p))
  PassedOver : (p : Prefix) (m : List Attribute) → IsNext (first_of firsts listing page) page (Some (p, m)) → Lists configured listing page p m false → text ≡ [] → IsRouteItem firsts configured view listing stage page text (Some (passing_over page p))
  Behind : (next : Option Page) → IsNext (first_of firsts listing page) page None → IsBehindTable firsts configured view listing page text next → IsRouteItem firsts configured view listing stage page text next

-- the page behind its head
abbrev pub behind_head : View → Page → Page
behind_head view page = record page { which = which_of view stages.First }

-- behind the head of a page that lists or counts routes, or goes over the holders of a prefix, come its items
pub record IsHead (view : View) (page : Page) (next : Option Page) : Type 0 where
  pub listed : (listing : Listing) → listing_of view ≡ Some listing → next ≡ Some (behind_head view page)
  pub counted : (c : ℕ) → counted_of view page ≡ Some c → next ≡ Some (behind_head view page)
  pub held : view ≡ views.AtPrefix → next ≡ Some (behind_head view page)
  pub why : view ≡ views.Why → next ≡ Some (behind_head view page)

-- the page behind what is shown of a member: from the next on
abbrev pub behind_member : View → Page → ℕ → Page
behind_member view page c = record page { which = which_of view stages.Rest; member = c + 1 }

abbrev pub behind_holder : View → Page → Option Holding → Option Page
behind_holder view page None = None
behind_holder view page (Some h) = Some (behind_member view page h.member)

-- the row of one who holds a prefix, or the end
abbrev pub IsHolderRow : Stage → Prefix → Option Holding → List ℕ → Type 0
IsHolderRow stage p None text = text ≡ codes "]}\n"
IsHolderRow stage p (Some h) text = IsListed stage p h.attributes text

-- the next item of the page of who holds a prefix
pub record IsHolderItem (configured : Configuration → Type 0) (holders : Prefix → List Holding → Type 0) (stage : Stage) (page : Page) (p : Prefix) (text : List ℕ) (next : Option Page) : Type 0 where
  pub config : Configuration
  pub is : configured config
  pub held : List Holding
  pub are : holders p held
  pub row : IsHolderRow stage p (next_holder config held page.member) text
  pub behind : next ≡ behind_holder views.AtPrefix page (next_holder config held page.member)

-- what becomes of one's route on its way to a member, and why; or the end
abbrev pub why_text : Configuration → ℕ → Option Speech → Prefix → List Holding → Stage → Option Holding → List ℕ
why_text s to speech p held stage None = codes "]}\n"
why_text s to speech p held stage (Some h) = comma_text stage ++ candidate_text s to speech p held h

-- the next item of `/why`
pub record IsWhyItem (configured : Configuration → Type 0) (holders : Prefix → List Holding → Type 0) (speaks : ℕ → Option Speech → Type 0) (stage : Stage) (page : Page) (p : Prefix) (text : List ℕ) (next : Option Page) : Type 0 where
  pub config : Configuration
  pub is : configured config
  pub held : List Holding
  pub are : holders p held
  pub speech : Option Speech
  pub spoken : speaks page.place speech
  pub told : text ≡ why_text config page.place speech p held stage (next_candidate config page.place held page.member)
  pub behind : next ≡ behind_holder views.Why page (next_candidate config page.place held page.member)

-- the next item of a page whose head was written
pub record IsBehindHead (firsts : Rib → ℕ → First) (configured : Configuration → Type 0) (holders : Prefix → List Holding → Type 0) (speaks : ℕ → Option Speech → Type 0) (view : View) (stage : Stage) (page : Page) (text : List ℕ) (next : Option Page) : Type 0 where
  pub listed : (listing : Listing) → listing_of view ≡ Some listing → IsRouteItem firsts configured view listing stage page text next
  pub counted : (c : ℕ) → counted_of view page ≡ Some c → IsCountItem firsts configured holders view page c text next
  pub held : view ≡ views.AtPrefix → (p : Prefix) → IsAt page.at p → IsHolderItem configured holders stage page p text next
  pub why : view ≡ views.Why → (p : Prefix) → IsAt page.at p → IsWhyItem configured holders speaks stage page p text next

-- the next item of a page by the tables of a server; of the texts of heads, and of other pages, nothing is said
pub record IsItem (firsts : Rib → ℕ → First) (configured : Configuration → Type 0) (holders : Prefix → List Holding → Type 0) (speaks : ℕ → Option Speech → Type 0) (page : Page) (text : List ℕ) (next : Option Page) : Type 0 where
  pub head : (view : View) → read_which page.which ≡ Some (view, stages.Head) → IsHead view page next
  pub item : (view : View) (stage : Stage) → read_which page.which ≡ Some (view, stage) → is_head stage ≡ false → IsBehindHead firsts configured holders speaks view stage page text next

-- what comes behind a piece of a page in which the next item has no room: where it is empty, the item has room in none
abbrev pub stopped : List ℕ → Page → Next
stopped [] page = Cut
stopped (octet ∷ octets) page = More page

-- what comes of a page in a piece that has so many items and octets already
pub data Writes (item : Page → List ℕ → Option Page → Type 0) (most : ℕ) : ℕ → ℕ → Page → List ℕ → Next → Type 0 where
  -- it has as many items as it may
  Enough : (n k : ℕ) (page : Page) → most ≤ n → Writes item most n k page [] (More page)
  -- the next item has no room behind what the piece has
  Full : (n k : ℕ) (page : Page) (text : List ℕ) (next : Option Page) → item page text next → 0 < k → 32768 < k + length text → Writes item most n k page [] (More page)
  -- the next item has no room in any piece
  CutOff : (n k : ℕ) (page : Page) (text : List ℕ) (next : Option Page) → item page text next → 32768 < length text → Writes item most n k page [] Cut
  -- the last item
  Ends : (n k : ℕ) (page : Page) (text : List ℕ) → item page text None → Writes item most n k page text Last
  -- an item, and what comes of the page behind it
  GoesOn : (n k : ℕ) (page behind : Page) (text texts : List ℕ) (next : Next) → item page text (Some behind) → Writes item most (n + 1) (k + length text) behind texts next → Writes item most n k page (text ++ texts) next
