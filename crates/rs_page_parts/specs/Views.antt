-- Which page it is, and how far: what `which` of a page says.
use Rattle.std.specs.Prelude.{ℕ, Bool, true, false, ◌+◌, ◌*◌, ◌/◌, ◌%◌, ◌==◌, Option, Some, None, option_map, if◌then◌else◌}
use Rattle.rs_window.specs.declared.page.Page.{Page}
use Rattle.rs_page_parts.specs.declared.views.View.{View}
use Rattle.rs_page_parts.specs.declared.views.View.TheVariants as views
use Rattle.rs_page_parts.specs.declared.views.Listing.{Listing}
use Rattle.rs_page_parts.specs.declared.views.Listing.TheVariants as listings
use Rattle.rs_page_parts.specs.declared.views.Stage.{Stage}
use Rattle.rs_page_parts.specs.declared.views.Stage.TheVariants as stages
use Rattle.rs_page_parts.specs.declared.tables.Rib.{Rib}
use Rattle.rs_page_parts.specs.declared.tables.Rib.TheVariants as ribs

abbrev pub view_number : View → ℕ
view_number views.Home = 0
view_number views.Member = 1
view_number views.Status = 2
view_number views.Protocols = 3
view_number views.Routes = 4
view_number views.Filtered = 5
view_number views.NoExport = 6
view_number views.Count = 7
view_number views.AtPrefix = 8
view_number views.Received = 9
view_number views.Sent = 10
view_number views.Why = 11
view_number views.Metrics = 12
view_number views.Protocol = 13
view_number views.ReceivedTable = 14
view_number views.SentTable = 15
view_number views.Search = 16

abbrev pub stage_number : Stage → ℕ
stage_number stages.Head = 0
stage_number stages.First = 1
stage_number stages.Rest = 2

-- nothing of it was written
abbrev pub is_head : Stage → Bool
is_head stages.Head = true
is_head stages.First = false
is_head stages.Rest = false

-- the number of a page at a stage
abbrev pub which_of : View → Stage → ℕ
which_of view stage = view_number view * 3 + stage_number stage

-- the page and the stage with this number
abbrev pub view_at : ℕ → Option View
view_at number =
    if number == 0 then Some views.Home
    else (if number == 1 then Some views.Member
    else (if number == 2 then Some views.Status
    else (if number == 3 then Some views.Protocols
    else (if number == 4 then Some views.Routes
    else (if number == 5 then Some views.Filtered
    else (if number == 6 then Some views.NoExport
    else (if number == 7 then Some views.Count
    else (if number == 8 then Some views.AtPrefix
    else (if number == 9 then Some views.Received
    else (if number == 10 then Some views.Sent
    else (if number == 11 then Some views.Why
    else (if number == 12 then Some views.Metrics
    else (if number == 13 then Some views.Protocol
    else (if number == 14 then Some views.ReceivedTable
    else (if number == 15 then Some views.SentTable
    else (if number == 16 then Some views.Search
    else None))))))))))))))))

abbrev pub stage_at : ℕ → Stage
stage_at number = if number == 0 then stages.Head else (if number == 1 then stages.First else stages.Rest)

abbrev pub read_which : ℕ → Option (View × Stage)
read_which which = option_map (λ view. (view, stage_at (which % 3))) (view_at (which / 3))

-- the routes that a page lists
abbrev pub listing_of : View → Option Listing
listing_of views.Routes = Some listings.Imported
listing_of views.Received = Some listings.Received
listing_of views.Sent = Some listings.Sent
listing_of views.ReceivedTable = Some listings.Received
listing_of views.SentTable = Some listings.Sent
listing_of views.Filtered = Some listings.Filtered
listing_of views.NoExport = Some listings.NoExport
listing_of views.Home = None
listing_of views.Member = None
listing_of views.Status = None
listing_of views.Protocols = None
listing_of views.Protocol = None
listing_of views.Count = None
listing_of views.AtPrefix = None
listing_of views.Why = None
listing_of views.Metrics = None
listing_of views.Search = None

-- the table that is gone through for them
abbrev pub table_of : Listing → Rib
table_of listings.Received = ribs.Received
table_of listings.Sent = ribs.Sent
table_of listings.Imported = ribs.Received
table_of listings.Filtered = ribs.Received
table_of listings.NoExport = ribs.Received

-- the member whose table it is: the page's own, or each in turn
abbrev pub owner_of : Listing → Page → ℕ
owner_of listings.Received page = page.place
owner_of listings.Sent page = page.place
owner_of listings.Imported page = page.place
owner_of listings.Filtered page = page.place
owner_of listings.NoExport page = page.member

-- the member whose preferred routes a page counts: each in turn, or the page's own
abbrev pub counted_of : View → Page → Option ℕ
counted_of views.Protocols page = Some page.member
counted_of views.Protocol page = Some page.place
counted_of views.Count page = None
counted_of views.Home page = None
counted_of views.Member page = None
counted_of views.Status page = None
counted_of views.Routes page = None
counted_of views.Filtered page = None
counted_of views.NoExport page = None
counted_of views.AtPrefix page = None
counted_of views.Received page = None
counted_of views.Sent page = None
counted_of views.ReceivedTable page = None
counted_of views.SentTable page = None
counted_of views.Search page = None
counted_of views.Why page = None
counted_of views.Metrics page = None

-- as many items a piece has at most
abbrev pub most_of : View → ℕ
most_of views.Home = 32
most_of views.Member = 32
most_of views.Status = 32
most_of views.Protocols = 16
most_of views.Protocol = 16
most_of views.Routes = 32
most_of views.Filtered = 32
most_of views.NoExport = 32
most_of views.Count = 32
most_of views.AtPrefix = 32
most_of views.Received = 32
most_of views.Sent = 32
most_of views.ReceivedTable = 32
most_of views.SentTable = 32
most_of views.Search = 32
most_of views.Why = 16
most_of views.Metrics = 32

abbrev pub most_at : Option (View × Stage) → ℕ
most_at None = 1
most_at (Some (view, stage)) = most_of view

abbrev pub most_items : ℕ → ℕ
most_items which = most_at (read_which which)
