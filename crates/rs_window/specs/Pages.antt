-- What comes behind a piece of a page.
use Rattle.std.specs.Prelude.{Bool, true, false, Option, Some, None}
use Rattle.rs_window.specs.declared.page.Page.{Page}
use Rattle.rs_window.specs.declared.page.Next.{Next}
use Rattle.rs_window.specs.declared.page.Next.TheVariants.{More, Last, Cut}

abbrev pub page_behind : Next → Option Page
page_behind (More page) = Some page
page_behind Last = None
page_behind Cut = None

-- the page is whole
abbrev pub is_end : Next → Bool
is_end (More page) = false
is_end Last = true
is_end Cut = false

-- the page can't go on
abbrev pub is_cut : Next → Bool
is_cut (More page) = false
is_cut Last = false
is_cut Cut = true
