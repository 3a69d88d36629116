use Rattle.rs_page_parts.specs.Views.{most_items}
use Rattle.rs_pages.specs.Listings.{IsItem}
use Rattle.rs_pages.proofs.Pieces.{Completes}
use Rattle.rs_pages.proofs.server_pages.ServerPages.put_items.Given as goal

-- whatever comes of the page that is next comes of the whole behind what was put
abbrev pub invariant-loop-count : goal.invariant-loop-count
invariant-loop-count g l = Completes (IsItem (g.T.Tables.first l.self.tables.now) (g.T.Tables.configured l.self.tables.now) (g.T.Tables.holders l.self.tables.now) (g.T.Tables.speaks l.self.tables.now)) (most_items l.fn.page.which) l.fn.page l.count l.piece l.at
