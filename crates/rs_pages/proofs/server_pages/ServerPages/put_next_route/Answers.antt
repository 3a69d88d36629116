use Rattle.std.proofs.Common.{rules}
use Rattle.rs_pages.proofs.Items.{behind_items, passed_item, row_item}
use Rattle.rs_pages.proofs.server_pages.ServerPages.put_next_route.Goals as goal

pub returns-in_default : goal.returns-in_default
returns-in_default g c = behind_items (g.T.Tables.first c.args.self.now.tables.now) (g.T.Tables.configured c.args.self.now.tables.now) c.args.item.view c.args.listing c.args.item.page c.args.item.stage _ _ c.in_default.ensures c.put_behind_table.ensures

pub returns-then-not-lists : goal.returns-then-not-lists
returns-then-not-lists g c = passed_item (g.T.Tables.first c.args.self.now.tables.now) (g.T.Tables.configured c.args.self.now.tables.now) c.args.item.view c.args.listing c.args.item.page _ _ _ _ _ _ _ _ c.in-Some.ensures c.lists.ensures (search rules) (search rules) c.passing_over.ensures (search rules) (search rules)

pub returns : goal.returns
returns g c = row_item (g.T.Tables.first c.args.self.now.tables.now) (g.T.Tables.configured c.args.self.now.tables.now) c.args.item.view c.args.listing c.args.item.page _ _ _ _ _ _ _ _ _ c.in-Some.ensures c.lists.ensures (search rules) c.in_ok-put_route.ensures c.behind_route.ensures (search rules) (search rules) (search rules)
