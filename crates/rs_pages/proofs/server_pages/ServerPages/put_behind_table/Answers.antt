use Rattle.std.proofs.Common.{rules}
use Rattle.rs_pages.proofs.Items.{onward, ended}
use Rattle.rs_pages.proofs.server_pages.ServerPages.put_behind_table.Goals as goal

pub returns-then-not-is_last : goal.returns-then-not-is_last
returns-then-not-is_last g c = onward (g.T.Tables.first c.args.self.now.tables.now) (g.T.Tables.configured c.args.self.now.tables.now) c.args.view c.args.listing c.args.page _ _ _ c.if-not-is_last.ensures.last (search rules) c.requires c.next_table.ensures

pub returns : goal.returns
returns g c = ended (g.T.Tables.first c.args.self.now.tables.now) (g.T.Tables.configured c.args.self.now.tables.now) c.args.view c.args.listing c.args.page _ _ c.if-not-is_last.ensures.last (search rules) c.in_ok-put_end.ensures
