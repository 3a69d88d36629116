use Rattle.std.proofs.Common.{None, sym, ◌∙◌}
use Rattle.rs_pages.proofs.ByPrefix.{no_item, head_item, item_behind}
use Rattle.rs_pages.proofs.server_pages.ServerPages.put_item.Goals as goal

pub returns-in_default : goal.returns-in_default
returns-in_default g c = no_item (g.T.Tables.first c.args.self.now.tables.now) (g.T.Tables.configured c.args.self.now.tables.now) (g.T.Tables.holders c.args.self.now.tables.now) (g.T.Tables.speaks c.args.self.now.tables.now) c.args.page _ None c.in_default.ensures

pub returns-then-is_head : goal.returns-then-is_head
returns-then-is_head g c = head_item (g.T.Tables.first c.args.self.now.tables.now) (g.T.Tables.configured c.args.self.now.tables.now) (g.T.Tables.holders c.args.self.now.tables.now) (g.T.Tables.speaks c.args.self.now.tables.now) c.args.page _ c.in-Some.view c.in-Some.stage _ c.in-Some.ensures (sym c.is_head.ensures ∙ c.if-is_head.true) c.put_head.ensures

pub returns : goal.returns
returns g c = item_behind (g.T.Tables.first c.args.self.now.tables.now) (g.T.Tables.configured c.args.self.now.tables.now) (g.T.Tables.holders c.args.self.now.tables.now) (g.T.Tables.speaks c.args.self.now.tables.now) c.args.page _ c.in-Some.view c.in-Some.stage _ c.in-Some.ensures (sym c.is_head.ensures ∙ c.if-is_head.false) c.put_behind_head.ensures
