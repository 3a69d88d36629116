use Rattle.rs_pages.proofs.ByPrefix.{held_item, why_item, listed_item, other_item}
use Rattle.rs_pages.proofs.server_pages.ServerPages.put_behind_head.Goals as goal

pub returns-in-AtPrefix : goal.returns-in-AtPrefix
returns-in-AtPrefix g c = held_item (g.T.Tables.first c.args.self.now.tables.now) (g.T.Tables.configured c.args.self.now.tables.now) (g.T.Tables.holders c.args.self.now.tables.now) (g.T.Tables.speaks c.args.self.now.tables.now) c.args.page _ c.args.view c.args.stage _ c.in-AtPrefix.is c.put_next_holder.ensures

pub returns-in-Why : goal.returns-in-Why
returns-in-Why g c = why_item (g.T.Tables.first c.args.self.now.tables.now) (g.T.Tables.configured c.args.self.now.tables.now) (g.T.Tables.holders c.args.self.now.tables.now) (g.T.Tables.speaks c.args.self.now.tables.now) c.args.page _ c.args.view c.args.stage _ c.in-Why.is c.put_next_candidate.ensures

pub returns-in-None : goal.returns-in-None
returns-in-None g c = other_item (g.T.Tables.first c.args.self.now.tables.now) (g.T.Tables.configured c.args.self.now.tables.now) (g.T.Tables.holders c.args.self.now.tables.now) (g.T.Tables.speaks c.args.self.now.tables.now) c.args.page _ c.args.view c.args.stage _ c.in-None.ensures c.in_default.not-AtPrefix c.in_default.not-Why c.put_unlisted.ensures

pub returns-in-Some : goal.returns-in-Some
returns-in-Some g c = listed_item (g.T.Tables.first c.args.self.now.tables.now) (g.T.Tables.configured c.args.self.now.tables.now) (g.T.Tables.holders c.args.self.now.tables.now) (g.T.Tables.speaks c.args.self.now.tables.now) c.args.page _ c.args.view c.args.stage c.in-Some.listing _ c.in-Some.ensures c.put_next_route.ensures
