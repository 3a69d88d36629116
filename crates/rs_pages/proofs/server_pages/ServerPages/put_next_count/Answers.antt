use Rattle.std.proofs.Common.{rules}
use Rattle.rs_pages.proofs.CountItems.{over, counted, told}
use Rattle.rs_pages.proofs.server_pages.ServerPages.put_next_count.Goals as goal

pub returns-in_default : goal.returns-in_default
returns-in_default g c = over (g.T.Tables.first c.args.self.now.tables.now) (g.T.Tables.configured c.args.self.now.tables.now) (g.T.Tables.holders c.args.self.now.tables.now) c.args.view c.args.page c.args.counted _ _ c.member_at.ensures.given (search rules) (search rules)

pub returns-in_ok-is_preferred-in-Some-first_from :
    goal.returns-in_ok-is_preferred-in-Some-first_from
returns-in_ok-is_preferred-in-Some-first_from g c = counted (g.T.Tables.first c.args.self.now.tables.now) (g.T.Tables.configured c.args.self.now.tables.now) (g.T.Tables.holders c.args.self.now.tables.now) c.args.view c.args.page c.args.counted _ _ _ _ _ _ _ c.member_at.ensures.given (search rules) c.in-Some-first_from.ensures c.in_ok-is_preferred-in-Some-first_from.ensures (search rules) c.counting.ensures (search rules)

pub returns-in_ok-put_told-in-None : goal.returns-in_ok-put_told-in-None
returns-in_ok-put_told-in-None g c = told (g.T.Tables.first c.args.self.now.tables.now) (g.T.Tables.configured c.args.self.now.tables.now) (g.T.Tables.holders c.args.self.now.tables.now) c.args.view c.args.page c.args.counted _ _ _ _ c.member_at.ensures.given (search rules) c.in-None.ensures c.in_ok-put_told-in-None.ensures (search rules) c.behind_count.ensures
