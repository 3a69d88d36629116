use Rattle.std.proofs.Common.{◌∙◌, ap, map, option_map}
use Rattle.rs_page_parts.specs.Holders.{holding}
use Rattle.rs_pages.specs.Candidates.{next_holder}
use Rattle.rs_pages.proofs.ByPrefix.{one_more}
use Rattle.rs_pages.proofs.server_pages.ServerPages.put_next_holder.Goals as goal

pub returns : goal.returns
returns g c = λ p at. one_more (g.T.Tables.configured c.args.self.now.tables.now) (g.T.Tables.holders c.args.self.now.tables.now) c.args.item.stage c.args.item.page c.prefix_at-prefix.result p c.config.result.now (map holding c.in_ok-holders.holders.items) c.config.ensures c.in_ok-holders.ensures (c.prefix_at-prefix.ensures.exact p at)
    (holding c.in-Some.holder) (option_map holding c.next_holder.result) _ _ (ap (option_map holding) c.in-Some.is)
    (c.next_holder.ensures.value ∙ ap (λ xs. next_holder c.config.result.now (map holding xs) c.args.item.page.member) c.deref.ensures.value) c.in_ok-put_held.ensures (c.behind_member.ensures c.in-Some.ensures.bound)
