use Rattle.std.proofs.Common.{◌∙◌, ap, map, option_map, rules}
use Rattle.rs_page_parts.specs.Holders.{holding}
use Rattle.rs_pages.specs.Candidates.{next_candidate}
use Rattle.rs_pages.proofs.ByPrefix.{told}
use Rattle.rs_pages.proofs.server_pages.ServerPages.put_next_candidate.Goals as goal

pub returns : goal.returns
returns g c = λ p at. told (g.T.Tables.configured c.args.self.now.tables.now) (g.T.Tables.holders c.args.self.now.tables.now) c.args.stage c.args.page c.prefix_at.result p c.config-config.result.now (map holding c.in_ok-holders.holders.items) c.config-config.ensures c.in_ok-holders.ensures (c.prefix_at.ensures.exact p at)
    (g.T.Tables.speaks c.args.self.now.tables.now) c.speech.result c.speech.ensures
    (holding c.in-Some.holder) (option_map holding c.next_candidate.result) _ _ (ap (option_map holding) c.in-Some.is)
    (c.next_candidate.ensures.value ∙ ap (λ xs. next_candidate c.config-config.result.now c.args.page.place (map holding xs) c.args.page.member) c.deref.ensures.value) (search rules) (c.behind_member.ensures c.in-Some.ensures.bound)
