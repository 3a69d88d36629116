use Rattle.std.proofs.Common.{length, refl, sym, subst, arith}
use Rattle.rs_window.specs.declared.page.Next.TheVariants.{More}
use Rattle.rs_page_parts.specs.Views.{most_items}
use Rattle.rs_pages.specs.Listings.{IsItem, Writes, Enough}
use Rattle.rs_pages.proofs.Pieces.{stops, fills, ends, goes_on}
use Rattle.rs_pages.proofs.server_pages.ServerPages.put_items.Goals as goal

pub returns-then-not-put : goal.returns-then-not-put
returns-then-not-put g c =
    subst (λ next. Writes (IsItem (g.T.Tables.first c.args.self.now.tables.now) (g.T.Tables.configured c.args.self.now.tables.now) (g.T.Tables.holders c.args.self.now.tables.now) (g.T.Tables.speaks c.args.self.now.tables.now)) (most_items c.args.page.which) 0 0 c.args.page c.put.new.self next) (sym c.stopped.ensures)
    (fills (IsItem (g.T.Tables.first c.args.self.now.tables.now) (g.T.Tables.configured c.args.self.now.tables.now) (g.T.Tables.holders c.args.self.now.tables.now) (g.T.Tables.speaks c.args.self.now.tables.now)) (most_items c.args.page.which) c.args.page c.loop-count.at c.loop-count.count c.loop-count.piece _ _ c.put_item.new.text.items _ c.loop-count.invariant c.in_ok-next.ensures c.deref.ensures.value (c.if-not-put.ensures.none refl) (c.if-not-put.ensures.room refl))

pub returns-in-None : goal.returns-in-None
returns-in-None g c =
    ends (IsItem (g.T.Tables.first c.args.self.now.tables.now) (g.T.Tables.configured c.args.self.now.tables.now) (g.T.Tables.holders c.args.self.now.tables.now) (g.T.Tables.speaks c.args.self.now.tables.now)) (most_items c.args.page.which) c.args.page c.loop-count.at c.loop-count.count c.loop-count.piece _ _ c.put_item.new.text.items c.in_ok-next.next c.loop-count.invariant c.in_ok-next.ensures c.in-None.is c.deref.ensures.value (c.if-not-put.ensures.whole refl)

pub loop-count-preserved : goal.loop-count-preserved
loop-count-preserved g c =
    goes_on (IsItem (g.T.Tables.first c.args.self.now.tables.now) (g.T.Tables.configured c.args.self.now.tables.now) (g.T.Tables.holders c.args.self.now.tables.now) (g.T.Tables.speaks c.args.self.now.tables.now)) (most_items c.args.page.which) c.args.page c.loop-count.at c.in-Some.behind c.loop-count.count c.loop-count.piece _ _ c.put_item.new.text.items c.in_ok-next.next c.loop-count.invariant c.in_ok-next.ensures c.in-Some.is c.deref.ensures.value (c.if-not-put.ensures.whole refl)

pub returns : goal.returns
returns g c =
    stops (IsItem (g.T.Tables.first c.args.self.now.tables.now) (g.T.Tables.configured c.args.self.now.tables.now) (g.T.Tables.holders c.args.self.now.tables.now) (g.T.Tables.speaks c.args.self.now.tables.now)) (most_items c.args.page.which) c.args.page c.loop-count.at c.loop-count.count c.loop-count.piece (More c.loop-count.at) c.loop-count.invariant (Enough c.loop-count.count (length c.loop-count.piece) c.loop-count.at (omega (arith, c.most_items-count-end.ensures)))
