use Rattle.std.proofs.Common.{◌≡◌, true, refl, sym, ◌∙◌}
use Rattle.rs_live.proofs.Agreeing.Orders.{at_end_alone, at_end_late}
use Rattle.rs_live.proofs.live_link.LiveLink.is_at_end.Goals as goal

pub returns-else-is_alone : goal.returns-else-is_alone
returns-else-is_alone g c t operations h = at_end_late _ _ _ operations c.in-Some.is (c.is_late.ensures t) h
