use Rattle.std.proofs.Common.{rules}
use Rattle.rs_pages.proofs.server_pages.ServerPages.put_listed.Goals as goal

pub returns : goal.returns
returns g c = record { common = c.args.common.now; bgp = c.in_ok-bgp.bgp.items; whole = search rules }
