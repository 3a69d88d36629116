use Rattle.std.proofs.Common.{◌++◌, length, map, take, sym, subst}
use Rattle.std.specs.Map.{keys_of}
use Rattle.rs_outlet.specs.Decided.Due.{due_to}
use Rattle.rs_outlet.specs.Decided.HeldBy.{held_by}
use Rattle.rs_outlet.specs.Decided.News.{change_of}
use Rattle.rs_outlet.specs.Decided.Precedents.{AreDecidedAt}
use Rattle.rs_outlet.specs.Decided.Plans.{news_within}
use Rattle.rs_outlet.proofs.Answered.{if_some_at}
use Rattle.rs_outlet.proofs.Decided.Precedents.{decided_news, news_here}
use Rattle.rs_outlet.proofs.serving.whole_at.Goals as goal

pub returns-in_ok-copy-clause-decided : goal.returns-in_ok-copy-clause-decided
returns-in_ok-copy-clause-decided c = λ speech known old.
    let s = c.args.sources.now in
    let t = held_by s in
    let rows = c.args.rows.now.rows.items in
    let due = if_some_at _ c.find_whole.result c.in-Some.whole c.in-Some.is (c.find_whole.ensures.due speech known) in
    let ds = news_within c.in-Some.whole.now in
    let new = c.are_first_new.ensures in
    let there = c.if-are_first_new.true in
    subst (λ ns. AreDecidedAt s.ins.now (due_to t s.client speech) rows (keys_of (take (length ns) c.args.touched.now)) old (old ++ map change_of ns)) (sym c.in_ok-copy.ensures)
    (subst (λ ks. AreDecidedAt s.ins.now (due_to t s.client speech) rows ks old (old ++ map change_of ds)) (sym (new.first there))
    (decided_news s.ins.now (due_to t s.client speech) rows ds old
    (news_here t s.ins.now s.client speech rows ds due (new.unheld there) (new.free there))))
