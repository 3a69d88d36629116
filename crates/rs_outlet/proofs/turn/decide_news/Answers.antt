use Rattle.std.proofs.Common.{◌≤◌, ◌+◌, ◌∙◌, ◌++◌, nat_lt, map, arith, refl, ap, sym, subst}
use Rattle.std.proofs.lemmas.Bool.Decides.{nat_tests}
use Rattle.std.proofs.lemmas.List.{append-nil}
use Rattle.rs_outlet.specs.Decided.Due.{any_holds, due_to}
use Rattle.rs_outlet.specs.Decided.HeldBy.{held_by}
use Rattle.rs_outlet.specs.Decided.News.{seen}
use Rattle.rs_outlet.specs.Decided.Plans.{changes_in, news_in}
use Rattle.rs_outlet.specs.Inside.{AreDecided}
use Rattle.rs_outlet.proofs.Decided.Counting.{all_counted, none_counted}
use Rattle.rs_outlet.proofs.Decided.Decisions.{all_decided, none_decided}
use Rattle.rs_outlet.proofs.Decided.Precedents.{decided_seen}
use Rattle.rs_outlet.proofs.Pending.Filling.{all_free}
use Rattle.rs_outlet.proofs.turn.decide_news.Goals as goal

pub loop-from-init : goal.loop-from-init
loop-from-init c =
    let s = c.args.sources.now in
    let rows = c.args.rows.now.rows.items in
    record {
      within = omega arith;
      changes = none_decided s.ins.now (due_to (held_by s) s.client c.args.speech) rows (λ m. nat_lt m 0) _ (ap changes_in c.new-pieces.ensures.items) (λ m. grind (arith, nat_tests));
      choices = c.requires.choices;
      memo = c.requires.memo;
      most = omega arith;
      count = none_counted s.ins.now rows (any_holds (held_by s));
    }

pub loop-from-preserved : goal.loop-from-preserved
loop-from-preserved c =
    let s = c.args.sources.now in
    let rows = c.args.rows.now.rows.items in
    let due_at = due_to (held_by s) s.client c.args.speech in
    let inv = c.loop-from.invariant in
    let ps = c.loop-from.pieces.items in
    let from = c.loop-from.from in
    let end = from + c.min.result in
    let empty = ap (λ cs. changes_in ps ++ cs) c.in_ok-changes.ensures.items ∙ append-nil (changes_in ps) in
    let decided =
    c.in_ok-decide_numbers.ensures.changes (changes_in ps)
    (subst (AreDecided s.ins.now due_at rows (λ m. nat_lt m from)) (sym empty) inv.changes) in
    let listed = c.in_ok-list_news.ensures ∙ ap (λ cs. map seen (changes_in ps ++ cs)) c.in_ok-all_news.ensures in
    record {
      within = omega (arith, c.min.ensures, inv.within, c.loop-from-test.true);
      changes = decided_seen s.ins.now due_at rows (λ m. nat_lt m end) _ _ listed decided;
      choices = c.in_ok-decide_numbers.ensures.choices;
      memo = c.in_ok-decide_numbers.ensures.memo;
      most = c.in_ok-decide_numbers.ensures.most;
      count = c.in_ok-decide_numbers.ensures.count;
    }

pub returns-clause-plan : goal.returns-clause-plan
returns-clause-plan c = λ below.
    let s = c.args.sources.now in
    let rows = c.args.rows.now.rows.items in
    let inv = c.loop-from.invariant in
    let full : c.args.numbers ≤ c.loop-from.from = omega (arith, c.loop-from-test.false) in
    record {
      decided =
          all_decided s.ins.now (due_to (held_by s) s.client c.args.speech) rows c.loop-from.from (changes_in c.loop-from.pieces.items) inv.changes
          (λ p m at. let low = below p m at in omega (arith, low, full));
      fitting = (refl, all_free rows (news_in c.loop-from.pieces.items) (let r = c.args.rows.now in r.counted ∙ c.requires.free));
    }

pub returns-clause-count : goal.returns-clause-count
returns-clause-count c = λ below.
    let s = c.args.sources.now in
    let full : c.args.numbers ≤ c.loop-from.from = omega (arith, c.loop-from-test.false) in
    all_counted s.ins.now c.args.rows.now.rows.items (any_holds (held_by s)) c.loop-from.from c.loop-from.count
    (λ p m at. let low = below p m at in omega (arith, low, full)) c.loop-from.invariant.count
