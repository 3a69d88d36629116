use Rattle.std.proofs.Common.{take}
use Rattle.std.proofs.lemmas.Option.{IfSome_then}
use Rattle.rs_decision.specs.Rank.{rank_at}
use Rattle.rs_decision.proofs.Grouped.{TellOfLevel, exits_tell, first_left_is_best, one_is_left, some_from}
use Rattle.rs_decision.proofs.choice.best_in_order.Goals as goal

pub returns-clause-some : goal.returns-clause-some
returns-clause-some c =
    let tell : TellOfLevel c.args.ranks.now (rank_at c.args.ranks.now c.args.first) c.group.new.exits =
    exits_tell c.args.ranks.now (rank_at c.args.ranks.now c.args.first) (take c.gather-count.result c.gather-count.new.exits) c.group.new.exits c.gather-count.ensures.listed c.group.ensures.same in
    some_from c.first_left.result (λ none. one_is_left c.args.ranks.now c.args.first c.group.new.exits c.requires.first tell (c.first_left.ensures.none none))

pub returns-clause-left : goal.returns-clause-left
returns-clause-left c =
    let tell : TellOfLevel c.args.ranks.now (rank_at c.args.ranks.now c.args.first) c.group.new.exits =
    exits_tell c.args.ranks.now (rank_at c.args.ranks.now c.args.first) (take c.gather-count.result c.gather-count.new.exits) c.group.new.exits c.gather-count.ensures.listed c.group.ensures.same in
    IfSome_then c.first_left.result c.first_left.ensures.first (λ i found. first_left_is_best c.args.ranks.now c.args.first i c.group.new.exits c.requires.distinct c.requires.first tell found)
