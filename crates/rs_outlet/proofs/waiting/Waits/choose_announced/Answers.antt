use Rattle.std.proofs.Common.{◌≡◌, List, Some, subst, take}
use Rattle.rs_attrs.specs.Meaning.{Attribute}
use Rattle.rs_outlet.specs.Pending.Choosing.{AreChosen, passing, shares}
use Rattle.rs_outlet.specs.Pending.Slots.{rising}
use Rattle.rs_outlet.proofs.waiting.Waits.choose_announced.Goals as goal

pub returns-clause-are : goal.returns-clause-are
returns-clause-are c =
    let rows = c.args.rows.now.rows.items in
    let slots = c.args.self.now.slots.items in
    let listed = c.collect_announced-passed in
    subst (λ (said : List Attribute). AreChosen rows slots (Some said) listed.new.chosen.items listed.new.front.items) c.deref.ensures
    listed.ensures.are

pub returns-clause-all : goal.returns-clause-all
returns-clause-all c =
    let listed = c.collect_announced-passed in
    subst (λ (said : List Attribute). listed.new.front.items ≡ take c.args.most (passing (shares c.args.rows.now.rows.items said) (rising c.args.self.now.slots.items))) c.deref.ensures
    listed.ensures.all
