use Rattle.std.proofs.Common.{◌≡◌, ◌<◌, ◌≤◌, List, Some, length, take, inl, inr, arith, subst, sym}
use Rattle.std.specs.Arc.{arc_value}
use Rattle.std.specs.List.{HoldsAt}
use Rattle.std.proofs.lemmas.Bool.Decides.{nat_tests}
use Rattle.rs_octets.specs.Prefixes.{Prefix}
use Rattle.rs_packer.specs.Packed.{announcement}
use Rattle.rs_outlet.specs.declared.waiting.Wait.{Wait}
use Rattle.rs_outlet.specs.Pending.Slots.{rising}
use Rattle.rs_outlet.specs.Pending.Choosing.{AreChosen, WaitsFor, passing, shares}
use Rattle.rs_outlet.proofs.Message.Chosen.{first_fits}
use Rattle.rs_outlet.proofs.Message.Rising.{some_announced}
use Rattle.rs_outlet.proofs.Message.Updates.{announces, packed_of}
use Rattle.rs_open.specs.Notes.{limit_octets}
use Rattle.rs_outlet.proofs.sending.put_news.Goals as goal

pub returns-then-packed-usual-clause-update : goal.returns-then-packed-usual-clause-update
returns-then-packed-usual-clause-update c =
    let m = (arc_value c.args.attrs.now) in
    let listed = c.choose_announced in
    let packed = c.put_announcement-packed in
    announces c.args.speech c.args.rows.now.rows.items c.args.waits.now.slots.items c.args.waits.now.apart c.usual_prefixes-usual.result listed.new.batch.chosen.items listed.new.batch.front.items packed.new.out.items packed.result
    (inl (grind (arith, nat_tests, c.if-packed-usual.true))) m c.are_legal.ensures c.requires.in_turn c.requires.some listed.ensures.are listed.ensures.all
    (packed_of (announcement m c.args.speech.mode) (limit_octets c.args.speech.limit) c.deref.result.now listed.new.batch.front.items packed.new.out.items packed.result c.deref.ensures.value packed.ensures.some packed.ensures.within packed.ensures.longest packed.ensures.octets)

pub put_announcement-packed-requires-clause-some : goal.put_announcement-packed-requires-clause-some
put_announcement-packed-requires-clause-some c =
    let some = some_announced c.args.waits.now.slots.items c.args.waits.now.apart c.usual_prefixes-usual.result c.choose_announced.new.batch.front.items c.args.rows.now.rows.items (arc_value c.args.attrs.now) c.requires.some c.choose_announced.ensures.all c.usual_prefixes-usual.ensures.some in
    subst (λ (qs : List Prefix). 0 < length qs) (sym c.deref.ensures.value) some

pub put_announcement-packed-requires-clause-fits : goal.put_announcement-packed-requires-clause-fits
put_announcement-packed-requires-clause-fits c =
    let listed = c.choose_announced in
    let some = some_announced c.args.waits.now.slots.items c.args.waits.now.apart c.usual_prefixes-usual.result listed.new.batch.front.items c.args.rows.now.rows.items (arc_value c.args.attrs.now) c.requires.some listed.ensures.all c.usual_prefixes-usual.ensures.some in
    subst (λ (qs : List Prefix). length (announcement (arc_value c.args.attrs.now) c.args.speech.mode (take 1 qs)) ≤ limit_octets c.args.speech.limit) (sym c.deref.ensures.value)
    (first_fits c.args.speech c.args.rows.now.rows.items c.args.waits.now.slots.items (arc_value c.args.attrs.now) listed.new.batch.chosen.items listed.new.batch.front.items c.requires.fit listed.ensures.are some)

pub choose_announced-requires-2-clause-known : goal.choose_announced-requires-2-clause-known
choose_announced-requires-2-clause-known c =
    subst (λ (ws : List Wait). HoldsAt (WaitsFor c.args.rows.now.rows.items (arc_value c.args.attrs.now)) ws c.args.known) (sym c.choose_announced.ensures.slots) c.requires.known

pub put_announcement-requires-clause-fits : goal.put_announcement-requires-clause-fits
put_announcement-requires-clause-fits c =
    let rows = c.args.rows.now.rows.items in
    let m = (arc_value c.args.attrs.now) in
    let listed = c.choose_announced-2 in
    let ps = listed.new.batch.front.items in
    let same = c.choose_announced.ensures.slots in
    let are : AreChosen rows c.args.waits.now.slots.items (Some m) listed.new.batch.chosen.items ps = subst (λ (ws : List Wait). AreChosen rows ws (Some m) listed.new.batch.chosen.items ps) same listed.ensures.are in
    let all : ps ≡ take c.most_prefixes-most.result (passing (shares rows m) (rising c.args.waits.now.slots.items)) = subst (λ (ws : List Wait). ps ≡ take c.most_prefixes-most.result (passing (shares rows m) (rising ws))) same listed.ensures.all in
    let some = some_announced c.args.waits.now.slots.items c.args.waits.now.apart c.most_prefixes-most.result ps rows m c.requires.some all c.most_prefixes-most.ensures.some in
    subst (λ (qs : List Prefix). length (announcement m c.args.speech.mode (take 1 qs)) ≤ limit_octets c.args.speech.limit) (sym c.deref-2.ensures.value)
    (first_fits c.args.speech rows c.args.waits.now.slots.items m listed.new.batch.chosen.items ps c.requires.fit are some)

pub returns-clause-update : goal.returns-clause-update
returns-clause-update c =
    let rows = c.args.rows.now.rows.items in
    let m = (arc_value c.args.attrs.now) in
    let listed = c.choose_announced-2 in
    let ps = listed.new.batch.front.items in
    let same = c.choose_announced.ensures.slots in
    let packed = c.put_announcement in
    let are : AreChosen rows c.args.waits.now.slots.items (Some m) listed.new.batch.chosen.items ps = subst (λ (ws : List Wait). AreChosen rows ws (Some m) listed.new.batch.chosen.items ps) same listed.ensures.are in
    let all : ps ≡ take c.most_prefixes-most.result (passing (shares rows m) (rising c.args.waits.now.slots.items)) = subst (λ (ws : List Wait). ps ≡ take c.most_prefixes-most.result (passing (shares rows m) (rising ws))) same listed.ensures.all in
    announces c.args.speech rows c.args.waits.now.slots.items c.args.waits.now.apart c.most_prefixes-most.result listed.new.batch.chosen.items ps packed.new.out.items packed.result
    (inr (omega (arith, c.most_prefixes-most.ensures.value))) m c.are_legal.ensures c.requires.in_turn c.requires.some are all
    (packed_of (announcement m c.args.speech.mode) (limit_octets c.args.speech.limit) c.deref-2.result.now ps packed.new.out.items packed.result c.deref-2.ensures.value packed.ensures.some packed.ensures.within packed.ensures.longest packed.ensures.octets)
