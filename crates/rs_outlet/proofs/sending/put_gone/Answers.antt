use Rattle.std.proofs.Common.{◌<◌, arith, length, inl, inr, subst, sym}
use Rattle.std.proofs.lemmas.Bool.Decides.{nat_tests}
use Rattle.rs_open.specs.Notes.{limit_octets}
use Rattle.rs_packer.specs.Packed.{withdrawal}
use Rattle.rs_outlet.proofs.Message.Rising.{some_withdrawn}
use Rattle.rs_outlet.proofs.Message.Updates.{packed_of, withdraws}
use Rattle.rs_outlet.proofs.sending.put_gone.Goals as goal

pub returns-then-is_empty-clause-update : goal.returns-then-is_empty-clause-update
returns-then-is_empty-clause-update c = λ rows.
    let front = c.choose_withdrawn.new.batch.front in
    let some : 0 < length front.items = some_withdrawn c.args.waits.now.slots.items c.args.waits.now.apart c.usual_prefixes-usual.result front.items c.usual_prefixes-usual.ensures.some c.requires.some c.choose_withdrawn.ensures.all in
    absurd (grind (arith, nat_tests, some, c.is_empty.ensures, c.if-is_empty.true, front.ok))

pub returns-then-packed-usual-clause-update : goal.returns-then-packed-usual-clause-update
returns-then-packed-usual-clause-update c = λ rows.
    let listed = c.choose_withdrawn in
    let packed = c.put_withdrawal-packed in
    withdraws c.args.speech rows c.args.waits.now.slots.items c.args.waits.now.apart c.usual_prefixes-usual.result listed.new.batch.chosen.items listed.new.batch.front.items packed.new.out.items packed.result
    (inl (grind (arith, nat_tests, c.if-packed-usual.true))) (listed.ensures.are rows) listed.ensures.all
    (packed_of withdrawal (limit_octets c.args.speech.limit) c.deref.result.now listed.new.batch.front.items packed.new.out.items packed.result c.deref.ensures.value packed.ensures.some packed.ensures.within packed.ensures.longest packed.ensures.octets)

pub returns-clause-update : goal.returns-clause-update
returns-clause-update c = λ rows.
    let listed = c.choose_withdrawn-2 in
    let packed = c.put_withdrawal in
    withdraws c.args.speech rows c.args.waits.now.slots.items c.args.waits.now.apart c.most_prefixes.result listed.new.batch.chosen.items listed.new.batch.front.items packed.new.out.items packed.result
    (inr (omega (arith, c.most_prefixes.ensures.value))) (listed.ensures.are rows) listed.ensures.all
    (packed_of withdrawal (limit_octets c.args.speech.limit) c.deref-2.result.now listed.new.batch.front.items packed.new.out.items packed.result c.deref-2.ensures.value packed.ensures.some packed.ensures.within packed.ensures.longest packed.ensures.octets)

pub put_withdrawal-requires-clause-some : goal.put_withdrawal-requires-clause-some
put_withdrawal-requires-clause-some c =
    let front = c.choose_withdrawn-2.new.batch.front in
    let some : 0 < length front.items = some_withdrawn c.args.waits.now.slots.items c.args.waits.now.apart c.most_prefixes.result front.items c.most_prefixes.ensures.some c.requires.some c.choose_withdrawn-2.ensures.all in
    subst (λ qs. 0 < length qs) (sym c.deref-2.ensures.value) some
