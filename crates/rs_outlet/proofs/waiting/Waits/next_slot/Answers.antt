use Rattle.std.proofs.Common.{◌≡◌, ◌<◌, ◌∙◌, Bool, false, true, not, Some, length, slice_get, take, sym, ap, arith, refl}
use Rattle.std.proofs.lemmas.Option.{same_Some, slice_get_read}
use Rattle.rs_attrs.specs.Comparing.{attributes_hash}
use Rattle.rs_outlet.specs.declared.waiting.Wait.{Wait}
use Rattle.rs_outlet.specs.Inside.{row_by, shown}
use Rattle.rs_outlet.specs.Pending.Slots.{hash_of}
use Rattle.rs_outlet.proofs.Message.Collected.{at_index, read_holds}
use Rattle.rs_outlet.proofs.Pending.Chains.{first_get, none_between}
use Rattle.rs_outlet.proofs.Pending.Apart.{found_apart}
use Rattle.rs_outlet.proofs.waiting.Waits.next_slot.Goals.{else-not-has-via-then-not-has+else-not-has_hash, then-self, else-self, else-not-has-via-else-not-has}
use Rattle.rs_outlet.proofs.waiting.Waits.next_slot.Goals as goal

not_not : (b : Bool) → not b ≡ false → b ≡ true
not_not true h = refl
not_not false h = absurd (cc)

pub returns-in-Some-clause-between : goal.returns-in-Some-clause-between
returns-in-Some-clause-between c = λ rows m chained backed hash has n z here later below.
    let ws = c.args.self.now.slots.items in
    let i = c.args.slot in
    let within : i < length ws = omega (arith, c.requires, c.args.self.now.within, c.args.self.now.slots.ok) in
    let v = at_index ws i within in
    let w = v.0 in
    let k = c.args.self.now.sorted in
    let at = slice_get_read c.deref.result.now (length c.deref.result.now) i c.in-Some.chain.now refl c.in-Some.ensures.lookup.3.0 c.in-Some.ensures.lookup.1 in
    let hashed : c.args.has ≡ false → (c.args.self.now.exact ≡ false) × (hash_of w.due ≡ Some (attributes_hash m)) = elim c.else-not-has.branch [
      | else-not-has-via-then-not-has+else-not-has_hash b ↦ elim b.if-self.branch [
        | then-self s ↦ absurd (let f : true ≡ false = sym s.if-self.true ∙ sym s.value-is ∙ b.if-not-has_hash.false in cc)
        | else-self s ↦ λ _. (s.if-self.false, ap (λ (v : Wait). hash_of v.due) (same_Some w s.index.result.now (sym v.1 ∙ slice_get_read ws (length ws) i s.index.result.now refl within s.index.ensures)) ∙ s.has_hash.ensures.due (not_not s.has_hash.result (sym s.value-is ∙ b.if-not-has_hash.false)) ∙ ap (λ h. Some h) (sym hash))
      ]
      | else-not-has-via-else-not-has b ↦ λ is. absurd (let f : true ≡ false = sym b.if-not-has.false ∙ is in cc)
    ] in
    none_between rows (take k ws) c.args.self.now.chains.items m c.args.self.now.exact c.args.has chained c.args.self.now.by_hash
    i n c.in-Some.chain.now w z (ap (λ ls. slice_get ls i) (sym c.deref.ensures.value) ∙ at) (first_get k i ws w c.requires v.1) (first_get k n ws z (omega (arith, below, c.min.ensures)) here) later (omega (arith, below, later, c.max.ensures, c.min.ensures))
    hashed (λ is. read_holds (λ (v : Wait). (v.open ≡ true) × (shown (row_by rows v.due) ≡ Some m)) ws i w v.1 (has is))
    (λ opened. backed w.prefix w (found_apart ws i w c.args.self.now.apart v.1 opened))
    (λ opened. backed z.prefix z (found_apart ws n z c.args.self.now.apart here opened))
