use Rattle.std.proofs.Common.{◌≡◌, ◌∙◌, ap, length, subst, sym, ℕ, List, false, nat_lt, Result, Ok, Err, IfOk}
use Rattle.std.specs.Prelude.{is_none}
use Rattle.rs_octets.specs.Prefixes.{Prefix}
use Rattle.rs_outlet.specs.Decided.Due.{due_to}
use Rattle.rs_outlet.specs.Decided.HeldBy.{held_by}
use Rattle.rs_outlet.specs.Decided.Plans.{IsPlanned}
use Rattle.rs_outlet.specs.Decided.Touching.{AreOnce, is_number_touched, is_numbered_in, touched_of}
use Rattle.rs_outlet.specs.Views.{HaveNumbers, is_whole}
use Rattle.rs_outlet.proofs.Answered.{if_some_at}
use Rattle.rs_outlet.proofs.turn.decide_all_touched.Goals as goal

if_ok_map : {A E : Type 0} (P Q : A → Type 0) (r : Result A E) → IfOk r P → ((x : A) → P x → Q x) → IfOk r Q
if_ok_map P Q (Ok x) h q = q x h
if_ok_map P Q (Err e) h q = tt

if_ok_both : {A E : Type 0} (P Q R : A → Type 0) (r : Result A E) → IfOk r P → IfOk r Q → ((x : A) → P x → Q x → R x) → IfOk r R
if_ok_both P Q R (Ok x) h k q = q x h k
if_ok_both P Q R (Err e) h k q = tt

is_whole_by : (c : goal.After-drop-list) → HaveNumbers c.args.touched.now.prefixes.items c.args.sources.now.ins.now → nat_lt 4096 (length c.deref.result.now) ≡ is_whole (touched_of c.args.touched.now.all c.args.touched.now.prefixes.items)
is_whole_by c are =
    ap (λ (xs : List (ℕ × Prefix)). nat_lt 4096 (length xs)) c.deref.ensures.value
    ∙ sym (if_some_at _ c.in_ok-list.field-0 c.in-Some.list c.in-Some.is (c.in_ok-list.ensures.whole c.args.sources.now.ins.now are))

pub returns-in-Some-clause-whole : goal.returns-in-Some-clause-whole
returns-in-Some-clause-whole c = λ are. if_ok_map _ _ c.decide_stale.result c.decide_stale.ensures.whole (λ x whole. whole ∙ is_whole_by c are)

pub returns-in-Some-clause-count : goal.returns-in-Some-clause-count
returns-in-Some-clause-count c = λ are.
    if_ok_both _ _ _ c.decide_stale.result c.decide_stale.ensures.whole c.decide_stale.ensures.count (λ x whole counted prefixes is.
    counted (whole ∙ is_whole_by c are ∙ ap is_whole is)
    ∙ ap length c.deref.ensures.value
    ∙ if_some_at _ c.in_ok-list.field-0 c.in-Some.list c.in-Some.is (c.in_ok-list.ensures.count c.args.sources.now.ins.now are) prefixes is)

pub returns-in-Some-clause-all : goal.returns-in-Some-clause-all
returns-in-Some-clause-all c = λ are fresh.
    let ins = c.args.sources.now.ins.now in
    let es = c.args.touched.now.prefixes.items in
    let once : AreOnce es c.in-Some.list.items = if_some_at _ c.in_ok-list.field-0 c.in-Some.list c.in-Some.is c.in_ok-list.ensures.once in
    let part : c.args.touched.now.all ≡ false = sym c.in_ok-list.ensures.all ∙ ap is_none c.in-Some.is in
    c.decide_stale.ensures.all (subst (λ xs. HaveNumbers xs ins) (sym c.deref.ensures.value) (once.numbered ins are))
    (λ p n at out. fresh p n at (ap (λ b. is_number_touched b es n) part ∙ sym (once.same n) ∙ sym (ap (λ xs. is_numbered_in xs n) c.deref.ensures.value) ∙ out))

pub returns-in-None-clause-plan : goal.returns-in-None-clause-plan
returns-in-None-clause-plan c =
    let s = c.args.sources.now in
    subst (λ b. IfOk c.decide_all.result (λ decided. IsPlanned s.ins.now (due_to (held_by s) s.client c.args.speech) c.args.rows.now.rows.items (is_number_touched b c.args.touched.now.prefixes.items) c.args.idle decided.plan))
    (sym (sym c.in_ok-list.ensures.all ∙ ap is_none c.in-None.is)) c.decide_all.ensures.plan
