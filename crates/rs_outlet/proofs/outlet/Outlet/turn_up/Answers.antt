use Rattle.std.proofs.Common.{◌≡◌, ◌∙◌, cond, ap, arith, ℕ, nat_eq, List, [], false, Option, Some, sym, subst, take}
use Rattle.std.proofs.lemmas.Bool.{and_parts}
use Rattle.std.specs.FinMap as fin
use Rattle.rs_outlet.specs.Decided.Due.{any_holds, due_to}
use Rattle.rs_outlet.specs.Decided.HeldBy.{held_by}
use Rattle.std.specs.List.{AllByRecursion}
use Rattle.rs_octets.specs.Prefixes.{Prefix}
use Rattle.rs_attrs.specs.Meaning.{Attribute}
use Rattle.rs_adjin.specs.AdjIns.{number_of}
use Rattle.rs_adjin.specs.declared.adj_ins.AdjIns.{AdjIns}
use Rattle.rs_outlet.specs.declared.outlet.Outlet.TheInside.{Inside}
use Rattle.rs_outlet.specs.declared.changes.Change.{Change}
use Rattle.rs_rows.specs.Rows.{Row}
use Rattle.rs_outlet.specs.declared.table.Rows.{Rows}
use Rattle.rs_outlet.specs.declared.waiting.Wait.{Wait}
use Rattle.rs_outlet.specs.declared.waiting.Waits.{Waits}
use Rattle.rs_outlet.specs.Pending.Slots.{open_at, open_count, withdrawn_count}
use Rattle.rs_outlet.proofs.Pending.Pieces.{fitting_same}
use Rattle.rs_outlet.specs.Pending.Owed.{Keeps}
use Rattle.rs_outlet.specs.Views.{View, AreNumbered, IsCount, HaveNumbers, WaitsAreExact, is_touched, is_whole}
use Rattle.rs_outlet.proofs.Pending.Backing.{are_backed_same, changes_fit, fit_same, fit_spoken, own_same}
use Rattle.rs_outlet.specs.Inside.{numbers_from, loc_of, is_changed, view_of}
use Rattle.rs_outlet.specs.Decided.Touching.{stale_of, touched_of}
use Rattle.rs_outlet.specs.Decided.Plans.{changes_of}
use Rattle.rs_outlet.specs.Decided.Turns.{IsCurrent}
use Rattle.rs_outlet.specs.Decided.HeldBy.{tables_of}
use Rattle.rs_outlet.specs.declared.answers.Speech.{Speech}
use Rattle.rs_policy.specs.Configuration.{Configuration}
use Rattle.rs_outlet.proofs.Decided.Numbering.{all_both, are_below, rows_numbered, touched_numbered}
use Rattle.rs_outlet.proofs.Pending.Carrying.{distinct_prefixes, keeps_both, keeps_same}
use Rattle.rs_outlet.proofs.Pending.Unchanged.{asked_same, told_kept, marked_kept, exact_kept}
use Rattle.rs_outlet.proofs.Pending.Chains.{same_chained}
use Rattle.rs_outlet.proofs.Decided.Ranks.{due_unnumbered, none_holds}
use Rattle.rs_outlet.proofs.Decided.Counting.{count_touched, counted_by_prefix}
use Rattle.rs_outlet.proofs.Decided.LocByNumber.{numbered}
use Rattle.rs_outlet.proofs.Decided.TurnedLoc.{fresh_rows, one_of, stale_at, turned_at}
use Rattle.rs_outlet.proofs.outlet.Outlet.turn_up.Goals as goal

pub make_room-requires : goal.make_room-requires
make_room-requires c = are_below (changes_of c.in_ok-plan.field-0.plan) c.args.sources.now.ins.now c.numbers-numbers.result c.numbers-numbers.ensures c.in_ok-plan.ensures.plan.decided.placed

pub carry_out-requires-clause-fitting : goal.carry_out-requires-clause-fitting
carry_out-requires-clause-fitting c =
    fitting_same c.in_ok-plan.field-0.plan c.self.inside.rows.rows.items c.make_room.new.rows.rows.items _ _ c.make_room.ensures.rows
    (ap (λ ws. nat_eq (open_count ws) 0) c.make_room.ensures.waits ∙ sym c.is_idle-idle.ensures) c.in_ok-plan.ensures.plan.fitting

pub carry_out-requires-clause-once : goal.carry_out-requires-clause-once
carry_out-requires-clause-once c =
    let decided = c.in_ok-plan.ensures.plan.decided in
    distinct_prefixes c.args.sources.now.ins.now (changes_of c.in_ok-plan.field-0.plan) decided.placed decided.once

pub returns-clause-numbered : goal.returns-clause-numbered
returns-clause-numbered c = λ are.
    let ins = c.args.sources.now.ins.now in
    let P = λ (e : ℕ × Prefix). number_of ins e.1 ≡ Some e.0 in
    all_both P (numbers_from 0 c.carry_out.new.rows.rows.items) _
    (c.carry_out.ensures.done.numbered ins c.in_ok-plan.ensures.plan.decided.placed (subst (λ es. HaveNumbers es ins) (sym c.make_room.ensures.numbers) (rows_numbered ins c.self.inside c.args.self.now c.self.view_is are)))
    (subst (AllByRecursion P) (sym c.clear.ensures.prefixes) tt)

-- what is not stale is due
as_due : (config : Configuration) (ins : AdjIns) (a : Inside) (v : View) (speech : Speech) (client : ℕ) → view_of a ≡ v → v.speech ≡ Some speech → client ≡ v.client → IsCurrent config ins v
    → (p : Prefix) → is_touched (stale_of a.touched.all a.touched.prefixes.items) p ≡ false → fin.get (loc_of a.rows.rows.items) p ≡ due_to (tables_of config ins) client speech p
as_due config ins a v speech client is up own current p out =
    ap (λ (x : View). fin.get x.loc p) is
    ∙ current speech up p (sym (ap (λ (x : View). is_touched x.stale p) is) ∙ out)
    ∙ ap (λ k. due_to (tables_of config ins) k speech p) (sym own)

-- what the Loc-RIB has once the changes are carried out
changed : (ins : AdjIns) (a : Inside) (v : View) (due_at : Prefix → Option (List Attribute)) (cs : List Change) (rows1 rows2 : List (Option Row)) → view_of a ≡ v → numbers_from 0 rows1 ≡ numbers_from 0 a.rows.rows.items → loc_of rows1 ≡ loc_of a.rows.rows.items
    → (HaveNumbers (numbers_from 0 rows1) ins → (q : Prefix) → fin.get (loc_of rows2) q ≡ cond (is_changed cs q) (due_at q) (fin.get (loc_of rows1) q))
    → AreNumbered v ins → (p : Prefix) → fin.get (loc_of rows2) p ≡ cond (is_changed cs p) (due_at p) (fin.get (loc_of a.rows.rows.items) p)
changed ins a v due_at cs rows1 rows2 is numbers loc carried are p =
    carried (subst (λ es. HaveNumbers es ins) (sym numbers) (rows_numbered ins a v is are)) p
    ∙ ap (λ t. cond (is_changed cs p) (due_at p) (fin.get t p)) loc

pub returns-clause-due : goal.returns-clause-due
returns-clause-due c = λ are p.
    let ins = c.args.sources.now.ins.now in
    let a = c.self.inside in
    let due_at = due_to (held_by c.args.sources.now) c.args.sources.now.client c.args.speech in
    one_of (is_touched (stale_of a.touched.all a.touched.prefixes.items) p) _ _ _
    (stale_at ins a.rows.rows.items a.touched.prefixes.items a.touched.all due_at (changes_of c.in_ok-plan.field-0.plan)
    (rows_numbered ins a c.args.self.now c.self.view_is are) (touched_numbered ins a c.args.self.now c.self.view_is are) c.in_ok-plan.ensures.plan.decided
    (due_unnumbered c.args.sources.now.config.now ins c.args.sources.now.client c.args.speech)
    p _ (changed ins a c.args.self.now due_at (changes_of c.in_ok-plan.field-0.plan) c.make_room.new.rows.rows.items c.carry_out.new.rows.rows.items c.self.view_is c.make_room.ensures.numbers c.make_room.ensures.loc (c.carry_out.ensures.done.loc ins due_at c.in_ok-plan.ensures.plan.decided.placed c.in_ok-plan.ensures.plan.decided.due) are p)
    ∙ ap (λ (v : View). cond (is_touched (stale_of a.touched.all a.touched.prefixes.items) p) (due_at p) (fin.get v.loc p)) c.self.view_is)

pub returns-clause-loc : goal.returns-clause-loc
returns-clause-loc c = λ are current p.
    let config = c.args.sources.now.config.now in
    let ins = c.args.sources.now.ins.now in
    let a = c.self.inside in
    let due_at = due_to (held_by c.args.sources.now) c.args.sources.now.client c.args.speech in
    turned_at ins a.rows.rows.items a.touched.prefixes.items a.touched.all due_at (changes_of c.in_ok-plan.field-0.plan)
    (rows_numbered ins a c.args.self.now c.self.view_is are) (touched_numbered ins a c.args.self.now c.self.view_is are) c.in_ok-plan.ensures.plan.decided
    (due_unnumbered config ins c.args.sources.now.client c.args.speech)
    (as_due config ins a c.args.self.now c.args.speech c.args.sources.now.client c.self.view_is c.requires.speech c.requires.own current)
    p _ (changed ins a c.args.self.now due_at (changes_of c.in_ok-plan.field-0.plan) c.make_room.new.rows.rows.items c.carry_out.new.rows.rows.items c.self.view_is c.make_room.ensures.numbers c.make_room.ensures.loc (c.carry_out.ensures.done.loc ins due_at c.in_ok-plan.ensures.plan.decided.placed c.in_ok-plan.ensures.plan.decided.due) are p)
    ∙ ap (λ (v : View). cond (is_touched v.touched p) (due_at p) (fin.get v.loc p)) c.self.view_is

pub returns-clause-count : goal.returns-clause-count
returns-clause-count c = λ are current.
    let config = c.args.sources.now.config.now in
    let ins = c.args.sources.now.ins.now in
    let a = c.self.inside in
    let rows = a.rows.rows.items in
    let es = a.touched.prefixes.items in
    let held = any_holds (held_by c.args.sources.now) in
    let count = c.in_ok-plan.field-0.count in
    let due_at = due_to (held_by c.args.sources.now) c.args.sources.now.client c.args.speech in
    let stand = rows_numbered ins a c.args.self.now c.self.view_is are in
    let there = touched_numbered ins a c.args.self.now c.self.view_is are in
    subst (λ (v : View). IsCount held v.loc v.touched count) c.self.view_is
    (count_touched held (loc_of rows) (touched_of a.touched.all es) count
    (λ all. counted_by_prefix ins rows held count (numbered ins rows stand) (none_holds config ins)
    (c.in_ok-plan.ensures.all there (fresh_rows ins rows es a.touched.all due_at [] stand there
    (as_due config ins a c.args.self.now c.args.speech c.args.sources.now.client c.self.view_is c.requires.speech c.requires.own current)) (c.in_ok-plan.ensures.whole there ∙ all)))
    (c.in_ok-plan.ensures.count there))

pub returns-clause-whole : goal.returns-clause-whole
returns-clause-whole c = λ are.
    c.in_ok-plan.ensures.whole (touched_numbered c.args.sources.now.ins.now c.self.inside c.args.self.now c.self.view_is are) ∙ ap (λ (v : View). is_whole v.touched) c.self.view_is

-- what each prefix keeps, from before room is made until the changes are carried out
keeps : (ins : AdjIns) (a : Inside) (v : View) (rows1 rows2 : List (Option Row)) (ws1 ws2 : List Wait) → view_of a ≡ v → numbers_from 0 rows1 ≡ numbers_from 0 a.rows.rows.items → loc_of rows1 ≡ loc_of a.rows.rows.items → ws1 ≡ a.waits.slots.items
    → (HaveNumbers (numbers_from 0 rows1) ins → (q : Prefix) → Keeps (open_at q ws1) (fin.get (loc_of rows1) q) (open_at q ws2) (fin.get (loc_of rows2) q))
    → AreNumbered v ins → (q : Prefix) → Keeps (open_at q a.waits.slots.items) (fin.get (loc_of a.rows.rows.items) q) (open_at q ws2) (fin.get (loc_of rows2) q)
keeps ins a v rows1 rows2 ws1 ws2 is numbers loc waits kept are q =
    keeps_both _ _ _ _ _ _ (keeps_same _ _ _ _ (ap (open_at q) waits) (ap (λ t. fin.get t q) loc))
    (kept (subst (λ es. HaveNumbers es ins) (sym numbers) (rows_numbered ins a v is are)) q)

pub returns-clause-told : goal.returns-clause-told
returns-clause-told c = λ are.
    let ins = c.args.sources.now.ins.now in
    let a = c.self.inside in
    told_kept (loc_of a.rows.rows.items) (loc_of c.carry_out.new.rows.rows.items) a.waits.slots.items c.carry_out.new.waits.slots.items
    (keeps ins a c.args.self.now c.make_room.new.rows.rows.items c.carry_out.new.rows.rows.items c.make_room.new.waits.slots.items c.carry_out.new.waits.slots.items c.self.view_is c.make_room.ensures.numbers c.make_room.ensures.loc c.make_room.ensures.waits (c.carry_out.ensures.done.keeps ins c.in_ok-plan.ensures.plan.decided.placed) are)
    ∙ ap (λ (v : View). v.told) c.self.view_is

pub returns-clause-marked : goal.returns-clause-marked
returns-clause-marked c = λ are.
    let ins = c.args.sources.now.ins.now in
    let a = c.self.inside in
    marked_kept (loc_of a.rows.rows.items) (loc_of c.carry_out.new.rows.rows.items) a.waits.slots.items c.carry_out.new.waits.slots.items
    (keeps ins a c.args.self.now c.make_room.new.rows.rows.items c.carry_out.new.rows.rows.items c.make_room.new.waits.slots.items c.carry_out.new.waits.slots.items c.self.view_is c.make_room.ensures.numbers c.make_room.ensures.loc c.make_room.ensures.waits (c.carry_out.ensures.done.keeps ins c.in_ok-plan.ensures.plan.decided.placed) are)
    ∙ ap (λ (v : View). v.marked) c.self.view_is

pub returns-clause-exact : goal.returns-clause-exact
returns-clause-exact c = λ are exact.
    let ins = c.args.sources.now.ins.now in
    let a = c.self.inside in
    exact_kept (loc_of a.rows.rows.items) (loc_of c.carry_out.new.rows.rows.items) a.waits.slots.items c.carry_out.new.waits.slots.items
    (keeps ins a c.args.self.now c.make_room.new.rows.rows.items c.carry_out.new.rows.rows.items c.make_room.new.waits.slots.items c.carry_out.new.waits.slots.items c.self.view_is c.make_room.ensures.numbers c.make_room.ensures.loc c.make_room.ensures.waits (c.carry_out.ensures.done.keeps ins c.in_ok-plan.ensures.plan.decided.placed) are)
    (subst WaitsAreExact (sym c.self.view_is) exact)

pub carry_out-requires-clause-own : goal.carry_out-requires-clause-own
carry_out-requires-clause-own c =
    own_same (changes_of c.in_ok-plan.field-0.plan) c.self.inside.rows.rows.items c.make_room.new.rows.rows.items c.make_room.ensures.rows c.in_ok-plan.ensures.plan.decided.own

pub invariant_of-self : goal.invariant_of-self
invariant_of-self c =
    let a = c.self.inside in
    let kept = c.self.invariant in
    let rows = c.make_room.new.rows.rows.items in
    let same_rows = c.make_room.ensures.rows in
    record {
      octets = kept.octets;
      started = kept.started;
      ended = kept.ended;
      slots = omega (arith, kept.slots, c.make_room.ensures.used, ap withdrawn_count c.make_room.ensures.waits, c.make_room.ensures.capacity);
      extended = kept.extended;
      backed = are_backed_same a.rows.rows.items rows a.waits.slots.items c.make_room.new.waits.slots.items same_rows c.make_room.ensures.waits kept.backed;
      chained = same_chained a.rows.rows.items rows (take a.waits.sorted a.waits.slots.items) (take c.make_room.new.waits.sorted c.make_room.new.waits.slots.items) a.waits.chains.items _ same_rows (λ i. take (c.make_room.ensures.sorted i) (c.make_room.ensures.waits i)) c.make_room.ensures.chains kept.chained;
      fit = λ speech is. fit_same speech a.rows.rows.items rows same_rows (kept.fit speech is);
      asked = λ is. asked_same (loc_of a.rows.rows.items) (loc_of rows) a.waits.slots.items c.make_room.new.waits.slots.items c.make_room.ensures.loc c.make_room.ensures.waits (kept.asked is);
    }

pub invariant_of-self-2 : goal.invariant_of-self-2
invariant_of-self-2 c =
    let a = c.self.inside in
    let kept = c.self.invariant in
    let is : a.speech ≡ Some c.args.speech = ap (λ (v : View). v.speech) c.self.view_is ∙ c.requires.speech in
    record {
      octets = kept.octets;
      started = kept.started;
      ended = kept.ended;
      slots = c.carry_out.ensures.done.all;
      extended = kept.extended;
      backed = c.carry_out.ensures.done.backed (are_backed_same a.rows.rows.items c.make_room.new.rows.rows.items a.waits.slots.items c.make_room.new.waits.slots.items c.make_room.ensures.rows c.make_room.ensures.waits kept.backed);
      chained = c.carry_out.ensures.done.chained (are_backed_same a.rows.rows.items c.make_room.new.rows.rows.items a.waits.slots.items c.make_room.new.waits.slots.items c.make_room.ensures.rows c.make_room.ensures.waits kept.backed)
          (same_chained a.rows.rows.items c.make_room.new.rows.rows.items (take a.waits.sorted a.waits.slots.items) (take c.make_room.new.waits.sorted c.make_room.new.waits.slots.items) a.waits.chains.items _ c.make_room.ensures.rows (λ i. take (c.make_room.ensures.sorted i) (c.make_room.ensures.waits i)) c.make_room.ensures.chains kept.chained);
      fit = fit_spoken c.carry_out.new.rows.rows.items a.speech c.args.speech is
          (c.carry_out.ensures.done.fit c.args.speech
          (changes_fit (held_by c.args.sources.now) c.args.sources.now.client c.args.speech (changes_of c.in_ok-plan.field-0.plan) c.in_ok-plan.ensures.plan.decided.due)
          (fit_same c.args.speech a.rows.rows.items c.make_room.new.rows.rows.items c.make_room.ensures.rows (kept.fit c.args.speech is)));
      asked = λ is.
          let both = and_parts a.asked _ is in
          let none = c.carry_out.ensures.none (sym c.is_empty.ensures ∙ both.1) in
          asked_same (loc_of a.rows.rows.items) (loc_of c.carry_out.new.rows.rows.items) a.waits.slots.items c.carry_out.new.waits.slots.items
          (ap (λ (r : Rows). loc_of r.rows.items) none.0 ∙ c.make_room.ensures.loc) (ap (λ (w : Waits). w.slots.items) none.1 ∙ c.make_room.ensures.waits) (kept.asked both.0);
    }
