use Rattle.std.proofs.Common.{◌≡◌, ◌∙◌, ℕ, Bool, false, cond, is_some, None, Some, Option, List, refl, sym, ap, subst}
use mathlib.Core.Bool.{true≢false}
use Rattle.std.specs.FinMap as map
use Rattle.std.proofs.lemmas.Option.{same_Some}
use Rattle.rs_octets.specs.Prefixes.{Prefix}
use Rattle.rs_attrs.specs.Meaning.{Attribute}
use Rattle.rs_outlet.specs.declared.answers.Speech.{Speech}
use Rattle.rs_adjin.specs.declared.adj_ins.AdjIns.{AdjIns}
use Rattle.rs_policy.specs.Configuration.{Configuration}
use Rattle.rs_outlet.specs.declared.answers.Turned.{Turned}
use Rattle.rs_outlet.specs.declared.answers.Last.TheVariants.{Done}
use Rattle.rs_outlet.specs.Inside.{view_of}
use Rattle.rs_outlet.specs.Decided.Due.{Held, due_to}
use Rattle.rs_outlet.specs.Decided.HeldBy.{tables_of}
use Rattle.rs_outlet.specs.Decided.Turns.{HasTurned, IsCurrent}
use Rattle.rs_outlet.specs.Views.{AreNumbered, IsOneOf, View, is_touched}
use Rattle.rs_outlet.proofs.outlet.Outlet.turn.Goals as goal

abbrev nothing : Turned
nothing = record { decided = 0; whole = false }

-- what is due, by the client and the speech that the outlet has
for_client : (t : Held) (m was : Option (List Attribute)) (b : Bool) (c d : ℕ) (s u : Speech) (p : Prefix) → c ≡ d → s ≡ u → m ≡ cond b (due_to t c s p) was → m ≡ cond b (due_to t d u p) was
for_client t m was b c d s u p e f is = is ∙ (λ i. cond b (due_to t (e i) (f i) p) was)

due_for_client : (t : Held) (m was : Option (List Attribute)) (c d : ℕ) (s u : Speech) (p : Prefix) → c ≡ d → s ≡ u → IsOneOf m was (due_to t c s p) → IsOneOf m was (due_to t d u p)
due_for_client t m was c d s u p e f is = subst (λ o. IsOneOf m was o) (λ i. due_to t (e i) (f i) p) is

-- an outlet that is not up
not_up : (config : Configuration) (ins : AdjIns) (v w : View) → v ≡ w → v.speech ≡ None → HasTurned config ins w (record v { last = Done nothing }) nothing
not_up config ins v w same none = subst (λ (u : View). HasTurned config ins u (record v { last = Done nothing }) nothing) same (record {
  loc = λ speech up p. absurd (let f : None ≡ Some speech = sym none ∙ up in (cc));
  told = refl;
  marked = refl;
  touched = λ up. absurd (true≢false (sym up ∙ ap is_some none));
  stale = λ up. absurd (true≢false (sym up ∙ ap is_some none));
  whole = λ up. absurd (true≢false (sym up ∙ ap is_some none));
  count = λ up. absurd (true≢false (sym up ∙ ap is_some none));
  down = λ _. (refl, refl);
  last = refl;
})

pub returns-in_default-clause-turned : goal.returns-in_default-clause-turned
returns-in_default-clause-turned c = λ are current. not_up c.args.config.now c.args.ins.now (view_of c.self.inside) c.args.self.now c.self.view_is c.in_default.is

pub returns-in-Ok-clause-turned : goal.returns-in-Ok-clause-turned
returns-in-Ok-clause-turned c =
    let config = c.args.config.now in
    let ins = c.args.ins.now in
    let now = c.shed.new.self in
    let t = tables_of config ins in
    let is = c.self.view_is ∙ sym c.shed.ensures in
    subst (λ (v : View). AreNumbered v ins → IsCurrent config ins v → HasTurned config ins v c.turn_up.new.self c.in-Ok.turned) c.shed.ensures
    (λ are current.
    record {
      loc = λ speech up p.
          for_client t _ (map.get now.loc p) (is_touched now.touched p) _ now.client _ speech p
          (ap (λ (v : View). v.client) is)
          (same_Some c.in-Some.speech speech (sym c.in-Some.is ∙ ap (λ (v : View). v.speech) is ∙ up))
          (c.in-Ok.ensures.loc are current p);
      told = c.in-Ok.ensures.told are;
      marked = c.in-Ok.ensures.marked are;
      touched = λ up. c.in-Ok.ensures.touched;
      stale = λ up. c.in-Ok.ensures.stale;
      whole = λ up. c.in-Ok.ensures.whole are;
      count = λ up. c.in-Ok.ensures.count are current;
      down = λ none. absurd (let f : None ≡ Some c.in-Some.speech = sym none ∙ sym (ap (λ (v : View). v.speech) is) ∙ c.in-Some.is in (cc));
      last = c.in-Ok.ensures.done;
    })

pub returns-in-Ok-clause-due : goal.returns-in-Ok-clause-due
returns-in-Ok-clause-due c = λ speech up are p.
    let now = c.args.self.now in
    let t = tables_of c.args.config.now c.args.ins.now in
    due_for_client t _ (map.get now.loc p) _ now.client _ speech p
    (ap (λ (v : View). v.client) c.self.view_is)
    (same_Some c.in-Some.speech speech (sym c.in-Some.is ∙ ap (λ (v : View). v.speech) c.self.view_is ∙ up))
    (subst (λ (v : View). IsOneOf (map.get c.turn_up.new.self.loc p) (map.get v.loc p) (due_to t c.self.inside.client c.in-Some.speech p)) c.shed.ensures
    (c.in-Ok.ensures.due (subst (λ (v : View). AreNumbered v c.args.ins.now) (sym c.shed.ensures) are) p))
