use Rattle.std.proofs.Common.{◌≢◌, ◌<◌, ℕ, List, length, map, subst, sym, arith}
use Rattle.std.specs.Arc.{arc_value}
use Rattle.std.proofs.lemmas.Bool.Decides.{nat_tests}
use Rattle.std.proofs.lemmas.List.Elements.{All-rest}
use Rattle.rs_attrs.specs.Meaning.{Attribute}
use Rattle.rs_policy.specs.Configuration.{client_of}
use Rattle.rs_outlet.specs.Decided.Choices.{IsAloneOfItsAs}
use Rattle.rs_outlet.specs.Decided.HeldBy.{held_by}
use Rattle.rs_outlet.proofs.Decided.Lent.{alone_with}
use Rattle.rs_outlet.proofs.chosen.is_alone_of_its_as.Goals as goal
use Rattle.rs_outlet.proofs.chosen.is_alone_of_its_as.Goals.{else-holder-sources-via-then-holder-sources+else-client_as-own, else-holder-sources-via-else-holder-sources}

pub loop-holder-preserved : goal.loop-holder-preserved
loop-holder-preserved c =
    let t = held_by c.args.sources.now in
    let me = c.args.sources.now.client in
    let h : ℕ × List Attribute = (c.in-Some.holder.client, arc_value c.in-Some.holder.attrs.now) in
    let other : h.0 ≢ me → (client_of t.settings h.0).client_as ≢ (client_of t.settings me).client_as = elim c.else-holder-sources.branch [
      | else-holder-sources-via-then-holder-sources+else-client_as-own w ↦ λ differs same. grind (arith, nat_tests, w.if-client_as-own.false, w.client_as.ensures, c.client_as-own.ensures, same)
      | else-holder-sources-via-else-holder-sources w ↦ λ differs same. grind (arith, nat_tests, w.if-holder-sources.false, differs)
    ] in
    record {
      known = All-rest (λ h. h.0.0 < length c.args.sources.now.config.now.clients) (h, c.in-Some.holder.note) c.next.new.self _ c.in-Some.ensures.steps c.loop-holder.invariant.known;
      alone = λ rest. c.loop-holder.invariant.alone (subst (λ hs. IsAloneOfItsAs t me (map (λ (g : (ℕ × List Attribute) × ℕ). g.0) hs)) (sym c.in-Some.ensures.steps) (alone_with t me h (map (λ (g : (ℕ × List Attribute) × ℕ). g.0) c.next.new.self) other rest));
    }
