use Rattle.std.proofs.Common.{◌≡◌, ◌∙◌, None, Some, sym, subst}
use Rattle.std.proofs.lemmas.Option.{same_Some}
use Rattle.rs_policy.specs.Alike.{PassesPlainly}
use Rattle.rs_outlet.specs.declared.known.Asked.{Asked}
use Rattle.rs_outlet.specs.Decided.HeldBy.{held_by}
use Rattle.rs_outlet.proofs.Decided.Precedents.{listed_is, nothing_known}
use Rattle.rs_outlet.proofs.precedent.known_to.Goals as goal

pub returns-then-is_alike : goal.returns-then-is_alike
returns-then-is_alike c =
    let s = c.args.sources.now in
    let it = c.in-Some.it in
    let h = c.requires.precedent it c.in-Some.is in
    record {
      other = it.client;
      listed =
          listed_is (held_by s) s.ins.now it.client it.speech c.args.speech it.changes.items _ it.wholes.items _ (sym (c.is_spoken.ensures c.if-is_spoken.true))
          (c.of.ensures.changes ∙ c.deref.ensures.value) (c.of.ensures.wholes ∙ c.deref-then-is_alike.ensures.value) h.listed;
      same = λ none. c.is_alike.ensures c.if-is_alike.true;
      first = λ asked some. absurd (let f : None ≡ Some asked = sym c.of.ensures.asked ∙ some in (cc f));
      next = λ asked some. absurd (let f : None ≡ Some asked = sym c.of.ensures.asked ∙ some in (cc f));
    }

pub returns-in-Some-both_asked : goal.returns-in-Some-both_asked
returns-in-Some-both_asked c =
    let s = c.args.sources.now in
    let it = c.in-Some.it in
    let h = c.requires.precedent it c.in-Some.is in
    let both = c.in-Some-both_asked.asked in
    let is = c.of-in-Some-both_asked.ensures.asked in
    record {
      other = it.client;
      listed =
          listed_is (held_by s) s.ins.now it.client it.speech c.args.speech it.changes.items _ it.wholes.items _ (sym (c.is_spoken.ensures c.if-is_spoken.true))
          (c.of-in-Some-both_asked.ensures.changes ∙ c.deref-in-Some-both_asked.ensures.value) (c.of-in-Some-both_asked.ensures.wholes ∙ c.deref-in-Some-both_asked-2.ensures.value) h.listed;
      same = λ none. absurd (let f : None ≡ Some both = sym none ∙ is in (cc f));
      first = λ asked some. subst (λ (a : Asked). PassesPlainly s.config.now it.client a.first) (same_Some both asked (sym is ∙ some)) (h.plain both.first c.in-Some-both_asked.ensures.first);
      next = λ asked some. subst (λ (a : Asked). PassesPlainly s.config.now s.client a.next) (same_Some both asked (sym is ∙ some)) (c.requires.server.plain both.next c.in-Some-both_asked.ensures.next);
    }

pub returns : goal.returns
returns c =
    let s = c.args.sources.now in
    nothing_known (held_by s) s.ins.now s.client c.args.speech c.of-2.result c.of-2.ensures.changes c.of-2.ensures.wholes c.of-2.ensures.asked
