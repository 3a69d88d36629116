use Rattle.std.proofs.Common.{ℕ, ◌∷◌, refl, sym, ◌∙◌, subst, ap}
use Rattle.std.specs.Prelude.{Some, None}
use Rattle.rs_attrs.specs.Effects.{effect_of, has_prefix}
use Rattle.rs_update.specs.Laws.{IsSameEffect}
use Rattle.rs_update.specs.Outcomes.{effect_seen, AreApart}
use Rattle.rs_policy.specs.Configuration.{client_of}
use Rattle.rs_core.specs.Core.{client_count}
use Rattle.rs_core.specs.Session.Hearing.{changing, takes_in}
use Rattle.rs_core.specs.Session.OperatorRecords.{no_faults}
use Rattle.rs_core.proofs.Run.Lists.{on_err, map_ok, map_err}
use Rattle.rs_core.proofs.Run.Agreeing.{cut_short}
use Rattle.rs_core.proofs.Session.Faulting.{found, found_knows, cut_found}
use Rattle.rs_core.proofs.Session.Updates.{update_reset, update_changes, moded_up, is_found, is_reset_beyond, is_none_beyond, reset_follows, announcing_as, same_change_as, update_within}
use Rattle.rs_core.proofs.Touched.ChangedPrefixes.{touches_others_same}
use Rattle.rs_core.proofs.Touched.OwnSession.{keeps_same}
use Rattle.rs_core.proofs.Run.Spared.{kept_spares}
use Rattle.rs_core.proofs.route_server.Core.hear_update.Goals as goal

pub returns-in_err-code-clause-refused : goal.returns-in_err-code-clause-refused
unfolding client_count
returns-in_err-code-clause-refused c = on_err c.from_residual.result (λ s h knows. cut_short c.args.self.now s c.args.c h knows)

pub returns-in-Reset-clause-heard : goal.returns-in-Reset-clause-heard
unfolding client_count
returns-in-Reset-clause-heard c = λ s h config live knows.
    update_reset c.session_hears-in-Reset.new.self s c.args.c h c.args.body.now c.in-Some.mode c.in-Reset.code c.in-Reset.sub (sym (c.in-Some.ensures s h knows)) (subst (λ o. IsSameEffect (effect_seen o) (effect_of c.args.body.now c.in-Some.mode)) c.in-Reset.is c.in_ok-code.ensures.computed) (c.session_hears-in-Reset.ensures.alone s h knows)

pub returns-then-is_beyond-clause-heard : goal.returns-then-is_beyond-clause-heard
unfolding client_count
returns-then-is_beyond-clause-heard c = λ s h config live knows.
    let mode = sym (c.in-Some.ensures s h knows) in
    let it = is_found c.args.body.now c.in-Some.mode _ _ _ _ _ c.in-Change.is c.in_ok-code.ensures.computed c.in_ok-code.ensures.effect c.in_ok-code.ensures.faults_noted c.in_ok-code.ensures.attributes in
    let as_noted = found_knows c.args.self.now _ s c.args.c h c.index_mut.result.now c.note.new.self c.in-Change.faulted refl refl c.requires c.index_mut.ensures.value refl c.note.ensures knows in
    let says = c.is_beyond.ensures s (found c.in-Change.faulted h) it.change config (moded_up s c.args.c h c.in-Some.mode mode) as_noted (announcing_as _ _ _ _ it.change c.deref.ensures.value c.deref-in-Change.ensures.value it.announces) in
    let reset : ℕ × ℕ = (c.code.result, c.sub.result) in
    let beyond = is_reset_beyond (client_of s c.args.c).limit (it.change ∷ h.changes) (sym says ∙ c.if-is_beyond.true) in
    update_changes c.session_hears-then-is_beyond.new.self s c.args.c h c.args.body.now c.in-Some.mode it.change (Some reset) c.in-Change.faulted mode it.is (beyond ∙ (λ i. Some (sym c.code.ensures i, sym c.sub.ensures i))) it.noted
    (let next = found c.in-Change.faulted h in c.session_hears-then-is_beyond.ensures.heard s next (takes_in s c.args.c (changing (Some reset) it.change no_faults) next) (reset_follows s c.args.c next reset it.change) as_noted)

pub returns-else-is_beyond-clause-heard : goal.returns-else-is_beyond-clause-heard
unfolding client_count
returns-else-is_beyond-clause-heard c = map_ok c.change.result c.change.ensures.heard (λ changes s h config live knows.
    let mode = sym (c.in-Some.ensures s h knows) in
    let it = is_found c.args.body.now c.in-Some.mode _ _ _ _ _ c.in-Change.is c.in_ok-code.ensures.computed c.in_ok-code.ensures.effect c.in_ok-code.ensures.faults_noted c.in_ok-code.ensures.attributes in
    let as_noted = found_knows c.args.self.now _ s c.args.c h c.index_mut.result.now c.note.new.self c.in-Change.faulted refl refl c.requires c.index_mut.ensures.value refl c.note.ensures knows in
    let says = c.is_beyond.ensures s (found c.in-Change.faulted h) it.change config (moded_up s c.args.c h c.in-Some.mode mode) as_noted (announcing_as _ _ _ _ it.change c.deref.ensures.value c.deref-in-Change.ensures.value it.announces) in
    update_changes c.change.new.self s c.args.c h c.args.body.now c.in-Some.mode it.change None c.in-Change.faulted mode it.is
    (is_none_beyond (client_of s c.args.c).limit (it.change ∷ h.changes) (sym says ∙ c.if-is_beyond.false)) it.noted
    (changes s (found c.in-Change.faulted h) it.change live as_noted
    (same_change_as _ _ _ _ _ it.change c.deref-in-Change-2.ensures.value c.deref-in-Change-3.ensures.value it.same)))

pub returns-else-is_beyond-clause-refused : goal.returns-else-is_beyond-clause-refused
unfolding client_count
returns-else-is_beyond-clause-refused c = map_err c.change.result c.change.ensures.refused (λ refused s h knows.
    cut_found c.change.new.self s c.args.c h c.in-Change.faulted
    (refused s (found c.in-Change.faulted h) (found_knows c.args.self.now _ s c.args.c h c.index_mut.result.now c.note.new.self c.in-Change.faulted refl refl c.requires c.index_mut.ensures.value refl c.note.ensures knows)))

pub returns-in_err-code-clause-part : goal.returns-in_err-code-clause-part
returns-in_err-code-clause-part c = on_err c.from_residual.result (λ s h config live knows p differs. absurd (differs refl))

pub returns-else-is_beyond-clause-part : goal.returns-else-is_beyond-clause-part
unfolding client_count
returns-else-is_beyond-clause-part c = map_err c.change.result c.change.ensures.part (λ part s h config live knows p differs.
    let mode = sym (c.in-Some.ensures s h knows) in
    let it = is_found c.args.body.now c.in-Some.mode _ _ _ _ _ c.in-Change.is c.in_ok-code.ensures.computed c.in_ok-code.ensures.effect c.in_ok-code.ensures.faults_noted c.in_ok-code.ensures.attributes in
    let as_noted = found_knows c.args.self.now _ s c.args.c h c.index_mut.result.now c.note.new.self c.in-Change.faulted refl refl c.requires c.index_mut.ensures.value refl c.note.ensures knows in
    let says = c.is_beyond.ensures s (found c.in-Change.faulted h) it.change config (moded_up s c.args.c h c.in-Some.mode mode) as_noted (announcing_as _ _ _ _ it.change c.deref.ensures.value c.deref-in-Change.ensures.value it.announces) in
    update_within s c.args.c h c.args.body.now c.in-Some.mode it.change c.in-Change.faulted p mode it.is (is_none_beyond (client_of s c.args.c).limit (it.change ∷ h.changes) (sym says ∙ c.if-is_beyond.false))
    (part (λ q has. ap (has_prefix q) c.deref-in-Change-3.ensures.value ∙ subst AreApart c.in-Change.is c.in_ok-code.ensures.apart q (ap (has_prefix q) (sym c.deref-in-Change-2.ensures.value) ∙ has)) s (found c.in-Change.faulted h) it.change live as_noted
    (same_change_as _ _ _ _ _ it.change c.deref-in-Change-2.ensures.value c.deref-in-Change-3.ensures.value it.same) p differs))

pub returns-in_err-code-clause-others_touched : goal.returns-in_err-code-clause-others_touched
returns-in_err-code-clause-others_touched c = touches_others_same c.args.c c.args.self.now.ribs c.args.self.now.ribs refl

pub returns-else-is_beyond-clause-others_touched : goal.returns-else-is_beyond-clause-others_touched
returns-else-is_beyond-clause-others_touched c = c.change.ensures.others_touched (λ p has.
    ap (has_prefix p) c.deref-in-Change-3.ensures.value
    ∙ subst AreApart c.in-Change.is c.in_ok-code.ensures.apart p (ap (has_prefix p) (sym c.deref-in-Change-2.ensures.value) ∙ has))

pub returns-in_err-code-clause-keeps : goal.returns-in_err-code-clause-keeps
returns-in_err-code-clause-keeps c = λ s h config knows none. keeps_same _ _ refl refl

pub returns-then-is_beyond-clause-keeps : goal.returns-then-is_beyond-clause-keeps
unfolding client_count
returns-then-is_beyond-clause-keeps c = λ s h config knows none.
    c.session_hears-then-is_beyond.ensures.keeps s (found c.in-Change.faulted h) config (found_knows c.args.self.now _ s c.args.c h c.index_mut.result.now c.note.new.self c.in-Change.faulted refl refl c.requires c.index_mut.ensures.value refl c.note.ensures knows) none

pub returns-else-is_beyond-clause-keeps : goal.returns-else-is_beyond-clause-keeps
unfolding client_count
returns-else-is_beyond-clause-keeps c = λ s h config knows none.
    c.change.ensures.keeps s (found c.in-Change.faulted h) config (found_knows c.args.self.now _ s c.args.c h c.index_mut.result.now c.note.new.self c.in-Change.faulted refl refl c.requires c.index_mut.ensures.value refl c.note.ensures knows) none

pub returns-else-is_beyond-clause-spares : goal.returns-else-is_beyond-clause-spares
unfolding client_count
returns-else-is_beyond-clause-spares c = kept_spares c.args.c c.args.self.now _ c.change.new.self c.note.new.self c.requires refl refl refl refl refl c.change.ensures.spares

pub returns-then-is_beyond-clause-spares : goal.returns-then-is_beyond-clause-spares
unfolding client_count
returns-then-is_beyond-clause-spares c = kept_spares c.args.c c.args.self.now _ c.session_hears-then-is_beyond.new.self c.note.new.self c.requires refl refl refl refl refl c.session_hears-then-is_beyond.ensures.spares
