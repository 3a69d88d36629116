use Rattle.std.proofs.Common.{◌<◌, [], ◌∷◌, length, refl, sym, ◌∙◌, ap, subst}
use Rattle.std.specs.Prelude.{Some, None, is_none, option_map, slice_get, if◌then◌else◌}
use Rattle.std.specs.Arc.{arc_value}
use Rattle.rs_attrs.specs.Effects.{has_prefix}
use Rattle.rs_update.specs.Laws.{IsSameChange}
use Rattle.rs_adjin.specs.AdjIns.{held_of}
use Rattle.std.specs.Global.{Vec}
use Rattle.std.proofs.lemmas.Option.{slice_get_read}
use Rattle.rs_session.specs.declared.session.Session.{Session}
use Rattle.rs_session.specs.declared.heard.Heard.TheVariants as heard
use Rattle.rs_session.specs.declared.act.Act.TheVariants as acts
use Rattle.rs_session.specs.Items.{Message}
use Rattle.rs_core.specs.Core.{client_count}
use Rattle.rs_core.specs.Session.Hearing.{session_in, changing, takes_in}
use Rattle.rs_core.specs.Session.OperatorRecords.{ending_by, no_faults}
use Rattle.rs_core.specs.declared.endings.Watched.{Watched}
use Rattle.rs_core.proofs.Run.Lists.{on_err, map_ok}
use Rattle.rs_core.proofs.Run.Acting.{acted, acted_spares, asked_by_message, has_acted}
use Rattle.rs_core.proofs.Told.BySession.{never_open_by_message}
use Rattle.rs_core.proofs.Run.Around.{others_alone_on}
use Rattle.rs_core.proofs.Touched.KeptAnswers.{answers_on, routes_answers}
use Rattle.rs_core.proofs.Touched.ChangedPrefixes.{touches_withdrawn}
use Rattle.rs_core.proofs.Session.Updating.{changed, changed_within, cut_after, none_there, not_taken}
use Rattle.rs_outlet.specs.Views.{View}
use Rattle.rs_core.proofs.Touched.OwnSession.{item_keeps, keeps_same}
use Rattle.rs_core.proofs.route_server.Core.change.Goals as goal

pub returns-in-Some-clause-refused : goal.returns-in-Some-clause-refused
unfolding client_count
returns-in-Some-clause-refused c =
    let lt : c.args.c < length c.args.self.now.sessions.items = subst (λ k. c.args.c < k) (sym c.args.self.now.sessions_len) c.requires.client in
    let read = slice_get_read _ _ _ _ (sym c.args.self.now.sessions_len) c.requires.client c.index_mut.ensures.value in
    on_err c.announce_all.result (λ s h knows. cut_after c.args.self.now c.announce_all.new.self c.index_mut.result.now c.message.new.self s c.args.c h (heard.Update None) acts.None read lt
    (ap (λ (v : Vec Session). v.items) (c.announce_all.ensures.alone.sessions ∙ c.withdraw_all.ensures.alone.sessions)) c.in-None.ensures.hears knows)

pub returns-in_default : goal.returns-in_default
unfolding client_count
returns-in_default c =
    let old = c.args.self.now in
    let new = c.act.new.self in
    let done = has_acted old new c.args.c (Message (heard.Update None)) c.message.result c.index_mut.result.now c.message.new.self c.index_mut-in_default.result.now c.end.new.self c.ending_by.result (ending_by [] c.message.result) c.requires.client
    c.index_mut.ensures.value c.index_mut-in_default.ensures.value c.message.ensures.hears c.ending_by.ensures c.end.ensures
    (ap (λ (v : Vec Session). v.items) c.act.ensures.sessions) (ap (λ (v : Vec Watched). v.items) c.act.ensures.watched) c.act.ensures.buffers c.act.ensures.config c.act.ensures.tables c.act.ensures.own in
    record {
      spares = acted_spares old new c.args.c c.message.new.self c.act.ensures.count c.act.ensures.config done.here done.sessions done.buffers c.act.ensures.others c.act.ensures.others_alone done.notes.others c.act.ensures.answers;
      buffers = c.act.ensures.buffers;
      heard = λ s h change live knows same. acted old new _ (Message (heard.Update None)) _ _ s c.args.c h (takes_in s c.args.c (changing None change no_faults) h) (ending_by []) tt done (never_open_by_message (session_in s c.args.c) (heard.Update None) h.items) refl refl refl (asked_by_message s c.args.c (heard.Update None) h _ refl)
          (λ down up. ap (λ b. if b then change ∷ h.changes else []) down)
          (λ up now. absurd (not_taken old c.index_mut.result.now c.message.new.self s c.args.c h c.message.result done.read c.message.ensures.hears live up knows c.in_default.not-None)) refl refl knows;
      refused = tt;
      part = tt;
      others_touched = λ apart. c.act.ensures.others_touched;
      keeps = item_keeps _ _ _ _ _ _ _ _ done;
    }

pub returns-in-None-attrs-clause-heard : goal.returns-in-None-attrs-clause-heard
unfolding client_count
returns-in-None-attrs-clause-heard c = λ s h change live knows same.
    let lt : c.args.c < length c.args.self.now.sessions.items = subst (λ k. c.args.c < k) (sym c.args.self.now.sessions_len) c.requires.client in
    let read = slice_get_read _ _ _ _ (sym c.args.self.now.sessions_len) c.requires.client c.index_mut.ensures.value in
    let none = sym c.requires.attributes ∙ ap is_none c.in-None-attrs.is in
    changed c.args.self.now c.withdraw_all.new.self c.index_mut.result.now c.message.new.self s c.args.c h c.args.withdrawn.now c.args.announced.now (option_map arc_value c.args.attrs) change read lt
    (ap (λ (v : Vec Session). v.items) c.withdraw_all.ensures.alone.sessions) c.in-None.ensures.hears c.in-None.ensures.takes
    (λ p. c.withdraw_all.ensures.held.held p
    ∙ sym (ap (λ b. if b then option_map arc_value c.args.attrs else (if has_prefix p c.args.withdrawn.now then None else held_of c.args.self.now.ribs.tables c.args.c p)) (none_there p c.args.announced.now none)))
    c.withdraw_all.ensures.held.identifier c.withdraw_all.ensures.alone.config c.withdraw_all.ensures.alone.touched.own live same c.withdraw_all.ensures.alone.watched knows

pub returns-in-Some-clause-spares : goal.returns-in-Some-clause-spares
unfolding client_count
returns-in-Some-clause-spares c =
    let lt : c.args.c < length c.args.self.now.sessions.items = subst (λ k. c.args.c < k) (sym c.args.self.now.sessions_len) c.requires.client in
    acted_spares c.args.self.now c.announce_all.new.self c.args.c c.message.new.self (c.announce_all.ensures.alone.count ∙ c.withdraw_all.ensures.alone.count) (c.announce_all.ensures.alone.config ∙ c.withdraw_all.ensures.alone.config) lt
    (ap (λ (v : Vec Session). v.items) (c.announce_all.ensures.alone.sessions ∙ c.withdraw_all.ensures.alone.sessions)) (c.announce_all.ensures.alone.buffers ∙ c.withdraw_all.ensures.alone.buffers)
    (record {
      held = λ d p ne. c.announce_all.ensures.alone.others.held d p ne ∙ c.withdraw_all.ensures.alone.others.held d p ne;
      identifiers = λ d ne. c.announce_all.ensures.alone.others.identifiers d ne ∙ c.withdraw_all.ensures.alone.others.identifiers d ne;
    })
    (others_alone_on c.args.c c.args.self.now.ribs c.withdraw_all.new.self.ribs c.announce_all.new.self.ribs (c.withdraw_all.new.self.ribs_len ∙ c.withdraw_all.ensures.alone.count ∙ sym c.args.self.now.ribs_len)
    c.withdraw_all.ensures.alone.touched.others c.announce_all.ensures.alone.touched.others)
    (λ d ne. ap (λ (v : Vec Watched). slice_get v.items d) (c.announce_all.ensures.alone.watched ∙ c.withdraw_all.ensures.alone.watched))
    (answers_on c.args.self.now.ribs c.withdraw_all.new.self.ribs c.announce_all.new.self.ribs (c.withdraw_all.new.self.ribs_len ∙ c.withdraw_all.ensures.alone.count ∙ sym c.args.self.now.ribs_len)
    (routes_answers c.args.c c.args.self.now.ribs c.withdraw_all.new.self.ribs c.withdraw_all.ensures.alone.touched) (routes_answers c.args.c c.withdraw_all.new.self.ribs c.announce_all.new.self.ribs c.announce_all.ensures.alone.touched))

pub returns-in-Some-clause-heard : goal.returns-in-Some-clause-heard
unfolding client_count
returns-in-Some-clause-heard c = map_ok c.announce_all.result c.announce_all.ensures.held (λ held s h change live knows same.
    let lt : c.args.c < length c.args.self.now.sessions.items = subst (λ k. c.args.c < k) (sym c.args.self.now.sessions_len) c.requires.client in
    let read = slice_get_read _ _ _ _ (sym c.args.self.now.sessions_len) c.requires.client c.index_mut.ensures.value in
    changed c.args.self.now c.announce_all.new.self c.index_mut.result.now c.message.new.self s c.args.c h c.args.withdrawn.now c.args.announced.now (Some (arc_value c.in-Some.attrs)) change read lt
    (ap (λ (v : Vec Session). v.items) (c.announce_all.ensures.alone.sessions ∙ c.withdraw_all.ensures.alone.sessions)) c.in-None.ensures.hears c.in-None.ensures.takes
    (λ p. held.held p ∙ ap (λ o. if has_prefix p c.args.announced.now then Some (arc_value c.in-Some.attrs) else o) (c.withdraw_all.ensures.held.held p))
    (held.identifier ∙ c.withdraw_all.ensures.held.identifier) (c.announce_all.ensures.alone.config ∙ c.withdraw_all.ensures.alone.config)
    (λ none. c.announce_all.ensures.alone.touched.own none ∙ c.withdraw_all.ensures.alone.touched.own none) live
    (subst (λ o. IsSameChange (record { withdrawn = c.args.withdrawn.now; announced = c.args.announced.now; attributes = option_map arc_value o }) change) c.in-Some.is same) (c.announce_all.ensures.alone.watched ∙ c.withdraw_all.ensures.alone.watched) knows)

pub returns-in-Some-clause-part : goal.returns-in-Some-clause-part
unfolding client_count
returns-in-Some-clause-part c = on_err c.announce_all.result (λ apart s h change live knows same p differs.
    changed_within c.args.self.now c.announce_all.new.self c.index_mut.result.now c.message.new.self s c.args.c h c.args.withdrawn.now c.args.announced.now (Some (arc_value c.in-Some.attrs)) change c.withdraw_all.new.self.ribs.tables
    (slice_get_read _ _ _ _ (sym c.args.self.now.sessions_len) c.requires.client c.index_mut.ensures.value) c.in-None.ensures.hears c.in-None.ensures.takes c.withdraw_all.ensures.held c.announce_all.ensures.part apart live
    (subst (λ o. IsSameChange (record { withdrawn = c.args.withdrawn.now; announced = c.args.announced.now; attributes = option_map arc_value o }) change) c.in-Some.is same) knows p differs)

pub returns-in-None-attrs-clause-others_touched : goal.returns-in-None-attrs-clause-others_touched
returns-in-None-attrs-clause-others_touched c = λ apart. c.withdraw_all.ensures.alone.others_touched

pub returns-in-Some-clause-others_touched : goal.returns-in-Some-clause-others_touched
unfolding client_count
returns-in-Some-clause-others_touched c = λ apart.
    touches_withdrawn c.args.c c.args.withdrawn.now c.args.announced.now (Some (arc_value c.in-Some.attrs)) c.args.self.now.ribs c.withdraw_all.new.self.ribs c.announce_all.new.self.ribs (c.withdraw_all.new.self.ribs_len ∙ c.withdraw_all.ensures.alone.count ∙ sym c.args.self.now.ribs_len)
    c.withdraw_all.ensures.held c.announce_all.ensures.part apart c.withdraw_all.ensures.alone.others_touched c.announce_all.ensures.alone.others_touched

pub returns-in-None-attrs-clause-keeps : goal.returns-in-None-attrs-clause-keeps
returns-in-None-attrs-clause-keeps c = λ s h config knows none.
    let own = c.withdraw_all.ensures.alone.touched.own none in
    keeps_same _ _ (ap (λ (v : View). v.speech) own) (ap (λ (v : View). v.touched) own)

pub returns-in-Some-clause-keeps : goal.returns-in-Some-clause-keeps
returns-in-Some-clause-keeps c = λ s h config knows none.
    let own = c.announce_all.ensures.alone.touched.own none ∙ c.withdraw_all.ensures.alone.touched.own none in
    keeps_same _ _ (ap (λ (v : View). v.speech) own) (ap (λ (v : View). v.touched) own)

pub returns-in-None-attrs-clause-spares : goal.returns-in-None-attrs-clause-spares
unfolding client_count
returns-in-None-attrs-clause-spares c =
    let lt : c.args.c < length c.args.self.now.sessions.items = subst (λ k. c.args.c < k) (sym c.args.self.now.sessions_len) c.requires.client in
    let alone = c.withdraw_all.ensures.alone in
    acted_spares c.args.self.now c.withdraw_all.new.self c.args.c c.message.new.self alone.count alone.config lt (ap (λ (v : Vec Session). v.items) alone.sessions) alone.buffers alone.others alone.touched.others
    (λ d ne. ap (λ (v : Vec Watched). slice_get v.items d) alone.watched) (routes_answers c.args.c c.args.self.now.ribs c.withdraw_all.new.self.ribs alone.touched)
