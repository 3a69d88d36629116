use Rattle.std.proofs.Common.{◌<◌, ◌∷◌, length, refl, sym, ◌∙◌, ap, subst}
use Rattle.std.specs.Prelude.{slice_get}
use Rattle.std.specs.Global.{Vec}
use Rattle.std.proofs.lemmas.Option.{slice_get_read}
use Rattle.rs_session.specs.declared.session.Session.{Session}
use Rattle.rs_session.specs.Items.{Left}
use Rattle.rs_session.specs.Hearing.{HasHeard}
use Rattle.rs_adjin.specs.AdjIns.{held_of, identifier_of}
use Rattle.rs_core.specs.Core.{client_count}
use Rattle.rs_core.specs.Session.Hearing.{session_in, leaves}
use Rattle.rs_outlet.specs.Views.{View}
use Rattle.rs_core.specs.Ribs.{KeepsAnswers, TouchesOthersAtChange, outlet_in}
use Rattle.rs_core.specs.Told.Outlets.{LeavesOthersAlone}
use Rattle.rs_core.specs.declared.endings.Watched.{Watched}
use Rattle.rs_core.specs.declared.ribs.Ribs.{Ribs}
use Rattle.rs_core.proofs.Run.Lists.{set_at}
use Rattle.rs_core.proofs.Touched.ChangedPrefixes.{held_touches_others, touches_then_own}
use Rattle.rs_core.proofs.Run.Around.{held_others_alone, own_acts_on_outlet, others_alone_on}
use Rattle.rs_core.proofs.Touched.KeptAnswers.{answers_on, held_answers, own_answers}
use Rattle.rs_core.specs.Session.Conversations.{outgoing_of, own_open}
use Rattle.rs_core.proofs.Session.Proceeding.{nothing_converses}
use Rattle.rs_core.proofs.Told.Alike.{cleared_out, cleared_silent}
use Rattle.rs_core.proofs.Told.BySession.{spoken_over}
use Rattle.rs_core.proofs.Told.Ordering.{over_ordered}
use Rattle.rs_core.proofs.Session.OperatorRecords.{watched_still}
use Rattle.rs_core.proofs.Run.Agreeing.{begun_held, begun_identifier, others_held, others_identifiers}
use Rattle.rs_core.proofs.route_server.Core.forget.Goals as goal

pub returns-clause-spares : goal.returns-clause-spares
unfolding client_count
returns-clause-spares c =
    let before = c.args.self.now.sessions.items in
    let lt : c.args.c < length before = subst (λ k. c.args.c < k) (sym c.args.self.now.sessions_len) c.requires in
    let ribs = c.pass_over.ensures.ribs in
    record {
      count = c.pass_over.ensures.count;
      config = c.clear.ensures.settings.config ∙ c.forget_routes.ensures.settings.config ∙ ap (λ (r : Ribs). r.config) ribs;
      sessions = λ d ne. ap (λ (v : Vec Session). slice_get v.items d) c.pass_over.ensures.sessions ∙ (set_at before c.args.c c.lost.new.self lt).others d ne;
      buffers = c.pass_over.ensures.others;
      held = λ d p ne. ap (λ t. held_of t d p) c.clear.ensures.tables ∙ others_held c.pass_over.new.self.ribs.tables c.forget_routes.new.self.tables c.args.c 0 c.forget_routes.ensures.held d p ne ∙ ap (λ (r : Ribs). held_of r.tables d p) ribs;
      identifiers = λ d ne. ap (λ t. identifier_of t d) c.clear.ensures.tables ∙ others_identifiers c.pass_over.new.self.ribs.tables c.forget_routes.new.self.tables c.args.c 0 c.forget_routes.ensures.held d ne ∙ ap (λ (r : Ribs). identifier_of r.tables d) ribs;
      others_alone = subst (λ r. LeavesOthersAlone c.args.c r c.clear.new.self) ribs
          (others_alone_on c.args.c c.pass_over.new.self.ribs c.forget_routes.new.self c.clear.new.self c.forget_routes.ensures.settings.count
          (held_others_alone c.args.c c.pass_over.new.self.ribs.tables c.pass_over.new.self.ribs c.forget_routes.new.self (c.forget_routes.ensures.touched c.pass_over.new.self.numbered))
          (own_acts_on_outlet c.args.c _ c.forget_routes.new.self c.clear.new.self c.clear.ensures.outlet));
      watched = λ d ne. ap (λ (v : Vec Watched). slice_get v.items d) c.pass_over.ensures.watched;
      answers = subst (λ r. KeepsAnswers r c.clear.new.self) ribs
          (answers_on c.pass_over.new.self.ribs c.forget_routes.new.self c.clear.new.self c.forget_routes.ensures.settings.count
          (held_answers c.args.c c.pass_over.new.self.ribs.tables c.pass_over.new.self.ribs c.forget_routes.new.self (c.forget_routes.ensures.touched c.pass_over.new.self.numbered))
          (own_answers c.args.c _ c.forget_routes.new.self c.clear.new.self c.clear.ensures.outlet (λ v w e. ap (λ (x : View). x.last) e)));
    }

pub returns-clause-forgotten : goal.returns-clause-forgotten
unfolding client_count
returns-clause-forgotten c = λ s h why cut watched.
    let before = c.args.self.now.sessions.items in
    let lt : c.args.c < length before = subst (λ k. c.args.c < k) (sym c.args.self.now.sessions_len) c.requires in
    let read = slice_get_read _ _ _ _ (sym c.args.self.now.sessions_len) c.requires c.index_mut.ensures.value in
    let was = cut.session c.index_mut.result.now read in
    let heard = c.lost.ensures.forgotten (session_in s c.args.c) cut.items was h.items (sym cut.moment) in
    record {
      knows = record {
        session = λ x e. subst (λ z. HasHeard z (session_in s c.args.c) (Left ∷ h.items))
            (sym ((set_at before c.args.c c.lost.new.self lt).own x (ap (λ (v : Vec Session). slice_get v.items c.args.c) (sym c.pass_over.ensures.sessions) ∙ e))) heard;
        table = λ p. ap (λ t. held_of t c.args.c p) c.clear.ensures.tables ∙ begun_held c.pass_over.new.self.ribs.tables c.forget_routes.new.self.tables c.args.c 0 c.forget_routes.ensures.held p;
        identifier = ap (λ t. identifier_of t c.args.c) c.clear.ensures.tables ∙ begun_identifier c.pass_over.new.self.ribs.tables c.forget_routes.new.self.tables c.args.c 0 c.forget_routes.ensures.held;
        outlet = λ _ none.
            let is = c.clear.ensures.outlet.own none (subst (λ n. c.args.c < n) (sym (c.forget_routes.ensures.settings.count ∙ c.pass_over.new.self.ribs_len)) (subst (λ n. c.args.c < n) (sym c.pass_over.ensures.count) c.requires)) in
            let silent = cleared_silent (outlet_in c.forget_routes.new.self c.args.c none) (outlet_in c.clear.new.self c.args.c none) is in
            spoken_over s c.args.c (leaves s c.args.c why h) (outlet_in c.clear.new.self c.args.c none) refl refl silent.speech silent.order
            (record {
              messages = nothing_converses (session_in s c.args.c) (own_open s) (Left ∷ h.items) (outgoing_of (outlet_in c.clear.new.self c.args.c none)) refl
                  (cleared_out (outlet_in c.forget_routes.new.self c.args.c none) (outlet_in c.clear.new.self c.args.c none) is);
              keepalives = λ live. absurd (let f = live in cc);
            });
        ordered = λ _ none. over_ordered s c.args.c (leaves s c.args.c why h) (outlet_in c.clear.new.self c.args.c none) refl
            (cleared_silent (outlet_in c.forget_routes.new.self c.args.c none) (outlet_in c.clear.new.self c.args.c none) (c.clear.ensures.outlet.own none (subst (λ n. c.args.c < n) (sym (c.forget_routes.ensures.settings.count ∙ c.pass_over.new.self.ribs_len)) (subst (λ n. c.args.c < n) (sym c.pass_over.ensures.count) c.requires)))).speech;
        watched = watched_still c.args.self.now.watched.items c.pass_over.new.self.watched.items c.args.c (leaves s c.args.c why h).endings (leaves s c.args.c why h).faults (ap (λ (v : Vec Watched). v.items) c.pass_over.ensures.watched) watched;
      };
      waits = λ x e. record { rest = λ live. absurd (let f = live in cc); good = λ live. absurd (let f = live in cc) };
    }

pub returns-clause-others_touched : goal.returns-clause-others_touched
returns-clause-others_touched c = subst (λ r. TouchesOthersAtChange c.args.c r c.clear.new.self) c.pass_over.ensures.ribs
    (touches_then_own c.args.c _ c.pass_over.new.self.ribs c.forget_routes.new.self c.clear.new.self c.forget_routes.ensures.settings.count
    (held_touches_others c.args.c 0 c.pass_over.new.self.ribs c.forget_routes.new.self c.forget_routes.ensures.held (c.forget_routes.ensures.touched c.pass_over.new.self.numbered)) c.clear.ensures.tables c.clear.ensures.outlet)
