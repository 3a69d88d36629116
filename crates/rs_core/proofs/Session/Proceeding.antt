-- Which messages go to a client, after connections that come and are lost, octets that are taken and messages that begin.
use Rattle.std.proofs.Common.{◌≡◌, inl, inr, ℕ, zero, suc, Bool, true, false, List, [], ◌∷◌, ◌++◌, refl, sym, ◌∙◌, ap, subst, take, drop, append_assoc}
use Rattle.std.specs.Prelude.{Option, Some, None}
use Rattle.std.proofs.lemmas.Bool.{false≢true}
use Rattle.std.proofs.lemmas.List.{append-nil, take-append-drop}
use Rattle.rs_octets.specs.declared.heads.Kind.TheVariants as kinds
use Rattle.rs_open.specs.declared.short.Short.{Short}
use Rattle.rs_open.specs.declared.writing.ServerOpen.{ServerOpen}
use Rattle.rs_open.specs.Writing.{keepalive, server_open}
use Rattle.rs_session.specs.declared.settings.Settings.{Settings}
use Rattle.rs_session.specs.Items.{Item, Came, is_connected}
use Rattle.rs_session.specs.Endings.{Fate, GoesOn, Ends, IsBrief}
use Rattle.rs_session.specs.Sessions.{state_of, is_live, fate}
use Rattle.rs_session.proofs.Briefs.{ends_briefly}
use Rattle.rs_session.proofs.Lasting.{live_lasts}
use Rattle.rs_outlet.specs.declared.answers.Speech.{Speech}
use Rattle.rs_outlet.specs.Message.Next.{note_octets}
use Rattle.rs_core.specs.Session.Conversations.{IsConversation, IsCutOff, Outgoing, Concludes, Converses, update_speech}
use Rattle.rs_core.specs.Told.Telling.{limit_to}
use Rattle.rs_core.proofs.Session.Conversing.{goes_on_with, ends_with, begins_with, keepalive_is_message, keepalive_routine, note_is_message}

abbrev nothing : Outgoing
nothing = record { flight = []; note = None; keepalive_due = false }

-- ---- a connection came, or was lost

pub came_converses : (settings : Settings) (said : ServerOpen) (items : List Item) (out : Outgoing) → out.flight ≡ server_open said → out.note ≡ None → Converses settings said (Came ∷ items) [] out
came_converses settings said items out flight note = record {
  connected = λ there. (note, subst (λ f. IsConversation said None [] f) (sym flight) (begins_with said));
  alone = λ none. absurd (false≢true (sym none));
}

pub nothing_converses : (settings : Settings) (said : ServerOpen) (items : List Item) (out : Outgoing) → is_connected items ≡ false → out ≡ nothing → Converses settings said items [] out
nothing_converses settings said items out none is = record { connected = λ there. absurd (false≢true (sym none ∙ there)); alone = λ _. (refl, is) }

-- ---- octets are taken

take_none : (n : ℕ) → ◌≡◌ {A = List ℕ} (take n []) []
take_none zero = refl
take_none (suc n) = refl

drop_none : (n : ℕ) → ◌≡◌ {A = List ℕ} (drop n []) []
drop_none zero = refl
drop_none (suc n) = refl

took_concludes : (f : Fate) (n : ℕ) (said : ServerOpen) (speech : Option Speech) (taken : List ℕ) (old new : Outgoing) → new ≡ record old { flight = drop n old.flight } → Concludes f said speech taken old
    → Concludes f said speech (taken ++ take n old.flight) new
took_concludes f n said speech taken old new e h = by_fate f h where
  flight : new.flight ≡ drop n old.flight
  flight = ap (λ (o : Outgoing). o.flight) e

  note : new.note ≡ old.note
  note = ap (λ (o : Outgoing). o.note) e

  same : (taken ++ take n old.flight) ++ new.flight ≡ taken ++ old.flight
  same = ap (λ l. (taken ++ take n old.flight) ++ l) flight ∙ append_assoc taken (take n old.flight) (drop n old.flight) ∙ ap (λ l. taken ++ l) (take-append-drop n old.flight)

  on : (last : List (List ℕ)) → IsConversation said speech last (taken ++ old.flight) → IsConversation said speech last ((taken ++ take n old.flight) ++ new.flight)
  on last c = subst (λ o. IsConversation said speech last o) (sym same) c

  by_fate : (f : Fate) → Concludes f said speech taken old → Concludes f said speech (taken ++ take n old.flight) new
  by_fate GoesOn h = (note ∙ h.0, on [] h.1)
  by_fate (Ends (Some said_last)) (keepalive_due, inl (waits, c)) = (ap (λ (o : Outgoing). o.keepalive_due) e ∙ keepalive_due, inl (note ∙ waits, on [] c))
  by_fate (Ends (Some said_last)) (keepalive_due, inr (gone, c)) = (ap (λ (o : Outgoing). o.keepalive_due) e ∙ keepalive_due, inr (note ∙ gone, on (note_octets said_last ∷ []) c))
  by_fate (Ends None) h = (
    e ∙ ap (λ (o : Outgoing). record o { flight = drop n o.flight }) h.0 ∙ ap (λ l. record { flight = l; note = None; keepalive_due = false }) (drop_none n),
    subst (λ o. IsCutOff said speech o) (sym (ap (λ (o : Outgoing). taken ++ take n o.flight) h.0 ∙ ap (λ l. taken ++ l) (take_none n) ∙ append-nil taken)) h.1,
  )

pub took_converses : (n : ℕ) (settings : Settings) (said : ServerOpen) (items : List Item) (taken : List ℕ) (old new : Outgoing) → new ≡ record old { flight = drop n old.flight }
    → Converses settings said items taken old → Converses settings said items (taken ++ take n old.flight) new
took_converses n settings said items taken old new e h = record {
  connected = λ there. took_concludes (fate settings items) n said (update_speech settings items) taken old new e (h.connected there);
  alone = λ none. let was = h.alone none in (
    (λ i. was.0 i ++ take n (was.1 i).flight) ∙ take_none n,
    e ∙ ap (λ (o : Outgoing). record o { flight = drop n o.flight }) was.1 ∙ ap (λ l. record { flight = l; note = None; keepalive_due = false }) (drop_none n),
  );
}

-- ---- the next message begins

waits_none : {A : Type 0} (note : Short) (waits : Option Short) → waits ≡ Some note → waits ≡ None → A
waits_none note waits e f = absurd (let g : ◌≡◌ {A = Option Short} None (Some note) = sym f ∙ e in cc)

bare_taken : (taken flight : List ℕ) → flight ≡ [] → taken ++ flight ≡ taken
bare_taken taken flight empty = ap (λ l. taken ++ l) empty ∙ append-nil taken

note_concludes : (note : Short) (f : Fate) (said : ServerOpen) (speech : Option Speech) (taken : List ℕ) (old new : Outgoing) → old.flight ≡ [] → old.note ≡ Some note → new ≡ record old { flight = note_octets note; note = None }
    → ((last : Short) → f ≡ Ends (Some last) → IsBrief last) → Concludes f said speech taken old → Concludes f said speech taken new
note_concludes note GoesOn said speech taken old new empty waits e brief h = waits_none note old.note waits h.0
note_concludes note (Ends None) said speech taken old new empty waits e brief h = waits_none note old.note waits (ap (λ (o : Outgoing). o.note) h.0)
note_concludes note (Ends (Some last)) said speech taken old new empty waits e brief (keepalive_due, inr (gone, c)) = waits_none note old.note waits gone
note_concludes note (Ends (Some last)) said speech taken old new empty waits e brief (keepalive_due, inl (is, c)) =
    let same : note ≡ last = let f : ◌≡◌ {A = Option Short} (Some note) (Some last) = sym waits ∙ is in cc in (
      ap (λ (o : Outgoing). o.keepalive_due) e ∙ keepalive_due,
      inr (
        ap (λ (o : Outgoing). o.note) e,
        subst (λ f. IsConversation said speech (note_octets last ∷ []) (taken ++ f)) (sym (ap (λ (o : Outgoing). o.flight) e ∙ ap note_octets same))
            (ends_with said speech taken (note_octets last) (note_is_message (limit_to speech) said last (brief last refl)) (subst (λ o. IsConversation said speech [] o) (bare_taken taken old.flight empty) c)),
      ),
    )

pub note_converses : (note : Short) (settings : Settings) (said : ServerOpen) (items : List Item) (taken : List ℕ) (old new : Outgoing) → old.flight ≡ [] → old.note ≡ Some note
    → new ≡ record old { flight = note_octets note; note = None } → Converses settings said items taken old → Converses settings said items taken new
note_converses note settings said items taken old new empty waits e h = record {
  connected = λ there. note_concludes note (fate settings items) said (update_speech settings items) taken old new empty waits e (λ last f. ends_briefly settings items (Some last) f) (h.connected there);
  alone = λ none. waits_none note old.note waits (ap (λ (o : Outgoing). o.note) (h.alone none).1);
}

keepalives_never : {A : Type 0} (b : Bool) → b ≡ true → b ≡ false → A
keepalives_never b e f = absurd (false≢true (sym f ∙ e))

keepalive_concludes : (f : Fate) (said : ServerOpen) (speech : Option Speech) (taken : List ℕ) (old new : Outgoing) → old.flight ≡ [] → old.note ≡ None → old.keepalive_due ≡ true → new ≡ record old { flight = keepalive; keepalive_due = false }
    → Concludes f said speech taken old → Concludes f said speech taken new
keepalive_concludes GoesOn said speech taken old new empty quiet due e h = (
  ap (λ (o : Outgoing). o.note) e ∙ quiet,
  subst (λ f. IsConversation said speech [] (taken ++ f)) (sym (ap (λ (o : Outgoing). o.flight) e))
      (goes_on_with said speech taken keepalive kinds.Keepalive (keepalive_is_message (limit_to speech)) (keepalive_routine speech) (subst (λ o. IsConversation said speech [] o) (bare_taken taken old.flight empty) h.1)),
)
keepalive_concludes (Ends (Some note)) said speech taken old new empty quiet due e h = keepalives_never old.keepalive_due due h.0
keepalive_concludes (Ends None) said speech taken old new empty quiet due e h = keepalives_never old.keepalive_due due (ap (λ (o : Outgoing). o.keepalive_due) h.0)

pub keepalive_converses : (settings : Settings) (said : ServerOpen) (items : List Item) (taken : List ℕ) (old new : Outgoing) → old.flight ≡ [] → old.note ≡ None → old.keepalive_due ≡ true
    → new ≡ record old { flight = keepalive; keepalive_due = false } → Converses settings said items taken old → Converses settings said items taken new
keepalive_converses settings said items taken old new empty quiet due e h = record {
  connected = λ there. keepalive_concludes (fate settings items) said (update_speech settings items) taken old new empty quiet due e (h.connected there);
  alone = λ none. keepalives_never old.keepalive_due due (ap (λ (o : Outgoing). o.keepalive_due) (h.alone none).1);
}

-- octets in place of none, while the session lasts
pub routine_converses : (speech : Speech) (settings : Settings) (said : ServerOpen) (items : List Item) (taken : List ℕ) (old new : Outgoing) → is_live (state_of settings items) ≡ true → update_speech settings items ≡ Some speech → old.flight ≡ [] → new.note ≡ None
    → (IsConversation said (Some speech) [] taken → IsConversation said (Some speech) [] (taken ++ new.flight)) → Converses settings said items taken old → Converses settings said items taken new
routine_converses speech settings said items taken old new live spoken empty quiet goes h = let lasts = live_lasts settings items live in record {
  connected = λ there. let was = subst (λ f. Concludes f said (update_speech settings items) taken old) lasts.goes_on (h.connected there) in
      subst (λ f. Concludes f said (update_speech settings items) taken new) (sym lasts.goes_on)
      (quiet, subst (λ m. IsConversation said m [] (taken ++ new.flight)) (sym spoken) (goes (subst (λ m. IsConversation said m [] taken) spoken (subst (λ o. IsConversation said (update_speech settings items) [] o) (bare_taken taken old.flight empty) was.1))));
  alone = λ none. absurd (false≢true (sym none ∙ lasts.connected));
}
