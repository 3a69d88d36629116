-- What an outlet says to its client, after octets that are taken, a message that begins, and a turn.
use Rattle.std.proofs.Common.{◌≡◌, inl, inr, ℕ, Bool, true, false, List, [], ◌∷◌, ◌++◌, ◌≤◌, length, refl, sym, ◌∙◌, ap, subst, take, drop, arith, append_assoc}
use Rattle.std.proofs.lemmas.List.{append-nil, take-append-drop}
use Rattle.std.specs.Prelude.{Option, Some, None, if◌then◌else◌}
use Rattle.std.specs.FinMap as fin
use Rattle.rs_octets.specs.Prefixes.{Prefix}
use Rattle.rs_attrs.specs.Meaning.{Attribute}
use Rattle.rs_session.specs.Sessions.{state_of, is_live, agreed_of}
use Rattle.rs_open.specs.declared.short.Limit.{Limit}
use Rattle.rs_open.specs.declared.short.Short.{Short}
use Rattle.rs_policy.specs.Configuration.{Configuration}
use Rattle.rs_outlet.specs.declared.answers.Speech.{Speech}
use Rattle.rs_octets.specs.declared.heads.Kind.TheVariants as kinds
use Rattle.rs_attrs.specs.Effects.{lacks_mandatory}
use Rattle.rs_open.specs.Notes.{limit_octets}
use Rattle.rs_open.specs.Writing.{keepalive}
use Rattle.rs_packer.specs.Packed.{announcement, withdrawal}
use Rattle.rs_outlet.specs.Message.Begins.{BeginsUpdate}
use Rattle.rs_outlet.specs.Decided.Due.{due_to}
use Rattle.rs_outlet.specs.Decided.HeldBy.{tables_of}
use Rattle.rs_outlet.specs.Decided.Turns.{IsCurrent}
use Rattle.rs_outlet.specs.Views.{View, AreNumbered, is_touched}
use Rattle.rs_adjin.specs.declared.adj_ins.AdjIns.{AdjIns}
use Rattle.rs_outlet.specs.Message.Begun.{HasBegun}
use Rattle.rs_core.specs.Touched.Turns.{IsDone, IsTurn}
use Rattle.rs_core.specs.Session.Hearing.{Hearing, session_in, state_in, is_up, offers}
use Rattle.rs_core.specs.Run.Meaning.{speech_by}
use Rattle.rs_core.specs.Told.Telling.{Speaks, limit_to, no_table}
use Rattle.rs_core.specs.Session.Keepalives.{AreKeepalives, IsNext}
use Rattle.rs_core.specs.Session.Conversations.{Converses, outgoing_of, own_open, update_speech}
use Rattle.rs_core.specs.Told.Outlets.{IsInOrder, SpeaksTo, Talks}
use Rattle.rs_core.proofs.Session.Conversing.{keepalive_is_message}
use Rattle.rs_core.proofs.Session.Proceeding.{took_converses, keepalive_converses, note_converses, routine_converses}
use Rattle.rs_core.proofs.Session.Keepalives.{keepalives_same, next_keepalives, still_keepalives}
use Rattle.rs_core.proofs.Told.NextUpdate.{spoken_by_update, all_gone, due_mandatory, limit_most, update_goes_on, update_is_next}
use Rattle.rs_core.proofs.Told.Telling.{speaks_on, speaks_same}
use Rattle.rs_core.proofs.Told.OneMessage.{announced_speaks, withdrawn_speaks}
use Rattle.rs_core.proofs.Run.Mandated.{due_has_mandatory}
use Rattle.rs_core.proofs.Told.Alike.{in_order, last_same, same_again, same_is}
use Rattle.rs_core.proofs.Told.BySession.{says_still, spoken_up, up_live, spoken_by, spoken_on}

-- ---- octets are taken, and messages begin

pub took_spoken : (s : Configuration) (c n : ℕ) (h next : Hearing) (v w : View) → w ≡ record v { flight = drop n v.flight } → next.items ≡ h.items → next.taken ≡ h.taken ++ take n v.flight → next.keepalives ≡ h.keepalives
    → SpeaksTo s c h v → SpeaksTo s c next w
took_spoken s c n h next v w e items taken keepalives at =
    spoken_by s s c h next v w (ap (λ l. if is_up (state_of (session_in s c) l) then speech_by s.top.extended (agreed_of (session_in s c) l) else None) items)
    (λ l. ap (λ k. is_live (state_of (session_in s c) k)) (sym items) ∙ l)
    same
    (ap (λ (x : View). x.speech) e) (ap (λ (x : View). x.note) e) (ap (λ (x : View). x.told) e)
    (in_order v w (ap (λ (x : View). x.speech) e) (ap (λ (x : View). x.loc) e) (ap (λ (x : View). x.told) e) (ap (λ (x : View). x.marked) e) (ap (λ (x : View). x.waits) e) at.order)
    (record {
      messages = subst (λ l. Converses (session_in s c) (own_open s) l next.taken (outgoing_of w)) (sym items) (subst (λ o. Converses (session_in s c) (own_open s) h.items o (outgoing_of w)) (sym taken)
          (took_converses n (session_in s c) (own_open s) h.items h.taken (outgoing_of v) (outgoing_of w) (ap outgoing_of e) at.talk.messages));
      keepalives = λ live. subst (λ l. AreKeepalives (own_open s) (limit_to (update_speech (session_in s c) l)) next.keepalives (next.taken ++ w.flight) w.keepalive_due) (sym items)
          (subst (λ b. AreKeepalives (own_open s) (limit_to (update_speech (session_in s c) h.items)) b (next.taken ++ w.flight) w.keepalive_due) (sym keepalives)
          (keepalives_same (own_open s) (limit_to (update_speech (session_in s c) h.items)) h.keepalives (h.taken ++ v.flight) (next.taken ++ w.flight) v.keepalive_due w.keepalive_due same (ap (λ (x : View). x.keepalive_due) e)
          (at.talk.keepalives (ap (λ k. is_live (state_of (session_in s c) k)) (sym items) ∙ live))));
    }) at where
      same : next.taken ++ w.flight ≡ h.taken ++ v.flight
      same = (λ i. taken i ++ (e i).flight) ∙ append_assoc h.taken (take n v.flight) (drop n v.flight) ∙ ap (λ l. h.taken ++ l) (take-append-drop n v.flight)

-- another message in place of none
said_next : (s : Configuration) (c : ℕ) (h : Hearing) (v w : View) → v.flight ≡ [] → v.note ≡ None → w.note ≡ None → w.speech ≡ v.speech → IsInOrder w
    → ((speech : Speech) → v.speech ≡ None → Speaks speech h.taken no_table → Speaks speech (h.taken ++ w.flight) no_table)
    → ((speech : Speech) → v.speech ≡ Some speech → Speaks speech h.taken (fin.get v.told) → Speaks speech (h.taken ++ w.flight) (fin.get w.told))
    → Talks s c (offers true h) w → SpeaksTo s c h v → SpeaksTo s c (offers true h) w
said_next s c h v w empty quiet note speech order down up talk at = record {
  talk = talk;
  speech = speech ∙ at.speech;
  quiet = λ l. note;
  before = λ l none sp. down sp (sym speech ∙ none) (subst (λ o. Speaks sp o no_table) bare_octets (at.before l (sym speech ∙ none) sp));
  since = λ sp is. up sp (sym speech ∙ is) (subst (λ o. Speaks sp o (fin.get v.told)) bare_octets (at.since sp (sym speech ∙ is)));
  order = order;
} where
  bare_octets : h.taken ++ v.flight ≡ h.taken
  bare_octets = ap (λ l. h.taken ++ l) empty ∙ append-nil h.taken

-- a NOTIFICATION waits only after the end of a session
noted : (s : Configuration) (c : ℕ) (h : Hearing) (v w : View) (note : Short) → v.note ≡ Some note → w.speech ≡ v.speech → IsInOrder w → Talks s c (offers true h) w → SpeaksTo s c h v → SpeaksTo s c (offers true h) w
noted s c h v w note waits speech order talk at = record {
  talk = talk;
  speech = speech ∙ at.speech;
  quiet = λ l. absurd (over l);
  before = λ l none sp. absurd (over l);
  since = λ sp is. absurd (over (up_live s c h (spoken_up s c h sp (sym at.speech ∙ sym speech ∙ is))));
  order = order;
} where
  over : is_live (state_in s c h) ≡ true → ⊥
  over l = let f : ◌≡◌ {A = Option Short} None (Some note) = sym (at.quiet l) ∙ waits in cc

update_spoken : (speech : Speech) (v w : View) (ins : AdjIns) (octets : List ℕ) → AreNumbered v ins → IsInOrder v → BeginsUpdate speech v w → Speaks speech octets (fin.get v.told) → Speaks speech (octets ++ w.flight) (fin.get w.told)
update_spoken speech v w ins octets numbered order (inl rests) s =
    subst (λ o. Speaks speech o (fin.get w.told)) (sym (ap (λ l. octets ++ l) rests.flight ∙ append-nil octets)) (speaks_same speech octets (fin.get v.told) (fin.get w.told) rests.settles.told s)
update_spoken speech v w ins octets numbered order (inr (inl gone)) s =
    withdrawn_speaks speech octets w.flight (fin.get v.told) (fin.get v.loc) (fin.get w.told) gone.prefixes
    (record { prefixes = gone.prefixes_legal; fits = let most = limit_most speech.limit in let fits : length (withdrawal gone.prefixes) ≤ limit_octets speech.limit = subst (λ f. length f ≤ limit_octets speech.limit) gone.flight gone.fits in omega (arith, most, fits) })
    gone.fits gone.flight (all_gone v gone.prefixes order.exact gone.waited) gone.settles.told s
update_spoken speech v w ins octets numbered order (inr (inr news)) s =
    announced_speaks speech octets w.flight (fin.get v.told) (fin.get v.loc) (fin.get w.told) news.prefixes news.attributes
    (record {
      legal = news.legal;
      mandatory = due_mandatory v news.prefixes news.attributes order news.some (news.due ins numbered);
      some = news.some;
      prefixes = news.prefixes_legal;
      fits = let most = limit_most speech.limit in
          let fits : length (announcement news.attributes speech.mode news.prefixes) ≤ limit_octets speech.limit = subst (λ f. length f ≤ limit_octets speech.limit) news.flight news.fits in omega (arith, most, fits);
    })
    news.fits news.flight (news.due ins numbered) news.settles.told s

-- a KEEPALIVE is no UPDATE
keepalives : (speech : Speech) (octets : List ℕ) (t : Prefix → Option (List Attribute)) → Speaks speech octets t → Speaks speech (octets ++ keepalive) t
keepalives speech octets t s = speaks_on speech octets keepalive kinds.Keepalive t refl (keepalive_is_message speech.limit) s

pub begun_spoken : (s : Configuration) (c : ℕ) (h : Hearing) (ins : AdjIns) (v w : View) → AreNumbered v ins → HasBegun v w → SpeaksTo s c h v → SpeaksTo s c (offers true h) w
begun_spoken s c h ins v w numbered b at = by_flight v.flight refl where
  rest_speech : w.speech ≡ v.speech
  rest_speech = ap (λ (x : View). x.speech) b.rest

  rest_order : IsInOrder w
  rest_order = record {
    mandatory = λ p m e. at.order.mandatory p m (ap (λ (x : View). fin.get x.loc p) (sym b.rest) ∙ e);
    exact = b.exact at.order.exact;
    down = λ silent. ap (λ (x : View). x.loc) b.rest ∙ at.order.down (sym rest_speech ∙ silent);
  }

  limit : Limit
  limit = limit_to (update_speech (session_in s c) h.items)

  by_speech : (o : Option Speech) → v.flight ≡ [] → v.note ≡ None → v.keepalive_due ≡ false → v.speech ≡ o → SpeaksTo s c (offers true h) w
  by_speech None empty quiet keepalive_due e = let is = b.down empty quiet keepalive_due e in
      spoken_on s s c h (offers true h) v w refl (λ l. l) refl (same_again v w (same_is v w is)) (record {
        messages = (says_still s c h v w (ap outgoing_of is) at).messages;
        keepalives = λ l. next_keepalives (own_open s) limit h.keepalives h.taken v.flight w.flight v.keepalive_due w.keepalive_due empty (subst (λ d. IsNext limit d w.flight) (sym keepalive_due) (inl (ap (λ (x : View). x.flight) is ∙ empty)))
            (ap (λ (x : View). x.keepalive_due) is ∙ keepalive_due) (at.talk.keepalives l);
      }) at
  by_speech (Some speech) empty quiet keepalive_due e = said_next s c h v w empty quiet (b.update empty quiet keepalive_due).0 rest_speech rest_order
      (λ sp none before. absurd (let f : ◌≡◌ {A = Option Speech} None (Some speech) = sym none ∙ e in cc))
      (λ sp is since. update_spoken sp v w ins h.taken numbered at.order (b.begins sp empty quiet keepalive_due is) since)
      (let up = spoken_up s c h speech (sym at.speech ∙ e) in record {
        messages = routine_converses speech (session_in s c) (own_open s) h.items h.taken (outgoing_of v) (outgoing_of w) (up_live s c h up)
            (spoken_by_update s c h speech up (sym at.speech ∙ e)) empty (b.update empty quiet keepalive_due).0
            (update_goes_on (own_open s) speech v w ins h.taken numbered at.order (b.begins speech empty quiet keepalive_due e)) at.talk.messages;
        keepalives = λ l. next_keepalives (own_open s) limit h.keepalives h.taken v.flight w.flight v.keepalive_due w.keepalive_due empty
            (subst (λ d. IsNext limit d w.flight) (sym keepalive_due) (subst (λ o. IsNext (limit_to o) false w.flight) (sym (spoken_by_update s c h speech up (sym at.speech ∙ e))) (update_is_next speech v w ins numbered at.order (b.begins speech empty quiet keepalive_due e)))) ((b.update empty quiet keepalive_due).1) (at.talk.keepalives l);
      }) at

  by_keepalive : (d : Bool) → v.flight ≡ [] → v.note ≡ None → v.keepalive_due ≡ d → SpeaksTo s c (offers true h) w
  by_keepalive true empty quiet e = let is = b.keepalive empty quiet e in said_next s c h v w empty quiet (ap (λ (x : View). x.note) is ∙ quiet) rest_speech rest_order
      (λ sp none before. subst (λ f. Speaks sp (h.taken ++ f) no_table) (sym (ap (λ (x : View). x.flight) is)) (keepalives sp h.taken no_table before))
      (λ sp up since. subst (λ f. Speaks sp (h.taken ++ f) (fin.get w.told)) (sym (ap (λ (x : View). x.flight) is))
      (keepalives sp h.taken (fin.get w.told) (subst (λ t. Speaks sp h.taken (fin.get t)) (sym (ap (λ (x : View). x.told) is)) since)))
      (record {
        messages = keepalive_converses (session_in s c) (own_open s) h.items h.taken (outgoing_of v) (outgoing_of w) empty quiet e (ap outgoing_of is) at.talk.messages;
        keepalives = λ l. next_keepalives (own_open s) limit h.keepalives h.taken v.flight w.flight v.keepalive_due w.keepalive_due empty (subst (λ d. IsNext limit d w.flight) (sym e) (ap (λ (x : View). x.flight) is)) (ap (λ (x : View). x.keepalive_due) is) (at.talk.keepalives l);
      }) at
  by_keepalive false empty quiet e = by_speech v.speech empty quiet e refl

  by_note : (o : Option Short) → v.flight ≡ [] → v.note ≡ o → SpeaksTo s c (offers true h) w
  by_note None empty e = by_keepalive v.keepalive_due empty e refl
  by_note (Some note) empty e = noted s c h v w note e rest_speech rest_order
      (record {
        messages = note_converses note (session_in s c) (own_open s) h.items h.taken (outgoing_of v) (outgoing_of w) empty e (ap outgoing_of (b.note note empty e)) at.talk.messages;
        keepalives = λ l. absurd (let f : ◌≡◌ {A = Option Short} None (Some note) = sym (at.quiet l) ∙ e in cc);
      }) at

  by_flight : (f : List ℕ) → v.flight ≡ f → SpeaksTo s c (offers true h) w
  by_flight [] e = by_note v.note e refl
  by_flight (x ∷ xs) e = let is = b.kept (λ empty. let f : ◌≡◌ {A = List ℕ} (x ∷ xs) [] = sym e ∙ empty in cc) in
      spoken_on s s c h (offers true h) v w refl (λ l. l) refl (same_again v w (same_is v w is)) (record {
        messages = (says_still s c h v w (ap outgoing_of is) at).messages;
        keepalives = λ l. still_keepalives (own_open s) limit h.keepalives h.taken x xs v.flight w.flight v.keepalive_due w.keepalive_due e (ap (λ (x : View). x.flight) is) (ap (λ (x : View). x.keepalive_due) is) (at.talk.keepalives l);
      }) at

-- ---- a turn

done_spoken : (s : Configuration) (c : ℕ) (h : Hearing) (config : Configuration) (ins : AdjIns) (v w : View) → AreNumbered v ins → IsCurrent config ins v → IsDone config ins v w → SpeaksTo s c h v → SpeaksTo s c h w
done_spoken s c h config ins v w numbered current done at =
    let turned = done.decided numbered current in
    spoken_by s s c h h v w refl (λ l. l) (ap (λ (x : View). h.taken ++ x.flight) done.rest) (ap (λ (x : View). x.speech) done.rest) (ap (λ (x : View). x.note) done.rest) turned.told
    (record {
      mandatory = λ p m e. by_speech v.speech refl p m e;
      exact = done.exact numbered at.order.exact;
      down = λ silent. let none = sym (ap (λ (x : View). x.speech) done.rest) ∙ silent in ap (λ (x : View). x.loc) (turned.down none).1 ∙ at.order.down none;
    }) (says_still s c h v w (ap outgoing_of done.rest) at) at where
      by_speech : (o : Option Speech) → v.speech ≡ o → (p : Prefix) (m : List Attribute) → fin.get w.loc p ≡ Some m → lacks_mandatory m ≡ false
      by_speech None none p m e = at.order.mandatory p m (ap (λ (x : View). fin.get x.loc p) (sym ((done.decided numbered current).down none).1) ∙ e)
      by_speech (Some speech) up p m e = by_touch (is_touched v.touched p) refl where
        by_touch : (b : Bool) → is_touched v.touched p ≡ b → lacks_mandatory m ≡ false
        by_touch true t = due_has_mandatory config ins v.client speech p m
            (sym ((done.decided numbered current).loc speech up p ∙ ap (λ b. if b then due_to (tables_of config ins) v.client speech p else fin.get v.loc p) t) ∙ e)
        by_touch false t = at.order.mandatory p m
            (sym ((done.decided numbered current).loc speech up p ∙ ap (λ b. if b then due_to (tables_of config ins) v.client speech p else fin.get v.loc p) t) ∙ e)

-- decided or refused, it says the same
pub turned_spoken : (s : Configuration) (c : ℕ) (h : Hearing) (config : Configuration) (ins : AdjIns) (v w : View) → AreNumbered v ins → IsCurrent config ins v → IsTurn config ins v w → SpeaksTo s c h v → SpeaksTo s c h w
turned_spoken s c h config ins v w numbered current (inl done) at = done_spoken s c h config ins v w numbered current done at
turned_spoken s c h config ins v w numbered current (inr refused) at =
    spoken_on s s c h h v w refl (λ l. l) refl (same_again v w (last_same v w _ refused.rest)) (says_still s c h v w (ap outgoing_of refused.rest) at) at
