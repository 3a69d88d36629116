-- Which messages a client is sent over a run.
use Rattle.std.proofs.Common.{◌≡◌, inl, inr, ◌<◌, ◌+◌, ℕ, Bool, true, List, [], ◌++◌, length, refl, sym, ◌∙◌, ap, subst}
use Rattle.std.specs.Prelude.{Option, Some, None, false}
use Rattle.std.proofs.lemmas.Option.{slice_get_read}
use Rattle.rs_open.specs.declared.writing.ServerOpen.{ServerOpen}
use Rattle.rs_session.specs.Endings.{Fate, GoesOn, Ends}
use Rattle.rs_session.specs.Items.{is_connected, message_count}
use Rattle.rs_session.specs.Sessions.{fate, state_by}
use Rattle.std.specs.FinMap as fin
use Rattle.std.proofs.lemmas.Bool.{false≢true}
use Rattle.rs_core.proofs.Told.BySession.{down_speech}
use Rattle.rs_outlet.specs.declared.answers.Speech.{Speech}
use Rattle.rs_outlet.specs.Views.{View, bare}
use Rattle.rs_outlet.specs.declared.answers.Last.TheVariants as lasts
use Rattle.rs_core.specs.Session.Keepalives.{AreKeepalives}
use Rattle.rs_core.specs.Session.Conversations.{Outgoing, Concludes, Converses, outgoing_of, own_open, update_speech}
use Rattle.rs_core.specs.Core.{client_count, lent_octets, outgoing, outgoing_in, owed, owed_in}
use Rattle.rs_core.specs.Owed.Owing.{owed_by, owed_behind}
use Rattle.rs_core.specs.Session.Hearing.{Hearing, session_in, is_up}
use Rattle.rs_core.specs.Run.Moves.{config_in}
use Rattle.rs_core.specs.Ribs.{outlet_in}
use Rattle.rs_core.specs.Run.Meaning.{hearing}
use Rattle.rs_core.specs.Told.Telling.{limit_to}
use Rattle.rs_core.specs.Session.Conversed.{IsFrontOfConversation, SendsInOrder, SendsNoneLonger}
use Rattle.rs_core.proofs.Session.LongMessages.{none_longer}
use Rattle.rs_core.proofs.Run.Outgoing.{lent_is}
use Rattle.rs_core.proofs.Run.Loops.{default_same}

front_of : (end : Fate) (said : ServerOpen) (speech : Option Speech) (taken : List ℕ) (out : Outgoing) → Concludes end said speech taken out → IsFrontOfConversation end said speech taken
front_of GoesOn said speech taken out h = record { missing = out.flight; last = None; asked = inl refl; whole = h.1 }
front_of (Ends (Some note)) said speech taken out (_, inl (_, whole)) = record { missing = out.flight; last = None; asked = inl refl; whole = whole }
front_of (Ends (Some note)) said speech taken out (_, inr (_, whole)) = record { missing = out.flight; last = Some note; asked = inr refl; whole = whole }
front_of (Ends None) said speech taken out h = record { missing = h.1.missing; last = None; asked = inl refl; whole = h.1.whole }

-- nothing is owed where nothing is to be said to a client that is not Established
owes_nothing : (v : View) → v.speech ≡ None → outgoing_of v ≡ record { flight = []; note = None; keepalive_due = false } → owed_by v ≡ 0
owes_nothing v down is = λ i. length (is i).flight + owed_behind (is i).note (is i).keepalive_due (down i) (fin.len v.waits)

down_by : (b : Bool) (f : Fate) (n : ℕ) → b ≡ false → is_up (state_by b f n) ≡ false
down_by true f n e = absurd (false≢true (sym e))
down_by false f n e = refl

pub any_view : View
any_view = bare 0 false lasts.Never

pub sends_in_order : SendsInOrder
unfolding client_count lent_octets outgoing owed
sends_in_order core run c lt h =
    let s = config_in run in
    let it : Hearing = hearing c run in
    let v : View = outlet_in core.ribs c any_view in
    let xs : List View = core.ribs.outlets.items in
    let there : c < length xs = subst (λ n. c < n) (sym (core.ribs.outlets_len ∙ core.ribs_len)) lt in
    let out = ap outgoing_in (slice_get_read xs (length xs) c v refl there (default_same xs c any_view v there)) in
    let talk = ((h.clients c lt).knows.outlet h.config any_view).talk in
    record {
      lent = lent_is core c any_view lt ∙ sym (ap (λ (o : Outgoing). o.flight) out);
      messages = subst (λ o. Converses (session_in s c) (own_open s) it.items it.taken o) (sym out) talk.messages;
      keepalives = λ live. subst (λ (o : Outgoing). AreKeepalives (own_open s) (limit_to (update_speech (session_in s c) it.items)) it.keepalives (it.taken ++ o.flight) o.keepalive_due) (sym out) (talk.keepalives live);
      idle = λ alone.
          ap (λ o. owed_in o) (slice_get_read xs (length xs) c v refl there (default_same xs c any_view v there))
          ∙ owes_nothing v (((h.clients c lt).knows.outlet h.config any_view).speech ∙ down_speech s c it (down_by (is_connected it.items) (fate (session_in s c) it.items) (message_count it.items) alone)) ((talk.messages.alone alone).1);
      taken = λ connected. front_of (fate (session_in s c) it.items) (own_open s) (update_speech (session_in s c) it.items) it.taken (outgoing_of v) (talk.messages.connected connected);
    }

pub sends_none_longer : SendsNoneLonger
sends_none_longer core run c lt h on =
    let front = (sends_in_order core run c lt h).taken on in
    none_longer (limit_to (update_speech (session_in (config_in run) c) (hearing c run).items)) (hearing c run).taken front.missing front.whole.whole
