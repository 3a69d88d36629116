-- What a turn answers for a client, by the run.
use Rattle.std.proofs.Common.{◌≡◌, inl, inr, ◌<◌, ℕ, Bool, true, false, List, refl, sym, ◌∙◌, ap, subst}
use Rattle.std.specs.Prelude.{Option, Some, None, is_some, slice_get}
use Rattle.std.proofs.lemmas.Bool.{false≢true}
use Rattle.rs_outlet.specs.declared.answers.Last.{Last}
use Rattle.rs_outlet.specs.declared.answers.Last.TheVariants as lasts
use Rattle.rs_outlet.specs.declared.answers.Turned.{Turned}
use Rattle.rs_outlet.specs.Views.{View}
use Rattle.rs_core.specs.Run.Moves.{Move, config_in}
use Rattle.rs_core.specs.Run.Meaning.{hearing, is_established, is_listed}
use Rattle.rs_core.specs.Ribs.{outlet_in, ChangesAll}
use Rattle.rs_core.specs.Touched.Turns.{IsTurn}
use Rattle.rs_core.specs.Core.{is_refusal, is_refused, last_in, last_of, refusal_in, touched_for}
use Rattle.rs_core.specs.Touched.Answering.{IsTurnAnswer}
use Rattle.rs_core.specs.Run.Agreeing.{Agrees}
use Rattle.rs_core.specs.declared.ribs.Ribs.{Ribs}
use Rattle.rs_core.specs.declared.route_server.Core.{Core}
use Rattle.rs_core.proofs.Run.Outgoing.{within}
use Rattle.rs_core.proofs.Owed.Drained.{turned_outlet}
use Rattle.rs_core.proofs.Owed.Sending.{last_is, nobody}
use Rattle.rs_core.proofs.Touched.Calls.{decides_touched}
use Rattle.rs_core.proofs.Touched.Turned.{is_current}
use Rattle.rs_core.proofs.Told.BySession.{down_speech}

-- memory was refused
by_last : (last : Last) → is_refusal last ≡ true → last ≡ lasts.Refused
by_last lasts.Refused e = refl
by_last lasts.Never e = absurd (false≢true e)
by_last (lasts.Done turned) e = absurd (false≢true e)

by_outlet : (o : Option View) → refusal_in o ≡ true → last_in o ≡ lasts.Refused
by_outlet None e = absurd (false≢true e)
by_outlet (Some v) e = by_last v.last e

refused_last : (core : Core) (c : ℕ) → is_refused core c ≡ true → last_of core c ≡ lasts.Refused
unfolding is_refused last_of
refused_last core c e = by_outlet (slice_get core.ribs.outlets.items c) e

-- nothing is decided for a client that isn't Established
abbrev nothing : Turned
nothing = record { decided = 0; whole = false }

down_last : (c : ℕ) (old new : Core) (mid : Ribs) (run : List Move) → c < old.count → new.count ≡ old.count → ChangesAll (λ d. IsTurn old.ribs.config old.ribs.tables) old.ribs mid → new.ribs.outlets ≡ mid.outlets
    → Agrees old run → is_established run c ≡ false → last_of new c ≡ lasts.Done nothing
down_last c old new mid run lt count turned same h down = last_is new c (subst (λ n. c < n) (sym count) lt) ∙ by_turn (turned_outlet c old new mid lt turned same) where
  v : View
  v = outlet_in old.ribs c nobody

  w : View
  w = outlet_in new.ribs c nobody

  silent : v.speech ≡ None
  silent = ((h.clients c lt).knows.outlet h.config nobody).speech ∙ down_speech (config_in run) c (hearing c run) down

  by_turn : IsTurn old.ribs.config old.ribs.tables v w → w.last ≡ lasts.Done nothing
  by_turn (inl d) = d.last ∙ ap (λ (t : Turned). lasts.Done t) ((d.decided (old.numbered.each c nobody (within old c lt)) (is_current old.ribs c nobody (within old c lt) old.fresh)).down silent).0
  by_turn (inr refused) = absurd (false≢true (sym (ap is_some silent) ∙ refused.up))

-- memory is refused only for one that is
pub refused_up : (c : ℕ) (old new : Core) (mid : Ribs) (run : List Move) → c < old.count → new.count ≡ old.count → ChangesAll (λ d. IsTurn old.ribs.config old.ribs.tables) old.ribs mid → new.ribs.outlets ≡ mid.outlets
    → Agrees old run → is_refused new c ≡ true → is_established run c ≡ true
refused_up c old new mid run lt count turned same h refused = by_state (is_established run c) refl where
  by_state : (b : Bool) → is_established run c ≡ b → b ≡ true
  by_state true up = refl
  by_state false down = absurd (false≢true (sym (ap is_refusal (down_last c old new mid run lt count turned same h down)) ∙ ap is_refusal (refused_last new c refused)))

pub answers_turn : (c : ℕ) (refused : List ℕ) (old new : Core) (mid : Ribs) (run : List Move) → c < old.count → new.count ≡ old.count → ChangesAll (λ d. IsTurn old.ribs.config old.ribs.tables) old.ribs mid → new.ribs.outlets ≡ mid.outlets
    → is_listed c refused ≡ is_refused new c → Agrees old run → IsTurnAnswer refused run c (last_of new c)
answers_turn c refused old new mid run lt count turned same listed h = record {
  refusal = λ is. (refused_up c old new mid run lt count turned same h (sym listed ∙ is), refused_last new c (sym listed ∙ is));
  down = λ down. down_last c old new mid run lt count turned same h down;
  up = λ not up.
      let d = decides_touched c old new mid run lt count turned same h up (sym listed ∙ not) in
      (d.turned, d.last, record { touched = touched_for old c; behind = h.touched c lt up; whole = d.whole; count = d.count });
}
