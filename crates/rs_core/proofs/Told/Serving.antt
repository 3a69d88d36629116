-- Where an outlet is drained, its client was told what is due to it.
use Rattle.std.proofs.Common.{◌≡◌, ◌<◌, ℕ, true, false, List, [], ◌++◌, length, refl, sym, ◌∙◌, ap, subst}
use Rattle.std.specs.Prelude.{Option, Some, None, IsSome}
use Rattle.std.specs.FinMap as fin
use Rattle.std.specs.FinSet as set
use Rattle.std.proofs.lemmas.List.{append-nil}
use Rattle.rs_octets.specs.Prefixes.{Prefix, prefix_order}
use Rattle.rs_adjin.specs.AdjIns.{client_count, held_of, identifier_of}
use Rattle.rs_policy.specs.Configuration.{Configuration}
use Rattle.rs_outlet.specs.declared.answers.Speech.{Speech}
use Rattle.rs_outlet.specs.Decided.Due.{due_to}
use Rattle.rs_outlet.specs.Views.{View, IsDrained, is_touched}
use Rattle.rs_core.specs.Run.Moves.{Move, config_in}
use Rattle.rs_core.specs.Run.Meaning.{hearing, speech_in, held_in, due, due_by, IsServed}
use Rattle.rs_core.specs.Ribs.{due_in, outlet_in}
use Rattle.rs_core.specs.Told.Telling.{Speaks}
use Rattle.rs_core.specs.Run.Agreeing.{Agrees}
use Rattle.rs_core.specs.declared.route_server.Core.{Core}
use Rattle.rs_core.proofs.Run.Dues.{held_as, due_below}
use Rattle.rs_core.proofs.Told.Telling.{speaks_same}
use Rattle.rs_core.proofs.Told.BySession.{spoken_up}

-- what is due by the tables is due by the run
pub due_is : (core : Core) (run : List Move) (c : ℕ) (speech : Speech) (p : Prefix) → Agrees core run → due_in core.ribs c speech p ≡ due_to (held_in run) c speech p
due_is core run c speech p h =
    due_below core.ribs.config (client_count core.ribs.tables) c speech p (identifier_of core.ribs.tables) (λ d. (held_in run).identifier d) (held_of core.ribs.tables) (λ d q. (held_in run).held d q)
    (λ d lt ne. let knows = (h.clients d (subst (λ n. d < n) (core.ribs.tables_len ∙ core.ribs_len) lt)).knows in record { held = knows.table p; identifier = λ m some. knows.identifier })
    ∙ (λ i. due_to (held_as (h.config i) (counts i) (λ d q. (held_in run).held d q) (λ d. (held_in run).identifier d)) c speech p) where
      counts : client_count core.ribs.tables ≡ length (config_in run).clients
      counts = core.ribs.tables_len ∙ sym core.ribs.clients_len ∙ ap (λ (s : Configuration). length s.clients) h.config

-- the client is spoken to as what was heard of it says
pub due_spoken : (run : List Move) (c : ℕ) (speech : Speech) (p : Prefix) → speech_in (config_in run) c (hearing c run) ≡ Some speech → due run c p ≡ due_to (held_in run) c speech p
due_spoken run c speech p e = ap (λ o. due_by (held_in run) c o p) e

pub spoken : (o : Option Speech) → IsSome o → (A : Type 0) → ((speech : Speech) → o ≡ Some speech → A) → A
spoken None some A so = absurd (let f : false ≡ true = some in cc)
spoken (Some speech) some A so = so speech refl

-- nothing is touched or in flight, and what was told is what was due at the last turn
pub record IsDone (v : View) : Type 0 where
  pub up : IsSome v.speech
  pub untouched : v.touched ≡ Some set.empty
  pub told : (p : Prefix) → fin.get v.told p ≡ fin.get v.loc p
  pub flight : v.flight ≡ []

pub drained_done : (v : View) → IsDrained v → IsDone v
drained_done v drained = record { up = drained.up; untouched = drained.untouched; told = λ p. ap (λ t. fin.get t p) drained.told; flight = drained.flight }

-- what was told last is what is due
pub told_is_due : (core : Core) (run : List Move) (c : ℕ) (none : View) (speech : Speech) → c < core.count → IsDone (outlet_in core.ribs c none) → Agrees core run → (outlet_in core.ribs c none).speech ≡ Some speech
    → speech_in (config_in run) c (hearing c run) ≡ Some speech → (p : Prefix) → due run c p ≡ fin.get (outlet_in core.ribs c none).told p
told_is_due core run c none speech lt drained h up is p =
    due_spoken run c speech p is
    ∙ sym (due_is core run c speech p h)
    ∙ sym (let fresh = core.fresh.each c none (subst (λ n. c < n) (sym core.ribs_len) lt) in fresh.at speech p up (fresh.stale_touched p (ap (λ t. is_touched t p) drained.untouched ∙ set.contains-empty prefix_order p)))
    ∙ sym (drained.told p)

done_served : (core : Core) (run : List Move) (c : ℕ) (none : View) (speech : Speech) → c < core.count → IsDone (outlet_in core.ribs c none) → Agrees core run → (outlet_in core.ribs c none).speech ≡ Some speech → IsServed run c
done_served core run c none speech lt drained h up =
    let v : View = outlet_in core.ribs c none in
    let at = (h.clients c lt).knows.outlet h.config none in
    let heard : speech_in (config_in run) c (hearing c run) ≡ Some speech = sym at.speech ∙ up in
    record {
      established = spoken_up (config_in run) c (hearing c run) speech heard;
      told = λ other is.
          let agreed : v.speech ≡ Some other = at.speech ∙ is in
          let said = subst (λ o. Speaks other o (fin.get v.told)) (ap (λ f. (hearing c run).taken ++ f) drained.flight ∙ append-nil (hearing c run).taken) (at.since other agreed) in
          speaks_same other (hearing c run).taken (fin.get v.told) (due run c) (λ p. told_is_due core run c none other lt drained h agreed is p) said;
    }

-- a client whose outlet is drained is served
pub done_is_served : (core : Core) (run : List Move) (c : ℕ) (none : View) → c < core.count → IsDone (outlet_in core.ribs c none) → Agrees core run → IsServed run c
done_is_served core run c none lt done h =
    spoken (outlet_in core.ribs c none).speech done.up (IsServed run c) (λ speech up. done_served core run c none speech lt done h up)

pub drained_is_served : (core : Core) (run : List Move) (c : ℕ) (none : View) → c < core.count → IsDrained (outlet_in core.ribs c none) → Agrees core run → IsServed run c
drained_is_served core run c none lt drained h =
    done_is_served core run c none lt (drained_done (outlet_in core.ribs c none) drained) h
