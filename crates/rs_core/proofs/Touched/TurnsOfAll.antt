-- A turn of all clients, whoever took them, and the sweep after it.
use Rattle.std.proofs.Common.{◌≡◌, ◌<◌, ◌+◌, sym, ◌∙◌, subst}
use Rattle.rs_adjin.specs.AdjIns.{Same}
use Rattle.rs_core.specs.Core.{client_count, refused_clients}
use Rattle.rs_core.specs.Ribs.{ChangesAll, KeepsSettings, outlet_count}
use Rattle.rs_core.specs.Touched.Turns.{IsTurn, refused_in}
use Rattle.rs_core.specs.Touched.TurnsOfAll.{HasTurnedAll}
use Rattle.rs_core.specs.declared.ribs.Ribs.{Ribs}
use Rattle.rs_core.specs.declared.route_server.Core.{Core}
use Rattle.rs_core.specs.declared.turning.Turns.{Turns}
use Rattle.rs_core.proofs.Owed.Drained.{turned_decided}
use Rattle.rs_core.proofs.Run.Outgoing.{turned_agrees}
use Rattle.rs_core.proofs.Touched.Calls.{decides_touched, refusal_keeps}
use Rattle.rs_core.proofs.Touched.Growing.{turned_by}
use Rattle.rs_core.proofs.Touched.Refusing.{listed_is, refused_listed}
use Rattle.rs_core.proofs.Touched.TurnAnswers.{answers_turn, refused_up}

pub swept_turn : (answer : Turns) (old new : Core) (mid : Ribs) → new.count ≡ old.count → new.sessions ≡ old.sessions → new.buffers ≡ old.buffers → new.watched ≡ old.watched
    → KeepsSettings old.ribs mid → mid.tables ≡ old.ribs.tables → ChangesAll (λ c. IsTurn old.ribs.config old.ribs.tables) old.ribs mid
    → KeepsSettings mid new.ribs → Same mid.tables new.ribs.tables → new.ribs.outlets ≡ mid.outlets
    → answer.refused ≡ refused_in new.ribs.outlets.items → answer.done + answer.refused ≡ outlet_count new.ribs → HasTurnedAll answer old new
unfolding client_count refused_clients
swept_turn answer old new mid count sessions buffers watched settings tables turned after same outlets refused all = record {
  clients = count;
  refused = refused;
  all = all ∙ new.ribs_len;
  turned = λ run h.
      turned_by _ old new run count (λ d lt. refused_listed new d lt) (λ d lt is. refusal_keeps d old new mid lt count turned outlets is)
      (λ d lt up done. (decides_touched d old new mid run lt count turned outlets h up done).none_left)
      (λ d lt. answers_turn d _ old new mid run lt count turned outlets (refused_listed new d (subst (λ n. d < n) (sym count) lt)) h) h
      (turned_agrees old new mid run _ count sessions buffers watched settings tables turned after same outlets (λ d none lt. listed_is new d none lt) h);
  decided = λ d run lt h up done. turned_decided d old new mid run lt count turned outlets h up done;
  touched = λ d run lt h up done. decides_touched d old new mid run lt count turned outlets h up done;
  refusal = λ d lt is. refusal_keeps d old new mid lt count turned outlets is;
  refused_only_up = λ d run lt h is. refused_up d old new mid run lt count turned outlets h is;
}
