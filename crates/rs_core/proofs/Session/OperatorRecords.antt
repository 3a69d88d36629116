-- What is kept of clients for the operator.
use Rattle.std.proofs.Common.{◌≡◌, ◌<◌, ℕ, zero, suc, List, [], length, get_or, sym, ◌∙◌, ap, subst}
use Rattle.std.specs.Prelude.{Option, Some, replicate, slice_get, slice_set}
use Rattle.std.specs.List.{cons_option}
use Rattle.std.proofs.lemmas.Option.{slice_get_read}
use Rattle.rs_attrs.specs.declared.faults.Faulted.{Faulted}
use Rattle.rs_core.specs.Core.{client_count}
use Rattle.rs_core.specs.Others.{KeepsOthers}
use Rattle.rs_core.specs.Run.Moves.{Move}
use Rattle.rs_core.specs.Run.Meaning.{hearing}
use Rattle.rs_core.specs.Run.Agreeing.{Agrees}
use Rattle.rs_core.specs.declared.route_server.Core.{Core}
use Rattle.rs_core.specs.declared.endings.Ending.{Ending}
use Rattle.rs_core.specs.declared.endings.Watched.{Watched}
use Rattle.rs_core.specs.Session.OperatorRecords.{newest_ending, faulted_by, watched_by, IsWatched, NotesEnding}
use Rattle.rs_core.proofs.Run.Lists.{some_is, set_at}

-- one value was written
pub watched_set : (old new : List Watched) (c : ℕ) (x w : Watched) (endings more : List Ending) (faults then : List Faulted)
    → slice_get old c ≡ Some x → c < length old → new ≡ slice_set old c w → (x ≡ watched_by endings faults → w ≡ watched_by more then)
    → IsWatched old c endings faults → IsWatched new c more then
watched_set old new c x w endings more faults then read lt set by was y e = (set_at old c w lt).own y (ap (λ l. slice_get l c) (sym set) ∙ e) ∙ by (was x read)

pub others_kept : (old new : List Watched) (c : ℕ) (w : Watched) → c < length old → new ≡ slice_set old c w → KeepsOthers c old new
others_kept old new c w lt set = λ d ne. ap (λ l. slice_get l d) set ∙ (set_at old c w lt).others d ne

-- an ending was noted
pub noted : (old new : List Watched) (c : ℕ) (x w : Watched) (ending : Option Ending) → slice_get old c ≡ Some x → c < length old → new ≡ slice_set old c w
    → ((endings : List Ending) (faults : List Faulted) → x ≡ watched_by endings faults → w ≡ watched_by (cons_option ending endings) faults) → NotesEnding c ending old new
noted old new c x w ending read lt set by = record {
  own = λ endings faults. watched_set old new c x w endings (cons_option ending endings) faults faults read lt set (by endings faults);
  others = others_kept old new c w lt set;
}

-- by what it was found to be
pub noted_by : (old new : List Watched) (c : ℕ) (x w : Watched) (found ending : Option Ending) → slice_get old c ≡ Some x → c < length old → new ≡ slice_set old c w → found ≡ ending
    → ((endings : List Ending) (faults : List Faulted) → x ≡ watched_by endings faults → w ≡ watched_by (cons_option found endings) faults) → NotesEnding c ending old new
noted_by old new c x w found ending read lt set is by = subst (λ e. NotesEnding c e old new) is (noted old new c x w found read lt set by)

-- what is kept is kept
pub watched_still : (old new : List Watched) (c : ℕ) (endings : List Ending) (faults : List Faulted) → new ≡ old → IsWatched old c endings faults → IsWatched new c endings faults
watched_still old new c endings faults same was = subst (λ l. IsWatched l c endings faults) (sym same) was

-- at first nothing is
pub none_watched : (n c : ℕ) (x : Watched) → slice_get (replicate n (watched_by [] [])) c ≡ Some x → x ≡ watched_by [] []
none_watched zero c x e = absurd cc
none_watched (suc n) zero x e = sym (some_is (watched_by [] []) x e)
none_watched (suc n) (suc c) x e = none_watched n c x e

-- what is asked of it
pub watched_read : (core : Core) (run : List Move) (c : ℕ) (x : Watched) → c < client_count core → x ≡ get_or core.watched.items c x → Agrees core run
    → (x.ending ≡ newest_ending (hearing c run).endings) × (x.faulted ≡ faulted_by (hearing c run).faults)
unfolding client_count
watched_read core run c x lt read h =
    let is = (h.clients c lt).knows.watched x (slice_get_read core.watched.items core.count c x (sym core.watched_len) lt read) in
    (ap (λ (w : Watched). w.ending) is, ap (λ (w : Watched). w.faulted) is)
