-- What is kept of one client is written, and the others are spared.
use Rattle.std.proofs.Common.{◌≡◌, ◌<◌, ℕ, length, sym, ap, subst}
use Rattle.std.specs.Prelude.{Option, slice_get, slice_set}
use Rattle.rs_adjin.specs.AdjIns.{held_of, identifier_of}
use Rattle.rs_core.specs.Core.{client_count}
use Rattle.rs_core.specs.Others.{KeepsOthers}
use Rattle.rs_core.specs.Run.Agreeing.{Spares}
use Rattle.rs_core.specs.Ribs.{outlet_in}
use Rattle.rs_core.specs.Session.OperatorRecords.{NotesEnding}
use Rattle.rs_core.specs.declared.endings.Ending.{Ending}
use Rattle.rs_core.specs.declared.endings.Watched.{Watched}
use Rattle.rs_core.specs.declared.route_server.Core.{Core}
use Rattle.rs_core.proofs.Run.Agreeing.{spares_both}
use Rattle.rs_core.proofs.Told.Alike.{alone_is}
use Rattle.rs_core.proofs.Touched.KeptAnswers.{same_answers}
use Rattle.rs_core.proofs.Session.OperatorRecords.{others_kept}

-- it alone is another
written : (c : ℕ) (old new : Core) → new.count ≡ old.count → new.sessions ≡ old.sessions → new.buffers ≡ old.buffers → new.ribs ≡ old.ribs
    → KeepsOthers c old.watched.items new.watched.items → Spares c old new
written c old new count sessions buffers ribs others =
    record {
      count = count;
      config = ap (λ r. r.config) ribs;
      sessions = λ d ne. ap (λ v. slice_get v.items d) sessions;
      buffers = λ d ne. ap (λ v. slice_get v.items d) buffers;
      held = λ d p ne. ap (λ r. held_of r.tables d p) ribs;
      identifiers = λ d ne. ap (λ r. identifier_of r.tables d) ribs;
      others_alone = λ d none lt ne. alone_is _ _ (ap (λ r. outlet_in r d none) ribs);
      watched = others;
      answers = same_answers old.ribs new.ribs ribs;
    }

-- an ending was noted first
pub noted_spares : (c : ℕ) (ending : Option Ending) (old mid new : Core) → mid.count ≡ old.count → mid.sessions ≡ old.sessions → mid.buffers ≡ old.buffers → mid.ribs ≡ old.ribs
    → NotesEnding c ending old.watched.items mid.watched.items → Spares c mid new → Spares c old new
noted_spares c ending old mid new count sessions buffers ribs notes spared = spares_both c old mid new (written c old mid count sessions buffers ribs notes.others) spared

-- a value was put in last
pub put_spares : (c : ℕ) (old mid new : Core) (w : Watched) → c < length mid.watched.items → new.count ≡ mid.count → new.sessions ≡ mid.sessions → new.buffers ≡ mid.buffers → new.ribs ≡ mid.ribs
    → new.watched.items ≡ slice_set mid.watched.items c w → Spares c old mid → Spares c old new
put_spares c old mid new w lt count sessions buffers ribs set spared =
    spares_both c old mid new spared (written c mid new count sessions buffers ribs (others_kept mid.watched.items new.watched.items c w lt set))

-- a value was put in first
pub kept_spares : (c : ℕ) (old mid new : Core) (w : Watched) → c < client_count old → mid.count ≡ old.count → mid.sessions ≡ old.sessions → mid.buffers ≡ old.buffers → mid.ribs ≡ old.ribs
    → mid.watched.items ≡ slice_set old.watched.items c w → Spares c mid new → Spares c old new
unfolding client_count
kept_spares c old mid new w lt count sessions buffers ribs set spared =
    spares_both c old mid new (written c old mid count sessions buffers ribs (others_kept old.watched.items mid.watched.items c w (subst (λ n. c < n) (sym old.watched_len) lt) set)) spared
