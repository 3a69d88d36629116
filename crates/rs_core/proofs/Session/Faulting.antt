-- An UPDATE was found to be at fault before it is heard.
use Rattle.std.proofs.Common.{◌≡◌, ◌<◌, ℕ, List, get_or, refl, sym, ◌∙◌, ap, subst}
use Rattle.std.specs.Prelude.{slice_get, slice_set}
use Rattle.std.proofs.lemmas.Option.{slice_get_read}
use Rattle.rs_adjin.specs.AdjIns.{held_of, identifier_of}
use Rattle.rs_attrs.specs.declared.faults.Faulted.{Faulted}
use Rattle.rs_policy.specs.Configuration.{Configuration}
use Rattle.rs_core.specs.Core.{client_count}
use Rattle.rs_core.specs.Run.Agreeing.{Knows, IsCutShort}
use Rattle.rs_core.specs.Session.Hearing.{Hearing}
use Rattle.rs_core.specs.Told.Order.{IsOrdered}
use Rattle.rs_core.specs.Ribs.{outlet_in}
use Rattle.rs_core.specs.Told.Outlets.{SpeaksTo}
use Rattle.rs_core.specs.Session.OperatorRecords.{with_faults, watched_by}
use Rattle.rs_core.specs.declared.endings.Ending.{Ending}
use Rattle.rs_core.specs.declared.endings.Watched.{Watched}
use Rattle.rs_core.specs.declared.route_server.Core.{Core}
use Rattle.rs_core.proofs.Told.Alike.{same_again, same_is}
use Rattle.rs_core.proofs.Told.BySession.{spoken_on}
use Rattle.rs_core.proofs.Told.Ordering.{ordered_on}
use Rattle.rs_core.proofs.Session.OperatorRecords.{watched_set}

-- one more was taken with these faults
abbrev pub found : Faulted → Hearing → Hearing
found faulted h = record { octets = h.octets; items = h.items; changes = h.changes; taken = h.taken; points = h.points; keepalives = h.keepalives; endings = h.endings; faults = with_faults faulted h.faults }

pub found_knows : (old new : Core) (s : Configuration) (c : ℕ) (h : Hearing) (x w : Watched) (faulted : Faulted) → new.sessions ≡ old.sessions → new.ribs ≡ old.ribs
    → c < client_count old → x ≡ get_or old.watched.items c x → new.watched.items ≡ slice_set old.watched.items c w
    → ((endings : List Ending) (faults : List Faulted) → x ≡ watched_by endings faults → w ≡ watched_by endings (with_faults faulted faults))
    → Knows old s c h → Knows new s c (found faulted h)
unfolding client_count
found_knows old new s c h x w faulted sessions ribs lt x_is set by knows = record {
  session = λ y e. knows.session y (ap (λ v. slice_get v.items c) (sym sessions) ∙ e);
  table = λ p. ap (λ r. held_of r.tables c p) ribs ∙ knows.table p;
  identifier = ap (λ r. identifier_of r.tables c) ribs ∙ knows.identifier;
  outlet = λ config none.
      let v = outlet_in old.ribs c none in
      let was = knows.outlet (ap (λ r. r.config) (sym ribs) ∙ config) none in
      subst (λ r. SpeaksTo s c (found faulted h) (outlet_in r c none)) (sym ribs)
      (spoken_on s s c h (found faulted h) v v refl (λ l. l) refl (same_again v v (same_is v v refl)) (record { messages = was.talk.messages; keepalives = was.talk.keepalives }) was);
  ordered = λ config none.
      let v = outlet_in old.ribs c none in
      let was = knows.ordered (ap (λ r. r.config) (sym ribs) ∙ config) none in
      subst (λ r. IsOrdered s c (found faulted h) (outlet_in r c none)) (sym ribs)
      (ordered_on s s c h (found faulted h) v v refl refl refl refl refl refl (λ l d. (l, d)) was);
  watched = watched_set old.watched.items new.watched.items c x w h.endings h.endings h.faults (with_faults faulted h.faults) (slice_get_read old.watched.items old.count c x (sym old.watched_len) lt x_is)
      (subst (λ n. c < n) (sym old.watched_len) lt) set (by h.endings h.faults) knows.watched;
}

-- memory was refused then
pub cut_found : (core : Core) (s : Configuration) (c : ℕ) (h : Hearing) (faulted : Faulted) → IsCutShort core s c (found faulted h) → IsCutShort core s c h
cut_found core s c h faulted cut = record { items = cut.items; moment = cut.moment; session = cut.session }
