-- Outlets that say the same, say nothing, or are left alone.
use Rattle.std.proofs.Common.{◌≡◌, ℕ, Bool, false, List, [], ◌∷◌, refl, sym, ◌∙◌, ap}
use Rattle.std.specs.Prelude.{Option, Some, None}
use Rattle.std.specs.FinMap as fin
use Rattle.std.specs.FinSet as set
use Rattle.rs_octets.specs.Prefixes.{Prefix, prefix_order}
use Rattle.rs_attrs.specs.Meaning.{Attribute}
use Rattle.rs_open.specs.declared.short.Short.{Short}
use Rattle.rs_outlet.specs.declared.answers.Speech.{Speech}
use Rattle.rs_open.specs.Writing.{server_open}
use Rattle.rs_open.specs.declared.writing.ServerOpen.{ServerOpen}
use Rattle.rs_outlet.specs.declared.answers.Last.{Last}
use Rattle.rs_outlet.specs.Views.{View, waits_at, bare, cleared, finished, begun, touched_at}
use Rattle.rs_adjin.specs.declared.adj_ins.AdjIns.{AdjIns}
use Rattle.rs_core.specs.Touched.Touches.{IsTouchedAt, touched_with}
use Rattle.rs_core.specs.Touched.Turns.{IsMarked}
use Rattle.rs_core.specs.Session.Conversations.{outgoing_of}
use Rattle.rs_core.specs.Told.Outlets.{IsInOrder, SaysTheSame, IsDue, IsLeftAlone, IsFinished, IsGreeting, HasComeUp, IsSilent, TellsAgain, TellsTheSame}

-- ---- outlets that say the same

pub alone_on : (u v w : View) → IsLeftAlone u v → IsLeftAlone v w → IsLeftAlone u w
alone_on u v w a b = record { is = b.is ∙ ap (λ (x : View). record x { touched = w.touched; stale = w.stale; numbers = w.numbers }) a.is }

pub alone_is : (v w : View) → w ≡ v → IsLeftAlone v w
alone_is v w e = record { is = e ∙ (λ i. record v { touched = (sym e i).touched; stale = (sym e i).stale; numbers = (sym e i).numbers }) }

-- who is left alone says the same
pub still : (v w : View) → IsLeftAlone v w → SaysTheSame v w
still v w h = record { is = h.is ∙ (λ i. record v { keepalive_due = (sym h.is i).keepalive_due; touched = w.touched; stale = w.stale; numbers = w.numbers; last = (sym h.is i).last }) }

pub same_is : (v w : View) → w ≡ v → SaysTheSame v w
same_is v w e = still v w (alone_is v w e)

-- its last turn answered otherwise
pub last_same : (v w : View) (last : Last) → w ≡ record v { last = last } → SaysTheSame v w
last_same v w last e = record { is = e ∙ (λ i. record v { keepalive_due = (sym e i).keepalive_due; touched = (sym e i).touched; stale = (sym e i).stale; numbers = (sym e i).numbers; last = (sym e i).last }) }

-- who is left alone is still to be told the same
pub alone_out : (v w : View) → IsLeftAlone v w → outgoing_of w ≡ outgoing_of v
alone_out v w h = ap outgoing_of h.is

pub in_order : (v w : View) → w.speech ≡ v.speech → w.loc ≡ v.loc → w.told ≡ v.told → w.marked ≡ v.marked → w.waits ≡ v.waits → IsInOrder v → IsInOrder w
in_order v w speech loc told marked waits o = record {
  mandatory = λ p m e. o.mandatory p m (ap (λ t. fin.get t p) (sym loc) ∙ e);
  exact = λ p. ap (λ t. fin.get t p) waits ∙ o.exact p ∙ sym (λ i. waits_at (fin.get (loc i) p) (fin.get (told i) p) (set.contains (marked i) p));
  down = λ silent. loc ∙ o.down (sym speech ∙ silent);
}

same_order : (v w : View) → SaysTheSame v w → IsInOrder v → IsInOrder w
same_order v w h o = in_order v w (ap (λ (x : View). x.speech) h.is) (ap (λ (x : View). x.loc) h.is) (ap (λ (x : View). x.told) h.is) (ap (λ (x : View). x.marked) h.is) (ap (λ (x : View). x.waits) h.is) o

pub same_again : (v w : View) → SaysTheSame v w → TellsTheSame v w
same_again v w h = record {
  speech = ap (λ (x : View). x.speech) h.is;
  flight = ap (λ (x : View). x.flight) h.is;
  note = ap (λ (x : View). x.note) h.is;
  loc = ap (λ (x : View). x.loc) h.is;
  told = ap (λ (x : View). x.told) h.is;
  order = same_order v w h;
}

pub again_same : (v w : View) → TellsAgain v w → TellsTheSame v w
again_same v w h = record { speech = h.speech; flight = h.flight; note = h.note; loc = h.loc; told = h.told; order = h.order }

-- ---- outlets in which nothing is told

none_in : {X : Type 0} (p : Prefix) → fin.get (fin.empty {X = X} {R = prefix_order}) p ≡ None
none_in p = fin.get-empty prefix_order p

nothing_in_order : (v : View) → v.loc ≡ fin.empty → ((p : Prefix) → fin.get v.told p ≡ None) → ((p : Prefix) → fin.get v.waits p ≡ None) → IsInOrder v
nothing_in_order v empty told waits = record {
  mandatory = λ p m e. absurd (let f : ◌≡◌ {A = Option (List Attribute)} None (Some m) = sym (none p) ∙ e in cc);
  exact = λ p. waits p ∙ sym (λ i. waits_at (none p i) (told p i) (set.contains v.marked p));
  down = λ _. empty;
} where
  none : (p : Prefix) → fin.get v.loc p ≡ None
  none p = ap (λ t. fin.get t p) empty ∙ none_in p

pub bare_out : (c : ℕ) (long : Bool) (last : Last) (v : View) → v ≡ bare c long last → outgoing_of v ≡ record { flight = []; note = None; keepalive_due = false }
bare_out c long last v e = ap outgoing_of e

pub cleared_out : (v w : View) → w ≡ cleared v → outgoing_of w ≡ record { flight = []; note = None; keepalive_due = false }
cleared_out v w e = ap outgoing_of e

pub bare_silent : (c : ℕ) (long : Bool) (last : Last) (v : View) → v ≡ bare c long last → IsSilent v
bare_silent c long last v e = record {
  speech = ap (λ (x : View). x.speech) e;
  order = nothing_in_order v (ap (λ (x : View). x.loc) e) (λ p. ap (λ (x : View). fin.get x.told p) e ∙ none_in p) (λ p. ap (λ (x : View). fin.get x.waits p) e ∙ none_in p);
}

pub cleared_silent : (v w : View) → w ≡ cleared v → IsSilent w
cleared_silent v w e = bare_silent v.client v.extended v.last w e

pub ends_so : (said : Option Short) (v w : View) → w ≡ finished said v → IsFinished said v w
ends_so said v w e = record {
  out = ap outgoing_of e;
  speech = ap (λ (x : View). x.speech) e;
  order = nothing_in_order w (ap (λ (x : View). x.loc) e) (λ p. ap (λ (x : View). fin.get x.told p) e ∙ none_in p) (λ p. ap (λ (x : View). fin.get x.waits p) e ∙ none_in p);
}

-- a KEEPALIVE is due
pub due_same : (v w : View) → IsDue v w → SaysTheSame v w
due_same v w h = record { is = h.is ∙ (λ i. record v { keepalive_due = (sym h.is i).keepalive_due; touched = (sym h.is i).touched; stale = (sym h.is i).stale; numbers = (sym h.is i).numbers; last = (sym h.is i).last }) }

pub begun_come_up : (speech : Speech) (v w : View) → w ≡ begun speech v → HasComeUp (Some speech) v w
begun_come_up speech v w e = record {
  speech = ap (λ (x : View). x.speech) e;
  flight = ap (λ (x : View). x.flight) e;
  note = ap (λ (x : View). x.note) e;
  keepalive_due = ap (λ (x : View). x.keepalive_due) e;
  loc = λ p. ap (λ (x : View). fin.get x.loc p) e ∙ none_in p;
  told = λ p. ap (λ (x : View). fin.get x.told p) e ∙ none_in p;
  marked = λ p. ap (λ (x : View). set.contains x.marked p) e ∙ set.contains-empty prefix_order p;
  touched = ap (λ (x : View). x.touched) e;
  order = nothing_in_order w (ap (λ (x : View). x.loc) e) (λ p. ap (λ (x : View). fin.get x.told p) e ∙ none_in p) (λ p. ap (λ (x : View). fin.get x.waits p) e ∙ none_in p);
}

-- ---- touches

touched_rest : (ps : List Prefix) (v : View) → touched_with ps v ≡ record v { touched = (touched_with ps v).touched }
touched_rest [] v = refl
touched_rest (p ∷ ps) v = touched_rest ps (touched_at p v)

pub touched_alone : (ps : List Prefix) (v w : View) → IsTouchedAt ps v w → IsLeftAlone v w
touched_alone ps v w h = alone_on v (touched_with ps v) w
    (record { is = touched_rest ps v ∙ (λ i. let x = sym (touched_rest ps v) i in record v { touched = (touched_with ps v).touched; stale = x.stale; numbers = x.numbers }) })
    (record { is = h.is ∙ (λ i. record (touched_with ps v) { touched = (sym h.is i).touched; stale = w.stale; numbers = w.numbers }) })

pub marked_alone : (ins : AdjIns) (v w : View) → IsMarked ins v w → IsLeftAlone v w
marked_alone ins v w h = record { is = h.is ∙ (λ i. record v { touched = (sym h.is i).touched; stale = (sym h.is i).stale; numbers = w.numbers }) }

pub marked_same : (ins : AdjIns) (v w : View) → IsMarked ins v w → SaysTheSame v w
marked_same ins v w h = still v w (marked_alone ins v w h)

-- all was emptied, and then an OPEN put in
pub greets : (said : ServerOpen) (u v w : View) → v ≡ cleared u → w ≡ record v { flight = server_open said } → IsGreeting said w
greets said u v w e f = let was = cleared_silent u v e in record {
  flight = ap (λ (x : View). x.flight) f;
  note = ap (λ (x : View). x.note) f ∙ ap (λ (x : View). x.note) e;
  keepalive_due = ap (λ (x : View). x.keepalive_due) f ∙ ap (λ (x : View). x.keepalive_due) e;
  silent = record {
    speech = ap (λ (x : View). x.speech) f ∙ was.speech;
    order = in_order v w (ap (λ (x : View). x.speech) f) (ap (λ (x : View). x.loc) f) (ap (λ (x : View). x.told) f) (ap (λ (x : View). x.marked) f) (ap (λ (x : View). x.waits) f) was.order;
  };
}
