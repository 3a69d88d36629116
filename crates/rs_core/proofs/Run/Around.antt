-- What calls on the RIBs of one client do to the outlets of all.
use Rattle.std.proofs.Common.{◌≡◌, ◌≢◌, ◌⊎◌, inl, inr, ◌<◌, ℕ, Bool, true, false, List, [], ◌∷◌, refl, sym, ◌∙◌, ap, subst}
use Rattle.std.specs.Prelude.{Option, Some, None, slice_index_or}
use Rattle.std.specs.Global.{Vec}
use Rattle.std.specs.FinMap as fin
use Rattle.rs_octets.specs.Prefixes.{Prefix}
use Rattle.rs_attrs.specs.Meaning.{Attribute}
use Rattle.rs_attrs.specs.Comparing.{same_attributes}
use Rattle.rs_attrs.specs.ComparisonLaws.{attributes_decides}
use Rattle.rs_adjin.specs.AdjIns.{held_of}
use Rattle.rs_adjin.specs.declared.adj_ins.AdjIns.{AdjIns}
use Rattle.rs_outlet.specs.Views.{View}
use Rattle.rs_core.specs.Touched.Touches.{IsTouchedWhereHeld, IsAskedAgain}
use Rattle.rs_core.specs.Ribs.{outlet_in, ChangesAround, ChangesOthers, ChangesOwn, TouchesChange}
use Rattle.rs_core.specs.Told.Outlets.{TellsAgain, LeavesOthersAlone, TouchesOthers}
use Rattle.rs_core.specs.declared.ribs.Ribs.{Ribs}
use Rattle.rs_core.proofs.Told.Alike.{alone_is, alone_on, touched_alone}

-- the outlet of one client has changed
pub own_acts_on_outlet : (c : ℕ) (Is : View → View → Type 0) (old new : Ribs) → ChangesOwn c Is old new → LeavesOthersAlone c old new
own_acts_on_outlet c Is old new changes d none lt ne = alone_is _ _ (changes.others d none ne)

-- one after the other
pub others_alone_on : (c : ℕ) (old mid new : Ribs) → mid.count ≡ old.count → LeavesOthersAlone c old mid → LeavesOthersAlone c mid new → LeavesOthersAlone c old new
others_alone_on c old mid new count a b d none lt ne = alone_on (outlet_in old d none) (outlet_in mid d none) (outlet_in new d none) (a d none lt ne) (b d none (subst (λ n. d < n) (sym count) lt) ne)

-- what a client held was touched for the others
pub held_others_alone : (c : ℕ) (ins : AdjIns) (old new : Ribs) → ChangesOthers c (IsTouchedWhereHeld ins c) old new → LeavesOthersAlone c old new
held_others_alone c ins old new changes d none lt ne = let t = changes.others d none lt ne in touched_alone t.prefixes _ _ t.touched

-- and its own has changed
pub around_others_alone : (c : ℕ) (Is : View → View → Type 0) (ins : AdjIns) (old new : Ribs) → ChangesAround c Is (IsTouchedWhereHeld ins c) old new → LeavesOthersAlone c old new
around_others_alone c Is ins old new changes d none lt ne = let t = changes.others d none lt ne in touched_alone t.prefixes _ _ t.touched

pub same_or : (a b : Option (List Attribute)) → (a ≡ b) ⊎ (a ≢ b)
same_or None None = inl refl
same_or None (Some n) = inr (λ e. absurd (let f : ◌≡◌ {A = Option (List Attribute)} None (Some n) = e in cc))
same_or (Some m) None = inr (λ e. absurd (let f : ◌≡◌ {A = Option (List Attribute)} (Some m) None = e in cc))
same_or (Some m) (Some n) = by_test (same_attributes m n) refl where
  by_test : (b : Bool) → same_attributes m n ≡ b → (◌≡◌ {A = Option (List Attribute)} (Some m) (Some n)) ⊎ (◌≢◌ {A = Option (List Attribute)} (Some m) (Some n))
  by_test true e = inl (ap (λ l. Some l) ((attributes_decides m n).0 e))
  by_test false e = inr (λ same. absurd (let f : true ≡ false = sym ((attributes_decides m n).1 (let g : ◌≡◌ {A = Option (List Attribute)} (Some m) (Some n) = same in cc)) ∙ e in cc))

-- one value of a client has changed, or none
pub change_touches : (c : ℕ) (p : Prefix) (old new : Ribs) → TouchesChange c p old new → TouchesOthers c old new
change_touches c p old new touches = elim (same_or (held_of new.tables c p) (held_of old.tables c p)) [
  | inl same ↦ let e = touches.unchanged same in record {
    own = λ none. ap (λ (v : Vec View). slice_index_or v.items c none) e;
    others = λ d none lt ne. alone_is _ _ (ap (λ (v : Vec View). slice_index_or v.items d none) e);
  }
  | inr differs ↦ let changes = touches.changed differs in record {
    own = changes.own;
    others = λ d none lt ne. touched_alone (p ∷ []) _ _ (changes.others d none lt ne);
  }
]

pub none_touched : (c : ℕ) (old : Ribs) → TouchesOthers c old old
none_touched c old = record { own = λ none. refl; others = λ d none lt ne. alone_is _ _ refl }

pub touches_on : (c : ℕ) (old mid new : Ribs) → mid.count ≡ old.count → TouchesOthers c old mid → TouchesOthers c mid new → TouchesOthers c old new
touches_on c old mid new count a b = record { own = λ none. b.own none ∙ a.own none; others = others_alone_on c old mid new count a.others b.others }

-- the client asked for all again
pub asked_again : (v w : View) → IsAskedAgain v w → TellsAgain v w
asked_again v w h = record {
  speech = ap (λ (x : View). x.speech) h.rest;
  flight = ap (λ (x : View). x.flight) h.rest;
  note = ap (λ (x : View). x.note) h.rest;
  keepalive_due = ap (λ (x : View). x.keepalive_due) h.rest;
  loc = ap (λ (x : View). x.loc) h.rest;
  told = h.told;
  marked = h.marked;
  touched = ap (λ (x : View). x.touched) h.rest;
  order = λ o. record {
    mandatory = λ p m e. o.mandatory p m (ap (λ (x : View). fin.get x.loc p) (sym h.rest) ∙ e);
    exact = h.exact o.exact;
    down = λ silent. ap (λ (x : View). x.loc) h.rest ∙ o.down (sym (ap (λ (x : View). x.speech) h.rest) ∙ silent);
  };
}
