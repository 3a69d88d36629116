-- What the last turn of each client answered stays, whatever is no turn.
use Rattle.std.proofs.Common.{◌≡◌, inl, inr, ◌<◌, ℕ, sym, ◌∙◌, ap, subst}
use Rattle.rs_adjin.specs.declared.adj_ins.AdjIns.{AdjIns}
use Rattle.rs_outlet.specs.Views.{View}
use Rattle.rs_core.specs.Ribs.{outlet_in, ChangesAll, ChangesAround, ChangesOthers, ChangesOwn, KeepsAnswers}
use Rattle.rs_core.specs.Touched.Touches.{IsTouchedWhereHeld}
use Rattle.rs_core.specs.Touched.Turns.{IsMarked}
use Rattle.rs_core.specs.Told.Outlets.{LeavesOthersAlone, TouchesOthers}
use Rattle.rs_core.specs.declared.ribs.Ribs.{Ribs}
use Rattle.rs_core.proofs.Run.Around.{around_others_alone, held_others_alone, own_acts_on_outlet}
use Rattle.rs_core.proofs.Run.Clients.{equal_or}

pub same_answers : (old new : Ribs) → new ≡ old → KeepsAnswers old new
same_answers old new same d none lt = ap (λ (r : Ribs). (outlet_in r d none).last) same

-- one after the other
pub answers_on : (old mid new : Ribs) → mid.count ≡ old.count → KeepsAnswers old mid → KeepsAnswers mid new → KeepsAnswers old new
answers_on old mid new count a b d none lt = b d none (subst (λ n. d < n) (sym count) lt) ∙ a d none lt

-- of one client, and of those that are left alone
own_and_others : (c : ℕ) (old new : Ribs) → ((none : View) → c < old.count → (outlet_in new c none).last ≡ (outlet_in old c none).last) → LeavesOthersAlone c old new → KeepsAnswers old new
own_and_others c old new own others d none lt = elim (equal_or d c) [
  | inl e ↦ subst (λ k. (outlet_in new k none).last ≡ (outlet_in old k none).last) (sym e) (own none (subst (λ k. k < old.count) e lt))
  | inr ne ↦ ap (λ (v : View). v.last) (others d none lt ne).is
]

pub own_answers : (c : ℕ) (Is : View → View → Type 0) (old new : Ribs) → ChangesOwn c Is old new → ((v w : View) → Is v w → w.last ≡ v.last) → KeepsAnswers old new
own_answers c Is old new changes keeps = own_and_others c old new (λ none lt. keeps (outlet_in old c none) (outlet_in new c none) (changes.own none lt)) (own_acts_on_outlet c Is old new changes)

-- what a client held was touched for the others
pub held_answers : (c : ℕ) (ins : AdjIns) (old new : Ribs) → ChangesOthers c (IsTouchedWhereHeld ins c) old new → KeepsAnswers old new
held_answers c ins old new changes = own_and_others c old new (λ none lt. ap (λ (v : View). v.last) (changes.own none)) (held_others_alone c ins old new changes)

-- and its own outlet has changed
pub around_answers : (c : ℕ) (Is : View → View → Type 0) (ins : AdjIns) (old new : Ribs) → ChangesAround c Is (IsTouchedWhereHeld ins c) old new → ((v w : View) → Is v w → w.last ≡ v.last) → KeepsAnswers old new
around_answers c Is ins old new changes keeps =
    own_and_others c old new (λ none lt. keeps (outlet_in old c none) (outlet_in new c none) (changes.own none lt)) (around_others_alone c Is ins old new changes)

-- routes of a client have changed
pub routes_answers : (c : ℕ) (old new : Ribs) → TouchesOthers c old new → KeepsAnswers old new
routes_answers c old new touches = own_and_others c old new (λ none lt. ap (λ (v : View). v.last) (touches.own none)) touches.others

-- another configuration
pub marked_answers : (ins : AdjIns) (old new : Ribs) → ChangesAll (λ c. IsMarked ins) old new → KeepsAnswers old new
marked_answers ins old new marked d none lt = ap (λ (v : View). v.last) (marked.each d none lt).is
