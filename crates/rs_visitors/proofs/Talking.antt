-- What becomes of the talks where callers come, go on, and go.
use Rattle.std.proofs.Common.{◌≡◌, ◌≢◌, ◌⊎◌, ◌∙◌, inl, inr, ℕ, Option, Some, None, IsSome, option_map, ap, sym, subst, refl}
use Rattle.std.specs.Prelude.{Result, Ok, Err, IfOk, OnErr}
use Rattle.std.proofs.lemmas.Bool.{cases_eq}
use Rattle.slab.specs.Slab.{Slab, Updates, get, with_value}
use Rattle.slab.proofs.SlabLemmas.{Updates-with_value}
use Rattle.rs_control.specs.Courses.{AreOfThese}
use Rattle.rs_control.specs.Talks.{IsFresh}
use Rattle.rs_control.proofs.Courses.{as_it_was, begun, gone}
use Rattle.rs_visitors.specs.declared.caller.Caller.{Caller}
use Rattle.rs_visitors.specs.Callers.{talks_with}

-- nobody comes or goes
pub all_stay : (old new : Slab Caller) → ((key : ℕ) → get new key ≡ get old key) → AreOfThese (talks_with old) (talks_with new)
all_stay old new same = λ key. as_it_was (talks_with old key) (talks_with new key) (ap (option_map (λ caller. caller.talk)) (same key))

-- one comes with a fresh talk
pub one_comes : (old new : Slab Caller) (key : ℕ) (caller : Caller) → Updates old new key (Some caller) → IsFresh caller.talk → AreOfThese (talks_with old) (talks_with new)
one_comes old new key caller updates fresh = λ other.
    elim (cases_eq other key) [
      | inl same ↦ begun (talks_with old other) (talks_with new other) caller.talk (ap (talks_with new) same ∙ ap (option_map (λ c. c.talk)) updates.changed) fresh
      | inr differs ↦ as_it_was (talks_with old other) (talks_with new other) (ap (option_map (λ c. c.talk)) (updates.others other differs))
    ]

-- or not, where there is no memory
pub comes_or_not : {E : Type 0} (old new : Slab Caller) (key : ℕ) (caller : Caller) (capacity : ℕ) (result : Result ℕ E) → IfOk result (λ k. Updates old new k (Some caller)) → OnErr result (new ≡ record old { capacity = capacity }) → IsFresh caller.talk → AreOfThese (talks_with old) (talks_with new)
comes_or_not old new key caller capacity (Ok k) updates not fresh = one_comes old new k caller updates fresh
comes_or_not old new key caller capacity (Err fault) updates not fresh = all_stay old new (λ k. ap (λ s. get s k) not)

-- one goes
pub one_goes : (old new : Slab Caller) (key : ℕ) → Updates old new key None → AreOfThese (talks_with old) (talks_with new)
one_goes old new key updates = λ other.
    elim (cases_eq other key) [
      | inl same ↦ gone (talks_with old other) (talks_with new other) (ap (talks_with new) same ∙ ap (option_map (λ c. c.talk)) updates.changed)
      | inr differs ↦ as_it_was (talks_with old other) (talks_with new other) (ap (option_map (λ c. c.talk)) (updates.others other differs))
    ]

-- the talk of one who goes on
pub one_goes_on : (old : Slab Caller) (key : ℕ) (before caller : Caller) → get old key ≡ Some before → talks_with (with_value old key caller) key ≡ Some caller.talk
one_goes_on old key before caller is = ap (option_map (λ c. c.talk)) (Updates-with_value old key caller (subst IsSome (sym is) refl)).changed

-- and those of the others
pub others_stay : (old : Slab Caller) (key : ℕ) (before caller : Caller) → get old key ≡ Some before → (other : ℕ) → other ≢ key → talks_with (with_value old key caller) other ≡ talks_with old other
others_stay old key before caller is other differs = ap (option_map (λ c. c.talk)) ((Updates-with_value old key caller (subst IsSome (sym is) refl)).others other differs)
