-- Outlets stay those of their clients.
use Rattle.std.proofs.Common.{◌≡◌, ◌+◌, ℕ, Bool, List, [], ◌∷◌, ◌++◌, length, refl, sym, ◌∙◌, ap, subst, arith}
use Rattle.rs_outlet.specs.Views.{View, bare}
use Rattle.rs_outlet.specs.declared.answers.Last.TheVariants as lasts
use Rattle.rs_workers.proofs.Placing.{each_push}
use Rattle.rs_core.specs.Run.Keeping.{AreBare, AreKept}

pub push_length : {X : Type 0} (xs : List X) (v : X) → length (xs ++ v ∷ []) ≡ length xs + 1
push_length [] v = refl
push_length (x ∷ xs) v = let e = push_length xs v in omega arith

-- one outlet more, which was just made
pub push_bare : (long : Bool) (xs ys : List View) (c : ℕ) (v : View) → ys ≡ xs ++ v ∷ [] → length xs ≡ c → AreBare long xs → v ≡ bare c long lasts.Never → AreBare long ys
push_bare long xs ys c v e len each made = subst (AreBare long) (sym e) (each_push (λ i o. o ≡ bare i long lasts.Never) xs v each (made ∙ ap (λ n. bare n long lasts.Never) (sym len)))

pub bare_kept : (long : Bool) (xs : List View) → AreBare long xs → AreKept long xs
bare_kept long xs each c d lt = record { client = ap (λ (o : View). o.client) (each c d lt); extended = ap (λ (o : View). o.extended) (each c d lt) }
