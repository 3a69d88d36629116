-- The answer of some checks and of others after them.
use Rattle.std.proofs.Common.{◌≡◌, List, [], ◌∷◌, ◌++◌, Option, Some, None, ℕ, ◌+◌, append_assoc, Result, Ok, Err, ◌≢◌, Vec, Global, refl, sym, ap, ◌∙◌}
use Rattle.std.proofs.lemmas.List.{append-nil}
use Rattle.std.specs.Result.{IsErrAnd}
use Rattle.toml.specs.Data.{Data}
use Rattle.rs_policy.specs.Values.{answer, Answers, AnswersItems, or_fault, first_failing, fault_in, each_from, checks_from}
use Rattle.rs_policy.specs.declared.faults.ConfigFault.{ConfigFault}
use Rattle.rs_policy.specs.declared.faults.ConfigFault.TheVariants.{OutOfMemory}

-- the first checks pass
pub first_failing-append-none : (xs ys : List (Option ConfigFault)) → first_failing xs ≡ None → first_failing (xs ++ ys) ≡ first_failing ys
first_failing-append-none [] ys none = refl
first_failing-append-none (None ∷ xs) ys none = first_failing-append-none xs ys none
first_failing-append-none (Some f ∷ xs) ys none = cc

-- one of the first checks fails
pub first_failing-append-some : (f : ConfigFault) (xs ys : List (Option ConfigFault)) → first_failing xs ≡ Some f → first_failing (xs ++ ys) ≡ Some f
first_failing-append-some f [] ys some = cc
first_failing-append-some f (None ∷ xs) ys some = first_failing-append-some f xs ys some
first_failing-append-some f (Some g ∷ xs) ys some = some

none_of_ok : {A : Type 0} (a v : A) (o : Option ConfigFault) → or_fault a o ≡ Ok v → o ≡ None
none_of_ok a v None e = refl
none_of_ok a v (Some f) e = cc

some_of_err : {A : Type 0} (a : A) (f : ConfigFault) (o : Option ConfigFault) → or_fault a o ≡ Err f → o ≡ Some f
some_of_err a f None e = cc
some_of_err a f (Some g) e = cc

value_of_ok : {A : Type 0} (a v : A) (o : Option ConfigFault) → or_fault a o ≡ Ok v → a ≡ v
value_of_ok a v None e = cc
value_of_ok a v (Some f) e = cc

-- what is answered where no check fails
pub answer-value : {A : Type 0} (xs : List (Option ConfigFault)) (a v : A) → answer xs a ≡ Ok v → a ≡ v
unfolding answer
answer-value xs a v e = value_of_ok a v (first_failing xs) e

-- checks after others that pass
pub answer-append-ok : {A B : Type 0} (xs ys : List (Option ConfigFault)) (a v : A) (b : B) → answer xs a ≡ Ok v → answer (xs ++ ys) b ≡ answer ys b
unfolding answer
answer-append-ok xs ys a v b e = ap (or_fault b) (first_failing-append-none xs ys (none_of_ok a v (first_failing xs) e))

-- a fault before other checks
pub answer-append-err : {A B : Type 0} (xs ys : List (Option ConfigFault)) (a : A) (b : B) (f : ConfigFault) → answer xs a ≡ Err f → answer (xs ++ ys) b ≡ Err f
unfolding answer
answer-append-err xs ys a b f e = ap (or_fault b) (first_failing-append-some f xs ys (some_of_err a f (first_failing xs) e))

-- the same from what a call answered

pub passes : {A B : Type 0} (xs ys : List (Option ConfigFault)) (a v : A) (b : B) → Ok v ≡ answer xs a → answer (xs ++ ys) b ≡ answer ys b
passes xs ys a v b e = answer-append-ok xs ys a v b (sym e)

pub fails : {A B : Type 0} (xs ys : List (Option ConfigFault)) (a : A) (b : B) (f : ConfigFault) → Err f ≡ answer xs a → answer (xs ++ ys) b ≡ Err f
fails xs ys a b f e = answer-append-err xs ys a b f (sym e)

pub passes_one : {A B : Type 0} (r : Result A ConfigFault) (ys : List (Option ConfigFault)) (v : A) (b : B) → Ok v ≡ r → answer (fault_in r ∷ ys) b ≡ answer ys b
unfolding answer
passes_one r ys v b e = rw (← e)

pub fails_one : {A B : Type 0} (r : Result A ConfigFault) (ys : List (Option ConfigFault)) (b : B) (f : ConfigFault) → Err f ≡ r → answer (fault_in r ∷ ys) b ≡ Err f
unfolding answer
fails_one r ys b f e = rw (← e)

pub answer-none : {A : Type 0} (a : A) → answer [] a ≡ Ok a
unfolding answer
answer-none a = refl

-- a fault that `?` passes on
pub passed_on : {A : Type 0} (r : Result A ConfigFault) (f : ConfigFault) (m : Result A ConfigFault) → IsErrAnd r (λ e. e ≡ f) → (f ≢ OutOfMemory → m ≡ Err f) → Answers r m
passed_on (Ok x) f m same e = absurd same
passed_on (Err g) f m same e = (tt, λ other. e (λ memory. other (same ∙ memory)) ∙ ap Err (sym same))

pub passed_on_items : {A : Type 0} (r : Result (Vec A Global) ConfigFault) (f : ConfigFault) (m : Result (List A) ConfigFault) → IsErrAnd r (λ e. e ≡ f) → (f ≢ OutOfMemory → m ≡ Err f) → AnswersItems r m
passed_on_items (Ok x) f m same e = absurd same
passed_on_items (Err g) f m same e = (tt, λ other. e (λ memory. other (same ∙ memory)) ∙ ap Err (sym same))

-- tables one after the other

pub walk-next : {A : Type 0} (f : ℕ → Data → A) (g : ℕ → Data → List (Option ConfigFault)) (n : ℕ) (ds rest : List Data) (d : Data) (done : List A) (a : A)
    → ds ≡ d ∷ rest → answer (g n d) (f n d) ≡ Ok a
    → answer (checks_from g n ds) (done ++ each_from f n ds) ≡ answer (checks_from g (n + 1) rest) ((done ++ a ∷ []) ++ each_from f (n + 1) rest)
unfolding checks_from each_from
walk-next f g n ds rest d done a first ok =
    rw first
    (answer-append-ok (g n d) (checks_from g (n + 1) rest) (f n d) a (done ++ f n d ∷ each_from f (n + 1) rest) ok
    ∙ ap (λ x. answer (checks_from g (n + 1) rest) (done ++ x ∷ each_from f (n + 1) rest)) (answer-value (g n d) (f n d) a ok)
    ∙ ap (answer (checks_from g (n + 1) rest)) (sym (append_assoc done (a ∷ []) (each_from f (n + 1) rest))))

pub walk-fails : {A B : Type 0} (f : ℕ → Data → A) (g : ℕ → Data → List (Option ConfigFault)) (n : ℕ) (ds rest : List Data) (d : Data) (b : B) (e : ConfigFault)
    → ds ≡ d ∷ rest → answer (g n d) (f n d) ≡ Err e → answer (checks_from g n ds) b ≡ Err e
unfolding checks_from
walk-fails f g n ds rest d b e first err = rw first (answer-append-err (g n d) (checks_from g (n + 1) rest) (f n d) b e err)

pub walk-end : {A : Type 0} (f : ℕ → Data → A) (g : ℕ → Data → List (Option ConfigFault)) (n : ℕ) (ds : List Data) (done : List A) → ds ≡ [] → answer (checks_from g n ds) (done ++ each_from f n ds) ≡ Ok done
unfolding checks_from each_from answer
walk-end f g n ds done none = rw (none, append-nil)

-- what is there after one more
pub each-next : {A : Type 0} (f : ℕ → Data → A) (n : ℕ) (ds rest : List Data) (d : Data) (done : List A) (a : A) → ds ≡ d ∷ rest → f n d ≡ a → done ++ each_from f n ds ≡ (done ++ a ∷ []) ++ each_from f (n + 1) rest
unfolding each_from
each-next f n ds rest d done a first same = rw (first, same) (sym (append_assoc done (a ∷ []) (each_from f (n + 1) rest)))

ok_for : {A B : Type 0} (a v : A) (b : B) (o : Option ConfigFault) → or_fault a o ≡ Ok v → or_fault b o ≡ Ok b
ok_for a v b None e = refl
ok_for a v b (Some f) e = cc

err_for : {A B : Type 0} (a : A) (b : B) (f : ConfigFault) (o : Option ConfigFault) → or_fault a o ≡ Err f → or_fault b o ≡ Err f
err_for a b f None e = cc
err_for a b f (Some g) e = cc

-- the same checks with another value
pub answer-ok_for : {A B : Type 0} (xs : List (Option ConfigFault)) (a v : A) (b : B) → answer xs a ≡ Ok v → answer xs b ≡ Ok b
unfolding answer
answer-ok_for xs a v b e = ok_for a v b (first_failing xs) e

pub answer-err_for : {A B : Type 0} (xs : List (Option ConfigFault)) (a : A) (b : B) (f : ConfigFault) → answer xs a ≡ Err f → answer xs b ≡ Err f
unfolding answer
answer-err_for xs a b f e = err_for a b f (first_failing xs) e
