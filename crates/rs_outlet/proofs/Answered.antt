-- What a clause says of an answer, where it is known which one that is.
use Rattle.std.proofs.Common.{◌≡◌, ℕ, false, List, Option, None, Some, Result, Ok, Err, get_or, is_some, length, nat_lt, option_map, refl, subst, sym, arith}
use Rattle.std.specs.Prelude.{IfOk, IfSome, OnOk, is_err, option_copied, slice_get}
use Rattle.std.specs.Borrow.{Bor}
use mathlib.Core.Bool.{true≢false}
use Rattle.std.proofs.lemmas.Bool.Decides.{nat_tests}
use Rattle.std.proofs.lemmas.Option.{slice_get_past, slice_get_read}

pub if_some_at : {A : Type 0} (Q : A → Type 0) (o : Option A) (x : A) → o ≡ Some x → IfSome o Q → Q x
if_some_at Q o x is h = subst (λ o. IfSome o Q) is h

pub if_made : {A E : Type 0} (r : Result (Option A) E) (P Q : A → Type 0) → ((x : A) → P x → Q x) → IfOk r (λ made. IfSome made P) → IfOk r (λ made. IfSome made Q)
if_made (Ok None) P Q each h = tt
if_made (Ok (Some x)) P Q each h = each x h
if_made (Err e) P Q each h = tt

pub on_ok : {A E : Type 0} (r : Result A E) (P : Type 0) → is_err r ≡ false → OnOk r P → P
on_ok (Ok x) P is h = h
on_ok (Err e) P is h = absurd (true≢false is)

pub on_all : {A E X : Type 0} (r : Result A E) (B P : X → Type 0) → ((x : X) → B x → OnOk r (P x)) → OnOk r ((x : X) → B x → P x)
on_all (Ok a) B P each = each
on_all (Err e) B P each = tt

pub map_copied : {X Y : Type 0} (f : X → Y) (r : Option (Bor X)) → option_map (λ x. f x.now) r ≡ option_map f (option_copied r)
map_copied f None = refl
map_copied f (Some x) = refl

pub got_at : {X : Type 0} (xs : List X) (i : ℕ) (o : Option (Bor X)) → is_some o ≡ nat_lt i (length xs) → IfSome o (λ x. x.now ≡ get_or xs i x.now) → option_copied o ≡ slice_get xs i
got_at xs i None past is = sym (slice_get_past xs i (grind (arith, nat_tests, past)))
got_at xs i (Some x) there is = sym (slice_get_read xs (length xs) i x.now refl (grind (arith, nat_tests, there)) is)
