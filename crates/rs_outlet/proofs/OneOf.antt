-- A test made twice.
use Rattle.std.proofs.Common.{◌≡◌, Bool, true, false, cond, refl}

pub cond_twice : {A : Type 0} (b : Bool) (x y z : A) → cond b x (cond b y z) ≡ cond b x z
cond_twice true x y z = refl
cond_twice false x y z = refl
