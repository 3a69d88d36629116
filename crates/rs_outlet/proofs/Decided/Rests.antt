-- What rules left of routes, and one more.
use Rattle.std.proofs.Common.{zero, suc, List, [], ◌∷◌, ◌++◌, subst}
use Rattle.std.proofs.lemmas.Option.{same_Some}
use Rattle.rs_attrs.specs.Stripping.{Taken}
use Rattle.rs_outlet.specs.declared.stripped.Rest.{Rest}
use Rattle.rs_outlet.specs.Decided.Rests.{AreRests, IsRest}

pub one_more_rest : (taken : Taken) (rests : List Rest) (r : Rest) → AreRests taken rests → IsRest taken r → AreRests taken (rests ++ r ∷ [])
one_more_rest taken [] r are is zero x at = subst (IsRest taken) (same_Some r x at) is
one_more_rest taken [] r are is (suc i) x at = absurd (cc at)
one_more_rest taken (y ∷ rests) r are is zero x at = are 0 x at
one_more_rest taken (y ∷ rests) r are is (suc i) x at = one_more_rest taken rests r (λ j. are (suc j)) is i x at
