-- What is answered at the end of a row, step by step.
use Rattle.std.proofs.Common.{◌≡◌, ℕ, Bool, true, false, cond, ◌||◌, List, [], ◌∷◌, ◌++◌, Option, Some, None, Ok, refl, ap, ◌∙◌}
use Rattle.std.specs.Prelude.{option_map}
use Rattle.std.specs.Option.{option_or}
use Rattle.std.specs.List.{flat_map, find}
use Rattle.std.proofs.lemmas.List.Folds.{find-append, list_any-append}
use Rattle.byteorder.specs.Endian.{big_number}
use Rattle.rs_open.specs.declared.open.OpenFault.{OpenFault}
use Rattle.rs_open.specs.declared.open.OpenFault.TheVariants.{Parameter}
use Rattle.rs_open.specs.declared.reading.Capabilities.{Capabilities}
use Rattle.rs_open.specs.Triples.{Triple, Row, row_of, with_first}
use Rattle.rs_open.specs.Opens.{four_of, long_of, is_four_octet_as, is_extended_message, holds_capabilities, capabilities_in, capability_faults, parameter_faults, rest_faults, row_faults, unless}
use Rattle.rs_open.specs.Walk.{with_capabilities, capability_answer, capabilities_answer, parameters_answer}

-- ---- capabilities that are read in two parts

map_or : {A B : Type 0} (f : A → B) (x y : Option A) → option_map f (option_or x y) ≡ option_or (option_map f x) (option_map f y)
map_or f None y = refl
map_or f (Some a) y = refl

or_or : {A : Type 0} (x y z : Option A) → option_or x (option_or y z) ≡ option_or (option_or x y) z
or_or None y z = refl
or_or (Some a) y z = refl

either : (a b c : Bool) → (a || (b || c)) ≡ ((a || b) || c)
either true b c = refl
either false b c = refl

with_more : (had : Capabilities) (first more : List Triple) → with_capabilities had (first ++ more) ≡ with_capabilities (with_capabilities had first) more
with_more had first more =
    let number : Triple → ℕ = λ c. big_number 4 c.value in
    let four = ap (λ o. option_or had.four (option_map number o)) (find-append is_four_octet_as first more)
    ∙ ap (λ o. option_or had.four o) (map_or number (find is_four_octet_as first) (find is_four_octet_as more))
    ∙ or_or had.four (four_of first) (four_of more) in
    let long = ap (λ b. had.long || b) (list_any-append is_extended_message first more)
    ∙ either had.long (long_of first) (long_of more) in
    λ i. record { four = four i; long = long i }

-- ---- nothing was wrong

no_fault : {A : Type 0} (faults : List OpenFault) (a b : A) → Ok b ≡ unless faults a → faults ≡ []
no_fault [] a b e = refl
no_fault (fault ∷ faults) a b e = cc

answered : {A : Type 0} (faults : List OpenFault) (a b : A) → Ok b ≡ unless faults a → a ≡ b
answered [] a b e = cc
answered (fault ∷ faults) a b e = cc

-- a capability that is not bad
pub capability_read : (had found : Capabilities) (t : Triple) (row : Row) → Ok found ≡ capability_answer had t → capabilities_answer had (with_first t row) ≡ capabilities_answer found row
capability_read had found t row e =
    let faults : List OpenFault = capability_faults t in
    let said : Capabilities = with_capabilities had (t ∷ []) in
    ap (λ fs. unless (fs ++ flat_map capability_faults row.triples ++ rest_faults row.rest) (with_capabilities had (t ∷ row.triples))) (no_fault faults said found e)
    ∙ ap (λ c. unless (row_faults capability_faults row) c) (with_more had (t ∷ []) row.triples ∙ ap (λ c. with_capabilities c row.triples) (answered faults said found e))

-- a parameter with capabilities of which none is bad
pub parameter_read : (had found : Capabilities) (t : Triple) (row : Row) → holds_capabilities t ≡ true → Ok found ≡ capabilities_answer had (row_of t.value)
    → parameters_answer had (with_first t row) ≡ parameters_answer found row
parameter_read had found t row holds e =
    let faults : List OpenFault = row_faults capability_faults (row_of t.value) in
    let said : Capabilities = with_capabilities had (row_of t.value).triples in
    let more : List Triple = flat_map capabilities_in row.triples in
    let none : parameter_faults t ≡ [] = ap (λ b. cond b faults (Parameter ∷ [])) holds ∙ no_fault faults said found e in
    let has : capabilities_in t ≡ (row_of t.value).triples = ap (λ b. cond b (row_of t.value).triples []) holds in
    ap (λ fs. unless (fs ++ flat_map parameter_faults row.triples ++ rest_faults row.rest) (with_capabilities had (capabilities_in t ++ more))) none
    ∙ ap (λ cs. unless (row_faults parameter_faults row) (with_capabilities had (cs ++ more))) has
    ∙ ap (λ c. unless (row_faults parameter_faults row) c) (with_more had (row_of t.value).triples more ∙ ap (λ c. with_capabilities c more) (answered faults said found e))
