-- By which filter a rank loses (RFC 4271, 9.1.1 and 9.1.2.2).
use Rattle.std.specs.Prelude.{◌==◌, Bool, List, [], ◌∷◌, Option, Some, None, if◌then◌else◌}
use Rattle.std.specs.List.{list_any}
use Rattle.rs_decision.specs.declared.rank.Rank.{Rank}
use Rattle.rs_decision.specs.declared.losing.Step.{Step}
use Rattle.rs_decision.specs.declared.losing.Step.TheVariants as S
use Rattle.rs_decision.specs.Choice.{by_preference, by_path, by_origin, by_med, by_identifier, by_address, by_place}
use Rattle.rs_decision.specs.Rank.{has_lower_med}

-- what is left after each step, in order
abbrev pub left_by : List Rank → List (Step × List Rank)
left_by ranks =
    (S.Preference, by_preference ranks)
    ∷ (S.Path, by_path ranks)
    ∷ (S.Origin, by_origin ranks)
    ∷ (S.Med, by_med ranks)
    ∷ (S.Identifier, by_identifier ranks)
    ∷ (S.Address, by_address ranks)
    ∷ (S.Place, by_place ranks)
    ∷ []

-- the rank is among these, as its place tells
abbrev pub is_among : Rank → List Rank → Bool
is_among r ranks = list_any (λ other. other.place == r.place) ranks

-- the first step after which the rank isn't left; None where it is left after all
abbrev pub first_without : Rank → List (Step × List Rank) → Option Step
first_without r [] = None
first_without r (left ∷ more) = if is_among r left.1 then first_without r more else Some left.0

unfoldable pub lost_by : List Rank → Rank → Option Step
lost_by ranks r = first_without r (left_by ranks)

-- the same beside the best rank, as the code asks
abbrev pub lost_to : List Rank → Rank → Rank → Option Step
lost_to ranks r best =
    if r.preference == best.preference
    then (if r.path_len == best.path_len
    then (if r.origin == best.origin
    then (if list_any (λ other. has_lower_med other r) ranks
    then Some S.Med
    else (if r.identifier == best.identifier
    then (if r.address == best.address
    then (if r.place == best.place then None else Some S.Place)
    else Some S.Address)
    else Some S.Identifier))
    else Some S.Origin)
    else Some S.Path)
    else Some S.Preference
