-- The seven filters together.
use Rattle.std.proofs.Common.{Bool, false, ◌≡◌, ◌≤◌, ◌&&◌, ◌==◌, ℕ, List, [], ◌∷◌, ◌≢◌, refl, sym, ◌∙◌, ap, subst, arith, inl, inr}
use Rattle.std.specs.Prelude.{Option, Some, None, nat_lt, slice_get, Contains}
use Rattle.std.specs.List.Sorted.{IsPermutation}
use Rattle.std.proofs.lemmas.Bool.Decides.{nat_tests}
use Rattle.std.proofs.lemmas.List.Sorted.{Contains-permutation, IsPermutation-sym}
use Rattle.rs_decision.specs.declared.rank.Rank.{Rank}
use Rattle.rs_decision.specs.Choice.{med_of, by_preference, by_path, by_origin, by_med, by_identifier, by_address, by_place, best_of}
use Rattle.rs_decision.specs.Best.{HasDistinctPlaces, IsLevel, HasLowestMed, IsUnbeaten, IsWithout, NoneLosesTo, BestIsUnbeaten, BestIgnoresOrder, BestStaysWithout}
use Rattle.rs_octets.proofs.Members.{Has, has, contains, ApartBy, apart_by, only}
use Rattle.rs_decision.proofs.Filters.{from_unbeaten, to_unbeaten, unbeaten_apart, lowest_is_least, least_is_lowest, lowest_in, lowest_same, lowest_joins, highest_is_greatest, greatest_is_highest, highest_in, highest_same, highest_joins}

abbrev pub preference : Rank → ℕ
preference r = r.preference

abbrev pub path : Rank → ℕ
path r = r.path_len

abbrev pub origin : Rank → ℕ
origin r = r.origin

abbrev pub identifier : Rank → ℕ
identifier r = r.identifier

abbrev pub address : Rank → ℕ
address r = r.address

abbrev pub place : Rank → ℕ
place r = r.place

-- ---- before MULTI_EXIT_DISC

pub to_path : (ranks : List Rank) (b : Rank) → Has (by_origin ranks) b → Has (by_path ranks) b
to_path ranks b h = lowest_in origin (by_path ranks) b h

pub to_preference : (ranks : List Rank) (b : Rank) → Has (by_origin ranks) b → Has (by_preference ranks) b
to_preference ranks b h = lowest_in path (by_preference ranks) b (to_path ranks b h)

pub to_all : (ranks : List Rank) (b : Rank) → Has (by_origin ranks) b → Has ranks b
to_all ranks b h = highest_in preference ranks b (to_preference ranks b h)

level : (ranks : List Rank) (b x : Rank) → Has (by_origin ranks) b → Has (by_origin ranks) x → IsLevel x b
level ranks b x hb hx = record {
  preference = highest_same preference ranks b x (to_preference ranks b hb) (to_preference ranks x hx);
  path = lowest_same path (by_preference ranks) b x (to_path ranks b hb) (to_path ranks x hx);
  origin = lowest_same origin (by_path ranks) b x hb hx;
}

joins : (ranks : List Rank) (b x : Rank) → Has (by_origin ranks) b → Has ranks x → IsLevel x b → Has (by_origin ranks) x
joins ranks b x hb hx same =
    lowest_joins origin (by_path ranks) b x hb
    (lowest_joins path (by_preference ranks) b x (to_path ranks b hb)
    (highest_joins preference ranks b x (to_preference ranks b hb) hx same.preference) same.path) same.origin

-- ---- MULTI_EXIT_DISC

pub at_most_med : (n m a b : ℕ) → ((n == m) && nat_lt a b) ≡ false → n ≡ m → b ≤ a
at_most_med n m a b is same = grind (arith, nat_tests)

pub not_lower_med : (n m a b : ℕ) → (n ≡ m → b ≤ a) → ((n == m) && nat_lt a b) ≡ false
not_lower_med n m a b h = grind (arith, nat_tests)

abbrev has_lower : Rank → Rank → Bool
has_lower a b = (a.neighbour == b.neighbour) && nat_lt (med_of a) (med_of b)

pub to_origin : (ranks : List Rank) (b : Rank) → Has (by_med ranks) b → Has (by_origin ranks) b
to_origin ranks b h = (from_unbeaten has_lower (by_origin ranks) b h).0

pub med_is_lowest : (ranks : List Rank) (b : Rank) → Has (by_med ranks) b → HasLowestMed ranks b
med_is_lowest ranks b h s hs same neighbour =
    at_most_med s.neighbour b.neighbour (med_of s) (med_of b)
    ((from_unbeaten has_lower (by_origin ranks) b h).1 s (joins ranks b s (to_origin ranks b h) (has ranks s hs) same)) neighbour

pub lowest_is_med : (ranks : List Rank) (b : Rank) → Has (by_origin ranks) b → HasLowestMed ranks b → Has (by_med ranks) b
lowest_is_med ranks b h low =
    to_unbeaten has_lower (by_origin ranks) b h
    (λ y hy. not_lower_med y.neighbour b.neighbour (med_of y) (med_of b) (low y (contains ranks y (to_all ranks y hy)) (level ranks b y h hy)))

-- ---- all seven

-- what is left is unbeaten
pub left_is_unbeaten : (ranks : List Rank) (b : Rank) → Has (by_place ranks) b → IsUnbeaten ranks b
left_is_unbeaten ranks b h =
    let at_address : Has (by_address ranks) b = lowest_in place (by_address ranks) b h in
    let at_identifier : Has (by_identifier ranks) b = lowest_in address (by_identifier ranks) b at_address in
    let at_med : Has (by_med ranks) b = lowest_in identifier (by_med ranks) b at_identifier in
    let at_origin : Has (by_origin ranks) b = to_origin ranks b at_med in
    let at_path : Has (by_path ranks) b = to_path ranks b at_origin in
    let at_preference : Has (by_preference ranks) b = to_preference ranks b at_origin in
    let in_preference : (s : Rank) → Contains ranks s → s.preference ≡ b.preference → Has (by_preference ranks) s =
    λ s hs same. highest_joins preference ranks b s at_preference (has ranks s hs) same in
    let in_med : (s : Rank) → Contains ranks s → IsLevel s b → HasLowestMed ranks s → Has (by_med ranks) s =
    λ s hs same low. lowest_is_med ranks s (joins ranks b s at_origin (has ranks s hs) same) low in
    let in_identifier : (s : Rank) → Contains ranks s → IsLevel s b → HasLowestMed ranks s → s.identifier ≡ b.identifier → Has (by_identifier ranks) s =
    λ s hs same low is. lowest_joins identifier (by_med ranks) b s at_identifier (in_med s hs same low) is in
    record {
      member = contains ranks b (to_all ranks b at_origin);
      preference = λ s hs. highest_is_greatest preference ranks b at_preference s (has ranks s hs);
      path = λ s hs same. lowest_is_least path (by_preference ranks) b at_path s (in_preference s hs same);
      origin = λ s hs same path_same. lowest_is_least origin (by_path ranks) b at_origin s (lowest_joins path (by_preference ranks) b s at_path (in_preference s hs same) path_same);
      med = med_is_lowest ranks b at_med;
      identifier = λ s hs same low. lowest_is_least identifier (by_med ranks) b at_identifier s (in_med s hs same low);
      address = λ s hs same low is. lowest_is_least address (by_identifier ranks) b at_address s (in_identifier s hs same low is);
      place = λ s hs same low is also. lowest_is_least place (by_address ranks) b h s (lowest_joins address (by_identifier ranks) b s at_address (in_identifier s hs same low is) also);
    }

-- what is unbeaten is left
pub unbeaten_is_left : (ranks : List Rank) (b : Rank) → IsUnbeaten ranks b → Has (by_place ranks) b
unbeaten_is_left ranks b u =
    let at_preference : Has (by_preference ranks) b = greatest_is_highest preference ranks b (has ranks b u.member) (λ y hy. u.preference y (contains ranks y hy)) in
    let at_path : Has (by_path ranks) b =
    least_is_lowest path (by_preference ranks) b at_preference
    (λ y hy. u.path y (contains ranks y (highest_in preference ranks y hy)) (highest_same preference ranks b y at_preference hy)) in
    let at_origin : Has (by_origin ranks) b =
    least_is_lowest origin (by_path ranks) b at_path
    (λ y hy. let up : Has (by_preference ranks) y = lowest_in path (by_preference ranks) y hy in
    u.origin y (contains ranks y (highest_in preference ranks y up)) (highest_same preference ranks b y at_preference up) (lowest_same path (by_preference ranks) b y at_path hy)) in
    let at_med : Has (by_med ranks) b = lowest_is_med ranks b at_origin u.med in
    let member : (y : Rank) → Has (by_med ranks) y → Contains ranks y = λ y hy. contains ranks y (to_all ranks y (to_origin ranks y hy)) in
    let same : (y : Rank) → Has (by_med ranks) y → IsLevel y b = λ y hy. level ranks b y at_origin (to_origin ranks y hy) in
    let at_identifier : Has (by_identifier ranks) b =
    least_is_lowest identifier (by_med ranks) b at_med (λ y hy. u.identifier y (member y hy) (same y hy) (med_is_lowest ranks y hy)) in
    let at_address : Has (by_address ranks) b =
    least_is_lowest address (by_identifier ranks) b at_identifier
    (λ y hy. let up : Has (by_med ranks) y = lowest_in identifier (by_med ranks) y hy in
    u.address y (member y up) (same y up) (med_is_lowest ranks y up) (lowest_same identifier (by_med ranks) b y at_identifier hy)) in
    least_is_lowest place (by_address ranks) b at_address
    (λ y hy. let at : Has (by_identifier ranks) y = lowest_in address (by_identifier ranks) y hy in
    let up : Has (by_med ranks) y = lowest_in identifier (by_med ranks) y at in
    u.place y (member y up) (same y up) (med_is_lowest ranks y up) (lowest_same identifier (by_med ranks) b y at_identifier at) (lowest_same address (by_identifier ranks) b y at_address hy))

all_apart : (ranks : List Rank) → HasDistinctPlaces ranks → ApartBy place (by_place ranks)
all_apart ranks distinct =
    unbeaten_apart place _ (by_address ranks)
    (unbeaten_apart place _ (by_identifier ranks)
    (unbeaten_apart place _ (by_med ranks)
    (unbeaten_apart place _ (by_origin ranks)
    (unbeaten_apart place _ (by_path ranks)
    (unbeaten_apart place _ (by_preference ranks) (unbeaten_apart place _ ranks (apart_by place ranks distinct)))))))

-- and alone, where no two have the same place
pub unbeaten_is_only : (ranks : List Rank) (b : Rank) → HasDistinctPlaces ranks → IsUnbeaten ranks b → by_place ranks ≡ b ∷ []
unbeaten_is_only ranks b distinct u =
    let h : Has (by_place ranks) b = unbeaten_is_left ranks b u in
    only place (by_place ranks) b (all_apart ranks distinct) h (λ y hy. lowest_same place (by_address ranks) b y h hy)

-- ---- the laws

first_has : (xs : List Rank) (b : Rank) → slice_get xs 0 ≡ Some b → Has xs b
first_has [] b is = absurd (let e : None ≡ Some b = is in (cc))
first_has (x ∷ xs) b is = inl (let e : Some x ≡ Some b = is in (cc))

pub best_is_unbeaten : BestIsUnbeaten
best_is_unbeaten ranks b is = left_is_unbeaten ranks b (first_has (by_place ranks) b is)

moved_med : (ranks others : List Rank) (b : Rank) → IsPermutation ranks others → HasLowestMed ranks b → HasLowestMed others b
moved_med ranks others b moved low s hs = low s (Contains-permutation others ranks s (IsPermutation-sym ranks others moved) hs)

moved_back : (ranks others : List Rank) (s : Rank) → IsPermutation ranks others → Contains others s → Contains ranks s
moved_back ranks others s moved hs = Contains-permutation others ranks s (IsPermutation-sym ranks others moved) hs

moved_unbeaten : (ranks others : List Rank) (b : Rank) → IsPermutation ranks others → IsUnbeaten ranks b → IsUnbeaten others b
moved_unbeaten ranks others b moved u =
    let back : (s : Rank) → Contains others s → Contains ranks s = λ s hs. moved_back ranks others s moved hs in
    let low : (s : Rank) → HasLowestMed others s → HasLowestMed ranks s = λ s h. moved_med others ranks s (IsPermutation-sym ranks others moved) h in
    record {
      member = Contains-permutation ranks others b moved u.member;
      preference = λ s hs. u.preference s (back s hs);
      path = λ s hs. u.path s (back s hs);
      origin = λ s hs. u.origin s (back s hs);
      med = moved_med ranks others b moved u.med;
      identifier = λ s hs same h. u.identifier s (back s hs) same (low s h);
      address = λ s hs same h. u.address s (back s hs) same (low s h);
      place = λ s hs same h. u.place s (back s hs) same (low s h);
    }

none_left : (xs : List Rank) (b : Rank) → slice_get xs 0 ≡ None → Has xs b → ⊥
none_left [] b is h = h
none_left (x ∷ xs) b is h = let e : Some x ≡ None = is in (cc)

ignores_at : (ranks others : List Rank) → HasDistinctPlaces ranks → IsPermutation ranks others → (mine theirs : Option Rank) → best_of ranks ≡ mine → best_of others ≡ theirs → mine ≡ theirs
ignores_at ranks others distinct moved mine (Some c) is theirs_is =
    let u : IsUnbeaten ranks c = moved_unbeaten others ranks c (IsPermutation-sym ranks others moved) (best_is_unbeaten others c theirs_is) in
    sym is ∙ ap (λ xs. slice_get xs 0) (unbeaten_is_only ranks c distinct u)
ignores_at ranks others distinct moved None None is theirs_is = refl
ignores_at ranks others distinct moved (Some b) None is theirs_is =
    absurd (none_left (by_place others) b theirs_is (unbeaten_is_left others b (moved_unbeaten ranks others b moved (best_is_unbeaten ranks b is))))

pub best_ignores_order : BestIgnoresOrder
best_ignores_order ranks others distinct moved = ignores_at ranks others distinct moved (best_of ranks) (best_of others) refl refl

-- ---- one rank less

module _ (ranks others : List Rank) (x : Rank) (without : IsWithout x ranks others) (none : NoneLosesTo x others) where
  lowest_of_all : (s : Rank) → Contains others s → HasLowestMed others s → HasLowestMed ranks s
  lowest_of_all s hs low t ht same neighbour = elim (without.all t ht) [
    | inl e ↦
        let level : IsLevel x s = subst (λ (r : Rank). IsLevel r s) e same in
        let near : x.neighbour ≡ s.neighbour = subst (λ (r : Rank). r.neighbour ≡ s.neighbour) e neighbour in
        subst (λ (r : Rank). med_of s ≤ med_of r) (sym e) (none s hs level near)
    | inr h ↦ low t h same neighbour
  ]

  still_unbeaten : (best : Rank) → best.place ≢ x.place → IsUnbeaten ranks best → IsUnbeaten others best
  still_unbeaten best other u = record {
    member = elim (without.all best u.member) [
      | inl e ↦ absurd (other (ap (λ (r : Rank). r.place) e))
      | inr h ↦ h
    ];
    preference = λ s hs. u.preference s (without.within s hs);
    path = λ s hs. u.path s (without.within s hs);
    origin = λ s hs. u.origin s (without.within s hs);
    med = λ s hs. u.med s (without.within s hs);
    identifier = λ s hs same low. u.identifier s (without.within s hs) same (lowest_of_all s hs low);
    address = λ s hs same low. u.address s (without.within s hs) same (lowest_of_all s hs low);
    place = λ s hs same low. u.place s (without.within s hs) same (lowest_of_all s hs low);
  }

pub best_stays_without : BestStaysWithout
best_stays_without ranks others x best distinct without is other none =
    ap (λ xs. slice_get xs 0) (unbeaten_is_only others best distinct (still_unbeaten ranks others x without none best other (best_is_unbeaten ranks best is)))
