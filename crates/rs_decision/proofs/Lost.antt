-- The first filter that doesn't keep a rank is where the rank differs from the best.
use Rattle.std.proofs.Common.{Bool, true, false, not, ◌≡◌, ◌==◌, ◌||◌, ℕ, List, [], ◌∷◌, refl, sym, ◌∙◌, ap, subst, inl, inr, eq-eqb, ne_eqb, eqb-true, arith, if◌then◌else◌}
use Rattle.std.specs.Prelude.{Option, Some, None, ◌↔◌, IsNone, is_some, ◌<◌, length, slice_get}
use Rattle.std.specs.List.{AllByRecursion}
use Rattle.std.proofs.lemmas.Option.{get_or_from_slice_get}
use Rattle.rs_decision.specs.declared.rank.Rank.{Rank}
use Rattle.rs_decision.specs.declared.losing.Step.{Step}
use Rattle.rs_decision.specs.declared.losing.Step.TheVariants as S
use Rattle.rs_decision.specs.Choice.{by_preference, by_path, by_origin, by_med, by_identifier, by_address, by_place, best_of}
use Rattle.rs_decision.specs.Best.{HasDistinctPlaces, IsOnlyOneLeft}
use Rattle.rs_decision.specs.Losing.{left_by, is_among, first_without, lost_by, lost_to}
use Rattle.rs_decision.specs.Rank.{blank, rank_at}
use Rattle.rs_octets.proofs.Members.{Has, has, any_false, ApartBy, apart_by, same_key}
use Rattle.rs_decision.proofs.Filters.{unbeaten_apart, lowest, lowest_in, lowest_same, lowest_joins, highest, highest_in, highest_same, highest_joins}
use Rattle.rs_decision.proofs.Chosen.{preference, path, origin, identifier, address, place, to_origin, to_path, to_preference, to_all, med_is_lowest, lowest_is_med}
use Rattle.rs_decision.proofs.Compared.{loses, stays_has_lowest, lowest_stays, here}

-- ---- a rank is among some, by its place

or_true : (a b : Bool) → b ≡ true → (a || b) ≡ true
or_true true b e = refl
or_true false b e = e

among : (xs : List Rank) (c : Rank) → Has xs c → is_among c xs ≡ true
among [] c h = absurd h
among (x ∷ xs) c (inl is) = ap (λ b. b || is_among c xs) (eq-eqb x.place c.place (ap place is))
among (x ∷ xs) c (inr h) = or_true (x.place == c.place) (is_among c xs) (among xs c h)

not_among : (xs : List Rank) (c : Rank) → ((x : Rank) → Has xs x → x.place ≡ c.place → ⊥) → is_among c xs ≡ false
not_among xs c none = any_false (λ x. x.place == c.place) xs (λ x h. ne_eqb x.place c.place (none x h))

-- ---- a filter keeps a rank where it is as the one that is kept

among_lowest_by : (key : Rank → ℕ) (xs : List Rank) (b c : Rank) → ApartBy place xs → Has xs c → Has (lowest key xs) b → (same : Bool) → (key c == key b) ≡ same → is_among c (lowest key xs) ≡ same
among_lowest_by key xs b c apart hc hb true e = among (lowest key xs) c (lowest_joins key xs b c hb hc (eqb-true (key c) (key b) e))
among_lowest_by key xs b c apart hc hb false e =
    not_among (lowest key xs) c
    (λ x hx is.
    let one : x ≡ c = same_key place xs x c apart (lowest_in key xs x hx) hc is in
    let same : (key c == key b) ≡ true = eq-eqb (key c) (key b) (ap key (sym one) ∙ lowest_same key xs b x hb hx) in
    let f : true ≡ false = sym same ∙ e in (cc))

among_highest_by : (key : Rank → ℕ) (xs : List Rank) (b c : Rank) → ApartBy place xs → Has xs c → Has (highest key xs) b → (same : Bool) → (key c == key b) ≡ same → is_among c (highest key xs) ≡ same
among_highest_by key xs b c apart hc hb true e = among (highest key xs) c (highest_joins key xs b c hb hc (eqb-true (key c) (key b) e))
among_highest_by key xs b c apart hc hb false e =
    not_among (highest key xs) c
    (λ x hx is.
    let one : x ≡ c = same_key place xs x c apart (highest_in key xs x hx) hc is in
    let same : (key c == key b) ≡ true = eq-eqb (key c) (key b) (ap key (sym one) ∙ highest_same key xs b x hb hx) in
    let f : true ≡ false = sym same ∙ e in (cc))

among_med_by : (ranks : List Rank) (c : Rank) → ApartBy place (by_origin ranks) → Has (by_origin ranks) c → (lost : Bool) → loses ranks c ≡ lost → is_among c (by_med ranks) ≡ not lost
among_med_by ranks c apart hc false e = among (by_med ranks) c (lowest_is_med ranks c hc (stays_has_lowest ranks c e))
among_med_by ranks c apart hc true e =
    not_among (by_med ranks) c
    (λ x hx is.
    let one : x ≡ c = same_key place (by_origin ranks) x c apart (to_origin ranks x hx) hc is in
    let stays : loses ranks x ≡ false = lowest_stays ranks x (med_is_lowest ranks x hx) in
    let f : true ≡ false = sym e ∙ (ap (loses ranks) (sym one) ∙ stays) in (cc))

-- ---- a step

step_by : (is same : Bool) (step : Step) (more rest : Option Step) → is ≡ same → (same ≡ true → more ≡ rest) → (if is then more else Some step) ≡ (if same then rest else Some step)
step_by is true step more rest e h = ap (λ b. if b then more else Some step) e ∙ h refl
step_by is false step more rest e h = ap (λ b. if b then more else Some step) e

lost_step_by : (is lost : Bool) (step : Step) (more rest : Option Step) → is ≡ not lost → (lost ≡ false → more ≡ rest) → (if is then more else Some step) ≡ (if lost then Some step else rest)
lost_step_by is true step more rest e h = ap (λ b. if b then more else Some step) e
lost_step_by is false step more rest e h = ap (λ b. if b then more else Some step) e ∙ h refl

lowest_step : (key : Rank → ℕ) (xs : List Rank) (b c : Rank) (step : Step) (more rest : Option Step) → ApartBy place xs → Has xs c → Has (lowest key xs) b → (Has (lowest key xs) c → more ≡ rest)
    → (if is_among c (lowest key xs) then more else Some step) ≡ (if key c == key b then rest else Some step)
lowest_step key xs b c step more rest apart hc hb h =
    step_by (is_among c (lowest key xs)) (key c == key b) step more rest (among_lowest_by key xs b c apart hc hb (key c == key b) refl)
    (λ e. h (lowest_joins key xs b c hb hc (eqb-true (key c) (key b) e)))

highest_step : (key : Rank → ℕ) (xs : List Rank) (b c : Rank) (step : Step) (more rest : Option Step) → ApartBy place xs → Has xs c → Has (highest key xs) b → (Has (highest key xs) c → more ≡ rest)
    → (if is_among c (highest key xs) then more else Some step) ≡ (if key c == key b then rest else Some step)
highest_step key xs b c step more rest apart hc hb h =
    step_by (is_among c (highest key xs)) (key c == key b) step more rest (among_highest_by key xs b c apart hc hb (key c == key b) refl)
    (λ e. h (highest_joins key xs b c hb hc (eqb-true (key c) (key b) e)))

med_step : (ranks : List Rank) (c : Rank) (step : Step) (more rest : Option Step) → ApartBy place (by_origin ranks) → Has (by_origin ranks) c → (Has (by_med ranks) c → more ≡ rest)
    → (if is_among c (by_med ranks) then more else Some step) ≡ (if loses ranks c then Some step else rest)
med_step ranks c step more rest apart hc h =
    lost_step_by (is_among c (by_med ranks)) (loses ranks c) step more rest (among_med_by ranks c apart hc (loses ranks c) refl)
    (λ e. h (lowest_is_med ranks c hc (stays_has_lowest ranks c e)))

-- ---- all seven

lost_beside : (ranks : List Rank) (b c : Rank) → HasDistinctPlaces ranks → Has ranks c → Has (by_place ranks) b → lost_by ranks c ≡ lost_to ranks c b
unfolding lost_by
lost_beside ranks b c distinct hc hb =
    let apart_all : ApartBy place ranks = apart_by place ranks distinct in
    let apart_preference : ApartBy place (by_preference ranks) = unbeaten_apart place _ ranks apart_all in
    let apart_path : ApartBy place (by_path ranks) = unbeaten_apart place _ (by_preference ranks) apart_preference in
    let apart_origin : ApartBy place (by_origin ranks) = unbeaten_apart place _ (by_path ranks) apart_path in
    let apart_med : ApartBy place (by_med ranks) = unbeaten_apart place _ (by_origin ranks) apart_origin in
    let apart_identifier : ApartBy place (by_identifier ranks) = unbeaten_apart place _ (by_med ranks) apart_med in
    let apart_address : ApartBy place (by_address ranks) = unbeaten_apart place _ (by_identifier ranks) apart_identifier in
    let at_address : Has (by_address ranks) b = lowest_in place (by_address ranks) b hb in
    let at_identifier : Has (by_identifier ranks) b = lowest_in address (by_identifier ranks) b at_address in
    let at_med : Has (by_med ranks) b = lowest_in identifier (by_med ranks) b at_identifier in
    let at_origin : Has (by_origin ranks) b = to_origin ranks b at_med in
    highest_step preference ranks b c S.Preference _ _ apart_all hc (to_preference ranks b at_origin)
    (λ c_preference. lowest_step path (by_preference ranks) b c S.Path _ _ apart_preference c_preference (to_path ranks b at_origin)
    (λ c_path. lowest_step origin (by_path ranks) b c S.Origin _ _ apart_path c_path at_origin
    (λ c_origin. med_step ranks c S.Med _ _ apart_origin c_origin
    (λ c_med. lowest_step identifier (by_med ranks) b c S.Identifier _ _ apart_med c_med at_identifier
    (λ c_identifier. lowest_step address (by_identifier ranks) b c S.Address _ _ apart_identifier c_identifier at_address
    (λ c_address. lowest_step place (by_address ranks) b c S.Place _ _ apart_address c_address hb (λ c_place. refl)))))))

-- ---- the best alone isn't lost

kept_if : (is : Bool) (more : Option Step) (step : Step) → (if is then more else Some step) ≡ None → (is ≡ true) × (more ≡ None)
kept_if true more step e = (refl, e)
kept_if false more step e = cc

all_kept : (c : Rank) (left : List (Step × List Rank)) → first_without c left ≡ None → AllByRecursion (λ (l : Step × List Rank). is_among c l.1 ≡ true) left
all_kept c [] e = tt
all_kept c (l ∷ left) e =
    let h : (is_among c l.1 ≡ true) × (first_without c left ≡ None) = kept_if (is_among c l.1) (first_without c left) l.0 e in
    (h.0, all_kept c left h.1)

first_or : (a : Bool) → (a || false) ≡ true → a ≡ true
first_or true e = refl
first_or false e = e

-- what is left is one, which the last filter keeps
only_kept : (ranks : List Rank) (b c : Rank) → HasDistinctPlaces ranks → Has ranks b → Has ranks c → by_place ranks ≡ b ∷ [] → lost_by ranks c ≡ None → b ≡ c
unfolding lost_by
only_kept ranks b c distinct hb hc left e =
    let all = all_kept c (left_by ranks) e in
    let last : is_among c (b ∷ []) ≡ true = ap (is_among c) (sym left) ∙ all.1.1.1.1.1.1.0 in
    same_key place ranks b c (apart_by place ranks distinct) hb hc (eqb-true b.place c.place (first_or (b.place == c.place) last))

all_has : (ranks : List Rank) (b : Rank) → Has (by_place ranks) b → Has ranks b
all_has ranks b hb =
    to_all ranks b (to_origin ranks b (lowest_in identifier (by_med ranks) b (lowest_in address (by_identifier ranks) b (lowest_in place (by_address ranks) b hb))))

best_not_lost : (ranks : List Rank) (b : Rank) → Has (by_place ranks) b → lost_to ranks b b ≡ None
best_not_lost ranks b hb =
    let at_address : Has (by_address ranks) b = lowest_in place (by_address ranks) b hb in
    let at_med : Has (by_med ranks) b = lowest_in identifier (by_med ranks) b (lowest_in address (by_identifier ranks) b at_address) in
    let stays : loses ranks b ≡ false = lowest_stays ranks b (med_is_lowest ranks b at_med) in
    rw (eq-eqb b.preference b.preference refl, eq-eqb b.path_len b.path_len refl, eq-eqb b.origin b.origin refl, stays, eq-eqb b.identifier b.identifier refl, eq-eqb b.address b.address refl, eq-eqb b.place b.place refl) refl

some_is : (b c : Rank) → Some b ≡ Some c → b ≡ c
some_is b c e = cc

none_by : (o : Option Step) → IsNone o → o ≡ None
none_by None e = refl
none_by (Some step) e = cc

only_has : (xs : List Rank) (b : Rank) → xs ≡ b ∷ [] → Has xs b
only_has xs b e = subst (λ ys. Has ys b) (sym e) (inl refl)

-- the rank that is left is the one at its index
left_at : (ranks : List Rank) (j : ℕ) → IsOnlyOneLeft ranks j → by_place ranks ≡ rank_at ranks j ∷ []
left_at ranks j left = left.2 ∙ ap (λ r. r ∷ []) (sym (get_or_from_slice_get ranks j left.0 blank left.1))

pub none_within : (ranks : List Rank) (i : ℕ) → i < length ranks → ranks ≡ [] → ⊥
none_within ranks i within is = absurd (omega (arith, ap length is, within))

-- beside it, a rank's step is by its differences
pub lost_at : (ranks : List Rank) (i j : ℕ) → HasDistinctPlaces ranks → i < length ranks → IsOnlyOneLeft ranks j → lost_to ranks (rank_at ranks i) (rank_at ranks j) ≡ lost_by ranks (rank_at ranks i)
lost_at ranks i j distinct within left =
    sym (lost_beside ranks (rank_at ranks j) (rank_at ranks i) distinct (has ranks (rank_at ranks i) (here ranks i within)) (only_has (by_place ranks) (rank_at ranks j) (left_at ranks j left)))

pub none_at : (ranks : List Rank) (i j : ℕ) → HasDistinctPlaces ranks → i < length ranks → IsOnlyOneLeft ranks j → IsNone (lost_to ranks (rank_at ranks i) (rank_at ranks j)) ↔ (best_of ranks ≡ Some (rank_at ranks i))
none_at ranks i j distinct within left =
    let c : Rank = rank_at ranks i in
    let b : Rank = rank_at ranks j in
    let alone : by_place ranks ≡ b ∷ [] = left_at ranks j left in
    let best : best_of ranks ≡ Some b = ap (λ xs. slice_get xs 0) alone in
    let hc : Has ranks c = has ranks c (here ranks i within) in
    let hb : Has (by_place ranks) b = only_has (by_place ranks) b alone in (
      λ none. best ∙ ap Some (only_kept ranks b c distinct (all_has ranks b hb) hc alone (sym (lost_at ranks i j distinct within left) ∙ none_by (lost_to ranks c b) none)),
      λ is. ap is_some (ap (λ r. lost_to ranks r b) (sym (some_is b c (sym best ∙ is))) ∙ best_not_lost ranks b hb),
    )
