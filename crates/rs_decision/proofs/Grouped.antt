-- The exits in order, and the first rank to which none of them is lower.
use Rattle.std.proofs.Common.{Bool, true, false, not, cond, ◌≡◌, ◌<◌, ◌≤◌, ◌&&◌, ◌||◌, ◌==◌, ◌+◌, ℕ, List, [], ◌∷◌, length, map, refl, sym, ◌∙◌, ap, subst, arith, below_more}
use Rattle.std.specs.Prelude.{nat_lt, Option, Some, None, IsNone, IsSome, Contains, slice_index_or}
use Rattle.std.specs.List.{list_any, filter, AllWithin}
use Rattle.std.specs.List.Sorted.{IsPermutation, IsSortedByKey}
use Rattle.std.specs.declared.cmp.Ordering.{Ordering}
use Rattle.std.specs.declared.cmp.Ordering.TheVariants.{Less, Equal, Greater}
use Rattle.std.specs.Ordering.{on, nat_cmp, is_lt, ordering_then}
use Rattle.std.specs.Cmp.{IsTotalOrder}
use Rattle.std.proofs.lemmas.Cmp.{then_total, on_total, nat_cmp_total}
use Rattle.std.proofs.lemmas.Bool.Decides.{nat_tests}
use Rattle.std.proofs.lemmas.List.{get_or_default}
use Rattle.std.proofs.lemmas.List.Folds.{list_any_at}
use Rattle.std.proofs.lemmas.List.Sorted.{sorted_far, list_any-IsPermutation}
use Rattle.std.proofs.lemmas.List.MinMax.{ranks_by}
use Rattle.rs_octets.proofs.Members.{has, contains, any_false, none_of}
use Rattle.rs_decision.specs.declared.exits.Exit.{Exit}
use Rattle.rs_decision.specs.declared.rank.Rank.{Rank}
use Rattle.rs_decision.specs.Choice.{med_of}
use Rattle.rs_decision.specs.Best.{HasDistinctPlaces, IsOnlyOneLeft, IsLevel}
use Rattle.rs_decision.specs.Rank.{is_level, precedes, precedes_any, rank_at, IsFirst, IsFirstAmong}
use Rattle.rs_decision.specs.Exits.{exit_of, is_lower, is_left, AreGrouped}
use Rattle.rs_decision.proofs.Filters.{at_most}
use Rattle.rs_decision.proofs.Chosen.{at_most_med, not_lower_med}
use Rattle.rs_decision.proofs.Compared.{loses, level_is, precedes_self, precedes_past, IsLevelStay, stay, each, here, reached_is_left}

-- ---- put in order

abbrev pub pair_order : ℕ × ℕ → ℕ × ℕ → Ordering
pair_order x y = ordering_then (nat_cmp x.0 y.0) (nat_cmp x.1 y.1)

pair_total : IsTotalOrder pair_order
pair_total = then_total {R = on (λ (p : ℕ × ℕ). p.0) nat_cmp} {S = on (λ (p : ℕ × ℕ). p.1) nat_cmp} (on_total (λ (p : ℕ × ℕ). p.0) nat_cmp_total) (on_total (λ (p : ℕ × ℕ). p.1) nat_cmp_total)

abbrev pub pair_of : Exit → ℕ × ℕ
pair_of e = (e.neighbour, e.med)

first_part : (s t : Bool) (o : Ordering) → is_lt (ordering_then (cond s Less (cond t Equal Greater)) o) ≡ false → (s ≡ false) × (t ≡ true → is_lt o ≡ false)
first_part true t o h = absurd (let e : true ≡ false = h in (cc))
first_part false true o h = (refl, λ _. h)
first_part false false o h = (refl, λ is. absurd (let e : false ≡ true = is in (cc)))

alone : (s t : Bool) → is_lt (cond s Less (cond t Equal Greater)) ≡ false → s ≡ false
alone true t h = absurd (let e : true ≡ false = h in (cc))
alone false t h = refl

not_after : (a b : Exit) → is_lt (pair_order (pair_of b) (pair_of a)) ≡ false → (a.neighbour ≤ b.neighbour) × (a.neighbour ≡ b.neighbour → a.med ≤ b.med)
not_after a b h =
    let parts = first_part (nat_lt b.neighbour a.neighbour) (b.neighbour == a.neighbour) (nat_cmp b.med a.med) h in
    (at_most b.neighbour a.neighbour parts.0, λ same. at_most b.med a.med (alone (nat_lt b.med a.med) (b.med == a.med) (parts.1 (grind (arith, nat_tests, same)))))

pub sorted_is_grouped : (exits : List Exit) → IsSortedByKey pair_of pair_order exits → AreGrouped exits
sorted_is_grouped exits up =
    let far : (i j : ℕ) (d : Exit) → i ≤ j → j < length exits → is_lt (pair_order (pair_of (slice_index_or exits j d)) (pair_of (slice_index_or exits i d))) ≡ false =
    sorted_far (λ x y. is_lt (pair_order (pair_of x) (pair_of y))) (ranks_by pair_total pair_of) exits up in
    record {
      neighbours = λ i j d up below. (not_after (slice_index_or exits i d) (slice_index_or exits j d) (far i j d up below)).0;
      meds = λ i j d up below. (not_after (slice_index_or exits i d) (slice_index_or exits j d) (far i j d up below)).1;
    }

-- ---- the search

abbrev pub any_lower : List Exit → Rank → Bool
any_lower exits r = list_any (λ e. is_lower e r) exits

-- where the exit at start, the first that is not to a lower AS, is not lower, none is
not_lower_on : (exits : List Exit) (r : Rank) (start k : ℕ) (d : Exit) → AreGrouped exits → start ≤ k → k < length exits → r.neighbour ≤ (slice_index_or exits start d).neighbour →
    is_lower (slice_index_or exits start d) r ≡ false → (slice_index_or exits k d).neighbour ≡ r.neighbour → med_of r ≤ (slice_index_or exits k d).med
not_lower_on exits r start k d grouped up below least first_not same =
    let s : Exit = slice_index_or exits start d in
    let e : Exit = slice_index_or exits k d in
    let first : s.neighbour ≤ e.neighbour = grouped.neighbours start k d up below in
    let here_same : s.neighbour ≡ r.neighbour = omega (arith, first, least, same) in
    let low : s.med ≤ e.med = grouped.meds start k d up below (here_same ∙ sym same) in
    let from : med_of r ≤ s.med = at_most_med s.neighbour r.neighbour s.med (med_of r) first_not here_same in
    omega (arith, low, from)

abbrev pub IsBelow : List Exit → Rank → ℕ → Type 0
IsBelow exits r start = AllWithin (λ e. nat_lt e.neighbour r.neighbour ≡ true) exits 0 start

member_not_lower : (exits : List Exit) (r : Rank) (start k : ℕ) (d : Exit) → AreGrouped exits → IsBelow exits r start → k < length exits →
    (start < length exits → r.neighbour ≤ (slice_index_or exits start d).neighbour) → (start < length exits → is_lower (slice_index_or exits start d) r ≡ false) →
    (slice_index_or exits k d).neighbour ≡ r.neighbour → (b : Bool) → nat_lt k start ≡ b → med_of r ≤ (slice_index_or exits k d).med
member_not_lower exits r start k d grouped lower below least first_not same true before =
    let is : nat_lt (slice_index_or exits k d).neighbour r.neighbour ≡ true = lower k d (omega arith) (grind (arith, nat_tests, before)) in
    absurd (grind (arith, nat_tests, is, same))
member_not_lower exits r start k d grouped lower below least first_not same false after =
    let up : start ≤ k = at_most k start after in
    let within : start < length exits = omega (arith, up, below) in
    not_lower_on exits r start k d grouped up below (least within) (first_not within) same

none_lower : (exits : List Exit) (r : Rank) (start : ℕ) → AreGrouped exits → IsBelow exits r start → ((d : Exit) → start < length exits → r.neighbour ≤ (slice_index_or exits start d).neighbour) →
    ((d : Exit) → start < length exits → is_lower (slice_index_or exits start d) r ≡ false) → any_lower exits r ≡ false
none_lower exits r start grouped lower least first_not =
    any_false (λ e. is_lower e r) exits
    (λ e he.
    let at : Contains exits e = contains exits e he in
    not_lower_med e.neighbour r.neighbour e.med (med_of r)
    (λ same. subst (λ x. med_of r ≤ x.med) at.2
    (member_not_lower exits r start at.0 e grouped lower at.1 (least e) (first_not e) (ap (λ x. x.neighbour) at.2 ∙ same) (nat_lt at.0 start) refl)))

pub past_all : (exits : List Exit) (r : Rank) (start : ℕ) → AreGrouped exits → IsBelow exits r start → length exits ≤ start → false ≡ any_lower exits r
past_all exits r start grouped lower past =
    sym (none_lower exits r start grouped lower (λ d within. absurd (omega (arith, past, within))) (λ d within. absurd (omega (arith, past, within))))

pub lowest_tells : (exits : List Exit) (r : Rank) (start : ℕ) (d : Exit) → AreGrouped exits → IsBelow exits r start → AllWithin (λ e. nat_lt e.neighbour r.neighbour ≡ false) exits start (length exits) → start < length exits →
    (b : Bool) → is_lower (slice_index_or exits start d) r ≡ b → b ≡ any_lower exits r
lowest_tells exits r start d grouped lower rest within true is = sym (list_any_at (λ e. is_lower e r) exits start d within is)
lowest_tells exits r start d grouped lower rest within false is =
    sym
    (none_lower exits r start grouped lower (λ d' below. at_most (slice_index_or exits start d').neighbour r.neighbour (rest start d' (omega arith) below))
    (λ d' below. ap (λ e. is_lower e r) (get_or_default exits start d' d below) ∙ is))

-- what the code asks of the exit at start
pub lowest_is : (n m a b read : ℕ) → n ≡ m → read ≡ b → ((n == m) && nat_lt a b) ≡ nat_lt a read
lowest_is n m a b read same is = let here : (n == m) ≡ true = grind (arith, nat_tests, same) in (λ i. here i && nat_lt a (sym is i))

pub lowest_is_not : (n m a b : ℕ) → (n ≡ m → ⊥) → ((n == m) && nat_lt a b) ≡ (n == m)
lowest_is_not n m a b apart = let here : (n == m) ≡ false = grind (arith, nat_tests, apart) in ap (λ t. t && nat_lt a b) here ∙ sym here

-- ---- the exits of a level

abbrev pub level_of : List Rank → Rank → List Rank
level_of ranks level = filter (λ r. is_level r level) ranks

-- a test finds one of the exits of a level where it finds it in a rank of the level
any_at : (q : Exit → Bool) (p : Rank → Bool) (s : Rank) (ss : List Rank) → list_any q (map exit_of (filter p ss)) ≡ list_any (λ r. p r && q (exit_of r)) ss →
    (b : Bool) → list_any q (map exit_of (cond b (s ∷ filter p ss) (filter p ss))) ≡ (b && q (exit_of s) || list_any (λ r. p r && q (exit_of r)) ss)
any_at q p s ss rest true = ap (λ t. q (exit_of s) || t) rest
any_at q p s ss rest false = rest

any_of_level : (q : Exit → Bool) (p : Rank → Bool) (ranks : List Rank) → list_any q (map exit_of (filter p ranks)) ≡ list_any (λ r. p r && q (exit_of r)) ranks
any_of_level q p [] = refl
any_of_level q p (s ∷ ss) = any_at q p s ss (any_of_level q p ss) (p s)

and_moved : (x a b : Bool) → (x && (a && b)) ≡ (a && b && x)
and_moved true true true = refl
and_moved true true false = refl
and_moved true false b = refl
and_moved false true true = refl
and_moved false true false = refl
and_moved false false b = refl

level_alike : (s r t : Rank) → IsLevel r t → is_level s t ≡ is_level s r
level_alike s r t l = λ i. (s.preference == sym l.preference i) && (s.path_len == sym l.path i) && (s.origin == sym l.origin i)

-- the exits of a level tell which of its ranks lose
any_lower_is_loses : (ranks : List Rank) (level r : Rank) → IsLevel r level → any_lower (map exit_of (level_of ranks level)) r ≡ loses ranks r
any_lower_is_loses ranks level r l =
    any_of_level (λ e. is_lower e r) (λ s. is_level s level) ranks ∙
    (λ i. list_any (λ s. (and_moved (is_level s level) (s.neighbour == r.neighbour) (nat_lt (med_of s) (med_of r)) ∙ ap (λ x. (s.neighbour == r.neighbour) && nat_lt (med_of s) (med_of r) && x) (level_alike s r level l)) i) ranks)

-- ---- the walk for the first

-- the first of the first i ranks that pass a test stands there; without one none passes
abbrev pub IsFirstLeft : (Rank → Bool) → List Rank → ℕ → Option ℕ → Type 0
IsFirstLeft passes ranks i None = (k : ℕ) → k < i → passes (rank_at ranks k) ≡ false
IsFirstLeft passes ranks i (Some n) =
    (n < length ranks) × (passes (rank_at ranks n) ≡ true) × ((k : ℕ) → k < i → passes (rank_at ranks k) ≡ true → precedes (rank_at ranks k) (rank_at ranks n) ≡ false)

taken_at : (passes : Rank → Bool) (ranks : List Rank) (i : ℕ) (left : Option ℕ) → i < length ranks → IsFirstLeft passes ranks i left → passes (rank_at ranks i) ≡ true → precedes_any ranks (rank_at ranks i) left ≡ true →
    (k : ℕ) → k < i → passes (rank_at ranks k) ≡ true → precedes (rank_at ranks k) (rank_at ranks i) ≡ false
taken_at passes ranks i None within so_far is leads k below passes_it = absurd (let e : true ≡ false = sym passes_it ∙ so_far k below in (cc))
taken_at passes ranks i (Some n) within so_far is leads k below passes_it = precedes_past (rank_at ranks k) (rank_at ranks n) (rank_at ranks i) (so_far.2 k below passes_it) leads

pub left_takes : (passes : Rank → Bool) (ranks : List Rank) (i : ℕ) (left new : Option ℕ) → new ≡ Some i → i < length ranks → IsFirstLeft passes ranks i left → passes (rank_at ranks i) ≡ true →
    precedes_any ranks (rank_at ranks i) left ≡ true → IsFirstLeft passes ranks (i + 1) new
left_takes passes ranks i left new is within so_far passes_it leads =
    subst (IsFirstLeft passes ranks (i + 1)) (sym is) (
      within,
      passes_it,
      below_more (λ k. passes (rank_at ranks k) ≡ true → precedes (rank_at ranks k) (rank_at ranks i) ≡ false) i
          (taken_at passes ranks i left within so_far passes_it leads) (λ _. precedes_self (rank_at ranks i)),
    )

none_more : (passes : Rank → Bool) (ranks : List Rank) (i : ℕ) → ((k : ℕ) → k < i → passes (rank_at ranks k) ≡ false) → (passes (rank_at ranks i) ≡ true → true ≡ false) → (b : Bool) → passes (rank_at ranks i) ≡ b →
    (k : ℕ) → k < i + 1 → passes (rank_at ranks k) ≡ false
none_more passes ranks i so_far here_not true is = absurd (let e : true ≡ false = here_not is in (cc))
none_more passes ranks i so_far here_not false is = below_more (λ k. passes (rank_at ranks k) ≡ false) i so_far is

passed_at : (passes : Rank → Bool) (ranks : List Rank) (i : ℕ) (left : Option ℕ) → IsFirstLeft passes ranks i left → (passes (rank_at ranks i) ≡ true → precedes_any ranks (rank_at ranks i) left ≡ false) → IsFirstLeft passes ranks (i + 1) left
passed_at passes ranks i None so_far here_not = none_more passes ranks i so_far here_not (passes (rank_at ranks i)) refl
passed_at passes ranks i (Some n) so_far here_not =
    (so_far.0, so_far.1, below_more (λ k. passes (rank_at ranks k) ≡ true → precedes (rank_at ranks k) (rank_at ranks n) ≡ false) i so_far.2 here_not)

pub left_passes : (passes : Rank → Bool) (ranks : List Rank) (i : ℕ) (left new : Option ℕ) → new ≡ left → IsFirstLeft passes ranks i left →
    (passes (rank_at ranks i) ≡ true → precedes_any ranks (rank_at ranks i) left ≡ false) → IsFirstLeft passes ranks (i + 1) new
left_passes passes ranks i left new is so_far here_not = subst (IsFirstLeft passes ranks (i + 1)) (sym is) (passed_at passes ranks i left so_far here_not)

pub left_is_none : (passes : Rank → Bool) (ranks : List Rank) (left : Option ℕ) → IsFirstLeft passes ranks (length ranks) left → IsNone left → list_any passes ranks ≡ false
left_is_none passes ranks None so_far none = any_false passes ranks (λ s hs. each (λ r. passes r ≡ false) ranks so_far s (contains ranks s hs))
left_is_none passes ranks (Some n) so_far none = absurd (let e : true ≡ false = none in (cc))

-- ---- what the walk ends with

-- the exits are those of the first rank's level, in some order
abbrev pub TellOfLevel : List Rank → Rank → List Exit → Type 0
TellOfLevel ranks level exits = (r : Rank) → IsLevel r level → any_lower exits r ≡ loses ranks r

pub exits_tell : (ranks : List Rank) (level : Rank) (listed exits : List Exit) → listed ≡ map exit_of (level_of ranks level) → IsPermutation listed exits → TellOfLevel ranks level exits
exits_tell ranks level listed exits is moved r l =
    sym (list_any-IsPermutation (λ e. is_lower e r) listed exits moved) ∙ (ap (λ es. any_lower es r) is ∙ any_lower_is_loses ranks level r l)

both : (x y : Bool) → (x && not y) ≡ true → (x ≡ true) × (y ≡ false)
both true false h = (refl, refl)
both true true h = absurd (let e : false ≡ true = h in (cc))
both false y h = absurd (let e : false ≡ true = h in (cc))

and_not : (x y : Bool) → x ≡ true → y ≡ false → (x && not y) ≡ true
and_not true false h g = refl
and_not true true h g = absurd (let e : true ≡ false = g in (cc))
and_not false y h g = absurd (let e : false ≡ true = h in (cc))

level_test : (a b : Rank) → IsLevel a b → is_level a b ≡ true
level_test a b l = grind (arith, nat_tests, l.preference, l.path, l.origin)

left_of_stay : (ranks : List Rank) (level r : Rank) (exits : List Exit) → TellOfLevel ranks level exits → is_level r level ≡ true → loses ranks r ≡ false → is_left exits level r ≡ true
left_of_stay ranks level r exits tell same stays = and_not (is_level r level) (any_lower exits r) same (tell r (level_is r level same) ∙ stays)

stay_of_left : (ranks : List Rank) (level r : Rank) (exits : List Exit) → TellOfLevel ranks level exits → is_left exits level r ≡ true → (is_level r level ≡ true) × (loses ranks r ≡ false)
stay_of_left ranks level r exits tell left =
    let parts = both (is_level r level) (any_lower exits r) left in
    (parts.0, sym (tell r (level_is r level parts.0)) ∙ parts.1)

-- of two lexicographic tests that agree in the first three keys, and do not come to the rest
not_level : (x a y b z c rest other : Bool) → (x || a && (y || b && (z || c && rest))) ≡ false → (a && b && c) ≡ false → (x || a && (y || b && (z || c && other))) ≡ false
not_level true a y b z c rest other h g = absurd (let e : true ≡ false = h in (cc))
not_level false false y b z c rest other h g = refl
not_level false true true b z c rest other h g = absurd (let e : true ≡ false = h in (cc))
not_level false true false false z c rest other h g = refl
not_level false true false true true c rest other h g = absurd (let e : true ≡ false = h in (cc))
not_level false true false true false false rest other h g = refl
not_level false true false true false true rest other h g = absurd (let e : true ≡ false = g in (cc))

abbrev senders : Rank → Rank → Bool
senders a b = nat_lt a.identifier b.identifier || (a.identifier == b.identifier) && (nat_lt a.address b.address || (a.address == b.address) && nat_lt a.place b.place)

-- a rank of another level that does not precede one does not precede another of that one's level
other_level : (k f i : Rank) → precedes k f ≡ false → is_level k f ≡ false → IsLevel i f → precedes k i ≡ false
other_level k f i h apart l =
    (λ j. nat_lt (l.preference j) k.preference || (k.preference == l.preference j)
    && (nat_lt k.path_len (l.path j) || (k.path_len == l.path j)
    && (nat_lt k.origin (l.origin j) || (k.origin == l.origin j) && senders k i)))
    ∙ not_level (nat_lt f.preference k.preference) (k.preference == f.preference) (nat_lt k.path_len f.path_len) (k.path_len == f.path_len) (nat_lt k.origin f.origin) (k.origin == f.origin) (senders k f) (senders k i) h apart

before_left : (ranks : List Rank) (first best : ℕ) (exits : List Exit) → IsFirst ranks first → TellOfLevel ranks (rank_at ranks first) exits → IsFirstAmong (is_left exits (rank_at ranks first)) ranks best →
    (k : ℕ) → k < length ranks → loses ranks (rank_at ranks k) ≡ false → (b : Bool) → is_level (rank_at ranks k) (rank_at ranks first) ≡ b → precedes (rank_at ranks k) (rank_at ranks best) ≡ false
before_left ranks first best exits is_first tell found k below stays true same = found.first k below (left_of_stay ranks (rank_at ranks first) (rank_at ranks k) exits tell same stays)
before_left ranks first best exits is_first tell found k below stays false apart =
    other_level (rank_at ranks k) (rank_at ranks first) (rank_at ranks best) (is_first.first k below) apart
    (level_is (rank_at ranks best) (rank_at ranks first) (stay_of_left ranks (rank_at ranks first) (rank_at ranks best) exits tell found.member).0)

pub first_left_is_best : (ranks : List Rank) (first best : ℕ) (exits : List Exit) → HasDistinctPlaces ranks → IsFirst ranks first → TellOfLevel ranks (rank_at ranks first) exits →
    IsFirstAmong (is_left exits (rank_at ranks first)) ranks best → IsOnlyOneLeft ranks best
first_left_is_best ranks first best exits distinct is_first tell found =
    reached_is_left ranks best distinct
    (record {
      within = found.within;
      first = λ k below stays. before_left ranks first best exits is_first tell found k below stays (is_level (rank_at ranks k) (rank_at ranks first)) refl;
    })
    (stay_of_left ranks (rank_at ranks first) (rank_at ranks best) exits tell found.member).1

pub one_is_left : (ranks : List Rank) (first : ℕ) (exits : List Exit) → IsFirst ranks first → TellOfLevel ranks (rank_at ranks first) exits → list_any (is_left exits (rank_at ranks first)) ranks ≡ false → ⊥
one_is_left ranks first exits is_first tell none =
    let level : Rank = rank_at ranks first in
    let s : IsLevelStay ranks level = stay ranks level (here ranks first is_first.within) in
    let is : is_left exits level s.rank ≡ true = left_of_stay ranks level s.rank exits tell (level_test s.rank level s.level) s.stays in
    let is_not : is_left exits level s.rank ≡ false = none_of (is_left exits level) ranks none s.rank (has ranks s.rank s.member) in
    let e : true ≡ false = sym is ∙ is_not in (cc)

pub some_from : (o : Option ℕ) → (IsNone o → ⊥) → IsSome o
some_from (Some n) h = refl
some_from None h = absurd (h refl)
