-- Two ranks compared, and the answer of the code's walk.
use Rattle.std.proofs.Common.{Bool, true, false, ◌≡◌, ◌<◌, ◌≤◌, ◌&&◌, ◌||◌, ◌==◌, ℕ, zero, suc, List, [], ◌∷◌, length, cond, refl, sym, ◌∙◌, ap, subst, arith, below_more, ◌+◌, inl, inr}
use Rattle.std.proofs.lemmas.List.{get_or_default}
use Rattle.std.proofs.lemmas.List.Elements.{Contains-get_or}
use Rattle.std.specs.Prelude.{nat_lt, Contains, slice_get, Some, None}
use Rattle.std.specs.List.{list_any, filter, position, position_or_len}
use Rattle.std.proofs.lemmas.List.Quantifiers.{position-Some}
use Rattle.std.proofs.lemmas.Bool.Decides.{nat_tests}
use Rattle.rs_decision.specs.declared.rank.Rank.{Rank}
use Rattle.rs_decision.specs.Choice.{med_of, unbeaten, best_of}
use Rattle.rs_decision.specs.Best.{HasDistinctPlaces, IsOnlyOneLeft, IsLevel, HasLowestMed, IsUnbeaten}
use Rattle.rs_decision.specs.Rank.{is_level, has_lower_med, precedes, blank, rank_at, IsFirst, IsNextAfter}
use Rattle.std.proofs.lemmas.Option.{slice_get_read}
use Rattle.rs_decision.proofs.Chosen.{unbeaten_is_only}
use Rattle.rs_octets.proofs.Members.{Has, has, contains, any_false, none_of, apart_by, same_key}

-- ---- lexicographic order: a first key, and a test of the rest

before_self : (a : ℕ) (rest : Bool) → rest ≡ false → (nat_lt a a || (a == a) && rest) ≡ false
before_self a rest h = grind (arith, nat_tests, h)

-- what does not come before b does not come before what comes before b
before_past : (a b c : ℕ) (ab cb ac : Bool) → (ab ≡ false → cb ≡ true → ac ≡ false) → (nat_lt a b || (a == b) && ab) ≡ false → (nat_lt c b || (c == b) && cb) ≡ true → (nat_lt a c || (a == c) && ac) ≡ false
before_past a b c ab cb ac rest h g = grind (arith, nat_tests, rest, h, g)

above_past : (a b c : ℕ) (ab cb ac : Bool) → (ab ≡ false → cb ≡ true → ac ≡ false) → (nat_lt b a || (a == b) && ab) ≡ false → (nat_lt b c || (c == b) && cb) ≡ true → (nat_lt c a || (a == c) && ac) ≡ false
above_past a b c ab cb ac rest h g = grind (arith, nat_tests, rest, h, g)

last_past : (a b c : ℕ) → nat_lt a b ≡ false → nat_lt c b ≡ true → nat_lt a c ≡ false
last_past a b c h g = grind (arith, nat_tests, h, g)

before_through : (a b c : ℕ) (ab bc ac : Bool) → (ab ≡ true → bc ≡ true → ac ≡ true) → (nat_lt a b || (a == b) && ab) ≡ true → (nat_lt b c || (b == c) && bc) ≡ true → (nat_lt a c || (a == c) && ac) ≡ true
before_through a b c ab bc ac rest h g = grind (arith, nat_tests, rest, h, g)

above_through : (a b c : ℕ) (ab bc ac : Bool) → (ab ≡ true → bc ≡ true → ac ≡ true) → (nat_lt b a || (a == b) && ab) ≡ true → (nat_lt c b || (b == c) && bc) ≡ true → (nat_lt c a || (a == c) && ac) ≡ true
above_through a b c ab bc ac rest h g = grind (arith, nat_tests, rest, h, g)

last_through : (a b c : ℕ) → nat_lt a b ≡ true → nat_lt b c ≡ true → nat_lt a c ≡ true
last_through a b c h g = grind (arith, nat_tests, h, g)

-- of two that do not come before each other, the rest decides
before_tied : (a b : ℕ) (ab ba : Bool) → (nat_lt a b || (a == b) && ab) ≡ false → (nat_lt b a || (b == a) && ba) ≡ false → (ab ≡ false) × (ba ≡ false)
before_tied a b ab ba h g = (grind (arith, nat_tests, h, g), grind (arith, nat_tests, h, g))

above_tied : (a b : ℕ) (ab ba : Bool) → (nat_lt b a || (a == b) && ab) ≡ false → (nat_lt a b || (b == a) && ba) ≡ false → (ab ≡ false) × (ba ≡ false)
above_tied a b ab ba h g = (grind (arith, nat_tests, h, g), grind (arith, nat_tests, h, g))

last_tied : (a b : ℕ) → nat_lt a b ≡ false → nat_lt b a ≡ false → a ≡ b
last_tied a b h g = grind (arith, nat_tests, h, g)

pub precedes_self : (a : Rank) → precedes a a ≡ false
precedes_self a =
    before_self a.preference _
    (before_self a.path_len _ (before_self a.origin _ (before_self a.identifier _ (before_self a.address _ (grind (arith, nat_tests))))))

pub precedes_past : (a b c : Rank) → precedes a b ≡ false → precedes c b ≡ true → precedes a c ≡ false
precedes_past a b c =
    above_past a.preference b.preference c.preference _ _ _
    (before_past a.path_len b.path_len c.path_len _ _ _
    (before_past a.origin b.origin c.origin _ _ _
    (before_past a.identifier b.identifier c.identifier _ _ _
    (before_past a.address b.address c.address _ _ _ (last_past a.place b.place c.place)))))

precedes_through : (a b c : Rank) → precedes a b ≡ true → precedes b c ≡ true → precedes a c ≡ true
precedes_through a b c =
    above_through a.preference b.preference c.preference _ _ _
    (before_through a.path_len b.path_len c.path_len _ _ _
    (before_through a.origin b.origin c.origin _ _ _
    (before_through a.identifier b.identifier c.identifier _ _ _
    (before_through a.address b.address c.address _ _ _ (last_through a.place b.place c.place)))))

-- of two ranks of different places one precedes the other
precedes_tied : (a b : Rank) → precedes a b ≡ false → precedes b a ≡ false → a.place ≡ b.place
precedes_tied a b h g =
    let by_preference = above_tied a.preference b.preference _ _ h g in
    let by_path = before_tied a.path_len b.path_len _ _ by_preference.0 by_preference.1 in
    let by_origin = before_tied a.origin b.origin _ _ by_path.0 by_path.1 in
    let by_identifier = before_tied a.identifier b.identifier _ _ by_origin.0 by_origin.1 in
    let by_address = before_tied a.address b.address _ _ by_identifier.0 by_identifier.1 in
    last_tied a.place b.place by_address.0 by_address.1

-- ---- the walk for the first

abbrev pub IsFirstOf : List Rank → ℕ → ℕ → Type 0
IsFirstOf ranks first i = (k : ℕ) → k < i → precedes (rank_at ranks k) (rank_at ranks first) ≡ false

pub first_by_new : (ranks : List Rank) (first i new : ℕ) → new ≡ i → IsFirstOf ranks first i → precedes (rank_at ranks i) (rank_at ranks first) ≡ true → IsFirstOf ranks new (i + 1)
first_by_new ranks first i new is led leading =
    subst (λ n. IsFirstOf ranks n (i + 1)) (sym is)
    (below_more (λ k. precedes (rank_at ranks k) (rank_at ranks i) ≡ false) i
    (λ k below. precedes_past (rank_at ranks k) (rank_at ranks first) (rank_at ranks i) (led k below) leading) (precedes_self (rank_at ranks i)))

pub first_by_old : (ranks : List Rank) (first i new : ℕ) → new ≡ first → IsFirstOf ranks first i → precedes (rank_at ranks i) (rank_at ranks first) ≡ false → IsFirstOf ranks new (i + 1)
first_by_old ranks first i new is led here =
    subst (λ n. IsFirstOf ranks n (i + 1)) (sym is) (below_more (λ k. precedes (rank_at ranks k) (rank_at ranks first) ≡ false) i led here)

-- ---- the walk for the one that comes next

abbrev pub IsNextOf : List Rank → Rank → ℕ → ℕ → Type 0
IsNextOf ranks from next i = (k : ℕ) → k < i → precedes from (rank_at ranks k) ≡ true → precedes (rank_at ranks k) (rank_at ranks next) ≡ false

none_from_at : (p : Rank → Bool) (y : Rank) (ys : List Rank) → (length ys ≤ position_or_len p ys → list_any p ys ≡ false) → (b : Bool) → p y ≡ b → length (y ∷ ys) ≤ position_or_len p (y ∷ ys) → list_any p (y ∷ ys) ≡ false
none_from_at p y ys rest true here at = absurd (grind (arith, nat_tests, here, at))
none_from_at p y ys rest false here at = rw here (rest (grind (arith, nat_tests, here, at)))

none_from : (p : Rank → Bool) (xs : List Rank) → length xs ≤ position_or_len p xs → list_any p xs ≡ false
none_from p [] at = refl
none_from p (y ∷ ys) at = none_from_at p y ys (none_from p ys) (p y) refl at

pub none_after : (p : Rank → Bool) (xs : List Rank) → position p xs ≡ None → list_any p xs ≡ false
none_after p xs is = none_from p xs (grind (arith, nat_tests, is))

-- the rank at next comes after this one, and of the first i ranks none comes between them
pub record IsNextSoFar (ranks : List Rank) (from : Rank) (next i : ℕ) : Type 0 where
  pub within : next < length ranks
  pub after : precedes from (rank_at ranks next) ≡ true
  pub first : IsNextOf ranks from next i

pub next_begins : (ranks : List Rank) (from : Rank) (i : ℕ) → position (λ r. precedes from r) ranks ≡ Some i → IsNextSoFar ranks from i (i + 1)
next_begins ranks from i is =
    let at : (i < length ranks) × (precedes from (rank_at ranks i) ≡ true) × ((k : ℕ) → k < i → precedes from (rank_at ranks k) ≡ false) =
    position-Some (λ r. precedes from r) ranks i blank is in
    record {
      within = at.0;
      after = at.1;
      first = below_more (λ k. precedes from (rank_at ranks k) ≡ true → precedes (rank_at ranks k) (rank_at ranks i) ≡ false) i
          (λ k below after. absurd (let e : true ≡ false = sym after ∙ at.2 k below in (cc))) (λ after. precedes_self (rank_at ranks i));
    }

pub next_takes : (ranks : List Rank) (from : Rank) (next i new : ℕ) → new ≡ i → IsNextSoFar ranks from next i → i < length ranks → precedes (rank_at ranks i) (rank_at ranks next) ≡ true →
    precedes from (rank_at ranks i) ≡ true → IsNextSoFar ranks from new (i + 1)
next_takes ranks from next i new is so_far below earlier after =
    subst (λ n. IsNextSoFar ranks from n (i + 1)) (sym is) record {
      within = below;
      after = after;
      first = below_more (λ k. precedes from (rank_at ranks k) ≡ true → precedes (rank_at ranks k) (rank_at ranks i) ≡ false) i
          (λ k under comes. precedes_past (rank_at ranks k) (rank_at ranks next) (rank_at ranks i) (so_far.first k under comes) earlier) (λ comes. precedes_self (rank_at ranks i));
    }

pub next_passes : (ranks : List Rank) (from : Rank) (next i new : ℕ) → new ≡ next → IsNextSoFar ranks from next i →
    (precedes from (rank_at ranks i) ≡ true → precedes (rank_at ranks i) (rank_at ranks next) ≡ false) → IsNextSoFar ranks from new (i + 1)
next_passes ranks from next i new is so_far here =
    subst (λ n. IsNextSoFar ranks from n (i + 1)) (sym is) record {
      within = so_far.within;
      after = so_far.after;
      first = below_more (λ k. precedes from (rank_at ranks k) ≡ true → precedes (rank_at ranks k) (rank_at ranks next) ≡ false) i so_far.first here;
    }

-- ---- MULTI_EXIT_DISC

abbrev pub loses : List Rank → Rank → Bool
loses ranks r = list_any (λ s. has_lower_med s r) ranks

pub level_is : (a b : Rank) → is_level a b ≡ true → IsLevel a b
level_is a b h = record {
  preference = grind (arith, nat_tests, h);
  path = grind (arith, nat_tests, h);
  origin = grind (arith, nat_tests, h);
}

level_through : (a b t : Rank) → IsLevel b t → IsLevel a b → IsLevel a t
level_through a b t bt ab = record { preference = ab.preference ∙ bt.preference; path = ab.path ∙ bt.path; origin = ab.origin ∙ bt.origin }

lower_in_med : (a b : Rank) → has_lower_med a b ≡ false → IsLevel a b → a.neighbour ≡ b.neighbour → med_of b ≤ med_of a
lower_in_med a b h same neighbour = grind (arith, nat_tests, h, same.preference, same.path, same.origin, neighbour)

not_all : (x y z : Bool) → (x ≡ true → y ≡ true → z ≡ true → ⊥) → (x && y && z) ≡ false
not_all true true true h = absurd (h refl refl refl)
not_all true true false h = refl
not_all true false z h = refl
not_all false y z h = refl

not_lower_in_med : (a b : Rank) → (IsLevel a b → a.neighbour ≡ b.neighbour → med_of b ≤ med_of a) → has_lower_med a b ≡ false
not_lower_in_med a b h =
    not_all (a.neighbour == b.neighbour) (nat_lt (med_of a) (med_of b)) (is_level a b)
    (λ neighbour lower level.
    let not_lower : med_of b ≤ med_of a = h (level_is a b level) (grind (arith, nat_tests, neighbour)) in
    let is_lower : med_of a < med_of b = grind (arith, nat_tests, lower) in
    omega arith)

pub stays_has_lowest : (ranks : List Rank) (b : Rank) → loses ranks b ≡ false → HasLowestMed ranks b
stays_has_lowest ranks b h s hs same neighbour = lower_in_med s b (none_of (λ r. has_lower_med r b) ranks h s (has ranks s hs)) same neighbour

pub lowest_stays : (ranks : List Rank) (b : Rank) → HasLowestMed ranks b → loses ranks b ≡ false
lowest_stays ranks b low = any_false (λ r. has_lower_med r b) ranks (λ s hs. not_lower_in_med s b (low s (contains ranks s hs)))

-- a rank that is level with s and does not lose
pub record IsLevelStay (ranks : List Rank) (s : Rank) : Type 0 where
  pub rank : Rank
  pub member : Contains ranks rank
  pub level : IsLevel rank s
  pub stays : loses ranks rank ≡ false

some_of_at : (p : Rank → Bool) (y : Rank) (ys : List Rank) → (list_any p ys ≡ true → (x : Rank) × Has ys x × (p x ≡ true)) → (b : Bool) → p y ≡ b → list_any p (y ∷ ys) ≡ true →
    (x : Rank) × Has (y ∷ ys) x × (p x ≡ true)
some_of_at p y ys rest true here is = (y, inl refl, here)
some_of_at p y ys rest false here is = let r : (x : Rank) × Has ys x × (p x ≡ true) = rest (grind (arith, is, here)) in (r.0, inr r.1, r.2)

some_of : (p : Rank → Bool) (xs : List Rank) → list_any p xs ≡ true → (x : Rank) × Has xs x × (p x ≡ true)
some_of p [] is = absurd (let e : false ≡ true = is in (cc))
some_of p (y ∷ ys) is = some_of_at p y ys (some_of p ys) (p y) refl is

lower_is : (a b : Rank) → has_lower_med a b ≡ true → IsLevel a b × (med_of a < med_of b)
lower_is a b h = (level_is a b (grind (arith, nat_tests, h)), grind (arith, nat_tests, h))

descends_at : (ranks : List Rank) (n : ℕ) (s : Rank) → Contains ranks s → med_of s < suc n → ((r : Rank) → Contains ranks r → med_of r < n → IsLevelStay ranks r) →
    (b : Bool) → loses ranks s ≡ b → IsLevelStay ranks s
descends_at ranks n s hs below rest false stays = record { rank = s; member = hs; level = record { preference = refl; path = refl; origin = refl }; stays = stays }
descends_at ranks n s hs below rest true gone =
    let lower : (x : Rank) × Has ranks x × (has_lower_med x s ≡ true) = some_of (λ r. has_lower_med r s) ranks gone in
    let is : IsLevel lower.0 s × (med_of lower.0 < med_of s) = lower_is lower.0 s lower.2 in
    let w : IsLevelStay ranks lower.0 = rest lower.0 (contains ranks lower.0 lower.1) (let least : med_of lower.0 < med_of s = is.1 in omega arith) in
    record { rank = w.rank; member = w.member; level = level_through w.rank lower.0 s is.0 w.level; stays = w.stays }

-- from a rank that loses go to one with a lower MULTI_EXIT_DISC, until one does not lose
descends : (ranks : List Rank) (n : ℕ) (s : Rank) → Contains ranks s → med_of s < n → IsLevelStay ranks s
descends ranks zero s hs below = absurd (omega (arith, below))
descends ranks (suc n) s hs below = descends_at ranks n s hs below (descends ranks n) (loses ranks s) refl

pub stay : (ranks : List Rank) (s : Rank) → Contains ranks s → IsLevelStay ranks s
stay ranks s hs = descends ranks (suc (med_of s)) s hs (omega arith)

-- ---- the walk from rank to rank

-- what holds at each index holds of each member
pub each : (P : Rank → Type 0) (ranks : List Rank) → ((k : ℕ) → k < length ranks → P (rank_at ranks k)) → (s : Rank) → Contains ranks s → P s
each P ranks h s at = subst P (get_or_default ranks at.0 blank s at.1 ∙ at.2) (h at.0 at.1)

-- no rank that stays precedes the one at best
pub record IsReached (ranks : List Rank) (best : ℕ) : Type 0 where
  pub within : best < length ranks
  pub first : (k : ℕ) → k < length ranks → loses ranks (rank_at ranks k) ≡ false → precedes (rank_at ranks k) (rank_at ranks best) ≡ false

pub first_is_reached : (ranks : List Rank) (first : ℕ) → IsFirst ranks first → IsReached ranks first
first_is_reached ranks first is = record { within = is.within; first = λ k below stays. is.first k below }

pub here : (ranks : List Rank) (best : ℕ) → best < length ranks → Contains ranks (rank_at ranks best)
here ranks best within = Contains-get_or ranks best blank within

tied : (ranks : List Rank) (a b : Rank) → HasDistinctPlaces ranks → Contains ranks a → Contains ranks b → precedes a b ≡ false → precedes b a ≡ false → a ≡ b
tied ranks a b distinct ha hb h g = same_key (λ r. r.place) ranks a b (apart_by (λ r. r.place) ranks distinct) (has ranks a ha) (has ranks b hb) (precedes_tied a b h g)

-- what stays does not come before a rank that loses, and is not it: so it comes after
after_at : (ranks : List Rank) (a b : Rank) → HasDistinctPlaces ranks → Contains ranks a → Contains ranks b → loses ranks a ≡ true → loses ranks b ≡ false → precedes b a ≡ false →
    (x : Bool) → precedes a b ≡ x → precedes a b ≡ true
after_at ranks a b distinct ha hb gone stays h true is = is
after_at ranks a b distinct ha hb gone stays h false is =
    absurd (let e : true ≡ false = sym gone ∙ (ap (loses ranks) (tied ranks a b distinct ha hb is h) ∙ stays) in (cc))

after : (ranks : List Rank) (a b : Rank) → HasDistinctPlaces ranks → Contains ranks a → Contains ranks b → loses ranks a ≡ true → loses ranks b ≡ false → precedes b a ≡ false → precedes a b ≡ true
after ranks a b distinct ha hb gone stays h = after_at ranks a b distinct ha hb gone stays h (precedes a b) refl

pub reach_goes_on : (ranks : List Rank) (best i new : ℕ) → HasDistinctPlaces ranks → IsReached ranks best → loses ranks (rank_at ranks best) ≡ true → new ≡ i → IsNextAfter ranks (rank_at ranks best) i → IsReached ranks new
reach_goes_on ranks best i new distinct w gone is next =
    subst (λ n. IsReached ranks n) (sym is) record {
      within = next.within;
      first = λ k below stays. next.first k below
          (after ranks (rank_at ranks best) (rank_at ranks k) distinct (here ranks best w.within) (here ranks k below) gone stays (w.first k below stays));
    }

-- one comes after a rank that loses
pub one_is_next : (ranks : List Rank) (best : ℕ) → HasDistinctPlaces ranks → IsReached ranks best → loses ranks (rank_at ranks best) ≡ true →
    list_any (λ r. precedes (rank_at ranks best) r) ranks ≡ false → ⊥
one_is_next ranks best distinct w gone none =
    let b : Rank = rank_at ranks best in
    let s : IsLevelStay ranks b = stay ranks b (here ranks best w.within) in
    let not_before : precedes s.rank b ≡ false = each (λ r. loses ranks r ≡ false → precedes r b ≡ false) ranks w.first s.rank s.member s.stays in
    let is_after : precedes b s.rank ≡ true = after ranks b s.rank distinct (here ranks best w.within) s.member gone s.stays not_before in
    let is_not : precedes b s.rank ≡ false = none_of (λ r. precedes b r) ranks none s.rank (has ranks s.rank s.member) in
    let e : true ≡ false = sym is_after ∙ is_not in (cc)

-- ---- how many come after a rank

at_most_at : (a b : Bool) (x : Rank) (ps qs : List Rank) → (b ≡ true → a ≡ true) → length qs ≤ length ps → length (cond b (x ∷ qs) qs) ≤ length (cond a (x ∷ ps) ps)
at_most_at true true x ps qs h below = omega (arith, below)
at_most_at true false x ps qs h below = omega (arith, below)
at_most_at false true x ps qs h below = absurd (let e : false ≡ true = h refl in (cc))
at_most_at false false x ps qs h below = below

at_most : (p q : Rank → Bool) (xs : List Rank) → ((x : Rank) → q x ≡ true → p x ≡ true) → length (filter q xs) ≤ length (filter p xs)
at_most p q [] h = omega arith
at_most p q (x ∷ xs) h = at_most_at (p x) (q x) x (filter p xs) (filter q xs) (h x) (at_most p q xs h)

fewer_at : (a b : Bool) (x : Rank) (ps qs : List Rank) → (b ≡ true → a ≡ true) → length qs < length ps → length (cond b (x ∷ qs) qs) < length (cond a (x ∷ ps) ps)
fewer_at true true x ps qs h below = omega (arith, below)
fewer_at true false x ps qs h below = omega (arith, below)
fewer_at false true x ps qs h below = absurd (let e : false ≡ true = h refl in (cc))
fewer_at false false x ps qs h below = below

fewer_here : (a b : Bool) (x : Rank) (ps qs : List Rank) → a ≡ true → b ≡ false → length qs ≤ length ps → length (cond b (x ∷ qs) qs) < length (cond a (x ∷ ps) ps)
fewer_here true false x ps qs is is_not below = omega (arith, below)
fewer_here true true x ps qs is is_not below = absurd (cc)
fewer_here false b x ps qs is is_not below = absurd (cc)

fewer : (p q : Rank → Bool) (xs : List Rank) (z : Rank) → ((x : Rank) → q x ≡ true → p x ≡ true) → Has xs z → p z ≡ true → q z ≡ false → length (filter q xs) < length (filter p xs)
fewer p q [] z h hz is is_not = absurd hz
fewer p q (x ∷ xs) z h (inl same) is is_not = fewer_here (p x) (q x) x (filter p xs) (filter q xs) (ap p same ∙ is) (ap q same ∙ is_not) (at_most p q xs h)
fewer p q (x ∷ xs) z h (inr hz) is is_not = fewer_at (p x) (q x) x (filter p xs) (filter q xs) (h x) (fewer p q xs z h hz is is_not)

abbrev pub count_after : List Rank → Rank → ℕ
count_after ranks r = length (filter (λ s. precedes r s) ranks)

pub fewer_after : (ranks : List Rank) (best i new : ℕ) → new ≡ i → IsNextAfter ranks (rank_at ranks best) i → count_after ranks (rank_at ranks new) < count_after ranks (rank_at ranks best)
fewer_after ranks best i new is next =
    subst (λ n. count_after ranks (rank_at ranks n) < count_after ranks (rank_at ranks best)) (sym is)
    (fewer (λ s. precedes (rank_at ranks best) s) (λ s. precedes (rank_at ranks i) s) ranks (rank_at ranks i)
    (λ x comes. precedes_through (rank_at ranks best) (rank_at ranks i) x next.after comes) (has ranks (rank_at ranks i) (here ranks i next.within)) next.after (precedes_self (rank_at ranks i)))

-- ---- what the walk ends with

in_preference : (a b : Rank) → precedes a b ≡ false → a.preference ≤ b.preference
in_preference a b h = grind (arith, nat_tests, h)

in_path : (a b : Rank) → precedes a b ≡ false → a.preference ≡ b.preference → b.path_len ≤ a.path_len
in_path a b h p = grind (arith, nat_tests, h, p)

in_origin : (a b : Rank) → precedes a b ≡ false → a.preference ≡ b.preference → a.path_len ≡ b.path_len → b.origin ≤ a.origin
in_origin a b h p q = grind (arith, nat_tests, h, p, q)

in_identifier : (a b : Rank) → precedes a b ≡ false → IsLevel a b → b.identifier ≤ a.identifier
in_identifier a b h same = grind (arith, nat_tests, h, same.preference, same.path, same.origin)

in_address : (a b : Rank) → precedes a b ≡ false → IsLevel a b → a.identifier ≡ b.identifier → b.address ≤ a.address
in_address a b h same p = grind (arith, nat_tests, h, same.preference, same.path, same.origin, p)

in_place : (a b : Rank) → precedes a b ≡ false → IsLevel a b → a.identifier ≡ b.identifier → a.address ≡ b.address → b.place ≤ a.place
in_place a b h same p q = grind (arith, nat_tests, h, same.preference, same.path, same.origin, p, q)

reached_is_unbeaten : (ranks : List Rank) (best : ℕ) → IsReached ranks best → loses ranks (rank_at ranks best) ≡ false → IsUnbeaten ranks (rank_at ranks best)
reached_is_unbeaten ranks best w stays =
    let b : Rank = rank_at ranks best in
    let first : (s : Rank) → Contains ranks s → loses ranks s ≡ false → precedes s b ≡ false =
    each (λ r. loses ranks r ≡ false → precedes r b ≡ false) ranks w.first in
    let of_stay : (s : Rank) (hs : Contains ranks s) → precedes (stay ranks s hs).rank b ≡ false =
    λ s hs. let t : IsLevelStay ranks s = stay ranks s hs in first t.rank t.member t.stays in
    record {
      member = here ranks best w.within;
      preference = λ s hs. let t : IsLevelStay ranks s = stay ranks s hs in subst (λ n. n ≤ b.preference) t.level.preference (in_preference t.rank b (of_stay s hs));
      path = λ s hs p. let t : IsLevelStay ranks s = stay ranks s hs in subst (λ n. b.path_len ≤ n) t.level.path (in_path t.rank b (of_stay s hs) (t.level.preference ∙ p));
      origin = λ s hs p q. let t : IsLevelStay ranks s = stay ranks s hs in
          subst (λ n. b.origin ≤ n) t.level.origin (in_origin t.rank b (of_stay s hs) (t.level.preference ∙ p) (t.level.path ∙ q));
      med = stays_has_lowest ranks b stays;
      identifier = λ s hs same low. in_identifier s b (first s hs (lowest_stays ranks s low)) same;
      address = λ s hs same low. in_address s b (first s hs (lowest_stays ranks s low)) same;
      place = λ s hs same low. in_place s b (first s hs (lowest_stays ranks s low)) same;
    }

read_at : (ranks : List Rank) (i : ℕ) → i < length ranks → slice_get ranks i ≡ Some (rank_at ranks i)
read_at ranks i below = slice_get_read ranks (length ranks) i (rank_at ranks i) refl below (get_or_default ranks i blank (rank_at ranks i) below)

pub reached_is_left : (ranks : List Rank) (best : ℕ) → HasDistinctPlaces ranks → IsReached ranks best → loses ranks (rank_at ranks best) ≡ false → IsOnlyOneLeft ranks best
reached_is_left ranks best distinct w stays =
    (rank_at ranks best, read_at ranks best w.within, unbeaten_is_only ranks (rank_at ranks best) distinct (reached_is_unbeaten ranks best w stays))

pub only_is_best : (ranks : List Rank) (i : ℕ) → IsOnlyOneLeft ranks i → slice_get ranks i ≡ best_of ranks
only_is_best ranks i left = left.1 ∙ sym (ap (λ xs. slice_get xs 0) left.2)

nothing_left : best_of [] ≡ None
unfolding unbeaten
nothing_left = refl

pub none_is_best : (ranks : List Rank) → ranks ≡ [] → None ≡ best_of ranks
none_is_best ranks is = sym nothing_left ∙ ap best_of (sym is)
