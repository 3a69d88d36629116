-- Rows whose routes were given notes.
use Rattle.std.proofs.Common.{◌≡◌, ◌+◌, ◌<◌, ◌≤◌, ◌==◌, ℕ, zero, suc, List, [], ◌∷◌, length, map, refl, sym, ◌∙◌, ap, subst, arith, inl, inr}
use Rattle.std.specs.Prelude.{Option, Some, None, All, count_by, slice_get, slice_set, slice_index_or, if◌then◌else◌}
use Rattle.std.specs.Arc.{arc_value}
use Rattle.std.proofs.lemmas.List.Elements.{All-map}
use Rattle.std.proofs.lemmas.List.Sums.{sum_by-cons}
use Rattle.rs_octets.specs.Prefixes.{Prefix}
use Rattle.rs_attrs.specs.Meaning.{Attribute}
use Rattle.rs_adjin.specs.declared.routes.Route.{Route}
use Rattle.rs_adjin.specs.declared.numbers.Row.{Row}
use Rattle.rs_adjin.specs.declared.numbers.Numbered.{Numbered}
use Rattle.rs_adjin.specs.Held.{one_if}
use Rattle.rs_adjin.specs.Sets.{uses_of, uses_in}
use Rattle.rs_adjin.specs.Routes.{value_in, IsRising}
use Rattle.rs_adjin.specs.Numbering.{prefix_at, routes_in, routes_by, are_some, has_routes, AreVacant}
use Rattle.rs_adjin.specs.Numbers.{number_in, routes_at}
use Rattle.rs_adjin.specs.Noting.{with_note, with_notes, RowNotes, RowsNote, RowsAreOf, NotesAll}
use Rattle.rs_adjin.specs.Table.{IsTable, IsOfClients, IsSame, AllHaveNotes}
use Rattle.rs_adjin.proofs.RouteLists.{Rising, AllAbove, rising, is_rising}
use Rattle.rs_adjin.proofs.Holding.{number_cases, at_number}

abbrev Giver : Type 0
Giver = ℕ → Prefix → List Attribute → ℕ

-- ---- the first rows have their notes, the others are as they were

abbrev pub FrontNotes : Giver → ℕ → List Row → List Row → Type 0
FrontNotes f zero old new = new ≡ old
FrontNotes f (suc i) [] [] = Unit {0}
FrontNotes f (suc i) [] (s ∷ new) = ⊥
FrontNotes f (suc i) (r ∷ old) [] = ⊥
FrontNotes f (suc i) (r ∷ old) (s ∷ new) = RowNotes f r s × FrontNotes f i old new

pub front_same : (f : Giver) (i : ℕ) (old new : List Row) (d : Row) → FrontNotes f i old new → slice_index_or new i d ≡ slice_index_or old i d
front_same f zero old new d h = ap (λ rows. slice_index_or rows 0 d) h
front_same f (suc i) [] [] d h = refl
front_same f (suc i) [] (s ∷ new) d h = absurd h
front_same f (suc i) (r ∷ old) [] d h = absurd h
front_same f (suc i) (r ∷ old) (s ∷ new) d h = front_same f i old new d h.1

pub front_more : (f : Giver) (i : ℕ) (old new : List Row) (d s : Row) → FrontNotes f i old new → i < length new → RowNotes f (slice_index_or new i d) s → FrontNotes f (suc i) old (slice_set new i s)
front_more f zero [] [] d s h below notes = absurd (omega (arith, below))
front_more f zero [] (t ∷ new) d s h below notes = absurd (let e : t ∷ new ≡ [] = h in cc)
front_more f zero (r ∷ old) [] d s h below notes = absurd (omega (arith, below))
front_more f zero (r ∷ old) (t ∷ new) d s h below notes = (subst (λ (x : Row). RowNotes f x s) (ap (λ rows. slice_index_or rows 0 d) h) notes, ap (λ (rows : List Row). slice_rest rows) h)
  where
    slice_rest : List Row → List Row
    slice_rest [] = []
    slice_rest (x ∷ xs) = xs
front_more f (suc i) [] [] d s h below notes = absurd (omega (arith, below))
front_more f (suc i) [] (t ∷ new) d s h below notes = absurd h
front_more f (suc i) (r ∷ old) [] d s h below notes = absurd h
front_more f (suc i) (r ∷ old) (t ∷ new) d s h below notes = (h.0, front_more f i old new d s h.1 (omega (arith, below)) notes)

pub front_all : (f : Giver) (i : ℕ) (old new : List Row) → FrontNotes f i old new → length new ≤ i → RowsNote f old new
front_all f zero [] [] h all = tt
front_all f zero [] (s ∷ new) h all = absurd (omega (arith, all))
front_all f zero (r ∷ old) [] h all = absurd (let e : [] ≡ r ∷ old = h in cc)
front_all f zero (r ∷ old) (s ∷ new) h all = absurd (omega (arith, all))
front_all f (suc i) [] [] h all = tt
front_all f (suc i) [] (s ∷ new) h all = absurd h
front_all f (suc i) (r ∷ old) [] h all = absurd h
front_all f (suc i) (r ∷ old) (s ∷ new) h all = (h.0, front_all f i old new h.1 (omega (arith, all)))

-- ---- all rows have their notes

pub noted_prefix : (f : Giver) (old new : List Row) → RowsNote f old new → (m : ℕ) → prefix_at new m ≡ prefix_at old m
noted_prefix f [] [] h m = refl
noted_prefix f [] (s ∷ new) h m = absurd h
noted_prefix f (r ∷ old) [] h m = absurd h
noted_prefix f (r ∷ old) (s ∷ new) h zero = h.0.prefix
noted_prefix f (r ∷ old) (s ∷ new) h (suc m) = noted_prefix f old new h.1 m

no_notes : (f : Giver) (o : Option Prefix) → [] ≡ with_notes f o []
no_notes f None = refl
no_notes f (Some p) = refl

pub noted_routes : (f : Giver) (old new : List Row) → RowsNote f old new → (m : ℕ) → routes_in (slice_get new m) ≡ with_notes f (prefix_at old m) (routes_in (slice_get old m))
noted_routes f [] [] h m = no_notes f None
noted_routes f [] (s ∷ new) h m = absurd h
noted_routes f (r ∷ old) [] h m = absurd h
noted_routes f (r ∷ old) (s ∷ new) h zero = h.0.routes
noted_routes f (r ∷ old) (s ∷ new) h (suc m) = noted_routes f old new h.1 m

some_notes : (f : Giver) (o : Option Prefix) (rs : List Route) → are_some (with_notes f o rs) ≡ are_some rs
some_notes f None rs = refl
some_notes f (Some p) [] = refl
some_notes f (Some p) (r ∷ rs) = refl

abbrev one_of : Row → ℕ
one_of row = one_if (has_routes row)

pub noted_count : (f : Giver) (old new : List Row) → RowsNote f old new → count_by has_routes new ≡ count_by has_routes old
noted_count f [] [] h = refl
noted_count f [] (s ∷ new) h = absurd h
noted_count f (r ∷ old) [] h = absurd h
noted_count f (r ∷ old) (s ∷ new) h =
    let one : one_of s ≡ one_of r = ap (λ rs. one_if (are_some rs)) h.0.routes ∙ ap one_if (some_notes f r.prefix r.routes) in
    let left : count_by has_routes (s ∷ new) ≡ one_of s + count_by has_routes new = sum_by-cons one_of s new in
    let right : count_by has_routes (r ∷ old) ≡ one_of r + count_by has_routes old = sum_by-cons one_of r old in
    omega (arith, one, left, right, noted_count f old new h.1)

abbrev route_uses : ℕ → Route → ℕ
route_uses s r = one_if (r.set == s)

uses_noted : (s : ℕ) (g : ℕ → List Attribute → ℕ) (rs : List Route) → uses_of s (map (with_note g) rs) ≡ uses_of s rs
uses_noted s g [] = refl
uses_noted s g (r ∷ rs) =
    let left : uses_of s (map (with_note g) (r ∷ rs)) ≡ route_uses s r + uses_of s (map (with_note g) rs) = sum_by-cons (route_uses s) (with_note g r) (map (with_note g) rs) in
    let right : uses_of s (r ∷ rs) ≡ route_uses s r + uses_of s rs = sum_by-cons (route_uses s) r rs in
    omega (arith, left, right, uses_noted s g rs)

row_uses_noted : (s : ℕ) (f : Giver) (o : Option Prefix) (rs : List Route) → uses_of s (with_notes f o rs) ≡ uses_of s rs
row_uses_noted s f None rs = refl
row_uses_noted s f (Some p) rs = uses_noted s (λ c m. f c p m) rs

abbrev row_uses : ℕ → Row → ℕ
row_uses s row = uses_of s row.routes

pub noted_uses : (f : Giver) (s : ℕ) (old new : List Row) → RowsNote f old new → uses_in s new ≡ uses_in s old
noted_uses f s [] [] h = refl
noted_uses f s [] (t ∷ new) h = absurd h
noted_uses f s (r ∷ old) [] h = absurd h
noted_uses f s (r ∷ old) (t ∷ new) h =
    let one : row_uses s t ≡ row_uses s r = ap (uses_of s) h.0.routes ∙ row_uses_noted s f r.prefix r.routes in
    let left : uses_in s (t ∷ new) ≡ row_uses s t + uses_in s new = sum_by-cons (row_uses s) t new in
    let right : uses_in s (r ∷ old) ≡ row_uses s r + uses_in s old = sum_by-cons (row_uses s) r old in
    omega (arith, one, left, right, noted_uses f s old new h.1)

pub noted_vacant : (f : Giver) (old new : List Row) → RowsNote f old new → AreVacant old → AreVacant new
noted_vacant f old new h vacant m none =
    let was : prefix_at old m ≡ None = sym (noted_prefix f old new h m) ∙ none in
    noted_routes f old new h m ∙ (ap (λ o. with_notes f o (routes_in (slice_get old m))) was ∙ vacant m was)

-- ---- the table

-- the routes of a number, as they have their notes
at_rows : (f : Giver) (table : Numbered) (new : List Row) (h : RowsNote f table.rows.items new) (p : Prefix) (o : Option ℕ) → number_in table p ≡ o → routes_by new o ≡ with_notes f (Some p) (routes_by table.rows.items o)
at_rows f table new h p None is = refl
at_rows f table new h p (Some n) is = noted_routes f table.rows.items new h n ∙ ap (λ o. with_notes f o (routes_in (slice_get table.rows.items n))) (table.inverse.there p n is)

pub noted_table : (f : Giver) (table : Numbered) (new : List Row) → RowsNote f table.rows.items new → (p : Prefix) → routes_by new (number_in table p) ≡ with_notes f (Some p) (routes_at table p)
noted_table f table new h p = at_rows f table new h p (number_in table p) refl

pub rows_known : (n : ℕ) (table : Numbered) → IsOfClients n table → RowsAreOf n table.rows.items
rows_known n table known m = elim (number_cases table m) [
  | inl none ↦ subst (All (λ r. r.client < n)) (sym none) (λ k d below. absurd (omega (arith, below)))
  | inr there ↦ subst (All (λ r. r.client < n)) (at_number table there.0 m there.1) (known there.0)
]

pub known_more : (n m : ℕ) (table : Numbered) → n ≤ m → IsOfClients n table → IsOfClients m table
known_more n m table le known p k d below = omega (arith, known p k d below, le)

-- ---- nothing but the notes has changed

value_noted : (d : ℕ) (g : ℕ → List Attribute → ℕ) (rs : List Route) → value_in d (map (with_note g) rs) ≡ value_in d rs
value_noted d g [] = refl
value_noted d g (r ∷ rs) = ap (λ o. if d == r.client then Some (arc_value r.attrs) else o) (value_noted d g rs)

above_noted : (c : ℕ) (g : ℕ → List Attribute → ℕ) (rs : List Route) → AllAbove c rs → AllAbove c (map (with_note g) rs)
above_noted c g [] h = tt
above_noted c g (r ∷ rs) h = (h.0, above_noted c g rs h.1)

rising_noted : (g : ℕ → List Attribute → ℕ) (rs : List Route) → Rising rs → Rising (map (with_note g) rs)
rising_noted g [] up = tt
rising_noted g (r ∷ rs) up = (above_noted r.client g rs up.0, rising_noted g rs up.1)

module _ (f : Giver) (old new : Numbered) (notes : NotesAll f old new) where
  pub noted_same : IsSame old new
  noted_same d q = ap (value_in d) (notes.routes q) ∙ value_noted d (λ c m. f c q m) (routes_at old q)

  pub noted_whole : IsTable old → IsTable new
  noted_whole whole = record { rising = λ q. subst IsRising (sym (notes.routes q)) (is_rising _ (rising_noted (λ c m. f c q m) (routes_at old q) (rising (routes_at old q) (whole.rising q)))) }

  pub noted_known : (n : ℕ) → IsOfClients n old → IsOfClients n new
  noted_known n known q = subst (All (λ r. r.client < n)) (sym (notes.routes q)) (All-map (λ (r : Route). r.client < n) (with_note (λ c m. f c q m)) (routes_at old q) (known q))

  pub noted_all : AllHaveNotes f new
  noted_all q = subst (All (λ r. r.note ≡ f r.client q (arc_value r.attrs))) (sym (notes.routes q)) (All-map (λ (r : Route). r.note ≡ f r.client q (arc_value r.attrs)) (with_note (λ c m. f c q m)) (routes_at old q) (λ k d below. refl))
