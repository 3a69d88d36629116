-- A client asked for everything again: there is room for each row at which nothing waits.
use Rattle.std.proofs.Common.{◌≡◌, ◌≢◌, ◌≤◌, ◌<◌, ◌+◌, ℕ, zero, suc, Bool, true, false, cond, ◌&&◌, ◌||◌, not, Option, None, Some, IsSome, List, [], ◌∷◌, ◌++◌, length, length-append, map, take, drop, get_or, inl, inr, refl, sym, ap, ◌∙◌, subst, arith}
use Rattle.std.specs.Prelude.{is_some, count_by, option_map}
use mathlib.Core.Bool.{true≢false}
use Rattle.std.specs.List.{All, AllByRecursion, Contains, list_any}
use Rattle.std.specs.List.Sorted.{IsStrictlySortedBy}
use Rattle.std.specs.declared.cmp.Ordering.TheVariants.{Less}
use Rattle.std.specs.FinMap as fin
use Rattle.std.proofs.lemmas.List.Elements.{All-contains, All-contains_itself, recursion_from_All}
use Rattle.std.proofs.lemmas.List.Sums.{sum_by-cons, sum_by-append, sum_by-drop_more, sum_by-le-sum_by}
use Rattle.std.proofs.Math.Bool.{and-false}
use Rattle.std.proofs.lemmas.Option.{same_Some}
use Rattle.std.proofs.lemmas.Bool.{cases_eq}
use Rattle.rs_octets.specs.Prefixes.{Prefix, prefix_order}
use Rattle.rs_rows.specs.Rows.{Row}
use Rattle.rs_outlet.specs.declared.waiting.Due.{Due}
use Rattle.rs_outlet.specs.declared.waiting.Due.TheVariants as due
use Rattle.rs_outlet.specs.declared.waiting.Wait.{Wait}
use Rattle.rs_outlet.specs.Views.{Table}
use Rattle.rs_outlet.specs.Pending.Slots.{is_withdrawal, is_withdrawn, open_at, prefixes_at, still_open, withdrawn_count}
use Rattle.rs_outlet.specs.Inside.{AreBacked, IsBacked, loc_of, prefix_and_hash, row_at}
use Rattle.rs_outlet.specs.Pending.Marking.{IsPutAgain, MayAddRow, remarked}
use Rattle.rs_adjin.proofs.Listed.{prefixes_total}
use Rattle.rs_outlet.proofs.Decided.LocByNumber.{same, same_is, same_itself}
use Rattle.rs_outlet.proofs.Pending.Slots.{less_apart}
use Rattle.rs_outlet.proofs.Pending.Withdrawals.{one_if, row_get}
use Rattle.rs_outlet.proofs.Pending.Adding.{none_listed}
use Rattle.rs_outlet.proofs.Pending.MarkedAgain.{all_changed, all_mapped, any_front, still_stand}

-- whether a prefix stands at one of the slots
abbrev pub is_in : List Wait → Prefix → Bool
is_in ws q = list_any (same q) (prefixes_at ws)

-- a route whose prefix stands at none of the slots
abbrev pub is_fresh : List Wait → Option Row → Bool
is_fresh ws None = false
is_fresh ws (Some r) = not (is_in ws r.prefix)

abbrev pub fresh_count : List Wait → List (Option Row) → ℕ
fresh_count ws rows = count_by (is_fresh ws) rows

-- a row has the prefix
pub record RowOf (rows : List (Option Row)) (p : Prefix) : Type 0 where
  pub number : ℕ
  pub row : Row
  pub at : row_at rows number ≡ Some row
  pub prefix : row.prefix ≡ p
  pub within : number < length rows

row_behind : (x : Option Row) (rows : List (Option Row)) (p : Prefix) → RowOf rows p → RowOf (x ∷ rows) p
row_behind x rows p r = record { number = suc r.number; row = r.row; at = r.at; prefix = r.prefix; within = omega (arith, r.within) }

pub due_row : (rows : List (Option Row)) (p : Prefix) → IsSome (fin.get (loc_of rows) p) → RowOf rows p
due_row [] p h = absurd (true≢false (sym h ∙ ap is_some (fin.get-empty prefix_order p)))
due_row (None ∷ rows) p h = row_behind None rows p (due_row rows p h)
due_row (Some x ∷ rows) p h = go (same p x.prefix) refl (subst IsSome (fin.get-insert prefixes_total (loc_of rows) x.prefix x.attributes p) h) (λ k. due_row rows p k)
  where
    go : (b : Bool) → same p x.prefix ≡ b → IsSome (cond b (Some x.attributes) (fin.get (loc_of rows) p)) → (IsSome (fin.get (loc_of rows) p) → RowOf rows p) → RowOf (Some x ∷ rows) p
    go true s h rest = record { number = 0; row = x; at = refl; prefix = sym (same_is p x.prefix s); within = omega arith }
    go false s h rest = row_behind (Some x) rows p (rest h)

-- ---- how many rows stand at none of the slots

fresh_less : (w : Wait) (bs : List Wait) (r : Option Row) → one_if (is_fresh (w ∷ bs) r) ≤ one_if (is_fresh bs r)
fresh_less w bs None = omega arith
fresh_less w bs (Some r) = go (same r.prefix w.prefix) (is_in bs r.prefix)
  where
    go : (a b : Bool) → one_if (not (a || b)) ≤ one_if (not b)
    go true true = omega arith
    go true false = omega arith
    go false b = omega arith

fewer : (w : Wait) (bs : List Wait) (rows : List (Option Row)) → fresh_count (w ∷ bs) rows ≤ fresh_count bs rows
fewer w bs rows = sum_by-le-sum_by (λ r. one_if (is_fresh (w ∷ bs) r)) (λ r. one_if (is_fresh bs r)) rows (fresh_less w bs)

one_fewer : (w : Wait) (bs : List Wait) → is_in bs w.prefix ≡ false → (rows : List (Option Row)) (n : ℕ) (r : Row) → row_at rows n ≡ Some r → r.prefix ≡ w.prefix → fresh_count (w ∷ bs) rows + 1 ≤ fresh_count bs rows
one_fewer w bs alone [] n r at is = absurd (cc)
one_fewer w bs alone (None ∷ rows) zero r at is = absurd (cc)
one_fewer w bs alone (None ∷ rows) (suc n) r at is =
    omega (arith, one_fewer w bs alone rows n r at is, sum_by-cons (λ r. one_if (is_fresh (w ∷ bs) r)) None rows, sum_by-cons (λ r. one_if (is_fresh bs r)) None rows)
one_fewer w bs alone (Some x ∷ rows) zero r at is =
    let e : x.prefix ≡ w.prefix = ap (λ (t : Row). t.prefix) (same_Some x r at) ∙ is in
    let here : ◌≡◌ {A = ℕ} (one_if (is_fresh (w ∷ bs) (Some x))) 0 = ap (λ b. one_if (not (b || is_in bs x.prefix))) (ap (λ p. same p w.prefix) e ∙ same_itself w.prefix) in
    let there : ◌≡◌ {A = ℕ} (one_if (is_fresh bs (Some x))) 1 = ap (λ b. one_if (not b)) (ap (is_in bs) e ∙ alone) in
    omega (arith, here, there, fewer w bs rows, sum_by-cons (λ r. one_if (is_fresh (w ∷ bs) r)) (Some x) rows, sum_by-cons (λ r. one_if (is_fresh bs r)) (Some x) rows)
one_fewer w bs alone (Some x ∷ rows) (suc n) r at is =
    omega (arith, one_fewer w bs alone rows n r at is, fresh_less w bs (Some x), sum_by-cons (λ r. one_if (is_fresh (w ∷ bs) r)) (Some x) rows, sum_by-cons (λ r. one_if (is_fresh bs r)) (Some x) rows)

less_in : (p : Prefix) (bs : List Wait) → AllByRecursion (λ q. prefix_order p q ≡ Less) (prefixes_at bs) → is_in bs p ≡ false
less_in p [] h = refl
less_in p (w ∷ bs) h = λ i. less_apart (prefix_order p w.prefix) h.0 i || less_in p bs h.1 i

some_fresh : (r : Option Row) → one_if (is_fresh [] r) ≤ one_if (is_some r)
some_fresh None = omega arith
some_fresh (Some r) = omega arith

-- each slot is to be withdrawn, or has a row of its own
pub room_for : (rows : List (Option Row)) (bs : List Wait) → IsStrictlySortedBy prefix_order (prefixes_at bs) → AllByRecursion (λ w. is_withdrawn w ≡ false → RowOf rows w.prefix) bs
    → length bs + fresh_count bs rows ≤ count_by is_some rows + withdrawn_count bs
unfolding IsStrictlySortedBy
room_for rows [] up h = omega (arith, sum_by-le-sum_by (λ r. one_if (is_fresh [] r)) (λ r. one_if (is_some r)) rows some_fresh)
room_for rows (w ∷ bs) up h = go (is_withdrawn w) refl (room_for rows bs up.1 h.1)
  where
    go : (b : Bool) → is_withdrawn w ≡ b → length bs + fresh_count bs rows ≤ count_by is_some rows + withdrawn_count bs → length (w ∷ bs) + fresh_count (w ∷ bs) rows ≤ count_by is_some rows + withdrawn_count (w ∷ bs)
    go true is rest =
        let one : ◌≡◌ {A = ℕ} (one_if (is_withdrawn w)) 1 = ap one_if is in
        omega (arith, rest, one, fewer w bs rows, sum_by-cons (λ v. one_if (is_withdrawn v)) w bs)
    go false is rest =
        let r = h.0 is in
        omega (arith, rest, one_fewer w bs (less_in w.prefix bs up.0) rows r.number r.row r.at r.prefix, sum_by-cons (λ v. one_if (is_withdrawn v)) w bs)

-- ---- those that wait still, marked

none_more : (n : ℕ) → n ≡ 0 + n
none_more n = omega arith

pub withdrawn_still : (ws : List Wait) → withdrawn_count (map remarked (still_open ws)) ≡ withdrawn_count ws
withdrawn_still [] = refl
withdrawn_still (w ∷ ws) =
    elim w.open as (λ b. w.open ≡ b → withdrawn_count (map remarked (cond b (w ∷ still_open ws) (still_open ws))) ≡ withdrawn_count (w ∷ ws)) [
      | true ↦ λ _.
          sum_by-cons (λ v. one_if (is_withdrawn v)) (remarked w) (map remarked (still_open ws))
          ∙ ap (λ n. one_if (is_withdrawn w) + n) (withdrawn_still ws)
          ∙ sym (sum_by-cons (λ v. one_if (is_withdrawn v)) w ws)
      | false ↦ λ f.
          withdrawn_still ws ∙ none_more (withdrawn_count ws)
          ∙ ap (λ b. one_if (b && is_withdrawal w.due) + withdrawn_count ws) (sym f)
          ∙ sym (sum_by-cons (λ v. one_if (is_withdrawn v)) w ws)
    ] refl

pub still_opened : (ws : List Wait) → IsStrictlySortedBy prefix_order (prefixes_at ws) → AllByRecursion (λ w. w.open ≡ true) (map remarked (still_open ws))
still_opened ws up = all_mapped remarked _ (λ w. w.open ≡ true) (λ w h. h.0) (still_open ws) (still_stand ws up)

pub row_within : (rows : List (Option Row)) (n : ℕ) (r : Row) → row_at rows n ≡ Some r → n < length rows
row_within [] n r is = absurd (cc)
row_within (x ∷ rows) zero r is = omega arith
row_within (x ∷ rows) (suc n) r is = omega (arith, row_within rows n r is)

row_backed : (rows : List (Option Row)) (p : Prefix) (d : Due) → IsBacked rows p d → is_withdrawal d ≡ false → RowOf rows p
row_backed rows p due.Withdrawn h said = absurd (true≢false said)
row_backed rows p (due.Announced n hash) h said = go (row_at rows n) refl h
  where
    go : (o : Option Row) → row_at rows n ≡ o → option_map prefix_and_hash o ≡ Some (p, hash) → RowOf rows p
    go None at is = absurd (cc)
    go (Some r) at is = record { number = n; row = r; at = at; prefix = ap (λ (e : Prefix × ℕ). e.0) (same_Some (prefix_and_hash r) (p, hash) is); within = row_within rows n r at }

rows_still : (rows : List (Option Row)) (ws : List Wait) → IsStrictlySortedBy prefix_order (prefixes_at ws) → AreBacked rows ws → AllByRecursion (λ w. is_withdrawn w ≡ false → RowOf rows w.prefix) (map remarked (still_open ws))
rows_still rows ws up backed =
    all_mapped remarked _ (λ w. is_withdrawn w ≡ false → RowOf rows w.prefix)
    (λ w h none. row_backed rows w.prefix w.due (backed w.prefix w h.1) (sym (ap (λ b. b && is_withdrawal w.due) h.0) ∙ none)) (still_open ws) (still_stand ws up)

-- ---- while rows are added

-- there is room for those that are left, and the prefixes of the first are listed
pub record AreListed (rows : List (Option Row)) (base : List Wait) (k capacity : ℕ) (xs : List Wait) : Type 0 where
  pub spare : length xs + fresh_count base (drop k rows) ≤ capacity
  pub listed : (n : ℕ) (r : Row) → n < k → row_at rows n ≡ Some r → is_in xs r.prefix ≡ true

pub none_listed_yet : (rows : List (Option Row)) (ws base : List Wait) (used capacity : ℕ) → IsStrictlySortedBy prefix_order (prefixes_at ws) → IsStrictlySortedBy prefix_order (prefixes_at base) → base ≡ map remarked (still_open ws)
    → count_by is_some rows ≡ used → used + withdrawn_count ws ≤ capacity → AreBacked rows ws → AreListed rows base 0 capacity base
none_listed_yet rows ws base used capacity up rise first count room backed = record {
  spare =
      let most = room_for rows base rise (subst (AllByRecursion (λ w. is_withdrawn w ≡ false → RowOf rows w.prefix)) (sym first) (rows_still rows ws up backed)) in
      omega (arith, most, count, room, withdrawn_still ws, ap withdrawn_count first);
  listed = λ n r below _. absurd (let e = below in omega (arith, e));
}

fresh_more : (base : List Wait) (rows : List (Option Row)) (k : ℕ) (o : Option Row) (b : Bool) → k < length rows → row_at rows k ≡ o → is_fresh base o ≡ b → fresh_count base (drop k rows) ≡ one_if b + fresh_count base (drop (k + 1) rows)
fresh_more base rows k o b below at is =
    sum_by-drop_more (λ r. one_if (is_fresh base r)) rows k None below
    ∙ ap (λ c. one_if c + fresh_count base (drop (k + 1) rows)) (ap (is_fresh base) (row_get rows k below ∙ at) ∙ is)

pub at_last : (n k : ℕ) → n < k + 1 → n ≢ k → n < k
at_last n k below ne = grind (arith)

pub none_more_listed : (rows : List (Option Row)) (base : List Wait) (k capacity : ℕ) (xs : List Wait) → k < length rows → row_at rows k ≡ None → AreListed rows base k capacity xs → AreListed rows base (k + 1) capacity xs
none_more_listed rows base k capacity xs below at are = record {
  spare = omega (arith, are.spare, fresh_more base rows k None false below at refl);
  listed = λ n r more is. elim (cases_eq n k) [
    | inl e ↦ absurd (let f : None ≡ Some r = sym at ∙ ap (row_at rows) (sym e) ∙ is in (cc))
    | inr ne ↦ are.listed n r (at_last n k more ne) is
  ];
}

any_more : (q : Prefix) (xs ys : List Wait) → is_in xs q ≡ true → is_in (xs ++ ys) q ≡ true
any_more q [] ys h = absurd (true≢false (sym h))
any_more q (x ∷ xs) ys h = go (same q x.prefix) h (λ k. any_more q xs ys k)
  where
    go : (b : Bool) → (b || is_in xs q) ≡ true → (is_in xs q ≡ true → is_in (xs ++ ys) q ≡ true) → (b || is_in (xs ++ ys) q) ≡ true
    go true h rest = refl
    go false h rest = rest h

pub in_whole : (q : Prefix) (n : ℕ) (xs : List Wait) → is_in (take n xs) q ≡ true → is_in xs q ≡ true
in_whole q n xs h =
    elim (is_in xs q) as (λ b. is_in xs q ≡ b → b ≡ true) [
      | true ↦ λ _. refl
      | false ↦ λ f. absurd (true≢false (sym h ∙ any_front q n xs f))
    ] refl

still_in : (q : Prefix) (base old new : List Wait) (n : ℕ) (row : Row) → MayAddRow base n row old new → is_in old q ≡ true → is_in new q ≡ true
still_in q base old new n row (inl stays) h = ap (λ xs. is_in xs q) stays ∙ h
still_in q base old new n row (inr adds) h = ap (λ xs. is_in xs q) adds.added ∙ any_more q old (adds.wait ∷ []) h

one_longer : (base old new : List Wait) (n : ℕ) (row : Row) → MayAddRow base n row old new → length new ≤ length old + 1
one_longer base old new n row (inl stays) = omega (arith, ap length stays)
one_longer base old new n row (inr adds) = omega (arith, ap length adds.added, length-append old (adds.wait ∷ []))

-- a row whose prefix is listed adds no slot
no_longer : (base old new : List Wait) (n : ℕ) (row : Row) → AllByRecursion (λ w. w.open ≡ true) base → is_in base row.prefix ≡ true → MayAddRow base n row old new → length new ≤ length old
no_longer base old new n row opened there (inl stays) = omega (arith, ap length stays)
no_longer base old new n row opened there (inr adds) = absurd (true≢false (sym there ∙ none_listed row.prefix base opened adds.alone))

pub one_more_listed : (rows : List (Option Row)) (base : List Wait) (k waited capacity : ℕ) (r : Row) (old new : List Wait) → k < length rows → row_at rows k ≡ Some r → AllByRecursion (λ w. w.open ≡ true) base → take waited old ≡ base
    → MayAddRow base k r old new → (length old < capacity → is_in new r.prefix ≡ true) → AreListed rows base k capacity old → AreListed rows base (k + 1) capacity new
one_more_listed rows base k waited capacity r old new below at opened front may lists are = go (is_in base r.prefix) refl
  where
    before : is_in new r.prefix ≡ true → (n : ℕ) (s : Row) → n < k + 1 → row_at rows n ≡ Some s → is_in new s.prefix ≡ true
    before here n s more is = elim (cases_eq n k) [
      | inl e ↦ ap (λ (t : Row). is_in new t.prefix) (same_Some s r (sym is ∙ ap (row_at rows) e ∙ at)) ∙ here
      | inr ne ↦ still_in s.prefix base old new k r may (are.listed n s (at_last n k more ne) is)
    ]

    go : (b : Bool) → is_in base r.prefix ≡ b → AreListed rows base (k + 1) capacity new
    go true there = record {
      spare = omega (arith, are.spare, fresh_more base rows k (Some r) false below at (ap not there), no_longer base old new k r opened there may);
      listed = before (still_in r.prefix base old new k r may (in_whole r.prefix waited old (ap (λ xs. is_in xs r.prefix) front ∙ there)));
    }
    go false alone =
        let one = fresh_more base rows k (Some r) true below at (ap not alone) in
        record {
          spare = omega (arith, are.spare, one, one_longer base old new k r may);
          listed = before (lists (omega (arith, are.spare, one)));
        }

-- ---- all of it

pub all_opened : (loc : Table) (ws xs zs : List Wait) → All (IsPutAgain loc ws) xs → ((w : Wait) → Contains zs w → Contains xs w) → AllByRecursion (λ w. w.open ≡ true) zs
all_opened loc ws xs zs all from =
    all_changed (IsPutAgain loc ws) (λ w. w.open ≡ true) (λ w h. h.opened) zs
    (recursion_from_All (IsPutAgain loc ws) zs (λ k d below. All-contains (IsPutAgain loc ws) xs (get_or zs k d) all (from (get_or zs k d) (All-contains_itself zs k d below))))

listed_open : (q : Prefix) (zs : List Wait) → AllByRecursion (λ w. w.open ≡ true) zs → is_in zs q ≡ true → IsSome (open_at q zs)
listed_open q zs opened h =
    elim (open_at q zs) as (λ o. open_at q zs ≡ o → IsSome o) [
      | None ↦ λ is. absurd (true≢false (sym h ∙ none_listed q zs opened is))
      | Some w ↦ λ _. refl
    ] refl

pub all_listed : (rows : List (Option Row)) (base xs zs : List Wait) (k capacity : ℕ) → length rows ≤ k → AreListed rows base k capacity xs → ((q : Prefix) → list_any (same q) (prefixes_at zs) ≡ list_any (same q) (prefixes_at xs))
    → AllByRecursion (λ w. w.open ≡ true) zs → (q : Prefix) → IsSome (fin.get (loc_of rows) q) → IsSome (open_at q zs)
all_listed rows base xs zs k capacity past are same_prefixes opened q due =
    let r = due_row rows q due in
    listed_open q zs opened (same_prefixes q ∙ ap (is_in xs) (sym r.prefix) ∙ are.listed r.number r.row (omega (arith, past, r.within)) r.at)

-- ---- how many are to be withdrawn

pub withdrawn_added : (base old new : List Wait) (n : ℕ) (row : Row) → MayAddRow base n row old new → withdrawn_count new ≤ withdrawn_count old
withdrawn_added base old new n row (inl stays) = omega (arith, ap withdrawn_count stays)
withdrawn_added base old new n row (inr adds) =
    let none : ◌≡◌ {A = ℕ} (one_if (is_withdrawn adds.wait)) 0 = ap one_if (ap (λ d. adds.wait.open && is_withdrawal d) adds.due ∙ and-false adds.wait.open) in
    omega (arith, ap withdrawn_count adds.added, sum_by-append (λ v. one_if (is_withdrawn v)) old (adds.wait ∷ []), sum_by-cons (λ v. one_if (is_withdrawn v)) adds.wait [], none)
