-- Pieces: news at all numbers of a block, one after the other, and what pieces have in all.
use Rattle.std.proofs.Common.{◌≡◌, ◌<◌, ◌≤◌, ◌+◌, ◌-◌, ◌*◌, ℕ, zero, suc, Bool, true, false, ◌||◌, Option, None, Some, List, [], ◌∷◌, ◌++◌, get_or, length, map, slice_set, refl, sym, ap, ◌∙◌, subst, arith}
use Rattle.std.specs.Prelude.{nat_eq, replicate, slice_get, take}
use Rattle.std.specs.Map.{keys_of}
use Rattle.std.specs.Ptr.{null_ptr}
use Rattle.rs_octets.specs.Prefixes.{Prefix}
use Rattle.rs_outlet.specs.declared.waiting.Wait.{Wait}
use mathlib.Core.Bool.{true≢false}
use Rattle.std.specs.Arc.{arc_value}
use Rattle.std.specs.List.{AllByRecursion, IsDistinct, list_any}
use Rattle.std.proofs.lemmas.Bool.Decides.{nat_tests}
use Rattle.std.proofs.lemmas.List.{append_assoc, append-nil, length-append, length-map, length-take-le, map-append, take_all}
use Rattle.std.proofs.lemmas.Map.Keys.{IsDistinct-head, IsDistinct-tail}
use Rattle.rs_rows.specs.Rows.{IsPrepared, Listed, Row, row_at, written_from}
use Rattle.rs_outlet.specs.declared.filled.Whole.{Whole}
use Rattle.rs_outlet.specs.declared.news.News.{News}
use Rattle.rs_outlet.specs.declared.pieces.Piece.{Piece}
use Rattle.rs_outlet.specs.declared.pieces.Piece.TheVariants as piece
use Rattle.rs_outlet.specs.declared.plan.Plan.{Plan}
use Rattle.rs_outlet.specs.declared.plan.Plan.TheVariants as plan
use Rattle.rs_outlet.specs.Decided.News.{AreFree, AreFrom, HaveRoutes, change_of, news_from, row_of, seen, slot_of, written}
use Rattle.rs_outlet.specs.Decided.Plans.{HasRows, IsFor, IsOutside, changes_in, news_in, news_of, news_within}
use Rattle.rs_outlet.specs.Inside.{AreBelow, numbers_of}
use Rattle.rs_outlet.proofs.Pending.News.{HaveARow, written_apart}

-- ---- news at numbers one after the other

-- the same by steps
abbrev pub Rise : ℕ → List News → Type 0
Rise k [] = Unit {0}
Rise k (n ∷ ns) = (n.number ≡ k) × Rise (suc k) ns

pub rise : (k : ℕ) (ns : List News) → AreFrom k ns → Rise k ns
rise k [] are = tt
rise k (n ∷ ns) are = (
  (let e = are 0 n refl in omega (arith, e)),
  rise (suc k) ns (λ i m at. let e = are (suc i) m at in omega (arith, e)),
)

pub from_written : (k : ℕ) (ns : List News) (rows : List (Option Row)) → Rise k ns → written_from k (map row_of ns) rows ≡ written ns rows
from_written k [] rows are = refl
from_written k (n ∷ ns) rows are = from_written (suc k) ns (slice_set rows k (row_of n)) are.1 ∙ ap (λ m. written ns (slice_set rows m (row_of n))) (sym are.0)

pub from_below : (k : ℕ) (ns : List News) (rows : List (Option Row)) → Rise k ns → k + length ns ≤ length rows → HaveARow rows ns
from_below k [] rows are below = tt
from_below k (n ∷ ns) rows are below = (omega (arith, are.0, below), from_below (suc k) ns rows are.1 (omega (arith, below)))

from_apart : (j k : ℕ) (ns : List News) → j < k → Rise k ns → AllByRecursion (λ m. nat_eq j m ≡ false) (numbers_of (map change_of ns))
from_apart j k [] less are = tt
from_apart j k (n ∷ ns) less are = (let is = are.0 in grind (arith, nat_tests, less, is), from_apart j (suc k) ns (omega (arith, less)) are.1)

pub from_once : (k : ℕ) (ns : List News) → Rise k ns → IsDistinct nat_eq (numbers_of (map change_of ns))
unfolding IsDistinct
from_once k [] are = tt
from_once k (n ∷ ns) are = (subst (λ j. AllByRecursion (λ m. nat_eq j m ≡ false) (numbers_of (map change_of ns))) (sym are.0) (from_apart k (suc k) ns (omega arith) are.1), from_once (suc k) ns are.1)

-- a number among them is one of theirs
pub from_any : (k m : ℕ) (ns : List News) → Rise k ns → k ≤ m → m < k + length ns → list_any (nat_eq m) (numbers_of (map change_of ns)) ≡ true
from_any k m [] are low high = absurd (omega (arith, low, high))
from_any k m (n ∷ ns) are low high =
    elim (nat_eq m k) as (λ b. nat_eq m k ≡ b → (nat_eq m n.number || list_any (nat_eq m) (numbers_of (map change_of ns))) ≡ true) [
      | true ↦ λ t. ap (λ b. b || list_any (nat_eq m) (numbers_of (map change_of ns))) (ap (nat_eq m) are.0 ∙ t)
      | false ↦ λ f. or_to_right (nat_eq m n.number) _ (from_any (suc k) m ns are.1 (let g : suc k ≤ m = grind (arith, nat_tests, f, low) in g) (omega (arith, high)))
    ] refl
  where
    or_to_right : (a b : Bool) → b ≡ true → (a || b) ≡ true
    or_to_right true b t = refl
    or_to_right false b t = t

from_last : (k most : ℕ) (n : News) (ns : List News) → Rise k (n ∷ ns) → AreBelow (map change_of (n ∷ ns)) most → k + length ns < most
from_last k most n [] are below = omega (arith, are.0, below.0)
from_last k most n (m ∷ ns) are below = let rest = from_last (suc k) most m ns are.1 below.1 in omega (arith, rest)

some_last : (k most : ℕ) (ns : List News) → length ns ≡ 16 → Rise k ns → AreBelow (map change_of ns) most → k + 15 < most
some_last k most [] full are below = absurd (omega (arith, full))
some_last k most (n ∷ ns) full are below = let last = from_last k most n ns are below in omega (arith, last, full)

-- ---- a block of them

-- one more row of it has news
block_set : (k : ℕ) (xs : List (Option Row)) (x : Option Row) → slice_set (xs ++ replicate (suc k) None) (length xs) x ≡ (xs ++ x ∷ []) ++ replicate k None
block_set k [] x = refl
block_set k (y ∷ xs) x = ap (λ ys. y ∷ ys) (block_set k xs x)

pub one_more : (ns : List News) (i : ℕ) (n : News) → i < 16 → length ns ≡ i → slice_set (map row_of ns ++ replicate (16 - i) None) i (row_of n) ≡ map row_of (ns ++ n ∷ []) ++ replicate (16 - (i + 1)) None
one_more ns i n below count =
    (λ j. slice_set (map row_of ns ++ replicate (let e : 16 - i ≡ suc (16 - (i + 1)) = omega (arith, below) in e j) None) (let e : i ≡ length (map row_of ns) = sym (length-map ns row_of ∙ count) in e j) (row_of n))
    ∙ block_set (16 - (i + 1)) (map row_of ns) (row_of n)
    ∙ ap (λ xs. xs ++ replicate (16 - (i + 1)) None) (sym (map-append row_of ns (n ∷ [])))

-- ---- the news that the rows of a block are

pub rise_from : (k : ℕ) (rows : List (Option Row)) → Rise k (news_from k rows)
rise_from k [] = tt
rise_from k (None ∷ rows) = tt
rise_from k (Some r ∷ rows) = (refl, rise_from (suc k) rows)

count_from : (k : ℕ) (rows : List (Option Row)) → HaveRoutes rows → length (news_from k rows) ≡ length rows
count_from k [] full = refl
count_from k (None ∷ rows) full = absurd (true≢false (sym full.0))
count_from k (Some r ∷ rows) full = ap suc (count_from (suc k) rows full.1)

pub rows_from : (k : ℕ) (rows : List (Option Row)) → HaveRoutes rows → rows ≡ map row_of (news_from k rows)
rows_from k [] full = refl
rows_from k (None ∷ rows) full = absurd (true≢false (sym full.0))
rows_from k (Some r ∷ rows) full = ap (λ xs. Some r ∷ xs) (rows_from (suc k) rows full.1)

pub full_rows : (ns : List News) → HaveRoutes (map row_of ns)
full_rows [] = tt
full_rows (n ∷ ns) = (refl, full_rows ns)

pub seen_from : (k : ℕ) (ns : List News) → Rise k ns → map seen (map change_of (news_from k (map row_of ns))) ≡ map seen (map change_of ns)
seen_from k [] are = refl
seen_from k (n ∷ ns) are = λ j. ((sym are.0 j, n.prefix), Some (arc_value n.attrs)) ∷ seen_from (suc k) ns are.1 j

-- the row of news at an index, and their number
pub row_from : (k : ℕ) (rows : List (Option Row)) (i : ℕ) (n : News) → slice_get (news_from k rows) i ≡ Some n → (row_at rows i ≡ row_of n) × (n.number ≡ k + i)
row_from k [] i n is = absurd (let f : None ≡ Some n = is in (cc))
row_from k (None ∷ rows) i n is = absurd (let f : None ≡ Some n = is in (cc))
row_from k (Some r ∷ rows) zero n is =
    let same : record { number = k; prefix = r.prefix; attrs = record { ptr = null_ptr; value = r.attributes } } ≡ n = cc is in
    (ap row_of same, (let e : k ≡ n.number = ap (λ (m : News). m.number) same in omega (arith, e)))
row_from k (Some r ∷ rows) (suc i) n is = let rest = row_from (suc k) rows i n is in (rest.0, omega (arith, rest.1))

-- one slot more
slots_next : (ns : List News) (i : ℕ) (front was now : List Wait) → i < length ns → was ≡ front ++ map slot_of (take i ns) → ((n : News) → slice_get ns i ≡ Some n → now ≡ was ++ slot_of n ∷ []) → now ≡ front ++ map slot_of (take (suc i) ns)
slots_next [] i front was now below is next = absurd (omega (arith, below))
slots_next (n ∷ ns) zero front was now below is next = next n refl ∙ ap (λ ws. ws ++ slot_of n ∷ []) is ∙ append_assoc front [] (slot_of n ∷ [])
slots_next (n ∷ ns) (suc i) front was now below is next =
    slots_next ns i (front ++ slot_of n ∷ []) was now (omega (arith, below)) (is ∙ sym (append_assoc front (slot_of n ∷ []) (map slot_of (take i ns)))) next
    ∙ append_assoc front (slot_of n ∷ []) (map slot_of (take (suc i) ns))

pub slots_more : (ns : List News) (i : ℕ) (front was now : List Wait) → i < length ns → was ≡ front ++ map slot_of (take i ns) → ((n : News) → slice_get ns i ≡ Some n → now ≡ was ++ slot_of n ∷ []) → now ≡ front ++ map slot_of (take (i + 1) ns)
slots_more ns i front was now below is next = slots_next ns i front was now below is next ∙ ap (λ k. front ++ map slot_of (take k ns)) (let e : suc i ≡ i + 1 = omega arith in e)

pub slots_many : (ns : List News) (i : ℕ) (front was : List Wait) → i ≤ length ns → was ≡ front ++ map slot_of (take i ns) → length was ≡ length front + i
slots_many ns i front was within is = ap length is ∙ length-append front (map slot_of (take i ns)) ∙ ap (λ k. length front + k) (length-map (take i ns) slot_of ∙ length-take-le i ns within)

pub slots_all : (ns : List News) (i : ℕ) (front was : List Wait) → length ns ≤ i → was ≡ front ++ map slot_of (take i ns) → was ≡ front ++ map slot_of ns
slots_all ns i front was over is = is ∙ ap (λ ms. front ++ map slot_of ms) (take_all i ns (grind (arith, nat_tests, over)))

-- what is so of each of their numbers
pub all_rise : (Q : ℕ → Type 0) (k : ℕ) (ns : List News) → Rise k ns → ((j : ℕ) → j < length ns → Q (k + j)) → AllByRecursion (λ (n : News). Q n.number) ns
all_rise Q k [] are so = tt
all_rise Q k (n ∷ ns) are so = (
  subst Q (let e : k + 0 ≡ n.number = (let is = are.0 in omega (arith, is)) in e) (so 0 (omega arith)),
  all_rise Q (suc k) ns are.1 (λ j less. subst Q (let e : k + suc j ≡ suc k + j = omega arith in e) (so (suc j) (omega (arith, less)))),
)

pub all_numbers : (Q : ℕ → Type 0) (ns : List News) → AllByRecursion (λ (n : News). Q n.number) ns → AllByRecursion Q (numbers_of (map change_of ns))
all_numbers Q [] all = tt
all_numbers Q (n ∷ ns) all = (all.0, all_numbers Q ns all.1)

-- what is listed at their numbers
pub keys_rise : (k : ℕ) (ns : List News) (ts : List (ℕ × Prefix)) → Rise k ns → length ns ≤ length ts → ((j : ℕ) → j < length ns → (t : ℕ × Prefix) → slice_get ts j ≡ Some t → t.0 ≡ k + j) → keys_of (take (length ns) ts) ≡ numbers_of (map change_of ns)
keys_rise k [] ts are many so = refl
keys_rise k (n ∷ ns) [] are many so = absurd (omega (arith, many))
keys_rise k (n ∷ ns) (t ∷ ts) are many so =
    let first = so 0 (omega arith) t refl in
    let e : t.0 ≡ n.number = (let is = are.0 in omega (arith, first, is)) in
    λ i. e i ∷ keys_rise (suc k) ns ts are.1 (omega (arith, many)) (λ j less u at. let x = so (suc j) (omega (arith, less)) u at in omega (arith, x)) i

pub rise_within : (w : Whole) → Rise (w.place * 16) (news_within w)
rise_within w = rise_from (w.place * 16) (arc_value w.block).rows.items

pub sixteen : (w : Whole) → length (news_within w) ≡ 16
sixteen w = count_from (w.place * 16) (arc_value w.block).rows.items w.full ∙ (let b = arc_value w.block in b.full)

-- ---- pieces

pub news_push : (ps : List Piece) (p : Piece) → news_in (ps ++ p ∷ []) ≡ news_in ps ++ news_of p
news_push [] p = append-nil (news_of p)
news_push (q ∷ ps) p = ap (λ ns. news_of q ++ ns) (news_push ps p) ∙ sym (append_assoc (news_of q) (news_in ps) (news_of p))

below_front : (ns ms : List News) (most : ℕ) → AreBelow (map change_of (ns ++ ms)) most → AreBelow (map change_of ns) most
below_front [] ms most below = tt
below_front (n ∷ ns) ms most below = (below.0, below_front ns ms most below.1)

below_rest : (ns ms : List News) (most : ℕ) → AreBelow (map change_of (ns ++ ms)) most → AreBelow (map change_of ms) most
below_rest [] ms most below = below
below_rest (n ∷ ns) ms most below = below_rest ns ms most below.1

-- a block whose news have numbers below one has its rows below it
pub block_below : (w : Whole) (most : ℕ) → AreBelow (map change_of (news_within w)) most → w.place * 16 + 15 < most
block_below w most below = some_last (w.place * 16) most (news_within w) (sixteen w) (rise_within w) below

pub free_front : (ns ms : List News) (rows : List (Option Row)) → AreFree rows (ns ++ ms) → AreFree rows ns
free_front [] ms rows free = tt
free_front (n ∷ ns) ms rows free = (free.0, free_front ns ms rows free.1)

pub free_behind : (ns ms : List News) (rows : List (Option Row)) → AreFree rows (ns ++ ms) → AreFree rows ms
free_behind [] ms rows free = free
free_behind (n ∷ ns) ms rows free = free_behind ns ms rows free.1

pub free_join : (ns ms : List News) (rows : List (Option Row)) → AreFree rows ns → AreFree rows ms → AreFree rows (ns ++ ms)
free_join [] ms rows free more = more
free_join (n ∷ ns) ms rows free more = (free.0, free_join ns ms rows free.1 more)

abbrev numbers : List News → List ℕ
numbers ns = numbers_of (map change_of ns)

-- numbers that are apart
split_all : (m : ℕ) (ns ms : List News) → AllByRecursion (λ k. nat_eq m k ≡ false) (numbers (ns ++ ms)) → AllByRecursion (λ k. nat_eq m k ≡ false) (numbers ms)
split_all m [] ms all = all
split_all m (n ∷ ns) ms all = split_all m ns ms all.1

pub once_rest : (ns ms : List News) → IsDistinct nat_eq (numbers (ns ++ ms)) → IsDistinct nat_eq (numbers ms)
once_rest [] ms once = once
once_rest (n ∷ ns) ms once = once_rest ns ms (IsDistinct-tail nat_eq n.number (numbers (ns ++ ms)) once)

-- ---- plans

free_same : (ns : List News) (rows rows' : List (Option Row)) → ((n : ℕ) → row_at rows' n ≡ row_at rows n) → AreFree rows ns → AreFree rows' ns
free_same [] rows rows' same free = tt
free_same (n ∷ ns) rows rows' same free = (same n.number ∙ free.0, free_same ns rows rows' same free.1)

pub fitting_same : (it : Plan) (rows rows' : List (Option Row)) (idle still : Bool) → ((n : ℕ) → row_at rows' n ≡ row_at rows n) → still ≡ idle → IsFor rows idle it → IsFor rows' still it
fitting_same (plan.Own changes) rows rows' idle still same is fits = tt
fitting_same (plan.Shared pieces) rows rows' idle still same is fits = (is ∙ fits.0, free_same (news_in pieces.items) rows rows' same fits.1)

-- ---- a piece carried out

pub written_both : (ns ms : List News) (rows : List (Option Row)) → written (ns ++ ms) rows ≡ written ms (written ns rows)
written_both [] ms rows = refl
written_both (n ∷ ns) ms rows = written_both ns ms (slice_set rows n.number (row_of n))

-- news at other numbers than these
abbrev pub AreApart : List News → List News → Type 0
AreApart ns ms = AllByRecursion (λ (m : News). list_any (nat_eq m.number) (numbers ns) ≡ false) ms

all_apart : (ms : List News) → AreApart [] ms
all_apart [] = tt
all_apart (m ∷ ms) = (refl, all_apart ms)

more_apart : (n : News) (ns ms : List News) → AllByRecursion (λ k. nat_eq n.number k ≡ false) (numbers ms) → AreApart ns ms → AreApart (n ∷ ns) ms
more_apart n ns [] head rest = tt
more_apart n ns (m ∷ ms) head rest = (
  ap (λ b. b || list_any (nat_eq m.number) (numbers ns)) (let h = head.0 in let e : nat_eq m.number n.number ≡ false = grind (arith, nat_tests, h) in e) ∙ rest.0,
  more_apart n ns ms head.1 rest.1,
)

pub are_apart : (ns ms : List News) → IsDistinct nat_eq (numbers (ns ++ ms)) → AreApart ns ms
are_apart [] ms once = all_apart ms
are_apart (n ∷ ns) ms once =
    more_apart n ns ms (split_all n.number ns ms (IsDistinct-head nat_eq n.number (numbers (ns ++ ms)) once)) (are_apart ns ms (IsDistinct-tail nat_eq n.number (numbers (ns ++ ms)) once))

pub free_after : (ns ms : List News) (rows : List (Option Row)) → AreApart ns ms → AreFree rows ms → AreFree (written ns rows) ms
free_after ns [] rows apart free = tt
free_after ns (m ∷ ms) rows apart free = (written_apart ns rows m.number apart.0 ∙ free.0, free_after ns ms rows apart.1 free.1)

-- a number apart from a piece is of another block than it
is_outside : (x : Piece) (m : ℕ) → list_any (nat_eq m) (numbers (news_of x)) ≡ false → IsOutside x m
is_outside (piece.One n) m apart = tt
is_outside (piece.Block w) m apart = λ e.
    true≢false (sym (from_any (w.place * 16) m (news_within w) (rise_within w) (omega (arith, e)) (omega (arith, e, sixteen w))) ∙ apart)

apart_front : (ns ms os : List News) → AreApart ns (ms ++ os) → AreApart ns ms
apart_front ns [] os apart = tt
apart_front ns (m ∷ ms) os apart = (apart.0, apart_front ns ms os apart.1)

apart_behind : (ns ms os : List News) → AreApart ns (ms ++ os) → AreApart ns os
apart_behind ns [] os apart = apart
apart_behind ns (m ∷ ms) os apart = apart_behind ns ms os apart.1

module _ (x : Piece) (old new : Listed) (length_is : length new.items ≡ length old.items) (kept : (m : ℕ) → IsOutside x m → IsPrepared old.prepared m → IsPrepared new.prepared m) where
  has_rows : (p : Piece) → AreApart (news_of x) (news_of p) → HasRows old p → HasRows new p
  has_rows (piece.One n) apart has = (omega (arith, length_is, has.0), kept n.number (is_outside x n.number apart.0) has.1)
  has_rows (piece.Block w) apart has = omega (arith, length_is, has)

  -- the other pieces have their rows still
  pub rows_rest : (ps : List Piece) → AreApart (news_of x) (news_in ps) → AllByRecursion (HasRows old) ps → AllByRecursion (HasRows new) ps
  rows_rest [] apart has = tt
  rows_rest (p ∷ ps) apart has = (has_rows p (apart_front (news_of x) (news_of p) (news_in ps) apart) has.0, rows_rest ps (apart_behind (news_of x) (news_of p) (news_in ps) apart) has.1)

-- there is a row for each
rows_both : (rows : List (Option Row)) (ns ms : List News) → HaveARow rows ns → HaveARow rows ms → HaveARow rows (ns ++ ms)
rows_both rows [] ms h k = k
rows_both rows (n ∷ ns) ms h k = (h.0, rows_both rows ns ms h.1 k)

rows_for : (rows : Listed) (p : Piece) → HasRows rows p → HaveARow rows.items (news_of p)
rows_for rows (piece.One n) has = (has.0, tt)
rows_for rows (piece.Block w) has = from_below (w.place * 16) (news_within w) rows.items (rise_within w) (omega (arith, has, sixteen w))

pub have_rows : (rows : Listed) (ps : List Piece) → AllByRecursion (HasRows rows) ps → HaveARow rows.items (news_in ps)
have_rows rows [] has = tt
have_rows rows (p ∷ ps) has = rows_both rows.items (news_of p) (news_in ps) (rows_for rows p has.0) (have_rows rows ps has.1)

-- pieces have rows that can be written, where these are kept
module _ (old new : Listed) (length_is : length new.items ≡ length old.items) (kept : (m : ℕ) → IsPrepared old.prepared m → IsPrepared new.prepared m) where
  has_still : (p : Piece) → HasRows old p → HasRows new p
  has_still (piece.One n) has = (omega (arith, length_is, has.0), kept n.number has.1)
  has_still (piece.Block w) has = omega (arith, length_is, has)

  pub have_still : (ps : List Piece) → AllByRecursion (HasRows old) ps → AllByRecursion (HasRows new) ps
  have_still [] has = tt
  have_still (p ∷ ps) has = (has_still p has.0, have_still ps has.1)

-- ---- pieces one after the other

taken_news : (ps : List Piece) (i : ℕ) (p : Piece) → i < length ps → p ≡ get_or ps i p → news_in (take (suc i) ps) ≡ news_in (take i ps) ++ news_of p
taken_news [] i p below is = absurd (omega (arith, below))
taken_news (x ∷ ps) zero p below is = append-nil (news_of x) ∙ ap news_of (sym is)
taken_news (x ∷ ps) (suc i) p below is = ap (λ ns. news_of x ++ ns) (taken_news ps i p (omega (arith, below)) is) ∙ sym (append_assoc (news_of x) (news_in (take i ps)) (news_of p))

pub news_next : (ps : List Piece) (i : ℕ) (p : Piece) → i < length ps → p ≡ get_or ps i p → news_in (take (i + 1) ps) ≡ news_in (take i ps) ++ news_of p
news_next ps i p below is = ap (λ k. news_in (take k ps)) (let e : i + 1 ≡ suc i = omega arith in e) ∙ taken_news ps i p below is

pub below_at : (most : ℕ) (ps : List Piece) (i : ℕ) (p : Piece) → i < length ps → p ≡ get_or ps i p → AreBelow (changes_in ps) most → AreBelow (map change_of (news_of p)) most
below_at most [] i p less is below = absurd (omega (arith, less))
below_at most (x ∷ ps) zero p less is below = subst (λ (q : Piece). AreBelow (map change_of (news_of q)) most) (sym is) (below_front (news_of x) (news_in ps) most below)
below_at most (x ∷ ps) (suc i) p less is below = below_at most ps i p (omega (arith, less)) is (below_rest (news_of x) (news_in ps) most below)

all_next : (rows : Listed) (ps : List Piece) (i : ℕ) (p : Piece) → i < length ps → p ≡ get_or ps i p → AllByRecursion (HasRows rows) (take i ps) → HasRows rows p → AllByRecursion (HasRows rows) (take (suc i) ps)
all_next rows [] i p less is all has = absurd (omega (arith, less))
all_next rows (x ∷ ps) zero p less is all has = (subst (HasRows rows) is has, tt)
all_next rows (x ∷ ps) (suc i) p less is all has = (all.0, all_next rows ps i p (omega (arith, less)) is all.1 has)

-- one piece more has its rows
pub has_next : (rows : Listed) (ps : List Piece) (i : ℕ) (p : Piece) → i < length ps → p ≡ get_or ps i p → AllByRecursion (HasRows rows) (take i ps) → HasRows rows p → AllByRecursion (HasRows rows) (take (i + 1) ps)
has_next rows ps i p less is all has = subst (λ k. AllByRecursion (HasRows rows) (take k ps)) (let e : suc i ≡ i + 1 = omega arith in e) (all_next rows ps i p less is all has)
