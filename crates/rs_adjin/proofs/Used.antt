-- How many rows have routes, as they are written; and that these are the prefixes that any client holds.
use Rattle.std.proofs.Common.{Bool, true, false, not, ◌≡◌, ◌+◌, ◌==◌, ℕ, zero, suc, List, [], ◌∷◌, ◌++◌, length, refl, sym, ◌∙◌, ap, subst, arith, inl, inr, map}
use Rattle.std.specs.Prelude.{Option, Some, None, slice_get, slice_index_or, slice_set, count_by, if◌then◌else◌}
use Rattle.std.specs.List.{list_any}
use Rattle.std.proofs.lemmas.Bool.Decides.{nat_tests}
use Rattle.std.proofs.lemmas.Option.{get_or_from_slice_get, same_Some, slice_get_within}
use Rattle.std.proofs.lemmas.List.Sums.{sum_by-cons, sum_by-set, sum_by_push}
use Rattle.rs_octets.specs.Prefixes.{Prefix}
use Rattle.rs_octets.proofs.Members.{Has, Apart}
use Rattle.rs_adjin.specs.declared.routes.Route.{Route}
use Rattle.rs_adjin.specs.declared.numbers.Row.{Row}
use Rattle.rs_adjin.specs.declared.adj_ins.AdjIns.{AdjIns}
use Rattle.rs_adjin.specs.Held.{one_if}
use Rattle.rs_adjin.specs.Listing.{Counts, Lists, sent_by}
use Rattle.rs_adjin.specs.Numbering.{prefix_at, routes_in, routes_by, are_some, has_routes, AreVacant}
use Rattle.rs_adjin.specs.Numbers.{number_in, routes_at}
use Rattle.rs_adjin.specs.AdjIns.{is_held}
use Rattle.rs_adjin.proofs.Counting.{is_in, is_in_from, has_from, has_is_in, iff, apart_distinct}
use Rattle.rs_adjin.proofs.PrefixCounts.{counts_from}
use Rattle.rs_adjin.proofs.Holding.{at_number}
use Rattle.rs_adjin.proofs.Listed.{lists}

-- ---- rows written

abbrev one_of : Row → ℕ
one_of row = one_if (has_routes row)

pub count_set : (rows : List Row) (n : ℕ) (r s : Row) → slice_get rows n ≡ Some r → count_by has_routes (slice_set rows n s) + one_if (has_routes r) ≡ count_by has_routes rows + one_if (has_routes s)
count_set rows n r s is =
    let there : one_of (slice_index_or rows n r) ≡ one_of r = ap one_of (get_or_from_slice_get rows n r r is) in
    let all : count_by has_routes (slice_set rows n s) + one_of (slice_index_or rows n r) ≡ count_by has_routes rows + one_of s = sum_by-set one_of rows n s r (slice_get_within rows n r is) in
    omega (arith, there, all)

-- the prefix alone is another
pub count_renamed : (rows : List Row) (n : ℕ) (r s : Row) → slice_get rows n ≡ Some r → s.routes ≡ r.routes → count_by has_routes (slice_set rows n s) ≡ count_by has_routes rows
count_renamed rows n r s is same = let e : one_if (has_routes s) ≡ one_if (has_routes r) = ap (λ rs. one_if (are_some rs)) same in omega (arith, count_set rows n r s is, e)

count_push : (rows : List Row) (r : Row) → r.routes ≡ [] → count_by has_routes (rows ++ r ∷ []) ≡ count_by has_routes rows
count_push rows r none =
    let e : one_of r ≡ 0 = ap (λ rs. one_if (are_some rs)) none in
    let all : count_by has_routes (rows ++ r ∷ []) ≡ count_by has_routes rows + one_of r = sum_by_push one_of rows r in
    omega (arith, e, all)

pub count_push_any : (rows : List Row) (r : Row) (b : Bool) (new : List Row) → new ≡ (if b then rows ++ r ∷ [] else rows) → r.routes ≡ [] → count_by has_routes new ≡ count_by has_routes rows
count_push_any rows r true new is none = ap (count_by has_routes) is ∙ count_push rows r none
count_push_any rows r false new is none = ap (count_by has_routes) is

-- ---- routes put and taken

some_is : (rs : List Route) (b : Bool) → b ≡ (length rs == 0) → are_some rs ≡ not b
some_is [] b is = sym (ap not is)
some_is (r ∷ rs) b is = sym (ap not (is ∙ later (length rs)))
  where
    later : (n : ℕ) → (suc n == 0) ≡ false
    later n = grind (arith, nat_tests)

one_less : (b d : Bool) → b ≡ not d → one_if b + one_if d ≡ 1
one_less b true is = ap (λ b. one_if b + 1) is
one_less b false is = ap (λ b. one_if b + 0) is

-- how many rows have routes once one was written, by whether it had some and has
module _ (rows : List Row) (n : ℕ) (r s : Row) (used : ℕ) (read : slice_get rows n ≡ Some r) (counted : count_by has_routes rows ≡ used)
    (was is : Bool) (m k : ℕ) (before : was ≡ (m == 0)) (after : is ≡ (k == 0)) (m_is : m ≡ length r.routes) (k_is : k ≡ length s.routes) where
  pub count_changed : count_by has_routes (slice_set rows n s) + one_if is ≡ used + one_if was
  count_changed =
      omega (arith, count_set rows n r s read, counted, one_less (has_routes r) was (some_is r.routes was (before ∙ ap (λ n. n == 0) m_is)), one_less (has_routes s) is (some_is s.routes is (after ∙ ap (λ n. n == 0) k_is)))

-- ---- the prefixes of the rows with routes

abbrev with_prefix : Bool → Option Prefix → List Prefix → List Prefix
with_prefix true (Some p) ps = p ∷ ps
with_prefix true None ps = ps
with_prefix false o ps = ps

abbrev prefixes_of : List Row → List Prefix
prefixes_of [] = []
prefixes_of (r ∷ rows) = with_prefix (has_routes r) r.prefix (prefixes_of rows)

abbrev IsTakenAt : List Row → ℕ → Prefix → Type 0
IsTakenAt rows n p = (prefix_at rows n ≡ Some p) × (are_some (routes_in (slice_get rows n)) ≡ true)

found : (rows : List Row) (p : Prefix) → Has (prefixes_of rows) p → (n : ℕ) × IsTakenAt rows n p
found [] p h = absurd h
found (r ∷ rows) p h = by_first (λ k. let t = found rows p k in (suc t.0, t.1)) (has_routes r) refl r.prefix refl h
  where
    by_first : (Has (prefixes_of rows) p → (n : ℕ) × IsTakenAt (r ∷ rows) n p) → (b : Bool) → has_routes r ≡ b → (o : Option Prefix) → r.prefix ≡ o → Has (with_prefix b o (prefixes_of rows)) p → (n : ℕ) × IsTakenAt (r ∷ rows) n p
    by_first later true e (Some q) f (inl is) = (0, (f ∙ ap (λ x. Some x) is, e))
    by_first later true e (Some q) f (inr h) = later h
    by_first later true e None f h = later h
    by_first later false e o f h = later h

more : (b : Bool) (o : Option Prefix) (ps : List Prefix) (p : Prefix) → Has ps p → Has (with_prefix b o ps) p
more true (Some q) ps p h = inr h
more true None ps p h = h
more false o ps p h = h

stays : (rows : List Row) (n : ℕ) (p : Prefix) → IsTakenAt rows n p → Has (prefixes_of rows) p
stays [] n p h = absurd (let e : ◌≡◌ {A = Option Prefix} None (Some p) = h.0 in cc)
stays (r ∷ rows) zero p h = subst (λ b. Has (with_prefix b r.prefix (prefixes_of rows)) p) (sym h.1) (subst (λ o. Has (with_prefix true o (prefixes_of rows)) p) (sym h.0) (inl refl))
stays (r ∷ rows) (suc n) p h = more (has_routes r) r.prefix (prefixes_of rows) p (stays rows n p h)

apart : (rows : List Row) → ((a b : ℕ) (p : Prefix) → prefix_at rows a ≡ Some p → prefix_at rows b ≡ Some p → a ≡ b) → Apart (prefixes_of rows)
apart [] once = tt
apart (r ∷ rows) once = by_first (apart rows (λ a b p x y. let e = once (suc a) (suc b) p x y in omega (arith, e))) (has_routes r) r.prefix refl
  where
    by_first : Apart (prefixes_of rows) → (b : Bool) (o : Option Prefix) → r.prefix ≡ o → Apart (with_prefix b o (prefixes_of rows))
    by_first rest true (Some q) f = (λ x h same. let t = found rows x h in let e = once 0 (suc t.0) x (f ∙ ap (λ y. Some y) same) t.1.0 in absurd (omega (arith, e)), rest)
    by_first rest true None f = rest
    by_first rest false o f = rest

size : (rows : List Row) → AreVacant rows → length (prefixes_of rows) ≡ count_by has_routes rows
size [] vacant = refl
size (r ∷ rows) vacant = by_first (size rows (λ n none. vacant (suc n) none)) (has_routes r) refl r.prefix refl ∙ sym (sum_by-cons one_of r rows)
  where
    by_first : length (prefixes_of rows) ≡ count_by has_routes rows → (b : Bool) → has_routes r ≡ b → (o : Option Prefix) → r.prefix ≡ o → length (with_prefix b o (prefixes_of rows)) ≡ one_if b + count_by has_routes rows
    by_first rest true e (Some q) f = omega (arith, rest)
    by_first rest true e None f = absurd (let g : true ≡ false = sym e ∙ ap are_some (vacant 0 f) in (cc))
    by_first rest false e o f = omega (arith, rest)

-- ---- all tables

any_some : (rs : List Route) → list_any (λ h. true) (map sent_by rs) ≡ are_some rs
any_some [] = refl
any_some (r ∷ rs) = refl

held_some : (ins : AdjIns) (p : Prefix) → is_held ins p ≡ are_some (routes_at ins.table p)
held_some ins p = ap (list_any (λ h. true)) (sym (lists ins p).all) ∙ any_some (routes_at ins.table p)

pub held_counted : (ins : AdjIns) → Counts (is_held ins) ins.table.used
held_counted ins = counts_from (is_held ins) (prefixes_of rows) ins.table.used listed (size rows ins.table.vacant ∙ ins.table.counted)
  where
    rows : List Row
    rows = ins.table.rows.items

    held_at : (p : Prefix) → Has (prefixes_of rows) p → is_held ins p ≡ true
    held_at p h =
        let t = found rows p h in
        held_some ins p ∙ ap are_some (at_number ins.table p t.0 (ins.table.inverse.back p t.0 t.1.0)) ∙ t.1.1

    at_held : (p : Prefix) → are_some (routes_at ins.table p) ≡ true → (o : Option ℕ) → number_in ins.table p ≡ o → Has (prefixes_of rows) p
    at_held p h None is = absurd (let e : true ≡ false = sym h ∙ ap (λ n. are_some (routes_by rows n)) is in (cc))
    at_held p h (Some n) is = stays rows n p (ins.table.inverse.there p n is, sym (ap are_some (at_number ins.table p n is)) ∙ h)

    listed : Lists (is_held ins) (prefixes_of rows)
    listed = record {
      once = apart_distinct (prefixes_of rows) (apart rows (λ a b p x y. same_Some a b (sym (ins.table.inverse.back p a x) ∙ ins.table.inverse.back p b y)));
      all = λ p.
          has_is_in p (prefixes_of rows)
          ∙ iff (is_in (prefixes_of rows) p) (is_held ins p) (λ h. held_at p (has_from (prefixes_of rows) p h)) (λ h. is_in_from (prefixes_of rows) p (at_held p (sym (held_some ins p) ∙ h) (number_in ins.table p) refl));
    }
