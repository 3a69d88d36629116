-- Slots of which no two wait for one prefix: what stands of a prefix, and what a written slot and another order leave of that.
use Rattle.std.proofs.Common.{◌≡◌, ◌+◌, ◌<◌, ◌≤◌, ℕ, zero, suc, Bool, true, false, cond, ◌&&◌, Option, None, Some, List, [], ◌∷◌, length, slice_set, refl, sym, ap, ◌∙◌, arith}
use Rattle.std.specs.Prelude.{count_by, slice_get}
use Rattle.std.proofs.Math.Bool.{and-false}
use Rattle.std.specs.List.{AllByRecursion, IsDistinct}
use Rattle.std.specs.List.Sorted.{IsPermutation}
use Rattle.std.proofs.lemmas.Bool.{and_parts}
use Rattle.std.proofs.lemmas.List.Sorted.{IsPermutation-sym, sum_by-IsPermutation}
use Rattle.std.proofs.lemmas.List.Sums.{sum_by-cons, sum_by-set}
use Rattle.std.proofs.lemmas.Option.{same_Some}
use Rattle.rs_octets.specs.Prefixes.{Prefix}
use Rattle.rs_outlet.specs.declared.waiting.Wait.{Wait}
use Rattle.rs_outlet.specs.Pending.Slots.{AreApart, open_at, prefixes_at, still_open, waits_there}
use Rattle.rs_outlet.proofs.Decided.LocByNumber.{same, same_is, same_itself}
use Rattle.rs_outlet.proofs.Pending.Adding.{Stands, all_moved, found_in}
use Rattle.rs_outlet.proofs.Pending.Slots.{first_open, later_at, later_set, shut_at}
use Rattle.rs_outlet.proofs.Pending.Withdrawals.{one_if}

-- ---- how many wait for a prefix

abbrev pub count_at : Prefix → List Wait → ℕ
count_at p ws = count_by (waits_there p) ws

pub count_one : (p : Prefix) (w : Wait) (b : Bool) → waits_there p w ≡ b → one_if (waits_there p w) ≡ one_if b
count_one p w b is = ap one_if is

count_cons : (p : Prefix) (w : Wait) (ws : List Wait) → count_at p (w ∷ ws) ≡ one_if (waits_there p w) + count_at p ws
count_cons p w ws = sum_by-cons (λ v. one_if (waits_there p v)) w ws

pub none_counted : (p : Prefix) (ws : List Wait) → open_at p ws ≡ None → count_at p ws ≡ 0
none_counted p [] h = refl
none_counted p (w ∷ ws) h = go (none_counted p ws) (waits_there p w) refl h
  where
    go : (open_at p ws ≡ None → count_at p ws ≡ 0) → (b : Bool) → waits_there p w ≡ b → cond b (Some w) (open_at p ws) ≡ None → count_at p (w ∷ ws) ≡ 0
    go rest true is h = absurd (cc)
    go rest false is h = omega (arith, count_cons p w ws, count_one p w false is, rest h)

pub counted_none : (p : Prefix) (ws : List Wait) → count_at p ws ≡ 0 → open_at p ws ≡ None
counted_none p [] h = refl
counted_none p (w ∷ ws) h = go (counted_none p ws) (waits_there p w) refl
  where
    go : (count_at p ws ≡ 0 → open_at p ws ≡ None) → (b : Bool) → waits_there p w ≡ b → cond b (Some w) (open_at p ws) ≡ None
    go rest true is = absurd (omega (arith, count_cons p w ws, count_one p w true is, h))
    go rest false is = rest (omega (arith, count_cons p w ws, count_one p w false is, h))

pub some_counted : (p : Prefix) (ws : List Wait) (n : ℕ) (w : Wait) → slice_get ws n ≡ Some w → waits_there p w ≡ true → 1 ≤ count_at p ws
some_counted p [] zero w at is = absurd (cc)
some_counted p [] (suc n) w at is = absurd (cc)
some_counted p (x ∷ ws) zero w at is = omega (arith, count_cons p x ws, count_one p x true (ap (waits_there p) (same_Some x w at) ∙ is))
some_counted p (x ∷ ws) (suc n) w at is = omega (arith, count_cons p x ws, some_counted p ws n w at is)

pub tail_apart : (w : Wait) (ws : List Wait) → AreApart (w ∷ ws) → AreApart ws
tail_apart w ws apart p = omega (arith, count_cons p w ws, apart p)

-- two that wait for one prefix are one
twice : (x : Wait) (ws : List Wait) (p : Prefix) (n : ℕ) (w : Wait) → AreApart (x ∷ ws) → waits_there p x ≡ true → slice_get ws n ≡ Some w → waits_there p w ≡ true → ⊥
twice x ws p n w apart one at two = omega (arith, apart p, count_cons p x ws, count_one p x true one, some_counted p ws n w at two)

there_itself : (w : Wait) → w.open ≡ true → waits_there w.prefix w ≡ true
there_itself w opened = λ i. opened i && same_itself w.prefix i

there_of : (w z : Wait) → z.open ≡ true → w.prefix ≡ z.prefix → waits_there w.prefix z ≡ true
there_of w z opened is = ap (λ p. waits_there p z) is ∙ there_itself z opened

pub unique : (ws : List Wait) (n m : ℕ) (w z : Wait) → AreApart ws → slice_get ws n ≡ Some w → slice_get ws m ≡ Some z → w.open ≡ true → z.open ≡ true → w.prefix ≡ z.prefix → n ≡ m
unique [] zero m w z apart at to opened also is = absurd (cc)
unique [] (suc n) m w z apart at to opened also is = absurd (cc)
unique (x ∷ ws) zero zero w z apart at to opened also is = refl
unique (x ∷ ws) zero (suc m) w z apart at to opened also is =
    absurd (twice x ws w.prefix m z apart (ap (waits_there w.prefix) (same_Some x w at) ∙ there_itself w opened) to (there_of w z also is))
unique (x ∷ ws) (suc n) zero w z apart at to opened also is =
    absurd (twice x ws z.prefix n w apart (ap (waits_there z.prefix) (same_Some x z to) ∙ there_itself z also) at (there_of z w opened (sym is)))
unique (x ∷ ws) (suc n) (suc m) w z apart at to opened also is = ap suc (unique ws n m w z (tail_apart x ws apart) at to opened also is)

-- an open slot is what stands of its prefix
pub found_apart : (ws : List Wait) (n : ℕ) (w : Wait) → AreApart ws → slice_get ws n ≡ Some w → w.open ≡ true → open_at w.prefix ws ≡ Some w
found_apart [] zero w apart at opened = absurd (cc)
found_apart [] (suc n) w apart at opened = absurd (cc)
found_apart (x ∷ ws) zero w apart at opened =
    first_open w.prefix x ws (ap (λ (t : Wait). t.open) (same_Some x w at) ∙ opened) (ap (λ (t : Wait). same w.prefix t.prefix) (same_Some x w at) ∙ same_itself w.prefix) ∙ at
found_apart (x ∷ ws) (suc n) w apart at opened = go (found_apart ws n w (tail_apart x ws apart) at opened) (waits_there w.prefix x) refl
  where
    go : open_at w.prefix ws ≡ Some w → (b : Bool) → waits_there w.prefix x ≡ b → cond b (Some x) (open_at w.prefix ws) ≡ Some w
    go rest true is = absurd (twice x ws w.prefix n w apart is at (there_itself w opened))
    go rest false is = rest

-- where a prefix waits there is a slot
pub stands_somewhere : (q : Prefix) (ws : List Wait) (w : Wait) → open_at q ws ≡ Some w → (n : ℕ) × (slice_get ws n ≡ Some w) × (w.open ≡ true) × (w.prefix ≡ q)
stands_somewhere q [] w is = absurd (cc)
stands_somewhere q (x ∷ ws) w is = go (stands_somewhere q ws w) (waits_there q x) refl is
  where
    go : (open_at q ws ≡ Some w → (n : ℕ) × (slice_get ws n ≡ Some w) × (w.open ≡ true) × (w.prefix ≡ q)) → (b : Bool) → waits_there q x ≡ b → cond b (Some x) (open_at q ws) ≡ Some w → (n : ℕ) × (slice_get (x ∷ ws) n ≡ Some w) × (w.open ≡ true) × (w.prefix ≡ q)
    go rest true t e =
        let same_slot : x ≡ w = same_Some x w e in
        let both = and_parts x.open (same q x.prefix) t in
        (0, e, ap (λ (v : Wait). v.open) (sym same_slot) ∙ both.0, ap (λ (v : Wait). v.prefix) (sym same_slot) ∙ sym (same_is q x.prefix both.1))
    go rest false t e = let r = rest e in (suc r.0, r.1, r.2, r.3)

-- ---- one slot written

-- it waits no more
pub shut_apart_at : (ws : List Wait) (n : ℕ) (w y : Wait) → AreApart ws → slice_get ws n ≡ Some w → w.open ≡ true → y.open ≡ false → (q : Prefix) → open_at q (slice_set ws n y) ≡ cond (same q w.prefix) None (open_at q ws)
shut_apart_at [] zero w y apart at opened shut q = absurd (cc)
shut_apart_at [] (suc n) w y apart at opened shut q = absurd (cc)
shut_apart_at (x ∷ ws) zero w y apart at opened shut q = shut_at q y ws shut ∙ go (same q w.prefix) refl
  where
    here : x ≡ w
    here = same_Some x w at

    go : (b : Bool) → same q w.prefix ≡ b → open_at q ws ≡ cond b None (open_at q (x ∷ ws))
    go true is =
        let there : waits_there q x ≡ true = ap (waits_there q) here ∙ (λ i. opened i && is i) in
        counted_none q ws (omega (arith, apart q, count_cons q x ws, count_one q x true there))
    go false is = sym (later_at q x ws (ap (λ (v : Wait). same q v.prefix) here ∙ is))
shut_apart_at (x ∷ ws) (suc n) w y apart at opened shut q =
    ap (cond (x.open && same q x.prefix) (Some x)) (shut_apart_at ws n w y (tail_apart x ws apart) at opened shut q)
    ∙ later_set (x.open && same q x.prefix) (same q w.prefix) (Some x) None (open_at q ws) (λ is. go is (waits_there q x) refl)
  where
    go : same q w.prefix ≡ true → (b : Bool) → waits_there q x ≡ b → b ≡ false
    go is true t = absurd (twice x ws q n w apart t at (λ i. opened i && is i))
    go is false t = refl

pub shut_fewer : (ws : List Wait) (n : ℕ) (y d : Wait) → n < length ws → y.open ≡ false → AreApart ws → AreApart (slice_set ws n y)
shut_fewer ws n y d below shut apart p =
    let none : one_if (waits_there p y) ≡ 0 = ap (λ b. one_if (b && same p y.prefix)) shut in
    omega (arith, apart p, sum_by-set (λ v. one_if (waits_there p v)) ws n y d below, none)

-- one that waits no more is written anew so
pub shut_again : (ws : List Wait) (n : ℕ) (v y : Wait) → slice_get ws n ≡ Some v → v.open ≡ false → y.open ≡ false → (q : Prefix) → open_at q (slice_set ws n y) ≡ open_at q ws
shut_again [] zero v y at was shut q = absurd (cc)
shut_again [] (suc n) v y at was shut q = absurd (cc)
shut_again (x ∷ ws) zero v y at was shut q = shut_at q y ws shut ∙ sym (shut_at q x ws (ap (λ (t : Wait). t.open) (same_Some x v at) ∙ was))
shut_again (x ∷ ws) (suc n) v y at was shut q = ap (cond (x.open && same q x.prefix) (Some x)) (shut_again ws n v y at was shut q)

-- one that waits no more waits again, where nothing of its prefix does
pub opened_apart_at : (ws : List Wait) (n : ℕ) (w y : Wait) → slice_get ws n ≡ Some w → w.open ≡ false → y.open ≡ true → open_at y.prefix ws ≡ None → (q : Prefix) → open_at q (slice_set ws n y) ≡ cond (same q y.prefix) (Some y) (open_at q ws)
opened_apart_at [] zero w y at shut opened none q = absurd (cc)
opened_apart_at [] (suc n) w y at shut opened none q = absurd (cc)
opened_apart_at (x ∷ ws) zero w y at shut opened none q =
    ap (λ b. cond (b && same q y.prefix) (Some y) (open_at q ws)) opened
    ∙ ap (cond (same q y.prefix) (Some y)) (sym (shut_at q x ws (ap (λ (v : Wait). v.open) (same_Some x w at) ∙ shut)))
opened_apart_at (x ∷ ws) (suc n) w y at shut opened none q =
    ap (cond (x.open && same q x.prefix) (Some x)) (opened_apart_at ws n w y at shut opened (behind (waits_there y.prefix x) none) q)
    ∙ later_set (x.open && same q x.prefix) (same q y.prefix) (Some x) (Some y) (open_at q ws) (λ is. go is (waits_there q x) refl)
  where
    behind : (b : Bool) → cond b (Some x) (open_at y.prefix ws) ≡ None → open_at y.prefix ws ≡ None
    behind true h = absurd (cc)
    behind false h = h

    go : same q y.prefix ≡ true → (b : Bool) → waits_there q x ≡ b → b ≡ false
    go is true t = absurd (let f : Some x ≡ None = sym (ap (λ b. cond b (Some x) (open_at y.prefix ws)) (ap (λ p. waits_there p x) (sym (same_is q y.prefix is)) ∙ t)) ∙ none in cc)
    go is false t = refl

-- ---- in another order

pub moved_count : (p : Prefix) (xs ys : List Wait) → IsPermutation xs ys → count_at p ys ≡ count_at p xs
moved_count p xs ys moved = sum_by-IsPermutation (λ (w : Wait). one_if (waits_there p w)) xs ys moved

pub apart_moved : (xs ys : List Wait) → IsPermutation xs ys → AreApart xs → AreApart ys
apart_moved xs ys moved apart p = omega (arith, moved_count p xs ys moved, apart p)

stand_within : (all ws : List Wait) → ((n : ℕ) (w : Wait) → slice_get ws n ≡ Some w → w.open ≡ true → open_at w.prefix all ≡ Some w) → AllByRecursion (Stands all) ws
stand_within all [] h = tt
stand_within all (w ∷ ws) h = (h 0 w refl, stand_within all ws (λ n v at. h (suc n) v at))

found_moved : (xs ys : List Wait) → AreApart xs → IsPermutation xs ys → (q : Prefix) (w : Wait) → open_at q ys ≡ Some w → open_at q xs ≡ Some w
found_moved xs ys apart moved q w is = found_in (λ r. open_at r xs) q w ys (all_moved (Stands xs) xs ys moved (stand_within xs xs (λ n v at. found_apart xs n v apart at))) is

-- the order doesn't matter
pub open_moved : (xs ys : List Wait) → AreApart xs → IsPermutation xs ys → (q : Prefix) → open_at q ys ≡ open_at q xs
open_moved xs ys apart moved q = go (open_at q xs) (open_at q ys) refl refl
  where
    go : (r s : Option Wait) → open_at q xs ≡ r → open_at q ys ≡ s → s ≡ r
    go None None a b = refl
    go (Some v) None a b = sym b ∙ found_moved ys xs (apart_moved xs ys moved apart) (IsPermutation-sym xs ys moved) q v a
    go r (Some w) a b = sym (found_moved xs ys apart moved q w b) ∙ a

-- ---- those that wait still

pub still_apart : (ws : List Wait) → AreApart ws → IsDistinct same (prefixes_at (still_open ws))
unfolding IsDistinct
still_apart [] apart = tt
still_apart (w ∷ ws) apart =
    elim w.open as (λ b. w.open ≡ b → IsDistinct same (prefixes_at (cond b (w ∷ still_open ws) (still_open ws)))) [
      | true ↦ λ t. (none_same w.prefix ws (omega (arith, apart w.prefix, count_cons w.prefix w ws, count_one w.prefix w true (there_itself w t))), still_apart ws (tail_apart w ws apart))
      | false ↦ λ _. still_apart ws (tail_apart w ws apart)
    ] refl
  where
    none_same : (p : Prefix) (ws : List Wait) → count_at p ws ≡ 0 → AllByRecursion (λ q. same p q ≡ false) (prefixes_at (still_open ws))
    none_same p [] h = tt
    none_same p (v ∷ ws) h =
        elim v.open as (λ b. v.open ≡ b → AllByRecursion (λ q. same p q ≡ false) (prefixes_at (cond b (v ∷ still_open ws) (still_open ws)))) [
          | true ↦ λ t. (go t (same p v.prefix) refl, none_same p ws (omega (arith, count_cons p v ws, h)))
          | false ↦ λ _. none_same p ws (omega (arith, count_cons p v ws, h))
        ] refl
      where
        go : v.open ≡ true → (b : Bool) → same p v.prefix ≡ b → b ≡ false
        go t true is = absurd (omega (arith, count_cons p v ws, count_one p v true (λ i. t i && is i), h))
        go t false is = refl

pub distinct_apart : (ws : List Wait) → IsDistinct same (prefixes_at ws) → AreApart ws
unfolding IsDistinct
distinct_apart [] d p = omega arith
distinct_apart (w ∷ ws) d p = go (distinct_apart ws d.1 p) (same p w.prefix) refl
  where
    none_of : (ws : List Wait) → AllByRecursion (λ q. same w.prefix q ≡ false) (prefixes_at ws) → same p w.prefix ≡ true → count_at p ws ≡ 0
    none_of [] h is = refl
    none_of (v ∷ ws) h is =
        let other : same p v.prefix ≡ false = ap (λ q. same q v.prefix) (same_is p w.prefix is) ∙ h.0 in
        omega (arith, count_cons p v ws, count_one p v false (ap (λ b. v.open && b) other ∙ and-false v.open), none_of ws h.1 is)

    at_most : (b : Bool) → one_if b ≤ 1
    at_most true = omega arith
    at_most false = omega arith

    go : count_at p ws ≤ 1 → (b : Bool) → same p w.prefix ≡ b → count_at p (w ∷ ws) ≤ 1
    go rest true is = omega (arith, count_cons p w ws, none_of ws d.0 is, at_most (waits_there p w))
    go rest false is = omega (arith, count_cons p w ws, count_one p w false (ap (λ b. w.open && b) is ∙ and-false w.open), rest)
