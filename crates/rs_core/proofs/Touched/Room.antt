-- Up to 4,096 prefixes are touched by themselves.
use Rattle.std.proofs.Common.{◌≡◌, ◌≤◌, ◌+◌, ◌||◌, ℕ, Bool, true, false, cond, List, [], ◌∷◌, refl, sym, ◌∙◌, ap, arith}
use Rattle.std.specs.Prelude.{Some, None, nat_lt, if◌then◌else◌}
use Rattle.std.specs.List.{list_any}
use Rattle.std.specs.FinSet as set
use Rattle.std.specs.Ordering.{eq_by_cmp, is_eq}
use Rattle.std.specs.declared.cmp.Ordering.{Ordering}
use Rattle.std.specs.declared.cmp.Ordering.TheVariants.{Less, Equal, Greater}
use Rattle.std.proofs.lemmas.Bool.Decides.{nat_tests}
use Rattle.rs_octets.specs.PrefixOrder.{prefix_order_exact, prefix_order_total}
use Rattle.rs_octets.specs.Prefixes.{Prefix, prefix_order}
use Rattle.rs_outlet.specs.Views.{Prefixes, with_touch}
use Rattle.rs_core.specs.Touched.SinceLastTurn.{if_room}
use Rattle.rs_core.specs.Touched.ByRun.{with_touches}

-- ---- sets

pub equal_only : (r : Ordering) → is_eq r ≡ true → r ≡ Equal
equal_only Less h = cc h
equal_only Equal h = refl
equal_only Greater h = cc h

-- one that is there already
inserted_again : (s : Prefixes) (p : Prefix) → set.contains s p ≡ true → set.insert s p ≡ s
inserted_again s p has = set.same_set prefix_order_total prefix_order_exact (set.insert s p) s (λ q. set.contains-insert prefix_order_total s p q ∙ by_test q (eq_by_cmp prefix_order q p) refl) where
  by_test : (q : Prefix) (b : Bool) → eq_by_cmp prefix_order q p ≡ b → (b || set.contains s q) ≡ set.contains s q
  by_test q true e = sym (sym (set.contains_tied prefix_order_total s q p (equal_only (prefix_order q p) e)) ∙ has)
  by_test q false e = refl

abbrev pub with_all : List Prefix → Prefixes → Prefixes
with_all [] s = s
with_all (p ∷ ps) s = with_all ps (set.insert s p)

or_swapped : (a b d : Bool) → (a || (b || d)) ≡ ((b || a) || d)
or_swapped true true d = refl
or_swapped true false d = refl
or_swapped false true d = refl
or_swapped false false d = refl

pub all_in : (ps : List Prefix) (s : Prefixes) (q : Prefix) → set.contains (with_all ps s) q ≡ (list_any (eq_by_cmp prefix_order q) ps || set.contains s q)
all_in [] s q = refl
all_in (p ∷ ps) s q =
    all_in ps (set.insert s p) q
    ∙ ap (λ b. list_any (eq_by_cmp prefix_order q) ps || b) (set.contains-insert prefix_order_total s p q)
    ∙ or_swapped (list_any (eq_by_cmp prefix_order q) ps) (eq_by_cmp prefix_order q p) (set.contains s q)

-- ---- touches

grows : (b : Bool) (n : ℕ) → n ≤ cond b n (n + 1)
grows true n = omega arith
grows false n = omega arith

still_more : (m n : ℕ) → nat_lt 4096 m ≡ true → m ≤ n → nat_lt 4096 n ≡ true
still_more m n over le = grind (arith, nat_tests, over, le)

no_more : (n : ℕ) → nat_lt n 4096 ≡ true → nat_lt 4096 (n + 1) ≡ false
no_more n room = grind (arith, nat_tests, room)

one_too_many : (n : ℕ) → nat_lt n 4096 ≡ false → nat_lt 4096 (n + 1) ≡ true
one_too_many n full = grind (arith, nat_tests, full)

one_touch : (s : Prefixes) (p : Prefix) → with_touch (if_room s) p ≡ if_room (set.insert s p)
one_touch s p = by_room (nat_lt 4096 (set.len s)) refl (set.contains s p) refl (nat_lt (set.len s) 4096) refl where
  one_more : (b : Bool) → set.contains s p ≡ b → set.len (set.insert s p) ≡ cond b (set.len s) (set.len s + 1)
  one_more b has = set.len-insert prefix_order_total s p ∙ ap (λ b. cond b (set.len s) (set.len s + 1)) has

  room_of : (b : Bool) → nat_lt 4096 (set.len (set.insert s p)) ≡ b → if_room (set.insert s p) ≡ (if b then None else Some (set.insert s p))
  room_of b e = ap (λ b. if b then None else Some (set.insert s p)) e

  touch_of : (b d : Bool) → set.contains s p ≡ b → nat_lt (set.len s) 4096 ≡ d → with_touch (Some s) p ≡ (if b then Some s else if d then Some (set.insert s p) else None)
  touch_of b d has room = (λ i. if has i then Some s else if room i then Some (set.insert s p) else None)

  by_room : (over : Bool) → nat_lt 4096 (set.len s) ≡ over → (b : Bool) → set.contains s p ≡ b → (d : Bool) → nat_lt (set.len s) 4096 ≡ d → with_touch (if_room s) p ≡ if_room (set.insert s p)
  by_room true over b has d room =
      ap (λ b. with_touch (if b then None else Some s) p) over
      ∙ sym (room_of true (still_more (set.len s) (set.len (set.insert s p)) over (let le : set.len s ≤ cond b (set.len s) (set.len s + 1) = grows b (set.len s) in omega (arith, le, one_more b has))))
  by_room false over true has d room = ap (λ b. with_touch (if b then None else Some s) p) over ∙ touch_of true d has room ∙ sym (ap (λ b. if b then None else Some s) over) ∙ ap if_room (sym (inserted_again s p has))
  by_room false over false has true room =
      ap (λ b. with_touch (if b then None else Some s) p) over ∙ touch_of false true has room ∙ sym (room_of false (ap (nat_lt 4096) (one_more false has) ∙ no_more (set.len s) room))
  by_room false over false has false room =
      ap (λ b. with_touch (if b then None else Some s) p) over ∙ touch_of false false has room ∙ sym (room_of true (ap (nat_lt 4096) (one_more false has) ∙ one_too_many (set.len s) room))

pub many_touches : (ps : List Prefix) (s : Prefixes) → with_touches ps (if_room s) ≡ if_room (with_all ps s)
many_touches [] s = refl
many_touches (p ∷ ps) s = ap (with_touches ps) (one_touch s p) ∙ many_touches ps (set.insert s p)
