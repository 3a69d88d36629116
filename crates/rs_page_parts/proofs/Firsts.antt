-- The first route of a table from a number on, found in a list by rising prefix.
use Rattle.std.proofs.Common.{◌≡◌, ◌∙◌, refl, sym, ap, subst, arith, ℕ, ◌+◌, ◌*◌, ◌≤◌, ◌<◌, ◌⊎◌, inl, inr, Bool, true, false, cond, ◌&&◌, T, List, [], ◌∷◌, Option, Some, None}
use Rattle.std.specs.Prelude.{if◌then◌else◌}
use Rattle.std.specs.Cmp.{tied_itself}
use Rattle.std.specs.FinMap.{find, is_sorted}
use Rattle.std.specs.FinMap.Entries.{below_all}
use Rattle.std.specs.Ordering.{is_eq, is_lt, is_le}
use Rattle.std.specs.declared.cmp.Ordering.{Ordering}
use Rattle.std.specs.declared.cmp.Ordering.TheVariants.{Less, Equal, Greater}
use Rattle.std.proofs.lemmas.Bool.Decides.{nat_tests}
use Rattle.std.proofs.lemmas.Grind.{common_steps}
use Rattle.rs_octets.specs.Prefixes.{Prefix, IsIpv4Prefix, prefix_order}
use Rattle.rs_octets.specs.PrefixOrder.{prefix_order_total, prefix_order_exact}
use Rattle.rs_attrs.specs.Meaning.{Attribute}
use Rattle.rs_page_parts.specs.Keys.{key_of}
use Rattle.rs_page_parts.specs.Firsts.{IsFirst, Least, Empty}

-- the routes that are left of a list are those of a table from a number on, by rising prefix
pub record AreLeft (table : Prefix → Option (List Attribute)) (at : ℕ) (left : List (Prefix × List Attribute)) : Type 0 where
  pub rising : T (is_sorted prefix_order left)
  pub each : (q : Prefix) → IsIpv4Prefix q → at ≤ key_of q → find prefix_order q left ≡ table q

both : (a b : Bool) → T a → T b → T (a && b)
both true b p q = q
both false b p q = p

first : (a b : Bool) → T (a && b) → T a
first true b p = tt
first false b p = p

second : (a b : Bool) → T (a && b) → T b
second true b p = p
second false b p = absurd p

less_of : (r : Ordering) → T (is_lt r) → r ≡ Less
less_of Less p = refl
less_of Equal p = absurd p
less_of Greater p = absurd p

equal_of : (r : Ordering) → is_eq r ≡ true → r ≡ Equal
equal_of Less e = absurd (cc e)
equal_of Equal e = refl
equal_of Greater e = absurd (cc e)

-- numbers rise as prefixes do
split_keys : (a b c d : ℕ) → b ≤ 32 → d ≤ 32 → a * 64 + b < c * 64 + d → (a < c) ⊎ ((a ≡ c) × (b < d))
split_keys a b c d lb ld h = grind (arith, nat_tests)

by_numbers : (a b c d : ℕ) → (a < c) ⊎ ((a ≡ c) × (b < d)) → prefix_order (record { bits = a; len = b }) (record { bits = c; len = d }) ≡ Less
by_numbers a b c d (inl h) = grind (arith, nat_tests, common_steps)
by_numbers a b c d (inr h) = grind (arith, nat_tests, common_steps)

before : (p q : Prefix) → IsIpv4Prefix p → IsIpv4Prefix q → key_of p < key_of q → prefix_order p q ≡ Less
before p q hp hq h = by_numbers p.bits p.len q.bits q.len (split_keys p.bits p.len q.bits q.len hp.1 hq.1 h)

same_numbers : (a b c d : ℕ) → b ≤ 32 → d ≤ 32 → a * 64 + b ≡ c * 64 + d → (a ≡ c) × (b ≡ d)
same_numbers a b c d lb ld h = (omega arith, omega arith)

same_prefix : (p q : Prefix) → IsIpv4Prefix p → IsIpv4Prefix q → key_of p ≡ key_of q → p ≡ q
same_prefix p q hp hq h =
    let n = same_numbers p.bits p.len q.bits q.len hp.1 hq.1 h in
    λ i. record { bits = n.0 i; len = n.1 i }

from_less : (r : Ordering) → r ≡ Less → is_le r ≡ true
from_less r e = ap is_le e

from_equal : (r : Ordering) → r ≡ Equal → is_le r ≡ true
from_equal r e = ap is_le e

less_or_same : (a b : ℕ) → a ≤ b → (a < b) ⊎ (a ≡ b)
less_or_same a b h = grind (arith, nat_tests)

from_key : (p q : Prefix) → IsIpv4Prefix p → IsIpv4Prefix q → key_of p ≤ key_of q → is_le (prefix_order p q) ≡ true
from_key p q hp hq h = one (less_or_same (key_of p) (key_of q) h)
  where
    one : (key_of p < key_of q) ⊎ (key_of p ≡ key_of q) → is_le (prefix_order p q) ≡ true
    one (inl less) = from_less _ (before p q hp hq less)
    one (inr same) = subst (λ x. is_le (prefix_order p x) ≡ true) (same_prefix p q hp hq same) (from_equal _ (tied_itself prefix_order_total p))

untied : (q e : Prefix) → (q ≡ e → ⊥) → is_eq (prefix_order q e) ≡ false
untied q e apart = one (is_eq (prefix_order q e)) refl
  where
    one : (b : Bool) → is_eq (prefix_order q e) ≡ b → b ≡ false
    one true is = absurd (apart (prefix_order_exact q e (equal_of (prefix_order q e) is)))
    one false is = refl

module _ {X : Type 0} where
  -- what is before a prefix is before those behind it
  below : (q p : Prefix) (es : List (Prefix × X)) → prefix_order q p ≡ Less → T (below_all prefix_order p es) → T (below_all prefix_order q es)
  below q p [] less h = tt
  below q p (e ∷ es) less h =
      let next = prefix_order_total.trans q p e.0 less (less_of (prefix_order p e.0) (first _ _ h)) in
      both _ _ (subst (λ r. T (is_lt r)) (sym next) tt) (below q p es less (second _ _ h))

  none_below : (q : Prefix) (es : List (Prefix × X)) → T (below_all prefix_order q es) → find prefix_order q es ≡ None
  none_below q [] h = refl
  none_below q (e ∷ es) h =
      ap (λ r. cond (is_eq r) (Some e.1) (find prefix_order q es)) (less_of (prefix_order q e.0) (first _ _ h)) ∙ none_below q es (second _ _ h)

  found_at_front : (p : Prefix) (x : X) (es : List (Prefix × X)) → find prefix_order p ((p, x) ∷ es) ≡ Some x
  found_at_front p x es = ap (λ r. cond (is_eq r) (Some x) (find prefix_order p es)) (tied_itself prefix_order_total p)

  found_behind : (q p : Prefix) (x : X) (es : List (Prefix × X)) → (q ≡ p → ⊥) → find prefix_order q ((p, x) ∷ es) ≡ find prefix_order q es
  found_behind q p x es apart = ap (λ b. cond b (Some x) (find prefix_order q es)) (untied q p apart)

chosen : (b : Bool) (o : Option (List Attribute)) → b ≡ true → (if b then o else None) ≡ o
chosen true o e = refl
chosen false o e = absurd (cc e)

-- a list of those of a table from a prefix on, whose number is at most this one
pub begun : (table : Prefix → Option (List Attribute)) (from : Prefix) (at : ℕ) (routes : List (Prefix × List Attribute)) → IsIpv4Prefix from → key_of from ≤ at
    → T (is_sorted prefix_order routes) → ((p : Prefix) → find prefix_order p routes ≡ (if is_le (prefix_order from p) then table p else None)) → AreLeft table at routes
begun table from at routes is low rising each = record {
  rising = rising;
  each = λ q proper high. each q ∙ chosen (is_le (prefix_order from q)) (table q) (from_key from q is proper (omega arith));
}

module _ (table : Prefix → Option (List Attribute)) (at : ℕ) where
  differ : (q p : Prefix) → at ≤ key_of q → key_of p < at → q ≡ p → ⊥
  differ q p high low same = let e : key_of q ≡ key_of p = ap key_of same in omega arith

  less_differ : (q p : Prefix) → key_of q < key_of p → q ≡ p → ⊥
  less_differ q p less same = let e : key_of q ≡ key_of p = ap key_of same in omega arith

  -- the next one has a lesser number
  pub passed : (left rest : List (Prefix × List Attribute)) (p : Prefix) (m : List Attribute) → AreLeft table at left → left ≡ (p, m) ∷ rest → key_of p < at → AreLeft table at rest
  passed left rest p m are is low =
      let now = subst (AreLeft table at) is are in
      record {
        rising = second _ _ now.rising;
        each = λ q proper high. sym (found_behind q p m rest (differ q p high low)) ∙ now.each q proper high;
      }

  -- it hasn't
  pub found : (left rest : List (Prefix × List Attribute)) (p : Prefix) (m : List Attribute) → AreLeft table at left → left ≡ (p, m) ∷ rest → IsIpv4Prefix p → at ≤ key_of p → IsFirst table at (Some (p, m))
  found left rest p m are is proper high =
      let now = subst (AreLeft table at) is are in
      Least p m high (sym (now.each p proper high) ∙ found_at_front p m rest)
      (λ q hq above less.
      sym (now.each q hq above)
      ∙ found_behind q p m rest (less_differ q p less)
      ∙ none_below q rest (below q p rest (before q p hq proper less) (first _ _ now.rising)))

  -- none is left
  pub emptied : (left : List (Prefix × List Attribute)) → AreLeft table at left → left ≡ [] → IsFirst table at None
  emptied left are is =
      let now = subst (AreLeft table at) is are in
      Empty (λ q proper high. sym (now.each q proper high))
