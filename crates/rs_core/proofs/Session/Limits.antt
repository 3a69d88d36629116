-- How many prefixes a client holds after a change.
use Rattle.std.proofs.Common.{◌≡◌, ◌&&◌, ◌||◌, not, ℕ, Bool, true, false, cond, List, [], ◌∷◌, ◌++◌, length, refl, sym, ◌∙◌, ap}
use Rattle.std.specs.Prelude.{Option, Some, None, IsSome, is_some, filter, nat_lt, if◌then◌else◌}
use Rattle.std.specs.List.{flat_map}
use Rattle.std.proofs.Math.Bool.{and-false, and-true, or_assoc}
use Rattle.rs_octets.specs.Prefixes.{Prefix}
use Rattle.rs_attrs.specs.Meaning.{Attribute}
use Rattle.rs_attrs.specs.Effects.{Change, same_prefix, has_prefix, table_since, once}
use Rattle.rs_attrs.proofs.EachOnce.{same_is, distinct_filtered, once_distinct, once_has}
use Rattle.rs_adjin.specs.AdjIns.{held_of, would_hold}
use Rattle.rs_adjin.specs.Listing.{Lists, Counts}
use Rattle.rs_adjin.specs.declared.adj_ins.AdjIns.{AdjIns}
use Rattle.rs_core.specs.Session.Hearing.{held_by, reset_beyond}
use Rattle.rs_core.specs.Run.Parts.{IsAnnouncing}
use Rattle.rs_core.proofs.Session.Updating.{found}

-- ---- lists of prefixes

kept_has : (keep : Prefix → Bool) (p : Prefix) (ps : List Prefix) → has_prefix p (filter keep ps) ≡ (has_prefix p ps && keep p)
kept_has keep p [] = refl
kept_has keep p (q ∷ ps) = by_tests (same_prefix p q) (keep q) refl refl (kept_has keep p ps)
  where
    by_tests : (same test : Bool) → same_prefix p q ≡ same → keep q ≡ test → has_prefix p (filter keep ps) ≡ (has_prefix p ps && keep p)
        → has_prefix p (cond test (q ∷ filter keep ps) (filter keep ps)) ≡ ((same || has_prefix p ps) && keep p)
    by_tests true true e f later = ap (λ b. b || has_prefix p (filter keep ps)) e ∙ sym (ap keep (same_is p q e) ∙ f)
    by_tests true false e f later =
        let here : keep p ≡ false = ap keep (same_is p q e) ∙ f in
        later ∙ ap (λ b. has_prefix p ps && b) here ∙ and-false (has_prefix p ps) ∙ sym here
    by_tests false true e f later = ap (λ b. b || has_prefix p (filter keep ps)) e ∙ later
    by_tests false false e f later = later

has_joined : (p : Prefix) (ps qs : List Prefix) → has_prefix p (ps ++ qs) ≡ (has_prefix p ps || has_prefix p qs)
has_joined p [] qs = refl
has_joined p (q ∷ ps) qs = ap (λ b. same_prefix p q || b) (has_joined p ps qs) ∙ sym (or_assoc (same_prefix p q) (has_prefix p ps) (has_prefix p qs))

-- ---- the prefixes that changes leave

abbrev announced_in : List Change → List Prefix
announced_in changes = flat_map (λ change. change.announced) changes

was_announced : (changes : List Change) (p : Prefix) → is_some (table_since changes p) ≡ true → has_prefix p (announced_in changes) ≡ true
was_announced [] p e = absurd (cc)
was_announced (x ∷ xs) p e =
    has_joined p x.announced (announced_in xs)
    ∙ by_tests (has_prefix p x.withdrawn) (has_prefix p x.announced) x.attributes (table_since xs p) (was_announced xs p) (sym (ap (λ o. is_some o) (found x xs p)) ∙ e)
  where
    by_tests : (w a : Bool) (m o : Option (List Attribute)) → (is_some o ≡ true → has_prefix p (announced_in xs) ≡ true)
        → is_some (if w || a then (if a then m else None) else o) ≡ true → (a || has_prefix p (announced_in xs)) ≡ true
    by_tests w true m o later e = refl
    by_tests true false m o later e = absurd (cc)
    by_tests false false m o later e = later e

both_or_neither : (has keep : Bool) → (keep ≡ true → has ≡ true) → (has && keep) ≡ keep
both_or_neither has true h = ap (λ b. b && true) (h refl)
both_or_neither has false h = and-false has

-- each stands once in the list
listed : (changes : List Change) → Lists (λ p. is_some (table_since changes p)) (held_by changes)
listed changes = record {
  once = distinct_filtered (λ p. is_some (table_since changes p)) (once (announced_in changes)) (once_distinct (announced_in changes));
  all = λ p.
      kept_has (λ q. is_some (table_since changes q)) p (once (announced_in changes))
      ∙ ap (λ b. b && is_some (table_since changes p)) (once_has p (announced_in changes))
      ∙ both_or_neither (has_prefix p (announced_in changes)) (is_some (table_since changes p)) (was_announced changes p);
}

-- ---- the count of the code is that of the definition

some_true : {A : Type 0} (o : Option A) → IsSome o → is_some o ≡ true
some_true None h = absurd (cc)
some_true (Some a) h = refl

held_after : (w a : Bool) (m o : Option (List Attribute)) → (a ≡ true → IsSome m) → is_some (if w || a then (if a then m else None) else o) ≡ (a || (is_some o && not w))
held_after true true m o some = some_true m (some refl)
held_after false true m o some = some_true m (some refl)
held_after true false m o some = sym (and-false (is_some o))
held_after false false m o some = sym (and-true (is_some o))

pub count_is : (ins : AdjIns) (c count : ℕ) (W A : List Prefix) (change : Change) (changes : List Change) → Counts (would_hold ins c W A) count
    → ((p : Prefix) → held_of ins c p ≡ table_since changes p) → IsAnnouncing W A change → length (held_by (change ∷ changes)) ≡ count
count_is ins c count W A change changes counts held it = counts.each (held_by (change ∷ changes)) (record {
  once = (listed (change ∷ changes)).once;
  all = λ p.
      (listed (change ∷ changes)).all p
      ∙ ap (λ o. is_some o) (found change changes p)
      ∙ held_after (has_prefix p change.withdrawn) (has_prefix p change.announced) change.attributes (table_since changes p) (λ e. it.with_attributes p (sym (it.announced_are p) ∙ e))
      ∙ (λ i. it.announced_are p i || (is_some (sym (held p) i) && not (it.withdrawn_are p i)));
})

abbrev pub reset_if : Bool → Option (ℕ × ℕ)
reset_if b = if b then Some (6, 1) else None

is_some_by : (b : Bool) → is_some (reset_if b) ≡ b
is_some_by true = refl
is_some_by false = refl

pub reset_by_limit : (limit count : ℕ) (changes : List Change) → length (held_by changes) ≡ count → is_some (reset_beyond (Some limit) changes) ≡ nat_lt limit count
reset_by_limit limit count changes e = is_some_by (nat_lt limit (length (held_by changes))) ∙ ap (λ n. nat_lt limit n) e
