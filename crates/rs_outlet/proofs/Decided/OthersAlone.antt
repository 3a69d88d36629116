-- What is due to a client doesn't depend on what that client holds.
use Rattle.std.proofs.Common.{◌≡◌, ◌≢◌, ◌==◌, ◌||◌, ℕ, zero, suc, true, cond, Option, None, Some, List, [], ◌∷◌, refl, sym, ap, ◌∙◌, subst, arith, ◌⊎◌, inl, inr}
use Rattle.std.specs.Prelude.{unwrap_or, option_and_then, Contains}
use Rattle.std.specs.List.{AllByRecursion, cons_option}
use Rattle.std.proofs.lemmas.List.Elements.{All-from_recursion}
use Rattle.std.proofs.lemmas.Bool.Decides.{nat_tests}
use Rattle.std.proofs.lemmas.Bool.{cases_eq}
use Rattle.rs_octets.specs.Prefixes.{Prefix}
use Rattle.rs_attrs.specs.Meaning.{Attribute}
use Rattle.rs_attrs.specs.Getters.{origin_of, med_of, path_length_of, path_has_of}
use Rattle.rs_adjin.specs.Listing.{holders_from, with_holder}
use Rattle.rs_policy.specs.Configuration.{Configuration, client_of}
use Rattle.rs_policy.specs.Verdicts.{Judgement, dropped, passed, verdict}
use Rattle.rs_decision.specs.Choice.{best_of}
use Rattle.rs_decision.specs.declared.rank.Rank.{Rank}
use Rattle.rs_decision.proofs.Chosen.{best_is_unbeaten}
use Rattle.rs_outlet.specs.declared.answers.Speech.{Speech}
use Rattle.rs_outlet.specs.Decided.Due.{Held, rank_by, rank_to, ranks_among, holders_at, passed_on, if_fits, route_from, due_to}
use Rattle.rs_outlet.specs.Decided.Alike.{DueIsAlike}
use Rattle.rs_outlet.proofs.Decided.Ranks.{rank_place}

own : (c : ℕ) → (c == c) ≡ true
own c = grind (arith, nat_tests)

-- a client's own route is no candidate
pub own_none : (t : Held) (c : ℕ) (p : Prefix) (m : List Attribute) → rank_to t c p (c, m) ≡ None
own_none t c p m = ap (λ b. cond (b || path_has_of t.settings.top.server_as m) None (rank_by t c m (verdict t.settings c c p m))) (own c)

own_left : (t : Held) (c : ℕ) (p : Prefix) (o : Option (List Attribute)) (hs : List (ℕ × List Attribute)) → ranks_among t c p (with_holder c o hs) ≡ ranks_among t c p hs
own_left t c p None hs = refl
own_left t c p (Some m) hs = ap (λ o. cons_option o (ranks_among t c p hs)) (own_none t c p m)

-- so no candidate's place is the client
pub not_own : (t : Held) (c : ℕ) (p : Prefix) (h : ℕ × List Attribute) (r : Rank) → rank_to t c p h ≡ Some r → r.place ≢ c
not_own t c p h r is = λ same.
    let k : h.0 ≡ c = sym (rank_place t c p h r is) ∙ same in
    absurd (let f : None ≡ Some r = sym (own_none t c p h.1) ∙ ap (λ n. rank_to t c p (n, h.1)) (sym k) ∙ is in (cc))

places_cons : (c : ℕ) (o : Option Rank) (rest : List Rank) → ((r : Rank) → o ≡ Some r → r.place ≢ c) → AllByRecursion (λ r. r.place ≢ c) rest → AllByRecursion (λ r. r.place ≢ c) (cons_option o rest)
places_cons c None rest is h = h
places_cons c (Some r) rest is h = (is r refl, h)

others : (t : Held) (c : ℕ) (p : Prefix) (hs : List (ℕ × List Attribute)) → AllByRecursion (λ r. r.place ≢ c) (ranks_among t c p hs)
others t c p [] = tt
others t c p (h ∷ hs) = places_cons c (rank_to t c p h) _ (not_own t c p h) (others t c p hs)

best_other : (t : Held) (c : ℕ) (p : Prefix) (hs : List (ℕ × List Attribute)) (r : Rank) → best_of (ranks_among t c p hs) ≡ Some r → r.place ≢ c
best_other t c p hs r is =
    let member : Contains (ranks_among t c p hs) r = (best_is_unbeaten (ranks_among t c p hs) r is).member in
    subst (λ (s : Rank). s.place ≢ c) member.2 (All-from_recursion (λ s. s.place ≢ c) (ranks_among t c p hs) (others t c p hs) member.0 r member.1)

-- ---- two tables by the same rules

module _ (settings : Configuration) (count c : ℕ) (p : Prefix) (held has : ℕ → Prefix → Option (List Attribute)) (id ident : ℕ → ℕ)
    (same : (d : ℕ) → d ≢ c → held d p ≡ has d p) (known : (d : ℕ) → d ≢ c → id d ≡ ident d) where
  abbrev one : Held
  one = record { settings = settings; count = count; held = held; identifier = id }

  abbrev two : Held
  two = record { settings = settings; count = count; held = has; identifier = ident }

  rank_alike : (k : ℕ) (m : List Attribute) (j : Judgement) → id k ≡ ident k → rank_by one k m j ≡ rank_by two k m j
  rank_alike k m dropped e = refl
  rank_alike k m (passed preference taken) e = λ i. Some (record {
    preference = preference;
    path_len = path_length_of m;
    origin = unwrap_or (origin_of m) 0;
    med = med_of m;
    neighbour = (client_of settings k).client_as;
    identifier = e i;
    address = (client_of settings k).peer;
    place = k;
  })

  candidate_alike : (k : ℕ) (m : List Attribute) → k ≢ c → rank_to one c p (k, m) ≡ rank_to two c p (k, m)
  candidate_alike k m other = ap (cond ((k == c) || path_has_of settings.top.server_as m) None) (rank_alike k m (verdict settings k c p m) (known k other))

  other_left : (k : ℕ) (o : Option (List Attribute)) (hs gs : List (ℕ × List Attribute)) → k ≢ c → ranks_among one c p hs ≡ ranks_among two c p gs → ranks_among one c p (with_holder k o hs) ≡ ranks_among two c p (with_holder k o gs)
  other_left k None hs gs other rest = rest
  other_left k (Some m) hs gs other rest = λ i. cons_option (candidate_alike k m other i) (rest i)

  own_here : (k : ℕ) → k ≡ c → (hs gs : List (ℕ × List Attribute)) (o q : Option (List Attribute)) → ranks_among one c p hs ≡ ranks_among two c p gs → ranks_among one c p (with_holder k o hs) ≡ ranks_among two c p (with_holder k q gs)
  own_here k e hs gs o q rest =
      ap (λ d. ranks_among one c p (with_holder d o hs)) e ∙ own_left one c p o hs ∙ rest
      ∙ sym (own_left two c p q gs) ∙ ap (λ d. ranks_among two c p (with_holder d q gs)) (sym e)

  next_alike : (k : ℕ) (hs gs : List (ℕ × List Attribute)) → (k ≡ c) ⊎ (k ≢ c) → ranks_among one c p hs ≡ ranks_among two c p gs → ranks_among one c p (with_holder k (held k p) hs) ≡ ranks_among two c p (with_holder k (has k p) gs)
  next_alike k hs gs (inl e) rest = own_here k e hs gs (held k p) (has k p) rest
  next_alike k hs gs (inr other) rest = other_left k (held k p) hs gs other rest ∙ ap (λ o. ranks_among two c p (with_holder k o gs)) (same k other)

  ranks_alike : (k n : ℕ) → ranks_among one c p (holders_from (λ d. held d p) k n) ≡ ranks_among two c p (holders_from (λ d. has d p) k n)
  ranks_alike k zero = refl
  ranks_alike k (suc n) = next_alike k (holders_from (λ d. held d p) (suc k) n) (holders_from (λ d. has d p) (suc k) n) (cases_eq k c) (ranks_alike (suc k) n)

  from_alike : (speech : Speech) (best : Option Rank) → ((r : Rank) → best ≡ Some r → r.place ≢ c)
      → option_and_then (λ best. route_from one c speech p best.place) best ≡ option_and_then (λ best. route_from two c speech p best.place) best
  from_alike speech None other = refl
  from_alike speech (Some r) other =
      ap (λ o. option_and_then (if_fits speech p) (option_and_then (λ m. passed_on m (verdict settings r.place c p m)) o)) (same r.place (other r refl))

  same_due : (speech : Speech) → due_to one c speech p ≡ due_to two c speech p
  same_due speech =
      from_alike speech (best_of (ranks_among one c p (holders_at one p))) (best_other one c p (holders_at one p))
      ∙ ap (λ rs. option_and_then (λ best. route_from two c speech p best.place) (best_of rs)) (ranks_alike 0 count)

pub due_is_alike : DueIsAlike
due_is_alike c t u a speech p =
    same_due t.settings t.count c p t.held u.held t.identifier u.identifier (λ d other. a.held d other p) a.identifier speech
    ∙ (λ i. due_to (record { settings = a.settings i; count = a.count i; held = u.held; identifier = u.identifier }) c speech p)
