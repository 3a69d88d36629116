-- What is due to a client depends on what the others hold alone, and on the identifiers of those that hold something.
use Rattle.std.proofs.Common.{◌≡◌, ◌≢◌, ◌<◌, ◌+◌, arith, inl, inr, ℕ, zero, suc, Bool, true, false, cond, ◌==◌, List, [], ◌∷◌, refl, sym, ◌∙◌, ap, subst, slice_get}
use Rattle.std.specs.Prelude.{◌||◌, Option, Some, None, option_and_then, unwrap_or, if◌then◌else◌}
use Rattle.std.specs.List.{AllByRecursion, filter, cons_option}
use Rattle.rs_octets.specs.Prefixes.{Prefix}
use Rattle.rs_attrs.specs.Meaning.{Attribute}
use Rattle.rs_attrs.specs.Getters.{path_has_of}
use Rattle.rs_adjin.specs.Listing.{holders_from, with_holder}
use Rattle.rs_policy.specs.Configuration.{Configuration}
use Rattle.rs_policy.specs.Verdicts.{Judgement, dropped, passed, verdict}
use Rattle.rs_decision.specs.Choice.{best_of, by_place, unbeaten, by_preference, by_path, by_origin, by_med, by_identifier, by_address}
use Rattle.rs_decision.specs.declared.rank.Rank.{Rank}
use Rattle.rs_outlet.specs.declared.answers.Speech.{Speech}
use Rattle.rs_outlet.specs.Decided.Due.{Held, rank_to, rank_by, ranks_among, route_from, due_to}
use Rattle.rs_core.proofs.Run.Clients.{equal_or, is_own}

abbrev pub held_as : Configuration → ℕ → (ℕ → Prefix → Option (List Attribute)) → (ℕ → ℕ) → Held
held_as s n x f = record { settings = s; count = n; held = x; identifier = f }

-- the same is held, under the same identifier where anything is
pub record IsSameSent (i j : ℕ) (a b : Option (List Attribute)) : Type 0 where
  pub held : a ≡ b
  pub identifier : (m : List Attribute) → a ≡ Some m → i ≡ j

none_of_own : (t : Held) (c : ℕ) (p : Prefix) (k : ℕ) (m : List Attribute) → k ≡ c → rank_to t c p (k, m) ≡ None
none_of_own t c p k m e =
    let b : Bool = path_has_of t.settings.top.server_as m in
    ap (λ o. if o then None else rank_by t k m (verdict t.settings k c p m)) (ap (λ n. (n == c) || b) e ∙ ap (λ o. o || b) (is_own c))

-- the client's own route is no candidate
without : (t : Held) (c : ℕ) (p : Prefix) (k : ℕ) (w : Option (List Attribute)) (others : List (ℕ × List Attribute)) → k ≡ c →
    ranks_among t c p (with_holder k w others) ≡ ranks_among t c p others
without t c p k None others e = refl
without t c p k (Some m) others e = ap (λ o. cons_option o (ranks_among t c p others)) (none_of_own t c p k m e)

with_one : (s : Configuration) (n c : ℕ) (p : Prefix) (f g : ℕ → ℕ) (x y : ℕ → Prefix → Option (List Attribute)) (k : ℕ) (a b : Option (List Attribute)) (hs js : List (ℕ × List Attribute)) → IsSameSent (f k) (g k) a b →
    ranks_among (held_as s n x f) c p hs ≡ ranks_among (held_as s n y g) c p js →
    ranks_among (held_as s n x f) c p (with_holder k a hs) ≡ ranks_among (held_as s n y g) c p (with_holder k b js)
with_one s n c p f g x y k None b hs js it e = subst (λ w. ranks_among (held_as s n x f) c p hs ≡ ranks_among (held_as s n y g) c p (with_holder k w js)) it.held e
with_one s n c p f g x y k (Some m) b hs js it e =
    subst (λ w. ranks_among (held_as s n x f) c p ((k, m) ∷ hs) ≡ ranks_among (held_as s n y g) c p (with_holder k w js)) it.held
    ((λ i. cons_option (ranked (it.identifier m refl i)) (ranks_among (held_as s n x f) c p hs)) ∙ ap (λ rs. cons_option (rank_to (held_as s n y g) c p (k, m)) rs) e) where
      ranked : ℕ → Option Rank
      ranked id = rank_to (held_as s n y (λ d. id)) c p (k, m)

ranks_alike : (s : Configuration) (n c : ℕ) (p : Prefix) (f g : ℕ → ℕ) (x y : ℕ → Prefix → Option (List Attribute)) (k left : ℕ) → k + left ≡ n → ((d : ℕ) → d < n → d ≢ c → IsSameSent (f d) (g d) (x d p) (y d p)) →
    ranks_among (held_as s n x f) c p (holders_from (λ d. x d p) k left) ≡ ranks_among (held_as s n y g) c p (holders_from (λ d. y d p) k left)
ranks_alike s n c p f g x y k zero sum same = refl
ranks_alike s n c p f g x y k (suc left) sum same = elim (equal_or k c) [
  | inl own ↦ without (held_as s n x f) c p k (x k p) (holders_from (λ d. x d p) (suc k) left) own
      ∙ ranks_alike s n c p f g x y (suc k) left (omega (arith, sum)) same
      ∙ sym (without (held_as s n y g) c p k (y k p) (holders_from (λ d. y d p) (suc k) left) own)
  | inr ne ↦ with_one s n c p f g x y k (x k p) (y k p) (holders_from (λ d. x d p) (suc k) left) (holders_from (λ d. y d p) (suc k) left) (same k (omega (arith, sum)) ne)
      (ranks_alike s n c p f g x y (suc k) left (omega (arith, sum)) same)
]

-- ---- no candidate is of the client itself

place_by : (t : Held) (c from : ℕ) (m : List Attribute) (j : Judgement) (r : Rank) → from ≢ c → rank_by t from m j ≡ Some r → r.place ≢ c
place_by t c from m dropped r ne e = absurd (let f : None ≡ Some r = e in (cc))
place_by t c from m (passed preference taken) r ne e = subst (λ k. k ≢ c) (ap (λ o. (unwrap_or o r).place) e) ne

place_to : (t : Held) (c : ℕ) (p : Prefix) (h : ℕ × List Attribute) (b d : Bool) (r : Rank) → (h.0 == c) ≡ b → (if b || d then None else rank_by t h.0 h.1 (verdict t.settings h.0 c p h.1)) ≡ Some r → r.place ≢ c
place_to t c p h true d r is e = absurd (let f : None ≡ Some r = e in (cc))
place_to t c p h false true r is e = absurd (let f : None ≡ Some r = e in (cc))
place_to t c p h false false r is e = place_by t c h.0 h.1 _ r (λ own. absurd (let f : true ≡ false = sym (ap (λ k. k == c) own ∙ is_own c) ∙ is in (cc))) e

abbrev pub AreOthers : ℕ → List Rank → Type 0
AreOthers c rs = AllByRecursion (λ r. r.place ≢ c) rs

others_cons : (c : ℕ) (o : Option Rank) (rs : List Rank) → ((r : Rank) → o ≡ Some r → r.place ≢ c) → AreOthers c rs → AreOthers c (cons_option o rs)
others_cons c None rs is h = h
others_cons c (Some r) rs is h = (is r refl, h)

pub others_among : (t : Held) (c : ℕ) (p : Prefix) (hs : List (ℕ × List Attribute)) → AreOthers c (ranks_among t c p hs)
others_among t c p [] = tt
others_among t c p (h ∷ hs) = others_cons c (rank_to t c p h) (ranks_among t c p hs) (λ r e. place_to t c p h (h.0 == c) (path_has_of t.settings.top.server_as h.1) r refl e) (others_among t c p hs)

kept_by : (P : Rank → Type 0) (b : Bool) (r : Rank) (rs : List Rank) → P r → AllByRecursion P rs → AllByRecursion P (cond b (r ∷ rs) rs)
kept_by P true r rs h hs = (h, hs)
kept_by P false r rs h hs = hs

kept : (P : Rank → Type 0) (f : Rank → Bool) (rs : List Rank) → AllByRecursion P rs → AllByRecursion P (filter f rs)
kept P f [] h = tt
kept P f (r ∷ rs) h = kept_by P (f r) r (filter f rs) h.0 (kept P f rs h.1)

unbeaten_kept : (P : Rank → Type 0) (is_better : Rank → Rank → Bool) (rs : List Rank) → AllByRecursion P rs → AllByRecursion P (unbeaten is_better rs)
unfolding unbeaten
unbeaten_kept P is_better rs h = kept P _ rs h

pub best_kept : (P : Rank → Type 0) (rs : List Rank) → AllByRecursion P rs → AllByRecursion P (by_place rs)
best_kept P rs h =
    unbeaten_kept P _ (by_address rs) (unbeaten_kept P _ (by_identifier rs) (unbeaten_kept P _ (by_med rs) (unbeaten_kept P _ (by_origin rs)
    (unbeaten_kept P _ (by_path rs) (unbeaten_kept P _ (by_preference rs) (unbeaten_kept P _ rs h))))))

pub first_of_all : (P : Rank → Type 0) (rs : List Rank) (r : Rank) → AllByRecursion P rs → slice_get rs 0 ≡ Some r → P r
first_of_all P [] r h e = absurd (let f : None ≡ Some r = e in (cc))
first_of_all P (x ∷ rs) r h e = subst P (ap (λ o. unwrap_or o r) e) h.0

by_best : (s : Configuration) (n c : ℕ) (speech : Speech) (p : Prefix) (f g : ℕ → ℕ) (x y : ℕ → Prefix → Option (List Attribute)) (best : Option Rank) → ((r : Rank) → best ≡ Some r → x r.place p ≡ y r.place p) →
    option_and_then (λ r. route_from (held_as s n x f) c speech p r.place) best ≡ option_and_then (λ r. route_from (held_as s n y g) c speech p r.place) best
by_best s n c speech p f g x y None same = refl
by_best s n c speech p f g x y (Some r) same = ap (λ w. route_from (held_as s n (λ d q. w) f) c speech p r.place) (same r refl)

-- ---- each candidate is one of the clients

place_is_by : (t : Held) (from : ℕ) (m : List Attribute) (j : Judgement) (r : Rank) → rank_by t from m j ≡ Some r → r.place ≡ from
place_is_by t from m dropped r e = absurd (let f : ◌≡◌ {A = Option Rank} None (Some r) = e in (cc))
place_is_by t from m (passed preference taken) r e = sym (ap (λ o. (unwrap_or o r).place) e)

place_is : (t : Held) (c : ℕ) (p : Prefix) (h : ℕ × List Attribute) (b : Bool) (r : Rank) → (if b then None else rank_by t h.0 h.1 (verdict t.settings h.0 c p h.1)) ≡ Some r → r.place ≡ h.0
place_is t c p h true r e = absurd (let f : ◌≡◌ {A = Option Rank} None (Some r) = e in (cc))
place_is t c p h false r e = place_is_by t h.0 h.1 (verdict t.settings h.0 c p h.1) r e

one_below : (n : ℕ) (o : Option Rank) (rs : List Rank) → ((r : Rank) → o ≡ Some r → r.place < n) → AllByRecursion (λ r. r.place < n) rs → AllByRecursion (λ r. r.place < n) (cons_option o rs)
one_below n None rs is h = h
one_below n (Some r) rs is h = (is r refl, h)

pub ranks_below : (t : Held) (c n : ℕ) (p : Prefix) (hs : List (ℕ × List Attribute)) → AllByRecursion (λ h. h.0 < n) hs → AllByRecursion (λ r. r.place < n) (ranks_among t c p hs)
ranks_below t c n p [] below = tt
ranks_below t c n p (h ∷ hs) below = one_below n (rank_to t c p h) (ranks_among t c p hs)
    (λ r e. subst (λ k. k < n) (sym (place_is t c p h ((h.0 == c) || path_has_of t.settings.top.server_as h.1) r e)) below.0) (ranks_below t c n p hs below.1)

held_below : (n k : ℕ) (w : Option (List Attribute)) (hs : List (ℕ × List Attribute)) → k < n → AllByRecursion (λ h. h.0 < n) hs → AllByRecursion (λ h. h.0 < n) (with_holder k w hs)
held_below n k None hs lt below = below
held_below n k (Some m) hs lt below = (lt, below)

pub holders_below : (x : ℕ → Option (List Attribute)) (n k left : ℕ) → k + left ≡ n → AllByRecursion (λ h. h.0 < n) (holders_from x k left)
holders_below x n k zero sum = tt
holders_below x n k (suc left) sum = held_below n k (x k) (holders_from x (suc k) left) (omega (arith, sum)) (holders_below x n (suc k) left (omega (arith, sum)))

-- where all other clients hold the same, the same is due
pub due_below : (s : Configuration) (n c : ℕ) (speech : Speech) (p : Prefix) (f g : ℕ → ℕ) (x y : ℕ → Prefix → Option (List Attribute)) → ((d : ℕ) → d < n → d ≢ c → IsSameSent (f d) (g d) (x d p) (y d p)) →
    due_to (held_as s n x f) c speech p ≡ due_to (held_as s n y g) c speech p
due_below s n c speech p f g x y same =
    let holders : List (ℕ × List Attribute) = holders_from (λ d. x d p) 0 n in
    let ranks : List Rank = ranks_among (held_as s n x f) c p holders in
    let is : ranks ≡ ranks_among (held_as s n y g) c p (holders_from (λ d. y d p) 0 n) = ranks_alike s n c p f g x y 0 n (omega arith) same in
    let others = best_kept (λ r. r.place ≢ c) ranks (others_among (held_as s n x f) c p holders) in
    let below = best_kept (λ r. r.place < n) ranks (ranks_below (held_as s n x f) c n p holders (holders_below (λ d. x d p) n 0 n (omega arith))) in
    by_best s n c speech p f g x y (best_of ranks)
    (λ r e. (same r.place (first_of_all (λ r. r.place < n) (by_place ranks) r below e) (first_of_all (λ r. r.place ≢ c) (by_place ranks) r others e)).held)
    ∙ ap (λ rs. option_and_then (λ r. route_from (held_as s n y g) c speech p r.place) (best_of rs)) is

pub due_alike : (s : Configuration) (n c : ℕ) (speech : Speech) (p : Prefix) (f g : ℕ → ℕ) (x y : ℕ → Prefix → Option (List Attribute)) → ((d : ℕ) → d ≢ c → IsSameSent (f d) (g d) (x d p) (y d p)) →
    due_to (held_as s n x f) c speech p ≡ due_to (held_as s n y g) c speech p
due_alike s n c speech p f g x y same = due_below s n c speech p f g x y (λ d _ ne. same d ne)
