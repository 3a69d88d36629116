-- The client whose route is the best for those without one has the best of the others.
use Rattle.std.proofs.Common.{◌≡◌, ◌≢◌, ◌<◌, ◌==◌, ◌⊎◌, ℕ, true, false, not, cond, Option, None, Some, List, [], ◌∷◌, length, inl, inr, option_map, refl, sym, ap, ◌∙◌, arith}
use Rattle.std.specs.List.{All, AllByRecursion, cons_option}
use Rattle.std.proofs.lemmas.Bool.{cases_eq}
use Rattle.std.proofs.lemmas.Bool.Decides.{nat_tests}
use Rattle.std.proofs.lemmas.List.Elements.{recursion_from_All}
use Rattle.rs_octets.specs.Prefixes.{Prefix}
use Rattle.rs_attrs.specs.Meaning.{Attribute}
use Rattle.rs_decision.specs.Choice.{best_of}
use Rattle.rs_decision.specs.declared.rank.Rank.{Rank}
use Rattle.rs_outlet.specs.Decided.Choices.{AreJudgedAlike, chosen, without}
use Rattle.rs_outlet.specs.Decided.Due.{Held, holders_at, rank_to, ranks_among}
use Rattle.rs_outlet.proofs.Decided.OthersAlone.{own_none}
use Rattle.rs_outlet.proofs.Decided.Ranks.{rank_place}
use Rattle.rs_outlet.proofs.Decided.Shared.{chosen_by, not_it, rank_alike}

is_it : (a d : ℕ) → a ≡ d → not (a == d) ≡ false
is_it a d same = grind (arith, nat_tests, same)

is_other : (a d : ℕ) → a ≢ d → not (a == d) ≡ true
is_other a d other = grind (arith, nat_tests, other)

own_left_out : (d : ℕ) (o : Option Rank) (rest : List Rank) → ((r : Rank) → o ≡ Some r → r.place ≡ d) → without d (cons_option o rest) ≡ without d rest
own_left_out d None rest is = refl
own_left_out d (Some r) rest is = ap (λ b. cond b (r ∷ without d rest) (without d rest)) (is_it r.place d (is r refl))

other_left_in : (d : ℕ) (o : Option Rank) (rest : List Rank) → ((r : Rank) → o ≡ Some r → r.place ≢ d) → without d (cons_option o rest) ≡ cons_option o (without d rest)
other_left_in d None rest is = refl
other_left_in d (Some r) rest is = ap (λ b. cond b (r ∷ without d rest) (without d rest)) (is_other r.place d (is r refl))

module _ (t : Held) (c d : ℕ) (p : Prefix) (alike : AreJudgedAlike t c d) (none : t.held c p ≡ None) where
  one_without : (h : ℕ × List Attribute) (rest rest' : List Rank) → h.0 < length t.settings.clients → t.held h.0 p ≡ Some h.1 → rest' ≡ without d rest → (h.0 ≡ d) ⊎ (h.0 ≢ d)
      → cons_option (rank_to t d p h) rest' ≡ without d (cons_option (rank_to t c p h) rest)
  one_without h rest rest' known held is (inl same) =
      ap (λ o. cons_option o rest') (ap (λ k. rank_to t d p (k, h.1)) same ∙ own_none t d p h.1) ∙ is
      ∙ sym (own_left_out d (rank_to t c p h) rest (λ r ranks. rank_place t c p h r ranks ∙ same))
  one_without h rest rest' known held is (inr other) =
      (λ i. cons_option (sym (rank_alike t c d p h alike known (not_it (λ k. t.held k p) h.0 c h.1 held none) other) i) (is i))
      ∙ sym (other_left_in d (rank_to t c p h) rest (λ r ranks same. other (sym (rank_place t c p h r ranks) ∙ same)))

  ranks_without : (hs : List (ℕ × List Attribute)) → AllByRecursion (λ h. h.0 < length t.settings.clients) hs → AllByRecursion (λ h. t.held h.0 p ≡ Some h.1) hs → ranks_among t d p hs ≡ without d (ranks_among t c p hs)
  ranks_without [] known each = refl
  ranks_without (h ∷ hs) known each = one_without h (ranks_among t c p hs) (ranks_among t d p hs) known.0 each.0 (ranks_without hs known.1 each.1) (cases_eq h.0 d)

  pub next_choice : (hs : List (ℕ × List Attribute)) (ranks : List Rank) (next : Option ℕ) → hs ≡ holders_at t p → All (λ h. h.0 < length t.settings.clients) hs → All (λ h. t.held h.0 p ≡ Some h.1) hs
      → ranks ≡ ranks_among t c p hs → next ≡ option_map (λ (r : Rank). r.place) (best_of (without d ranks)) → chosen t d p ≡ next
  next_choice hs ranks next all known each is found =
      chosen_by t d p hs (without d ranks) _ all
      (ap (without d) is ∙ sym (ranks_without hs (recursion_from_All (λ h. h.0 < length t.settings.clients) hs known) (recursion_from_All (λ h. t.held h.0 p ≡ Some h.1) hs each))) refl
      ∙ sym found
