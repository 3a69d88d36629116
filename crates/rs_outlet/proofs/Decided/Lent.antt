-- A client with a route of its own has the choice of those without one, where that is another's and no other holder is of its AS.
use Rattle.std.proofs.Common.{◌≡◌, ◌≢◌, ◌<◌, ◌⊎◌, Bool, true, false, ℕ, Option, None, Some, List, [], ◌∷◌, length, inl, inr, refl, subst, sym, ap, ◌∙◌}
use Rattle.std.specs.Prelude.{Contains, unwrap_or, if◌then◌else◌}
use Rattle.std.specs.List.{All, AllPairs, cons_option, filter_map}
use Rattle.std.proofs.lemmas.List.Elements.{All-from_recursion, recursion_from_All}
use Rattle.std.proofs.lemmas.Bool.{cases_eq}
use Rattle.rs_octets.specs.Prefixes.{Prefix}
use Rattle.rs_octets.proofs.Members.{Has, contains, has}
use Rattle.rs_attrs.specs.Meaning.{Attribute}
use Rattle.rs_policy.specs.Configuration.{client_of}
use Rattle.rs_policy.specs.Verdicts.{Judgement, dropped, passed}
use Rattle.rs_decision.specs.Best.{NoneLosesTo}
use Rattle.rs_decision.specs.Choice.{best_of}
use Rattle.rs_decision.specs.declared.rank.Rank.{Rank}
use Rattle.rs_decision.proofs.Chosen.{best_stays_without}
use Rattle.rs_outlet.specs.Decided.Choices.{AreJudgedAlike, IsAloneOfItsAs, chosen}
use Rattle.rs_outlet.specs.Decided.Due.{Held, holders_at, rank_by, rank_of, rank_to, ranks_among}
use Rattle.rs_outlet.proofs.Decided.OthersAlone.{not_own}
use Rattle.rs_outlet.proofs.Decided.Ranks.{distinct_places, rank_place}
use Rattle.rs_outlet.proofs.Decided.Shared.{chosen_by, not_it, rank_alike, same_choice}

-- ---- the routes behind ranks

-- one of these holders has this rank
abbrev IsRankOf : (ℕ × List Attribute → Option Rank) → List (ℕ × List Attribute) → Rank → Type 0
IsRankOf f hs s = (h : ℕ × List Attribute) × (Has hs h × (f h ≡ Some s))

ranked_cons : (f : ℕ × List Attribute → Option Rank) (h : ℕ × List Attribute) (hs : List (ℕ × List Attribute)) (s : Rank) → (Has (filter_map f hs) s → IsRankOf f hs s)
    → (o : Option Rank) → f h ≡ o → Has (cons_option o (filter_map f hs)) s → IsRankOf f (h ∷ hs) s
ranked_cons f h hs s rest None is here = let r : IsRankOf f hs s = rest here in (r.0, (inr r.1.0, r.1.1))
ranked_cons f h hs s rest (Some r) is (inl same) = (h, (inl refl, is ∙ ap (λ x. Some x) same))
ranked_cons f h hs s rest (Some r) is (inr here) = let r : IsRankOf f hs s = rest here in (r.0, (inr r.1.0, r.1.1))

ranked : (f : ℕ × List Attribute → Option Rank) (hs : List (ℕ × List Attribute)) (s : Rank) → Has (filter_map f hs) s → IsRankOf f hs s
ranked f [] s here = absurd here
ranked f (h ∷ hs) s here = ranked_cons f h hs s (ranked f hs s) (f h) refl here

has_behind : (o : Option Rank) (ranks : List Rank) (s : Rank) → Has ranks s → Has (cons_option o ranks) s
has_behind None ranks s here = here
has_behind (Some r) ranks s here = inr here

has_rank : (f : ℕ × List Attribute → Option Rank) (hs : List (ℕ × List Attribute)) (h : ℕ × List Attribute) (s : Rank) → Has hs h → f h ≡ Some s → Has (filter_map f hs) s
has_rank f [] h s here is = absurd here
has_rank f (g ∷ hs) h s (inl same) is = subst (λ o. Has (cons_option o (filter_map f hs)) s) (sym (ap f same ∙ is)) (inl refl)
has_rank f (g ∷ hs) h s (inr here) is = has_behind (f g) (filter_map f hs) s (has_rank f hs h s here is)

of_member : {X : Type 0} (P : X → Type 0) (xs : List X) (x : X) → All P xs → Has xs x → P x
of_member P xs x all here = let at : Contains xs x = contains xs x here in subst P at.2 (all at.0 x at.1)

-- ---- a rank's neighbouring AS is its sender's

neighbour_by : (t : Held) (from : ℕ) (m : List Attribute) (j : Judgement) (r : Rank) → rank_by t from m j ≡ Some r → r.neighbour ≡ (client_of t.settings from).client_as
neighbour_by t from m dropped r e = cc e
neighbour_by t from m (passed preference taken) r e = sym (ap (λ o. (unwrap_or o r).neighbour) e)

neighbour_if : (b : Bool) (t : Held) (from : ℕ) (m : List Attribute) (j : Judgement) (r : Rank) → (if b then None else rank_by t from m j) ≡ Some r → r.neighbour ≡ (client_of t.settings from).client_as
neighbour_if true t from m j r e = cc e
neighbour_if false t from m j r e = neighbour_by t from m j r e

rank_neighbour : (t : Held) (c : ℕ) (p : Prefix) (h : ℕ × List Attribute) (r : Rank) → rank_to t c p h ≡ Some r → r.neighbour ≡ (client_of t.settings h.0).client_as
rank_neighbour t c p h r e = neighbour_if _ t h.0 h.1 _ r e

-- ---- the client's own rank among those of a client c without a route

module _ (t : Held) (c d : ℕ) (p : Prefix) (hs : List (ℕ × List Attribute)) (own : List Attribute) (alike : AreJudgedAlike t c d) (none : t.held c p ≡ None) (holds : t.held d p ≡ Some own)
    (known : All (λ h. h.0 < length t.settings.clients) hs) (each : All (λ h. t.held h.0 p ≡ Some h.1) hs) (alone : IsAloneOfItsAs t d hs) where
  others_alike : (h : ℕ × List Attribute) → Has hs h → h.0 ≢ d → rank_to t c p h ≡ rank_to t d p h
  others_alike h here other =
      rank_alike t c d p h alike (of_member (λ h. h.0 < length t.settings.clients) hs h known here)
      (not_it (λ k. t.held k p) h.0 c h.1 (of_member (λ h. t.held h.0 p ≡ Some h.1) hs h each here) none) other

  -- where its route is no candidate, a rank that none has stands for it
  abbrev own_rank : Option Rank → Rank
  own_rank o = unwrap_or o (rank_of t d own 0)

  own_place : (o : Option Rank) → rank_to t c p (d, own) ≡ o → (own_rank o).place ≡ d
  own_place None is = refl
  own_place (Some r) is = rank_place t c p (d, own) r is

  own_neighbour : (o : Option Rank) → rank_to t c p (d, own) ≡ o → (own_rank o).neighbour ≡ (client_of t.settings d).client_as
  own_neighbour None is = refl
  own_neighbour (Some r) is = rank_neighbour t c p (d, own) r is

  own_route : (h : ℕ × List Attribute) → Has hs h → h.0 ≡ d → h.1 ≡ own
  own_route h here same =
      ap (λ o. unwrap_or o own) (sym (of_member (λ h. t.held h.0 p ≡ Some h.1) hs h each here) ∙ ap (λ k. t.held k p) same ∙ holds)

  within : (s : Rank) → Contains (ranks_among t d p hs) s → Contains (ranks_among t c p hs) s
  within s member =
      let r : IsRankOf (rank_to t d p) hs s = ranked (rank_to t d p) hs s (has (ranks_among t d p hs) s member) in
      let other : r.0.0 ≢ d = λ same. not_own t d p r.0 s r.1.1 (rank_place t d p r.0 s r.1.1 ∙ same) in
      contains (ranks_among t c p hs) s (has_rank (rank_to t c p) hs r.0 s r.1.0 (others_alike r.0 r.1.0 other ∙ r.1.1))

  is_own : (o : Option Rank) → rank_to t c p (d, own) ≡ o → (h : ℕ × List Attribute) (s : Rank) → Has hs h → h.0 ≡ d → rank_to t c p h ≡ Some s → s ≡ own_rank o
  is_own o is h s here same ranks =
      ap (λ o. unwrap_or o s) (sym ranks ∙ (λ i. rank_to t c p (same i, own_route h here same i)) ∙ is) ∙ at_own o (sym is ∙ sym (λ i. rank_to t c p (same i, own_route h here same i)) ∙ ranks)
    where
      at_own : (o : Option Rank) → o ≡ Some s → unwrap_or o s ≡ own_rank o
      at_own None e = absurd (cc e)
      at_own (Some r) e = refl

  all_of : (o : Option Rank) → rank_to t c p (d, own) ≡ o → (s : Rank) → Contains (ranks_among t c p hs) s → (s ≡ own_rank o) ⊎ Contains (ranks_among t d p hs) s
  all_of o is s member =
      let r : IsRankOf (rank_to t c p) hs s = ranked (rank_to t c p) hs s (has (ranks_among t c p hs) s member) in
      elim (cases_eq r.0.0 d) [
        | inl same ↦ inl (is_own o is r.0 s r.1.0 same r.1.1)
        | inr other ↦ inr (contains (ranks_among t d p hs) s (has_rank (rank_to t d p) hs r.0 s r.1.0 (sym (others_alike r.0 r.1.0 other) ∙ r.1.1)))
      ]

  none_loses : (o : Option Rank) → rank_to t c p (d, own) ≡ o → NoneLosesTo (own_rank o) (ranks_among t d p hs)
  none_loses o is s member level near =
      let r : IsRankOf (rank_to t d p) hs s = ranked (rank_to t d p) hs s (has (ranks_among t d p hs) s member) in
      let other : r.0.0 ≢ d = λ same. not_own t d p r.0 s r.1.1 (rank_place t d p r.0 s r.1.1 ∙ same) in
      absurd (of_member (λ h. h.0 ≢ d → (client_of t.settings h.0).client_as ≢ (client_of t.settings d).client_as) hs r.0 alone r.1.0 other
      (sym (rank_neighbour t d p r.0 s r.1.1) ∙ sym near ∙ own_neighbour o is))

  best_without : (best : Rank) → AllPairs (λ g h. g.0 < h.0) hs → best_of (ranks_among t c p hs) ≡ Some best → best.place ≢ d → best_of (ranks_among t d p hs) ≡ Some best
  best_without best up is other =
      let x = own_rank (rank_to t c p (d, own)) in
      best_stays_without (ranks_among t c p hs) (ranks_among t d p hs) x best (distinct_places t d p hs up)
      (record { within = within; all = all_of (rank_to t c p (d, own)) refl })
      is
      (λ same. other (same ∙ own_place (rank_to t c p (d, own)) refl))
      (none_loses (rank_to t c p (d, own)) refl)

lent_choice : (t : Held) (c d : ℕ) (p : Prefix) (hs : List (ℕ × List Attribute)) (own : List Attribute) (k : ℕ) → hs ≡ holders_at t p → AreJudgedAlike t c d → t.held c p ≡ None → t.held d p ≡ Some own
    → All (λ h. h.0 < length t.settings.clients) hs → All (λ h. t.held h.0 p ≡ Some h.1) hs → AllPairs (λ g h. g.0 < h.0) hs → IsAloneOfItsAs t d hs → k ≢ d → chosen t c p ≡ Some k → chosen t d p ≡ Some k
lent_choice t c d p hs own k all alike none holds known each up alone other is = by_best (best_of (ranks_among t c p hs)) refl
  where
    by_best : (best : Option Rank) → best_of (ranks_among t c p hs) ≡ best → chosen t d p ≡ Some k
    by_best None found = absurd (let e : None ≡ Some k = sym (chosen_by t c p hs _ None all refl found) ∙ is in (cc))
    by_best (Some r) found =
        let place : Some r.place ≡ Some k = sym (chosen_by t c p hs _ (Some r) all refl found) ∙ is in
        chosen_by t d p hs _ (Some r) all refl
        (best_without t c d p hs own alike none holds known each alone r up found (λ same. other (sym (ap (λ o. unwrap_or o k) place) ∙ same))) ∙ place

-- whether it has a route or not
pub choice_of_others : (t : Held) (c d : ℕ) (p : Prefix) (hs : List (ℕ × List Attribute)) (k : ℕ) → hs ≡ holders_at t p → AreJudgedAlike t c d → t.held c p ≡ None → All (λ h. h.0 < length t.settings.clients) hs
    → All (λ h. t.held h.0 p ≡ Some h.1) hs → AllPairs (λ g h. g.0 < h.0) hs → IsAloneOfItsAs t d hs → k ≢ d → chosen t c p ≡ Some k → chosen t d p ≡ Some k
choice_of_others t c d p hs k all alike none known each up alone other is = by_held (t.held d p) refl
  where
    by_held : (own : Option (List Attribute)) → t.held d p ≡ own → chosen t d p ≡ Some k
    by_held None held = sym (same_choice t c d p hs all alike none held known each) ∙ is
    by_held (Some own) held = lent_choice t c d p hs own k all alike none held known each up alone other is

-- one more holder
pub alone_with : (t : Held) (c : ℕ) (h : ℕ × List Attribute) (hs : List (ℕ × List Attribute)) → (h.0 ≢ c → (client_of t.settings h.0).client_as ≢ (client_of t.settings c).client_as) → IsAloneOfItsAs t c hs → IsAloneOfItsAs t c (h ∷ hs)
alone_with t c h hs this rest =
    let P = λ (h : ℕ × List Attribute). h.0 ≢ c → (client_of t.settings h.0).client_as ≢ (client_of t.settings c).client_as in
    All-from_recursion P (h ∷ hs) (this, recursion_from_All P hs rest)
