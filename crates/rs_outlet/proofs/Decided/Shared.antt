-- Clients without a route for a prefix, for whom the rules judge alike, have one choice there.
use Rattle.std.proofs.Common.{◌≡◌, ◌≢◌, ◌<◌, ◌==◌, ◌||◌, ℕ, false, cond, Option, None, Some, List, [], ◌∷◌, ◌++◌, length, inl, inr, option_map, refl, subst, sym, ap, ◌∙◌, arith}
use Rattle.std.specs.Prelude.{Contains, option_and_then, unwrap_or}
use Rattle.std.specs.List.{All, AllByRecursion, cons_option}
use Rattle.std.proofs.lemmas.Bool.Decides.{nat_tests}
use Rattle.std.proofs.lemmas.List.Elements.{All-from_recursion, recursion_from_All}
use Rattle.rs_octets.specs.Prefixes.{Prefix}
use Rattle.rs_attrs.specs.Meaning.{Attribute}
use Rattle.rs_attrs.specs.Getters.{path_has_of}
use Rattle.rs_policy.specs.Verdicts.{verdict}
use Rattle.rs_decision.proofs.Chosen.{best_is_unbeaten}
use Rattle.rs_decision.specs.Choice.{best_of}
use Rattle.rs_decision.specs.declared.rank.Rank.{Rank}
use Rattle.rs_outlet.specs.declared.answers.Speech.{Speech}
use Rattle.rs_outlet.specs.Decided.Due.{Held, due_to, holders_at, rank_by, rank_to, ranks_among, route_from}
use Rattle.rs_outlet.proofs.Decided.Ranks.{each_place, passed_from}
use Rattle.rs_adjin.specs.declared.adj_ins.AdjIns.{AdjIns}
use Rattle.rs_outlet.specs.declared.choices.Choice.{Choice}
use Rattle.rs_outlet.specs.Decided.Choices.{AreChoices, AreJudgedAlike, IsChoice, MayKeep, chosen}

-- the choice is that of the ranks
pub chosen_by : (t : Held) (c : ℕ) (p : Prefix) (hs : List (ℕ × List Attribute)) (ranks : List Rank) (best : Option Rank) → hs ≡ holders_at t p → ranks ≡ ranks_among t c p hs → best_of ranks ≡ best
    → chosen t c p ≡ option_map (λ (r : Rank). r.place) best
chosen_by t c p hs ranks best all is found =
    ap (λ hs. option_map (λ (r : Rank). r.place) (best_of (ranks_among t c p hs))) (sym all)
    ∙ ap (λ ranks. option_map (λ (r : Rank). r.place) (best_of ranks)) (sym is) ∙ ap (option_map (λ (r : Rank). r.place)) found

differs : (a c : ℕ) → a ≢ c → (a == c) ≡ false
differs a c other = grind (arith, nat_tests, other)

-- who holds nothing is none of the holders
pub not_it : {X : Type 0} (held : ℕ → Option X) (a c : ℕ) (m : X) → held a ≡ Some m → held c ≡ None → a ≢ c
not_it held a c m there none = λ same. absurd (let f : None ≡ Some m = sym none ∙ ap held (sym same) ∙ there in (cc))

-- a holder's route is judged alike on its way to both
abbrev pub IsJudgedAlike : Held → ℕ → ℕ → Prefix → ℕ × List Attribute → Type 0
IsJudgedAlike t c d p h = verdict t.settings h.0 c p h.1 ≡ verdict t.settings h.0 d p h.1

rank_same : (t : Held) (c d : ℕ) (p : Prefix) (h : ℕ × List Attribute) → IsJudgedAlike t c d p h → h.0 ≢ c → h.0 ≢ d → rank_to t c p h ≡ rank_to t d p h
rank_same t c d p h same one other = λ i.
    cond (((differs h.0 c one ∙ sym (differs h.0 d other)) i) || path_has_of t.settings.top.server_as h.1) None (rank_by t h.0 h.1 (same i))

pub rank_alike : (t : Held) (c d : ℕ) (p : Prefix) (h : ℕ × List Attribute) → AreJudgedAlike t c d → h.0 < length t.settings.clients → h.0 ≢ c → h.0 ≢ d → rank_to t c p h ≡ rank_to t d p h
rank_alike t c d p h alike known one other = rank_same t c d p h (alike h.0 p h.1 known) one other

pub ranks_same : (t : Held) (c d : ℕ) (p : Prefix) (hs : List (ℕ × List Attribute)) → AllByRecursion (IsJudgedAlike t c d p) hs → t.held c p ≡ None → t.held d p ≡ None
    → AllByRecursion (λ h. t.held h.0 p ≡ Some h.1) hs → ranks_among t c p hs ≡ ranks_among t d p hs
ranks_same t c d p [] same none nor each = refl
ranks_same t c d p (h ∷ hs) same none nor each = λ i.
    cons_option
    (rank_same t c d p h same.0 (not_it (λ k. t.held k p) h.0 c h.1 each.0 none) (not_it (λ k. t.held k p) h.0 d h.1 each.0 nor) i)
    (ranks_same t c d p hs same.1 none nor each.1 i)

all_judged : (t : Held) (c d : ℕ) (p : Prefix) (hs : List (ℕ × List Attribute)) → AreJudgedAlike t c d → AllByRecursion (λ h. h.0 < length t.settings.clients) hs → AllByRecursion (IsJudgedAlike t c d p) hs
all_judged t c d p [] alike known = tt
all_judged t c d p (h ∷ hs) alike known = (alike h.0 p h.1 known.0, all_judged t c d p hs alike known.1)

ranks_alike : (t : Held) (c d : ℕ) (p : Prefix) (hs : List (ℕ × List Attribute)) → AreJudgedAlike t c d → t.held c p ≡ None → t.held d p ≡ None
    → AllByRecursion (λ h. h.0 < length t.settings.clients) hs → AllByRecursion (λ h. t.held h.0 p ≡ Some h.1) hs → ranks_among t c p hs ≡ ranks_among t d p hs
ranks_alike t c d p hs alike none nor known each = ranks_same t c d p hs (all_judged t c d p hs alike known) none nor each

pub same_choice : (t : Held) (c d : ℕ) (p : Prefix) (hs : List (ℕ × List Attribute)) → hs ≡ holders_at t p → AreJudgedAlike t c d → t.held c p ≡ None → t.held d p ≡ None
    → All (λ h. h.0 < length t.settings.clients) hs → All (λ h. t.held h.0 p ≡ Some h.1) hs → chosen t c p ≡ chosen t d p
same_choice t c d p hs all alike none nor known each =
    let f = λ (hs : List (ℕ × List Attribute)) (k : ℕ). option_map (λ (r : Rank). r.place) (best_of (ranks_among t k p hs)) in
    ap (λ hs. f hs c) (sym all)
    ∙ ap (λ ranks. option_map (λ (r : Rank). r.place) (best_of ranks)) (ranks_alike t c d p hs alike none nor (recursion_from_All (λ h. h.0 < length t.settings.clients) hs known) (recursion_from_All (λ h. t.held h.0 p ≡ Some h.1) hs each))
    ∙ ap (λ hs. f hs d) all

one_more : (t : Held) (ins : AdjIns) (choice : Choice) (kept : List Choice) → AreChoices t ins kept → IsChoice t ins choice → AreChoices t ins (kept ++ choice ∷ [])
one_more t ins choice [] are is = (is, tt)
one_more t ins choice (other ∷ kept) are is = (are.0, one_more t ins choice kept are.1 is)

-- one more choice is kept, or none is
pub still_choices : (t : Held) (ins : AdjIns) (choice : Choice) (old new : List Choice) → AreChoices t ins old → IsChoice t ins choice → MayKeep choice old new → AreChoices t ins new
still_choices t ins choice old new are is (inl same) = subst (AreChoices t ins) (sym same) are
still_choices t ins choice old new are is (inr more) = subst (AreChoices t ins) (sym more) (one_more t ins choice old are is)

-- ---- what is due, by the choice

from_choice : (t : Held) (c : ℕ) (speech : Speech) (p : Prefix) (place : ℕ) (m : Option (List Attribute)) (best : Option Rank) → option_map (λ (r : Rank). r.place) best ≡ Some place → t.held place p ≡ m
    → passed_from t c speech p place m ≡ option_and_then (λ best. route_from t c speech p best.place) best
from_choice t c speech p place m None is held = absurd (cc is)
from_choice t c speech p place m (Some r) is held =
    let same : r.place ≡ place = ap (λ o. unwrap_or o place) is in
    ap (passed_from t c speech p place) (sym held) ∙ ap (λ k. passed_from t c speech p k (t.held k p)) (sym same)

pub due_by_choice : (t : Held) (c : ℕ) (speech : Speech) (p : Prefix) (place : ℕ) (m : Option (List Attribute)) → chosen t c p ≡ Some place → t.held place p ≡ m → passed_from t c speech p place m ≡ due_to t c speech p
due_by_choice t c speech p place m is held = from_choice t c speech p place m (best_of (ranks_among t c p (holders_at t p))) is held

nothing_from : (t : Held) (c : ℕ) (speech : Speech) (p : Prefix) (best : Option Rank) → option_map (λ (r : Rank). r.place) best ≡ None → None ≡ option_and_then (λ best. route_from t c speech p best.place) best
nothing_from t c speech p None is = refl
nothing_from t c speech p (Some r) is = absurd (cc is)

pub nothing_due : (t : Held) (c : ℕ) (speech : Speech) (p : Prefix) → chosen t c p ≡ None → None ≡ due_to t c speech p
nothing_due t c speech p is = nothing_from t c speech p (best_of (ranks_among t c p (holders_at t p))) is

-- what holds of each holder holds of the one whose rank is the best
pub best_has : (P : ℕ → Type 0) (t : Held) (c : ℕ) (p : Prefix) (hs : List (ℕ × List Attribute)) (r : Rank) → best_of (ranks_among t c p hs) ≡ Some r → AllByRecursion (λ h. P h.0) hs → P r.place
best_has P t c p hs r found each =
    let ranks = ranks_among t c p hs in
    let member : Contains ranks r = (best_is_unbeaten ranks r found).member in
    subst (λ (s : Rank). P s.place) member.2 (All-from_recursion (λ (s : Rank). P s.place) ranks (each_place P t c p hs each) member.0 r member.1)

-- the sender that is chosen is a client that there is
pub known_choice : (n : ℕ) (t : Held) (c : ℕ) (p : Prefix) (hs : List (ℕ × List Attribute)) (place : ℕ) → hs ≡ holders_at t p → All (λ h. h.0 < n) hs → chosen t c p ≡ Some place → place < n
known_choice n t c p hs place all known is = by_best (best_of (ranks_among t c p (holders_at t p))) refl is
  where
    by_best : (best : Option Rank) → best_of (ranks_among t c p (holders_at t p)) ≡ best → option_map (λ (r : Rank). r.place) best ≡ Some place → place < n
    by_best None found is = absurd (cc is)
    by_best (Some r) found is =
        let ranks = ranks_among t c p (holders_at t p) in
        let member : Contains ranks r = (best_is_unbeaten ranks r found).member in
        let below = each_place (λ k. k < n) t c p (holders_at t p) (recursion_from_All (λ h. h.0 < n) (holders_at t p) (subst (All (λ h. h.0 < n)) all known)) in
        subst (λ k. k < n) (ap (λ o. unwrap_or o place) is) (subst (λ (s : Rank). s.place < n) member.2 (All-from_recursion (λ (s : Rank). s.place < n) ranks below member.0 r member.1))
