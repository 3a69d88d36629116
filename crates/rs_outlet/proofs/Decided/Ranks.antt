-- The ranks of candidates have distinct places, and the route of a place is what its sender holds.
use Rattle.std.proofs.Common.{◌≡◌, ◌<◌, ◌≤◌, ℕ, zero, suc, nat_lt, Bool, true, false, not, cond, ◌==◌, ◌&&◌, ◌||◌, Option, None, Some, List, [], ◌∷◌, ◌++◌, append_assoc, length, map, refl, sym, ap, ◌∙◌, subst, arith}
use Rattle.std.proofs.lemmas.Bool.Decides.{nat_tests}
use Rattle.std.proofs.lemmas.Option.{slice_get_read}
use Rattle.std.specs.Prelude.{unwrap_or, option_and_then, slice_get, slice_index_or, if◌then◌else◌}
use Rattle.std.specs.List.{All, AllByRecursion, AllPairs, cons_option, list_any}
use Rattle.std.proofs.lemmas.List.Elements.{All-from_recursion, recursion_from_All}
use Rattle.std.proofs.Math.Bool.{and-false}
use Rattle.rs_octets.specs.Prefixes.{Prefix}
use Rattle.rs_attrs.specs.Meaning.{Attribute}
use Rattle.rs_adjin.specs.Listing.{holders_from, with_holder}
use Rattle.rs_adjin.specs.Routes.{value_in}
use Rattle.rs_policy.specs.Verdicts.{Judgement, dropped, passed, verdict}
use Rattle.rs_decision.specs.Choice.{best_of, by_address, by_identifier, by_med, by_origin, by_path, by_place, by_preference, med_of, unbeaten}
use Rattle.rs_adjin.specs.declared.adj_ins.AdjIns.{AdjIns}
use Rattle.rs_adjin.specs.AdjIns.{client_count, held_of, number_of}
use Rattle.rs_adjin.specs.Numbering.{routes_by}
use Rattle.rs_policy.specs.Configuration.{Configuration}
use Rattle.rs_outlet.specs.Decided.HeldBy.{tables_of}
use Rattle.rs_decision.specs.Best.{HasDistinctPlaces}
use Rattle.rs_decision.specs.declared.rank.Rank.{Rank}
use Rattle.rs_outlet.specs.declared.answers.Speech.{Speech}
use Rattle.rs_outlet.specs.Decided.Passing.{due_alone, is_kept_back}
use Rattle.rs_outlet.specs.Decided.Due.{Held, any_holds, rank_by, rank_of, rank_to, ranks_among, holders_at, passed_on, if_fits, route_from, due_to}

place_by : (t : Held) (from : ℕ) (m : List Attribute) (j : Judgement) (r : Rank) → rank_by t from m j ≡ Some r → r.place ≡ from
place_by t from m dropped r e = cc e
place_by t from m (passed preference taken) r e = sym (ap (λ o. (unwrap_or o r).place) e)

place_if : (b : Bool) (t : Held) (from : ℕ) (m : List Attribute) (j : Judgement) (r : Rank) → (if b then None else rank_by t from m j) ≡ Some r → r.place ≡ from
place_if true t from m j r e = cc e
place_if false t from m j r e = place_by t from m j r e

pub rank_place : (t : Held) (c : ℕ) (p : Prefix) (h : ℕ × List Attribute) (r : Rank) → rank_to t c p h ≡ Some r → r.place ≡ h.0
rank_place t c p h r e = place_if _ t h.0 h.1 _ r e

each_cons : (P : ℕ → Type 0) (from : ℕ) (o : Option Rank) (rest : List Rank) → ((r : Rank) → o ≡ Some r → r.place ≡ from) → P from → AllByRecursion (λ r. P r.place) rest → AllByRecursion (λ r. P r.place) (cons_option o rest)
each_cons P from None rest is h hs = hs
each_cons P from (Some r) rest is h hs = (subst P (sym (is r refl)) h, hs)

-- what holds of the holders holds of the ranks' places
pub each_place : (P : ℕ → Type 0) (t : Held) (c : ℕ) (p : Prefix) (hs : List (ℕ × List Attribute)) → AllByRecursion (λ h. P h.0) hs → AllByRecursion (λ r. P r.place) (ranks_among t c p hs)
each_place P t c p [] all = tt
each_place P t c p (h ∷ hs) all = each_cons P h.0 (rank_to t c p h) _ (λ rank e. rank_place t c p h rank e) all.0 (each_place P t c p hs all.1)

-- one more of the holders is ranked, or is no candidate
pub taken_some : (t : Held) (c : ℕ) (p : Prefix) (all done new : List Rank) (hs rest : List (ℕ × List Attribute)) (h : ℕ × List Attribute) (r : Rank) → hs ≡ h ∷ rest → all ≡ done ++ ranks_among t c p hs → rank_to t c p h ≡ Some r → new ≡ done ++ r ∷ []
    → all ≡ new ++ ranks_among t c p rest
taken_some t c p all done new hs rest h r is so found pushed =
    so ∙ ap (λ hs. done ++ ranks_among t c p hs) is ∙ ap (λ o. done ++ cons_option o (ranks_among t c p rest)) found
    ∙ sym (append_assoc done (r ∷ []) (ranks_among t c p rest)) ∙ ap (λ l. l ++ ranks_among t c p rest) (sym pushed)

pub taken_none : (t : Held) (c : ℕ) (p : Prefix) (all done : List Rank) (hs rest : List (ℕ × List Attribute)) (h : ℕ × List Attribute) → hs ≡ h ∷ rest → all ≡ done ++ ranks_among t c p hs → rank_to t c p h ≡ None → all ≡ done ++ ranks_among t c p rest
taken_none t c p all done hs rest h is so none = so ∙ ap (λ hs. done ++ ranks_among t c p hs) is ∙ ap (λ o. done ++ cons_option o (ranks_among t c p rest)) none

abbrev Rising : List (ℕ × List Attribute) → Type 0
Rising [] = Unit {0}
Rising (h ∷ hs) = AllByRecursion (λ (g : ℕ × List Attribute). h.0 < g.0) hs × Rising hs

rising : (hs : List (ℕ × List Attribute)) → AllPairs (λ g h. g.0 < h.0) hs → Rising hs
rising [] up = tt
rising (h ∷ hs) up = (
  recursion_from_All (λ (g : ℕ × List Attribute). h.0 < g.0) hs (λ k d below. up 0 (suc k) d (omega arith) (omega (arith, below))),
  rising hs (λ i j d before below. up (suc i) (suc j) d (omega (arith, before)) (omega (arith, below))),
)

abbrev Apart : List Rank → Type 0
Apart [] = Unit {0}
Apart (r ∷ rs) = AllByRecursion (λ s. r.place < s.place) rs × Apart rs

apart_cons : (from : ℕ) (o : Option Rank) (rest : List Rank) → ((r : Rank) → o ≡ Some r → r.place ≡ from) → AllByRecursion (λ s. from < s.place) rest → Apart rest → Apart (cons_option o rest)
apart_cons from None rest is above h = h
apart_cons from (Some r) rest is above h = (subst (λ n. AllByRecursion (λ s. n < s.place) rest) (sym (is r refl)) above, h)

apart_ranks : (t : Held) (c : ℕ) (p : Prefix) (hs : List (ℕ × List Attribute)) → Rising hs → Apart (ranks_among t c p hs)
apart_ranks t c p [] up = tt
apart_ranks t c p (h ∷ hs) up =
    apart_cons h.0 (rank_to t c p h) _ (λ rank e. rank_place t c p h rank e) (each_place (λ n. h.0 < n) t c p hs up.0) (apart_ranks t c p hs up.1)

distinct : (rs : List Rank) → Apart rs → HasDistinctPlaces rs
distinct [] h i j d up below = absurd (omega (arith, below))
distinct (r ∷ rs) h zero zero d up below = absurd (omega arith)
distinct (r ∷ rs) h zero (suc j) d up below = λ e. absurd (omega (arith, e, All-from_recursion (λ s. r.place < s.place) rs h.0 j d (omega (arith, below))))
distinct (r ∷ rs) h (suc i) zero d up below = absurd (omega arith)
distinct (r ∷ rs) h (suc i) (suc j) d up below = distinct rs h.1 i j d (omega arith) (omega (arith, below))

-- no two candidates have one place
pub distinct_places : (t : Held) (c : ℕ) (p : Prefix) (hs : List (ℕ × List Attribute)) → AllPairs (λ g h. g.0 < h.0) hs → HasDistinctPlaces (ranks_among t c p hs)
distinct_places t c p hs up = distinct _ (apart_ranks t c p hs (rising hs up))

-- the rank that was read stands among the ranks
pub ranked_at : (ranks again : List Rank) (k : ℕ) (r : Rank) → ranks ≡ again → k < length again → r ≡ slice_index_or again k r → slice_get ranks k ≡ Some r
ranked_at ranks again k r same below is = ap (λ xs. slice_get xs k) same ∙ slice_get_read again _ k r refl below is

-- ---- what is due, by the best of the ranks

abbrev from_best : Held → ℕ → Speech → Prefix → Option Rank → Option (List Attribute)
from_best t c speech p best = option_and_then (λ best. route_from t c speech p best.place) best

by_ranks : (t : Held) (c : ℕ) (speech : Speech) (p : Prefix) (hs : List (ℕ × List Attribute)) (ranks : List Rank) → hs ≡ holders_at t p → ranks ≡ ranks_among t c p hs → due_to t c speech p ≡ from_best t c speech p (best_of ranks)
by_ranks t c speech p hs ranks all is =
    ap (λ hs. from_best t c speech p (best_of (ranks_among t c p hs))) (sym all) ∙ ap (λ ranks. from_best t c speech p (best_of ranks)) (sym is)

pub due_none : (t : Held) (c : ℕ) (speech : Speech) (p : Prefix) (hs : List (ℕ × List Attribute)) (ranks : List Rank) → hs ≡ holders_at t p → ranks ≡ ranks_among t c p hs → best_of ranks ≡ None → None ≡ due_to t c speech p
due_none t c speech p hs ranks all is none = sym (by_ranks t c speech p hs ranks all is ∙ ap (from_best t c speech p) none)

abbrev pub passed_from : Held → ℕ → Speech → Prefix → ℕ → Option (List Attribute) → Option (List Attribute)
passed_from t c speech p from held = option_and_then (if_fits speech p) (option_and_then (λ m. passed_on m (verdict t.settings from c p m)) held)

pub past : (xs : List Rank) (k : ℕ) → length xs ≤ k → slice_get xs k ≡ None
past [] k h = refl
past (x ∷ xs) zero h = absurd (omega (arith, h))
past (x ∷ xs) (suc k) h = past xs k (omega (arith, h))

-- ---- a prefix that nobody holds

none_best : best_of [] ≡ None
unfolding unbeaten
none_best = refl

-- nothing is due there
pub due_unheld : (t : Held) (c : ℕ) (speech : Speech) (p : Prefix) → [] ≡ holders_at t p → due_to t c speech p ≡ None
due_unheld t c speech p none = sym (due_none t c speech p [] [] none refl none_best)

no_holders : (held : ℕ → Option (List Attribute)) (k n : ℕ) → ((d : ℕ) → held d ≡ None) → [] ≡ holders_from held k n
no_holders held k zero none = refl
no_holders held k (suc n) none = no_holders held (suc k) n none ∙ sym (ap (λ o. with_holder k o (holders_from held (suc k) n)) (none k))

-- so at a prefix without a number
unnumbered_held : (ins : AdjIns) (p : Prefix) → number_of ins p ≡ None → (d : ℕ) → held_of ins d p ≡ None
unfolding held_of number_of
unnumbered_held ins p none d = ap (λ o. value_in d (routes_by ins.table.rows.items o)) none

pub due_unnumbered : (config : Configuration) (ins : AdjIns) (c : ℕ) (speech : Speech) (p : Prefix) → number_of ins p ≡ None → due_to (tables_of config ins) c speech p ≡ None
due_unnumbered config ins c speech p none = due_unheld (tables_of config ins) c speech p (no_holders (λ d. held_of ins d p) 0 (client_count ins) (unnumbered_held ins p none))

pub none_holds : (config : Configuration) (ins : AdjIns) (p : Prefix) → number_of ins p ≡ None → any_holds (tables_of config ins) p ≡ false
none_holds config ins p none = ap (list_any (λ h. true)) (sym (no_holders (λ d. held_of ins d p) 0 (client_count ins) (unnumbered_held ins p none)))

-- ---- what is due where one client alone holds the prefix

not_less : (n : ℕ) → nat_lt n n ≡ false
not_less n = grind (arith, nat_tests)

unbeaten_alone : (is_better : Rank → Rank → Bool) (r : Rank) → is_better r r ≡ false → unbeaten is_better (r ∷ []) ≡ r ∷ []
unfolding unbeaten
unbeaten_alone is_better r h = ap (λ b. cond (not (b || false)) (r ∷ []) []) h

best_of_one : (r : Rank) → best_of (r ∷ []) ≡ Some r
best_of_one r =
    let one = unbeaten_alone in
    let f1 : by_preference (r ∷ []) ≡ r ∷ [] = one _ r (not_less r.preference) in
    let f2 : by_path (r ∷ []) ≡ r ∷ [] = ap (unbeaten (λ a b. nat_lt a.path_len b.path_len)) f1 ∙ one _ r (not_less r.path_len) in
    let f3 : by_origin (r ∷ []) ≡ r ∷ [] = ap (unbeaten (λ a b. nat_lt a.origin b.origin)) f2 ∙ one _ r (not_less r.origin) in
    let f4 : by_med (r ∷ []) ≡ r ∷ [] = ap (unbeaten (λ a b. (a.neighbour == b.neighbour) && nat_lt (med_of a) (med_of b))) f3 ∙ one _ r (ap (λ b. (r.neighbour == r.neighbour) && b) (not_less (med_of r)) ∙ and-false _) in
    let f5 : by_identifier (r ∷ []) ≡ r ∷ [] = ap (unbeaten (λ a b. nat_lt a.identifier b.identifier)) f4 ∙ one _ r (not_less r.identifier) in
    let f6 : by_address (r ∷ []) ≡ r ∷ [] = ap (unbeaten (λ a b. nat_lt a.address b.address)) f5 ∙ one _ r (not_less r.address) in
    let f7 : by_place (r ∷ []) ≡ r ∷ [] = ap (unbeaten (λ a b. nat_lt a.place b.place)) f6 ∙ one _ r (not_less r.place) in
    ap (λ rs. slice_get rs 0) f7

alone_by : (t : Held) (c : ℕ) (speech : Speech) (p : Prefix) (h : ℕ × List Attribute) (j : Judgement) → verdict t.settings h.0 c p h.1 ≡ j → t.held h.0 p ≡ Some h.1
    → from_best t c speech p (best_of (cons_option (rank_by t h.0 h.1 j) [])) ≡ option_and_then (if_fits speech p) (passed_on h.1 j)
alone_by t c speech p h dropped is held = ap (from_best t c speech p) none_best
alone_by t c speech p h (passed preference taken) is held =
    ap (from_best t c speech p) (best_of_one (rank_of t h.0 h.1 preference)) ∙ ap (passed_from t c speech p h.0) held
    ∙ ap (λ j. option_and_then (if_fits speech p) (passed_on h.1 j)) is

pub alone_is_due : (t : Held) (c : ℕ) (speech : Speech) (p : Prefix) (h : ℕ × List Attribute) → h ∷ [] ≡ holders_at t p → t.held h.0 p ≡ Some h.1 → due_alone t c speech p h ≡ due_to t c speech p
alone_is_due t c speech p h all held =
    sym (by_kept (is_kept_back t c h)) ∙ ap (λ hs. from_best t c speech p (best_of (ranks_among t c p hs))) all
  where
    by_kept : (b : Bool) → from_best t c speech p (best_of (cons_option (if b then None else rank_by t h.0 h.1 (verdict t.settings h.0 c p h.1)) [])) ≡ (if b then None else option_and_then (if_fits speech p) (passed_on h.1 (verdict t.settings h.0 c p h.1)))
    by_kept true = ap (from_best t c speech p) none_best
    by_kept false = alone_by t c speech p h _ refl held

-- one holder alone
pub one_alone : {X : Type 0} (xs : List X) (x : X) (rest : List X) (n : ℕ) → xs ≡ x ∷ rest → n ≡ length xs → n ≡ 1 → xs ≡ x ∷ []
one_alone xs x [] n is counted one = is
one_alone xs x (y ∷ rest) n is counted one =
    let long : n ≡ suc (suc (length rest)) = counted ∙ ap length is in
    absurd (grind (arith, nat_tests, long, one))

pub held_alone : (ins : AdjIns) (p : Prefix) (h : ℕ × List Attribute) → All (λ h. held_of ins h.0 p ≡ Some h.1) (h ∷ []) → held_of ins h.0 p ≡ Some h.1
held_alone ins p h each = (recursion_from_All (λ h. held_of ins h.0 p ≡ Some h.1) (h ∷ []) each).0

-- ---- routes without their notes

abbrev pub sent : List ((ℕ × List Attribute) × ℕ) → List (ℕ × List Attribute)
sent holders = map (λ h. h.0) holders

-- their senders are clients that there are
pub senders_known : (n m : ℕ) (holders : List ((ℕ × List Attribute) × ℕ)) → n ≡ m → All (λ h. h.0 < n) (sent holders) → All (λ h. h.0.0 < m) holders
senders_known n m holders same known =
    subst (λ k. All (λ h. h.0.0 < k) holders) same (All-from_recursion (λ h. h.0.0 < n) holders (each_sender n holders (recursion_from_All (λ h. h.0 < n) (sent holders) known)))
  where
    each_sender : (n : ℕ) (holders : List ((ℕ × List Attribute) × ℕ)) → AllByRecursion (λ h. h.0 < n) (sent holders) → AllByRecursion (λ h. h.0.0 < n) holders
    each_sender n [] known = tt
    each_sender n (h ∷ holders) known = (known.0, each_sender n holders known.1)

-- no holder
pub none_left : {X : Type 0} (xs : List X) → (length xs == 0) ≡ true → xs ≡ []
none_left [] is = refl
none_left (x ∷ xs) is = absurd (grind (arith, nat_tests, is))
