-- What is touched for a client, from what befell the others since its last turn.
use Rattle.std.proofs.Common.{◌≡◌, ◌⊎◌, inl, inr, ◌||◌, ℕ, zero, suc, Bool, true, false, List, [], ◌∷◌, ◌++◌, refl, sym, ◌∙◌, ap, subst, arith}
use Rattle.std.specs.Prelude.{Option, Some, None, nat_lt, if◌then◌else◌}
use Rattle.std.specs.List.{Contains, list_any}
use Rattle.std.specs.FinSet as set
use Rattle.std.specs.Ordering.{eq_by_cmp}
use Rattle.std.proofs.lemmas.Bool.{false≢true}
use Rattle.std.proofs.lemmas.Cmp.{eq_by_cmp_equiv}
use Rattle.std.proofs.lemmas.Map.Views.{Contains-from_any, list_any-from_Contains}
use Rattle.rs_octets.specs.PrefixOrder.{prefix_order_exact, prefix_order_total}
use Rattle.rs_octets.specs.Prefixes.{Prefix, prefix_order}
use Rattle.rs_policy.specs.Configuration.{Configuration}
use Rattle.rs_outlet.specs.declared.answers.Turned.{Turned}
use Rattle.rs_outlet.specs.Views.{IsNumberOf, Prefixes, is_touched, is_whole, with_touch}
use Rattle.rs_core.specs.Run.Moves.{Move, Ruled, Came, Heard, Saw, Left, Dropped, Commanded, Began, Took}
use Rattle.rs_core.specs.Run.Moves as moves
use Rattle.rs_core.specs.Run.Meaning.{is_established, is_listed}
use Rattle.rs_core.specs.Core.{client_count, touched_for}
use Rattle.rs_core.specs.Touched.ByRun.{IsCountOf, TouchesBetween, TouchesWhere, stands, with_touches}
use Rattle.rs_core.specs.Touched.ByMoves.{Alters, MayAlter, IsTouchedBehind, TouchesBehind}
use Rattle.rs_core.specs.Touched.SinceLastTurn.{Since, AsksForAll, IsAskedForAll, IsAltered, MayBeAltered, IsCut, LieBetween, if_room, IsTouchedSince, IsAnswerFor, IsAnswerTo, TouchesWhatWasAltered, AnswersByWhatWasAltered}
use Rattle.rs_core.proofs.Touched.Room.{all_in, equal_only, many_touches, with_all}
use Rattle.rs_core.proofs.Touched.Touching.{touched_here, touched_more}

-- ---- since the last turn

-- it is no turn that was done for client c
abbrev GoesOn : ℕ → Move → Type 0
GoesOn c move = (clients : List ℕ) → move ≡ moves.Turned clients → is_listed c clients ≡ true

here : (Holds : Move → List Move → Type 0) (c : ℕ) (move : Move) (run : List Move) → Holds move run → Since Holds c (move ∷ run)
here Holds c move run h = record { later = []; move = move; before = run; whole = refl; refused = λ clients has. absurd (let lt = has.1 in omega (arith, lt)); holds = h }

on : (Holds : Move → List Move → Type 0) (c : ℕ) (move : Move) (run : List Move) → GoesOn c move → Since Holds c run → Since Holds c (move ∷ run)
on Holds c move run goes s = record { later = move ∷ s.later; move = s.move; before = s.before; whole = ap (λ r. move ∷ r) s.whole; refused = by_place; holds = s.holds } where
  by_place : (clients : List ℕ) → Contains (move ∷ s.later) (moves.Turned clients) → is_listed c clients ≡ true
  by_place clients (zero, lt, is) = goes clients is
  by_place clients (suc k, lt, is) = s.refused clients (k, omega (arith, lt), is)

pub first_is : (m n : Move) (ms ns : List Move) → m ∷ ms ≡ n ∷ ns → m ≡ n
first_is m n ms ns e = cc

pub rest_is : (m n : Move) (ms ns : List Move) → m ∷ ms ≡ n ∷ ns → ms ≡ ns
rest_is m n ms ns e = cc

pub same_refused : (a b : List ℕ) → moves.Turned a ≡ moves.Turned b → a ≡ b
same_refused a b e = cc

-- by the last move, or before it
last_or : (Holds : Move → List Move → Type 0) (c : ℕ) (move : Move) (run : List Move) → Since Holds c (move ∷ run) → Holds move run ⊎ (GoesOn c move × Since Holds c run)
last_or Holds c move run s = by_later s.later s.whole s.refused where
  by_later : (later : List Move) → move ∷ run ≡ later ++ s.move ∷ s.before → ((clients : List ℕ) → Contains later (moves.Turned clients) → is_listed c clients ≡ true) → Holds move run ⊎ (GoesOn c move × Since Holds c run)
  by_later [] whole refused =
      inl (subst (λ m. Holds m run) (sym (first_is move s.move run s.before whole)) (subst (λ r. Holds s.move r) (sym (rest_is move s.move run s.before whole)) s.holds))
  by_later (m ∷ later) whole refused =
      let same = first_is move m run (later ++ s.move ∷ s.before) whole in
      inr (
        λ clients is. refused clients (0, omega arith, sym same ∙ is),
        record { later = later; move = s.move; before = s.before; whole = rest_is move m run (later ++ s.move ∷ s.before) whole; refused = λ clients has. let lt = has.1 in refused clients (suc has.0, omega (arith, lt), has.2); holds = s.holds },
      )

-- ---- touches

all_stay : (ps : List Prefix) → with_touches ps None ≡ None
all_stay [] = refl
all_stay (p ∷ ps) = all_stay ps

stays : (ps : List Prefix) (o : Option Prefixes) (q : Prefix) → is_touched o q ≡ true → is_touched (with_touches ps o) q ≡ true
stays [] o q h = h
stays (p ∷ ps) o q h = stays ps (with_touch o p) q (touched_more o p q h)

at_index : (ps : List Prefix) (o : Option Prefixes) (q : Prefix) → Contains ps q → is_touched (with_touches ps o) q ≡ true
at_index [] o q (k, lt, is) = absurd (omega (arith, lt))
at_index (p ∷ ps) o q (zero, lt, is) = stays ps (with_touch o p) q (subst (λ r. is_touched (with_touch o p) r ≡ true) is (touched_here o p))
at_index (p ∷ ps) o q (suc k, lt, is) = at_index ps (with_touch o p) q (k, omega (arith, lt), is)

or_cases : (a b : Bool) → (a || b) ≡ true → (a ≡ true) ⊎ (b ≡ true)
or_cases true b e = inl refl
or_cases false b e = inr e

or_first : (a b : Bool) → a ≡ true → (a || b) ≡ true
or_first a b e = ap (λ x. x || b) e

or_second : (a b : Bool) → b ≡ true → (a || b) ≡ true
or_second true b e = refl
or_second false b e = e

listed : (ps : List Prefix) (p : Prefix) → list_any (eq_by_cmp prefix_order p) ps ≡ true → Contains ps p
listed ps p e = Contains-from_any (λ x y same. prefix_order_exact x y (equal_only (prefix_order x y) same)) p ps e

-- ---- where no octets were cut short

-- only what was altered may have been
unless_cut : (c : ℕ) (run : List Move) (p : Prefix) → (IsCut run c → ⊥) → MayBeAltered run c p → IsAltered run c p
unless_cut c run p whole s = record {
  later = s.later;
  move = s.move;
  before = s.before;
  whole = s.whole;
  refused = s.refused;
  holds = elim s.holds [
    | inl alters ↦ alters
    | inr would ↦ absurd (whole (record { later = s.later; move = s.move; before = s.before; whole = s.whole; refused = s.refused; holds = (would.0, would.1, would.2) }))
  ];
}

since_last : (run : List Move) (c : ℕ) (touched : Option Prefixes) → (IsAskedForAll run c → touched ≡ None) → ((p : Prefix) → IsAltered run c p → is_touched touched p ≡ true)
    → ((IsAskedForAll run c → ⊥) → (prefixes : Prefixes) × LieBetween (IsAltered run c) (MayBeAltered run c) prefixes × (touched ≡ if_room prefixes)) → IsTouchedSince run c touched
since_last run c touched all least most = record {
  all = all;
  least = least;
  most = most;
  just = λ none whole. let it = most none in record { prefixes = it.0; just = λ p. (λ has. unless_cut c run p whole (it.1.most p has), λ altered. it.1.all p altered); are = it.2 };
}

-- ---- a move that goes on

-- it touches at least what it alters
least_behind : (c : ℕ) (move : Move) (run : List Move) (before touched : Option Prefixes) → TouchesBetween (Alters move run c) (MayAlter move run c) before touched → ((p : Prefix) → IsAltered run c p → is_touched before p ≡ true)
    → (p : Prefix) → IsAltered (move ∷ run) c p → is_touched touched p ≡ true
least_behind c move run before touched step least p altered = ap (λ o. is_touched o p) step.are ∙ elim (last_or _ c move run altered) [
  | inl alters ↦ at_index step.prefixes before p (step.all p alters)
  | inr earlier ↦ stays step.prefixes before p (least p earlier.1)
]

-- all is touched still
all_behind : (c : ℕ) (move : Move) (run : List Move) (before touched : Option Prefixes) (ps : List Prefix) → (AsksForAll c move run → ⊥) → touched ≡ with_touches ps before → (IsAskedForAll run c → before ≡ None) → IsAskedForAll (move ∷ run) c → touched ≡ None
all_behind c move run before touched ps unasked are all asked = are ∙ elim (last_or (AsksForAll c) c move run asked) [
  | inl asks ↦ absurd (unasked asks)
  | inr earlier ↦ ap (with_touches ps) (all earlier.1) ∙ all_stay ps
]

-- it touches what it alters, and within what it may alter
more_behind : (c : ℕ) (move : Move) (run : List Move) (before touched : Option Prefixes) → GoesOn c move → (AsksForAll c move run → ⊥) → IsTouchedSince run c before → TouchesBetween (Alters move run c) (MayAlter move run c) before touched
    → IsTouchedSince (move ∷ run) c touched
more_behind c move run before touched goes unasked it step = since_last (move ∷ run) c touched
    (all_behind c move run before touched step.prefixes unasked step.are it.all)
    (least_behind c move run before touched step it.least)
    (λ none.
    let was = it.most (λ asked. none (on (AsksForAll c) c move run goes asked)) in
    let now = λ (p : Prefix). list_any (eq_by_cmp prefix_order p) step.prefixes in (
      with_all step.prefixes was.0,
      record {
        all = λ p altered. all_in step.prefixes was.0 p ∙ elim (last_or (λ m r. Alters m r c p) c move run altered) [
          | inl alters ↦ or_first (now p) (set.contains was.0 p) (list_any-from_Contains (eq_by_cmp_equiv prefix_order_total) p step.prefixes (step.all p alters))
          | inr earlier ↦ or_second (now p) (set.contains was.0 p) (was.1.all p earlier.1)
        ];
        most = λ p has. elim (or_cases (now p) (set.contains was.0 p) (sym (all_in step.prefixes was.0 p) ∙ has)) [
          | inl last ↦ here (λ m r. MayAlter m r c p) c move run (step.most p (listed step.prefixes p last))
          | inr earlier ↦ on (λ m r. MayAlter m r c p) c move run goes (was.1.most p earlier)
        ];
      },
      step.are ∙ ap (with_touches step.prefixes) was.2 ∙ many_touches step.prefixes was.0,
    ))

-- it touches just what it alters
just_behind : (c : ℕ) (move : Move) (run : List Move) (before touched : Option Prefixes) → GoesOn c move → (AsksForAll c move run → ⊥) → IsTouchedSince run c before → TouchesWhere (Alters move run c) before touched
    → IsTouchedSince (move ∷ run) c touched
just_behind c move run before touched goes unasked it step =
    more_behind c move run before touched goes unasked it (record { prefixes = step.prefixes; all = λ p x. (step.just p).1 x; most = λ p has. inl ((step.just p).0 has); are = step.are })

-- ---- a turn

-- memory was refused for the client
refused_behind : (c : ℕ) (refused : List ℕ) (run : List Move) (before touched : Option Prefixes) → is_listed c refused ≡ true → (AsksForAll c (moves.Turned refused) run → ⊥) → IsTouchedSince run c before → touched ≡ before → IsTouchedSince (moves.Turned refused ∷ run) c touched
refused_behind c refused run before touched is unasked it same = just_behind c (moves.Turned refused) run before touched (λ clients e. ap (is_listed c) (sym (same_refused refused clients e)) ∙ is) unasked it (record {
  prefixes = [];
  just = λ p. (λ has. absurd (let lt = has.1 in omega (arith, lt)), λ none. absurd none);
  are = same;
})

-- it was done
done_behind : (c : ℕ) (refused : List ℕ) (run : List Move) (touched : Option Prefixes) → is_listed c refused ≡ false → (AsksForAll c (moves.Turned refused) run → ⊥) → touched ≡ Some set.empty → IsTouchedSince (moves.Turned refused ∷ run) c touched
done_behind c refused run touched is unasked nothing = since_last (moves.Turned refused ∷ run) c touched
    (λ asked. absurd (nothing_since (AsksForAll c) unasked asked))
    (λ p altered. absurd (nothing_since (λ m r. Alters m r c p) (λ x. x) altered))
    (λ none. (
      set.empty,
      record {
        all = λ p altered. absurd (nothing_since (λ m r. Alters m r c p) (λ x. x) altered);
        most = λ p has. absurd (false≢true (sym (set.contains-empty prefix_order p) ∙ has));
      },
      nothing ∙ sym (ap (λ n. if nat_lt 4096 n then None else Some (set.empty {R = prefix_order})) (set.len-empty prefix_order)),
    )) where
      nothing_since : (Holds : Move → List Move → Type 0) → (Holds (moves.Turned refused) run → ⊥) → Since Holds c (moves.Turned refused ∷ run) → ⊥
      nothing_since Holds none s = elim (last_or Holds c (moves.Turned refused) run s) [
        | inl holds ↦ none holds
        | inr earlier ↦ false≢true (sym is ∙ earlier.0 refused refl)
      ]

-- ---- any move

no_more_asked : (c : ℕ) (move : Move) (run : List Move) → is_established run c ≡ true → ((config : Configuration) → move ≡ Ruled config → ⊥) → AsksForAll c move run → ⊥
no_more_asked c move run up none (inl ruled) = none ruled.0 ruled.1
no_more_asked c move run up none (inr came_up) = false≢true (sym came_up.0 ∙ up)

any_behind : (c : ℕ) (move : Move) (run : List Move) (before touched : Option Prefixes) → is_established run c ≡ true → IsTouchedSince run c before → TouchesBehind move run c before touched → IsTouchedSince (move ∷ run) c touched
any_behind c (Ruled config) run before touched up it step = since_last (Ruled config ∷ run) c touched (λ _. step) (λ p _. ap (λ o. is_touched o p) step) (λ none. absurd (none (here (AsksForAll c) c (Ruled config) run (inl (config, refl)))))
any_behind c (Came d) run before touched up it step = just_behind c (Came d) run before touched (λ clients e. absurd (cc)) (no_more_asked c (Came d) run up (λ config e. cc)) it step
any_behind c (Heard d octets) run before touched up it step = just_behind c (Heard d octets) run before touched (λ clients e. absurd (cc)) (no_more_asked c (Heard d octets) run up (λ config e. cc)) it step
any_behind c (Saw t) run before touched up it step = just_behind c (Saw t) run before touched (λ clients e. absurd (cc)) (no_more_asked c (Saw t) run up (λ config e. cc)) it step
any_behind c (Left d) run before touched up it step = just_behind c (Left d) run before touched (λ clients e. absurd (cc)) (no_more_asked c (Left d) run up (λ config e. cc)) it step
any_behind c (Dropped d octets) run before touched up it step = more_behind c (Dropped d octets) run before touched (λ clients e. absurd (cc)) (no_more_asked c (Dropped d octets) run up (λ config e. cc)) it step
any_behind c (Commanded d command) run before touched up it step = just_behind c (Commanded d command) run before touched (λ clients e. absurd (cc)) (no_more_asked c (Commanded d command) run up (λ config e. cc)) it step
any_behind c (moves.Turned refused) run before touched up it step = by_list (is_listed c refused) refl where
  unasked : AsksForAll c (moves.Turned refused) run → ⊥
  unasked = no_more_asked c (moves.Turned refused) run up (λ config e. cc)

  by_list : (b : Bool) → is_listed c refused ≡ b → IsTouchedSince (moves.Turned refused ∷ run) c touched
  by_list true e = refused_behind c refused run before touched e unasked it (step ∙ ap (λ b. if b then before else Some set.empty) e)
  by_list false e = done_behind c refused run touched e unasked (step ∙ ap (λ b. if b then before else Some set.empty) e)
any_behind c (Began d) run before touched up it step = just_behind c (Began d) run before touched (λ clients e. absurd (cc)) (no_more_asked c (Began d) run up (λ config e. cc)) it step
any_behind c (Took d octets) run before touched up it step = just_behind c (Took d octets) run before touched (λ clients e. absurd (cc)) (no_more_asked c (Took d octets) run up (λ config e. cc)) it step

-- ---- a run

pub touched_since : (c : ℕ) (run : List Move) (touched : Option Prefixes) → is_established run c ≡ true → IsTouchedBehind run c touched → IsTouchedSince run c touched
touched_since c [] touched up h = absurd h
touched_since c (move ∷ run) touched up h = by_before (is_established run c) refl (λ before was k. touched_since c run before was k) where
  by_before : (b : Bool) → is_established run c ≡ b → ((before : Option Prefixes) → is_established run c ≡ true → IsTouchedBehind run c before → IsTouchedSince run c before) → IsTouchedSince (move ∷ run) c touched
  by_before true was earlier = let it = h.1 was in any_behind c move run it.0 touched was (earlier it.0 was it.1) it.2
  by_before false down earlier = since_last (move ∷ run) c touched (λ _. h.0 down) (λ p _. ap (λ o. is_touched o p) (h.0 down)) (λ none. absurd (none (here (AsksForAll c) c move run (inr (down, up)))))

pub touches_what_was_altered : TouchesWhatWasAltered
unfolding client_count
touches_what_was_altered core run c lt h up = touched_since c run (touched_for core c) up (h.touched c lt up)

-- ---- a turn's answer

whole_of : (s : Prefixes) (b : Bool) → is_whole (if b then None else Some s) ≡ b
whole_of s true = refl
whole_of s false = refl

counts : (is_in : Prefix → Bool) (s : Prefixes) (n : ℕ) (b : Bool) → b ≡ false → IsCountOf is_in (if b then None else Some s) n → n ≡ set.len s
counts is_in s n true e h = absurd (false≢true (sym e))
counts is_in s n false e h = h

numbers : (is_in : Prefix → Bool) (o : Option Prefixes) (n : ℕ) → is_whole o ≡ true → IsCountOf is_in o n → IsNumberOf is_in n
numbers is_in None n e h = h
numbers is_in (Some s) n e h = absurd (false≢true e)

pub answer_since : (c : ℕ) (run : List Move) (touched : Option Prefixes) (turned : Turned) → IsTouchedSince run c touched → turned.whole ≡ is_whole touched → IsCountOf (stands run c) touched turned.decided → IsAnswerTo run c turned
answer_since c run touched turned it of_all count = (record {
  all = λ asked. of_all ∙ ap is_whole (it.all asked);
  most = λ none. let was = it.most none in (was.0, was.1, answer_for was.0 was.2);
  just = λ none whole. let was = it.just none whole in (was.prefixes, was.just, answer_for was.prefixes was.are);
  standing = λ whole. numbers (stands run c) touched turned.decided (sym of_all ∙ whole) count;
}) where
  answer_for : (prefixes : Prefixes) → touched ≡ if_room prefixes → IsAnswerFor prefixes turned
  answer_for prefixes are =
      let is = of_all ∙ ap is_whole are ∙ whole_of prefixes (nat_lt 4096 (set.len prefixes)) in
      record { whole = is; count = λ part. counts (stands run c) prefixes turned.decided (nat_lt 4096 (set.len prefixes)) (sym is ∙ part) (subst (λ o. IsCountOf (stands run c) o turned.decided) are count) }

pub answers_by_what_was_altered : AnswersByWhatWasAltered
unfolding client_count
answers_by_what_was_altered old new run c lt h up d = (d.turned, d.last, answer_since c run (touched_for old c) d.turned (touches_what_was_altered old run c lt h up) d.whole d.count)
