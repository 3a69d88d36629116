-- What the last turn of a client answered, by the last turn of a run.
use Rattle.std.proofs.Common.{◌≡◌, ℕ, suc, Bool, true, false, List, [], ◌∷◌, ◌++◌, refl, sym, subst, arith}
use Rattle.rs_outlet.specs.declared.answers.Last.{Last}
use Rattle.rs_core.specs.Run.Moves.{Move}
use Rattle.rs_core.specs.Run.Moves as moves
use Rattle.rs_core.specs.Run.Meaning.{is_established, is_listed}
use Rattle.rs_core.specs.Core.{client_count, last_of}
use Rattle.rs_core.specs.Touched.Answering.{IsLastBehind, IsTurnAnswer}
use Rattle.rs_core.specs.Touched.SinceLastTurn.{IsAnswerTo}
use Rattle.rs_core.specs.Touched.LastTurns.{AnswersByTheLastTurn, HasLastAnswer, HasNoTurn, IsLastTurn}
use Rattle.rs_core.proofs.Touched.Since.{answer_since, first_is, rest_is, same_refused, touched_since}

-- ---- the last turn

none_later : (move : Move) (run : List Move) → HasNoTurn (move ∷ run) → HasNoTurn run
none_later move run none refused has = let lt = has.1 in none refused (suc has.0, omega (arith, lt), has.2)

-- of no moves there is none
no_turn : (refused : List ℕ) (before : List Move) → IsLastTurn [] refused before → ⊥
no_turn refused before h = by_later h.later h.whole where
  by_later : (later : List Move) → [] ≡ later ++ moves.Turned refused ∷ before → ⊥
  by_later [] whole = cc
  by_later (m ∷ later) whole = cc

-- after a move that is no turn it is the one before
earlier : (move : Move) (run : List Move) (refused : List ℕ) (before : List Move) → ((clients : List ℕ) → move ≡ moves.Turned clients → ⊥) → IsLastTurn (move ∷ run) refused before → IsLastTurn run refused before
earlier move run refused before other h = by_later h.later h.whole h.none where
  by_later : (later : List Move) → move ∷ run ≡ later ++ moves.Turned refused ∷ before → HasNoTurn later → IsLastTurn run refused before
  by_later [] whole none = absurd (other refused (first_is move (moves.Turned refused) run before whole))
  by_later (m ∷ later) whole none = record { later = later; whole = rest_is move m run (later ++ moves.Turned refused ∷ before) whole; none = none_later m later none }

-- a turn is the last one itself
itself : (clients refused : List ℕ) (run before : List Move) → IsLastTurn (moves.Turned clients ∷ run) refused before → (refused ≡ clients) × (before ≡ run)
itself clients refused run before h = by_later h.later h.whole h.none where
  by_later : (later : List Move) → moves.Turned clients ∷ run ≡ later ++ moves.Turned refused ∷ before → HasNoTurn later → (refused ≡ clients) × (before ≡ run)
  by_later [] whole none = (
    same_refused refused clients (sym (first_is (moves.Turned clients) (moves.Turned refused) run before whole)),
    sym (rest_is (moves.Turned clients) (moves.Turned refused) run before whole),
  )
  by_later (m ∷ later) whole none = absurd (none clients (0, omega arith, sym (first_is (moves.Turned clients) m run (later ++ moves.Turned refused ∷ before) whole)))

-- ---- its answer

still : (c : ℕ) (move : Move) (run : List Move) (last : Last) → ((clients : List ℕ) → move ≡ moves.Turned clients → ⊥) → HasLastAnswer run c last → HasLastAnswer (move ∷ run) c last
still c move run last other h = record {
  never = λ none. h.never (none_later move run none);
  refused = λ clients before at. h.refused clients before (earlier move run clients before other at);
  down = λ clients before at. h.down clients before (earlier move run clients before other at);
  up = λ clients before at. h.up clients before (earlier move run clients before other at);
}

turned : (c : ℕ) (clients : List ℕ) (run : List Move) (last : Last) → IsTurnAnswer clients run c last → HasLastAnswer (moves.Turned clients ∷ run) c last
turned c clients run last h = record {
  never = λ none. absurd (none clients (0, omega arith, refl));
  refused = λ refused before at is.
      let it = h.refusal (listed refused before true at is) in
      (subst (λ r. is_established r c ≡ true) (sym (itself clients refused run before at).1) it.0, it.1);
  down = λ refused before at down. h.down (established refused before false at down);
  up = λ refused before at not up.
      let now = established refused before true at up in
      let it = h.up (listed refused before false at not) now in (
        it.0,
        it.1,
        subst (λ r. IsAnswerTo r c it.0) (sym (itself clients refused run before at).1)
            (answer_since c run it.2.touched it.0 (touched_since c run it.2.touched now it.2.behind) it.2.whole it.2.count),
      );
} where
  listed : (refused : List ℕ) (before : List Move) (b : Bool) → IsLastTurn (moves.Turned clients ∷ run) refused before → is_listed c refused ≡ b → is_listed c clients ≡ b
  listed refused before b at is = subst (λ l. is_listed c l ≡ b) (itself clients refused run before at).0 is

  established : (refused : List ℕ) (before : List Move) (b : Bool) → IsLastTurn (moves.Turned clients ∷ run) refused before → is_established before c ≡ b → is_established run c ≡ b
  established refused before b at is = subst (λ r. is_established r c ≡ b) (itself clients refused run before at).1 is

by_run : (c : ℕ) (run : List Move) (last : Last) → IsLastBehind run c last → HasLastAnswer run c last
by_run c [] last h = record {
  never = λ none. h;
  refused = λ clients before at. absurd (no_turn clients before at);
  down = λ clients before at. absurd (no_turn clients before at);
  up = λ clients before at. absurd (no_turn clients before at);
}
by_run c (moves.Turned clients ∷ run) last h = turned c clients run last h
by_run c (move ∷ run) last h = still c move run last (λ clients e. cc) (by_run c run last h)

pub answers_by_the_last_turn : AnswersByTheLastTurn
unfolding client_count
answers_by_the_last_turn core run c lt h = by_run c run (last_of core c) (h.last c lt)
