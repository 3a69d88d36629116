-- What lines say, one after the other.
use Rattle.std.proofs.Common.{◌≡◌, ℕ, ◌+◌, List, [], ◌∷◌, ◌++◌, refl, sym, ◌∙◌, ap, arith, false, Option, Some, None, append_assoc}
use Rattle.std.specs.List.{list_any}
use Rattle.std.proofs.lemmas.List.{append-nil}
use Rattle.rs_trace.specs.Trace.{LineMeaning, line_of}
use Rattle.rs_trace.specs.Text.{lines_of, whole_lines, outcome, outcome_behind, Outcome, tells, behind, after, asks, said}
use Rattle.rs_trace.proofs.LineLemmas.{ends}
use Rattle.rs_trace.proofs.ReplayLemmas.{lines_of-ended, listed, whole_append, whole_ended}
use Rattle.rs_record.specs.Saying.{SaysOn, SaysAll, SayInTurn}

pub says_none : (place : List ℕ → Option ℕ) (text : List ℕ) → SaysOn place text [] [] text
says_none place text n later =
    let same : n + whole_lines [] ≡ n = omega arith in
    rw same refl

twice_behind : (ms ns : List LineMeaning) (o : Outcome) → behind ms (behind ns o) ≡ behind (ms ++ ns) o
twice_behind ms ns o = ap (λ xs. tells xs o.fault) (sym (append_assoc ms ns o.meanings))

pub says_then : (place : List ℕ → Option ℕ) (a b c xs ys : List ℕ) (ms ns : List LineMeaning) → SaysOn place a xs ms b → SaysOn place b ys ns c → SaysOn place a (xs ++ ys) (ms ++ ns) c
says_then place a b c xs ys ms ns first then_so n later =
    let count : n + whole_lines xs + whole_lines ys ≡ n + whole_lines (xs ++ ys) = omega (arith, whole_append xs ys) in
    ap (λ zs. outcome_behind place a n (lines_of zs)) (append_assoc xs ys later)
    ∙ first n (ys ++ later)
    ∙ ap (behind ms) (then_so (n + whole_lines xs) later)
    ∙ twice_behind ms ns (outcome_behind place c (n + whole_lines xs + whole_lines ys) (lines_of later))
    ∙ ap (λ (k : ℕ). behind (ms ++ ns) (outcome_behind place c k (lines_of later))) count

after_listed : (asked : Option LineMeaning) (o : Outcome) → after asked o ≡ behind (listed asked) o
after_listed None o = refl
after_listed (Some meant) o = refl

-- a line that comes to this behind the text
pub says_line : (place : List ℕ → Option ℕ) (text line : List ℕ) (asked : Option LineMeaning) (on : List ℕ) → list_any ends line ≡ false → said text (line_of place line) ≡ asks asked on → SaysOn place text (line ++ (10 ∷ [])) (listed asked) on
says_line place text line asked on none is n later =
    let count : n + 1 ≡ n + whole_lines (line ++ (10 ∷ [])) = omega (arith, whole_ended line [] none, ap whole_lines (append-nil (line ++ (10 ∷ [])))) in
    let first : outcome_behind place text n (lines_of (line ++ (10 ∷ []) ++ later)) ≡ after asked (outcome_behind place on (n + 1) (lines_of later)) =
    rw (lines_of-ended line later none) (rw is refl) in
    first
    ∙ after_listed asked (outcome_behind place on (n + 1) (lines_of later))
    ∙ ap (λ (k : ℕ). behind (listed asked) (outcome_behind place on k (lines_of later))) count

pub says_all : SaysAll
says_all place octets meanings says =
    ap (λ xs. outcome place 1 (lines_of xs)) (sym (append-nil octets)) ∙ says 1 [] ∙ ap (λ xs. tells xs None) (append-nil meanings)

pub say_in_turn : SayInTurn
say_in_turn place xs ys before after first then_so = says_then place [] [] [] xs ys before after first then_so
