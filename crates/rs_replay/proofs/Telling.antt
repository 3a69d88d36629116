-- What was told so far, with a client more.
use Rattle.std.proofs.Common.{◌≡◌, ◌∙◌, ◌+◌, ◌<◌, ◌==◌, ◌&&◌, ◌++◌, ℕ, Bool, true, false, cond, List, [], ◌∷◌, length, zero, suc, refl, sym, ap, ap₂, subst, arith, eq-eqb, ne_eqb}
use Rattle.std.specs.Prelude.{Option, Some, None}
use Rattle.std.specs.List.{flat_map, list_all}
use Rattle.std.proofs.lemmas.List.Folds.{list_all-append}
use Rattle.std.proofs.lemmas.List.Sums.{sum_by-cons}
use Rattle.rs_octets.specs.Prefixes.{Prefix}
use Rattle.rs_core.specs.Core.{client_count}
use Rattle.rs_core.specs.Run.Agreeing.{Agrees}
use Rattle.rs_core.specs.Run.Moves.{Move}
use Rattle.rs_core.specs.Run.Meaning.{dues, is_established}
use Rattle.rs_core.specs.Told.Points.{latest}
use Rattle.rs_core.specs.declared.route_server.Core.{Core}
use Rattle.rs_compare.specs.declared.compared.Kind.{Kind}
use Rattle.rs_compare.specs.declared.compared.Kind.TheVariants.{Missing, NotDue, OtherAttributes}
use Rattle.rs_trace.specs.declared.names.Names.{Names}
use Rattle.rs_trace.specs.Replays.{name_in}
use Rattle.rs_replay.proofs.Lines.{flat_more}
use Rattle.rs_replay.specs.declared.connection.Connection.{Connection}
use Rattle.rs_replay.specs.declared.findings.Counts.{Counts}
use Rattle.rs_replay.specs.declared.findings.Row.{Row}
use Rattle.rs_replay.specs.Findings.{AreCompared, AreFindings, Compared, Down, Finding, IsFinding, OfNone, Table, Unreadable, Up, count_of, finding_lines, finding_row, is_same, nothing_differs, same_kind}
use Rattle.rs_replay.specs.Telling.{AreCounts, HasCounts, IsSentBy, Tells, TellsUpTo, agrees_by, counted_row, counts_line, row_line, sent_by}

-- ---- counts

one_more : (kind : Kind) (difference : Prefix × Kind) (found : List (Prefix × Kind)) → count_of kind (difference ∷ found) ≡ cond (same_kind difference.1 kind) 1 0 + count_of kind found
one_more kind difference found = sum_by-cons (λ x. cond (same_kind x.1 kind) 1 0) difference found

-- each difference is of one kind
pub kinds_add : (found : List (Prefix × Kind)) → count_of Missing found + count_of NotDue found + count_of OtherAttributes found ≡ length found
kinds_add [] = refl
kinds_add ((p, Missing) ∷ found) =
    let a : count_of Missing ((p, Missing) ∷ found) ≡ 1 + count_of Missing found = one_more Missing (p, Missing) found in
    let b : count_of NotDue ((p, Missing) ∷ found) ≡ 0 + count_of NotDue found = one_more NotDue (p, Missing) found in
    let d : count_of OtherAttributes ((p, Missing) ∷ found) ≡ 0 + count_of OtherAttributes found = one_more OtherAttributes (p, Missing) found in
    omega (arith, a, b, d, kinds_add found)
kinds_add ((p, NotDue) ∷ found) =
    let a : count_of Missing ((p, NotDue) ∷ found) ≡ 0 + count_of Missing found = one_more Missing (p, NotDue) found in
    let b : count_of NotDue ((p, NotDue) ∷ found) ≡ 1 + count_of NotDue found = one_more NotDue (p, NotDue) found in
    let d : count_of OtherAttributes ((p, NotDue) ∷ found) ≡ 0 + count_of OtherAttributes found = one_more OtherAttributes (p, NotDue) found in
    omega (arith, a, b, d, kinds_add found)
kinds_add ((p, OtherAttributes) ∷ found) =
    let a : count_of Missing ((p, OtherAttributes) ∷ found) ≡ 0 + count_of Missing found = one_more Missing (p, OtherAttributes) found in
    let b : count_of NotDue ((p, OtherAttributes) ∷ found) ≡ 0 + count_of NotDue found = one_more NotDue (p, OtherAttributes) found in
    let d : count_of OtherAttributes ((p, OtherAttributes) ∷ found) ≡ 1 + count_of OtherAttributes found = one_more OtherAttributes (p, OtherAttributes) found in
    omega (arith, a, b, d, kinds_add found)

none_of : (a b c n : ℕ) → a + b + c ≡ n → (a == 0 && b == 0 && c == 0) ≡ (n == 0)
none_of zero zero zero n e = sym (eq-eqb n 0 (omega arith))
none_of zero zero (suc c) n e = ne_eqb (suc c) 0 (λ f. cc) ∙ sym (ne_eqb n 0 (omega arith))
none_of zero (suc b) c n e = ap (λ (t : Bool). t && c == 0) (ne_eqb (suc b) 0 (λ f. cc)) ∙ sym (ne_eqb n 0 (omega arith))
none_of (suc a) b c n e = ap (λ (t : Bool). t && b == 0 && c == 0) (ne_eqb (suc a) 0 (λ f. cc)) ∙ sym (ne_eqb n 0 (omega arith))

same_counted : (finding : Finding) (counts : Option Counts) → HasCounts finding counts → agrees_by counts ≡ is_same finding
same_counted Unreadable None h = refl
same_counted Unreadable (Some counts) h = absurd h
same_counted (Compared due sent found) None h = absurd h
same_counted (Compared due sent found) (Some counts) h =
    none_of counts.missing counts.not_due counts.other (length found) (omega (arith, h.of_missing, h.of_not_due, h.of_other, kinds_add found))

row_counted : (name : List ℕ) (finding : Finding) (counts : Option Counts) → HasCounts finding counts → counted_row name counts ≡ finding_row name finding
row_counted name Unreadable None h = refl
row_counted name Unreadable (Some counts) h = absurd h
row_counted name (Compared due sent found) None h = absurd h
row_counted name (Compared due sent found) (Some counts) h =
    let a = h.of_due in let b = h.of_sent in let d = h.of_missing in let e = h.of_not_due in let f = h.of_other in cc

-- ---- lists

and_true : (b : Bool) → (b && true) ≡ b
and_true true = refl
and_true false = refl

same_more : (findings : List (ℕ × Finding)) (finding : ℕ × Finding) → nothing_differs (findings ++ finding ∷ []) ≡ (nothing_differs findings && is_same finding.1)
same_more findings finding = list_all-append (λ f. is_same f.1) findings (finding ∷ []) ∙ ap (λ b. nothing_differs findings && b) (and_true (is_same finding.1))

-- ---- what was sent on a connection

pub found_compared : (due table : Table) (sent : Option Table) (n m : ℕ) (found : List (Prefix × Kind)) → Some table ≡ sent → AreCompared due table n m found
    → IsFinding due sent (Compared n m found)
found_compared due table sent n m found e are = subst (λ o. IsFinding due o (Compared n m found)) e are

-- ---- what was told

module _ {W : Type 0} (puts : W → List ℕ → W → Type 0) (puts_on : (a b c : W) (xs ys : List ℕ) → puts a xs b → puts b ys c → puts a (xs ++ ys) c)
    (core : Core) (names : Names) (connections : List Connection) (to : W) where
  pub told_none : (writer : W) → puts to [] writer → TellsUpTo puts core names connections to 0 [] true writer
  told_none writer put = record { findings = []; are = λ run agrees. OfNone; put = put; rows_are = refl; same_is = refl }

  pub told_down : (c : ℕ) (rows : List Row) (same : Bool) (writer : W) → ((run : List Move) → Agrees core run → is_established run c ≡ false)
      → TellsUpTo puts core names connections to c rows same writer → TellsUpTo puts core names connections to (c + 1) rows same writer
  told_down c rows same writer down t = record {
    findings = t.findings;
    are = λ run agrees. Down c t.findings (t.are run agrees) (down run agrees);
    put = t.put;
    rows_are = t.rows_are;
    same_is = t.same_is;
  }

  pub told_up : (c : ℕ) (rows more : List Row) (same after : Bool) (writer last : W) (finding : Finding) (counts : Option Counts)
      → ((run : List Move) → Agrees core run → is_established run c ≡ true)
      → ((run : List Move) → Agrees core run → is_established run c ≡ true → IsFinding (λ p. latest (dues run c p)) (sent_by connections c) finding)
      → puts writer (finding_lines (name_in names c) finding) last → HasCounts finding counts
      → flat_map (row_line (name_in names)) more ≡ flat_map (row_line (name_in names)) rows ++ counted_row (name_in names c) counts
      → after ≡ (same && agrees_by counts)
      → TellsUpTo puts core names connections to c rows same writer → TellsUpTo puts core names connections to (c + 1) more after last
  told_up c rows more same after writer last finding counts up is put counted rows_are same_is t = record {
    findings = t.findings ++ (c, finding) ∷ [];
    are = λ run agrees. Up c t.findings finding (sent_by connections c) (t.are run agrees) (up run agrees) refl (is run agrees (up run agrees));
    put = subst (λ xs. puts to xs last) (sym (flat_more (λ (f : ℕ × Finding). finding_lines (name_in names f.0) f.1) t.findings (c, finding))) (puts_on to writer last _ _ t.put put);
    rows_are = rows_are ∙ ap₂ (λ xs ys. xs ++ ys) t.rows_are (row_counted (name_in names c) finding counts counted)
        ∙ sym (flat_more (λ (f : ℕ × Finding). finding_row (name_in names f.0) f.1) t.findings (c, finding));
    same_is = same_is ∙ ap₂ (λ a b. a && b) t.same_is (same_counted finding counts counted) ∙ sym (same_more t.findings (c, finding));
  }

  -- and then the rows
  pub told_all : (n : ℕ) (rows : List Row) (same : Bool) (writer last : W) → n ≡ client_count core
      → TellsUpTo puts core names connections to n rows same writer → puts writer (flat_map (row_line (name_in names)) rows) last
      → Tells puts core names (λ run. IsSentBy connections) to same last
  told_all n rows same writer last all t put = record {
    findings = t.findings;
    are = λ run agrees. subst (λ k. AreFindings run (IsSentBy connections) k t.findings) all (t.are run agrees);
    put = puts_on to writer last _ _ t.put (subst (λ xs. puts writer xs last) t.rows_are put);
    same_is = t.same_is;
  }
