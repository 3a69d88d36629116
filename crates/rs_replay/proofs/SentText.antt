-- The lines of a text as a reader of lines comes to them, and what they say of another server.
use Rattle.std.proofs.Common.{◌≡◌, ◌∙◌, ◌⊎◌, inl, inr, ◌+◌, ◌<◌, ℕ, Bool, true, false, cond, List, [], ◌∷◌, ◌++◌, length, refl, sym, ap, arith, rules, append_assoc, length-append}
use Rattle.std.specs.Prelude.{nat_lt, Option, Some, None, Result, Ok, Err, if◌then◌else◌}
use Rattle.std.proofs.lemmas.List.{append-nil}
use Rattle.rs_trace.specs.declared.trace.LineFault.{LineFault}
use Rattle.rs_trace.specs.declared.trace.LineFault.TheVariants.{TooLong}
use Rattle.rs_trace.specs.Lines.{Reading, IsEnded, IsLast, IsTooLong, IsFirstLine, IsStep}
use Rattle.rs_trace.specs.Text.{lines_of}
use Rattle.rs_trace.proofs.ReplayLemmas.{lines_of-ended, lines_of-front, lines_of-last}
use Rattle.rs_replay.specs.declared.sent.Next.TheVariants as nexts
use Rattle.rs_replay.specs.declared.sent_lines.Entry.{Entry}
use Rattle.rs_replay.specs.Sent.{Account, Says, account, account_of, behind, is_later, on_line}
use Rattle.rs_replay.specs.SentLines.{Said, entry_as_said, said_in, said_of}
use Rattle.rs_replay.specs.Taking.{ReadsNext, Stands}

-- ---- a line that was read

pub has_said : (piece : List ℕ) (entry : Entry) (read : Result (Option Entry) LineFault) (said : Result (Option Said) LineFault) → read ≡ Ok (Some entry) → entry_as_said piece read ≡ said
    → said ≡ Ok (Some (said_in piece entry))
has_said piece entry read said is e = sym e ∙ ap (entry_as_said piece) is

pub has_said_nothing : (piece : List ℕ) (read : Result (Option Entry) LineFault) (said : Result (Option Said) LineFault) → read ≡ Ok None → entry_as_said piece read ≡ said → said ≡ Ok None
has_said_nothing piece read said is e = sym e ∙ ap (entry_as_said piece) is

pub has_fault : (piece : List ℕ) (fault : LineFault) (read : Result (Option Entry) LineFault) (said : Result (Option Said) LineFault) → read ≡ Err fault → entry_as_said piece read ≡ said → said ≡ Err fault
has_fault piece fault read said is e = sym e ∙ ap (entry_as_said piece) is

-- ---- the account of the lines

both_none : (xs ys : List ℕ) → xs ≡ [] → ys ≡ [] → xs ++ ys ≡ []
both_none xs ys e f = rw e (rw f refl)

module _ (place : List ℕ → Option ℕ) (until : ℕ) where
  too_long_said : (line : List ℕ) → 8240 < length line → said_of place line ≡ Err TooLong
  too_long_said line h =
      let e : nat_lt 8240 (length line) ≡ true = search rules in
      rw e refl

  -- the account of octets, by what their first line says
  at_line : (n : ℕ) (octets more : List ℕ) (r : Reading) → IsFirstLine octets r → (r.is_over ≡ true → more ≡ [])
      → account_of place until n (lines_of (octets ++ more)) ≡ on_line until (said_of place r.line) n (account_of place until (n + 1) (lines_of (r.rest ++ more)))
  at_line n octets more r first none = cases first.kind
    where
      cases : IsEnded octets r ⊎ IsLast octets r ⊎ IsTooLong octets r
          → account_of place until n (lines_of (octets ++ more)) ≡ on_line until (said_of place r.line) n (account_of place until (n + 1) (lines_of (r.rest ++ more)))
      cases (inl e) =
          let parts : octets ++ more ≡ r.line ++ (10 ∷ []) ++ (r.rest ++ more) = ap (λ xs. xs ++ more) e.parts ∙ append_assoc (r.line ++ (10 ∷ [])) r.rest more in
          ap (λ xs. account_of place until n (lines_of xs)) parts ∙ ap (account_of place until n) (lines_of-ended r.line (r.rest ++ more) first.one_line)
      cases (inr (inl e)) =
          let no_more : more ≡ [] = none e.over in
          let parts : octets ++ more ≡ r.line = ap (λ xs. octets ++ xs) no_more ∙ append-nil octets ∙ e.parts in
          let behind_it : r.rest ++ more ≡ [] = both_none r.rest more e.none_left no_more in
          ap (λ xs. account_of place until n (lines_of xs)) parts ∙ ap (account_of place until n) (lines_of-last r.line first.one_line e.some)
          ∙ sym (ap (λ xs. on_line until (said_of place r.line) n (account_of place until (n + 1) (lines_of xs))) behind_it)
      cases (inr (inr e)) =
          let front = lines_of-front r.line (r.rest ++ more) first.one_line (omega (arith, e.too_long)) in
          let parts : octets ++ more ≡ r.line ++ (r.rest ++ more) = ap (λ xs. xs ++ more) e.parts ∙ append_assoc r.line r.rest more in
          let long = too_long_said (r.line ++ front.rest) (omega (arith, e.too_long, length-append r.line front.rest)) in
          let same = too_long_said r.line (omega (arith, e.too_long)) in
          ap (λ xs. account_of place until n (lines_of xs)) parts ∙ ap (account_of place until n) front.is
          ∙ ap (λ said. on_line until said n (account_of place until (n + 1) front.others)) long
          ∙ sym (ap (λ said. on_line until said n (account_of place until (n + 1) (lines_of (r.rest ++ more)))) same)

  module _ (text taken : List ℕ) (before over : Type 0) (entries : List Said) (n : ℕ) (old new : Reading) (stands : Stands place until text before entries n old)
      (ends : (old.is_over ≡ true → before) → new.is_over ≡ true → over) where
    -- the account of the text from the line that the reader came to
    here : (is_line : Bool) (more : List ℕ) → IsStep is_line old new taken → (new.is_over ≡ true → more ≡ [])
        → account_of place until 1 (lines_of ((text ++ taken) ++ more)) ≡ behind entries (account_of place until n (lines_of ((old.rest ++ taken) ++ more)))
    here is_line more step none =
        ap (λ xs. account_of place until 1 (lines_of xs)) (append_assoc text taken more)
        ∙ stands.follows (taken ++ more) (λ over. both_none taken more (step.none_after_end over) (none (step.stays_over over)))
        ∙ ap (λ xs. behind entries (account_of place until n (lines_of xs))) (sym (append_assoc old.rest taken more))

    by_line : (more : List ℕ) → IsStep true old new taken → (new.is_over ≡ true → more ≡ [])
        → account_of place until 1 (lines_of ((text ++ taken) ++ more)) ≡ behind entries (on_line until (said_of place new.line) n (account_of place until (n + 1) (lines_of (new.rest ++ more))))
    by_line more step none = here true more step none ∙ ap (behind entries) (at_line n (old.rest ++ taken) more new step.steps none)

    -- at a line with a fault
    pub says_fault : (fault : LineFault) → IsStep true old new taken → said_of place new.line ≡ Err fault → Says place until (text ++ taken) over (account entries (Some (n, fault)))
    says_fault fault step said more none =
        by_line more step (λ is. none (ends stands.ended is))
        ∙ ap (λ s. behind entries (on_line until s n (account_of place until (n + 1) (lines_of (new.rest ++ more))))) said
        ∙ ap (λ es. account es (Some (n, fault))) (append-nil entries)

    -- at one behind which nothing counts
    says_later : (said : Said) → IsStep true old new taken → said_of place new.line ≡ Ok (Some said) → is_later until said ≡ true → Says place until (text ++ taken) over (account entries None)
    says_later said step is later more none =
        let rest : Account = account_of place until (n + 1) (lines_of (new.rest ++ more)) in
        by_line more step (λ is. none (ends stands.ended is)) ∙ ap (λ s. behind entries (on_line until s n rest)) is
        ∙ ap (λ b. behind entries (cond b (account [] None) (behind (said ∷ []) rest))) later ∙ ap (λ es. account es None) (append-nil entries)

    -- where there is none any more
    pub says_all : IsStep false old new taken → Says place until (text ++ taken) over (account entries None)
    says_all step more none =
        let end = step.steps in
        let no_more : more ≡ [] = none (ends stands.ended end.over) in
        here false more step (λ is. no_more) ∙ ap (λ xs. behind entries (account_of place until n (lines_of xs))) (both_none (old.rest ++ taken) more end.none no_more)
        ∙ ap (λ es. account es None) (append-nil entries)

    -- behind one that is passed over
    pub stands_passed : IsStep true old new taken → said_of place new.line ≡ Ok None → Stands place until (text ++ taken) over entries (n + 1) new
    stands_passed step is = record {
      follows = λ more none. by_line more step none ∙ ap (λ s. behind entries (on_line until s n (account_of place until (n + 1) (lines_of (new.rest ++ more))))) is;
      ended = ends stands.ended;
    }

    -- behind one that says something
    stands_said : (said : Said) → IsStep true old new taken → said_of place new.line ≡ Ok (Some said) → is_later until said ≡ false
        → Stands place until (text ++ taken) over (entries ++ said ∷ []) (n + 1) new
    stands_said said step is later = record {
      follows = λ more none.
          let rest : Account = account_of place until (n + 1) (lines_of (new.rest ++ more)) in
          by_line more step none ∙ ap (λ s. behind entries (on_line until s n rest)) is
          ∙ ap (λ b. behind entries (cond b (account [] None) (behind (said ∷ []) rest))) later
          ∙ ap (λ es. account es rest.fault) (sym (append_assoc entries (said ∷ []) rest.entries));
      ended = ends stands.ended;
    }

    -- what a line comes to that says something
    pub reads_said_next : (piece : List ℕ) (entry : Entry) → IsStep true old new taken → said_of place new.line ≡ Ok (Some (said_in piece entry))
        → ReadsNext place until (text ++ taken) over entries n new piece (Ok (if is_later until (said_in piece entry) then nexts.Over else nexts.Said entry))
    reads_said_next piece entry step is = by (is_later until (said_in piece entry)) refl
      where
        by : (later : Bool) → is_later until (said_in piece entry) ≡ later → ReadsNext place until (text ++ taken) over entries n new piece (Ok (if later then nexts.Over else nexts.Said entry))
        by true later = says_later (said_in piece entry) step is later
        by false later = stands_said (said_in piece entry) step is later
