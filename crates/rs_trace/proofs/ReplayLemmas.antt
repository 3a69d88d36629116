-- The lines of a text as a reader of lines comes to them, and the first fault among them.
use Rattle.std.proofs.Common.{◌≡◌, ℕ, ◌+◌, ◌<◌, ◌⊎◌, List, [], ◌∷◌, ◌++◌, length, refl, sym, ◌∙◌, ap, arith, Bool, true, false, inl, inr, Option, Some, None, append_assoc, length-append, rules, subst}
use Rattle.std.specs.Prelude.{nat_lt, Result, Ok, Err, ◌==◌, if◌then◌else◌}
use Rattle.std.specs.List.{list_any}
use Rattle.std.proofs.lemmas.List.{append-nil}
use Rattle.rs_trace.specs.declared.trace.LineFault.{LineFault}
use Rattle.rs_trace.specs.declared.trace.LineFault.TheVariants.{TooLong}
use Rattle.rs_trace.specs.Words.{lengthen}
use Rattle.rs_trace.specs.Lines.{Reading, IsEnded, IsLast, IsTooLong, IsFirstLine, IsStep}
use Rattle.rs_core.specs.declared.links.Event.{Event}
use Rattle.rs_trace.specs.Trace.{LineMeaning, Listed, line_of}
use Rattle.rs_trace.specs.declared.trace.Entry.{Entry}
use Rattle.rs_trace.specs.declared.trace_lines.TraceLines.{TraceLines}
use Rattle.rs_trace.specs.declared.fault.ReplayFault.TheVariants.{Line, Memory, Reading as ReadingFails, Writing}
use Rattle.rs_trace.specs.declared.fault.Stop.{Stop}
use Rattle.rs_trace.specs.declared.fault.Stop.TheVariants.{End, Table, Fault}
use Rattle.rs_trace.specs.Entries.{line_as_meaning, line_meant}
use Rattle.rs_trace.specs.Replays.{meanings_in, stop_of}
use Rattle.rs_trace.specs.TakingUp.{TakesUp}
use Rattle.rs_trace.specs.Text.{lines_of, whole_lines, outcome, outcome_behind, Outcome, tells, behind, after, asks, said, IsRead}
use Rattle.rs_trace.specs.Played.{FollowsOn, AreWhole, GoesOn, MeansFirst, Stands}
use Rattle.rs_trace.proofs.LineLemmas.{ends}

no_end : (x : ℕ) (xs : List ℕ) → list_any ends (x ∷ xs) ≡ false → (ends x ≡ false) × (list_any ends xs ≡ false)
no_end x xs h = cases (ends x) refl h
  where
    cases : (b : Bool) → ends x ≡ b → list_any ends (x ∷ xs) ≡ false → (ends x ≡ false) × (list_any ends xs ≡ false)
    cases true e h = let bad : true ≡ false = rw e at h in cc
    cases false e h = (e, rw e at h)

-- a whole line at the front
pub lines_of-ended : (line rest : List ℕ) → list_any ends line ≡ false → lines_of (line ++ (10 ∷ []) ++ rest) ≡ line ∷ lines_of rest
lines_of-ended [] rest h = refl
lines_of-ended (x ∷ line) rest h =
    let parts = no_end x line h in
    rw parts.0 (rw (lines_of-ended line rest parts.1) refl)

-- a last line without its end
pub lines_of-last : (line : List ℕ) → list_any ends line ≡ false → 0 < length line → lines_of line ≡ line ∷ []
lines_of-last [] h some = absurd (omega (arith, some))
lines_of-last (x ∷ []) h some = let parts = no_end x [] h in rw parts.0 refl
lines_of-last (x ∷ y ∷ line) h some =
    let parts = no_end x (y ∷ line) h in
    rw parts.0 (rw (lines_of-last (y ∷ line) parts.1 (omega arith)) refl)

-- the first of these lines begins with this front
pub record BeginsWith (front : List ℕ) (lines : List (List ℕ)) : Type 0 where
  pub rest : List ℕ
  pub others : List (List ℕ)
  pub is : lines ≡ (front ++ rest) ∷ others

begins_more : (x : ℕ) (line : List ℕ) (lines : List (List ℕ)) → BeginsWith line lines → BeginsWith (x ∷ line) (lengthen x lines)
begins_more x line lines b = record { rest = b.rest; others = b.others; is = rw b.is refl }

begins_one : (x : ℕ) (lines : List (List ℕ)) → BeginsWith (x ∷ []) (lengthen x lines)
begins_one x [] = record { rest = []; others = []; is = refl }
begins_one x (line ∷ lines) = record { rest = line; others = lines; is = refl }

-- a front without an end of line is a front of the first line
pub lines_of-front : (line rest : List ℕ) → list_any ends line ≡ false → 0 < length line → BeginsWith line (lines_of (line ++ rest))
lines_of-front [] rest h some = absurd (omega (arith, some))
lines_of-front (x ∷ []) rest h some = let parts = no_end x [] h in rw parts.0 (begins_one x (lines_of rest))
lines_of-front (x ∷ y ∷ line) rest h some =
    let parts = no_end x (y ∷ line) h in
    rw parts.0 (begins_more x (y ∷ line) (lines_of ((y ∷ line) ++ rest)) (lines_of-front (y ∷ line) rest parts.1 (omega arith)))

pub too_long_line : (place : List ℕ → Option ℕ) (line : List ℕ) → 8240 < length line → line_of place line ≡ Err TooLong
too_long_line place line h =
    let e : nat_lt 8240 (length line) ≡ true = search rules in
    rw e refl

-- what a line says, as a list
abbrev pub listed : Option LineMeaning → List LineMeaning
listed None = []
listed (Some meant) = meant ∷ []

pub follows_start : (place : List ℕ → Option ℕ) (r : TraceLines) → r.lines.rest ≡ [] → r.text.items ≡ [] → FollowsOn place [] [] 0 r
follows_start place r e f more h = rw e (rw f refl)

both_none : (xs ys : List ℕ) → xs ≡ [] → ys ≡ [] → xs ++ ys ≡ []
both_none xs ys e f = rw e (rw f refl)

-- the outcome of the text from the line that the reader came to
here : (place : List ℕ → Option ℕ) (text taken more : List ℕ) (s : List LineMeaning) (n : ℕ) (is_line : Bool) (old : TraceLines) (new : Reading) → FollowsOn place text s n old → IsStep is_line old.lines new taken → (new.is_over ≡ true → more ≡ [])
    → outcome place 1 (lines_of ((text ++ taken) ++ more)) ≡ behind s (outcome_behind place old.text.items (n + 1) (lines_of ((old.lines.rest ++ taken) ++ more)))
here place text taken more s n is_line old new follows step h =
    ap (λ xs. outcome place 1 (lines_of xs)) (append_assoc text taken more)
    ∙ follows (taken ++ more) (λ over. both_none taken more (step.none_after_end over) (h (step.stays_over over)))
    ∙ ap (λ xs. behind s (outcome_behind place old.text.items (n + 1) (lines_of xs))) (sym (append_assoc old.lines.rest taken more))

-- a line that is too long says nothing, behind whatever text
too_long_said : (place : List ℕ → Option ℕ) (text line : List ℕ) → 8240 < length line → said text (line_of place line) ≡ Err TooLong
too_long_said place text line h = ap (said text) (too_long_line place line h)

-- the fault is that of the line, where it has one
fault_at : (place : List ℕ → Option ℕ) (text : List ℕ) (n : ℕ) (octets : List ℕ) (r : Reading) (fault : LineFault) → IsFirstLine octets r → said text (line_of place r.line) ≡ Err fault → outcome_behind place text n (lines_of octets) ≡ tells [] (Some (n, fault))
fault_at place text n octets r fault first h = cases first.kind
  where
    cases : IsEnded octets r ⊎ IsLast octets r ⊎ IsTooLong octets r → outcome_behind place text n (lines_of octets) ≡ tells [] (Some (n, fault))
    cases (inl e) = rw e.parts (rw (lines_of-ended r.line r.rest first.one_line) (rw h refl))
    cases (inr (inl e)) = rw e.parts (rw (lines_of-last r.line first.one_line e.some) (rw h refl))
    cases (inr (inr e)) =
        let front = lines_of-front r.line r.rest first.one_line (omega (arith, e.too_long)) in
        let long = too_long_said place text (r.line ++ front.rest) (omega (arith, e.too_long, length-append r.line front.rest)) in
        let same : said text (line_of place r.line) ≡ Err TooLong = too_long_said place text r.line (omega (arith, e.too_long)) in
        let fault_is : TooLong ≡ fault = cc in
        rw e.parts (rw front.is (rw long (ap (λ f. tells [] (Some (n, f))) fault_is)))

-- and else what it asks for comes before what the lines after it say
goes_on : (place : List ℕ → Option ℕ) (text : List ℕ) (n : ℕ) (octets more : List ℕ) (r : Reading) (asked : Option LineMeaning) (on : List ℕ) → IsFirstLine octets r → said text (line_of place r.line) ≡ asks asked on → (r.is_over ≡ true → more ≡ [])
    → outcome_behind place text n (lines_of (octets ++ more)) ≡ after asked (outcome_behind place on (n + 1) (lines_of (r.rest ++ more)))
goes_on place text n octets more r asked on first h none = cases first.kind
  where
    cases : IsEnded octets r ⊎ IsLast octets r ⊎ IsTooLong octets r → outcome_behind place text n (lines_of (octets ++ more)) ≡ after asked (outcome_behind place on (n + 1) (lines_of (r.rest ++ more)))
    cases (inl e) =
        let parts : octets ++ more ≡ r.line ++ (10 ∷ []) ++ (r.rest ++ more) = ap (λ xs. xs ++ more) e.parts ∙ append_assoc (r.line ++ (10 ∷ [])) r.rest more in
        rw parts (rw (lines_of-ended r.line (r.rest ++ more) first.one_line) (rw h refl))
    cases (inr (inl e)) =
        let no_more : more ≡ [] = none e.over in
        let parts : octets ++ more ≡ r.line = ap (λ xs. octets ++ xs) no_more ∙ append-nil octets ∙ e.parts in
        let behind_it : r.rest ++ more ≡ [] = both_none r.rest more e.none_left no_more in
        rw parts (rw behind_it (rw (lines_of-last r.line first.one_line e.some) (rw h refl)))
    cases (inr (inr e)) =
        let bad : said text (line_of place r.line) ≡ Err TooLong = too_long_said place text r.line (omega (arith, e.too_long)) in
        cc

behind_after : (s : List LineMeaning) (asked : Option LineMeaning) (later : Outcome) → behind s (after asked later) ≡ behind (s ++ listed asked) later
behind_after s None later = ap (λ xs. tells (xs ++ later.meanings) later.fault) (sym (append-nil s))
behind_after s (Some meant) later = ap (λ xs. tells xs later.fault) (sym (append_assoc s (meant ∷ []) later.meanings))

follows_line : (place : List ℕ → Option ℕ) (text taken : List ℕ) (s : List LineMeaning) (n : ℕ) (asked : Option LineMeaning) (old new : TraceLines) → FollowsOn place text s n old → IsStep true old.lines new.lines taken
    → said old.text.items (line_of place new.lines.line) ≡ asks asked new.text.items → FollowsOn place (text ++ taken) (s ++ listed asked) (n + 1) new
follows_line place text taken s n asked old new follows step h more none =
    here place text taken more s n true old new.lines follows step none
    ∙ ap (behind s) (goes_on place old.text.items (n + 1) (old.lines.rest ++ taken) more new.lines asked new.text.items step.steps h none)
    ∙ behind_after s asked (outcome_behind place new.text.items (n + 1 + 1) (lines_of (new.lines.rest ++ more)))

follows_fault : (place : List ℕ → Option ℕ) (text taken : List ℕ) (s : List LineMeaning) (n : ℕ) (fault : LineFault) (old : TraceLines) (new : Reading) → FollowsOn place text s n old → IsStep true old.lines new taken
    → said old.text.items (line_of place new.line) ≡ Err fault → outcome place 1 (lines_of (text ++ taken)) ≡ tells s (Some (n + 1, fault))
follows_fault place text taken s n fault old new follows step h =
    ap (λ xs. outcome place 1 (lines_of xs)) (sym (append-nil (text ++ taken)))
    ∙ here place text taken [] s n true old new follows step (λ over. refl)
    ∙ ap (λ xs. behind s (outcome_behind place old.text.items (n + 1) (lines_of xs))) (append-nil (old.lines.rest ++ taken))
    ∙ ap (behind s) (fault_at place old.text.items (n + 1) (old.lines.rest ++ taken) new fault step.steps h)
    ∙ ap (λ xs. tells xs (Some (n + 1, fault))) (append-nil s)

-- the meanings so far are what the text says first, also where more was taken
pub means_first : (place : List ℕ → Option ℕ) (text taken : List ℕ) (s : List LineMeaning) (n : ℕ) (r : TraceLines) → FollowsOn place text s n r → (r.lines.is_over ≡ true → taken ≡ []) → MeansFirst place (text ++ taken) s
means_first place text taken s n r follows none = ((outcome_behind place r.text.items (n + 1) (lines_of (r.lines.rest ++ taken))).meanings, ap (λ o. o.meanings) (follows taken none))

pub means_first_now : (place : List ℕ → Option ℕ) (text : List ℕ) (s : List LineMeaning) (n : ℕ) (r : TraceLines) → FollowsOn place text s n r → MeansFirst place text s
means_first_now place text s n r follows = subst (λ (xs : List ℕ). MeansFirst place xs s) (append-nil text) (means_first place text [] s n r follows (λ over. refl))

pub means_all : (place : List ℕ → Option ℕ) (text : List ℕ) (s : List LineMeaning) (fault : Option (ℕ × LineFault)) → outcome place 1 (lines_of text) ≡ tells s fault → MeansFirst place text s
means_all place text s fault e = ([], ap (λ o. o.meanings) e ∙ sym (append-nil s))

pub means_less : (place : List ℕ → Option ℕ) (text : List ℕ) (s more : List LineMeaning) → MeansFirst place text (s ++ more) → MeansFirst place text s
means_less place text s more h = (more ++ h.0, h.1 ∙ append_assoc s more h.0)

-- lines that have their end, of one text after the other
pub whole_append : (xs ys : List ℕ) → whole_lines (xs ++ ys) ≡ whole_lines xs + whole_lines ys
whole_append [] ys = omega arith
whole_append (x ∷ xs) ys = elim (x == 10) as (λ b. (if b then 1 + whole_lines (xs ++ ys) else whole_lines (xs ++ ys)) ≡ (if b then 1 + whole_lines xs else whole_lines xs) + whole_lines ys) [
  | true ↦ omega (arith, whole_append xs ys)
  | false ↦ whole_append xs ys
]

whole_none : (xs : List ℕ) → list_any ends xs ≡ false → whole_lines xs ≡ 0
whole_none [] h = refl
whole_none (x ∷ xs) h = let parts = no_end x xs h in rw parts.0 (whole_none xs parts.1)

pub whole_ended : (line rest : List ℕ) → list_any ends line ≡ false → whole_lines (line ++ (10 ∷ []) ++ rest) ≡ 1 + whole_lines rest
whole_ended line rest h =
    let parts : line ++ (10 ∷ []) ++ rest ≡ line ++ (10 ∷ rest) = append_assoc line (10 ∷ []) rest in
    rw parts (omega (arith, whole_append line (10 ∷ rest), whole_none line h, whole_end rest))
  where
    whole_end : (rest : List ℕ) → whole_lines (10 ∷ rest) ≡ 1 + whole_lines rest
    whole_end rest = refl

-- the count of whole lines after a step to a line
whole_step : (text taken : List ℕ) (n : ℕ) (old : TraceLines) (new : Reading) → AreWhole text n old → IsStep true old.lines new taken → new.is_over ≡ true ⊎ length new.line ≡ 8241 ⊎ whole_lines (text ++ taken) ≡ (n + 1) + whole_lines new.rest
whole_step text taken n old new whole step = cases whole step.steps.kind
  where
    cases : AreWhole text n old → IsEnded (old.lines.rest ++ taken) new ⊎ IsLast (old.lines.rest ++ taken) new ⊎ IsTooLong (old.lines.rest ++ taken) new → new.is_over ≡ true ⊎ length new.line ≡ 8241 ⊎ whole_lines (text ++ taken) ≡ (n + 1) + whole_lines new.rest
    cases (inr over) kind = inl (step.stays_over over)
    cases (inl count) (inl e) =
        let rest : whole_lines (old.lines.rest ++ taken) ≡ 1 + whole_lines new.rest = ap whole_lines e.parts ∙ whole_ended new.line new.rest step.steps.one_line in
        inr (inr (omega (arith, count, rest, whole_append text taken, whole_append old.lines.rest taken)))
    cases (inl count) (inr (inl e)) = inl e.over
    cases (inl count) (inr (inr e)) = inr (inl e.too_long)

goes_on_line : (place : List ℕ → Option ℕ) (text taken : List ℕ) (before over : Type 0) (s : List LineMeaning) (n : ℕ) (asked : Option LineMeaning) (old new : TraceLines) → GoesOn place text before s n old → IsStep true old.lines new.lines taken → ((old.lines.is_over ≡ true → before) → new.lines.is_over ≡ true → over)
    → said old.text.items (line_of place new.lines.line) ≡ asks asked new.text.items → GoesOn place (text ++ taken) over (s ++ listed asked) (n + 1) new
goes_on_line place text taken before over s n asked old new goes step ended h =
    (follows_line place text taken s n asked old new goes.0 step h, ended goes.1, counted (whole_step text taken n old new.lines goes.2 step))
  where
    counted : new.lines.is_over ≡ true ⊎ length new.lines.line ≡ 8241 ⊎ whole_lines (text ++ taken) ≡ (n + 1) + whole_lines new.lines.rest → AreWhole (text ++ taken) (n + 1) new
    counted (inl e) = inr e
    counted (inr (inl long)) =
        let bad : said old.text.items (line_of place new.lines.line) ≡ Err TooLong = too_long_said place old.text.items new.lines.line (omega (arith, long)) in
        cc
    counted (inr (inr e)) = inl e

reads_fault : (place : List ℕ → Option ℕ) (text taken : List ℕ) (before over : Type 0) (s : List LineMeaning) (n : ℕ) (fault : LineFault) (old : TraceLines) (new : Reading) → GoesOn place text before s n old → IsStep true old.lines new taken → ((old.lines.is_over ≡ true → before) → new.is_over ≡ true → over)
    → said old.text.items (line_of place new.line) ≡ Err fault → IsRead (text ++ taken) (n + 1) fault over
reads_fault place text taken before over s n fault old new goes step ended h = counted (whole_step text taken n old new goes.2 step)
  where
    counted : new.is_over ≡ true ⊎ length new.line ≡ 8241 ⊎ whole_lines (text ++ taken) ≡ (n + 1) + whole_lines new.rest → IsRead (text ++ taken) (n + 1) fault over
    counted (inl e) = inr (inl (ended goes.1 e))
    counted (inr (inl long)) =
        let same : said old.text.items (line_of place new.line) ≡ Err TooLong = too_long_said place old.text.items new.line (omega (arith, long)) in
        let is : fault ≡ TooLong = cc in
        inr (inr is)
    counted (inr (inr e)) = inl (omega (arith, e))

-- a line has a fault, by itself or behind the text
pub stands_at_fault : (place : List ℕ → Option ℕ) (text taken : List ℕ) (before over : Type 0) (s : List LineMeaning) (n : ℕ) (fault : LineFault) (old new : TraceLines) → GoesOn place text before s n old → IsStep true old.lines new.lines taken → ((old.lines.is_over ≡ true → before) → new.lines.is_over ≡ true → over)
    → said old.text.items (line_of place new.lines.line) ≡ Err fault → Stands place (text ++ taken) over (s ++ []) (n + 1) new (Some (Fault (Line (n + 1) fault)))
stands_at_fault place text taken before over s n fault old new goes step ended h = (
  follows_fault place text taken s n fault old new.lines goes.0 step h ∙ ap (λ xs. tells xs (Some (n + 1, fault))) (sym (append-nil s)),
  reads_fault place text taken before over s n fault old new.lines goes step ended h,
)

-- a line that says something, or nothing, was taken up
pub taken_up : (place : List ℕ → Option ℕ) (text taken : List ℕ) (before over : Type 0) (s : List LineMeaning) (n : ℕ) (meant : Option LineMeaning) (piece : List ℕ) (result : Result (Option Event) Stop) (old new : TraceLines)
    → GoesOn place text before s n old → IsStep true old.lines new.lines taken → ((old.lines.is_over ≡ true → before) → new.lines.is_over ≡ true → over) → line_of place new.lines.line ≡ Ok meant
    → TakesUp old.text.items meant (n + 1) piece result new.text.items new.rules.items
    → Stands place (text ++ taken) over (s ++ meanings_in piece new.rules.items result) (n + 1) new (stop_of result)
taken_up place text taken before over s n meant piece (Ok None) old new goes step ended is up =
    goes_on_line place text taken before over s n None old new goes step ended (ap (said old.text.items) is ∙ up)
taken_up place text taken before over s n meant piece (Ok (Some event)) old new goes step ended is up =
    subst (λ xs. GoesOn place (text ++ taken) over (s ++ xs) (n + 1) new) (sym up.2) (goes_on_line place text taken before over s n (Some up.0) old new goes step ended (ap (said old.text.items) is ∙ up.1))
taken_up place text taken before over s n meant piece (Err (Table c)) old new goes step ended is up =
    subst (λ xs. GoesOn place (text ++ taken) over (xs ++ (Listed c ∷ [])) (n + 1) new) (sym (append-nil s)) (goes_on_line place text taken before over s n (Some (Listed c)) old new goes step ended (ap (said old.text.items) is ∙ up))
taken_up place text taken before over s n meant piece (Err (Fault (Line m fault))) old new goes step ended is up =
    subst (λ (k : ℕ). Stands place (text ++ taken) over (s ++ []) (n + 1) new (Some (Fault (Line k fault)))) (sym up.0) (stands_at_fault place text taken before over s n fault old new goes step ended (ap (said old.text.items) is ∙ up.1))
taken_up place text taken before over s n meant piece (Err (Fault Memory)) old new goes step ended is up =
    subst (λ xs. MeansFirst place (text ++ taken) xs) (sym (append-nil s)) (means_first place text taken s n old goes.0 step.none_after_end)
taken_up place text taken before over s n meant piece (Err (Fault ReadingFails)) old new goes step ended is up = absurd up
taken_up place text taken before over s n meant piece (Err (Fault Writing)) old new goes step ended is up = absurd up
taken_up place text taken before over s n meant piece (Err End) old new goes step ended is up = absurd up

-- a line that is read has a fault, or says something or nothing
pub line_is_faulty : (piece : List ℕ) (fault : LineFault) (r : Result (Option Entry) LineFault) (means : Result (Option LineMeaning) LineFault) → r ≡ Err fault → line_as_meaning piece r ≡ means → means ≡ Err fault
line_is_faulty piece fault r means is e = sym e ∙ rw is refl

pub line_has_meant : (piece : List ℕ) (entry : Option Entry) (r : Result (Option Entry) LineFault) (means : Result (Option LineMeaning) LineFault) → r ≡ Ok entry → line_as_meaning piece r ≡ means → means ≡ Ok (line_meant piece entry)
line_has_meant piece None r means is e = sym e ∙ rw is refl
line_has_meant piece (Some entry) r means is e = sym e ∙ rw is refl
