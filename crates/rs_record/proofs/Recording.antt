-- What each step adds to a record.
use Rattle.std.proofs.Common.{◌≡◌, ℕ, List, [], ◌∷◌, ◌++◌, refl, sym, ◌∙◌, ap, Bool, true, false, inl, inr, Option, Some, None, append_assoc, subst}
use Rattle.std.specs.Prelude.{is_none}
use Rattle.std.proofs.lemmas.List.{append-nil}
use Rattle.rs_core.specs.Drives.Steps.{Step, Happened}
use Rattle.rs_core.specs.declared.links.Event.{Event}
use Rattle.rs_trace.specs.Replays.{place_in}
use Rattle.rs_trace.specs.Trace.{LineMeaning}
use Rattle.rs_trace.specs.declared.names.Names.{Names}
use Rattle.rs_record.specs.declared.client_names.ClientNames.{ClientNames}
use Rattle.rs_record.specs.declared.event_lines.RecordFault.{RecordFault}
use Rattle.rs_record.specs.declared.recorder.Pending.{Pending}
use Rattle.rs_record.specs.Accounts.{Account, account, extended, newest, recorded, room_said}
use Rattle.rs_record.specs.Named.{count_of}
use Rattle.rs_record.specs.Records.{AddsLines, IsRecord, IsTaped, Keeps, goes}
use Rattle.rs_record.specs.Saying.{Says}
use Rattle.rs_record.specs.Tapes.{Takes}
use Rattle.rs_record.proofs.Saying.{says_none, say_in_turn}
use mathlib.Core.Bool.{true≢false}

pub adds_none : (names : Names) (line : List ℕ) → AddsLines names line line []
adds_none names line = record { lines = []; is = sym (append-nil line); says = says_none (place_in names) [] }

pub adds_then : (names : Names) (a b c : List ℕ) (ms ns : List LineMeaning) → AddsLines names a b ms → AddsLines names b c ns → AddsLines names a c (ms ++ ns)
adds_then names a b c ms ns first then_so = record {
  lines = first.lines ++ then_so.lines;
  is = then_so.is ∙ ap (λ xs. xs ++ then_so.lines) first.is ∙ append_assoc a first.lines then_so.lines;
  says = say_in_turn (place_in names) first.lines then_so.lines ms ns first.says then_so.says;
}

-- lines behind lines, where neither failed
pub adds_both : (old mid : ClientNames) (a b c : List ℕ) (ms : List LineMeaning) (ns : Names → List LineMeaning) (before after : Option RecordFault) → mid ≡ old → (after ≡ None → before ≡ None)
    → (before ≡ None → AddsLines old.names a b ms) → (after ≡ None → AddsLines mid.names b c (ns mid.names)) → after ≡ None → AddsLines old.names a c (ms ++ ns old.names)
adds_both old mid a b c ms ns before after same fine first then_so none =
    adds_then old.names a b c ms (ns old.names) (first (fine none)) (subst (λ (names : ClientNames). AddsLines names.names b c (ns names.names)) same (then_so none))

pub none_is : (o : Option RecordFault) → is_none o ≡ true → o ≡ None
none_is None h = refl
none_is (Some fault) h = let bad : false ≡ true = h in cc

pub none_not : (o : Option RecordFault) → is_none o ≡ false → o ≡ None → ⊥
none_not o h e = let bad : true ≡ false = rw e at h in cc

-- more lines behind those that were added and those that wait
says_more : (names : Names) (added line more_lines : List ℕ) (ms ns : List LineMeaning) → Says (place_in names) (added ++ line) ms → AddsLines names line more_lines ns → Says (place_in names) (added ++ more_lines) (ms ++ ns)
says_more names added line more_lines ms ns says adds =
    subst (λ xs. Says (place_in names) xs (ms ++ ns)) (append_assoc added line adds.lines ∙ ap (λ xs. added ++ xs) (sym adds.is)) (say_in_turn (place_in names) (added ++ line) adds.lines ms ns says adds.says)

went_on : (fault : Option RecordFault) (is_over : Bool) → goes fault is_over ≡ true → (fault ≡ None) × (is_over ≡ false)
went_on None false g = (refl, refl)
went_on None true g = let bad : false ≡ true = g in cc
went_on (Some fault) is_over g = let bad : false ≡ true = g in cc

goes_so : (fault : Option RecordFault) (is_over : Bool) → fault ≡ None → is_over ≡ false → goes fault is_over ≡ true
goes_so fault is_over f o = rw f (rw o refl)

-- where it goes on, it went on before
went_before : (fault later : Option RecordFault) (is_over : Bool) → (later ≡ None → fault ≡ None) → goes later is_over ≡ true → goes fault is_over ≡ true
went_before fault later is_over fine g =
    let now = went_on later is_over g in
    goes_so fault is_over (fine now.0) now.1

not_again : (a b : Bool) → (b ≡ true → a ≡ true) → a ≡ false → b ≡ false
not_again a true h is = absurd (true≢false (sym (h refl) ∙ is))
not_again a false h is = refl

abbrev longer : (names : Names) (step : Step) (steps : List Step) (held holds : List ℕ) → IsTaped names steps held holds → IsTaped names (step ∷ steps) held holds
longer names step steps held holds t = record { added = t.added; front = t.front; rest = step ∷ t.rest; parts = ap (λ s. step ∷ s) t.parts; is = t.is; says = t.says }

module _ (names : Names) (went : Bool) (held : List ℕ) (steps : List Step) (fault : Option RecordFault) (is_over : Bool) (holds line : List ℕ) (pending : Pending) where
  -- a step adds lines to those that wait
  pub keeps_more : (step : Step) (more : Pending → Account) (later : Option RecordFault) (more_lines : List ℕ) (waits : Pending)
      → account (count_of names) (step ∷ steps) ≡ extended (account (count_of names) steps).said (more (account (count_of names) steps).pending)
      → waits ≡ (more pending).pending → (later ≡ None → fault ≡ None) → (later ≡ None → AddsLines names line more_lines (more pending).said)
      → Keeps names went held steps fault is_over holds line pending → Keeps names went held (step ∷ steps) later is_over holds more_lines waits
  keeps_more step more later more_lines waits is at fine adds k = record {
    taped = longer names step steps held holds k.taped;
    kept = λ g.
        let kept = k.kept (went_before fault later is_over fine g) in
        let said = (account (count_of names) steps).said in
        let same : extended said (more pending) ≡ account (count_of names) (step ∷ steps) = ap (λ p. extended said (more p)) kept.waits ∙ sym is in
        record {
          says = subst (λ (a : Account). Says (place_in names) (k.taped.added ++ more_lines) a.said) same
              (says_more names k.taped.added line more_lines said (more pending).said kept.says (adds (went_on later is_over g).0));
          waits = at ∙ ap (λ (a : Account). a.pending) same;
        };
    over = λ w. ((k.over w).0, not_again (goes fault is_over) (goes later is_over) (went_before fault later is_over fine) (k.over w).1);
  }

  -- a step of which nothing is said
  pub keeps_on : (step : Step) → account (count_of names) (step ∷ steps) ≡ account (count_of names) steps → Keeps names went held steps fault is_over holds line pending → Keeps names went held (step ∷ steps) fault is_over holds line pending
  keeps_on step is k = record {
    taped = longer names step steps held holds k.taped;
    kept = λ g.
        let kept = k.kept g in
        record {
          says = subst (λ (a : Account). Says (place_in names) (k.taped.added ++ line) a.said) (sym is) kept.says;
          waits = kept.waits ∙ ap (λ (a : Account). a.pending) (sym is);
        };
    over = k.over;
  }

  -- the newest event is over, and the tape was given its lines
  pub closes_taken : (later : Option RecordFault) (more_lines : List ℕ) (over_now : Bool) (holds_now : List ℕ) → later ≡ None → (later ≡ None → fault ≡ None) → (later ≡ None → AddsLines names line more_lines (room_said (count_of names) pending))
      → Takes is_over holds more_lines over_now holds_now → Keeps names went held steps fault is_over holds line pending → IsRecord names went steps later over_now held holds_now
  closes_taken later more_lines over_now holds_now none fine adds takes k = by is_over refl takes
    where
      -- nothing was taken
      stays : holds_now ≡ holds → over_now ≡ true → IsRecord names went steps later over_now held holds_now
      stays same over = record {
        taped = record { added = k.taped.added; front = k.taped.front; rest = k.taped.rest; parts = k.taped.parts; is = same ∙ k.taped.is; says = k.taped.says };
        whole = λ g. absurd (true≢false (sym over ∙ (went_on later over_now g).1));
        over = λ w. (same ∙ (k.over w).0, not_again false (goes later over_now) (λ g. absurd (true≢false (sym over ∙ (went_on later over_now g).1))) refl);
      }

      takes_all : is_over ≡ false → holds_now ≡ holds ++ more_lines → over_now ≡ false → IsRecord names went steps later over_now held holds_now
      takes_all went_on_so all not_over =
          let g = goes_so fault is_over (fine none) went_on_so in
          let kept = k.kept g in
          let says = says_more names k.taped.added line more_lines (account (count_of names) steps).said (room_said (count_of names) pending) kept.says (adds none) in
          record {
            taped = record {
              added = k.taped.added ++ more_lines;
              front = steps;
              rest = [];
              parts = refl;
              is = all ∙ ap (λ xs. xs ++ more_lines) k.taped.is ∙ append_assoc held k.taped.added more_lines;
              says = subst (λ p. Says (place_in names) (k.taped.added ++ more_lines) ((account (count_of names) steps).said ++ room_said (count_of names) p)) kept.waits says;
            };
            whole = λ h. refl;
            over = λ w. absurd (true≢false (sym g ∙ (k.over w).1));
          }

      by : (b : Bool) → is_over ≡ b → Takes b holds more_lines over_now holds_now → IsRecord names went steps later over_now held holds_now
      by true was takes = stays takes.1 takes.0
      by false was (inl takes) = takes_all was takes.1 takes.0
      by false was (inr takes) = stays takes.1 takes.0

  -- or it wasn't, since they could not be made
  pub closes_faulty : (later : Option RecordFault) → (later ≡ None → ⊥) → Keeps names went held steps fault is_over holds line pending → IsRecord names went steps later is_over held holds
  closes_faulty later failed k = record {
    taped = k.taped;
    whole = λ g. absurd (failed (went_on later is_over g).0);
    over = λ w. ((k.over w).0, not_again false (goes later is_over) (λ g. absurd (failed (went_on later is_over g).0)) refl);
  }

  -- an event comes
  pub begins : (event : Event) (octets : List ℕ) (later : Option RecordFault) (more_lines : List ℕ) (waits : Pending)
      → line ≡ [] → waits ≡ (newest (count_of names) event octets).pending → (later ≡ None → fault ≡ None) → (later ≡ None → AddsLines names line more_lines (newest (count_of names) event octets).said)
      → IsRecord names went steps fault is_over held holds → Keeps names went held (Happened event octets ∷ steps) later is_over holds more_lines waits
  begins event octets later more_lines waits empty at fine adds r = record {
    taped = longer names (Happened event octets) steps held holds r.taped;
    kept = λ g.
        let whole = r.whole (went_before fault later is_over fine g) in
        let all : r.taped.front ≡ steps = sym (r.taped.parts ∙ ap (λ xs. xs ++ r.taped.front) whole) in
        let says : Says (place_in names) r.taped.added (recorded (count_of names) steps) = subst (λ s. Says (place_in names) r.taped.added (recorded (count_of names) s)) all r.taped.says in
        let before : Says (place_in names) (r.taped.added ++ line) (recorded (count_of names) steps) = subst (λ xs. Says (place_in names) xs (recorded (count_of names) steps)) (sym (append-nil r.taped.added) ∙ ap (λ xs. r.taped.added ++ xs) (sym empty)) says in
        record {
          says = says_more names r.taped.added line more_lines (recorded (count_of names) steps) (newest (count_of names) event octets).said before (adds (went_on later is_over g).0);
          waits = at;
        };
    over = λ w. ((r.over w).0, not_again (goes fault is_over) (goes later is_over) (went_before fault later is_over fine) (r.over w).1);
  }

-- nothing was recorded yet
pub keeps_first : (names : Names) (fault : Option RecordFault) (is_over : Bool) (holds line : List ℕ) (pending : Pending) → line ≡ [] → pending ≡ (account (count_of names) []).pending → Keeps names (goes fault is_over) holds [] fault is_over holds line pending
keeps_first names fault is_over holds line pending empty at = record {
  taped = record { added = []; front = []; rest = []; parts = refl; is = sym (append-nil holds); says = says_none (place_in names) [] };
  kept = λ g. record { says = subst (λ xs. Says (place_in names) xs []) (sym empty) (says_none (place_in names) []); waits = at };
  over = λ w. (refl, w);
}
