-- What was written, and where a replay stands, after a line of output or a line of the trace.
use Rattle.std.proofs.Common.{◌≡◌, ℕ, List, [], ◌∷◌, ◌++◌, take, drop, refl, sym, ◌∙◌, ap, true, false, inl, inr, Option, Some, None, append_assoc, subst}
use Rattle.std.specs.Prelude.{Result, Ok, Err, OnOk, is_ok}
use Rattle.std.proofs.lemmas.List.{append-nil, take-append-drop}
use Rattle.rs_core.specs.Drives.Steps as links
use Rattle.rs_core.specs.declared.links.Event.{Event}
use Rattle.rs_trace.specs.declared.fault.ReplayFault.TheVariants.{Line, Memory, Reading, Writing}
use Rattle.rs_trace.specs.declared.fault.Stop.{Stop}
use Rattle.rs_trace.specs.declared.names.Names.{Names}
use Rattle.rs_trace.specs.declared.fault.Stop.TheVariants.{End, Table, Fault}
use Rattle.rs_trace.specs.declared.trace_lines.TraceLines.{TraceLines}
use Rattle.rs_trace.specs.Trace.{LineMeaning, Listed}
use Rattle.rs_trace.specs.Played.{MeansFirst, Stands, PutsFront, Puts, failed, failures_read, failures_written, meaning_of_event}
use Rattle.rs_trace.specs.Replays.{Adds, Happens, Plays, FailsOn, ReadsOn, meaning_read, place_in, stop_of}
use Rattle.rs_trace.proofs.ReplayLemmas.{means_first_now, means_all, means_less}

module _ (put : List ℕ → Type 0) (octets : List ℕ) where
  -- what goes on has put all
  pub puts_all : (stop : Option Stop) → failed stop ≡ false → Puts put octets stop → put octets
  puts_all None h p = p
  puts_all (Some End) h p = p
  puts_all (Some (Table c)) h p = p
  puts_all (Some (Fault (Line m fault))) h p = p
  puts_all (Some (Fault Memory)) h p = let bad : true ≡ false = h in cc
  puts_all (Some (Fault Reading)) h p = let bad : true ≡ false = h in cc
  puts_all (Some (Fault Writing)) h p = let bad : true ≡ false = h in cc

  more_front : (wanted : List ℕ) → PutsFront put octets → PutsFront put (octets ++ wanted)
  more_front wanted p = (p.0, p.1 ++ wanted, ap (λ xs. xs ++ wanted) p.2 ∙ append_assoc p.0 p.1 wanted, p.3)

  -- after a failure a front stays one
  pub puts_no_more : (wanted : List ℕ) (stop : Option Stop) → failed stop ≡ true → Puts put octets stop → Puts put (octets ++ wanted) stop
  puts_no_more wanted None h p = let bad : false ≡ true = h in cc
  puts_no_more wanted (Some End) h p = let bad : false ≡ true = h in cc
  puts_no_more wanted (Some (Table c)) h p = let bad : false ≡ true = h in cc
  puts_no_more wanted (Some (Fault (Line m fault))) h p = let bad : false ≡ true = h in cc
  puts_no_more wanted (Some (Fault Memory)) h p = more_front wanted p
  puts_no_more wanted (Some (Fault Reading)) h p = more_front wanted p
  puts_no_more wanted (Some (Fault Writing)) h p = more_front wanted p

  -- and so it is with a part of what comes after it
  pub front_of_part : (wanted : List ℕ) (n : ℕ) → put (octets ++ take n wanted) → PutsFront put (octets ++ wanted)
  front_of_part wanted n p =
      (octets ++ take n wanted, drop n wanted, ap (λ xs. octets ++ xs) (sym (take-append-drop n wanted)) ∙ sym (append_assoc octets (take n wanted) (drop n wanted)), p)

module _ (place : List ℕ → Option ℕ) (text : List ℕ) (over : Type 0) (s : List LineMeaning) (n : ℕ) (r : TraceLines) where
  -- wherever it stands, these meanings are what the text says first
  pub stands_first : (stop : Option Stop) → Stands place text over s n r stop → MeansFirst place text s
  stands_first None h = means_first_now place text s n r h.0
  stands_first (Some End) h = means_all place text s None h.0
  stands_first (Some (Table c)) h = means_less place text s (Listed c ∷ []) (means_first_now place text (s ++ (Listed c ∷ [])) n r h.0)
  stands_first (Some (Fault (Line m fault))) h = means_all place text s (Some (m, fault)) h.0
  stands_first (Some (Fault Memory)) h = h
  stands_first (Some (Fault Reading)) h = h
  stands_first (Some (Fault Writing)) h = h

-- what the text says first stays so with nothing more
pub still_first : (place : List ℕ → Option ℕ) (text : List ℕ) (s : List LineMeaning) → MeansFirst place text s → MeansFirst place text (s ++ [])
still_first place text s h = subst (λ xs. MeansFirst place text xs) (sym (append-nil s)) h

-- where it stands after a line of output
pub stands_after : (place : List ℕ → Option ℕ) (text : List ℕ) (over : Type 0) (s : List LineMeaning) (n : ℕ) (r : TraceLines) (stop after : Option Stop) → FailsOn stop after → Stands place text over s n r stop → Stands place text over s n r after
stands_after place text over s n r stop after (inl e) h = subst (λ x. Stands place text over s n r x) (sym e) h
stands_after place text over s n r stop after (inr (inl e)) h = subst (λ x. Stands place text over s n r x) (sym e.1) (stands_first place text over s n r stop h)
stands_after place text over s n r stop after (inr (inr e)) h = subst (λ x. Stands place text over s n r x) (sym e.1) (stands_first place text over s n r stop h)

-- a line of output is written that no step asks for
pub adds_line : {R W G : Type 0} (takes : R → List ℕ → R → Type 0) (at_end : R → Type 0) (fails : R → ℕ) (puts : W → List ℕ → W → Type 0) (loses : W → ℕ)
    (names : Names) (reads writes : G) (reader : R) (writer written : W) (r : TraceLines) (n : ℕ) (stop after : Option Stop) (line : List ℕ)
    → ((to : W) (octets : List ℕ) → Puts (λ xs. puts to xs writer) octets stop → Puts (λ xs. puts to xs written) (octets ++ line) after)
    → FailsOn stop after
    → ((k : ℕ) → failures_read after k ≡ failures_read stop k)
    → ((k : ℕ) → loses writer ≡ failures_written stop k → loses written ≡ failures_written after k)
    → Adds takes at_end fails puts loses names reads writes reader writer r n stop line names reads writes reader written r n after
adds_line takes at_end fails puts loses names reads writes reader writer written r n stop after line put on read lost =
    record {
      same_names = refl;
      same_reader = refl;
      same_writer = refl;
      goes = λ first to s o p. record {
        text = p.text;
        taken = p.taken;
        stands = stands_after (place_in names) p.text (at_end reader) s n r stop after on p.stands;
        put = put to o p.put;
        reads = p.reads ∙ sym (read (fails first));
        writes = lost (loses to) p.writes;
      };
    }

-- first what says nothing is read, and then more
pub reads_twice : {R : Type 0} (takes : R → List ℕ → R → Type 0) (at_end : R → Type 0) (place : List ℕ → Option ℕ) → ((a b c : R) (xs ys : List ℕ) → takes a xs b → takes b ys c → takes a (xs ++ ys) c)
    → (one two three : R) (n m k : ℕ) (r q p : TraceLines) (more : List LineMeaning) (stop : Option Stop) → ReadsOn takes at_end place one n r two m q [] None → ReadsOn takes at_end place two m q three k p more stop
    → ReadsOn takes at_end place one n r three k p more stop
reads_twice takes at_end place on one two three n m k r q p more stop first then_so text s h =
    let a = first text s h in
    let b = then_so (text ++ a.0) (s ++ []) a.2 in (
      a.0 ++ b.0,
      on one two three a.0 b.0 a.1 b.1,
      subst (λ (xs : List ℕ). Stands place xs (at_end three) (s ++ more) k p stop) (append_assoc text a.0 b.0)
          (subst (λ xs. Stands place ((text ++ a.0) ++ b.0) (at_end three) xs k p stop) (ap (λ xs. xs ++ more) (append-nil s)) b.2),
    )

-- what goes for an Ok goes for what follows from it
pub on_ok : {A B : Type 0} {P Q : Type 0} (r : Result A B) → OnOk r P → (P → Q) → OnOk r Q
on_ok (Ok value) p f = f p
on_ok (Err e) p f = p

pub made_so : {A B : Type 0} {P : Type 0} (r : Result A B) → is_ok r ≡ true → OnOk r P → P
made_so (Ok value) h p = p
made_so (Err e) h p = let bad : false ≡ true = h in cc

-- what was put is put whatever comes then
pub any_puts : (put : List ℕ → Type 0) (octets : List ℕ) (stop : Option Stop) → put octets → Puts put (octets ++ []) stop
any_puts put octets None p = subst put (sym (append-nil octets)) p
any_puts put octets (Some End) p = subst put (sym (append-nil octets)) p
any_puts put octets (Some (Table c)) p = subst put (sym (append-nil octets)) p
any_puts put octets (Some (Fault (Line m fault))) p = subst put (sym (append-nil octets)) p
any_puts put octets (Some (Fault Memory)) p = (octets, [], refl, p)
any_puts put octets (Some (Fault Reading)) p = (octets, [], refl, p)
any_puts put octets (Some (Fault Writing)) p = (octets, [], refl, p)

module _ {R W G : Type 0} (takes : R → List ℕ → R → Type 0) (at_end : R → Type 0) (fails : R → ℕ) (puts : W → List ℕ → W → Type 0) (loses : W → ℕ)
    (on : (a b c : R) (xs ys : List ℕ) → takes a xs b → takes b ys c → takes a (xs ++ ys) c)
    (names : Names) (reads_by writes_by : G) (reader later : R) (writer : W) (r q : TraceLines) (n m : ℕ) (stop after : Option Stop) (piece : List ℕ) (read : Result Event Stop) (event : Event) where
  -- a line was read, and the core is given the event that it says; or no further line asks for anything, and the event says so
  pub read_on : stop ≡ None → stop_of read ≡ after → meaning_read piece q.rules.items read ≡ meaning_of_event event (links.octets_of event piece q.rules.items)
      → ReadsOn takes at_end (place_in names) reader n r later m q (meaning_read piece q.rules.items read) (stop_of read)
      → fails later ≡ failures_read (stop_of read) (fails reader) → ((k : ℕ) → k ≡ failures_written (stop_of read) k)
      → Happens takes at_end fails puts loses names reads_by writes_by reader writer r n stop (links.Happened event (links.octets_of event piece q.rules.items)) names reads_by writes_by later writer q m after
  read_on none ends says reads count unwritten = record {
    same_names = refl;
    same_reader = refl;
    same_writer = refl;
    took = tt;
    goes = λ first to meanings octets p.
        let so = reads p.text meanings (subst (λ x. Stands (place_in names) p.text (at_end reader) meanings n r x) none p.stands) in
        subst (λ x. Plays takes at_end fails puts loses (place_in names) first to (meanings ++ meaning_of_event event (links.octets_of event piece q.rules.items)) (octets ++ []) later writer q m x) ends
        (record {
          text = p.text ++ so.0;
          taken = on first reader later p.text so.0 p.taken so.1;
          stands = subst (λ xs. Stands (place_in names) (p.text ++ so.0) (at_end later) (meanings ++ xs) m q (stop_of read)) says so.2;
          put = any_puts (λ xs. puts to xs writer) octets (stop_of read) (subst (λ x. Puts (λ xs. puts to xs writer) octets x) none p.put);
          reads = count ∙ ap (failures_read (stop_of read)) (subst (λ x. fails reader ≡ failures_read x (fails first)) none p.reads);
          writes = (subst (λ x. loses writer ≡ failures_written x (loses to)) none p.writes) ∙ unwritten (loses to);
        });
  }
