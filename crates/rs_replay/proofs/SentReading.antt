-- A text that is read line by line, and the connections that take what it says.
use Rattle.std.proofs.Common.{◌≡◌, ◌∙◌, ◌+◌, ℕ, true, false, List, [], ◌∷◌, ◌++◌, refl, sym, ap, subst}
use Rattle.std.specs.Prelude.{Option, Some, None, Result, Ok, Err}
use Rattle.rs_core.specs.declared.route_server.Core.{Core}
use Rattle.rs_trace.specs.declared.fault.ReplayFault.{ReplayFault}
use Rattle.rs_trace.specs.declared.fault.ReplayFault.TheVariants.{Line, Memory, Reading, Writing}
use Rattle.rs_trace.specs.declared.fault.Stop.TheVariants.{Fault}
use Rattle.rs_trace.specs.Lines as texts
use Rattle.rs_trace.specs.Played.{failures_read}
use Rattle.rs_replay.specs.declared.connection.Connection.{Connection}
use Rattle.rs_replay.specs.declared.sent.Next.{Next}
use Rattle.rs_replay.specs.declared.sent.Next.TheVariants as nexts
use Rattle.rs_replay.specs.declared.sent_lines.Entry.{Entry}
use Rattle.rs_replay.specs.Sent.{account}
use Rattle.rs_replay.specs.SentLines.{Said, said_in}
use Rattle.rs_replay.specs.Taking.{HaveTaken, Reads, ReadsNext, ReadsSent, ReadsUpTo, Stands, fails_by}

pub reads_first : {R : Type 0} (takes : R → List ℕ → R → Type 0) (takes_none : (a : R) → takes a [] a) (at_end : R → Type 0) (core : Core) (place : List ℕ → Option ℕ) (until : ℕ) (first : R)
    (r : texts.Reading) (connections : List Connection) → r ≡ record { line = []; rest = []; is_over = false } → HaveTaken core [] connections
    → ReadsUpTo takes at_end core place until first first 1 r connections
reads_first takes takes_none at_end core place until first r connections e have = record {
  text = [];
  entries = [];
  taken = takes_none first;
  stands = subst (λ (q : texts.Reading). Stands place until [] (at_end first) [] 1 q) (sym e)
      (record { follows = λ more none. refl; ended = λ over. let bad : false ≡ true = over in cc });
  have = have;
}

module _ {R : Type 0} (takes : R → List ℕ → R → Type 0) (takes_on : (a b c : R) (xs ys : List ℕ) → takes a xs b → takes b ys c → takes a (xs ++ ys) c) (at_end : R → Type 0) (core : Core)
    (place : List ℕ → Option ℕ) (until : ℕ) (first reader after : R) (n : ℕ) (r q : texts.Reading) (piece : List ℕ) (connections : List Connection)
    (up : ReadsUpTo takes at_end core place until first reader n r connections) where
  -- a line was read, with this answer
  abbrev Goes : Result Next ReplayFault → Type 0
  Goes result = (text : List ℕ) (entries : List Said) → Stands place until text (at_end reader) entries n r
      → (taken : List ℕ) × takes reader taken after × ReadsNext place until (text ++ taken) (at_end after) entries n q piece result

  pub reads_passed : (next : Next) → next ≡ nexts.Passed → Goes (Ok next) → ReadsUpTo takes at_end core place until first after (n + 1) q connections
  reads_passed next is goes =
      let on = subst (λ x. Goes (Ok x)) is goes up.text up.entries up.stands in
      record { text = up.text ++ on.0; entries = up.entries; taken = takes_on first reader after up.text on.0 up.taken on.1; stands = on.2; have = up.have }

  pub reads_said : (next : Next) (entry : Entry) (taking : List Connection) → next ≡ nexts.Said entry → Goes (Ok next)
      → ((entries : List Said) → HaveTaken core entries connections → HaveTaken core (entries ++ said_in piece entry ∷ []) taking)
      → ReadsUpTo takes at_end core place until first after (n + 1) q taking
  reads_said next entry taking is goes hears =
      let on = subst (λ x. Goes (Ok x)) is goes up.text up.entries up.stands in
      record {
        text = up.text ++ on.0;
        entries = up.entries ++ said_in piece entry ∷ [];
        taken = takes_on first reader after up.text on.0 up.taken on.1;
        stands = on.2;
        have = hears up.entries up.have;
      }

  pub reads_over : (next : Next) → next ≡ nexts.Over → Goes (Ok next) → (entries : List Said) × Reads takes at_end place until first after (account entries None) × HaveTaken core entries connections
  reads_over next is goes =
      let on = subst (λ x. Goes (Ok x)) is goes up.text up.entries up.stands in
      (up.entries, record { text = up.text ++ on.0; taken = takes_on first reader after up.text on.0 up.taken on.1; is = on.2 }, up.have)

  pub reads_bad : (fails : R → ℕ) (fault : ReplayFault) → Goes (Err fault) → fails after ≡ fails_by {A = Next} (Err fault) (fails reader) → fails reader ≡ fails first
      → ReadsSent takes at_end fails core place until first after (Err fault)
  reads_bad fails (Line m fault) goes failed same =
      let on = goes up.text up.entries up.stands in
      (up.entries, record { text = up.text ++ on.0; taken = takes_on first reader after up.text on.0 up.taken on.1; is = on.2 })
  reads_bad fails Memory goes failed same = tt
  reads_bad fails Reading goes failed same = failed ∙ ap (failures_read (Some (Fault Reading))) same
  reads_bad fails Writing goes failed same =
      let on = goes up.text up.entries up.stands in
      absurd on.2
