use Rattle.std.proofs.Common.{◌≡◌, ◌∙◌, ℕ, List, sym, subst, inl, rules}
use Rattle.std.specs.Prelude.{Result, Ok, Err}
use Rattle.rs_policy.specs.Configuration.{Configuration}
use Rattle.rs_core.specs.declared.route_server.Core.{Core}
use Rattle.rs_trace.specs.declared.names.Names.{Names}
use Rattle.rs_trace.specs.declared.fault.ReplayFault.{ReplayFault}
use Rattle.rs_trace.specs.Replays.{AreNamesOf, IsPlayed, PlaysOut, PlaysTo}
use Rattle.rs_trace.proofs.Replaying.{played_at, played_out}
use Rattle.rs_trace.proofs.replay.play_through.Goals as goal

-- by whatever names the reader and the writer go at the end
plays_at : {R W : Type 0} (takes : R → List ℕ → R → Type 0) (at_end : R → Type 0) (puts : W → List ℕ → W → Type 0)
    (settings : Configuration) (names : Names) (first : R) (to : W) (core : Core) (answer : Result (Unit {0}) ReplayFault) (reader last : R) (writer wrote : W)
    → reader ≡ last → writer ≡ wrote → PlaysTo settings takes at_end puts names first to reader writer core answer → PlaysTo settings takes at_end puts names first to last wrote core answer
plays_at takes at_end puts settings names first to core answer reader last writer wrote e f h =
    subst (λ r. PlaysTo settings takes at_end puts names first to r wrote core answer) e
    (subst (λ w. PlaysTo settings takes at_end puts names first to reader w core answer) f h)

pub returns-in-Ok-play_on-clause-played : goal.returns-in-Ok-play_on-clause-played
returns-in-Ok-play_on-clause-played g c =
    let first = c.args.reader.now in
    let to = c.args.writer.now in
    let made = c.new-recording.result in
    let last = c.play_on.new.recording in
    let reads = c.play_on.ensures.reader ∙ c.new-recording.ensures.reader in
    let writes = c.play_on.ensures.writer ∙ c.new-recording.ensures.writer in
    let named : AreNamesOf made.names.now c.args.config = subst (λ ns. AreNamesOf ns c.args.config) (sym c.new-recording.ensures.names) c.in-Ok.ensures.kept in
    let out : PlaysOut c.args.config g.R.TextIn.takes g.R.TextIn.at_end g.W.TextOut.puts made.names.now first to last.reader.now last.writer.now (Ok tt) =
    subst (λ a. PlaysOut c.args.config g.R.TextIn.takes g.R.TextIn.at_end g.W.TextOut.puts made.names.now a to last.reader.now last.writer.now (Ok tt)) c.new-recording.ensures.given
    (subst (λ b. PlaysOut c.args.config g.R.TextIn.takes g.R.TextIn.at_end g.W.TextOut.puts made.names.now made.reader.now b last.reader.now last.writer.now (Ok tt)) c.new-recording.ensures.lent
    (c.in-Ok-play_on.ensures.played c.args.config c.in-Ok.ensures.count c.in-Ok.ensures.agrees).out) in
    let played : IsPlayed c.args.config (λ text. g.R.TextIn.takes first text last.reader.now) (g.R.TextIn.at_end last.reader.now) (λ octets. g.W.TextOut.puts to octets last.writer.now) (Ok tt) =
    played_out g.R.TextIn.takes g.R.TextIn.at_end g.W.TextOut.puts c.args.config made.names.now first to last.reader.now last.writer.now (Ok tt) named out in
    inl (played_at g.R.TextIn.takes g.R.TextIn.at_end g.W.TextOut.puts c.args.config first to (Ok tt) last.reader.now _ last.writer.now _ (search rules) (search rules) played)

pub returns-in-Ok-play_on-clause-through : goal.returns-in-Ok-play_on-clause-through
returns-in-Ok-play_on-clause-through g c =
    let first = c.args.reader.now in
    let to = c.args.writer.now in
    let made = c.new-recording.result in
    let last = c.play_on.new.recording in
    let core = c.play_on.new.core in
    let reads = c.play_on.ensures.reader ∙ c.new-recording.ensures.reader in
    let writes = c.play_on.ensures.writer ∙ c.new-recording.ensures.writer in
    let plays : PlaysTo c.args.config g.R.TextIn.takes g.R.TextIn.at_end g.W.TextOut.puts made.names.now first to last.reader.now last.writer.now core (Ok tt) =
    subst (λ a. PlaysTo c.args.config g.R.TextIn.takes g.R.TextIn.at_end g.W.TextOut.puts made.names.now a to last.reader.now last.writer.now core (Ok tt)) c.new-recording.ensures.given
    (subst (λ b. PlaysTo c.args.config g.R.TextIn.takes g.R.TextIn.at_end g.W.TextOut.puts made.names.now made.reader.now b last.reader.now last.writer.now core (Ok tt)) c.new-recording.ensures.lent
    (c.in-Ok-play_on.ensures.played c.args.config c.in-Ok.ensures.count c.in-Ok.ensures.agrees)) in
    record {
      names = made.names.now;
      named = subst (λ ns. AreNamesOf ns c.args.config) (sym c.new-recording.ensures.names) c.in-Ok.ensures.kept;
      told = c.in-Ok.ensures.names;
      plays = plays_at g.R.TextIn.takes g.R.TextIn.at_end g.W.TextOut.puts c.args.config made.names.now first to core (Ok tt) last.reader.now _ last.writer.now _ (search rules) (search rules) plays;
    }

pub returns-in-Err-clause-played : goal.returns-in-Err-clause-played
returns-in-Err-clause-played g c =
    let first = c.args.reader.now in
    let to = c.args.writer.now in
    let made = c.new-recording.result in
    let last = c.play_on.new.recording in
    let answer : Result (Unit {0}) ReplayFault = Err c.in-Err.fault in
    let reads = c.play_on.ensures.reader ∙ c.new-recording.ensures.reader in
    let writes = c.play_on.ensures.writer ∙ c.new-recording.ensures.writer in
    let named : AreNamesOf made.names.now c.args.config = subst (λ ns. AreNamesOf ns c.args.config) (sym c.new-recording.ensures.names) c.in-Ok.ensures.kept in
    let out : PlaysOut c.args.config g.R.TextIn.takes g.R.TextIn.at_end g.W.TextOut.puts made.names.now first to last.reader.now last.writer.now answer =
    subst (λ a. PlaysOut c.args.config g.R.TextIn.takes g.R.TextIn.at_end g.W.TextOut.puts made.names.now a to last.reader.now last.writer.now answer) c.new-recording.ensures.given
    (subst (λ b. PlaysOut c.args.config g.R.TextIn.takes g.R.TextIn.at_end g.W.TextOut.puts made.names.now made.reader.now b last.reader.now last.writer.now answer) c.new-recording.ensures.lent
    (c.in-Err.ensures.played c.args.config c.in-Ok.ensures.count c.in-Ok.ensures.agrees).out) in
    let played : IsPlayed c.args.config (λ text. g.R.TextIn.takes first text last.reader.now) (g.R.TextIn.at_end last.reader.now) (λ octets. g.W.TextOut.puts to octets last.writer.now) answer =
    played_out g.R.TextIn.takes g.R.TextIn.at_end g.W.TextOut.puts c.args.config made.names.now first to last.reader.now last.writer.now answer named out in
    inl (played_at g.R.TextIn.takes g.R.TextIn.at_end g.W.TextOut.puts c.args.config first to answer last.reader.now _ last.writer.now _ (search rules) (search rules) played)
