use Rattle.std.proofs.Common.{rules, ◌≡◌, []}
use Rattle.rs_record.specs.Accounts.{lost}
use Rattle.rs_record.specs.Named.{count_of}
use Rattle.rs_record.specs.declared.recorder.Pending.TheVariants.{Heard}
use Rattle.rs_record.proofs.Recording.{adds_both}
use Rattle.rs_record.proofs.recorder.Recorder.refused.Goals as goal

pub returns-then-eq-clause-says : goal.returns-then-eq-clause-says
returns-then-eq-clause-says c =
    let heard : c.args.self.now.pending ≡ Heard = search rules in
    rw heard (adds_both c.args.self.now.names c.comment.new.self.names c.args.self.now.line.items c.comment.new.self.line.items c.lose.new.self.line.items []
    (λ names. lost (count_of names) c.args.c) c.comment.new.self.fault c.lose.new.self.fault c.comment.ensures.names c.lose.ensures.fine c.comment.ensures.says c.lose.ensures.says)
