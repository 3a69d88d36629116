use Rattle.std.proofs.Common.{length}
use Rattle.rs_texts.proofs.joined.Joined.+put_all.Given as goal

-- the texts that are left
abbrev pub decreases-put_all : goal.decreases-put_all
decreases-put_all g l = length l.texts.now
