use Rattle.std.proofs.Common.{ℕ, map}
use Rattle.std.specs.List.{AllByRecursion}
use Rattle.rs_adjin.specs.declared.adj_ins.AdjIns.{AdjIns}
use Rattle.rs_outlet.specs.declared.answers.Speech.{Speech}
use Rattle.rs_outlet.specs.Decided.Due.{Held}
use Rattle.rs_outlet.specs.Decided.News.{change_of}
use Rattle.rs_outlet.specs.Decided.Plans.{news_within}
use Rattle.rs_outlet.specs.Decided.Precedents.{AreDueAlike, AreKnown}
use Rattle.rs_outlet.proofs.precedent.wholes_of.Given as goal

abbrev pub invariant-loop-index : goal.invariant-loop-index
invariant-loop-index l = record {
  known : (t : Held) (ins : AdjIns) (c : ℕ) (speech : Speech) → AreKnown t ins c speech l.fn.known → AreKnown t ins c speech l.known;
  due : (t : Held) (ins : AdjIns) (c : ℕ) (speech : Speech) → AreKnown t ins c speech l.fn.known → AreDueAlike t ins c speech l.changes → AllByRecursion (λ w. AreDueAlike t ins c speech (map change_of (news_within w))) l.wholes.items;
}
