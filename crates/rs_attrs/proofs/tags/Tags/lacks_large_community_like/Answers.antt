use Rattle.std.proofs.Common.{ap, sym, ◌∙◌, bit_and}
use Rattle.rs_attrs.specs.Marks.{mark_of}
use Rattle.rs_attrs.proofs.Unmarked.{given_alone, none_like_large}
use Rattle.rs_attrs.proofs.tags.Tags.lacks_large_community_like.Goals as goal

pub returns : goal.returns
returns c _ =
    let h = c.in-Some.global in
    let marks = c.args.self.now.marks.large in
    none_like_large c.args.pattern.now marks (mark_of h) _ (ap (bit_and marks) (sym c.mark_of.ensures) ∙ c.if-self-mark_of-eq0.true) c.args.self.now.large_marked (given_alone c.args.pattern.now.global h c.in-Some.is)
