use Rattle.std.proofs.Common.{◌≡◌, sym, ap, ◌∙◌, subst}
use Rattle.rs_attrs.specs.Meaning.{get}
use Rattle.rs_attrs.specs.Writing.{IsLegal}
use Rattle.rs_attrs.specs.Getters.{communities_of, large_communities_of}
use Rattle.rs_attrs.specs.Stripping.{stripped_of, taken_by}
use Rattle.rs_attrs.proofs.Strips.Communities.{left_whole}
use Rattle.rs_attrs.proofs.Strips.StrippedLegal.{stripped_legal}
use Rattle.rs_attrs.proofs.Strips.StrippedLaws.{others_stay, stripped_communities, stripped_large}
use Rattle.rs_attrs.proofs.stripping.stripped.Goals as goal

-- what is made is what is meant
held : (c : goal.After-of) → c.of.result ≡ stripped_of (taken_by c.args.strip.now) c.args.attrs.now
held c = c.of.ensures ∙ left_whole (taken_by c.args.strip.now) _ _ _ _ _ c.loop-head-test.false c.loop-head.invariant.left

legal : (c : goal.After-of) → IsLegal c.args.attrs.now
legal c = subst IsLegal c.attrs.view_is c.attrs.invariant.legal

pub of-requires-clause-legal : goal.of-requires-clause-legal
of-requires-clause-legal c =
    let whole = left_whole (taken_by c.args.strip.now) _ _ _ _ _ c.loop-head-test.false c.loop-head.invariant.left in
    subst IsLegal (sym whole) (stripped_legal (taken_by c.args.strip.now) c.args.attrs.now (subst IsLegal c.attrs.view_is c.attrs.invariant.legal))

pub returns-clause-communities : goal.returns-clause-communities
returns-clause-communities c = ap communities_of (held c) ∙ stripped_communities (taken_by c.args.strip.now) c.args.attrs.now (legal c)

pub returns-clause-large : goal.returns-clause-large
returns-clause-large c = ap large_communities_of (held c) ∙ stripped_large (taken_by c.args.strip.now) c.args.attrs.now (legal c)

pub returns-clause-others : goal.returns-clause-others
returns-clause-others c kind other another = ap (get kind) (held c) ∙ others_stay (taken_by c.args.strip.now) kind c.args.attrs.now other another

pub of-requires-clause-size : goal.of-requires-clause-size
of-requires-clause-size c = c.loop-head.invariant.size

pub returns-clause-value : goal.returns-clause-value
returns-clause-value c = held c
