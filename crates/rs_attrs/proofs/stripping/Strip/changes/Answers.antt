use Rattle.std.proofs.Common.{sym, ◌∙◌, subst}
use Rattle.rs_attrs.specs.Writing.{IsLegal}
use Rattle.rs_attrs.specs.Stripping.{taken_by}
use Rattle.rs_attrs.proofs.Strips.StrippedLaws.{stripped_same}
use Rattle.rs_attrs.proofs.stripping.Strip.changes.Goals as goal

pub returns-else-changes_communities-clause-same : goal.returns-else-changes_communities-clause-same
returns-else-changes_communities-clause-same c none =
    stripped_same (taken_by c.args.self.now) c.args.attrs.now (subst IsLegal c.attrs.view_is c.attrs.invariant.legal)
    (sym c.changes_communities.ensures ∙ c.if-changes_communities.false) (sym c.changes_large.ensures ∙ none)
