use Rattle.std.proofs.Common.{List, sym, ap, subst, ◌∙◌}
use Rattle.rs_attrs.specs.declared.reading.field.Found.{Found}
use Rattle.rs_attrs.specs.Walking.{noted, AreRising}
use Rattle.rs_attrs.proofs.Fields.Placing.{place_in, put_noted, put_rising}
use Rattle.rs_attrs.proofs.reading.gathering.keep.Goals as goal

pub returns-clause-rising : goal.returns-clause-rising
returns-clause-rising c =
    subst AreRising (sym c.in_ok-insert.ensures.ok) (put_rising c.args.found c.args.kept.now.items c.place_of-at.result c.requires.rising (place_in _ _ _ _ c.as_slice.ensures c.place_of-at.ensures) c.requires.new)

pub returns-clause-noted : goal.returns-clause-noted
returns-clause-noted c = λ kind.
    ap (λ (kept : List Found). noted kept kind) c.in_ok-insert.ensures.ok
    ∙ put_noted c.args.found c.args.kept.now.items c.place_of-at.result kind (place_in _ _ _ _ c.as_slice.ensures c.place_of-at.ensures).within c.requires.new
