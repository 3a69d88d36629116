use Rattle.std.proofs.Common.{◌≡◌, ◌++◌, Bool, List, Option, Some, None, sym, ap, ◌∙◌}
use Rattle.std.specs.Prelude.{◌==◌}
use Rattle.std.specs.List.{find}
use Rattle.std.specs.Option.{option_or}
use Rattle.std.proofs.lemmas.List.Folds.{find-append}
use Rattle.rs_attrs.specs.declared.mode.Mode.TheVariants.{Two, Four}
use Rattle.rs_attrs.specs.Table.{common_rows, as4_rows, row_of, row_seen}
use Rattle.rs_attrs.proofs.table.row_of.Goals as goal

-- the first of some is the first of them and of others
in_first : {A : Type 0} (p : A → Bool) (xs ys : List A) (x : A) → Some x ≡ find p xs → Some x ≡ find p (xs ++ ys)
in_first p xs ys x e = sym (find-append p xs ys ∙ ap (λ o. option_or o (find p ys)) (sym e))

-- where none is among some, the first is that of the others
in_second : {A : Type 0} (p : A → Bool) (xs ys : List A) (o : Option A) → None ≡ find p xs → o ≡ find p ys → o ≡ find p (xs ++ ys)
in_second p xs ys o none e = e ∙ sym (find-append p xs ys ∙ ap (λ o. option_or o (find p ys)) (sym none))

pub returns-in-Some : goal.returns-in-Some
returns-in-Some c = in_first (λ r. r.kind == c.args.kind) common_rows (as4_rows c.args.mode) (row_seen c.in-Some.row) c.in-Some.ensures

pub returns-in-Four : goal.returns-in-Four
returns-in-Four c =
    in_second (λ r. r.kind == c.args.kind) common_rows (as4_rows Four) _ c.in-None.ensures c.row_in-in-Four.ensures
    ∙ ap (λ mode. row_of mode c.args.kind) (sym c.in-Four.is)

pub returns-in-Two : goal.returns-in-Two
returns-in-Two c =
    in_second (λ r. r.kind == c.args.kind) common_rows (as4_rows Two) _ c.in-None.ensures c.row_in-in-Two.ensures
    ∙ ap (λ mode. row_of mode c.args.kind) (sym c.in-Two.is)
