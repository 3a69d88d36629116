use Rattle.std.proofs.Common.{◌∙◌, ◌++◌, [], ◌∷◌, ap, sym}
use Rattle.std.specs.Prelude.{codes, string_bytes}
use Rattle.rs_replay.proofs.Lines.{lines_more, three_more}
use Rattle.rs_replay.proofs.tables.table_lines.Goals as goal

pub loop-name-preserved : goal.loop-name-preserved
loop-name-preserved c =
    let name = c.name-item.result in
    three_more c.loop-name.lines.items (10 ∷ codes "table ") (string_bytes name) (10 ∷ []) c.extend_from_slice.new.self.items c.extend_from_slice-in-loop-name.new.self.items
    c.extend_from_slice-in-loop-name-2.new.self.items c.in_ok-extend_from_slice.ensures.items
    (c.in_ok-extend_from_slice-2.ensures.items ∙ ap (λ xs. c.extend_from_slice.new.self.items ++ xs) c.as_bytes.ensures.value) c.in_ok-extend_from_slice-3.ensures.items
    ∙ ap (λ xs. xs ++ ((10 ∷ codes "table ") ++ string_bytes name ++ (10 ∷ []))) c.loop-name.invariant
    ∙ sym (lines_more (λ n. (10 ∷ codes "table ") ++ string_bytes n ++ (10 ∷ [])) c.args.names.now c.loop-name.name-index name c.loop-name-test.true c.name-item.is)
