use Rattle.std.proofs.Common.{sym, subst, ◌∙◌, ◌/◌, arith}
use Rattle.rs_rows.specs.Rows.{Listed, IsPrepared}
use Rattle.rs_rows.proofs.Listing.{block_below, own_here, own_kept, own_there, rows_still}
use Rattle.rs_rows.proofs.blocks.Blocks.prepare.Goals as goal

pub index-requires : goal.index-requires
index-requires c =
    let below = block_below c.self.inside.parts.items _ c.args.number c.self.view_is c.requires in
    omega (arith, below)

pub index_mut-requires : goal.index_mut-requires
index_mut-requires c =
    let below = block_below c.self.inside.parts.items _ c.args.number c.self.view_is c.requires in
    omega (arith, below)

pub returns-then-can_be_written-clause-prepared : goal.returns-then-can_be_written-clause-prepared
returns-then-can_be_written-clause-prepared c =
    own_there c.self.inside.parts.items (c.args.number / 16) c.index.result.now (block_below c.self.inside.parts.items _ c.args.number c.self.view_is c.requires) c.index.ensures (sym c.can_be_written.ensures ∙ c.if-can_be_written.true)

pub returns-in_err-open-clause-rows : goal.returns-in_err-open-clause-rows
returns-in_err-open-clause-rows c =
    let below = block_below c.self.inside.parts.items _ c.args.number c.self.view_is c.requires in
    rows_still c.self.inside.parts.items _ c.self.view_is (c.args.number / 16) c.index_mut.result.now c.open.new.self below c.index_mut.ensures.value c.open.ensures.rows

pub returns-in_err-open-clause-kept : goal.returns-in_err-open-clause-kept
returns-in_err-open-clause-kept c = λ n kept.
    let below = block_below c.self.inside.parts.items _ c.args.number c.self.view_is c.requires in
    own_kept c.self.inside.parts.items (c.args.number / 16) (n / 16) c.index_mut.result.now c.open.new.self below c.index_mut.ensures.value c.open.ensures.kept
    (subst (λ (v : Listed). IsPrepared v.prepared n) (sym c.self.view_is) kept)

pub returns-clause-rows : goal.returns-clause-rows
returns-clause-rows c =
    let below = block_below c.self.inside.parts.items _ c.args.number c.self.view_is c.requires in
    rows_still c.self.inside.parts.items _ c.self.view_is (c.args.number / 16) c.index_mut.result.now c.open.new.self below c.index_mut.ensures.value c.open.ensures.rows

pub returns-clause-prepared : goal.returns-clause-prepared
returns-clause-prepared c =
    own_here c.self.inside.parts.items (c.args.number / 16) c.open.new.self c.in_ok-open.ensures.own (block_below c.self.inside.parts.items _ c.args.number c.self.view_is c.requires)

pub returns-clause-kept : goal.returns-clause-kept
returns-clause-kept c = λ n kept.
    let below = block_below c.self.inside.parts.items _ c.args.number c.self.view_is c.requires in
    own_kept c.self.inside.parts.items (c.args.number / 16) (n / 16) c.index_mut.result.now c.open.new.self below c.index_mut.ensures.value c.open.ensures.kept
    (subst (λ (v : Listed). IsPrepared v.prepared n) (sym c.self.view_is) kept)
