use Rattle.std.proofs.Common.{◌%◌, ◌^◌, ◌∷◌, [], refl, ap, ◌∙◌}
use Rattle.std.specs.Hash as fed
use Rattle.std.specs.List.{fold}
use Rattle.std.specs.Hash.{fed_then, fed_along}
use Rattle.std.specs.Hash.FoldHasher as folding
use Rattle.rs_attrs.specs.Heads.{writes_of_head}
use Rattle.rs_attrs.proofs.HeldComparison.{held_writes}
use Rattle.rs_attrs.proofs.attrs.hash_of.Goals as goal

pub returns : goal.returns
returns c =
    ap (λ state. state % 2 ^ 32)
    (c.finish.ensures ∙ ap folding.finish
    (fed_along folding.write folding.initial c.write.new.self
    (held_writes c.args.heads.now c.args.values.now _ c.requires refl)
    (fed_then folding.write folding.initial c.hash.new.state c.write.new.self (fed.slice writes_of_head c.args.heads.now) (c.args.values.now ∷ [])
    (c.hash.ensures ∙ ap (λ s. fold folding.write s (fed.slice writes_of_head c.args.heads.now)) c.default-state.ensures) c.write.ensures)))
