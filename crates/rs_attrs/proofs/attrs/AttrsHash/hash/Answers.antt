use Rattle.std.proofs.Common.{◌∷◌, [], ap, ◌∙◌}
use Rattle.std.specs.Hash as fed
use Rattle.std.specs.Hash.{fed_then, fed_along}
use Rattle.rs_attrs.specs.Heads.{writes_of_head}
use Rattle.rs_attrs.proofs.HeldComparison.{held_writes}
use Rattle.rs_attrs.proofs.attrs.AttrsHash.hash.Goals as goal

pub returns : goal.returns
returns g c =
    fed_along g.H.Hasher.write c.args.state.now c.write.new.self
    (held_writes c.self.inside.heads.items c.self.inside.values.items c.args.self.now c.self.invariant.size c.self.view_is)
    (fed_then g.H.Hasher.write c.args.state.now c.hash.new.state c.write.new.self (fed.slice writes_of_head c.self.inside.heads.items) (c.self.inside.values.items ∷ []) c.hash.ensures
    (c.write.ensures ∙ ap (g.H.Hasher.write c.hash.new.state) c.deref.ensures.value))
