use Rattle.std.proofs.Common.{◌≡◌, ◌*◌, [], ◌∷◌, ◌++◌, length, inl, inr, sym, ap, subst, ◌∙◌}
use Rattle.std.specs.List.{flat_map}
use Rattle.std.specs.Int.{w32, to_be_bytes}
use Rattle.rs_attrs.specs.Heads.{Head}
use Rattle.rs_attrs.specs.Paths.{quads}
use Rattle.rs_attrs.specs.Stripping.{taken_by, numbers_left}
use Rattle.rs_attrs.proofs.Strips.Communities.{IsStripped, append_other, append_some}
use Rattle.rs_attrs.proofs.stripping.push_left.Goals as goal
use Rattle.rs_attrs.proofs.stripping.push_left.Goals.{else-kind-ne-COMMUNITIES-via-then-kind-ne-COMMUNITIES+else-kind-ne-LARGE_COMMUNITY, else-kind-ne-COMMUNITIES-via-else-kind-ne-COMMUNITIES}

pub returns-then-kind-ne-LARGE_COMMUNITY : goal.returns-then-kind-ne-LARGE_COMMUNITY
returns-then-kind-ne-LARGE_COMMUNITY c =
    let a = append_other (taken_by c.args.strip.now) c.args.heads.now.items c.args.values.now.items c.args.head.now c.args.value.now c.requires.size _ _ (λ is. c.if-kind-ne-COMMUNITIES.true (c.kind-kind.ensures ∙ is)) (λ is. c.if-kind-ne-LARGE_COMMUNITY.true (c.kind-kind.ensures ∙ is)) c.requires.value c.in_ok-push.ensures.items c.in_ok-extend_from_slice.ensures.items in
    record { size = a.size; left = a.left }

pub returns-in_ok-push_value : goal.returns-in_ok-push_value
returns-in_ok-push_value c =
    let kind : IsStripped c.args.head.now.kind = elim c.else-kind-ne-COMMUNITIES.branch [
      | else-kind-ne-COMMUNITIES-via-then-kind-ne-COMMUNITIES+else-kind-ne-LARGE_COMMUNITY w ↦ inr (sym c.kind-kind.ensures ∙ w.if-kind-ne-LARGE_COMMUNITY.false)
      | else-kind-ne-COMMUNITIES-via-else-kind-ne-COMMUNITIES w ↦ inl (sym c.kind-kind.ensures ∙ w.if-kind-ne-COMMUNITIES.false)
    ] in
    let size = c.left_size-size.ensures.size ∙ ap (λ kind. 4 * length (numbers_left (taken_by c.args.strip.now) kind (quads c.args.value.now))) c.kind-kind.ensures in
    let heads = subst (λ (h : Head). c.push-then-size-gt0.new.self.items ≡ c.args.heads.now.items ++ h ∷ []) c.with_len.ensures c.in_ok-push-2.ensures.items in
    let values = c.in_ok-push_value.ensures ∙ ap (λ kind. c.args.values.now.items ++ flat_map (to_be_bytes w32) (numbers_left (taken_by c.args.strip.now) kind (quads c.args.value.now))) c.kind-kind.ensures in
    let a = append_some (taken_by c.args.strip.now) c.args.heads.now.items c.args.values.now.items c.args.head.now c.args.value.now c.requires.size _ _ c.left_size-size.result kind size c.if-size-gt0.true heads values in
    record { size = a.size; left = a.left }
