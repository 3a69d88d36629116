use Rattle.std.proofs.Common.{◌≡◌, ◌∷◌, ◌++◌, false, ap, ◌∙◌, sym}
use Rattle.std.specs.List.{flat_map}
use Rattle.std.specs.Int.{w32, to_be_bytes}
use Rattle.rs_attrs.specs.Patterns.{parts_of}
use Rattle.rs_attrs.specs.Stripping.{is_stripped_large, taken_by, unstripped_large}
use Rattle.rs_attrs.proofs.Strips.Communities.{large_pushed}
use Rattle.rs_attrs.proofs.stripping.push_large_communities.Goals as goal

pub loop-community-preserved-in-Continue-branch-3 : goal.loop-community-preserved-in-Continue-branch-3
loop-community-preserved-in-Continue-branch-3 c =
    let stays : is_stripped_large (taken_by c.args.strip.now) c.in-Some.community ≡ false = sym c.takes_large.ensures ∙ c.if-not-takes_large.true in
    let step : c.loop-community.community-iterator ≡ c.in-Some.community ∷ c.next.new.self = c.in-Some.ensures.steps in
    large_pushed (taken_by c.args.strip.now) c.in-Some.community c.next.new.self c.loop-community.values.items _ _ _ _ stays
    (c.in_ok-extend_from_slice.ensures.items ∙ ap (λ octets. c.loop-community.values.items ++ octets) c.to_be_bytes.ensures)
    (c.in_ok-extend_from_slice-2.ensures.items ∙ ap (λ octets. c.extend_from_slice.new.self.items ++ octets) c.to_be_bytes-then-not-takes_large.ensures)
    (c.in_ok-extend_from_slice-3.ensures.items ∙ ap (λ octets. c.extend_from_slice-then-not-takes_large.new.self.items ++ octets) c.to_be_bytes-then-not-takes_large-2.ensures)
    (ap (λ communities. c.loop-community.values.items ++ flat_map (to_be_bytes w32) (flat_map parts_of (unstripped_large (taken_by c.args.strip.now) communities))) (sym step) ∙ c.loop-community.invariant)
