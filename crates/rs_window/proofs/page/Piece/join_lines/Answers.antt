use Rattle.std.proofs.Common.{rules, tests, ◌==◌, ◌≡◌, arith, not, filter}
use Rattle.std.proofs.lemmas.List.Elements.{filter_from_retain}
use Rattle.rs_window.proofs.page.Piece.join_lines.Goals as goal

pub returns : goal.returns
returns c =
    let kept : c.retain.new.self.items ≡ filter (λ octet. not (octet == 10)) c.self.inside.octets.items =
    filter_from_retain _ (λ octet. not (octet == 10)) (λ f x b g called. search (rules, tests)) _ _ _ c.retain.ensures.filtered
    in grind (arith, kept, c.self.view_is)
