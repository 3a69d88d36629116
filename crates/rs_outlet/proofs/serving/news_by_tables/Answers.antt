use Rattle.std.proofs.Common.{◌≡◌, ◌∙◌, None, Some, ap, option_map, refl, sym}
use Rattle.rs_policy.specs.Noted.{note_of_import}
use Rattle.rs_outlet.specs.Decided.Due.{due_to}
use Rattle.rs_outlet.specs.Decided.HeldBy.{held_by}
use Rattle.rs_outlet.proofs.Decided.Numbering.{number_back, number_once, number_there}
use Rattle.rs_outlet.specs.Decided.Passing.{attributes_passed}
use Rattle.rs_outlet.proofs.serving.news_by_tables.Goals as goal

pub decide-requires-clause-number : goal.decide-requires-clause-number
decide-requires-clause-number c = number_back c.args.sources.now.ins.now c.in-Some.prefix c.args.number (sym c.prefix.ensures ∙ c.in-Some.is)

pub decide-requires-clause-holders : goal.decide-requires-clause-holders
decide-requires-clause-holders c =
    c.at_number-holders.ensures.holders c.in-Some.prefix (number_back c.args.sources.now.ins.now c.in-Some.prefix c.args.number (sym c.prefix.ensures ∙ c.in-Some.is))

pub decide-requires-clause-notes : goal.decide-requires-clause-notes
decide-requires-clause-notes c =
    c.at_number-holders.ensures.noted (note_of_import c.args.sources.now.config.now) c.requires.server.noted c.in-Some.prefix
    (number_back c.args.sources.now.ins.now c.in-Some.prefix c.args.number (sym c.prefix.ensures ∙ c.in-Some.is))

pub returns-in_default-clause-news : goal.returns-in_default-clause-news
returns-in_default-clause-news c = record {
  placed = tt;
  due = λ p at. absurd (let f : None ≡ Some p = sym c.in_default.is ∙ c.prefix.ensures ∙ number_there c.args.sources.now.ins.now p c.args.number at in (cc));
}

pub returns-in-None-clause-news : goal.returns-in-None-clause-news
returns-in-None-clause-news c =
    let s = c.args.sources.now in
    let placed = number_back s.ins.now c.in-Some.prefix c.args.number (sym c.prefix.ensures ∙ c.in-Some.is) in
    record {
      placed = tt;
      due = λ p at.
          sym (ap (option_map attributes_passed) c.in-None.is) ∙ c.in_ok-decide.ensures.due
          ∙ ap (due_to (held_by s) s.client c.args.speech) (number_once s.ins.now c.in-Some.prefix p c.args.number placed at);
    }

pub returns-in_ok-own-in-Some-2-clause-news : goal.returns-in_ok-own-in-Some-2-clause-news
returns-in_ok-own-in-Some-2-clause-news c =
    let s = c.args.sources.now in
    let placed = number_back s.ins.now c.in-Some.prefix c.args.number (sym c.prefix.ensures ∙ c.in-Some.is) in
    record {
      placed = (refl, placed);
      due = λ p at.
          ap (λ m. Some m) c.in_ok-own-in-Some-2.ensures ∙ sym (ap (option_map attributes_passed) c.in-Some-2.is) ∙ c.in_ok-decide.ensures.due
          ∙ ap (due_to (held_by s) s.client c.args.speech) (number_once s.ins.now c.in-Some.prefix p c.args.number placed at);
    }
