use Rattle.std.proofs.Common.{◌≡◌, ℕ, ◌==◌, Bool, true, false, not, ◌||◌, is_some, Option, None, Some, List, [], ◌∷◌, length, inl, refl, sym, ap, ◌∙◌, arith}
use mathlib.Core.Bool.{true≢false}
use Rattle.std.specs.Prelude.{option_map}
use Rattle.std.specs.List.{list_any}
use Rattle.std.proofs.lemmas.Bool.Decides.{nat_tests}
use Rattle.rs_attrs.specs.Meaning.{Attribute}
use Rattle.rs_policy.specs.Noted.{note_of_import}
use Rattle.rs_outlet.specs.Decided.Due.{any_holds}
use Rattle.rs_outlet.specs.Decided.HeldBy.{held_by}
use Rattle.rs_outlet.specs.Inside.{attributes_at, shown}
use Rattle.rs_rows.specs.declared.place.Lent.{Lent}
use Rattle.rs_rows.specs.Places.{lent_row}
use Rattle.rs_outlet.proofs.Decided.Numbering.{no_elements, number_back, number_there}
use Rattle.rs_outlet.proofs.Decided.Ranks.{due_unheld, sent}
use Rattle.rs_outlet.proofs.turn.decide_number.Goals as goal
use Rattle.rs_outlet.proofs.turn.decide_number.Goals.{else-is_empty-via-then-is_empty+else-is_none, else-is_empty-via-else-is_empty}

pub decide_one-requires-clause-number : goal.decide_one-requires-clause-number
decide_one-requires-clause-number c = number_back c.args.sources.now.ins.now c.in-Some.prefix c.args.number (sym c.prefix.ensures ∙ c.in-Some.is)

pub decide_one-requires-clause-holders : goal.decide_one-requires-clause-holders
decide_one-requires-clause-holders c =
    c.at_number-holders.ensures.holders c.in-Some.prefix (number_back c.args.sources.now.ins.now c.in-Some.prefix c.args.number (sym c.prefix.ensures ∙ c.in-Some.is))

pub decide_one-requires-clause-notes : goal.decide_one-requires-clause-notes
decide_one-requires-clause-notes c =
    c.at_number-holders.ensures.noted (note_of_import c.args.sources.now.config.now) c.requires.server.noted c.in-Some.prefix
    (number_back c.args.sources.now.ins.now c.in-Some.prefix c.args.number (sym c.prefix.ensures ∙ c.in-Some.is))

pub returns-in_default-clause-changes : goal.returns-in_default-clause-changes
returns-in_default-clause-changes c =
    inl (refl, λ p at. absurd (let f : None ≡ Some p = sym c.in_default.is ∙ c.prefix.ensures ∙ number_there c.args.sources.now.ins.now p c.args.number at in (cc)))

shown_none : (r : Option Lent) → is_some r ≡ false → shown (option_map lent_row r) ≡ None
shown_none None h = refl
shown_none (Some row) h = absurd (true≢false h)

zero_is : (n : ℕ) → (n == 0) ≡ true → n ≡ 0
zero_is n h = grind (arith, nat_tests, h)

pub returns-then-is_none-clause-changes : goal.returns-then-is_none-clause-changes
returns-then-is_none-clause-changes c =
    let t = held_by c.args.sources.now in
    let n = c.args.number in
    let holders = c.at_number-holders.result in
    let was : attributes_at c.args.rows.now.rows.items n ≡ None = ap shown (sym c.get-row.ensures) ∙ shown_none c.get-row.result (c.is_none.ensures ∙ ap not c.if-is_none.true) in
    let none : [] ≡ sent holders = ap sent (no_elements holders (zero_is (length holders) (sym c.is_empty.ensures ∙ c.if-is_empty.true))) in
    inl (refl, λ p at. was ∙ sym (due_unheld t c.args.sources.now.client c.args.speech p (none ∙ (c.at_number-holders.ensures.holders p at).all)))

pub returns-in_default-clause-standing : goal.returns-in_default-clause-standing
returns-in_default-clause-standing c = λ p at.
    absurd (let f : None ≡ Some p = sym c.in_default.is ∙ c.prefix.ensures ∙ number_there c.args.sources.now.ins.now p c.args.number at in (cc))

some_lent : (r : Option Lent) → is_some r ≡ true → is_some (option_map lent_row r) ≡ true
some_lent None h = absurd (true≢false (sym h))
some_lent (Some row) h = refl

any_of : (holders : List ((ℕ × List Attribute) × ℕ)) → (length holders == 0) ≡ false → list_any (λ h. true) (sent holders) ≡ true
any_of [] none = absurd (true≢false none)
any_of (h ∷ holders) none = refl

or_true : (b c : Bool) → c ≡ true → true ≡ (b || c)
or_true true c h = refl
or_true false c h = sym h

pub returns-clause-standing : goal.returns-clause-standing
returns-clause-standing c = λ p at.
    let t = held_by c.args.sources.now in
    elim c.else-is_empty.branch [
      | else-is_empty-via-then-is_empty+else-is_none w ↦
          sym (ap (λ b. b || any_holds t p) (ap is_some (sym c.get-row.ensures) ∙ some_lent c.get-row.result (w.is_none.ensures ∙ ap not w.if-is_none.false)))
      | else-is_empty-via-else-is_empty w ↦
          or_true _ (any_holds t p)
          (ap (list_any (λ h. true)) (sym (c.at_number-holders.ensures.holders p at).all) ∙ any_of c.at_number-holders.result (sym c.is_empty.ensures ∙ w.if-is_empty.false))
    ]
