use Rattle.std.proofs.Common.{◌≡◌, ◌||◌, ℕ, true, false, List, Vec, Global, Option, Some, None, sym, ap, ◌∙◌, subst, arith}
use Rattle.std.specs.Prelude.{MatchOption, option_map}
use Rattle.rs_octets.specs.declared.notification.Notification.TheVariants.{MalformedAttributeList, InvalidNetworkField}
use Rattle.rs_octets.specs.declared.prefix.Prefix.{Prefix as DeclaredPrefix}
use Rattle.rs_attrs.specs.Effects.{Changes, is_faulty, prefixes_in, reset_named}
use Rattle.rs_attrs.proofs.Fields.Legal.{are_octets}
use Rattle.rs_update.proofs.BodyFields.{body_of_fields}
use Rattle.rs_update.specs.Changes.{fields_in}
use Rattle.rs_update.specs.Outcomes.{change_seen}
use Rattle.rs_update.proofs.Effecting.{no_fields, by_reading, is_reset, withdrawn_faulty, nlri_faulty, by_reset, is_withdrawn, is_announced, same_withdrawn, same_announced, rising_distinct, BothRise, withdrawn_rise, announced_rise}
use Rattle.rs_update.proofs.Mandatory.{has_mandatory, seen_complete}
use Rattle.rs_update.proofs.OneEffect.{effect_is, names_faults}
use Rattle.rs_update.proofs.outcome.effect.Goals as goal
use Rattle.rs_update.proofs.outcome.effect.Goals.{then-treats_as_withdraw+in_ok-withdraw_all, else-treats_as_withdraw+in_ok-withdrawn-2}

-- what a field's prefixes were found to be
abbrev Found : List ℕ → Option (Vec DeclaredPrefix Global) → Type 0
Found field found = MatchOption found (is_faulty field ≡ true) (λ ps. (is_faulty field ≡ false) × (ps.items ≡ prefixes_in field))

found_at : (field : List ℕ) (found at : Option (Vec DeclaredPrefix Global)) → found ≡ at → Found field found → Found field at
found_at field found at e is = subst (Found field) e is

pub returns-in_default-clause-effect : goal.returns-in_default-clause-effect
returns-in_default-clause-effect c =
    by_reset c.args.body.now c.args.mode MalformedAttributeList _ c.reset.ensures
    (no_fields c.args.body.now c.args.mode (sym c.cut_body.ensures ∙ ap (option_map fields_in) c.in_default.is))

pub returns-in_default-2-clause-effect : goal.returns-in_default-2-clause-effect
returns-in_default-2-clause-effect c =
    let fields = fields_in c.in-Some.fields in
    let faulty = found_at fields.withdrawn _ None c.in_default-2.is c.in_ok-withdrawn.ensures in
    by_reset c.args.body.now c.args.mode InvalidNetworkField _ c.reset-in_default-2.ensures
    (by_reading c.args.body.now c.args.mode (reset_named InvalidNetworkField) fields c.in_ok-parsed.parsed.attrs c.in_ok-parsed.parsed.faults (λ i. omega (arith, c.type_inv.body i))
    (sym c.cut_body.ensures ∙ ap (option_map fields_in) c.in-Some.is) c.in_ok-parsed.ensures.reads
    (is_reset fields c.in_ok-parsed.parsed.attrs c.in_ok-parsed.parsed.faults InvalidNetworkField (withdrawn_faulty fields c.in_ok-parsed.parsed.faults faulty)))

pub returns-in_default-3-clause-effect : goal.returns-in_default-3-clause-effect
returns-in_default-3-clause-effect c =
    let fields = fields_in c.in-Some.fields in
    let withdrawn = found_at fields.withdrawn _ (Some c.in-Some-2.withdrawn) c.in-Some-2.is c.in_ok-withdrawn.ensures in
    let faulty = found_at fields.nlri _ None c.in_default-3.is c.in_ok-nlri.ensures in
    by_reset c.args.body.now c.args.mode InvalidNetworkField _ c.reset-in_default-3.ensures
    (by_reading c.args.body.now c.args.mode (reset_named InvalidNetworkField) fields c.in_ok-parsed.parsed.attrs c.in_ok-parsed.parsed.faults (λ i. omega (arith, c.type_inv.body i))
    (sym c.cut_body.ensures ∙ ap (option_map fields_in) c.in-Some.is) c.in_ok-parsed.ensures.reads
    (is_reset fields c.in_ok-parsed.parsed.attrs c.in_ok-parsed.parsed.faults InvalidNetworkField (nlri_faulty fields c.in_ok-parsed.parsed.faults withdrawn.0 faulty)))

pub returns-in-Some-reset_by-clause-effect : goal.returns-in-Some-reset_by-clause-effect
returns-in-Some-reset_by-clause-effect c =
    let fields = fields_in c.in-Some.fields in
    let name = c.in-Some-reset_by.name in
    by_reset c.args.body.now c.args.mode name _ c.reset-in-Some-reset_by.ensures
    (by_reading c.args.body.now c.args.mode (reset_named name) fields c.in_ok-parsed.parsed.attrs c.in_ok-parsed.parsed.faults (λ i. omega (arith, c.type_inv.body i))
    (sym c.cut_body.ensures ∙ ap (option_map fields_in) c.in-Some.is) c.in_ok-parsed.ensures.reads
    (is_reset fields c.in_ok-parsed.parsed.attrs c.in_ok-parsed.parsed.faults name (sym c.reset_by.ensures ∙ c.in-Some-reset_by.is)))

pub returns-clause-effect : goal.returns-clause-effect
returns-clause-effect c =
    let fields = fields_in c.in-Some.fields in
    let withdrawn = found_at fields.withdrawn _ (Some c.in-Some-2.withdrawn) c.in-Some-2.is c.in_ok-withdrawn.ensures in
    let nlri = found_at fields.nlri _ (Some c.in-Some-3.nlri) c.in-Some-3.is c.in_ok-nlri.ensures in
    let no_reset = sym c.reset_by.ensures ∙ c.in_default-reset_by.is in
    let withdraws = ap (λ b. c.in_ok-parsed.parsed.faults.withdraw || b) (sym c.missing-missing.ensures.lacks) ∙ sym c.treats_as_withdraw.ensures in
    by_reading c.args.body.now c.args.mode (Changes (change_seen c.if-treats_as_withdraw.withdrawn)) fields c.in_ok-parsed.parsed.attrs c.in_ok-parsed.parsed.faults (λ i. omega (arith, c.type_inv.body i))
    (sym c.cut_body.ensures ∙ ap (option_map fields_in) c.in-Some.is) c.in_ok-parsed.ensures.reads (
      no_reset,
      elim c.if-treats_as_withdraw.branch [
        | then-treats_as_withdraw+in_ok-withdraw_all w ↦ is_withdrawn fields c.in_ok-parsed.parsed.attrs c.in_ok-parsed.parsed.faults (change_seen c.if-treats_as_withdraw.withdrawn)
            (withdraws ∙ w.if-treats_as_withdraw.true)
            (same_withdrawn _ _ _ _ _ _ withdrawn.1 (w.deref.ensures.value ∙ nlri.1) (ap change_seen w.withdrawn-is) w.in_ok-withdraw_all.ensures)
        | else-treats_as_withdraw+in_ok-withdrawn-2 w ↦ is_announced fields c.in_ok-parsed.parsed.attrs c.in_ok-parsed.parsed.faults (change_seen c.if-treats_as_withdraw.withdrawn)
            (withdraws ∙ w.if-treats_as_withdraw.false)
            (same_announced _ _ _ _ _ _ _ withdrawn.1 nlri.1 (ap change_seen w.withdrawn-is) w.in_ok-withdrawn-2.ensures)
      ],
    )

-- what is computed of the body

pub returns-in_default-clause-computed : goal.returns-in_default-clause-computed
returns-in_default-clause-computed c = effect_is c.args.body.now c.args.mode _ (are_octets c.args.body.now (λ i. omega (arith, c.type_inv.body i))) (returns-in_default-clause-effect c)

pub returns-in_default-2-clause-computed : goal.returns-in_default-2-clause-computed
returns-in_default-2-clause-computed c = effect_is c.args.body.now c.args.mode _ (are_octets c.args.body.now (λ i. omega (arith, c.type_inv.body i))) (returns-in_default-2-clause-effect c)

pub returns-in_default-3-clause-computed : goal.returns-in_default-3-clause-computed
returns-in_default-3-clause-computed c = effect_is c.args.body.now c.args.mode _ (are_octets c.args.body.now (λ i. omega (arith, c.type_inv.body i))) (returns-in_default-3-clause-effect c)

pub returns-in-Some-reset_by-clause-computed : goal.returns-in-Some-reset_by-clause-computed
returns-in-Some-reset_by-clause-computed c = effect_is c.args.body.now c.args.mode _ (are_octets c.args.body.now (λ i. omega (arith, c.type_inv.body i))) (returns-in-Some-reset_by-clause-effect c)

pub returns-clause-computed : goal.returns-clause-computed
returns-clause-computed c = effect_is c.args.body.now c.args.mode (Changes (change_seen c.if-treats_as_withdraw.withdrawn)) (are_octets c.args.body.now (λ i. omega (arith, c.type_inv.body i))) (returns-clause-effect c)

-- the lists of what is answered
rises : (c : goal.Joined-treats_as_withdraw) → BothRise (change_seen c.if-treats_as_withdraw.withdrawn)
rises c = elim c.if-treats_as_withdraw.branch [
  | then-treats_as_withdraw+in_ok-withdraw_all w ↦ withdrawn_rise _ _ _ _ (ap change_seen w.withdrawn-is) w.in_ok-withdraw_all.ensures
  | else-treats_as_withdraw+in_ok-withdrawn-2 w ↦ announced_rise _ _ _ _ _ (ap change_seen w.withdrawn-is) w.in_ok-withdrawn-2.ensures
]

pub returns-clause-rising : goal.returns-clause-rising
returns-clause-rising c = ((rises c).withdrawn, (rises c).announced)

pub returns-clause-distinct : goal.returns-clause-distinct
returns-clause-distinct c = (rising_distinct c.if-treats_as_withdraw.withdrawn.withdrawn.items (rises c).withdrawn, rising_distinct c.if-treats_as_withdraw.withdrawn.announced.items (rises c).announced)

pub returns-clause-mandatory : goal.returns-clause-mandatory
returns-clause-mandatory c =
    seen_complete c.if-treats_as_withdraw.withdrawn.attrs (has_mandatory c.args.body.now c.args.mode (change_seen c.if-treats_as_withdraw.withdrawn) (returns-clause-effect c))

pub returns-clause-faults_noted : goal.returns-clause-faults_noted
returns-clause-faults_noted c = λ fields is. (
    let found = fields_in c.in-Some.fields in
    let are = body_of_fields c.args.body.now found (λ i. omega (arith, c.type_inv.body i)) (sym c.cut_body.ensures ∙ ap (option_map fields_in) c.in-Some.is) in
    c.faults_noted-faulted.ensures ∙ names_faults c.args.body.now c.args.mode found fields c.in_ok-parsed.parsed.attrs c.in_ok-parsed.parsed.faults c.in_ok-parsed.parsed.faulted _
    (are_octets c.args.body.now (λ i. omega (arith, c.type_inv.body i))) are is c.in_ok-parsed.ensures.reads c.in_ok-parsed.ensures.faults_noted c.missing-missing.ensures.first)
