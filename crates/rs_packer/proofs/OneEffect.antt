-- A message has one effect.
use Rattle.std.proofs.Common.{◌≡◌, ℕ, ◌<◌, ◌&&◌, ◌||◌, not, false, cond, List, [], length, map, Option, Some, None, refl, sym, ap, ◌∙◌, subst, inl, inr}
use Rattle.std.specs.Prelude.{Ok, option_map}
use Rattle.rs_octets.specs.Names.{codes_named}
use Rattle.rs_octets.specs.Prefixes.{Prefix}
use Rattle.rs_octets.specs.PrefixFields.{prefixes_of}
use Rattle.rs_attrs.specs.declared.mode.Mode.{Mode}
use Rattle.rs_attrs.specs.declared.faults.Faults.{Faults}
use Rattle.rs_attrs.specs.Meaning.{Attribute, Reads}
use Rattle.rs_attrs.specs.Writing.{no_faults}
use Rattle.rs_attrs.specs.Effects.{Change, Effect, Reset, Changes, Fields, HasEffect, IsEffect, has_prefix, prefixes_in, is_empty, lacks_mandatory, announced_by, reset_of}
use Rattle.rs_attrs.proofs.OneMeaning.{same_fields, same_meaning}
use Rattle.rs_octets.specs.Messages.{body_of}
use Rattle.rs_packer.specs.Denoted.{Holds, Announces, Withdraws}
use Rattle.rs_packer.specs.Packed.{announcement, withdrawal}
use Rattle.rs_packer.specs.Laws.{AnnouncementHasNoOtherEffect, WithdrawalHasNoOtherEffect}
use Rattle.rs_packer.proofs.Denoting.{announcement_holds, withdrawal_holds, no_nlri, no_reset, held, all_announced, rest_withdrawn, all_withdrawn, attributes_there, none_there}

-- the effect of a body whose fields hold this is that of these fields
one_effect : (body : List ℕ) (mode : Mode) (ws : List Prefix) (m : List Attribute) (ps : List Prefix) (effect : Effect) (holds : Holds body mode ws m ps) → HasEffect body mode effect → IsEffect holds.fields m no_faults effect
one_effect body mode ws m ps effect holds (inl (none, e)) = absurd (none holds.fields holds.are)
one_effect body mode ws m ps effect holds (inr (fields, are, n, faults, reads, is)) =
    let same : fields ≡ holds.fields = same_fields body fields holds.fields are holds.are in
    let meant = same_meaning holds.fields.attributes mode n m faults no_faults (subst (λ fields. Reads fields.attributes mode n faults) same reads) holds.attributes in
    let P : Fields → List Attribute → Faults → Type 0 = λ fields m faults. IsEffect fields m faults effect in
    subst (λ faults. P holds.fields m faults) meant.1 (subst (λ m. P holds.fields m faults) meant.0 (subst (λ fields. P fields n faults) same is))

no_effect : (fields : Fields) (code sub : ℕ) → reset_of fields no_faults ≡ None → option_map codes_named (reset_of fields no_faults) ≡ Some (code, sub) → ⊥
no_effect fields code sub none some = let no : ◌≡◌ {A = Option (ℕ × ℕ)} None (Some (code, sub)) = ap (option_map codes_named) (sym none) ∙ some in cc

announces : (fields : Fields) (m : List Attribute) (ps : List Prefix) (effect : Effect) → prefixes_of fields.withdrawn ≡ map Ok [] → prefixes_of fields.nlri ≡ map Ok ps → lacks_mandatory m ≡ false → 0 < length ps
    → IsEffect fields m no_faults effect → (change : Change) × (effect ≡ Changes change) × Announces m ps change
announces fields m ps (Reset code sub) w n mandatory some is = absurd (no_effect fields code sub (no_reset fields [] ps w n) is)
announces fields m ps (Changes change) w n mandatory some is =
    let same : (p : Prefix) → has_prefix p change.announced ≡ has_prefix p ps = λ p. is.1.announced p ∙ ap (has_prefix p) (all_announced fields m ps mandatory n) in (
      change,
      refl,
      record {
        announced = record { once = is.1.announced_once; same = same };
        attributes = is.1.attributes ∙ attributes_there m ps change.announced some same;
        withdrawn = none_there change.withdrawn (λ p. is.1.withdrawn p
            ∙ ap (λ list. (has_prefix p list || has_prefix p (prefixes_in fields.nlri)) && not (has_prefix p change.announced)) (held fields.withdrawn [] w)
            ∙ rest_withdrawn fields.nlri ps change.announced n same p);
      },
    )

withdraws : (fields : Fields) (ps : List Prefix) (effect : Effect) → prefixes_of fields.withdrawn ≡ map Ok ps → fields.nlri ≡ []
    → IsEffect fields [] no_faults effect → (change : Change) × (effect ≡ Changes change) × Withdraws ps change
withdraws fields ps (Reset code sub) w n is = absurd (no_effect fields code sub (no_reset fields ps [] w (ap prefixes_of n)) is)
withdraws fields ps (Changes change) w n is =
    let none : change.announced ≡ [] = none_there change.announced (λ p. is.1.announced p ∙ ap (λ nlri. has_prefix p (announced_by (record fields { nlri = nlri }) [] no_faults)) n) in (
      change,
      refl,
      record {
        withdrawn = record {
          once = is.1.withdrawn_once;
          same = λ p. is.1.withdrawn p
              ∙ ap (λ nlri. (has_prefix p (prefixes_in fields.withdrawn) || has_prefix p (prefixes_in nlri)) && not (has_prefix p change.announced)) n
              ∙ all_withdrawn fields.withdrawn ps change.announced w none p;
        };
        announced = none;
        attributes = is.1.attributes ∙ ap (λ list. cond (is_empty list) None (Some [])) none;
      },
    )

pub announcement_has_no_other_effect : AnnouncementHasNoOtherEffect
announcement_has_no_other_effect m mode ps is effect has =
    let holds = announcement_holds m mode ps is in
    announces holds.fields m ps effect holds.withdrawn holds.nlri is.mandatory is.some (one_effect (body_of (announcement m mode ps)) mode [] m ps effect holds has)

pub withdrawal_has_no_other_effect : WithdrawalHasNoOtherEffect
withdrawal_has_no_other_effect mode ps is effect has =
    let holds = withdrawal_holds mode ps is in
    withdraws holds.fields ps effect holds.withdrawn (no_nlri mode ps is) (one_effect (body_of (withdrawal ps)) mode ps [] [] effect holds has)
