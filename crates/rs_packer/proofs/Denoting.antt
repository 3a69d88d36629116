-- What a message denotes: its fields, and its effect.
use Rattle.std.proofs.Common.{◌≡◌, ℕ, ◌<◌, ◌&&◌, ◌||◌, not, Bool, true, false, cond, List, [], ◌∷◌, length, map, Option, Some, None, refl, sym, ap, ◌∙◌, subst, inr, arith}
use Rattle.std.specs.Prelude.{Ok, is_err}
use Rattle.std.specs.List.{list_any, filter_map, IsDistinct}
use Rattle.std.specs.Result.{result_ok}
use Rattle.rs_octets.specs.declared.notification.Notification.{Notification}
use Rattle.rs_octets.specs.declared.notification.Notification.TheVariants.{InvalidNetworkField, MalformedAttributeList, UnrecognizedWellKnownAttribute}
use Rattle.rs_octets.specs.declared.prefix.FieldFault.{FieldFault}
use Rattle.rs_octets.specs.Prefixes.{Prefix}
use Rattle.rs_octets.specs.PrefixFields.{prefixes_of}
use Rattle.rs_attrs.specs.declared.mode.Mode.{Mode}
use Rattle.rs_attrs.specs.declared.mode.Mode.TheVariants.{Two, Four}
use Rattle.rs_attrs.specs.Meaning.{Attribute, Reads}
use Rattle.rs_attrs.specs.Writing.{IsLegal, in_mode, spelt, no_faults}
use Rattle.rs_attrs.specs.Effects.{Fields, is_faulty, prefixes_in, reset_of, same_prefix, has_prefix, is_empty, lacks_mandatory, announced_by}
use Rattle.rs_attrs.proofs.EachOnce.{same_itself}
use Rattle.rs_attrs.proofs.HeldLemmas.{short_values}
use Rattle.rs_attrs.proofs.Written.ReadBack.{reads_back}
use Rattle.rs_attrs.proofs.Written.ReadBackTwo.{reads_back_two}
use Rattle.rs_octets.proofs.Fields.{prefixes_read_back}
use Rattle.rs_packer.specs.Packed.{prefixes_octets}
use Rattle.rs_packer.specs.Laws.{AnnouncementHolds, AnnouncementHasEffect, IsWithdrawable, WithdrawalHolds, WithdrawalHasEffect}
use Rattle.rs_packer.proofs.Announcing.{update_length}
use Rattle.rs_packer.proofs.Withdrawing.{withdrawal_length}

-- ---- fields that hold prefixes without a fault

none_faulty : (ps : List Prefix) → list_any (is_err {E = FieldFault}) (map Ok ps) ≡ false
none_faulty [] = refl
none_faulty (p ∷ ps) = none_faulty ps

pub not_faulty : (field : List ℕ) (ps : List Prefix) → prefixes_of field ≡ map Ok ps → is_faulty field ≡ false
not_faulty field ps e = ap (list_any is_err) e ∙ none_faulty ps

all_held : (ps : List Prefix) → filter_map (result_ok {E = FieldFault}) (map Ok ps) ≡ ps
all_held [] = refl
all_held (p ∷ ps) = ap (λ qs. p ∷ qs) (all_held ps)

pub held : (field : List ℕ) (ps : List Prefix) → prefixes_of field ≡ map Ok ps → prefixes_in field ≡ ps
held field ps e = ap (filter_map result_ok) e ∙ all_held ps

-- nothing resets the session
pub no_reset : (fields : Fields) (ws ps : List Prefix) → prefixes_of fields.withdrawn ≡ map Ok ws → prefixes_of fields.nlri ≡ map Ok ps → reset_of fields no_faults ≡ None
no_reset fields ws ps w n = λ i. first (not_faulty fields.withdrawn ws w i || not_faulty fields.nlri ps n i)
  where
    first : Bool → Option Notification
    first faulty =
        cond faulty (Some InvalidNetworkField)
        (cond false (Some MalformedAttributeList)
        (cond (false && not (is_empty fields.attributes) && is_empty fields.nlri) (Some MalformedAttributeList) (cond false (Some UnrecognizedWellKnownAttribute) None)))

-- ---- attributes that are spelt within a message

pub reads_spelt : (m : List Attribute) (mode : Mode) → IsLegal m → length (spelt m mode) < 65536 → Reads (spelt m mode) mode m no_faults
reads_spelt m Two legal short = reads_back_two m legal (short_values (in_mode Two m) short)
reads_spelt m Four legal short = reads_back m legal (short_values m short)

-- ---- the fields of the two messages

pub announcement_holds : AnnouncementHolds
announcement_holds m mode ps is =
    let size = update_length (spelt m mode) ps in
    let short : length (spelt m mode) < 65536 = omega (arith, is.fits) in
    record {
      fields = record { withdrawn = []; attributes = spelt m mode; nlri = prefixes_octets ps };
      are = record { whole = refl; withdrawn = omega arith; attributes = short };
      withdrawn = refl;
      attributes = reads_spelt m mode is.legal short;
      nlri = prefixes_read_back ps is.prefixes;
    }

nothing_spelt : (mode : Mode) → Reads [] mode [] no_faults
nothing_spelt Two = reads_back_two [] (record { rising = tt; each = tt }) tt
nothing_spelt Four = reads_back [] (record { rising = tt; each = tt }) tt

pub withdrawal_holds : WithdrawalHolds
withdrawal_holds mode ps is =
    let size = withdrawal_length ps in
    record {
      fields = record { withdrawn = prefixes_octets ps; attributes = []; nlri = [] };
      are = record { whole = refl; withdrawn = omega (arith, is.fits); attributes = omega arith };
      withdrawn = prefixes_read_back ps is.prefixes;
      attributes = nothing_spelt mode;
      nlri = refl;
    }

pub no_nlri : (mode : Mode) (ps : List Prefix) (is : IsWithdrawable ps) → (withdrawal_holds mode ps is).fields.nlri ≡ []
unfolding withdrawal_holds
no_nlri mode ps is = refl

-- ---- the effects

or_none : (a : Bool) → (a || false) ≡ a
or_none true = refl
or_none false = refl

and_none : (a : Bool) → (a && false) ≡ false
and_none true = refl
and_none false = refl

and_all : (a : Bool) → (a && true) ≡ a
and_all true = refl
and_all false = refl

and_not : (a : Bool) → (a && not a) ≡ false
and_not true = refl
and_not false = refl

has_first : (p : Prefix) (ps : List Prefix) → has_prefix p (p ∷ ps) ≡ true
has_first p ps = ap (λ b. b || has_prefix p ps) (same_itself p)

-- a list with the prefixes of one that is not empty is not empty
some_there : (ps list : List Prefix) → 0 < length ps → ((p : Prefix) → has_prefix p list ≡ has_prefix p ps) → is_empty list ≡ false
some_there [] list some same = absurd (omega arith)
some_there (p ∷ ps) [] some same = let none : false ≡ true = same p ∙ has_first p ps in cc
some_there (p ∷ ps) (q ∷ list) some same = refl

-- and one that has none is empty
pub none_there : (list : List Prefix) → ((p : Prefix) → has_prefix p list ≡ false) → list ≡ []
none_there [] none = refl
none_there (q ∷ list) none = let some : true ≡ false = sym (has_first q list) ∙ none q in cc

pub attributes_there : (m : List Attribute) (ps list : List Prefix) → 0 < length ps → ((p : Prefix) → has_prefix p list ≡ has_prefix p ps) → cond (is_empty list) None (Some m) ≡ Some m
attributes_there m ps list some same = ap (λ b. cond b None (Some m)) (some_there ps list some same)

pub all_announced : (fields : Fields) (m : List Attribute) (ps : List Prefix) → lacks_mandatory m ≡ false → prefixes_of fields.nlri ≡ map Ok ps → announced_by fields m no_faults ≡ ps
all_announced fields m ps mandatory nlri =
    (λ i. cond (not (is_empty fields.nlri) && mandatory i) [] (held fields.nlri ps nlri i)) ∙ ap (λ b. cond b [] ps) (and_none (not (is_empty fields.nlri)))

-- what is withdrawn where all of the NLRI is announced
pub rest_withdrawn : (field : List ℕ) (ps list : List Prefix) → prefixes_of field ≡ map Ok ps → ((p : Prefix) → has_prefix p list ≡ has_prefix p ps)
    → (p : Prefix) → (has_prefix p (prefixes_in field) && not (has_prefix p list)) ≡ false
rest_withdrawn field ps list nlri same p = (λ i. has_prefix p (held field ps nlri i) && not (same p i)) ∙ and_not (has_prefix p ps)

-- and where nothing is announced
pub all_withdrawn : (field : List ℕ) (ps list : List Prefix) → prefixes_of field ≡ map Ok ps → list ≡ []
    → (p : Prefix) → ((has_prefix p (prefixes_in field) || false) && not (has_prefix p list)) ≡ has_prefix p ps
all_withdrawn field ps list withdrawn none p =
    (λ i. (has_prefix p (held field ps withdrawn i) || false) && not (has_prefix p (none i)))
    ∙ and_all (has_prefix p ps || false) ∙ or_none (has_prefix p ps)

pub announcement_has_effect : AnnouncementHasEffect
unfolding IsDistinct announcement_holds
announcement_has_effect m mode ps is change does =
    let holds = announcement_holds m mode ps is in
    let same = does.announced.same in
    inr (
      holds.fields,
      holds.are,
      m,
      no_faults,
      holds.attributes,
      (
        no_reset holds.fields [] ps holds.withdrawn holds.nlri,
        record {
          announced_once = does.announced.once;
          withdrawn_once = subst (IsDistinct same_prefix) (sym does.withdrawn) tt;
          announced = λ p. same p ∙ ap (has_prefix p) (sym (all_announced holds.fields m ps is.mandatory holds.nlri));
          withdrawn = λ p. ap (has_prefix p) does.withdrawn ∙ sym (rest_withdrawn holds.fields.nlri ps change.announced holds.nlri same p);
          attributes = does.attributes ∙ sym (attributes_there m ps change.announced is.some same);
        },
      ),
    )

pub withdrawal_has_effect : WithdrawalHasEffect
unfolding IsDistinct withdrawal_holds
withdrawal_has_effect mode ps is change does =
    let holds = withdrawal_holds mode ps is in
    inr (
      holds.fields,
      holds.are,
      [],
      no_faults,
      holds.attributes,
      (
        no_reset holds.fields ps [] holds.withdrawn holds.nlri,
        record {
          announced_once = subst (IsDistinct same_prefix) (sym does.announced) tt;
          withdrawn_once = does.withdrawn.once;
          announced = λ p. ap (has_prefix p) does.announced;
          withdrawn = λ p. does.withdrawn.same p ∙ sym (all_withdrawn holds.fields.withdrawn ps change.announced holds.withdrawn does.announced p);
          attributes = does.attributes ∙ sym (ap (λ list. cond (is_empty list) None (Some [])) does.announced);
        },
      ),
    )
