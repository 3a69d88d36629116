-- What is noted of an UPDATE names an attribute for which it is treated as withdraw exactly where it is.
use Rattle.std.proofs.Common.{◌≡◌, ℕ, ◌&&◌, ◌||◌, Bool, true, false, cond, not, List, [], ◌∷◌, Option, Some, None, refl, ap, ◌∙◌}
use Rattle.std.specs.Prelude.{is_some, is_none, option_map}
use Rattle.std.specs.Option.{option_or}
use Rattle.rs_attrs.specs.declared.faults.AttributeFault.{AttributeFault}
use Rattle.rs_attrs.specs.declared.faults.Cause.TheVariants as causes
use Rattle.rs_attrs.specs.Meaning.{Attribute, get, read_of}
use Rattle.rs_attrs.specs.Flaws.{fault, faulted_of}
use Rattle.rs_attrs.specs.Effects.{is_empty, lacks_mandatory, missing_of, missing_for, treat_as_withdraw}
use Rattle.rs_attrs.specs.Types as types
use Rattle.rs_attrs.proofs.Fields.Reasons.{field_noted}
use Rattle.rs_attrs.proofs.OneMeaning.{same_meaning, fit_all, fields_are_read}
use Rattle.rs_update.specs.Laws.{UpdatesNameTheirFaults}

lacks : (m : List Attribute) → is_some (missing_of m) ≡ lacks_mandatory m
lacks m = by_tests (is_none (get types.origin m)) (is_none (get types.as_path m)) (is_none (get types.next_hop m))
  where
    by_tests : (a b c : Bool) → is_some (cond a (Some types.origin) (cond b (Some types.as_path) (cond c (Some types.next_hop) None))) ≡ (a || b || c)
    by_tests true b c = refl
    by_tests false true c = refl
    by_tests false false true = refl
    by_tests false false false = refl

either_noted : (came missing : Option AttributeFault) → is_some (option_or came missing) ≡ (is_some came || is_some missing)
either_noted None missing = refl
either_noted (Some f) missing = refl

missing_noted : (nlri : List ℕ) (o : Option ℕ) → is_some (option_map (λ kind. fault kind causes.Missing) (cond (is_empty nlri) None o)) ≡ (not (is_empty nlri) && is_some o)
missing_noted [] o = refl
missing_noted (octet ∷ nlri) None = refl
missing_noted (octet ∷ nlri) (Some kind) = refl

pub name_their_faults : UpdatesNameTheirFaults
name_their_faults fields mode m faults are reads =
    let read = read_of fields.attributes mode in
    let meant = same_meaning fields.attributes mode read.attributes m read.faults faults (fields_are_read fields.attributes mode are) reads in
    either_noted (faulted_of fields.attributes mode).withdraw (option_map (λ kind. fault kind causes.Missing) (missing_for fields read.attributes))
    ∙ (λ i. field_noted fields.attributes mode (fit_all fields.attributes are) i || (missing_noted fields.nlri (missing_of read.attributes) ∙ ap (λ b. not (is_empty fields.nlri) && b) (lacks read.attributes)) i)
    ∙ (λ i. treat_as_withdraw fields (meant.0 i) (meant.1 i))
