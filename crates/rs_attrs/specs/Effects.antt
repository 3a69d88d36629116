-- What an UPDATE does, and what a list of UPDATEs means (RFC 4271, 4.3 and 6.3; RFC 7606, 2 to 5).
use Rattle.std.specs.Prelude.{◌≡◌, ℕ, ◌<◌, ◌==◌, ◌⊎◌, Bool, true, false, ◌&&◌, ◌||◌, not, List, [], ◌∷◌, ◌++◌, length, take, drop, filter, reverse, find, Option, Some, None, option_map, is_none, is_err, nat_lt, if◌then◌else◌}
use Rattle.std.specs.List.{list_any, filter_map, IsDistinct, AllZip}
use Rattle.std.specs.Option.{option_or}
use Rattle.std.specs.Result.{result_ok}
use Rattle.std.specs.Int.{w16, from_be_bytes, to_be_bytes}
use Rattle.rs_octets.specs.declared.notification.Notification.{Notification}
use Rattle.rs_octets.specs.declared.notification.Notification.TheVariants as names
use Rattle.rs_octets.specs.Names.{code_of, sub_of, codes_named}
use Rattle.rs_octets.specs.Prefixes.{Prefix}
use Rattle.rs_octets.specs.PrefixFields.{prefixes_of}
use Rattle.rs_attrs.specs.declared.mode.Mode.{Mode}
use Rattle.rs_attrs.specs.declared.faults.Cause.TheVariants as cause
use Rattle.rs_attrs.specs.declared.faults.Faulted.{Faulted}
use Rattle.rs_attrs.specs.declared.faults.Faults.{Faults}
use Rattle.rs_attrs.specs.Meaning.{Attribute, get, Reads, Reading, read_of}
use Rattle.rs_attrs.specs.Flaws.{fault, faulted_of}
use Rattle.rs_attrs.specs.Types as types

-- ---- the fields of an UPDATE's body (RFC 4271, 4.3)

pub record Fields : Type 0 where
  pub withdrawn : List ℕ
  pub attributes : List ℕ
  pub nlri : List ℕ

abbrev pub behind_its_length : List ℕ → List ℕ
behind_its_length field = to_be_bytes w16 (length field) ++ field

-- the body is these three fields
pub record IsBody (body : List ℕ) (fields : Fields) : Type 0 where
  pub whole : body ≡ behind_its_length fields.withdrawn ++ behind_its_length fields.attributes ++ fields.nlri
  pub withdrawn : length fields.withdrawn < 65536
  pub attributes : length fields.attributes < 65536

-- ---- prefixes

abbrev pub same_prefix : Prefix → Prefix → Bool
same_prefix p q = p.bits == q.bits && p.len == q.len

abbrev pub has_prefix : Prefix → List Prefix → Bool
has_prefix p prefixes = list_any (same_prefix p) prefixes

-- a length over 32, or a prefix cut off
abbrev pub is_faulty : List ℕ → Bool
is_faulty field = list_any is_err (prefixes_of field)

abbrev pub prefixes_in : List ℕ → List Prefix
prefixes_in field = filter_map result_ok (prefixes_of field)

-- ---- the effect

-- the prefixes withdrawn, those announced, and the attributes of these
pub record Change : Type 0 where
  pub withdrawn : List Prefix
  pub announced : List Prefix
  pub attributes : Option (List Attribute)

-- a session reset with the code and subcode of its NOTIFICATION, or a change
pub data Effect : Type 0 where
  Reset : ℕ → ℕ → Effect
  Changes : Change → Effect

-- the reset by the NOTIFICATION of this name
abbrev pub reset_named : Notification → Effect
reset_named name = Reset (code_of name) (sub_of name)

abbrev pub is_empty : {A : Type 0} → List A → Bool
is_empty [] = true
is_empty (x ∷ xs) = false

-- the NOTIFICATION of the first reset that holds of fields that the body is made of (RFC 7606, 3, 5.2 and 5.3)
abbrev pub reset_of : Fields → Faults → Option Notification
reset_of fields faults =
    if is_faulty fields.withdrawn || is_faulty fields.nlri then Some names.InvalidNetworkField
    else if faults.mp_twice then Some names.MalformedAttributeList
    else if faults.withdraw && not (is_empty fields.attributes) && is_empty fields.nlri then Some names.MalformedAttributeList
    else if faults.unknown then Some names.UnrecognizedWellKnownAttribute
    else None

-- ORIGIN, AS_PATH or NEXT_HOP isn't there
abbrev pub lacks_mandatory : List Attribute → Bool
lacks_mandatory m = is_none (get types.origin m) || is_none (get types.as_path m) || is_none (get types.next_hop m)

-- the first of them that isn't there
abbrev pub missing_of : List Attribute → Option ℕ
missing_of m = find (λ kind. is_none (get kind m)) (types.origin ∷ types.as_path ∷ types.next_hop ∷ [])

abbrev pub HasMandatory : List Attribute → Type 0
HasMandatory m = lacks_mandatory m ≡ false

-- the NLRI counts as withdrawn (RFC 7606, 2 and 3, d)
abbrev pub treat_as_withdraw : Fields → List Attribute → Faults → Bool
treat_as_withdraw fields m faults = faults.withdraw || not (is_empty fields.nlri) && lacks_mandatory m

abbrev pub announced_by : Fields → List Attribute → Faults → List Prefix
announced_by fields m faults = if treat_as_withdraw fields m faults then [] else prefixes_in fields.nlri

-- Each prefix stands once. Announced is the NLRI, but where it counts as withdrawn; withdrawn is what else
-- the UPDATE names. The attributes are there exactly where something is announced.
pub record IsChange (fields : Fields) (m : List Attribute) (faults : Faults) (change : Change) : Type 0 where
  pub announced_once : IsDistinct same_prefix change.announced
  pub withdrawn_once : IsDistinct same_prefix change.withdrawn
  pub announced : (p : Prefix) → has_prefix p change.announced ≡ has_prefix p (announced_by fields m faults)
  pub withdrawn : (p : Prefix) → has_prefix p change.withdrawn
      ≡ ((has_prefix p (prefixes_in fields.withdrawn) || has_prefix p (prefixes_in fields.nlri)) && not (has_prefix p change.announced))
  pub attributes : change.attributes ≡ (if is_empty change.announced then None else Some m)

abbrev pub IsEffect : Fields → List Attribute → Faults → Effect → Type 0
IsEffect fields m faults (Reset code sub) = option_map codes_named (reset_of fields faults) ≡ Some (code, sub)
IsEffect fields m faults (Changes change) = (reset_of fields faults ≡ None) × IsChange fields m faults change

-- the body of an UPDATE has this effect; where its two lengths exceed it, a reset
abbrev pub HasEffect : List ℕ → Mode → Effect → Type 0
HasEffect body mode effect =
    (((fields : Fields) → IsBody body fields → ⊥) × (effect ≡ reset_named names.MalformedAttributeList))
    ⊎ ((fields : Fields) × IsBody body fields × (m : List Attribute) × (faults : Faults) × Reads fields.attributes mode m faults × IsEffect fields m faults effect)

-- ---- what is noted of an UPDATE that is taken, but not as it came (RFC 7606, 2 and 3, d)

-- where there is NLRI, the first of ORIGIN, AS_PATH and NEXT_HOP that isn't
abbrev pub missing_for : Fields → List Attribute → Option ℕ
missing_for fields m = if is_empty fields.nlri then None else missing_of m

-- an attribute that is missing, where none that came is treated as withdraw
abbrev pub with_missing : Faulted → Option ℕ → Faulted
with_missing faulted missing = record {
  withdraw = option_or faulted.withdraw (option_map (λ kind. fault kind cause.Missing) missing);
  discard = faulted.discard;
  mp_reach = faulted.mp_reach;
}

-- what is wrong with the attributes that came, and which one is missing
abbrev pub faulted_in : Fields → Mode → Faulted
faulted_in fields mode = with_missing (faulted_of fields.attributes mode) (missing_for fields (read_of fields.attributes mode).attributes)

-- ---- the meaning of a list of UPDATEs

abbrev pub mentions : Prefix → Change → Bool
mentions p change = has_prefix p change.withdrawn || has_prefix p change.announced

-- the attributes of a prefix after a change that mentions it: none where it is withdrawn
abbrev pub attributes_after : Prefix → Option Change → Option (List Attribute)
attributes_after p None = None
attributes_after p (Some change) = if has_prefix p change.announced then change.attributes else None

-- The table that changes mean: each prefix by the newest change that mentions it. The newest stands first.
abbrev pub table_since : List Change → Prefix → Option (List Attribute)
table_since changes p = attributes_after p (find (mentions p) changes)

-- the same, where the oldest stands first
abbrev pub table_of : List Change → Prefix → Option (List Attribute)
table_of changes p = table_since (reverse changes) p

-- a table, and a change that is newer
abbrev pub overlaid : (Prefix → Option (List Attribute)) → Change → Prefix → Option (List Attribute)
overlaid table change p = if mentions p change then attributes_after p (Some change) else table p

-- The UPDATEs with these bodies, oldest first, mean this table. A reset ends the session, and the session's
-- table with it, so a list with a reset in it means none.
abbrev pub MeansTable : List (List ℕ) → Mode → (Prefix → Option (List Attribute)) → Type 0
MeansTable bodies mode table =
    (changes : List Change) × AllZip (λ body change. HasEffect body mode (Changes change)) bodies changes × ((p : Prefix) → table p ≡ table_of changes p)

-- ---- the same, computed

-- a field behind its length, and what follows it
pub record Cut : Type 0 where
  pub field : List ℕ
  pub after : List ℕ

abbrev pub cut : List ℕ → Option Cut
cut (high ∷ low ∷ octets) =
    let size = from_be_bytes w16 (high ∷ low ∷ []) in
    if nat_lt (length octets) size then None else Some (record { field = take size octets; after = drop size octets })
cut _ = None

abbrev pub fields_behind : List ℕ → Option Cut → Option Fields
fields_behind withdrawn None = None
fields_behind withdrawn (Some attributes) = Some (record { withdrawn = withdrawn; attributes = attributes.field; nlri = attributes.after })

abbrev pub fields_by : Option Cut → Option Fields
fields_by None = None
fields_by (Some withdrawn) = fields_behind withdrawn.field (cut withdrawn.after)

abbrev pub fields_of : List ℕ → Option Fields
fields_of body = fields_by (cut body)

-- the first list without the second
abbrev pub without : List Prefix → List Prefix → List Prefix
without ps qs = filter (λ p. not (has_prefix p qs)) ps

-- each prefix once
abbrev pub once : List Prefix → List Prefix
once [] = []
once (p ∷ ps) = p ∷ without (once ps) (p ∷ [])

abbrev pub change_of : Fields → Reading → Change
change_of fields read =
    let announced = once (announced_by fields read.attributes read.faults) in
    record {
      withdrawn = without (once (prefixes_in fields.withdrawn ++ prefixes_in fields.nlri)) announced;
      announced = announced;
      attributes = if is_empty announced then None else Some read.attributes;
    }

abbrev pub effect_by : Option Notification → Change → Effect
effect_by (Some name) change = reset_named name
effect_by None change = Changes change

abbrev pub effect_in : Mode → Option Fields → Effect
effect_in mode None = reset_named names.MalformedAttributeList
effect_in mode (Some fields) =
    let read = read_of fields.attributes mode in
    effect_by (reset_of fields read.faults) (change_of fields read)

abbrev pub effect_of : List ℕ → Mode → Effect
effect_of body mode = effect_in mode (fields_of body)
