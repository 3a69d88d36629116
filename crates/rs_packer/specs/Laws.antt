-- What holds of the definitions, as the contracts of the module `laws` say it.
use Rattle.std.specs.Prelude.{◌≡◌, ℕ, ◌<◌, ◌≤◌, false, List, [], length, Some, None}
use Rattle.std.specs.List.{AllByRecursion}
use Rattle.rs_octets.specs.declared.heads.Allowed.{Allowed}
use Rattle.rs_octets.specs.Headers.{longest}
use Rattle.rs_octets.specs.declared.heads.Kind.TheVariants.{Update}
use Rattle.rs_octets.specs.Messages.{IsMessageOf, body_of}
use Rattle.rs_octets.specs.Prefixes.{Prefix, IsIpv4Prefix}
use Rattle.rs_attrs.specs.declared.mode.Mode.{Mode}
use Rattle.rs_attrs.specs.Meaning.{Attribute}
use Rattle.rs_attrs.specs.Writing.{IsLegal}
use Rattle.rs_attrs.specs.Effects.{Change, Effect, Changes, HasEffect, lacks_mandatory, once}
use Rattle.rs_packer.specs.Packed.{update, update_body, announcement, withdrawal, IsLongestFront, announced_fit, withdrawn_fit}
use Rattle.rs_packer.specs.Denoted.{Holds, Announces, Withdraws}

-- to whoever takes messages of that length it is one whole message, and of that type
abbrev pub UpdateIsMessage : Type 0
UpdateIsMessage =
    (allowed : Allowed) (withdrawn : List Prefix) (attributes : List ℕ) (nlri : List Prefix)
    → length (update withdrawn attributes nlri) ≤ longest allowed
    → IsMessageOf allowed Update (update withdrawn attributes nlri)

-- behind its header stand its three fields
abbrev pub UpdateHasItsBody : Type 0
UpdateHasItsBody =
    (withdrawn : List Prefix) (attributes : List ℕ) (nlri : List Prefix)
    → body_of (update withdrawn attributes nlri) ≡ update_body withdrawn attributes nlri

-- ---- the longest front

-- there is one where the message of no prefix fits, and it is the computed one
abbrev pub AnnouncedFrontIs : Type 0
AnnouncedFrontIs =
    (m : List Attribute) (mode : Mode) (limit : ℕ) (ps : List Prefix) → length (announcement m mode []) ≤ limit
    → IsLongestFront (announcement m mode) limit ps (announced_fit m mode limit ps)

abbrev pub AnnouncedFrontIsOnly : Type 0
AnnouncedFrontIsOnly =
    (m : List Attribute) (mode : Mode) (limit : ℕ) (ps : List Prefix) (n : ℕ) → IsLongestFront (announcement m mode) limit ps n
    → n ≡ announced_fit m mode limit ps

abbrev pub WithdrawnFrontIs : Type 0
WithdrawnFrontIs = (limit : ℕ) (ps : List Prefix) → length (withdrawal []) ≤ limit → IsLongestFront withdrawal limit ps (withdrawn_fit limit ps)

abbrev pub WithdrawnFrontIsOnly : Type 0
WithdrawnFrontIsOnly = (limit : ℕ) (ps : List Prefix) (n : ℕ) → IsLongestFront withdrawal limit ps n → n ≡ withdrawn_fit limit ps

-- ---- what a message denotes

-- What is announced: legal prefixes, one at least, with legal attributes that have ORIGIN, AS_PATH and NEXT_HOP, in a
-- message whose length has two octets (RFC 4271, 4.1 and 5).
pub record IsAnnounceable (m : List Attribute) (mode : Mode) (ps : List Prefix) : Type 0 where
  pub legal : IsLegal m
  pub mandatory : lacks_mandatory m ≡ false
  pub some : 0 < length ps
  pub prefixes : AllByRecursion IsIpv4Prefix ps
  pub fits : length (announcement m mode ps) ≤ 65535

-- an announcement's fields are its prefixes and its attributes
abbrev pub AnnouncementHolds : Type 0
AnnouncementHolds =
    (m : List Attribute) (mode : Mode) (ps : List Prefix) → IsAnnounceable m mode ps
    → Holds (body_of (announcement m mode ps)) mode [] m ps

-- it announces these prefixes with these attributes, each prefix once
abbrev pub AnnouncementAnnounces : Type 0
AnnouncementAnnounces =
    (m : List Attribute) (mode : Mode) (ps : List Prefix) → IsAnnounceable m mode ps
    → HasEffect (body_of (announcement m mode ps)) mode (Changes (record { withdrawn = []; announced = once ps; attributes = Some m }))

-- in whichever order they are listed
abbrev pub AnnouncementHasEffect : Type 0
AnnouncementHasEffect =
    (m : List Attribute) (mode : Mode) (ps : List Prefix) → IsAnnounceable m mode ps
    → (change : Change) → Announces m ps change → HasEffect (body_of (announcement m mode ps)) mode (Changes change)

-- and whatever its effect is, it is one of these
abbrev pub AnnouncementHasNoOtherEffect : Type 0
AnnouncementHasNoOtherEffect =
    (m : List Attribute) (mode : Mode) (ps : List Prefix) → IsAnnounceable m mode ps
    → (effect : Effect) → HasEffect (body_of (announcement m mode ps)) mode effect → (change : Change) × (effect ≡ Changes change) × Announces m ps change

-- the same of withdrawals
pub record IsWithdrawable (ps : List Prefix) : Type 0 where
  pub prefixes : AllByRecursion IsIpv4Prefix ps
  pub fits : length (withdrawal ps) ≤ 65535

abbrev pub WithdrawalHolds : Type 0
WithdrawalHolds = (mode : Mode) (ps : List Prefix) → IsWithdrawable ps → Holds (body_of (withdrawal ps)) mode ps [] []

abbrev pub WithdrawalWithdraws : Type 0
WithdrawalWithdraws =
    (mode : Mode) (ps : List Prefix) → IsWithdrawable ps
    → HasEffect (body_of (withdrawal ps)) mode (Changes (record { withdrawn = once ps; announced = []; attributes = None }))

abbrev pub WithdrawalHasEffect : Type 0
WithdrawalHasEffect =
    (mode : Mode) (ps : List Prefix) → IsWithdrawable ps
    → (change : Change) → Withdraws ps change → HasEffect (body_of (withdrawal ps)) mode (Changes change)

abbrev pub WithdrawalHasNoOtherEffect : Type 0
WithdrawalHasNoOtherEffect =
    (mode : Mode) (ps : List Prefix) → IsWithdrawable ps
    → (effect : Effect) → HasEffect (body_of (withdrawal ps)) mode effect → (change : Change) × (effect ≡ Changes change) × Withdraws ps change
