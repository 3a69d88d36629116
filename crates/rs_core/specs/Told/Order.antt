-- The order of what a client is told (RFC 4271, 9.2): each UPDATE tells what was due at the last turn, and nothing twice in a
-- row but where the client asked for it.
use Rattle.std.specs.Prelude.{◌≡◌, ◌≢◌, ◌⊎◌, ℕ, Bool, true, false, List, [], ◌∷◌, ◌++◌, reverse, Some, if◌then◌else◌}
use Rattle.std.specs.List.{AllZip}
use Rattle.std.specs.FinMap as fin
use Rattle.std.specs.FinSet as set
use Rattle.rs_octets.specs.Prefixes.{Prefix}
use Rattle.rs_attrs.specs.Effects.{Change, Changes, HasEffect, attributes_after, mentions}
use Rattle.rs_open.specs.declared.short.Limit.{Limit}
use Rattle.rs_session.specs.Sessions.{is_live}
use Rattle.rs_policy.specs.Configuration.{Configuration}
use Rattle.rs_outlet.specs.declared.answers.Speech.{Speech}
use Rattle.rs_outlet.specs.Views.{View}
use Rattle.rs_core.specs.Told.Points.{Point, Decided, Asked, Offered, Value, dues_at, latest}
use Rattle.rs_core.specs.Session.Hearing.{Hearing, state_in, is_up}
use Rattle.rs_core.specs.Told.Telling.{allowed_to, updates_in}
use Rattle.rs_octets.specs.Messages.{rest_of}

-- what these changes say of a prefix, one value for each that mentions it; the newest stand first
abbrev pub told_by : List Change → Prefix → List Value
told_by [] p = []
told_by (change ∷ changes) p = if mentions p change then attributes_after p (Some change) ∷ told_by changes p else told_by changes p

-- by the UPDATEs in these octets a client that is spoken to like this is told these values at a prefix, the newest first
pub record TellsAt (speech : Speech) (octets : List ℕ) (p : Prefix) (values : List Value) : Type 0 where
  pub changes : List Change
  pub have : AllZip (λ body change. HasEffect body speech.mode (Changes change)) (updates_in speech.limit octets) changes
  pub are : values ≡ told_by (reverse changes) p

-- one value more was told, by a message that began where all before it was taken: what was due at the last turn, and it was
-- not what was told last, or the client had asked since
pub record TellsOneMore (speech : Speech) (points : List Point) (taken : List ℕ) (p : Prefix) (Before : List Value → Bool → Type 0) (values : List Value) (asked : Bool) : Type 0 where
  pub value : Value
  pub earlier : List Value
  pub was_asked : Bool
  pub are : values ≡ value ∷ earlier
  pub before : Before earlier was_asked
  pub taken_tells : TellsAt speech taken p earlier
  pub whole : rest_of (allowed_to speech.limit) taken ≡ []
  pub due : value ≡ latest (dues_at points p)
  pub news : (value ≢ latest earlier) ⊎ (was_asked ≡ true)
  pub answered : asked ≡ false

-- by what befell a client, it was told these values at a prefix, the newest first, and has or has not asked since
abbrev pub TellsInOrder : Speech → List Point → Prefix → List Value → Bool → Type 0
TellsInOrder speech [] p values asked = (values ≡ []) × (asked ≡ false)
TellsInOrder speech (Decided due ∷ points) p values asked = TellsInOrder speech points p values asked
TellsInOrder speech (Asked ∷ points) p values asked = (asked ≡ true) × (was_asked : Bool) × TellsInOrder speech points p values was_asked
TellsInOrder speech (Offered taken ∷ points) p values asked =
    TellsInOrder speech points p values asked ⊎ TellsOneMore speech points taken p (λ earlier was_asked. TellsInOrder speech points p earlier was_asked) values asked

-- ---- an outlet

-- at a prefix these octets tell what the outlet has as told, in order; what was told is marked exactly where the client asked since
pub record IsToldInOrder (speech : Speech) (points : List Point) (octets : List ℕ) (v : View) (p : Prefix) : Type 0 where
  pub values : List Value
  pub asked : Bool
  pub tells : TellsAt speech octets p values
  pub order : TellsInOrder speech points p values asked
  pub told : fin.get v.told p ≡ latest values
  pub marked : set.contains v.marked p ≡ true → asked ≡ true
  pub pending : asked ≡ true → fin.contains_key v.told p ≡ true → set.contains v.marked p ≡ true

-- nothing was decided, asked for or told
pub record IsUntold (points : List Point) (octets : List ℕ) : Type 0 where
  pub dues : (p : Prefix) → dues_at points p ≡ []
  pub order : (speech : Speech) (p : Prefix) → TellsInOrder speech points p [] false
  pub updates : (limit : Limit) → updates_in limit octets ≡ []

-- Of a client that is Established the Loc-RIB is what was due at the last turn, and the octets taken and in flight tell it
-- in order. Before, while the session lasts, there was nothing of it.
pub record IsOrdered (s : Configuration) (c : ℕ) (h : Hearing) (v : View) : Type 0 where
  pub before : is_live (state_in s c h) ≡ true → is_up (state_in s c h) ≡ false → IsUntold h.points (h.taken ++ v.flight)
  pub loc : (speech : Speech) → v.speech ≡ Some speech → (p : Prefix) → fin.get v.loc p ≡ latest (dues_at h.points p)
  pub told : (speech : Speech) → v.speech ≡ Some speech → (p : Prefix) → IsToldInOrder speech h.points (h.taken ++ v.flight) v p
