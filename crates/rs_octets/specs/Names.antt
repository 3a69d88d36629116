-- The error codes and subcodes of NOTIFICATIONs, by name (RFC 4271, 4.5; RFC 4486; RFC 5492; RFC 6608).
use Rattle.std.specs.Prelude.{◌≡◌, ℕ}
use Rattle.rs_octets.specs.declared.notification.Notification.{Notification}
use Rattle.rs_octets.specs.declared.notification.Notification.TheVariants as names

pub record Codes : Type 0 where
  pub code : ℕ
  pub sub : ℕ

abbrev pub codes : ℕ → ℕ → Codes
codes code sub = record { code = code; sub = sub }

abbrev pub codes_of : Notification → Codes
-- RFC 4271, 6.1
codes_of names.MessageHeaderError = codes 1 0
codes_of names.ConnectionNotSynchronized = codes 1 1
codes_of names.BadMessageLength = codes 1 2
codes_of names.BadMessageType = codes 1 3
-- RFC 4271, 6.2; RFC 5492, 5
codes_of names.OpenMessageError = codes 2 0
codes_of names.UnsupportedVersionNumber = codes 2 1
codes_of names.BadPeerAs = codes 2 2
codes_of names.BadBgpIdentifier = codes 2 3
codes_of names.UnsupportedOptionalParameter = codes 2 4
codes_of names.UnacceptableHoldTime = codes 2 6
codes_of names.UnsupportedCapability = codes 2 7
-- RFC 4271, 6.3
codes_of names.UpdateMessageError = codes 3 0
codes_of names.MalformedAttributeList = codes 3 1
codes_of names.UnrecognizedWellKnownAttribute = codes 3 2
codes_of names.MissingWellKnownAttribute = codes 3 3
codes_of names.AttributeFlagsError = codes 3 4
codes_of names.AttributeLengthError = codes 3 5
codes_of names.InvalidOriginAttribute = codes 3 6
codes_of names.InvalidNextHopAttribute = codes 3 8
codes_of names.OptionalAttributeError = codes 3 9
codes_of names.InvalidNetworkField = codes 3 10
codes_of names.MalformedAsPath = codes 3 11
-- RFC 4271, 6.5
codes_of names.HoldTimerExpired = codes 4 0
-- RFC 4271, 6.6; RFC 6608
codes_of names.FiniteStateMachineError = codes 5 0
codes_of names.UnexpectedInOpenSent = codes 5 1
codes_of names.UnexpectedInOpenConfirm = codes 5 2
codes_of names.UnexpectedInEstablished = codes 5 3
-- RFC 4271, 6.7; RFC 4486
codes_of names.Cease = codes 6 0
codes_of names.MaximumPrefixesReached = codes 6 1
codes_of names.AdministrativeShutdown = codes 6 2
codes_of names.PeerDeconfigured = codes 6 3
codes_of names.AdministrativeReset = codes 6 4
codes_of names.ConnectionRejected = codes 6 5
codes_of names.OtherConfigurationChange = codes 6 6
codes_of names.ConnectionCollisionResolution = codes 6 7
codes_of names.OutOfResources = codes 6 8

abbrev pub code_of : Notification → ℕ
code_of name = (codes_of name).code

abbrev pub sub_of : Notification → ℕ
sub_of name = (codes_of name).sub

-- both, as a pair
abbrev pub codes_named : Notification → ℕ × ℕ
codes_named name = (code_of name, sub_of name)

-- the name of this error code and this subcode
abbrev pub IsNamed : Notification → ℕ → ℕ → Type 0
IsNamed name code sub = codes_of name ≡ codes code sub
