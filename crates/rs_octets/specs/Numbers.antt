-- Numbers of the protocol that several crates need.
use Rattle.std.specs.Prelude.{ℕ, Bool, if◌then◌else◌}

-- the AS number that stands for one that two octets can't hold (RFC 6793, 9)
abbrev pub as_trans : ℕ
as_trans = 23456

-- the octets of the longest message (RFC 4271, 4.1)
abbrev pub longest_message : ℕ
longest_message = 4096

-- the octets of the longest message where longer ones are taken (RFC 8654, 4)
abbrev pub longest_extended_message : ℕ
longest_extended_message = 65535

-- the octets of the longest message, where longer ones are taken or not
abbrev pub longest_where : Bool → ℕ
longest_where extended = if extended then longest_extended_message else longest_message
