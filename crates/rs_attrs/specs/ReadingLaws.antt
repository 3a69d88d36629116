-- Laws of what is read: a field has a meaning, and no other; a path's value is read exactly where it is one.
use Rattle.std.specs.Prelude.{◌≡◌, ◌↔◌, ℕ, Bool, List, Some}
use Rattle.rs_attrs.specs.declared.mode.Mode.{Mode}
use Rattle.rs_attrs.specs.declared.faults.Faults.{Faults}
use Rattle.rs_attrs.specs.Spellings.{AreOctets}
use Rattle.rs_attrs.specs.Paths.{AsSize, Segment, IsPath, segments_of}
use Rattle.rs_attrs.specs.Meaning.{Attribute, Reads, read_of}

-- each field means what is computed of it
abbrev pub FieldsAreRead : Type 0
FieldsAreRead = (octets : List ℕ) (mode : Mode) → AreOctets octets → Reads octets mode (read_of octets mode).attributes (read_of octets mode).faults

-- and nothing else
abbrev pub FieldsMeanOne : Type 0
FieldsMeanOne = (octets : List ℕ) (mode : Mode) (m n : List Attribute) (f g : Faults) → Reads octets mode m f → Reads octets mode n g → (m ≡ n) × (f ≡ g)

abbrev pub PathsAreRead : Type 0
PathsAreRead = (size : AsSize) (is_kind : ℕ → Bool) (value : List ℕ) (path : List Segment) → AreOctets value → (segments_of size is_kind value ≡ Some path) ↔ IsPath size is_kind value path
