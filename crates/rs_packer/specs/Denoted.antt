-- What a message denotes, by the definitions by which its receiver reads it (RFC 4271, 4.3; RFC 7606).
use Rattle.std.specs.Prelude.{◌≡◌, ℕ, List, [], map, Some, None, Ok}
use Rattle.std.specs.List.{IsDistinct}
use Rattle.rs_octets.specs.Prefixes.{Prefix}
use Rattle.rs_octets.specs.PrefixFields.{prefixes_of}
use Rattle.rs_attrs.specs.declared.mode.Mode.{Mode}
use Rattle.rs_attrs.specs.Meaning.{Attribute, Reads}
use Rattle.rs_attrs.specs.Writing.{no_faults}
use Rattle.rs_attrs.specs.Effects.{Fields, IsBody, Change, same_prefix, has_prefix}

-- The fields of a body hold these withdrawn routes, these attributes and this NLRI, in this order; nothing is wrong
-- with any of them.
pub record Holds (body : List ℕ) (mode : Mode) (ws : List Prefix) (m : List Attribute) (ps : List Prefix) : Type 0 where
  pub fields : Fields
  pub are : IsBody body fields
  pub withdrawn : prefixes_of fields.withdrawn ≡ map Ok ws
  pub attributes : Reads fields.attributes mode m no_faults
  pub nlri : prefixes_of fields.nlri ≡ map Ok ps

-- the list is these prefixes, each once
pub record IsEachOnce (ps list : List Prefix) : Type 0 where
  pub once : IsDistinct same_prefix list
  pub same : (p : Prefix) → has_prefix p list ≡ has_prefix p ps

-- announces these prefixes with these attributes, and withdraws nothing
pub record Announces (m : List Attribute) (ps : List Prefix) (change : Change) : Type 0 where
  pub announced : IsEachOnce ps change.announced
  pub attributes : change.attributes ≡ Some m
  pub withdrawn : change.withdrawn ≡ []

-- withdraws these prefixes, and announces nothing
pub record Withdraws (ps : List Prefix) (change : Change) : Type 0 where
  pub withdrawn : IsEachOnce ps change.withdrawn
  pub announced : change.announced ≡ []
  pub attributes : change.attributes ≡ None
