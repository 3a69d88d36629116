-- Equality, order and hash of attributes: over their types, flags and values, with AS numbers in four octets.
use Rattle.std.specs.Prelude.{ℕ, ◌%◌, ◌^◌, ◌==◌, Bool, ◌&&◌, List, [], ◌∷◌, ◌++◌, length, bytes_eq}
use Rattle.std.specs.List.{flat_map, fold}
use Rattle.std.specs.Cmp.Lexicographic.{pointwise, slice_cmp}
use Rattle.std.specs.Ordering.{nat_cmp, bool_cmp, on, then_cmp}
use Rattle.std.specs.declared.cmp.Ordering.{Ordering}
use Rattle.std.specs.Hash as fed
use Rattle.std.specs.Hash.FoldHasher as folding
use mathlib.Core.Bool.{beq}
use Rattle.rs_attrs.specs.Meaning.{Attribute}

-- equal in type, flags and value
abbrev pub same_attribute : Attribute → Attribute → Bool
same_attribute a b =
    a.kind == b.kind && beq a.optional b.optional && beq a.transitive b.transitive && beq a.partial b.partial && bytes_eq a.value b.value

abbrev pub same_attributes : List Attribute → List Attribute → Bool
same_attributes m n = pointwise same_attribute m n

-- the values, one after the other
abbrev pub octets_of : List Attribute → List ℕ
octets_of m = flat_map (λ a. a.value) m

-- by type, flags and length of the value
abbrev pub head_cmp : Attribute → Attribute → Ordering
head_cmp =
    then_cmp (on (λ a. a.kind) nat_cmp)
    (then_cmp (on (λ a. a.optional) bool_cmp)
    (then_cmp (on (λ a. a.transitive) bool_cmp)
    (then_cmp (on (λ a. a.partial) bool_cmp)
    (on (λ a. length a.value) nat_cmp))))

-- a total order: by the types, flags and lengths of all, and where these are equal by the octets of their values
abbrev pub attributes_cmp : List Attribute → List Attribute → Ordering
attributes_cmp = then_cmp (slice_cmp head_cmp) (on octets_of (slice_cmp nat_cmp))

-- what is written to a hasher: the type, flags and length of each, and then all values at once
abbrev pub head_writes : Attribute → List (List ℕ)
head_writes a =
    fed.u8 a.kind ++ fed.bool a.optional ++ fed.bool a.transitive ++ fed.bool a.partial ++ fed.u32 (length a.value)

abbrev pub attributes_writes : List Attribute → List (List ℕ)
attributes_writes m = fed.slice head_writes m ++ octets_of m ∷ []

-- the hash that is kept with them: 32 bits of what a hasher with a fixed seed makes of that
abbrev pub attributes_hash : List Attribute → ℕ
attributes_hash m = folding.finish (fold folding.write folding.initial (attributes_writes m)) % 2 ^ 32
