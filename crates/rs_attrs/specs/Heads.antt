-- What of an attribute is not its value, and the word that it lies in: the type in the highest bits, then a bit for each
-- flag, and the length of the value in the lowest 32.
use Rattle.std.specs.Prelude.{ℕ, ◌+◌, ◌*◌, ◌/◌, ◌%◌, ◌^◌, ◌==◌, Bool, ◌&&◌, List, ◌++◌}
use Rattle.std.specs.Ordering.{nat_cmp, bool_cmp, on, then_cmp}
use Rattle.std.specs.declared.cmp.Ordering.{Ordering}
use Rattle.std.specs.Hash as fed
use mathlib.Core.Bool.{beq}
use Rattle.rs_attrs.specs.Spellings.{has_flag}
use Rattle.rs_attrs.specs.Writing.{bit}

-- an attribute but for its value
pub record Head : Type 0 where
  pub kind : ℕ
  pub optional : Bool
  pub transitive : Bool
  pub partial : Bool
  pub len : ℕ

-- the head that lies in a word, and the word that a head lies in
abbrev pub head_in : ℕ → Head
head_in word = record {
  kind = word / 2 ^ 35;
  optional = has_flag (2 ^ 34) word;
  transitive = has_flag (2 ^ 33) word;
  partial = has_flag (2 ^ 32) word;
  len = word % 2 ^ 32;
}

abbrev pub word_of : Head → ℕ
word_of h = (((h.kind * 2 + bit 1 h.optional) * 2 + bit 1 h.transitive) * 2 + bit 1 h.partial) * 2 ^ 32 + h.len

-- equal in type, flags and length
abbrev pub same_head : Head → Head → Bool
same_head x y = x.kind == y.kind && (beq x.optional y.optional && (beq x.transitive y.transitive && (beq x.partial y.partial && x.len == y.len)))

-- by type, flags and length
abbrev pub head_order : Head → Head → Ordering
head_order =
    then_cmp (on (λ h. h.kind) nat_cmp)
    (then_cmp (on (λ h. h.optional) bool_cmp)
    (then_cmp (on (λ h. h.transitive) bool_cmp)
    (then_cmp (on (λ h. h.partial) bool_cmp)
    (on (λ h. h.len) nat_cmp))))

-- what is written to a hasher: type, flags and length
abbrev pub writes_of_head : Head → List (List ℕ)
writes_of_head h = fed.u8 h.kind ++ fed.bool h.optional ++ fed.bool h.transitive ++ fed.bool h.partial ++ fed.u32 h.len
