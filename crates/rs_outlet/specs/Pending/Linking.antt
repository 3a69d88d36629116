-- The table by which slots are chained: of each hash the slot that was met last.
use Rattle.std.specs.Prelude.{◌≡◌, ◌==◌, ◌||◌, ◌-◌, ◌≤◌, ℕ, zero, suc, Bool, true, false, cond, List, Option, None, Some, length, slice_get, nat_lt, bit_and}
use Rattle.rs_outlet.specs.declared.waiting.Wait.{Wait}
use Rattle.rs_outlet.specs.declared.waiting.chains.Keyed.{Keyed}
use Rattle.rs_outlet.specs.Pending.Slots.{hash_of}

abbrev pub no_slot : ℕ
no_slot = 4294967295

-- whether a place is free, or has this hash
abbrev pub is_for : ℕ → Keyed → Bool
is_for hash e = (e.slot == no_slot) || (e.key == hash)

-- the place behind another one; behind the last one stands the first
abbrev pub next_in : ℕ → ℕ → ℕ
next_in size at = cond (nat_lt at (size - 1)) (suc at) 0

abbrev pub place_by : Option Keyed → ℕ → ℕ → Option ℕ → Option ℕ
place_by None hash at further = None
place_by (Some e) hash at further = cond (is_for hash e) (Some at) further

-- from a place on the first of so many that is free or has this hash
abbrev pub place_from : List Keyed → ℕ → ℕ → ℕ → Option ℕ
place_from table hash zero at = None
place_from table hash (suc left) at = place_by (slice_get table at) hash at (place_from table hash left (next_in (length table) at))

-- the place of a hash; none where others have the 32 that are tried for it
unfoldable pub place_of : List Keyed → ℕ → Option ℕ
place_of table hash = place_from table hash 32 (bit_and hash (length table - 1))

-- the table has a slot of this hash, and none that comes after this one
pub record IsMet (table : List Keyed) (hash slot : ℕ) : Type 0 where
  pub place : ℕ
  pub entry : Keyed
  pub at : place_of table hash ≡ Some place
  pub there : slice_get table place ≡ Some entry
  pub key : entry.key ≡ hash
  pub taken : (entry.slot == no_slot) ≡ false
  pub before : entry.slot ≤ slot

-- of each slot from one on that waits to be announced the table has the hash
abbrev pub AreMet : List Wait → ℕ → List Keyed → Type 0
AreMet ws from table = (m hash : ℕ) (z : Wait) → slice_get ws m ≡ Some z → from ≤ m → z.open ≡ true → hash_of z.due ≡ Some hash → IsMet table hash m
