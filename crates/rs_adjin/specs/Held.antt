-- The numbers of the prefixes that one client holds.
use Rattle.std.specs.Prelude.{◌≡◌, ◌≤◌, ◌<◌, ◌==◌, ◌+◌, ◌/◌, ◌%◌, ℕ, Bool, true, false, List, slice_index, if◌then◌else◌}
use Rattle.std.specs.Int.{bit_at}
use Rattle.rs_adjin.specs.declared.held.Held.{Held}

-- bit n of these words is set
abbrev pub bit_of : List ℕ → ℕ → Bool
bit_of words n = bit_at (slice_index words (n / 64)) (n % 64) == 1

unfoldable pub has_number : Held → ℕ → Bool
has_number held n = bit_of held.words.items n

abbrev pub one_if : Bool → ℕ
one_if b = if b then 1 else 0

-- number n is in the set or isn't, and else the set is as it was; the count goes with it
pub record Marks (old new : Held) (n : ℕ) (b : Bool) : Type 0 where
  pub numbers : (m : ℕ) → has_number new m ≡ (if m == n then b else has_number old m)
  pub count : new.count + one_if (has_number old n) ≡ old.count + one_if b

pub record SameSet (old new : Held) : Type 0 where
  pub numbers : (m : ℕ) → has_number new m ≡ has_number old m
  pub count : new.count ≡ old.count

-- n is the least number of the set from this one on
pub record IsNext (held : Held) (first n : ℕ) : Type 0 where
  pub from : first ≤ n
  pub there : has_number held n ≡ true
  pub none_before : (m : ℕ) → first ≤ m → m < n → has_number held m ≡ false
