-- Marks of numbers: 32 bits, of which a number sets one, by what is left of it beyond 32.
use Rattle.std.specs.Prelude.{◌≡◌, ℕ, ◌/◌, ◌%◌, ◌^◌, true, List}
use Rattle.std.specs.List.{AllByRecursion}
use Rattle.rs_attrs.specs.Paths.{Segment}
use Rattle.rs_attrs.specs.Spellings.{has_flag}
use Rattle.rs_attrs.specs.declared.patterns.LargeCommunity.{LargeCommunity}

-- a number's bit
abbrev pub mark_of : ℕ → ℕ
mark_of number = 2 ^ (number % 32)

-- each number is marked
abbrev pub AreNumbersMarked : ℕ → List ℕ → Type 0
AreNumbersMarked marks numbers = AllByRecursion (λ n. has_flag (mark_of n) marks ≡ true) numbers

-- each number of each segment is, be it a set or a sequence
abbrev pub IsPathMarked : ℕ → List Segment → Type 0
IsPathMarked marks path = AllByRecursion (λ (s : Segment). AreNumbersMarked marks s.numbers) path

-- the first 16 bits of each community are
abbrev pub AreMarked : ℕ → List ℕ → Type 0
AreMarked marks cs = AllByRecursion (λ c. has_flag (mark_of (c / 65536)) marks ≡ true) cs

-- the Global Administrator of each large community is
abbrev pub AreLargeMarked : ℕ → List LargeCommunity → Type 0
AreLargeMarked marks cs = AllByRecursion (λ (c : LargeCommunity). has_flag (mark_of c.global) marks ≡ true) cs

-- whatever the old marks mark the new do
abbrev pub KeepsMarks : ℕ → ℕ → Type 0
KeepsMarks old new = (n : ℕ) → has_flag (mark_of n) old ≡ true → has_flag (mark_of n) new ≡ true
