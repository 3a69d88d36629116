-- Lists of ranges of numbers: of addresses, each with the lengths that it takes, or of AS numbers.
use Rattle.std.specs.Prelude.{◌≡◌, ℕ, ◌≤◌, ◌<◌, ◌+◌, ◌-◌, ◌*◌, ◌&&◌, Bool, nat_le, List, length, slice_index_or}
use Rattle.std.specs.List.{list_any}
use Rattle.rs_lists.specs.declared.Span.{Span}

-- the numbers from low to high, with lengths from min to max, and what their owner keeps with them
abbrev pub span : ℕ → ℕ → ℕ → ℕ → ℕ → Span
span low high min max tag = record { low = low; high = high; min = min; max = max; tag = tag; above = 0 }

abbrev pub no_span : Span
no_span = span 0 0 0 0 0

abbrev pub span_at : List Span → ℕ → Span
span_at spans i = slice_index_or spans i no_span

-- the number lies in the range, and the length is one that it takes
abbrev pub covers : ℕ → ℕ → Span → Bool
covers n len s = nat_le s.low n && (nat_le n s.high && (nat_le s.min len && nat_le len s.max))

-- there is an entry that covers it
abbrev pub is_listed : ℕ → ℕ → List Span → Bool
is_listed n len spans = list_any (λ s. covers n len s) spans

-- no later range begins before an earlier one
abbrev pub IsRising : List Span → Type 0
IsRising spans = (i j : ℕ) → i ≤ j → j < length spans → (span_at spans i).low ≤ (span_at spans j).low

-- `above` of the range at i: those from there to i end before that range begins
abbrev pub IsLinkedAt : List Span → ℕ → Type 0
IsLinkedAt spans i = ((span_at spans i).above ≤ i) × ((j : ℕ) → (span_at spans i).above ≤ j → j < i → (span_at spans j).high < (span_at spans i).low)

abbrev pub IsLinkedTo : List Span → ℕ → Type 0
IsLinkedTo spans n = (i : ℕ) → i < n → IsLinkedAt spans i

-- the same ranges, whatever `above` was
abbrev pub IsRelinked : List Span → List Span → Type 0
IsRelinked a b = (length a ≡ length b) × ((i : ℕ) → ((span_at a i).low ≡ (span_at b i).low) × (((span_at a i).high ≡ (span_at b i).high) × (((span_at a i).min ≡ (span_at b i).min) × ((span_at a i).max ≡ (span_at b i).max))))

pub record IsIndexed (spans : List Span) : Type 0 where
  pub rising : IsRising spans
  pub linked : IsLinkedTo spans (length spans)

abbrev pub sign_at : List ℕ → ℕ → ℕ
sign_at signs k = slice_index_or signs k 0

-- the first number of each sixteenth range
pub record AreSigns (signs : List ℕ) (spans : List Span) : Type 0 where
  pub all : length spans ≤ 16 * length signs
  pub within : (k : ℕ) → k < length signs → 16 * k < length spans
  pub same : (k : ℕ) → k < length signs → sign_at signs k ≡ (span_at spans (16 * k)).low

-- what the order goes by
abbrev pub place : Span → ℕ
place s = s.low * 4294967296 + (4294967295 - s.high)

-- two lists cover the same
abbrev pub SameListed : List Span → List Span → Type 0
SameListed a b = (n len : ℕ) → is_listed n len b ≡ is_listed n len a
