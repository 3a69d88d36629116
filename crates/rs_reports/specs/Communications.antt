-- The texts of NOTIFICATIONs (RFC 9003, 2).
use Rattle.std.specs.Prelude.{◌≡◌, ◌<◌, ◌≤◌, ◌==◌, ◌&&◌, ◌||◌, ℕ, Bool, List, ◌∷◌, length, take, drop, Option, Some, None}
use Rattle.std.specs.Str.Lossy.{utf8_valid_len, utf8_error_len}
use Rattle.rs_reports.specs.declared.communications.Communication.{Communication}

-- Cease (6), Administrative Shutdown (2) or Administrative Reset (4)
abbrev pub has_text : ℕ → ℕ → Bool
has_text code sub = (code == 6) && ((sub == 2) || (sub == 4))

abbrev pub said_in : Communication → List ℕ × Bool
said_in it = (it.text.now, it.is_whole)

abbrev pub front_before : List ℕ → ℕ → Option ℕ → Option (List ℕ)
front_before octets n None = Some (take n octets)
front_before octets n (Some fault) = None

-- the longest front that is UTF-8, where the octets end there or within the next character
abbrev pub front_of : List ℕ → Option (List ℕ)
front_of octets = let n = utf8_valid_len octets in front_before octets n (utf8_error_len (drop n octets))

-- Data of which no more was kept says so many octets and has fewer, and this is their front.
pub record IsFrontOf (kept text : List ℕ) : Type 0 where
  pub size : ℕ
  pub rest : List ℕ
  pub is : kept ≡ size ∷ rest
  pub cut : length rest < size
  pub full : 64 ≤ length kept
  pub front : front_of rest ≡ Some text
