-- Numbers as a trace writes them: 1 to 20 decimal digits, at most 2^64 - 1. No sign, no other mark; leading zeros count as digits.
use Rattle.std.specs.Prelude.{ℕ, ◌+◌, ◌-◌, ◌*◌, ◌^◌, ◌&&◌, nat_le, nat_lt, Bool, if◌then◌else◌, List, length, fold, Option, Some, None}
use Rattle.std.specs.List.{list_all}
use Rattle.rs_policy.specs.Texts.{is_digit}

abbrev pub value_of : List ℕ → ℕ
value_of digits = fold (λ n digit. n * 10 + (digit - 48)) 0 digits

abbrev pub has_number_length : List ℕ → Bool
has_number_length text = nat_le 1 (length text) && nat_le (length text) 20

abbrev pub number_of : List ℕ → Option ℕ
number_of text =
    if has_number_length text && list_all is_digit text && nat_lt (value_of text) (2 ^ 64) then Some (value_of text) else None
