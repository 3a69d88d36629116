-- What the index of a list answers, and the ranges that it has.
use Rattle.std.proofs.Common.{Vec, Global}
use Rattle.std.specs.Prelude.{◌≡◌, ℕ, List, Option, map, option_map, unwrap_or, vec_items}
use Rattle.std.specs.List.{list_any}
use Rattle.rs_octets.specs.Prefixes.{Prefix}
use Rattle.rs_lists.specs.Lists.{is_listed}
use Rattle.rs_lists.specs.declared.Span.{Span}
use Rattle.rs_policy.specs.declared.rules.Range.{Range}
use Rattle.rs_policy.specs.Verdicts.{in_as_range, in_range}

-- it covers what the ranges take
abbrev pub AreIndexed : List Range → List Span → Type 0
AreIndexed ranges index = (p : Prefix) → is_listed p.bits p.len index ≡ list_any (λ r. in_range r p) ranges

abbrev pub AreAsesIndexed : List (ℕ × ℕ) → List Span → Type 0
AreAsesIndexed ranges index = (n : ℕ) → is_listed n 0 index ≡ list_any (λ r. in_as_range r n) ranges

-- the range of a span: the prefix's length is what is kept with it
abbrev pub range_by : Span → Range
range_by s = record { prefix = record { bits = s.low; len = s.tag }; min = s.min; max = s.max }

abbrev pub as_range_by : Span → ℕ × ℕ
as_range_by s = (s.low, s.high)

abbrev pub ranges_by : List Span → List Range
ranges_by spans = map range_by spans

abbrev pub as_ranges_by : List Span → List (ℕ × ℕ)
as_ranges_by spans = map as_range_by spans

-- the ranges as they were kept, or those of the index
abbrev pub kept : {A : Type 0} → Option (Vec A Global) → List A → List A
kept text others = unwrap_or (option_map vec_items text) others
