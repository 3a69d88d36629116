-- The row of a prefix whose routes are written: what the table keeps, and how many rows have routes then.
use Rattle.std.proofs.Common.{Bool, ◌≡◌, ◌+◌, ◌<◌, ◌==◌, ℕ, Some, List, length, refl, sym, subst}
use Rattle.std.specs.Prelude.{count_by, slice_index_or, slice_set, if◌then◌else◌}
use Rattle.rs_octets.specs.Prefixes.{Prefix}
use Rattle.rs_attrs.specs.Effects.{same_prefix}
use Rattle.rs_adjin.specs.declared.routes.Route.{Route}
use Rattle.rs_adjin.specs.declared.numbers.Row.{Row}
use Rattle.rs_adjin.specs.declared.numbers.Numbered.{Numbered}
use Rattle.rs_adjin.specs.Held.{one_if}
use Rattle.rs_adjin.specs.Numbering.{has_routes, IsInverse, AreVacant}
use Rattle.rs_adjin.specs.Numbers.{number_in, routes_at}
use Rattle.rs_adjin.specs.Routes.{IsRising}
use Rattle.rs_adjin.specs.Table.{IsTable}
use Rattle.rs_adjin.proofs.TableRows.{row_within, kept_prefix, inverse_same, vacant_written}
use Rattle.rs_adjin.proofs.Steps.{IsRowOf, routes_with, row_of, row_step}
use Rattle.rs_adjin.proofs.Used.{count_changed}

pub number_within : (table : Numbered) (p : Prefix) (n : ℕ) → number_in table p ≡ Some n → n < length table.rows.items
number_within table p n number = row_within table.rows.items n p (table.inverse.there p n number)

pub row_rises : (table : Numbered) (p : Prefix) (n : ℕ) (r : Row) → IsTable table → IsRowOf table p n r → IsRising r.routes
row_rises table p n r is row = subst IsRising (sym row.here) (is.rising p)

abbrev pub with_routes : Row → List Route → Row
with_routes r routes = record { prefix = r.prefix; routes = routes }

-- row n of a table, which is the one of a prefix, with these routes in place of its own
pub record IsWritten (table : Numbered) (p : Prefix) (n : ℕ) (r : Row) (routes : List Route) : Type 0 where
  pub here : r.routes ≡ routes_at table p
  pub step : (q : Prefix) → routes_with table n (with_routes r routes) q ≡ (if same_prefix q p then routes else routes_at table q)
  pub inverse : IsInverse table.numbers (slice_set table.rows.items n (with_routes r routes))
  pub vacant : AreVacant (slice_set table.rows.items n (with_routes r routes))
  pub used : (was is : Bool) (m k one two : ℕ) → was ≡ (m == 0) → is ≡ (k == 0) → m ≡ length r.routes → k ≡ length routes → one ≡ one_if was → two ≡ one_if is
      → count_by has_routes (slice_set table.rows.items n (with_routes r routes)) + two ≡ table.used + one

pub row_written : (table : Numbered) (p : Prefix) (n : ℕ) (r : Row) (routes : List Route) → number_in table p ≡ Some n → r ≡ slice_index_or table.rows.items n r → IsWritten table p n r routes
row_written table p n r routes number is =
    let rows = table.rows.items in
    let row = row_of table p n r number is in
    let written = with_routes r routes in
    record {
      here = row.here;
      step = row_step table p n r written number row;
      inverse = inverse_same table.numbers rows _ (kept_prefix rows n r written row.read refl) table.inverse;
      vacant = vacant_written rows n r written row.read p row.named table.vacant;
      used = λ was is m k one two before after m_is k_is a b.
          rw (a, b) (count_changed rows n r written table.used row.read table.counted was is m k before after m_is k_is);
    }
