-- What a turn changes: changes that were decided for the client, or news that serve several clients.
use Rattle.std.specs.Prelude.{◌≡◌, ◌≢◌, ◌<◌, ◌+◌, ◌*◌, ◌/◌, nat_eq, ℕ, Bool, true, List, [], ◌∷◌, ◌++◌, length, map, Option}
use Rattle.std.specs.Arc.{arc_value}
use Rattle.std.specs.List.{AllByRecursion}
use Rattle.rs_octets.specs.Prefixes.{Prefix}
use Rattle.rs_attrs.specs.Meaning.{Attribute}
use Rattle.rs_adjin.specs.declared.adj_ins.AdjIns.{AdjIns}
use Rattle.rs_rows.specs.Rows.{IsPrepared, Listed, Row}
use Rattle.rs_outlet.specs.declared.changes.Change.{Change}
use Rattle.rs_outlet.specs.declared.news.News.{News}
use Rattle.rs_outlet.specs.declared.filled.Whole.{Whole}
use Rattle.rs_outlet.specs.declared.pieces.Piece.{Piece}
use Rattle.rs_outlet.specs.declared.pieces.Piece.TheVariants as piece
use Rattle.rs_outlet.specs.declared.plan.Plan.{Plan}
use Rattle.rs_outlet.specs.declared.plan.Plan.TheVariants as plan
use Rattle.rs_outlet.specs.Inside.{AreDecided, HaveRows}
use Rattle.rs_outlet.specs.Decided.News.{AreFree, change_of, news_from}

-- ---- pieces

abbrev pub news_within : Whole → List News
news_within w = news_from (w.place * 16) (arc_value w.block).rows.items

abbrev pub news_of : Piece → List News
news_of (piece.One n) = n ∷ []
news_of (piece.Block w) = news_within w

abbrev pub news_in : List Piece → List News
news_in [] = []
news_in (p ∷ ps) = news_of p ++ news_in ps

-- there is a row for each of a piece, which can be written, or is written with its block
abbrev pub HasRows : Listed → Piece → Type 0
HasRows rows (piece.One n) = (n.number < length rows.items) × IsPrepared rows.prepared n.number
HasRows rows (piece.Block w) = w.place * 16 + 15 < length rows.items

-- a number is of none of the rows that are written with a block
abbrev pub IsOutside : Piece → ℕ → Type 0
IsOutside (piece.One n) m = Unit {0}
IsOutside (piece.Block w) m = m / 16 ≢ w.place

-- ---- plans

abbrev pub changes_in : List Piece → List Change
changes_in ps = map change_of (news_in ps)

abbrev pub changes_of : Plan → List Change
changes_of (plan.Own changes) = changes.items
changes_of (plan.Shared pieces) = changes_in pieces.items

abbrev pub is_none : Plan → Bool
is_none (plan.Own changes) = nat_eq (length changes.items) 0
is_none (plan.Shared pieces) = nat_eq (length pieces.items) 0

-- what serves several is carried out where nothing waits, in rows that are free
abbrev pub IsFor : List (Option Row) → Bool → Plan → Type 0
IsFor rows idle (plan.Own changes) = Unit {0}
IsFor rows idle (plan.Shared pieces) = (idle ≡ true) × AreFree rows (news_in pieces.items)

-- there is a row for each change, which can be written
abbrev pub HasRoom : Listed → Plan → Type 0
HasRoom rows (plan.Own changes) = HaveRows changes.items rows
HasRoom rows (plan.Shared pieces) = AllByRecursion (HasRows rows) pieces.items

-- these changes are decided at the numbers that pass the test, and can be carried out so
pub record IsPlanned (ins : AdjIns) (due_at : Prefix → Option (List Attribute)) (rows : List (Option Row)) (is_in : ℕ → Bool) (idle : Bool) (it : Plan) : Type 0 where
  pub decided : AreDecided ins due_at rows is_in (changes_of it)
  pub fitting : IsFor rows idle it
