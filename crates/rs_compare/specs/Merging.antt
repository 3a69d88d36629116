-- The walk over two tables by rising prefix, as the code does it.
use Rattle.std.specs.Prelude.{◌≡◌, ◌<◌, ◌+◌, ◌++◌, List, [], ◌∷◌, length, Option, Some, None}
use Rattle.std.specs.declared.cmp.Ordering.TheVariants.{Less, Equal}
use Rattle.rs_octets.specs.Prefixes.{Prefix, prefix_order}
use Rattle.rs_attrs.specs.Meaning.{Attribute}
use Rattle.rs_compare.specs.declared.routes.Route.{Route}
use Rattle.rs_compare.specs.declared.compared.Kind.{Kind}
use Rattle.rs_compare.specs.declared.compared.Kind.TheVariants as kinds
use Rattle.rs_compare.specs.declared.compared.Step.{Step}
use Rattle.rs_compare.specs.Differences.{entries_of, kind_of}

-- the prefix comes before the first of a table, if any
abbrev pub IsBefore : Prefix → List (Prefix × List Attribute) → Type 0
IsBefore p [] = Unit {0}
IsBefore p (e ∷ es) = prefix_order p e.0 ≡ Less

abbrev pub reported : Prefix → Option Kind → List (Prefix × Kind)
reported p None = []
reported p (Some kind) = (p, kind) ∷ []

-- by looking at the first of both tables, over and over, this is found
pub data Merges : List (Prefix × List Attribute) → List (Prefix × List Attribute) → List (Prefix × Kind) → Type 0 where
  Over : Merges [] [] []
  OfDue : (p : Prefix) (m : List Attribute) (due sent : List (Prefix × List Attribute)) (found : List (Prefix × Kind)) → IsBefore p sent → Merges due sent found
      → Merges ((p, m) ∷ due) sent ((p, kinds.Missing) ∷ found)
  OfSent : (p : Prefix) (m : List Attribute) (due sent : List (Prefix × List Attribute)) (found : List (Prefix × Kind)) → IsBefore p due → Merges due sent found
      → Merges due ((p, m) ∷ sent) ((p, kinds.NotDue) ∷ found)
  OfBoth : (p q : Prefix) (m n : List Attribute) (due sent : List (Prefix × List Attribute)) (found : List (Prefix × Kind)) → prefix_order p q ≡ Equal → Merges due sent found
      → Merges ((p, m) ∷ due) ((q, n) ∷ sent) (reported p (kind_of (Some m) (Some n)) ++ found)

-- a step of it: what is found behind it goes on from what it found
pub record IsStep (due sent : List Route) (step : Step) : Type 0 where
  pub fewer : length step.due.now + length step.sent.now < length due + length sent
  pub goes : (found : List (Prefix × Kind)) → Merges (entries_of step.due.now) (entries_of step.sent.now) found
      → Merges (entries_of due) (entries_of sent) (reported step.prefix step.kind ++ found)
