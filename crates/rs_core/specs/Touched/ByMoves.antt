-- What is touched for a client after a run: what the moves of the others altered since its last turn, or all.
use Rattle.std.specs.Prelude.{◌≡◌, ◌≢◌, ◌⊎◌, ℕ, true, false, List, [], ◌∷◌, length, Option, Some, None, if◌then◌else◌}
use Rattle.std.specs.FinSet as set
use Rattle.rs_octets.specs.Prefixes.{Prefix}
use Rattle.rs_outlet.specs.Views.{Prefixes}
use Rattle.rs_core.specs.Run.Moves.{Move, Ruled, Came, Heard, Saw, Left, Dropped, Commanded, Turned, Began, Took, config_in}
use Rattle.rs_core.specs.Run.Meaning.{hearing, is_established, is_listed}
use Rattle.rs_core.specs.Touched.Altering.{IsAlteredBy}
use Rattle.rs_core.specs.Touched.ByRun.{IsChangedBy, IsChangedElsewhere, TouchesBetween, TouchesWhere}

-- ---- what a move alters

-- A move gave another client than c another value at p. Octets did where one of their messages did, also where a later one gave
-- back what was there before.
abbrev pub Alters : Move → List Move → ℕ → Prefix → Type 0
Alters (Ruled config) run c p = ⊥
Alters (Came d) run c p = ⊥
Alters (Heard d octets) run c p = (d ≢ c) × IsAlteredBy (config_in run) d octets (hearing d run) p
Alters (Saw t) run c p = IsChangedElsewhere (length (config_in run).clients) (Saw t) run c p
Alters (Left d) run c p = (d ≢ c) × IsChangedBy (Left d) run d p
Alters (Dropped d octets) run c p = (d ≢ c) × IsChangedBy (Dropped d octets) run d p
Alters (Commanded d command) run c p = (d ≢ c) × IsChangedBy (Commanded d command) run d p
Alters (Turned refused) run c p = ⊥
Alters (Began d) run c p = ⊥
Alters (Took d octets) run c p = ⊥

-- memory was refused for octets of another client than c, and one of the messages that are whole with them would have given it
-- another value at p
abbrev pub WouldAlter : Move → List Move → ℕ → Prefix → Type 0
WouldAlter move run c p = (d : ℕ) × (octets : List ℕ) × (move ≡ Dropped d octets) × (d ≢ c) × IsAlteredBy (config_in run) d octets (hearing d run) p

-- a move gave another client than c another value at p, or would have
abbrev pub MayAlter : Move → List Move → ℕ → Prefix → Type 0
MayAlter move run c p = Alters move run c p ⊎ WouldAlter move run c p

-- ---- what is touched after it

-- What a move makes of what was touched for a client that is Established before it and after it: another configuration touches
-- all, a turn leaves nothing where memory was not refused for the client, and any other move touches just what it alters. Where
-- memory was refused for octets, messages before that may have announced what is lost again at once; this is touched too, and the
-- run doesn't show how many were heard: it is what the loss alters, and nothing but that and what one of the messages would have.
abbrev pub TouchesBehind : Move → List Move → ℕ → Option Prefixes → Option Prefixes → Type 0
TouchesBehind (Ruled config) run c old new = new ≡ None
TouchesBehind (Came d) run c old new = TouchesWhere (Alters (Came d) run c) old new
TouchesBehind (Heard d octets) run c old new = TouchesWhere (Alters (Heard d octets) run c) old new
TouchesBehind (Saw t) run c old new = TouchesWhere (Alters (Saw t) run c) old new
TouchesBehind (Left d) run c old new = TouchesWhere (Alters (Left d) run c) old new
TouchesBehind (Dropped d octets) run c old new = TouchesBetween (Alters (Dropped d octets) run c) (MayAlter (Dropped d octets) run c) old new
TouchesBehind (Commanded d command) run c old new = TouchesWhere (Alters (Commanded d command) run c) old new
TouchesBehind (Turned refused) run c old new = new ≡ (if is_listed c refused then old else Some set.empty)
TouchesBehind (Began d) run c old new = TouchesWhere (Alters (Began d) run c) old new
TouchesBehind (Took d octets) run c old new = TouchesWhere (Alters (Took d octets) run c) old new

-- What is touched for client c where it is Established after a run. Where it came up by the last move, all is.
abbrev pub IsTouchedBehind : List Move → ℕ → Option Prefixes → Type 0
IsTouchedBehind [] c touched = ⊥
IsTouchedBehind (move ∷ run) c touched =
    (is_established run c ≡ false → touched ≡ None)
    × (is_established run c ≡ true → (before : Option Prefixes) × IsTouchedBehind run c before × TouchesBehind move run c before touched)
