-- What befalls a route server. A run is a list of moves, the newest first.
use Rattle.std.specs.Prelude.{ℕ, false, List, [], ◌∷◌}
use Rattle.rs_session.specs.declared.command.Command.{Command}
use Rattle.rs_policy.specs.Configuration.{Configuration}
use Rattle.rs_policy.specs.declared.config.top.Top.{Top}
use Rattle.rs_policy.specs.declared.rules.Disposition.TheVariants as dispositions

pub data Move : Type 0 where
  Ruled : (config : Configuration) → Move  -- a configuration was accepted: each run begins with one
  Came : (c : ℕ) → Move  -- a connection came of a client that had none
  Heard : (c : ℕ) (octets : List ℕ) → Move  -- octets of a client came, in a piece
  Saw : (t : ℕ) → Move  -- a moment was seen, in seconds
  Left : (c : ℕ) → Move  -- a connection was lost
  Dropped : (c : ℕ) (octets : List ℕ) → Move  -- memory was refused for these octets of a client, and its connection counts as lost without them
  Commanded : (c : ℕ) (command : Command) → Move  -- the operator commanded this of a client's session
  Turned : (refused : List ℕ) → Move  -- a turn of all clients but those for which memory was refused
  Began : (c : ℕ) → Move  -- where none was in flight, the next message to a client began, if there was one
  Took : (c : ℕ) (octets : List ℕ) → Move  -- octets of the message in flight to a client were taken

abbrev pub no_top : Top
no_top = record { server_as = 0; identifier = 0; hold = 0; default = dispositions.Pass; extended = false; refresh = false; multiprotocol = false }

abbrev pub no_config : Configuration
no_config = record { top = no_top; clients = []; lists = []; shared = []; policies = [] }

-- the configuration that was accepted last
abbrev pub config_in : List Move → Configuration
config_in [] = no_config
config_in (Ruled config ∷ run) = config
config_in (Came c ∷ run) = config_in run
config_in (Heard c octets ∷ run) = config_in run
config_in (Saw t ∷ run) = config_in run
config_in (Left c ∷ run) = config_in run
config_in (Dropped c octets ∷ run) = config_in run
config_in (Commanded c command ∷ run) = config_in run
config_in (Turned refused ∷ run) = config_in run
config_in (Began c ∷ run) = config_in run
config_in (Took c octets ∷ run) = config_in run
