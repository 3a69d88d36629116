-- What another configuration has to leave as it is while the server runs.
use Rattle.std.specs.Prelude.{◌≡◌, ◌≢◌, ℕ, ◌+◌, ◌==◌, ◌&&◌, Bool, not, List, [], ◌∷◌, length, bytes_eq, Option, Some, None, Ok, Err, if◌then◌else◌}
use Rattle.std.specs.Str.{IsUtf8}
use Rattle.rs_policy.specs.Values.{keyed}
use Rattle.rs_policy.specs.Configuration.{Client, Configuration, client_of}
use Rattle.rs_policy.specs.Documents.{the_top, client_place, config_of}
use Rattle.rs_policy.specs.declared.faults.Key.{Key}
use Rattle.rs_policy.specs.declared.faults.Key.TheVariants as K
use Rattle.rs_policy.specs.declared.faults.Place.{Place}
use Rattle.rs_policy.specs.declared.faults.ConfigFault.TheVariants.{OutOfMemory}
use Rattle.rs_policy.specs.declared.faults.RulesFault.{RulesFault}
use Rattle.rs_policy.specs.declared.faults.RulesFault.TheVariants.{Unreadable, Config, Fixed}
use Rattle.rs_policy.specs.declared.config.top.Top.{Top}

abbrev pub alike : Bool → Bool → Bool
alike a b = if a then b else not b

-- the first key at which two tables aren't alike
abbrev pub first_other : List (Bool × Key) → Option Key
first_other [] = None
first_other (same ∷ rest) = if same.0 then first_other rest else Some same.1

-- each key that is fixed, and whether two tables are alike there
abbrev pub alike_tops : Top → Top → List (Bool × Key)
alike_tops a b =
    (a.server_as == b.server_as, K.As)
    ∷ (a.identifier == b.identifier, K.Identifier)
    ∷ (a.hold == b.hold, K.Hold)
    ∷ (alike a.extended b.extended, K.Extended)
    ∷ (alike a.refresh b.refresh, K.Refresh)
    ∷ (alike a.multiprotocol b.multiprotocol, K.Multiprotocol)
    ∷ []

abbrev pub alike_clients : Client → Client → List (Bool × Key)
alike_clients a b =
    (bytes_eq a.name b.name, K.Name)
    ∷ (a.client_as == b.client_as, K.As)
    ∷ (a.listen.0 == b.listen.0 && a.listen.1 == b.listen.1, K.Listen)
    ∷ (a.peer == b.peer, K.Peer)
    ∷ []

unfoldable pub other_in_top : Top → Top → Option Key
other_in_top a b = first_other (alike_tops a b)

unfoldable pub other_in_client : Client → Client → Option Key
other_in_client a b = first_other (alike_clients a b)

abbrev pub place_or : Place → Option Key → Option Place → Option Place
place_or here (Some k) rest = Some (keyed here k)
place_or here None rest = rest

-- clients counted from n
unfoldable pub other_in_clients : ℕ → List Client → List Client → Option Place
other_in_clients n (a ∷ more) (b ∷ others) = place_or (client_place n) (other_in_client a b) (other_in_clients (n + 1) more others)
other_in_clients n _ _ = None

abbrev pub other_in_all : List Client → List Client → Option Place
other_in_all a b = if length a == length b then other_in_clients 1 a b else Some (keyed the_top K.Client)

-- the first place that can't change and does
unfoldable pub first_fixed : Configuration → Configuration → Option Place
first_fixed a b = place_or the_top (other_in_top a.top b.top) (other_in_all a.clients b.clients)

-- a client that is who it was; its limit may have changed
pub record IsSameClient (a b : Client) : Type 0 where
  pub name : b.name ≡ a.name
  pub client_as : b.client_as ≡ a.client_as
  pub listen : b.listen ≡ a.listen
  pub peer : b.peer ≡ a.peer

-- all but the default, the limits and the rules is what it was
pub record IsFixed (a b : Configuration) : Type 0 where
  pub server_as : b.top.server_as ≡ a.top.server_as
  pub identifier : b.top.identifier ≡ a.top.identifier
  pub hold : b.top.hold ≡ a.top.hold
  pub extended : b.top.extended ≡ a.top.extended
  pub refresh : b.top.refresh ≡ a.top.refresh
  pub multiprotocol : b.top.multiprotocol ≡ a.top.multiprotocol
  pub count : length b.clients ≡ length a.clients
  pub clients : (c : ℕ) → IsSameClient (client_of a c) (client_of b c)

-- what octets are that replace a configuration
pub record Replaces (s : Configuration) (octets : List ℕ) (new : Configuration) : Type 0 where
  pub readable : IsUtf8 octets
  pub config : config_of octets ≡ Ok new
  pub fixed : first_fixed s new ≡ None
  pub same : IsFixed s new

-- why octets replace no configuration; want of memory may come before any cause
abbrev pub Refuses : Configuration → List ℕ → RulesFault → Type 0
Refuses s octets Unreadable = IsUtf8 octets → ⊥
Refuses s octets (Config f) = f ≢ OutOfMemory → IsUtf8 octets × (config_of octets ≡ Err f)
Refuses s octets (Fixed p) = (new : Configuration) × (IsUtf8 octets × ((config_of octets ≡ Ok new) × (first_fixed s new ≡ Some p)))
