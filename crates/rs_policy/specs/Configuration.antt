-- What a configuration sets.
use Rattle.std.specs.Prelude.{ℕ, ◌-◌, List, [], ◌∷◌, slice_index_or, Option, None}
use Rattle.std.specs.List.{flat_map}
use Rattle.rs_policy.specs.declared.rules.Range.{Range}
use Rattle.rs_policy.specs.declared.rules.Rule.{Rule}
use Rattle.rs_policy.specs.declared.rules.Item.{Item}
use Rattle.rs_policy.specs.declared.rules.Item.TheVariants.{Own, Use}
use Rattle.rs_policy.specs.declared.config.top.Top.{Top}

-- a client; an address is a number of 32 bits
pub record Client : Type 0 where
  pub name : List ℕ
  pub client_as : ℕ
  pub listen : ℕ × ℕ
  pub peer : ℕ
  pub limit : Option ℕ

-- a list that rules name: ranges of prefixes, and AS numbers from one to another; None where it has no such key
pub record NamedList : Type 0 where
  pub name : List ℕ
  pub prefixes : Option (List Range)
  pub ases : Option (List (ℕ × ℕ))

-- rules that others use
pub record SharedRules : Type 0 where
  pub name : List ℕ
  pub rules : List Rule

-- the lists of a client as they stand in the text
pub record Stated : Type 0 where
  pub import : List Item
  pub export : List Item

-- the rules for the routes that a client sends, and for those that it is sent
pub record Policy : Type 0 where
  pub import : List Rule
  pub export : List Rule

-- clients, lists, rules that others use, and what each client's lists state, in the order of the configuration
pub record Configuration : Type 0 where
  pub top : Top
  pub clients : List Client
  pub lists : List NamedList
  pub shared : List SharedRules
  pub policies : List Stated

abbrev pub no_client : Client
no_client = record { name = []; client_as = 0; listen = (0, 0); peer = 0; limit = None }

-- client number c, from 0
abbrev pub client_of : Configuration → ℕ → Client
client_of s c = slice_index_or s.clients c no_client

abbrev pub no_list : NamedList
no_list = record { name = []; prefixes = None; ases = None }

-- list number n, from 0
abbrev pub list_at : List NamedList → ℕ → NamedList
list_at lists n = slice_index_or lists n no_list

abbrev pub no_shared : SharedRules
no_shared = record { name = []; rules = [] }

-- the rules that stand at a place of a client's list: its own one, or those that it uses
abbrev pub rules_in : List SharedRules → Item → List Rule
rules_in shared (Own rule) = rule ∷ []
rules_in shared (Use n) = (slice_index_or shared n no_shared).rules

-- a list with the rules that it uses written out
abbrev pub written_out : List SharedRules → List Item → List Rule
written_out shared items = flat_map (rules_in shared) items

abbrev pub policy_written : List SharedRules → Stated → Policy
policy_written shared p = record { import = written_out shared p.import; export = written_out shared p.export }

abbrev pub no_policy : Stated
no_policy = record { import = []; export = [] }

-- the rules that others use of this number, from 1
abbrev pub shared_at : Configuration → ℕ → SharedRules
shared_at s number = slice_index_or s.shared (number - 1) no_shared

-- the lists of client number c, from 0, as they stand in the text
abbrev pub stated_of : Configuration → ℕ → Stated
stated_of s c = slice_index_or s.policies c no_policy

-- and written out
abbrev pub policy_of : Configuration → ℕ → Policy
policy_of s c = policy_written s.shared (stated_of s c)
