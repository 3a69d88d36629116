-- Each key of a configuration as it is spelt, and which keys a table has.
use Rattle.std.specs.Prelude.{ℕ, List, [], ◌∷◌, codes, bytes_eq, Bool, if◌then◌else◌}
use Rattle.std.specs.List.{list_any}
use Rattle.rs_policy.specs.declared.faults.Key.{Key}
use Rattle.rs_policy.specs.declared.faults.Key.TheVariants as K
use Rattle.rs_policy.specs.declared.faults.List.TheVariants.{Import, Export, Shared}
use Rattle.rs_policy.specs.declared.faults.Table.{Table}
use Rattle.rs_policy.specs.declared.faults.Table.TheVariants as T

abbrev pub key_text : Key → List ℕ
key_text K.As = codes "as"
key_text K.Identifier = codes "identifier"
key_text K.Hold = codes "hold"
key_text K.Default = codes "default"
key_text K.Extended = codes "extended"
key_text K.Refresh = codes "refresh"
key_text K.Multiprotocol = codes "multiprotocol"
key_text K.Client = codes "client"
key_text K.List = codes "list"
key_text K.Rules = codes "rules"
key_text K.Name = codes "name"
key_text K.Listen = codes "listen"
key_text K.Peer = codes "peer"
key_text K.Limit = codes "limit"
key_text K.Import = codes "import"
key_text K.Export = codes "export"
key_text K.Prefixes = codes "prefixes"
key_text K.Ases = codes "ases"
key_text K.Prefix = codes "prefix"
key_text K.Min = codes "min"
key_text K.Max = codes "max"
key_text K.PrefixIn = codes "prefix_in"
key_text K.From = codes "from"
key_text K.PathHas = codes "path_has"
key_text K.PathLonger = codes "path_longer"
key_text K.PathIn = codes "path_in"
key_text K.OriginAs = codes "origin_as"
key_text K.OriginIn = codes "origin_in"
key_text K.FirstAsIsPeer = codes "first_as_is_peer"
key_text K.Community = codes "community"
key_text K.LargeCommunity = codes "large_community"
key_text K.NextHopIsPeer = codes "next_hop_is_peer"
key_text K.Action = codes "action"
key_text K.Preference = codes "preference"
key_text K.Strip = codes "strip"
key_text K.StripLarge = codes "strip_large"
key_text K.Use = codes "use"
key_text K.Other = codes "?"

-- the keys of each table, in the order in which they are checked
abbrev pub top_keys : List Key
top_keys = K.As ∷ K.Identifier ∷ K.Hold ∷ K.Default ∷ K.Extended ∷ K.Refresh ∷ K.Multiprotocol ∷ K.Client ∷ K.List ∷ K.Rules ∷ []

abbrev pub client_keys : List Key
client_keys = K.Name ∷ K.As ∷ K.Listen ∷ K.Peer ∷ K.Limit ∷ K.Import ∷ K.Export ∷ []

abbrev pub named_list_keys : List Key
named_list_keys = K.Name ∷ K.Prefixes ∷ K.Ases ∷ []

-- of rules that others use
abbrev pub shared_keys : List Key
shared_keys = K.Name ∷ K.Rules ∷ []

abbrev pub rule_keys : List Key
rule_keys = K.Prefix ∷ K.Min ∷ K.Max ∷ K.PrefixIn ∷ K.From ∷ K.PathHas ∷ K.PathLonger ∷ K.PathIn ∷ K.OriginAs ∷ K.OriginIn ∷ K.FirstAsIsPeer ∷ K.Community ∷ K.LargeCommunity ∷ K.NextHopIsPeer ∷ K.Action ∷ K.Preference ∷ K.Strip ∷ K.StripLarge ∷ []

-- of a table that names such rules
abbrev pub use_keys : List Key
use_keys = K.Use ∷ []

-- in a client's list a table that has `use` may have no other key
abbrev pub keys_of : Table → Bool → List Key
keys_of T.Top uses = top_keys
keys_of (T.Client client) uses = client_keys
keys_of (T.Rules rules) uses = shared_keys
keys_of (T.Rule client Import rule) uses = if uses then use_keys else rule_keys
keys_of (T.Rule client Export rule) uses = if uses then use_keys else rule_keys
keys_of (T.Rule rules Shared rule) uses = rule_keys
keys_of (T.List list) uses = named_list_keys
keys_of (T.Entry list entry) uses = named_list_keys

abbrev pub is_among : List Key → List ℕ → Bool
is_among keys text = list_any (λ k. bytes_eq (key_text k) text) keys
