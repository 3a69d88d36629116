-- What every configuration has that was read from a text.
use Rattle.std.specs.Prelude.{◌≡◌, ◌≢◌, ℕ, ◌<◌, ◌≤◌, ◌^◌, true, List, length, IfSome, ⊤}
use Rattle.std.specs.List.{All, AllPairs}
use Rattle.rs_policy.specs.Texts.{is_name}
use Rattle.rs_policy.specs.Configuration.{Client, NamedList, Policy, Configuration, policy_written}
use Rattle.rs_policy.specs.declared.rules.Range.{Range}
use Rattle.rs_policy.specs.declared.rules.Stripping.{Stripping}
use Rattle.rs_policy.specs.declared.rules.Stripping.TheVariants.{Named, All as Every}
use Rattle.rs_policy.specs.declared.rules.Action.{Action}
use Rattle.rs_policy.specs.declared.rules.Action.TheVariants as A
use Rattle.rs_policy.specs.declared.rules.Rule.{Rule}
use Rattle.rs_policy.specs.declared.config.top.Top.{Top}

-- an AS number that isn't reserved (RFC 7607), an identifier (RFC 4271, 4.2), and no Hold Time of 1 or 2 seconds
pub record IsSoundTop (top : Top) : Type 0 where
  pub some_as : 0 < top.server_as
  pub number : top.server_as < 2 ^ 32
  pub some_identifier : top.identifier ≢ 0
  pub identifier : top.identifier < 2 ^ 32
  pub not_1 : top.hold ≢ 1
  pub not_2 : top.hold ≢ 2
  pub hold : top.hold < 2 ^ 16

pub record IsSoundClient (c : Client) : Type 0 where
  pub name : is_name c.name ≡ true
  pub some_as : 0 < c.client_as
  pub number : c.client_as < 2 ^ 32
  pub port : 0 < c.listen.1
  pub limit : IfSome c.limit (λ n. 0 < n)

-- lengths of prefixes, from the prefix's own on
pub record IsSoundRange (range : Range) : Type 0 where
  pub within : range.prefix.len ≤ range.min
  pub rising : range.min ≤ range.max
  pub most : range.max ≤ 32

pub record IsSoundList (l : NamedList) : Type 0 where
  pub name : is_name l.name ≡ true
  pub prefixes : IfSome l.prefixes (λ ranges. length ranges ≤ 1048576)
  pub ases : IfSome l.ases (λ ranges. length ranges ≤ 1048576)

-- the patterns of communities that are taken away
abbrev pub IsFew : {A : Type 0} → Stripping A → Type 0
IsFew (Named patterns) = length patterns ≤ 64
IsFew Every = ⊤

abbrev pub StripsFew : Action → Type 0
StripsFew A.Drop = ⊤
StripsFew (A.Pass preference strip strip_large) = IsFew strip × IsFew strip_large

-- a rule beside so many clients and lists
pub record IsSoundRule (count lists : ℕ) (rule : Rule) : Type 0 where
  pub range : IfSome rule.range IsSoundRange
  pub prefix_in : IfSome rule.tests.prefix_in (λ n. n < lists)
  pub from : IfSome rule.tests.from (λ c. c < count)
  pub path_in : IfSome rule.tests.path_in (λ n. n < lists)
  pub origin_in : IfSome rule.tests.origin_in (λ n. n < lists)
  pub strip : StripsFew rule.action

-- 64 tables, each of which may use 64 rules
pub record AreSoundRules (count lists : ℕ) (rules : List Rule) : Type 0 where
  pub few : length rules ≤ 4096
  pub each : All (IsSoundRule count lists) rules

pub record IsSoundPolicy (count lists : ℕ) (policy : Policy) : Type 0 where
  pub import : AreSoundRules count lists policy.import
  pub export : AreSoundRules count lists policy.export

-- no two clients have one name, or one pair of `listen` and `peer`
abbrev pub AreOthers : Client → Client → Type 0
AreOthers a b = (a.name ≢ b.name) × (a.listen ≡ b.listen → a.peer ≢ b.peer)

-- no two lists have one name
abbrev pub AreOtherLists : NamedList → NamedList → Type 0
AreOtherLists a b = a.name ≢ b.name

pub record IsSound (s : Configuration) : Type 0 where
  pub some : 0 < length s.clients
  pub few : length s.clients ≤ 512
  pub policies : length s.policies ≡ length s.clients
  pub top : IsSoundTop s.top
  pub clients : All IsSoundClient s.clients
  pub others : AllPairs AreOthers s.clients
  pub few_lists : length s.lists ≤ 1024
  pub lists : All IsSoundList s.lists
  pub other_lists : AllPairs AreOtherLists s.lists
  pub rules : All (λ p. IsSoundPolicy (length s.clients) (length s.lists) (policy_written s.shared p)) s.policies
