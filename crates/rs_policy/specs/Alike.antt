-- Routes of which the rules make the same, and routes that they leave as they are.
use Rattle.std.specs.Prelude.{◌≡◌, ◌<◌, ℕ, List, Some, length}
use Rattle.rs_octets.specs.Prefixes.{Prefix}
use Rattle.rs_attrs.specs.Meaning.{Attribute}
use Rattle.rs_attrs.specs.Tagged.{LacksAsked}
use Rattle.rs_attrs.specs.declared.asked.AskedTags.{AskedTags}
use Rattle.rs_policy.specs.Configuration.{Configuration, policy_of}
use Rattle.rs_policy.specs.Noted.{note_of_import, plainly}
use Rattle.rs_policy.specs.Verdicts.{joined, verdict}

-- of the same attributes and note the same becomes on the way to a client, whatever the prefixes are
abbrev pub PrefixesAreAlike : Configuration → ℕ → Type 0
PrefixesAreAlike s to =
    (from : ℕ) (p q : Prefix) (m : List Attribute) → from < length s.clients → note_of_import s from p m ≡ note_of_import s from q m → verdict s from to p m ≡ verdict s from to q m

-- of a route with these attributes the same becomes on the way to a client and to each other one with the same export rules
abbrev pub ReceiversAreAlike : Configuration → ℕ → List Attribute → Type 0
ReceiversAreAlike s to m =
    (from other : ℕ) (p : Prefix) → from < length s.clients → (policy_of s to).export ≡ (policy_of s other).export → verdict s from to p m ≡ verdict s from other p m

-- what an import list passes plainly goes plainly to a client, where it has no community that is asked for
abbrev pub PassesPlainly : Configuration → ℕ → AskedTags → Type 0
PassesPlainly s to asked =
    (from : ℕ) (p : Prefix) (m : List Attribute) → from < length s.clients → note_of_import s from p m ≡ 1 → LacksAsked asked m → verdict s from to p m ≡ joined (Some plainly) (Some plainly)
