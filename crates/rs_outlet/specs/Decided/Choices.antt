-- The choice at a prefix, and the choices that are kept in a turn.
use Rattle.std.specs.Prelude.{◌≡◌, ◌≢◌, ◌⊎◌, ◌<◌, ◌==◌, not, ℕ, List, [], ◌∷◌, ◌++◌, Option, None, option_map, length, Some}
use Rattle.std.specs.List.{All, AllByRecursion, filter}
use Rattle.rs_attrs.specs.Meaning.{Attribute}
use Rattle.rs_octets.specs.Prefixes.{Prefix}
use Rattle.rs_adjin.specs.AdjIns.{number_of}
use Rattle.rs_adjin.specs.declared.adj_ins.AdjIns.{AdjIns}
use Rattle.rs_policy.specs.Configuration.{client_of}
use Rattle.rs_policy.specs.Verdicts.{verdict}
use Rattle.rs_decision.specs.Choice.{best_of}
use Rattle.rs_decision.specs.declared.rank.Rank.{Rank}
use Rattle.rs_outlet.specs.declared.choices.Choice.{Choice}
use Rattle.rs_outlet.specs.Decided.Due.{Held, holders_at, ranks_among}

-- the sender of the best candidate's route for a client at a prefix
abbrev pub chosen : Held → ℕ → Prefix → Option ℕ
chosen t c p = option_map (λ best. best.place) (best_of (ranks_among t c p (holders_at t p)))

-- the rules judge each route alike on its way to both
abbrev pub AreJudgedAlike : Held → ℕ → ℕ → Type 0
AreJudgedAlike t c d = (from : ℕ) (p : Prefix) (m : List Attribute) → from < length t.settings.clients → verdict t.settings from c p m ≡ verdict t.settings from d p m

-- no other one of these holders is of the client's AS
abbrev pub IsAloneOfItsAs : Held → ℕ → List (ℕ × List Attribute) → Type 0
IsAloneOfItsAs t c holders = All (λ h. h.0 ≢ c → (client_of t.settings h.0).client_as ≢ (client_of t.settings c).client_as) holders

-- candidates but for a client's own
abbrev pub without : ℕ → List Rank → List Rank
without c ranks = filter (λ r. not (r.place == c)) ranks

-- a choice is that of its client, which has no route for the prefix itself; beside it stands that of the client whose route is
-- the best
pub record IsChoice (t : Held) (ins : AdjIns) (choice : Choice) : Type 0 where
  pub known : choice.client < length t.settings.clients
  pub absent : (p : Prefix) → number_of ins p ≡ Some choice.number → t.held choice.client p ≡ None
  pub next : (p : Prefix) (best : ℕ) → number_of ins p ≡ Some choice.number → choice.place ≡ Some best → AreJudgedAlike t choice.client best → chosen t best p ≡ choice.next
  pub chosen : (p : Prefix) → number_of ins p ≡ Some choice.number → chosen t choice.client p ≡ choice.place

abbrev pub AreChoices : Held → AdjIns → List Choice → Type 0
AreChoices t ins kept = AllByRecursion (IsChoice t ins) kept

-- it is kept behind the others, or not at all
abbrev pub MayKeep : Choice → List Choice → List Choice → Type 0
MayKeep choice old new = (new ≡ old) ⊎ (new ≡ old ++ choice ∷ [])
