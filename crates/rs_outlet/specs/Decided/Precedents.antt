-- What was decided for a client, which serves those that have the same export rules; and those that have others, where the rules of
-- both pass all routes plainly.
use Rattle.std.specs.Prelude.{◌≡◌, ◌<◌, ℕ, List, [], ◌∷◌, length, map, option_map, unwrap_or, Option, Some, None, IfSome}
use Rattle.std.specs.Arc.{arc_value}
use Rattle.std.specs.List.{All, AllByRecursion}
use Rattle.rs_octets.specs.Prefixes.{Prefix}
use Rattle.rs_attrs.specs.Meaning.{Attribute}
use Rattle.rs_attrs.specs.Tagged.{LacksAsked}
use Rattle.rs_attrs.specs.declared.asked.AskedTags.{AskedTags}
use Rattle.rs_adjin.specs.AdjIns.{number_of}
use Rattle.rs_adjin.specs.declared.adj_ins.AdjIns.{AdjIns}
use Rattle.rs_rows.specs.Rows.{Row}
use Rattle.rs_outlet.specs.declared.answers.Speech.{Speech}
use Rattle.rs_outlet.specs.declared.changes.Change.{Change}
use Rattle.rs_outlet.specs.declared.filled.Whole.{Whole}
use Rattle.rs_outlet.specs.declared.known.Asked.{Asked}
use Rattle.rs_outlet.specs.declared.known.Known.{Known}
use Rattle.rs_outlet.specs.declared.precedent.Precedent.{Precedent}
use Rattle.rs_outlet.specs.declared.handover.Handover.{Handover}
use Rattle.rs_outlet.specs.declared.news.News.{News}
use Rattle.rs_outlet.specs.Inside.{IsDecidedAt, attributes_at}
use Rattle.rs_policy.specs.Alike.{PassesPlainly, ReceiversAreAlike}
use Rattle.rs_policy.specs.Configuration.{policy_of}
use Rattle.rs_outlet.specs.Decided.Choices.{AreChoices}
use Rattle.rs_outlet.specs.Decided.Due.{Held, due_to, holders_at}
use Rattle.rs_outlet.specs.Decided.News.{change_of, seen}
use Rattle.rs_outlet.specs.Decided.Plans.{news_within}

-- two clients have the same export rules
abbrev pub HaveSameExports : Held → ℕ → ℕ → Type 0
HaveSameExports t c d = (policy_of t.settings c).export ≡ (policy_of t.settings d).export

-- it doesn't count to which client with these export rules the routes of these holders go
abbrev pub AreAlikeForAll : Held → ℕ → List (ℕ × List Attribute) → Type 0
AreAlikeForAll t c holders = All (λ h. ReceiversAreAlike t.settings c h.1) holders

-- what a change has is due to each client that has the export rules of this one and holds no route for its prefix. There is such a
-- client, the one for which it was decided; to all with these rules the holders' routes go as they do to it
pub record IsDueAlike (t : Held) (ins : AdjIns) (c : ℕ) (speech : Speech) (it : (ℕ × Prefix) × Option (List Attribute)) : Type 0 where
  pub placed : number_of ins it.0.1 ≡ Some it.0.0
  pub due : (d : ℕ) → HaveSameExports t c d → t.held d it.0.1 ≡ None → due_to t d speech it.0.1 ≡ it.1
  pub one : ℕ
  pub same : HaveSameExports t c one
  pub unheld : t.held one it.0.1 ≡ None
  pub alike : AreAlikeForAll t one (holders_at t it.0.1)

-- so it is with what each of these changes has
abbrev pub AreDueAlike : Held → AdjIns → ℕ → Speech → List Change → Type 0
AreDueAlike t ins c speech changes = AllByRecursion (λ it. IsDueAlike t ins c speech (seen it)) changes

-- what a change has is due to this client, if it holds no route for its prefix
pub record IsDueHere (t : Held) (ins : AdjIns) (c : ℕ) (speech : Speech) (it : (ℕ × Prefix) × Option (List Attribute)) : Type 0 where
  pub placed : number_of ins it.0.1 ≡ Some it.0.0
  pub due : t.held c it.0.1 ≡ None → due_to t c speech it.0.1 ≡ it.1

-- so it is with what each of these changes has
abbrev pub AreDueHere : Held → AdjIns → ℕ → Speech → List Change → Type 0
AreDueHere t ins c speech changes = AllByRecursion (λ it. IsDueHere t ins c speech (seen it)) changes

-- changes, and news of whole blocks, of which each is due alike
pub record AreListed (t : Held) (ins : AdjIns) (c : ℕ) (speech : Speech) (cs : List Change) (ws : List Whole) : Type 0 where
  pub changes : AreDueAlike t ins c speech cs
  pub wholes : AllByRecursion (λ w. AreDueAlike t ins c speech (map change_of (news_within w))) ws

-- what is known of what is due to a client: what is due alike by the export rules of another. Where nothing has to be asked of the
-- routes, the client has the same; else what they must lack tells of the rules of both
pub record AreKnown (t : Held) (ins : AdjIns) (c : ℕ) (speech : Speech) (it : Known) : Type 0 where
  pub other : ℕ
  pub listed : AreListed t ins other speech it.changes.now it.wholes.now
  pub same : it.asked ≡ None → HaveSameExports t other c
  pub first : (asked : Asked) → it.asked ≡ Some asked → PassesPlainly t.settings other asked.first
  pub next : (asked : Asked) → it.asked ≡ Some asked → PassesPlainly t.settings c asked.next

-- the note of a route says that its sender's import list passes it plainly, and it has no community that either client asks for
abbrev pub IsPlainForBoth : Asked → (ℕ × List Attribute) × ℕ → Type 0
IsPlainForBoth asked h = (h.1 ≡ 1) × LacksAsked asked.first h.0.1 × LacksAsked asked.next h.0.1

-- what is due at a number by the export rules of a client that asks for no more than the first is due to this one, which asks for no
-- more than the next
abbrev pub ServesAt : Held → AdjIns → ℕ → Asked → ℕ → Type 0
ServesAt t ins c asked n =
    (other : ℕ) (speech : Speech) (it : (ℕ × Prefix) × Option (List Attribute)) → PassesPlainly t.settings other asked.first → PassesPlainly t.settings c asked.next
    → it.0.0 ≡ n → IsDueAlike t ins other speech it → IsDueHere t ins c speech it

-- what was decided for a client that there is
pub record IsPrecedent (t : Held) (ins : AdjIns) (it : Precedent) : Type 0 where
  pub client : it.client < length t.settings.clients
  pub listed : AreListed t ins it.client it.speech it.changes.items it.wholes.items
  pub plain : (asked : AskedTags) → it.asked ≡ Some asked → PassesPlainly t.settings it.client asked

-- what one outlet's turn hands over is of these tables and rules
pub record IsHandover (t : Held) (ins : AdjIns) (it : Handover) : Type 0 where
  pub choices : AreChoices t ins it.choices.kept.items
  pub precedent : (p : Precedent) → it.precedent ≡ Some p → IsPrecedent t ins p

-- these numbers are decided one after the other
abbrev pub AreDecidedAt : AdjIns → (Prefix → Option (List Attribute)) → List (Option Row) → List ℕ → List Change → List Change → Type 0
AreDecidedAt ins due_at rows [] old new = new ≡ old
AreDecidedAt ins due_at rows (n ∷ ns) old new = (cs : List Change) × IsDecidedAt ins due_at rows n old cs × AreDecidedAt ins due_at rows ns cs new

-- what is due to the client at a number was just decided so: as a change, or what its row has
abbrev pub IsDecidedSo : Held → AdjIns → ℕ → Speech → List (Option Row) → ℕ → Option Change → Type 0
IsDecidedSo t ins c speech rows n change =
    (p : Prefix) → number_of ins p ≡ Some n → unwrap_or (option_map (λ c. option_map arc_value c.due) change) (attributes_at rows n) ≡ due_to t c speech p

-- the client holds no route for the prefixes of these numbers
abbrev pub AreUnheld : Held → AdjIns → ℕ → List ℕ → Type 0
AreUnheld t ins c ns = AllByRecursion (λ n. (p : Prefix) → number_of ins p ≡ Some n → t.held c p ≡ None) ns

-- what is due at a number, as news to a client whose row is free
pub record AreNewsAt (ins : AdjIns) (due_at : Prefix → Option (List Attribute)) (n : ℕ) (found : Option News) : Type 0 where
  pub placed : IfSome found (λ (news : News). (news.number ≡ n) × (number_of ins news.prefix ≡ Some n))
  pub due : (p : Prefix) → number_of ins p ≡ Some n → option_map (λ (news : News). arc_value news.attrs) found ≡ due_at p
