-- What the next UPDATE is (RFC 4271, 4.3): which prefixes it is about, and what it leaves with the client.
use Rattle.std.specs.Prelude.{◌≡◌, ◌≢◌, ◌⊎◌, ◌<◌, ◌≤◌, ◌&&◌, not, Bool, true, false, Some, None, List, [], length, slice_get, if◌then◌else◌}
use Rattle.std.specs.declared.cmp.Ordering.TheVariants.{Less}
use Rattle.std.specs.List.Sorted.{IsStrictlySortedBy}
use Rattle.std.specs.List.{AllByRecursion, list_any}
use Rattle.std.specs.Ordering.{eq_by_cmp}
use Rattle.std.specs.FinMap as fin
use Rattle.std.specs.FinSet as set
use Rattle.rs_octets.specs.Prefixes.{Prefix, IsIpv4Prefix, prefix_order}
use Rattle.rs_attrs.specs.Meaning.{Attribute}
use Rattle.rs_attrs.specs.Writing.{IsLegal}
use Rattle.rs_open.specs.Notes.{limit_octets}
use Rattle.rs_adjin.specs.declared.adj_ins.AdjIns.{AdjIns}
use Rattle.rs_packer.specs.Packed.{announcement, withdrawal}
use Rattle.rs_outlet.specs.declared.answers.Speech.{Speech}
use Rattle.rs_outlet.specs.Message.Next.{AreAsManyAsFit, to_announce, to_withdraw}
use Rattle.rs_outlet.specs.Views.{View, AreNumbered}

abbrev pub is_among : Prefix → List Prefix → Bool
is_among q ps = list_any (eq_by_cmp prefix_order q) ps

-- at these prefixes what was told is what is due, and they are marked no more and wait no more; elsewhere all stays
pub record Settles (v w : View) (ps : List Prefix) : Type 0 where
  pub told : (q : Prefix) → fin.get w.told q ≡ (if is_among q ps then fin.get v.loc q else fin.get v.told q)
  pub marked : (q : Prefix) → set.contains w.marked q ≡ (not (is_among q ps) && set.contains v.marked q)
  pub waits : (q : Prefix) → fin.get w.waits q ≡ (if is_among q ps then None else fin.get v.waits q)

-- the prefixes rise, and none of those that wait for the like comes before the first of them
pub record AreLeastFirst (waits : Prefix → Type 0) (prefixes : List Prefix) : Type 0 where
  pub rising : IsStrictlySortedBy prefix_order prefixes
  pub least : (p q : Prefix) → slice_get prefixes 0 ≡ Some p → waits q → prefix_order q p ≢ Less

-- no prefix waits to be withdrawn
abbrev pub NoneGone : View → Type 0
NoneGone v = (p : Prefix) → fin.get v.waits p ≢ Some true

-- nothing is said, which is so only where nothing waits
pub record Rests (v w : View) : Type 0 where
  pub none : (p : Prefix) → fin.get v.waits p ≡ None
  pub settles : Settles v w []
  pub flight : w.flight ≡ []

-- prefixes that wait to be withdrawn are withdrawn, from the least on as many as fit into a message that the client takes
pub record Withdraws (speech : Speech) (v w : View) : Type 0 where
  pub prefixes : List Prefix
  pub some : 0 < length prefixes
  pub prefixes_legal : AllByRecursion IsIpv4Prefix prefixes
  pub waited : AllByRecursion (λ p. fin.get v.waits p ≡ Some true) prefixes
  pub order : AreLeastFirst (λ p. fin.get v.waits p ≡ Some true) prefixes
  pub all : AreAsManyAsFit withdrawal (limit_octets speech.limit) (to_withdraw v) prefixes
  pub settles : Settles v w prefixes
  pub flight : w.flight ≡ withdrawal prefixes
  pub fits : length w.flight ≤ limit_octets speech.limit

-- prefixes that wait to be announced are announced, with the attributes that are due at each of them, once no prefix waits to
-- be withdrawn: the least that waits, and of those with its attributes as many as fit into a message that the client takes
pub record Announces (speech : Speech) (v w : View) : Type 0 where
  pub gone : NoneGone v
  pub prefixes : List Prefix
  pub attributes : List Attribute
  pub some : 0 < length prefixes
  pub prefixes_legal : AllByRecursion IsIpv4Prefix prefixes
  pub legal : IsLegal attributes
  pub waited : AllByRecursion (λ p. fin.get v.waits p ≡ Some false) prefixes
  pub order : AreLeastFirst (λ p. fin.get v.waits p ≡ Some false) prefixes
  pub due : (ins : AdjIns) → AreNumbered v ins → AllByRecursion (λ p. fin.get v.loc p ≡ Some attributes) prefixes
  pub all : (ins : AdjIns) → AreNumbered v ins → AreAsManyAsFit (announcement attributes speech.mode) (limit_octets speech.limit) (to_announce v attributes) prefixes
  pub settles : Settles v w prefixes
  pub flight : w.flight ≡ announcement attributes speech.mode prefixes
  pub fits : length w.flight ≤ limit_octets speech.limit

abbrev pub BeginsUpdate : Speech → View → View → Type 0
BeginsUpdate speech v w = Rests v w ⊎ (Withdraws speech v w ⊎ Announces speech v w)
