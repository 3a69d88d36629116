-- What a turn leaves.
use Rattle.std.proofs.Common.{◌≡◌, inl, inr, ℕ, ◌<◌, Bool, true, false, length, refl, sym, ◌∙◌, ap, subst}
use Rattle.std.specs.Prelude.{Option, None, Some, is_some, List, if◌then◌else◌}
use Rattle.std.specs.FinSet as set
use Rattle.std.specs.FinMap as map
use Rattle.rs_octets.specs.Prefixes.{Prefix, prefix_order}
use Rattle.rs_attrs.specs.Meaning.{Attribute}
use Rattle.rs_adjin.specs.declared.adj_ins.AdjIns.{AdjIns}
use Rattle.rs_policy.specs.Configuration.{Configuration}
use Rattle.rs_outlet.specs.declared.answers.Last.TheVariants as lasts
use Rattle.rs_outlet.specs.declared.answers.Speech.{Speech}
use Rattle.rs_outlet.specs.declared.answers.Turned.{Turned}
use Rattle.rs_outlet.specs.Decided.Due.{due_to}
use Rattle.rs_outlet.specs.Decided.HeldBy.{tables_of}
use Rattle.rs_outlet.specs.Decided.Turns.{HasTurned, IsCurrent}
use Rattle.rs_outlet.specs.Views.{View, AreNumbered, HaveNumbers, is_touched}
use Rattle.rs_core.specs.Touched.Turns.{IsTurn}
use Rattle.rs_core.specs.Ribs.{outlet_in, IsDecidedBy, IsFresh, IsNumbered}
use Rattle.rs_core.specs.declared.ribs.Ribs.{Ribs}
use Rattle.rs_core.proofs.Run.Loops.{IsWalked}

-- what is not stale is due
pub is_current : (ribs : Ribs) (d : ℕ) (none : View) → d < ribs.count → IsFresh ribs → IsCurrent ribs.config ribs.tables (outlet_in ribs d none)
is_current ribs d none lt fresh speech up p un =
    (fresh.each d none lt).at speech p up un
    ∙ sym (ap (λ k. due_to (tables_of ribs.config ribs.tables) k speech p) (ribs.kept d none (subst (λ n. d < n) (sym ribs.outlets_len) lt)).client)

pub turn_numbered : (config : Configuration) (ins : AdjIns) (v w : View) → IsTurn config ins v w → AreNumbered v ins → AreNumbered w ins
turn_numbered config ins v w (inl done) h = done.numbered h
turn_numbered config ins v w (inr refused) h = subst (λ es. HaveNumbers es ins) (sym (ap (λ (x : View). x.numbers) refused.rest)) h

-- ---- what is due to a client stays so, and what was touched is

pub done_decided : (config : Configuration) (ins : AdjIns) (c : ℕ) (v w : View) (turned : Turned) → v.client ≡ c → w.speech ≡ v.speech → HasTurned config ins v w turned → IsDecidedBy (due_to (tables_of config ins) c) v → IsDecidedBy (due_to (tables_of config ins) c) w
done_decided config ins c v w turned client spoken h decided = record {
  at = λ speech p up un. let was : v.speech ≡ Some speech = sym spoken ∙ up in h.loc speech was p ∙ by_touch speech p was (is_touched v.touched p) refl;
  stale_touched = λ p un. by_speech v.speech refl p un;
} where
  by_speech : (o : Option Speech) → v.speech ≡ o → (p : Prefix) → is_touched w.touched p ≡ false → is_touched w.stale p ≡ false
  by_speech None none p un =
      let is : w ≡ record v { last = lasts.Done turned } = (h.down none).1 in
      ap (λ (x : View). is_touched x.stale p) is ∙ decided.stale_touched p (sym (ap (λ (x : View). is_touched x.touched p) is) ∙ un)
  by_speech (Some speech) up p un = ap (λ t. is_touched t p) (h.stale (ap is_some up)) ∙ set.contains-empty prefix_order p

  by_touch : (speech : Speech) (p : Prefix) → v.speech ≡ Some speech → (b : Bool) → is_touched v.touched p ≡ b → (if b then due_to (tables_of config ins) v.client speech p else map.get v.loc p) ≡ due_to (tables_of config ins) c speech p
  by_touch speech p was true e = ap (λ k. due_to (tables_of config ins) k speech p) client
  by_touch speech p was false e = decided.at speech p was (decided.stale_touched p e)

refused_decided : (due : Speech → Prefix → Option (List Attribute)) (v w : View) → w ≡ record v { last = lasts.Refused } → IsDecidedBy due v → IsDecidedBy due w
refused_decided due v w e decided = record {
  at = λ speech p up un.
      ap (λ (x : View). map.get x.loc p) e ∙ decided.at speech p (sym (ap (λ (x : View). x.speech) e) ∙ up) (sym (ap (λ (x : View). is_touched x.stale p) e) ∙ un);
  stale_touched = λ p un. ap (λ (x : View). is_touched x.stale p) e ∙ decided.stale_touched p (sym (ap (λ (x : View). is_touched x.touched p) e) ∙ un);
}

pub turn_decided : (config : Configuration) (ins : AdjIns) (c : ℕ) (v w : View) → v.client ≡ c → AreNumbered v ins → IsTurn config ins v w → IsDecidedBy (due_to (tables_of config ins) c) v → IsDecidedBy (due_to (tables_of config ins) c) w
turn_decided config ins c v w client numbered (inl done) decided = done_decided config ins c v w done.turned client (ap (λ (x : View). x.speech) done.rest) (done.decided numbered (λ speech up p un. decided.at speech p up un ∙ sym (ap (λ k. due_to (tables_of config ins) k speech p) client))) decided
turn_decided config ins c v w client numbered (inr refused) decided = refused_decided (due_to (tables_of config ins) c) v w refused.rest decided

pub turned_fresh : (old new : Ribs) → IsWalked (λ c. IsTurn old.config old.tables) old.count old new → IsNumbered old → IsFresh old → IsFresh new
turned_fresh old new h numbered fresh = record {
  each = λ d none lt.
      let within : d < old.count = subst (λ n. d < n) h.settings.count lt in
      let there : d < length old.outlets.items = subst (λ n. d < n) (sym old.outlets_len) within in
      let decided = turn_decided old.config old.tables d (outlet_in old d none) (outlet_in new d none) (old.kept d none there).client (numbered.each d none within) (h.done d none within) (fresh.each d none within) in
      subst (λ t. IsDecidedBy (due_to (tables_of new.config t) d) (outlet_in new d none)) (sym h.tables)
      (subst (λ k. IsDecidedBy (due_to (tables_of k old.tables) d) (outlet_in new d none)) (sym h.settings.config) decided);
}
