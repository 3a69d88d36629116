-- Where no export rule asks for the prefix, the same becomes of routes that differ in it alone.
use Rattle.std.proofs.Common.{◌≡◌, ◌≢◌, ◌∙◌, ℕ, zero, suc, ◌<◌, ◌==◌, Bool, true, false, cond, not, ◌&&◌, ◌||◌, Option, Some, None, is_some, List, [], ◌∷◌, find, length, IsTrue, sym, ap, refl, arith, if◌then◌else◌}
use Rattle.std.specs.List.{list_any}
use Rattle.std.proofs.lemmas.List.Folds.{list_any-append}
use Rattle.std.proofs.lemmas.Option.{same_Some}
use Rattle.rs_octets.specs.Prefixes.{Prefix}
use Rattle.rs_attrs.specs.Meaning.{Attribute}
use Rattle.rs_policy.specs.Asking.{asks_prefix}
use Rattle.rs_policy.specs.Configuration.{Configuration, NamedList, SharedRules, list_at, policy_of, rules_in, written_out}
use Rattle.rs_policy.specs.Noted.{IsRead, import_outcome, note_of_import}
use Rattle.rs_policy.specs.Verdicts.{announced_route, attributes_match, has_prefix, holds, in_range, joined, matches, next_hop_is_peer, outcome, passing, passing_by, verdict}
use Rattle.rs_policy.specs.declared.rules.Item.{Item}
use Rattle.rs_policy.specs.declared.rules.Rule.{Rule}
use Rattle.rs_policy.proofs.Judging.Noted.{none_noted, plain_noted, rule_is_noted}

-- none of two holds
neither : (a b : Bool) → (a || b) ≡ false → (a ≡ false) × (b ≡ false)
neither true b e = absurd (cc e)
neither false b e = (refl, e)

pub not_so : (b : Bool) → IsTrue (not b) → b ≡ false
not_so true e = absurd (cc e)
not_so false e = refl

absent : {A : Type 0} (o : Option A) → is_some o ≡ false → o ≡ None
absent None e = refl
absent (Some a) e = absurd (cc e)

pub none_written : (test : Rule → Bool) (shared : List SharedRules) (items : List Item) → list_any (λ item. list_any test (rules_in shared item)) items ≡ false → list_any test (written_out shared items) ≡ false
none_written test shared [] none = refl
none_written test shared (item ∷ items) none =
    let both = neither (list_any test (rules_in shared item)) (list_any (λ item. list_any test (rules_in shared item)) items) none in
    list_any-append test (rules_in shared item) (written_out shared items)
    ∙ ap (λ b. b || list_any test (written_out shared items)) both.0
    ∙ none_written test shared items both.1

module _ (s : Configuration) (from to : ℕ) (m : List Attribute) where
  -- a rule that doesn't ask for the prefix
  blind : (lists : List NamedList) (rule : Rule) → Prefix → asks_prefix rule ≡ false → Bool
  blind lists rule p none =
      holds (λ range. in_range range p) None
      && (holds (λ n. has_prefix (list_at lists n) p) None
      && (holds (λ c. c == from) rule.tests.from
      && (holds (λ b. if b then next_hop_is_peer (announced_route s from to p m) else not (next_hop_is_peer (announced_route s from to p m))) rule.tests.next_hop_is_peer
      && attributes_match lists rule.tests (announced_route s from to p m))))

  matches_blind : (lists : List NamedList) (rule : Rule) (p : Prefix) (none : asks_prefix rule ≡ false) → matches lists rule (announced_route s from to p m) ≡ blind lists rule p none
  unfolding matches blind
  matches_blind lists rule p none =
      let both = neither (is_some rule.range) (is_some rule.tests.prefix_in) none in
      let range = absent rule.range both.0 in
      let listed = absent rule.tests.prefix_in both.1 in
      let r = announced_route s from to p m in
      λ i.
      holds (λ range. in_range range p) (range i)
      && (holds (λ n. has_prefix (list_at lists n) p) (listed i)
      && (holds (λ c. c == from) rule.tests.from
      && (holds (λ b. if b then next_hop_is_peer r else not (next_hop_is_peer r)) rule.tests.next_hop_is_peer
      && attributes_match lists rule.tests r)))

  blind_alike : (lists : List NamedList) (rule : Rule) (p q : Prefix) (none : asks_prefix rule ≡ false) → blind lists rule p none ≡ blind lists rule q none
  unfolding attributes_match blind
  blind_alike lists rule p q none = refl

  find_alike : (lists : List NamedList) (p q : Prefix) (rules : List Rule) → list_any asks_prefix rules ≡ false
      → find (λ rule. matches lists rule (announced_route s from to p m)) rules ≡ find (λ rule. matches lists rule (announced_route s from to q m)) rules
  find_alike lists p q [] none = refl
  find_alike lists p q (rule ∷ rules) none =
      let both = neither (asks_prefix rule) (list_any asks_prefix rules) none in
      let is = matches_blind lists rule p both.0 ∙ blind_alike lists rule p q both.0 ∙ sym (matches_blind lists rule q both.0) in
      λ i. cond (is i) (Some rule) (find_alike lists p q rules both.1 i)

  export_alike : (p q : Prefix) → list_any asks_prefix (policy_of s to).export ≡ false
      → outcome s.top.default s.lists (policy_of s to).export (announced_route s from to p m) ≡ outcome s.top.default s.lists (policy_of s to).export (announced_route s from to q m)
  unfolding outcome
  export_alike p q none = ap (passing_by s.top.default) (find_alike s.lists p q (policy_of s to).export none)

  module _ (read : IsRead s) (known : from < length s.clients) where
    import_alike : (p q : Prefix) (n : ℕ) → n ≡ note_of_import s from p m → n ≡ note_of_import s from q m → import_outcome s from to p m ≡ import_outcome s from to q m
    import_alike p q zero one other = sym (none_noted s from to p m read known one) ∙ none_noted s from to q m read known other
    import_alike p q (suc zero) one other = sym (plain_noted s from to p m read known one) ∙ plain_noted s from to q m read known other
    import_alike p q (suc (suc k)) one other =
        let n = suc (suc k) in
        let not_0 : n ≢ 0 = λ e. omega (arith, e) in
        let not_1 : n ≢ 1 = λ e. omega (arith, e) in
        let first = rule_is_noted s from to p m n read known one not_0 not_1 in
        let second = rule_is_noted s from to q m n read known other not_0 not_1 in
        sym first.1.1 ∙ ap (λ (rule : Rule). passing rule.action) (same_Some first.0 second.0 (sym first.1.0 ∙ second.1.0)) ∙ second.1.1

    pub alike_but_for_prefix : (p q : Prefix) → list_any asks_prefix (policy_of s to).export ≡ false → note_of_import s from p m ≡ note_of_import s from q m → verdict s from to p m ≡ verdict s from to q m
    unfolding verdict
    alike_but_for_prefix p q none noted = λ i. joined (import_alike p q (note_of_import s from p m) refl noted i) (export_alike p q none i)
