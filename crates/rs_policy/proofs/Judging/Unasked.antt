-- Where a route lacks all communities that a list asks for, no rule of it matches.
use Rattle.std.proofs.Common.{◌≡◌, ◌∙◌, ℕ, Bool, true, false, ◌||◌, List, [], ◌∷◌, Option, Some, None, find, refl, sym, ap, subst, if◌then◌else◌}
use Rattle.std.specs.List.{list_any}
use Rattle.std.specs.Option.{IfSome}
use Rattle.rs_attrs.specs.Meaning.{Attribute}
use Rattle.rs_attrs.specs.Tagged.{AsksFor, AsksForLarge, KeepsAsked, LacksAsked}
use Rattle.rs_attrs.specs.declared.asked.AskedTags.{AskedTags}
use Rattle.rs_policy.specs.Alike.{PassesPlainly}
use Rattle.rs_policy.specs.Configuration.{Configuration, NamedList, SharedRules, client_of, policy_of, rules_in, written_out}
use Rattle.rs_policy.specs.Noted.{IsRead}
use Rattle.rs_policy.specs.Patterns.{large_pattern_for, pattern_for}
use Rattle.rs_policy.specs.Asking.{asks_receiver}
use Rattle.rs_policy.specs.Unasked.{AreAllNotAskedOf, AreAllPassedOver, AreNotAskedOf, ArePassedOver, IsNotAskedOf, IsPassedOver}
use Rattle.rs_policy.specs.Verdicts.{AnnouncedRoute, announced_route, joined, matches, outcome, passing_by, passing_by_default, verdict}
use Rattle.rs_policy.specs.declared.rules.CommunityTest.{CommunityTest}
use Rattle.rs_policy.specs.declared.rules.Disposition.TheVariants as D
use Rattle.rs_policy.specs.declared.rules.Item.{Item}
use Rattle.rs_policy.specs.declared.rules.LargeCommunityTest.{LargeCommunityTest}
use Rattle.rs_policy.specs.declared.rules.Rule.{Rule}
use Rattle.rs_policy.proofs.Judging.Noted.{plain_noted}
use Rattle.rs_policy.proofs.Judging.PassedOver.{without_community, without_large_community}
use Rattle.rs_policy.proofs.Judging.Prefixes.{none_written}

pub asks_community : (asked : AskedTags) (to_as : ℕ) (rule : Rule) (t : CommunityTest) → rule.tests.community ≡ Some t → AsksFor asked (pattern_for to_as t) → IsPassedOver asked to_as rule
asks_community asked to_as rule t is asks lists r to lacks = without_community lists rule r t is (lacks.0 (pattern_for r.to_as t) (subst (λ n. AsksFor asked (pattern_for n t)) (sym to) asks))

pub asks_large : (asked : AskedTags) (to_as : ℕ) (rule : Rule) (t : LargeCommunityTest) → rule.tests.large_community ≡ Some t → AsksForLarge asked (large_pattern_for to_as t) → IsPassedOver asked to_as rule
asks_large asked to_as rule t is asks lists r to lacks = without_large_community lists rule r t is (lacks.1 (large_pattern_for r.to_as t) (subst (λ n. AsksForLarge asked (large_pattern_for n t)) (sym to) asks))

pub keeps_both : (one two three : AskedTags) → KeepsAsked one two → KeepsAsked two three → KeepsAsked one three
keeps_both one two three first second =
    ((λ n is. second.0.0 n (first.0.0 n is), λ n is. second.0.1 n (first.0.1 n is)), λ part is. second.1 part (first.1 part is), λ part is. second.2 part (first.2 part is))

pub keeps_itself : (asked : AskedTags) → KeepsAsked asked asked
keeps_itself asked = ((λ n is. is, λ n is. is), λ part is. is, λ part is. is)

-- what lacks more lacks less
lacks_less : (old new : AskedTags) (m : List Attribute) → KeepsAsked old new → LacksAsked new m → LacksAsked old m
lacks_less old new m kept lacks =
    (λ p asks. lacks.0 p (λ n is. kept.0.0 n (asks.0 n is), kept.1 p.high asks.1), λ p asks. lacks.1 p (λ n is. kept.0.1 n (asks.0 n is), kept.2 p.global asks.1))

pub passed_by_more : (old new : AskedTags) (to_as : ℕ) (rule : Rule) → KeepsAsked old new → IsPassedOver old to_as rule → IsPassedOver new to_as rule
passed_by_more old new to_as rule kept over lists r to lacks = over lists r to (lacks_less old new r.attributes kept lacks)

pub all_by_more : (old new : AskedTags) (to_as : ℕ) (rules : List Rule) → KeepsAsked old new → ArePassedOver old to_as rules → ArePassedOver new to_as rules
all_by_more old new to_as [] kept over = tt
all_by_more old new to_as (rule ∷ rules) kept over = (passed_by_more old new to_as rule kept over.0, all_by_more old new to_as rules kept over.1)

none_in : (asked : AskedTags) (lists : List NamedList) (r : AnnouncedRoute) (rules : List Rule) → LacksAsked asked r.attributes → ArePassedOver asked r.to_as rules → list_any (λ rule. matches lists rule r) rules ≡ false
none_in asked lists r [] lacks over = refl
none_in asked lists r (rule ∷ rules) lacks over = ap (λ b. b || list_any (λ rule. matches lists rule r) rules) (over.0 lists r refl lacks) ∙ none_in asked lists r rules lacks over.1

none_at : (asked : AskedTags) (lists : List NamedList) (shared : List SharedRules) (r : AnnouncedRoute) (items : List Item) → LacksAsked asked r.attributes → AreAllPassedOver asked r.to_as shared items
    → list_any (λ item. list_any (λ rule. matches lists rule r) (rules_in shared item)) items ≡ false
none_at asked lists shared r [] lacks over = refl
none_at asked lists shared r (item ∷ items) lacks over =
    ap (λ b. b || list_any (λ item. list_any (λ rule. matches lists rule r) (rules_in shared item)) items) (none_in asked lists r (rules_in shared item) lacks over.0)
    ∙ none_at asked lists shared r items lacks over.1

second : (a b : Bool) → (a || b) ≡ false → b ≡ false
second true b e = absurd (cc e)
second false b e = e

-- where the first one isn't found, the first of the rest is
finds_later : (test : Rule → Bool) (rule : Rule) (rules : List Rule) (b : Bool) → test rule ≡ b → (b || list_any test rules) ≡ false → find test (rule ∷ rules) ≡ find test rules
finds_later test rule rules true is none = absurd (cc none)
finds_later test rule rules false is none = ap (λ b. if b then Some rule else find test rules) is

finds_none : (test : Rule → Bool) (rules : List Rule) → list_any test rules ≡ false → find test rules ≡ None
finds_none test [] none = refl
finds_none test (rule ∷ rules) none = finds_later test rule rules (test rule) refl none ∙ finds_none test rules (second (test rule) (list_any test rules) none)

pub passes_unasked : (s : Configuration) (to : ℕ) (asked : AskedTags) (shared : List SharedRules) (items : List Item) → IsRead s → s.top.default ≡ D.Pass → (policy_of s to).export ≡ written_out shared items
    → AreAllPassedOver asked (client_of s to).client_as shared items → PassesPlainly s to asked
unfolding verdict outcome
passes_unasked s to asked shared items read default exports over from p m known noted lacks =
    let r : AnnouncedRoute = announced_route s from to p m in
    let none : find (λ rule. matches s.lists rule r) (policy_of s to).export ≡ None =
    finds_none (λ rule. matches s.lists rule r) (policy_of s to).export
    (ap (list_any (λ rule. matches s.lists rule r)) exports ∙ none_written (λ rule. matches s.lists rule r) shared items (none_at asked s.lists shared r items lacks over)) in
    λ i. joined (sym (plain_noted s from to p m read known (sym noted)) i) ((ap (passing_by s.top.default) none ∙ ap passing_by_default default) i)

pub if_asked : (s : Configuration) (to : ℕ) (shared : List SharedRules) (items : List Item) (o : Option AskedTags) → IsRead s → s.top.default ≡ D.Pass → (policy_of s to).export ≡ written_out shared items
    → IfSome o (λ asked. AreAllPassedOver asked (client_of s to).client_as shared items) → IfSome o (PassesPlainly s to)
if_asked s to shared items None read default exports over = tt
if_asked s to shared items (Some asked) read default exports over = passes_unasked s to asked shared items read default exports over

-- ---- receivers that rules name

pub not_asked_by_more : (old new : AskedTags) (rule : Rule) → KeepsAsked old new → IsNotAskedOf old rule → IsNotAskedOf new rule
not_asked_by_more old new rule kept none m lacks = none m (lacks_less old new m kept lacks)

pub all_not_asked_by_more : (old new : AskedTags) (rules : List Rule) → KeepsAsked old new → AreNotAskedOf old rules → AreNotAskedOf new rules
all_not_asked_by_more old new [] kept none = tt
all_not_asked_by_more old new (rule ∷ rules) kept none = (not_asked_by_more old new rule kept none.0, all_not_asked_by_more old new rules kept none.1)

none_asks_in : (asked : AskedTags) (m : List Attribute) (rules : List Rule) → LacksAsked asked m → AreNotAskedOf asked rules → list_any (asks_receiver m) rules ≡ false
none_asks_in asked m [] lacks none = refl
none_asks_in asked m (rule ∷ rules) lacks none = ap (λ b. b || list_any (asks_receiver m) rules) (none.0 m lacks) ∙ none_asks_in asked m rules lacks none.1

pub none_asks_at : (asked : AskedTags) (m : List Attribute) (shared : List SharedRules) (items : List Item) → LacksAsked asked m → AreAllNotAskedOf asked shared items
    → list_any (λ item. list_any (asks_receiver m) (rules_in shared item)) items ≡ false
none_asks_at asked m shared [] lacks none = refl
none_asks_at asked m shared (item ∷ items) lacks none =
    ap (λ b. b || list_any (λ item. list_any (asks_receiver m) (rules_in shared item)) items) (none_asks_in asked m (rules_in shared item) lacks none.0)
    ∙ none_asks_at asked m shared items lacks none.1
