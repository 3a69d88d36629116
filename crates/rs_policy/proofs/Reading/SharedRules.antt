-- How the parts of rules that others use, and of a table of a client's list, make the whole.
use Rattle.std.proofs.Common.{◌≡◌, ℕ, Bool, true, false, List, [], Option, Some, None, Result, Ok, Err, option_map, bytes_eq, refl, sym, ap, ◌∙◌}
use Rattle.std.specs.Prelude.{is_some, if◌then◌else◌}
use Rattle.std.specs.List.{list_any}
use Rattle.toml.specs.Data.{Data}
use Rattle.rs_policy.specs.Keys.{shared_keys}
use Rattle.rs_policy.specs.Values.{answer, stranger, value_or}
use Rattle.rs_policy.specs.Configuration.{Client, NamedList, SharedRules}
use Rattle.rs_policy.specs.Rules.{rule_checks, rule_of}
use Rattle.rs_policy.specs.Documents.{rules_checks, rules_from, shared_place, shared_name_at, shared_rules_at, shared_twice, shared_from, shared_checks, has_use, use_at, use_checks, item_checks, item_of}
use Rattle.rs_policy.specs.declared.faults.List.TheVariants.{Shared}
use Rattle.rs_policy.specs.declared.faults.Place.{Place}
use Rattle.rs_policy.specs.declared.faults.ConfigFault.{ConfigFault}
use Rattle.rs_policy.specs.declared.faults.ConfigFault.TheVariants.{TwiceRules}
use Rattle.rs_policy.specs.declared.rules.Rule.{Rule}
use Rattle.rs_policy.specs.declared.rules.Item.TheVariants.{Own, Use}
use Rattle.rs_policy.proofs.Reading.Checks.{passes_one, answer-value, answer-ok_for, answer-err_for}

-- a name, and whether it is one of those before
pub twice_if : (n : ℕ) (earlier : List SharedRules) (name : List ℕ) (r : Result (List ℕ) ConfigFault) (b : Bool) → Ok name ≡ r
    → b ≡ list_any (λ s. bytes_eq name s.name) earlier → shared_twice n earlier (value_or [] r) ≡ (if b then Err (TwiceRules n) else Ok tt)
twice_if n earlier name r b e f = rw (← e, ← f) refl

-- the keys of the table
pub record HeadIs (n : ℕ) (earlier : List SharedRules) (d : Data) (name : List ℕ) (ds : List Data) : Type 0 where
  pub named : Ok name ≡ shared_name_at n d
  pub tables : Ok ds ≡ shared_rules_at n d
  pub only : Ok tt ≡ stranger shared_keys (shared_place n) d
  pub alone : false ≡ list_any (λ s. bytes_eq name s.name) earlier

pub head_is : (n : ℕ) (earlier : List SharedRules) (d : Data) (name : List ℕ) (ds : List Data) → Ok name ≡ shared_name_at n d → Ok ds ≡ shared_rules_at n d
    → Ok tt ≡ stranger shared_keys (shared_place n) d → false ≡ list_any (λ s. bytes_eq name s.name) earlier → HeadIs n earlier d name ds
head_is n earlier d name ds a b c e = record { named = a; tables = b; only = c; alone = e }

pub head_passes : {A : Type 0} (clients : List Client) (lists : List NamedList) (n : ℕ) (earlier : List SharedRules) (d : Data) (name : List ℕ) (ds : List Data) (a : A)
    → HeadIs n earlier d name ds → answer (shared_checks clients lists n earlier d) a ≡ answer (rules_checks clients lists n Shared ds) a
unfolding shared_checks
head_passes clients lists n earlier d name ds a h =
    passes_one (shared_name_at n d) _ name a h.named
    ∙ passes_one (shared_rules_at n d) _ ds a h.tables
    ∙ passes_one (stranger shared_keys (shared_place n) d) _ tt a h.only
    ∙ passes_one (shared_twice n earlier (value_or [] (shared_name_at n d))) _ tt a (sym (twice_if n earlier name (shared_name_at n d) false h.named h.alone))
    ∙ ap (λ (r : Result (List Data) ConfigFault). answer (rules_checks clients lists n Shared (value_or [] r)) a) (sym h.tables)

pub shared_fails : (clients : List Client) (lists : List NamedList) (n : ℕ) (earlier : List SharedRules) (d : Data) (name : List ℕ) (ds : List Data) (f : ConfigFault)
    → HeadIs n earlier d name ds → answer (rules_checks clients lists n Shared ds) (rules_from clients lists n Shared ds) ≡ Err f
    → answer (shared_checks clients lists n earlier d) (shared_from clients lists n d) ≡ Err f
shared_fails clients lists n earlier d name ds f h e =
    head_passes clients lists n earlier d name ds (shared_from clients lists n d) h
    ∙ answer-err_for (rules_checks clients lists n Shared ds) (rules_from clients lists n Shared ds) (shared_from clients lists n d) f e

-- the text is the name
pub shared_passes : (clients : List Client) (lists : List NamedList) (n : ℕ) (earlier : List SharedRules) (d : Data) (name text : List ℕ) (ds : List Data) (rules : List Rule)
    → HeadIs n earlier d name ds → answer (rules_checks clients lists n Shared ds) (rules_from clients lists n Shared ds) ≡ Ok rules → text ≡ name
    → answer (shared_checks clients lists n earlier d) (shared_from clients lists n d) ≡ Ok (record { name = text; rules = rules })
unfolding shared_from
shared_passes clients lists n earlier d name text ds rules h e same =
    head_passes clients lists n earlier d name ds (shared_from clients lists n d) h
    ∙ answer-ok_for (rules_checks clients lists n Shared ds) (rules_from clients lists n Shared ds) rules (shared_from clients lists n d) e
    ∙ rw (← h.named, ← h.tables, answer-value (rules_checks clients lists n Shared ds) (rules_from clients lists n Shared ds) rules e, same) refl

-- a table with `use`, and one without
module _ (clients : List Client) (lists : List NamedList) (shared : List SharedRules) (place : Place) (d : Data) where
  pub item_uses : (n : ℕ) → has_use d ≡ true → Ok n ≡ answer (use_checks shared place d) (value_or 0 (use_at shared place d))
      → answer (item_checks clients lists shared place d) (item_of clients lists shared place d) ≡ Ok (Use n)
  unfolding item_checks item_of
  item_uses n is e =
      rw is
      (answer-ok_for (use_checks shared place d) (value_or 0 (use_at shared place d)) n (Use (value_or 0 (use_at shared place d))) (sym e)
      ∙ ap (λ n. Ok (Use n)) (answer-value (use_checks shared place d) (value_or 0 (use_at shared place d)) n (sym e)))

  pub item_uses_none : (f : ConfigFault) → has_use d ≡ true → Err f ≡ answer (use_checks shared place d) (value_or 0 (use_at shared place d))
      → answer (item_checks clients lists shared place d) (item_of clients lists shared place d) ≡ Err f
  unfolding item_checks item_of
  item_uses_none f is e = rw is (answer-err_for (use_checks shared place d) (value_or 0 (use_at shared place d)) (Use (value_or 0 (use_at shared place d))) f (sym e))

  pub item_owns : (rule : Rule) → has_use d ≡ false → answer (rule_checks clients lists place d) (rule_of clients lists place d) ≡ Ok rule
      → answer (item_checks clients lists shared place d) (item_of clients lists shared place d) ≡ Ok (Own rule)
  unfolding item_checks item_of
  item_owns rule is e =
      rw is
      (answer-ok_for (rule_checks clients lists place d) (rule_of clients lists place d) rule (Own (rule_of clients lists place d)) e
      ∙ ap (λ rule. Ok (Own rule)) (answer-value (rule_checks clients lists place d) (rule_of clients lists place d) rule e))

  pub item_owns_none : (f : ConfigFault) → has_use d ≡ false → answer (rule_checks clients lists place d) (rule_of clients lists place d) ≡ Err f
      → answer (item_checks clients lists shared place d) (item_of clients lists shared place d) ≡ Err f
  unfolding item_checks item_of
  item_owns_none f is e = rw is (answer-err_for (rule_checks clients lists place d) (rule_of clients lists place d) (Own (rule_of clients lists place d)) f e)

-- whether there is a value
pub is_there : {A B : Type 0} (f : A → B) (o : Option A) (p : Option B) (b : Bool) → option_map f o ≡ p → b ≡ is_some o → is_some p ≡ b
is_there f None p b e g = ap is_some (sym e) ∙ sym g
is_there f (Some a) p b e g = ap is_some (sym e) ∙ sym g
