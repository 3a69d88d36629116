-- The text of each fault.
use Rattle.std.specs.Prelude.{ℕ, List, ◌++◌, [], codes, decimal}
use Rattle.rs_policy.specs.declared.faults.List.{List as RuleList}
use Rattle.rs_policy.specs.declared.faults.List.TheVariants.{Import, Export, Shared}
use Rattle.rs_policy.specs.declared.faults.Table.{Table}
use Rattle.rs_policy.specs.declared.faults.Table.TheVariants as T
use Rattle.rs_policy.specs.declared.faults.Place.{Place}
use Rattle.rs_policy.specs.declared.faults.ConfigFault.{ConfigFault}
use Rattle.rs_policy.specs.declared.faults.ConfigFault.TheVariants.{Syntax, Missing, BadValue, Twice, TwiceList, TwiceRules, TooMany, OutOfMemory}
use Rattle.rs_policy.specs.declared.faults.RulesFault.{RulesFault}
use Rattle.rs_policy.specs.declared.faults.RulesFault.TheVariants.{Unreadable, Config, Fixed}
use Rattle.rs_policy.specs.Keys.{key_text}

-- an array of rules, which is a key of its table too
abbrev pub list_text : RuleList → List ℕ
list_text Import = codes "import"
list_text Export = codes "export"
list_text Shared = codes "rules"

abbrev pub client_text : ℕ → List ℕ
client_text n = codes "client " ++ decimal n

abbrev pub named_list_text : ℕ → List ℕ
named_list_text n = codes "list " ++ decimal n

abbrev pub shared_text : ℕ → List ℕ
shared_text n = codes "rules " ++ decimal n

-- whose array of rules it is
abbrev pub owner_text : RuleList → ℕ → List ℕ
owner_text Import n = client_text n
owner_text Export n = client_text n
owner_text Shared n = shared_text n

abbrev pub rule_text : RuleList → ℕ → List ℕ
rule_text list n = codes " " ++ list_text list ++ codes " " ++ decimal n

-- the table that a key stands in: the top, a client, rules that others use, a rule, or a list
abbrev pub table_text : Table → List ℕ
table_text T.Top = []
table_text (T.Client n) = client_text n ++ codes " "
table_text (T.Rules n) = shared_text n ++ codes " "
table_text (T.Rule n list r) = owner_text list n ++ rule_text list r ++ codes " "
table_text (T.List n) = named_list_text n ++ codes " "
table_text (T.Entry n e) = named_list_text n ++ codes " "

-- which entry of the key's array it is
abbrev pub entry_text : Table → List ℕ
entry_text T.Top = []
entry_text (T.Client n) = []
entry_text (T.Rules n) = []
entry_text (T.Rule n list r) = []
entry_text (T.List n) = []
entry_text (T.Entry n e) = codes " " ++ decimal e

unfoldable pub place_text : Place → List ℕ
place_text p = table_text p.table ++ key_text p.key ++ entry_text p.table

unfoldable pub fault_text : ConfigFault → List ℕ
fault_text Syntax = codes "syntax"
fault_text (Missing p) = codes "missing " ++ place_text p
fault_text (BadValue p) = codes "bad value " ++ place_text p
fault_text (Twice n) = codes "twice " ++ client_text n
fault_text (TwiceList n) = codes "twice " ++ named_list_text n
fault_text (TwiceRules n) = codes "twice " ++ shared_text n
fault_text (TooMany p) = codes "too many " ++ place_text p
fault_text OutOfMemory = codes "out of memory"

unfoldable pub rules_fault_text : RulesFault → List ℕ
rules_fault_text Unreadable = codes "unreadable"
rules_fault_text (Config f) = fault_text f
rules_fault_text (Fixed p) = codes "fixed " ++ place_text p
