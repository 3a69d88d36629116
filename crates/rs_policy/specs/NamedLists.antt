-- A list as a table spells it: its keys, their checks in order, and the list where none fails.
use Rattle.std.specs.Prelude.{ℕ, ◌-◌, take, ◌||◌, Bool, List, [], ◌∷◌, bytes_eq, Option, Some, None, Result, Ok, Err, is_some, if◌then◌else◌}
use Rattle.std.specs.List.{list_any}
use Rattle.toml.specs.Data.{Data, get}
use Rattle.rs_policy.specs.Keys.{key_text, named_list_keys}
use Rattle.rs_policy.specs.Values.{text_as, name_of, prefix_entry, as_entry, keyed, required_at, list_place, entries_at, fault_in, value_or, stranger, each_from, checks_from}
use Rattle.rs_policy.specs.Configuration.{NamedList}
use Rattle.rs_policy.specs.declared.faults.Key.TheVariants as K
use Rattle.rs_policy.specs.declared.faults.ConfigFault.{ConfigFault}
use Rattle.rs_policy.specs.declared.faults.ConfigFault.TheVariants.{Missing, TwiceList}
use Rattle.rs_policy.specs.declared.rules.Range.{Range}

-- a list of these prefixes
abbrev pub listing : List Range → NamedList
listing ranges = record { name = []; prefixes = Some ranges; ases = None }

abbrev pub list_name_at : ℕ → Data → Result (List ℕ) ConfigFault
list_name_at n = required_at (text_as name_of) (list_place n) K.Name

-- one of both arrays has to be there
abbrev pub has_entries : Data → Bool
has_entries d = is_some (get (key_text K.Prefixes) d) || is_some (get (key_text K.Ases) d)

unfoldable pub entries_needed : ℕ → Data → Result (Unit {0}) ConfigFault
entries_needed n d = if has_entries d then Ok tt else Err (Missing (keyed (list_place n) K.Prefixes))

abbrev pub prefixes_at : ℕ → Data → Result (Option (List Range)) ConfigFault
prefixes_at n = entries_at prefix_entry n K.Prefixes

abbrev pub ases_at : ℕ → Data → Result (Option (List (ℕ × ℕ))) ConfigFault
ases_at n = entries_at as_entry n K.Ases

unfoldable pub named_list_from : ℕ → Data → NamedList
named_list_from n d = record {
  name = value_or [] (list_name_at n d);
  prefixes = value_or None (prefixes_at n d);
  ases = value_or None (ases_at n d);
}

abbrev pub named_lists_from : List Data → List NamedList
named_lists_from ds = each_from named_list_from 1 ds

abbrev pub is_same_name : NamedList → NamedList → Bool
is_same_name a b = bytes_eq a.name b.name

abbrev pub list_twice : ℕ → List NamedList → NamedList → Result (Unit {0}) ConfigFault
list_twice n earlier l = if list_any (is_same_name l) earlier then Err (TwiceList n) else Ok tt

unfoldable pub named_list_checks : ℕ → List NamedList → Data → List (Option ConfigFault)
named_list_checks n earlier d =
    fault_in (list_name_at n d)
    ∷ fault_in (entries_needed n d)
    ∷ fault_in (prefixes_at n d)
    ∷ fault_in (ases_at n d)
    ∷ fault_in (stranger named_list_keys (list_place n) d)
    ∷ fault_in (list_twice n earlier (named_list_from n d))
    ∷ []

-- those of each list, beside the lists before it
abbrev pub named_lists_checks : List Data → List (Option ConfigFault)
named_lists_checks ds = checks_from (λ n d. named_list_checks n (take (n - 1) (named_lists_from ds)) d) 1 ds
