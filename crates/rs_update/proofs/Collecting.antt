-- A field's prefixes, collected from left to right.
use Rattle.std.proofs.Common.{◌≡◌, ℕ, true, false, List, [], ◌∷◌, ◌++◌, sym, ap, ◌∙◌, append_assoc}
use Rattle.std.specs.Prelude.{Result, Ok, Err, is_err}
use Rattle.std.specs.List.{list_any, filter_map}
use Rattle.std.specs.Result.{result_ok}
use Rattle.std.proofs.lemmas.List.{append-nil}
use Rattle.rs_octets.specs.Prefixes.{Prefix}
use Rattle.rs_octets.specs.PrefixFields.{prefixes_of}
use Rattle.rs_octets.specs.declared.prefix.FieldFault.{FieldFault}
use Rattle.rs_attrs.specs.Effects.{is_faulty, prefixes_in}

-- what was found, and the items that are left
pub record Collected (field : List ℕ) (found : List Prefix) (items : List (Result Prefix FieldFault)) : Type 0 where
  pub faulty : is_faulty field ≡ list_any is_err items
  pub taken : prefixes_in field ≡ found ++ filter_map result_ok items

pub collect_all : (field : List ℕ) (items : List (Result Prefix FieldFault)) → items ≡ prefixes_of field → Collected field [] items
collect_all field items e = record { faulty = ap (list_any is_err) (sym e); taken = ap (filter_map result_ok) (sym e) }

pub collect_next : (field : List ℕ) (found new : List Prefix) (items rest : List (Result Prefix FieldFault)) (item : Result Prefix FieldFault) (p : Prefix)
    → Collected field found items → items ≡ item ∷ rest → item ≡ Ok p → new ≡ found ++ p ∷ [] → Collected field new rest
collect_next field found new items rest item p c e is new_is =
    let first : items ≡ Ok p ∷ rest = e ∙ ap (λ item. item ∷ rest) is in
    record {
      faulty = c.faulty ∙ ap (list_any is_err) first;
      taken = c.taken ∙ ap (λ items. found ++ filter_map result_ok items) first ∙ sym (append_assoc found (p ∷ []) (filter_map result_ok rest)) ∙ ap (λ front. front ++ filter_map result_ok rest) (sym new_is);
    }

-- a fault among the items
pub collect_fault : (field : List ℕ) (found : List Prefix) (items rest : List (Result Prefix FieldFault)) (item : Result Prefix FieldFault) (fault : FieldFault)
    → Collected field found items → items ≡ item ∷ rest → item ≡ Err fault → is_faulty field ≡ true
collect_fault field found items rest item fault c e is = c.faulty ∙ ap (list_any is_err) (e ∙ ap (λ item. item ∷ rest) is)

pub collected : (field : List ℕ) (found : List Prefix) (items : List (Result Prefix FieldFault)) → Collected field found items → items ≡ [] → (is_faulty field ≡ false) × (found ≡ prefixes_in field)
collected field found items c e = (c.faulty ∙ ap (list_any is_err) e, sym (c.taken ∙ ap (λ items. found ++ filter_map result_ok items) e ∙ append-nil found))
