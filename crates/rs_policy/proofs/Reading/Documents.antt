-- Values of a document beside what they stand for.
use Rattle.std.proofs.Common.{◌≡◌, ℕ, ◌≤◌, ◌<◌, ◌+◌, get_or, drop, sym, ◌∙◌, ◌&&◌, Bool, false, cond, nat_lt, List, [], ◌∷◌, length, Some, Ok, Err, refl, ap, arith, String, Global, string_bytes}
use Rattle.std.proofs.lemmas.Bool.Decides.{nat_tests}
use Rattle.std.proofs.lemmas.List.{length-map, drop_more, drop_all}
use Rattle.std.specs.List.{list_all}
use Rattle.std.specs.Map.{keys_of}
use Rattle.toml.specs.Data.{Data}
use Rattle.toml.specs.View.{view, items_view, members_view}
use Rattle.toml.specs.declared.value.Value.{Value}
use Rattle.rs_policy.specs.Keys.{is_among}
use Rattle.rs_policy.specs.Seen.{data_of}
use Rattle.rs_policy.specs.Values.{list_of, is_table, tables_of, are_among}
use Rattle.rs_policy.specs.declared.faults.ConfigFault.TheVariants.{BadValue}
use Rattle.rs_policy.specs.declared.faults.Key.{Key}
use Rattle.rs_policy.specs.declared.faults.Place.{Place}

pub list_of_view : (vs : List Value) → list_of (items_view vs) ≡ data_of vs
list_of_view [] = refl
list_of_view (v ∷ vs) = ap (λ ds. view v ∷ ds) (list_of_view vs)

pub list_all_seen : (p : Data → Bool) (vs : List Value) → list_all p (data_of vs) ≡ list_all (λ v. p (view v)) vs
list_all_seen p [] = refl
list_all_seen p (v ∷ vs) = ap (λ b. p (view v) && b) (list_all_seen p vs)

pub are_among_view : (keys : List Key) (es : List (String Global × Value)) → are_among keys (members_view es) ≡ list_all (λ k. is_among keys (string_bytes k)) (keys_of es)
are_among_view keys [] = refl
are_among_view keys (e ∷ es) = ap (λ b. is_among keys (string_bytes e.0) && b) (are_among_view keys es)

-- what is answered where no array is too long
pub tables_of-small : (most : ℕ) (place : Place) (vs : List Value) (all : Bool) → length vs ≤ most → list_all (λ v. is_table (view v)) vs ≡ all
    → tables_of most place (Some (data_of vs)) ≡ cond all (Ok (data_of vs)) (Err (BadValue place))
tables_of-small most place vs all small tables =
    let count : length (data_of vs) ≡ length vs = length-map vs view in
    let fits : nat_lt most (length (data_of vs)) ≡ false = grind (arith, nat_tests, count) in
    rw (fits, list_all_seen is_table vs, tables)

pub length_seen : (vs : List Value) → length (data_of vs) ≡ length vs
length_seen vs = length-map vs view

-- the values from one on
pub data_of-drop : (vs : List Value) (i : ℕ) (v : Value) → i < length vs → v ≡ get_or vs i v → data_of (drop i vs) ≡ view v ∷ data_of (drop (i + 1) vs)
data_of-drop vs i v within this = ap data_of (drop_more vs i v within) ∙ ap (λ x. view x ∷ data_of (drop (i + 1) vs)) (sym this)

pub data_of-end : (vs : List Value) (i : ℕ) → length vs ≤ i → data_of (drop i vs) ≡ []
data_of-end vs i past = ap data_of (drop_all i vs past)
