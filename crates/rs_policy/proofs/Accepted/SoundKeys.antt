-- What is read at each key is sound.
use Rattle.std.proofs.Common.{◌≡◌, ◌≢◌, ℕ, zero, suc, ◌+◌, ◌<◌, ◌≤◌, ◌^◌, ◌==◌, ◌&&◌, ◌||◌, Bool, true, false, List, [], ◌∷◌, length, Option, Some, None, Result, Ok, Err, ok_or, option_map, option_and_then, refl, sym, ap, subst, nat_lt, nat_le, arith, if◌then◌else◌}
use Rattle.std.specs.Prelude.{ℤ, pos, negsuc, IfSome}
use Rattle.std.specs.List.{list_all}
use Rattle.std.proofs.lemmas.Bool.{leb-true, ltb-false, eqb-false, and_parts, or_parts}
use Rattle.toml.specs.Data.{Data, get, as_integer, as_array, as_str}
use Rattle.std.specs.Int.{w32, from_be_bytes}
use Rattle.rs_octets.specs.Prefixes.{Prefix, masked}
use Rattle.rs_policy.specs.Keys.{key_text}
use Rattle.rs_policy.specs.Texts.{number_after, is_decimal, number_to, parted, both, point, slash, colon, octet, address_of, no_zero, endpoint_of, prefix_of, is_name}
use Rattle.rs_policy.specs.Values.{between, integer_in, hold_seconds, text_as, address, identifier, name_of, keyed, required, optional, required_at, optional_at, maybe_at, list_of, list_place, array_at, entries_from, entries_of, entries_found, entries_at, before, given, is_table, tables_of, optional_tables, tables_at, needed_tables, needed_tables_at, some_tables, some_tables_at}
use Rattle.rs_policy.specs.declared.faults.Key.{Key}
use Rattle.rs_policy.specs.declared.faults.Place.{Place}
use Rattle.rs_policy.specs.declared.faults.ConfigFault.{ConfigFault}
use Rattle.rs_policy.specs.declared.faults.ConfigFault.TheVariants.{BadValue, TooMany}

-- ---- what is at a key

pub was_some : {A : Type 0} (o : Option A) (f : ConfigFault) (a : A) → ok_or o f ≡ Ok a → o ≡ Some a
was_some None f a e = cc
was_some (Some b) f a e = cc

required_by : {A : Type 0} (P : A → Type 0) (reads : Data → Option A) (place : Place) (o : Option Data) (a : A)
    → ((d : Data) (v : A) → reads d ≡ Some v → P v) → required reads place o ≡ Ok a → P a
required_by P reads place None a every e = cc
required_by P reads place (Some d) a every e = every d a (was_some (reads d) (BadValue place) a e)

pub at_required : {A : Type 0} (P : A → Type 0) (reads : Data → Option A) (place : Place) (k : Key) (d : Data) (a : A)
    → ((d : Data) (v : A) → reads d ≡ Some v → P v) → required_at reads place k d ≡ Ok a → P a
unfolding required_at
at_required P reads place k d a every e = required_by P reads (keyed place k) (get (key_text k) d) a every e

optional_by : {A : Type 0} (P : A → Type 0) (reads : Data → Option A) (other : A) (place : Place) (o : Option Data) (a : A)
    → P other → ((d : Data) (v : A) → reads d ≡ Some v → P v) → optional reads other place o ≡ Ok a → P a
optional_by P reads other place None a p every e = subst P (let f : other ≡ a = cc in f) p
optional_by P reads other place (Some d) a p every e = every d a (was_some (reads d) (BadValue place) a e)

pub at_optional : {A : Type 0} (P : A → Type 0) (reads : Data → Option A) (other : A) (place : Place) (k : Key) (d : Data) (a : A)
    → P other → ((d : Data) (v : A) → reads d ≡ Some v → P v) → optional_at reads other place k d ≡ Ok a → P a
unfolding optional_at
at_optional P reads other place k d a p every e = optional_by P reads other (keyed place k) (get (key_text k) d) a p every e

some_by : {A : Type 0} (P : A → Type 0) (o : Option A) (v : Option A) → ((a : A) → o ≡ Some a → P a)
    → option_map Some o ≡ Some v → IfSome v P
some_by P None v every e = cc
some_by P (Some a) v every e = subst (λ x. IfSome x P) (let f : Some a ≡ v = cc in f) (every a refl)

pub at_maybe : {A : Type 0} (P : A → Type 0) (reads : Data → Option A) (place : Place) (k : Key) (d : Data) (a : Option A)
    → ((d : Data) (v : A) → reads d ≡ Some v → P v) → maybe_at reads place k d ≡ Ok a → IfSome a P
at_maybe P reads place k d a every e =
    at_optional (λ o. IfSome o P) (λ v. option_map Some (reads v)) None place k d a tt
    (λ d v f. some_by P (reads d) v (every d) f) e

-- ---- numbers

between_by : (b : Bool) (n v : ℕ) → (if b then Some n else None) ≡ Some v → (b ≡ true) × (n ≡ v)
between_by false n v e = cc
between_by true n v e = (refl, let f : n ≡ v = cc in f)

in_between : (low high : ℕ) (z : ℤ) (v : ℕ) → between low high z ≡ Some v → (low ≤ v) × (v ≤ high)
in_between low high (pos n) v e =
    let h : ((nat_le low n && nat_le n high) ≡ true) × (n ≡ v) = between_by (nat_le low n && nat_le n high) n v e in
    let t : (nat_le low n ≡ true) × (nat_le n high ≡ true) = and_parts (nat_le low n) (nat_le n high) h.0 in
    (subst (λ k. low ≤ k) h.1 (leb-true low n t.0), subst (λ k. k ≤ high) h.1 (leb-true n high t.1))
in_between low high (negsuc n) v e = cc

integer_by : (low high : ℕ) (o : Option ℤ) (v : ℕ) → option_and_then (between low high) o ≡ Some v → (low ≤ v) × (v ≤ high)
integer_by low high None v e = cc
integer_by low high (Some z) v e = in_between low high z v e

pub integer_is : (low high : ℕ) (d : Data) (v : ℕ) → integer_in low high d ≡ Some v → (low ≤ v) × (v ≤ high)
integer_is low high d v e = integer_by low high (as_integer d) v e

pub record IsHold (n : ℕ) : Type 0 where
  pub not_1 : n ≢ 1
  pub not_2 : n ≢ 2
  pub fits : n < 2 ^ 16

unless_by : {A : Type 0} (b : Bool) (n v : A) → (if b then None else Some n) ≡ Some v → (b ≡ false) × (n ≡ v)
unless_by false n v e = (refl, let f : n ≡ v = cc in f)
unless_by true n v e = cc

not_either : (n : ℕ) → ((n == 1) || (n == 2)) ≡ false → (n ≢ 1) × (n ≢ 2)
not_either n e =
    let h : ((n == 1) ≡ false) × ((n == 2) ≡ false) = or_parts (n == 1) (n == 2) e in
    (eqb-false n 1 h.0, eqb-false n 2 h.1)

hold_by : (o : Option ℕ) (v : ℕ) → ((n : ℕ) → o ≡ Some n → n ≤ 65535)
    → option_and_then (λ n. if n == 1 || n == 2 then None else Some n) o ≡ Some v → IsHold v
hold_by None v fits e = cc
hold_by (Some n) v fits e =
    let h : (((n == 1) || (n == 2)) ≡ false) × (n ≡ v) = unless_by ((n == 1) || (n == 2)) n v e in
    let k : (n ≢ 1) × (n ≢ 2) = not_either n h.0 in
    let l : n ≤ 65535 = fits n refl in
    subst IsHold h.1 (record { not_1 = k.0; not_2 = k.1; fits = omega arith })

pub hold_is : (d : Data) (v : ℕ) → hold_seconds d ≡ Some v → IsHold v
hold_is d v e = hold_by (integer_in 0 65535 d) v (λ n f. (integer_is 0 65535 d n f).1) e

-- ---- texts

text_by : {A : Type 0} (P : A → Type 0) (reads : List ℕ → Option A) (o : Option (List ℕ)) (v : A)
    → ((text : List ℕ) (v : A) → reads text ≡ Some v → P v) → option_and_then reads o ≡ Some v → P v
text_by P reads None v every e = cc
text_by P reads (Some text) v every e = every text v e

pub text_is : {A : Type 0} (P : A → Type 0) (reads : List ℕ → Option A) (d : Data) (v : A)
    → ((text : List ℕ) (v : A) → reads text ≡ Some v → P v) → text_as reads d ≡ Some v → P v
text_is P reads d v every e = text_by P reads (as_str d) v every e

pub number_most : (high : ℕ) (text : List ℕ) (v : ℕ) → number_to high text ≡ Some v → v ≤ high
unfolding number_to
number_most high text v e =
    let h : ((is_decimal text && nat_le (number_after 0 text) high) ≡ true) × (number_after 0 text ≡ v) =
    between_by (is_decimal text && nat_le (number_after 0 text) high) (number_after 0 text) v e in
    let t : (is_decimal text ≡ true) × (nat_le (number_after 0 text) high ≡ true) = and_parts (is_decimal text) (nat_le (number_after 0 text) high) h.0 in
    subst (λ k. k ≤ high) h.1 (leb-true (number_after 0 text) high t.1)

pub map_by : {A B : Type 0} (P : B → Type 0) (f : A → B) (o : Option A) (v : B) → ((a : A) → o ≡ Some a → P (f a))
    → option_map f o ≡ Some v → P v
map_by P f None v every e = cc
map_by P f (Some a) v every e = subst P (let g : f a ≡ v = cc in g) (every a refl)

pub then_by : {A B : Type 0} (P : B → Type 0) (f : A → Option B) (o : Option A) (v : B)
    → ((a : A) (b : B) → o ≡ Some a → f a ≡ Some b → P b) → option_and_then f o ≡ Some v → P v
then_by P f None v every e = cc
then_by P f (Some a) v every e = every a v refl e

pub both_by : {A B : Type 0} (P : A → Type 0) (Q : B → Type 0) (left : List ℕ → Option A) (mark : ℕ) (right : List ℕ → Option B)
    → ((text : List ℕ) (a : A) → left text ≡ Some a → P a) → ((text : List ℕ) (b : B) → right text ≡ Some b → Q b)
    → (text : List ℕ) (v : A × B) → both left mark right text ≡ Some v → P v.0 × Q v.1
both_by {A} {B} P Q left mark right first second text v e =
    then_by (λ (x : A × B). P x.0 × Q x.1) (λ (p : List ℕ × List ℕ). option_and_then (λ (a : A). option_map (λ (b : B). (a, b)) (right p.1)) (left p.0)) (parted mark text) v
    (λ p x g f. then_by (λ (x : A × B). P x.0 × Q x.1) (λ (a : A). option_map (λ (b : B). (a, b)) (right p.1)) (left p.0) x
    (λ a y k h. map_by (λ (x : A × B). P x.0 × Q x.1) (λ (b : B). (a, b)) (right p.1) y (λ b l. (first p.0 a k, second p.1 b l)) h) f)
    e

is_octet : (text : List ℕ) (a : ℕ) → octet text ≡ Some a → a ≤ 255
is_octet text a e = number_most 255 text a e

abbrev AreOctets4 : ℕ × (ℕ × (ℕ × ℕ)) → Type 0
AreOctets4 o = (o.0 ≤ 255) × ((o.1.0 ≤ 255) × ((o.1.1.0 ≤ 255) × (o.1.1.1 ≤ 255)))

address_fits : (text : List ℕ) (v : ℕ) → address_of text ≡ Some v → v < 2 ^ 32
unfolding address_of
address_fits text v e =
    map_by (λ v. v < 2 ^ 32) (λ (o : ℕ × (ℕ × (ℕ × ℕ))). from_be_bytes w32 (o.0 ∷ o.1.0 ∷ o.1.1.0 ∷ o.1.1.1 ∷ [])) (both octet point (both octet point (both octet point octet)) text) v
    (λ o f. let h : AreOctets4 o = both_by (λ a. a ≤ 255) (λ (x : ℕ × (ℕ × ℕ)). (x.0 ≤ 255) × ((x.1.0 ≤ 255) × (x.1.1 ≤ 255))) octet point (both octet point (both octet point octet)) is_octet
    (both_by (λ a. a ≤ 255) (λ (x : ℕ × ℕ). (x.0 ≤ 255) × (x.1 ≤ 255)) octet point (both octet point octet) is_octet
    (both_by (λ a. a ≤ 255) (λ a. a ≤ 255) octet point octet is_octet is_octet)) text o f in
    omega arith) e

no_zero_is : (n v : ℕ) → no_zero n ≡ Some v → (v ≢ 0) × (n ≡ v)
no_zero_is n v e =
    let h : ((n == 0) ≡ false) × (n ≡ v) = unless_by (n == 0) n v e in
    (subst (λ k. k ≢ 0) h.1 (eqb-false n 0 h.0), h.1)

pub identifier_is : (d : Data) (v : ℕ) → identifier d ≡ Some v → (v ≢ 0) × (v < 2 ^ 32)
identifier_is d v e =
    then_by (λ v. (v ≢ 0) × (v < 2 ^ 32)) no_zero (address d) v
    (λ a b f g. let h : (b ≢ 0) × (a ≡ b) = no_zero_is a b g in
    (h.0, subst (λ x. x < 2 ^ 32) h.1 (text_is (λ x. x < 2 ^ 32) address_of d a address_fits f))) e

above_0 : (n : ℕ) → n ≢ 0 → 0 < n
above_0 zero e = absurd (e refl)
above_0 (suc n) e = omega arith

pub port_is : (text : List ℕ) (v : ℕ × ℕ) → endpoint_of text ≡ Some v → 0 < v.1
unfolding endpoint_of
port_is text v e =
    (both_by (λ a. ℕ) (λ b. 0 < b) address_of colon (λ port. option_and_then no_zero (number_to 65535 port))
    (λ t a f. a)
    (λ t b f. then_by (λ b. 0 < b) no_zero (number_to 65535 t) b (λ a b g h. above_0 b (no_zero_is a b h).0) f) text v e).1

pub prefix_is : (text : List ℕ) (p : Prefix) → prefix_of text ≡ Some p → p.len ≤ 32
unfolding prefix_of
prefix_is text p e =
    map_by (λ (p : Prefix). p.len ≤ 32) (λ (o : ℕ × ℕ). let q : Prefix = record { bits = masked o.0 o.1; len = o.1 } in q) (both address_of slash (number_to 32) text) p
    (λ o f. (both_by (λ a. ℕ) (λ b. b ≤ 32) address_of slash (number_to 32) (λ t a g. a) (λ t b g. number_most 32 t b g) text o f).1) e

name_by : (b : Bool) (text v : List ℕ) → is_name text ≡ b → (if b then Some text else None) ≡ Some v → is_name v ≡ true
name_by false text v n e = cc
name_by true text v n e = subst (λ t. is_name t ≡ true) (let f : text ≡ v = cc in f) n

pub name_is : (text v : List ℕ) → name_of text ≡ Some v → is_name v ≡ true
name_is text v e = name_by (is_name text) text v refl e

-- ---- arrays of tables

few_by : (b : Bool) (c : Bool) (f g : ConfigFault) (ds v : List Data) → (if b then Err f else (if c then Ok ds else Err g)) ≡ Ok v
    → (b ≡ false) × (ds ≡ v)
few_by true c f g ds v e = cc
few_by false false f g ds v e = cc
few_by false true f g ds v e = (refl, let h : ds ≡ v = cc in h)

few_of : (most : ℕ) (place : Place) (o : Option (List Data)) (v : List Data) → tables_of most place o ≡ Ok v → length v ≤ most
few_of most place None v e = cc
few_of most place (Some ds) v e =
    let h : (nat_lt most (length ds) ≡ false) × (ds ≡ v) = few_by (nat_lt most (length ds)) (list_all is_table ds) (TooMany place) (BadValue place) ds v e in
    subst (λ (x : List Data). length x ≤ most) h.1 (ltb-false most (length ds) h.0)

few_optional : (most : ℕ) (place : Place) (o : Option Data) (v : List Data) → optional_tables most place o ≡ Ok v → length v ≤ most
few_optional most place None v e = subst (λ (x : List Data). length x ≤ most) (let f : ◌≡◌ {A = List Data} [] v = cc in f) (omega arith)
few_optional most place (Some d) v e = few_of most place (option_map list_of (as_array d)) v e

pub few_at : (most : ℕ) (place : Place) (k : Key) (d : Data) (v : List Data) → tables_at most place k d ≡ Ok v → length v ≤ most
unfolding tables_at
few_at most place k d v e = few_optional most (keyed place k) (get (key_text k) d) v e

few_of_needed : (most : ℕ) (place : Place) (o : Option Data) (v : List Data) → needed_tables most place o ≡ Ok v → length v ≤ most
few_of_needed most place None v e = cc
few_of_needed most place (Some d) v e = few_of most place (option_map list_of (as_array d)) v e

pub few_needed : (most : ℕ) (place : Place) (k : Key) (d : Data) (v : List Data) → needed_tables_at most place k d ≡ Ok v → length v ≤ most
unfolding needed_tables_at
few_needed most place k d v e = few_of_needed most (keyed place k) (get (key_text k) d) v e

some_of : (most : ℕ) (place : Place) (r : Result (List Data) ConfigFault) (v : List Data)
    → ((v : List Data) → r ≡ Ok v → length v ≤ most) → some_tables place r ≡ Ok v → (0 < length v) × (length v ≤ most)
some_of most place (Ok []) v few e = cc
some_of most place (Ok (d ∷ ds)) v few e =
    let f : ◌≡◌ {A = List Data} (d ∷ ds) v = cc in
    (subst (λ (x : List Data). 0 < length x) f (omega arith), subst (λ (x : List Data). length x ≤ most) f (few (d ∷ ds) refl))
some_of most place (Err f) v few e = cc

pub some_at : (most : ℕ) (place : Place) (k : Key) (d : Data) (v : List Data) → some_tables_at most place k d ≡ Ok v
    → (0 < length v) × (length v ≤ most)
unfolding some_tables_at
some_at most place k d v e = some_of most (keyed place k) (tables_at most place k d) v (λ v f. few_at most place k d v f) e

-- ---- arrays of entries

before_ok : {A : Type 0} (o : Option A) (f : ConfigFault) (r : Result (List A) ConfigFault) (v : List A) (n : ℕ)
    → ((more : List A) → r ≡ Ok more → length more ≡ n) → before o f r ≡ Ok v → length v ≡ suc n
before_ok None f r v n every e = cc
before_ok (Some a) f (Ok more) v n every e = subst (λ (x : List _). length x ≡ suc n) (let g : a ∷ more ≡ v = cc in g) (ap suc (every more refl))
before_ok (Some a) f (Err g) v n every e = cc

pub entries_count : {A : Type 0} (reads : Data → Option A) (n : ℕ) (k : Key) (i : ℕ) (ds : List Data) (v : List A)
    → entries_from reads n k i ds ≡ Ok v → length v ≡ length ds
unfolding entries_from
entries_count {A} reads n k i [] v e = let f : ◌≡◌ {A = List A} [] v = cc in sym (ap length f)
entries_count reads n k i (d ∷ ds) v e =
    before_ok (reads d) _ (entries_from reads n k (i + 1) ds) v (length ds) (λ more f. entries_count reads n k (i + 1) ds more f) e

long_by : (b : Bool) (f : ConfigFault) (ds v : List Data) → (if b then Err f else Ok ds) ≡ Ok v → (b ≡ false) × (ds ≡ v)
long_by true f ds v e = cc
long_by false f ds v e = (refl, let h : ds ≡ v = cc in h)

few_array : (n : ℕ) (k : Key) (o : Option (List Data)) (v : List Data) → array_at n k o ≡ Ok v → length v ≤ 1048576
few_array n k None v e = cc
few_array n k (Some ds) v e =
    let h : (nat_lt 1048576 (length ds) ≡ false) × (ds ≡ v) = long_by (nat_lt 1048576 (length ds)) (TooMany (keyed (list_place n) k)) ds v e in
    subst (λ (x : List Data). length x ≤ 1048576) h.1 (ltb-false 1048576 (length ds) h.0)

few_entries_of : {A : Type 0} (reads : Data → Option A) (n : ℕ) (k : Key) (r : Result (List Data) ConfigFault) (v : List A)
    → ((ds : List Data) → r ≡ Ok ds → length ds ≤ 1048576) → entries_of reads n k r ≡ Ok v → length v ≤ 1048576
few_entries_of reads n k (Ok ds) v few e = subst (λ m. m ≤ 1048576) (sym (entries_count reads n k 1 ds v e)) (few ds refl)
few_entries_of reads n k (Err f) v few e = cc

given_few : {A : Type 0} (r : Result (List A) ConfigFault) (v : Option (List A)) → ((xs : List A) → r ≡ Ok xs → length xs ≤ 1048576)
    → given r ≡ Ok v → IfSome v (λ xs. length xs ≤ 1048576)
given_few (Ok xs) v every e = subst (λ o. IfSome o (λ xs. length xs ≤ 1048576)) (let g : Some xs ≡ v = cc in g) (every xs refl)
given_few (Err f) v every e = cc

found_few : {A : Type 0} (reads : Data → Option A) (n : ℕ) (k : Key) (o : Option Data) (v : Option (List A))
    → entries_found reads n k o ≡ Ok v → IfSome v (λ xs. length xs ≤ 1048576)
found_few {A} reads n k None v e = subst (λ o. IfSome o (λ xs. length xs ≤ 1048576)) (let g : ◌≡◌ {A = Option (List A)} None v = cc in g) tt
found_few reads n k (Some d) v e =
    let r : Result (List Data) ConfigFault = array_at n k (option_map list_of (as_array d)) in
    given_few (entries_of reads n k r) v (λ xs f. few_entries_of reads n k r xs (few_array n k (option_map list_of (as_array d))) f) e

pub few_entries : {A : Type 0} (reads : Data → Option A) (n : ℕ) (k : Key) (d : Data) (v : Option (List A))
    → entries_at reads n k d ≡ Ok v → IfSome v (λ xs. length xs ≤ 1048576)
unfolding entries_at
few_entries reads n k d v e = found_few reads n k (get (key_text k) d) v e
