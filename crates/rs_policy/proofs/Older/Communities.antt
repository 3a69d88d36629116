-- A text of a community without `*` and `peer` is read as it was, and matches and takes away the communities that it did.
use Rattle.std.proofs.Common.{◌≡◌, ℕ, ◌+◌, ◌*◌, ◌/◌, ◌%◌, ◌≤◌, ◌==◌, ◌&&◌, ◌||◌, Bool, true, false, List, [], ◌∷◌, Option, Some, None, Result, Err, option_map, refl, sym, ap, subst, ◌∙◌, eq-eqb, bytes_eq, arith, if◌then◌else◌}
use Rattle.std.specs.Prelude.{⊤, IfSome, codes, not, option_and_then, unwrap_or}
use Rattle.std.specs.List.{list_all, list_any}
use Rattle.std.proofs.lemmas.Bool.{and_parts, eqb-true}
use Rattle.toml.specs.Data.{Data, get, as_array, as_str}
use Rattle.rs_attrs.specs.Getters.{communities_of}
use Rattle.rs_attrs.specs.Patterns.{is_like}
use Rattle.rs_attrs.specs.declared.patterns.CommunityPattern.{CommunityPattern}
use Rattle.rs_policy.specs.Keys.{key_text}
use Rattle.rs_policy.specs.Patterns.{pattern_for}
use Rattle.rs_policy.specs.Texts.{number_to, parted, colon, part_of, last_part_of, community_of, pattern_of}
use Rattle.rs_policy.specs.Values.{keyed, read_or_bad, optional, optional_at, text_as, list_of, fault_in, value_or}
use Rattle.rs_policy.specs.Rules.{has_receiver, community_at, each_read, stripping_from, strippings, is_longer, strip_found, stripping_at, strip_at}
use Rattle.rs_policy.specs.Verdicts.{AnnouncedRoute, has_community, holds}
use Rattle.rs_policy.specs.Older.{is_number_alone, are_numbers_alone, has_no_pattern, is_plain, array_in, older_community_of, older_community_at, older_strip_at, takes, older_takes}
use Rattle.rs_attrs.specs.Getters.{has_community as has_number}
use Rattle.rs_policy.specs.declared.faults.Key.TheVariants as K
use Rattle.rs_policy.specs.declared.faults.Place.{Place}
use Rattle.rs_policy.specs.declared.faults.ConfigFault.{ConfigFault}
use Rattle.rs_policy.specs.declared.faults.ConfigFault.TheVariants.{TooMany}
use Rattle.rs_policy.specs.declared.rules.CommunityTest.{CommunityTest}
use Rattle.rs_policy.specs.declared.rules.Disposition.{Disposition}
use Rattle.rs_policy.specs.declared.rules.Disposition.TheVariants as D
use Rattle.rs_policy.specs.declared.rules.Part.{Part}
use Rattle.rs_policy.specs.declared.rules.Part.TheVariants.{Number, Any, Peer}
use Rattle.rs_policy.specs.declared.rules.Stripping.{Stripping}
use Rattle.rs_policy.specs.declared.rules.Stripping.TheVariants.{Named, All}
use Rattle.rs_policy.proofs.Accepted.SoundKeys.{number_most}

-- ---- a text

neither : (a b : Bool) → (not a && not b) ≡ true → (a ≡ false) × (b ≡ false)
neither false false e = (refl, refl)
neither false true e = cc
neither true b e = cc

not_any : (text : List ℕ) → is_number_alone text ≡ true → bytes_eq text (codes "*") ≡ false
not_any text e = (neither (bytes_eq text (codes "*")) (bytes_eq text (codes "peer")) e).0

not_peer : (text : List ℕ) → is_number_alone text ≡ true → bytes_eq text (codes "peer") ≡ false
not_peer text e = (neither (bytes_eq text (codes "*")) (bytes_eq text (codes "peer")) e).1

part_is_number : (peer : Bool) (high : ℕ) (text : List ℕ) → is_number_alone text ≡ true → part_of peer high text ≡ option_map Number (number_to high text)
part_is_number false high text e = refl
part_is_number true high text e = ap (λ b. if b then Some Peer else option_map Number (number_to high text)) (not_peer text e)

last_part_is_number : (peer : Bool) (high : ℕ) (text : List ℕ) → is_number_alone text ≡ true → last_part_of peer high text ≡ option_map Number (number_to high text)
last_part_is_number peer high text e = ap (λ b. if b then Some Any else part_of peer high text) (not_any text e) ∙ part_is_number peer high text e

both_true : (a b : Bool) → a ≡ true → b ≡ true → (a && b) ≡ true
both_true a b e f = ap (λ x. x && b) e ∙ f

-- ---- the community of two numbers

same_if : (a b : Bool) → (a ≡ true → b ≡ true) → (b ≡ true → a ≡ true) → a ≡ b
same_if true b f g = sym (f refl)
same_if false true f g = g refl
same_if false false f g = refl

same_community : (high low c : ℕ) → low ≤ 65535 → ((c / 65536 == high) && (c % 65536 == low)) ≡ (c == 65536 * high + low)
same_community high low c fits =
    same_if ((c / 65536 == high) && (c % 65536 == low)) (c == 65536 * high + low)
    (λ e. let h : ((c / 65536 == high) ≡ true) × ((c % 65536 == low) ≡ true) = and_parts (c / 65536 == high) (c % 65536 == low) e in
    let first : c / 65536 ≡ high = eqb-true (c / 65536) high h.0 in
    let last : c % 65536 ≡ low = eqb-true (c % 65536) low h.1 in
    eq-eqb c (65536 * high + low) (omega arith))
    (λ e. let is : c ≡ 65536 * high + low = eqb-true c (65536 * high + low) e in
    both_true (c / 65536 == high) (c % 65536 == low) (eq-eqb (c / 65536) high (omega arith)) (eq-eqb (c % 65536) low (omega arith)))

-- a pattern, and the one number that it is like
abbrev IsOne : Option CommunityPattern → Option ℕ → Type 0
IsOne None None = ⊤
IsOne None (Some n) = ⊥
IsOne (Some p) None = ⊥
IsOne (Some p) (Some n) = (c : ℕ) → is_like p c ≡ (c == n)

abbrev test_of : Part × Part → CommunityTest
test_of p = record { high = p.0; low = p.1 }

abbrev number_of : ℕ × ℕ → ℕ
number_of p = 65536 * p.0 + p.1

abbrev paired : {A : Type 0} → Option A → Option A → Option (A × A)
paired {A} first last = option_and_then (λ (a : A). option_map (λ (b : A). (a, b)) last) first

by_numbers : (to_as : ℕ) (high low : Option ℕ) → ((n : ℕ) → low ≡ Some n → n ≤ 65535)
    → IsOne (option_map (pattern_for to_as) (option_map test_of (paired (option_map Number high) (option_map Number low)))) (option_map number_of (paired high low))
by_numbers to_as None low fits = tt
by_numbers to_as (Some h) None fits = tt
by_numbers to_as (Some h) (Some l) fits = λ c. same_community h l c (fits l refl)

by_parts : (peer : Bool) (to_as : ℕ) (o : Option (List ℕ × List ℕ)) → are_numbers_alone o ≡ true
    → IsOne (option_map (pattern_for to_as) (option_map test_of (option_and_then (λ (p : List ℕ × List ℕ). paired (part_of peer 65535 p.0) (last_part_of peer 65535 p.1)) o)))
    (option_map number_of (option_and_then (λ (p : List ℕ × List ℕ). paired (number_to 65535 p.0) (number_to 65535 p.1)) o))
by_parts peer to_as None h = tt
by_parts peer to_as (Some p) e =
    let h : (is_number_alone p.0 ≡ true) × (is_number_alone p.1 ≡ true) = and_parts (is_number_alone p.0) (is_number_alone p.1) e in
    subst (λ (o : Option Part). IsOne (option_map (pattern_for to_as) (option_map test_of (paired o (last_part_of peer 65535 p.1)))) (option_map number_of (paired (number_to 65535 p.0) (number_to 65535 p.1))))
    (sym (part_is_number peer 65535 p.0 h.0))
    (subst (λ (o : Option Part). IsOne (option_map (pattern_for to_as) (option_map test_of (paired (option_map Number (number_to 65535 p.0)) o))) (option_map number_of (paired (number_to 65535 p.0) (number_to 65535 p.1))))
    (sym (last_part_is_number peer 65535 p.1 h.1))
    (by_numbers to_as (number_to 65535 p.0) (number_to 65535 p.1) (number_most 65535 p.1)))

by_text : (peer : Bool) (to_as : ℕ) (text : List ℕ) → has_no_pattern text ≡ true → IsOne (option_map (pattern_for to_as) (community_of peer text)) (older_community_of text)
unfolding community_of older_community_of
by_text peer to_as text e = by_parts peer to_as (parted colon text) e

by_some : (peer : Bool) (to_as : ℕ) (o : Option (List ℕ)) → unwrap_or (option_map has_no_pattern o) true ≡ true
    → IsOne (option_map (pattern_for to_as) (option_and_then (community_of peer) o)) (option_and_then older_community_of o)
by_some peer to_as None e = tt
by_some peer to_as (Some text) e = by_text peer to_as text e

-- ---- a test

any_same : {A : Type 0} (p q : A → Bool) (xs : List A) → ((x : A) → p x ≡ q x) → list_any p xs ≡ list_any q xs
any_same p q [] h = refl
any_same p q (x ∷ xs) h = ap (λ b. b || list_any p xs) (h x) ∙ ap (λ b. q x || b) (any_same p q xs h)

-- what is read at a key, and what was
pub record IsReadAlike (r : AnnouncedRoute) (new : Result (Option CommunityTest) ConfigFault) (old : Result (Option ℕ) ConfigFault) : Type 0 where
  pub fault : fault_in new ≡ fault_in old
  pub routes : holds (λ t. has_community t r) (value_or None new) ≡ holds (λ n. has_number n r.attributes) (value_or None old)

read_alike : (r : AnnouncedRoute) (place : Place) (new : Option CommunityTest) (old : Option ℕ) → IsOne (option_map (pattern_for r.to_as) new) old
    → IsReadAlike r (read_or_bad place (option_map Some new)) (read_or_bad place (option_map Some old))
read_alike r place None None h = record { fault = refl; routes = refl }
read_alike r place None (Some n) h = absurd h
read_alike r place (Some t) None h = absurd h
read_alike r place (Some t) (Some n) h = record { fault = refl; routes = any_same (is_like (pattern_for r.to_as t)) (λ c. c == n) (communities_of r.attributes) h }

found_alike : (peer : Bool) (r : AnnouncedRoute) (place : Place) (o : Option Data) → IfSome o (λ v. is_plain v ≡ true)
    → IsReadAlike r (optional (λ v. option_map Some (text_as (community_of peer) v)) None place o) (optional (λ v. option_map Some (text_as older_community_of v)) None place o)
found_alike peer r place None e = record { fault = refl; routes = refl }
found_alike peer r place (Some v) e = read_alike r place (text_as (community_of peer) v) (text_as older_community_of v) (by_some peer r.to_as (as_str v) e)

pub community_alike : (r : AnnouncedRoute) (place : Place) (d : Data) → IfSome (get (key_text K.Community) d) (λ v. is_plain v ≡ true)
    → IsReadAlike r (community_at place d) (older_community_at place d)
unfolding optional_at
community_alike r place d e = found_alike (has_receiver place.table) r (keyed place K.Community) (get (key_text K.Community) d) e

abbrev no_route : AnnouncedRoute
no_route = record { from = 0; peer = 0; peer_as = 0; prefix = record { bits = 0; len = 0 }; attributes = []; to_as = 0 }

pub community_fault : (place : Place) (d : Data) → IfSome (get (key_text K.Community) d) (λ v. is_plain v ≡ true)
    → fault_in (community_at place d) ≡ fault_in (older_community_at place d)
community_fault place d e = (community_alike no_route place d e).fault

-- ---- what is taken away

by_value : (o : Option (List ℕ)) → unwrap_or (option_map has_no_pattern o) true ≡ true → IsOne (option_and_then pattern_of o) (option_and_then older_community_of o)
unfolding pattern_of
by_value None e = tt
by_value (Some text) e = by_text false 0 text e

-- patterns, and the numbers that they are like
abbrev AreThese : Option (List CommunityPattern) → Option (List ℕ) → Type 0
AreThese None None = ⊤
AreThese None (Some ns) = ⊥
AreThese (Some ps) None = ⊥
AreThese (Some ps) (Some ns) = (c : ℕ) → list_any (λ p. is_like p c) ps ≡ list_any (λ n. c == n) ns

one_more : (new : Option CommunityPattern) (old : Option ℕ) (news : Option (List CommunityPattern)) (olds : Option (List ℕ)) → IsOne new old → AreThese news olds
    → AreThese (option_and_then (λ (p : CommunityPattern). option_map (λ (ps : List CommunityPattern). p ∷ ps) news) new) (option_and_then (λ (n : ℕ). option_map (λ (ns : List ℕ). n ∷ ns) olds) old)
one_more None None news olds h k = tt
one_more None (Some n) news olds h k = absurd h
one_more (Some p) None news olds h k = absurd h
one_more (Some p) (Some n) None None h k = tt
one_more (Some p) (Some n) None (Some ns) h k = absurd k
one_more (Some p) (Some n) (Some ps) None h k = absurd k
one_more (Some p) (Some n) (Some ps) (Some ns) h k = λ c. ap (λ b. b || list_any (λ p. is_like p c) ps) (h c) ∙ ap (λ b. (c == n) || b) (k c)

each_alike : (ds : List Data) → list_all is_plain ds ≡ true → AreThese (each_read (text_as pattern_of) ds) (each_read (text_as older_community_of) ds)
each_alike [] e = λ c. refl
each_alike (d ∷ ds) e =
    let h : (is_plain d ≡ true) × (list_all is_plain ds ≡ true) = and_parts (is_plain d) (list_all is_plain ds) e in
    one_more (text_as pattern_of d) (text_as older_community_of d) (each_read (text_as pattern_of) ds) (each_read (text_as older_community_of) ds) (by_value (as_str d) h.0) (each_alike ds h.1)

pub record TakesAlike (new : Result (Stripping CommunityPattern) ConfigFault) (old : Result (Stripping ℕ) ConfigFault) : Type 0 where
  pub fault : fault_in new ≡ fault_in old
  pub taken : (c : ℕ) → takes (value_or (Named []) new) c ≡ older_takes (value_or (Named []) old) c

named_alike : (place : Place) (news : Option (List CommunityPattern)) (olds : Option (List ℕ)) → AreThese news olds
    → TakesAlike (read_or_bad place (option_map Named news)) (read_or_bad place (option_map Named olds))
named_alike place None None h = record { fault = refl; taken = λ c. refl }
named_alike place None (Some ns) h = absurd h
named_alike place (Some ps) None h = absurd h
named_alike place (Some ps) (Some ns) h = record { fault = refl; taken = h }

all_alike : (place : Place) (b : Bool)
    → TakesAlike (read_or_bad place (if b then Some All else None)) (read_or_bad place (if b then Some All else None))
all_alike place true = record { fault = refl; taken = λ c. refl }
all_alike place false = record { fault = refl; taken = λ c. refl }

value_alike : (place : Place) (ds : Option (List Data)) (text : Option (List ℕ)) → list_all is_plain (unwrap_or ds []) ≡ true
    → TakesAlike (read_or_bad place (stripping_from (text_as pattern_of) ds text)) (read_or_bad place (stripping_from (text_as older_community_of) ds text))
value_alike place (Some ds) text e = named_alike place (each_read (text_as pattern_of) ds) (each_read (text_as older_community_of) ds) (each_alike ds e)
value_alike place None (Some text) e = all_alike place (bytes_eq text (codes "all"))
value_alike place None None e = record { fault = refl; taken = λ c. refl }

by_disposition : (disposition : Disposition) (place : Place) (v : Data) → list_all is_plain (array_in v) ≡ true
    → TakesAlike (read_or_bad place (strippings (text_as pattern_of) disposition v)) (read_or_bad place (strippings (text_as older_community_of) disposition v))
by_disposition D.Pass place v e = value_alike place (option_map list_of (as_array v)) (as_str v) e
by_disposition D.Drop place v e = record { fault = refl; taken = λ c. refl }

unless_long : (b : Bool) (f : ConfigFault) (new : Result (Stripping CommunityPattern) ConfigFault) (old : Result (Stripping ℕ) ConfigFault) → TakesAlike new old
    → TakesAlike (if b then Err f else new) (if b then Err f else old)
unless_long true f new old h = record { fault = refl; taken = λ c. refl }
unless_long false f new old h = h

strip_found_alike : (disposition : Disposition) (place : Place) (o : Option Data) → IfSome o (λ v. list_all is_plain (array_in v) ≡ true)
    → TakesAlike (strip_found (text_as pattern_of) disposition place o) (strip_found (text_as older_community_of) disposition place o)
strip_found_alike disposition place None e = record { fault = refl; taken = λ c. refl }
strip_found_alike disposition place (Some v) e =
    unless_long (is_longer 64 (option_map list_of (as_array v))) (TooMany place)
    (read_or_bad place (strippings (text_as pattern_of) disposition v)) (read_or_bad place (strippings (text_as older_community_of) disposition v))
    (by_disposition disposition place v e)

pub strip_alike : (disposition : Disposition) (place : Place) (d : Data) → IfSome (get (key_text K.Strip) d) (λ v. list_all is_plain (array_in v) ≡ true)
    → TakesAlike (strip_at disposition place d) (older_strip_at disposition place d)
unfolding stripping_at
strip_alike disposition place d e = strip_found_alike disposition (keyed place K.Strip) (get (key_text K.Strip) d) e
