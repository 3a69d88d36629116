-- Octets are cut into messages in one way, from left to right, also where they come in pieces.
use Rattle.std.proofs.Common.{◌≡◌, ◌⊎◌, inl, inr, ℕ, zero, suc, ◌≤◌, Bool, true, false, cond, List, [], ◌∷◌, ◌++◌, length, map, take, drop, Option, Some, None, refl, sym, ap, subst, ◌∙◌, arith, nat_lt, length-append, append_assoc}
use Rattle.std.specs.Prelude.{◌&&◌, ◌==◌, Result, Ok, Err, IsOkAnd}
use Rattle.std.specs.List.{flat_map, list_all, AllByRecursion}
use Rattle.std.specs.Int.{is_in_range}
use Rattle.std.proofs.Math.Seq.{drop-nil, take-length}
use Rattle.std.proofs.lemmas.Bool.{le-ltb, ltb-true, ltb-false, leb-true}
use Rattle.std.proofs.lemmas.Grind.{flat_map-append}
use Rattle.std.proofs.lemmas.List.{append-nil, length-take-le, take-append-drop, take-append-le}
use Rattle.rs_octets.specs.declared.heads.Allowed.{Allowed}
use Rattle.rs_octets.specs.declared.heads.Head.{Head}
use Rattle.rs_octets.specs.declared.heads.Kind.{Kind}
use Rattle.rs_octets.specs.declared.heads.HeaderFault.{HeaderFault}
use Rattle.rs_octets.specs.declared.heads.HeaderFault.TheVariants as faults
use Rattle.rs_octets.specs.Headers.{header_of, longest, kind_numbered, least_length, greatest_length, length_field, type_field, head_of_type}
use Rattle.rs_octets.specs.Parts.{IsPrefixFree}
use Rattle.rs_octets.specs.Laws.{GrowsBy}
use Rattle.rs_octets.proofs.OneWay.{one_way, one_more, same_fronts}
use Rattle.rs_octets.specs.Messages.{IsMessage, BeginsNoMessage, Cuts, Hears, header_fault_of, heard_of, length_within, message_length, messages_behind, rest_behind, messages_of, rest_of}

-- ---- the message that octets begin with

both_true : (a b : Bool) → a && b ≡ true → a ≡ true
both_true true b h = refl
both_true false b h = cc

-- a good header has a length of 19 or more
pub header_long : (allowed : Allowed) (header : List ℕ) (head : Head) → header_of allowed header ≡ Ok head → 19 ≤ head.length
header_long allowed header head e =
    by_tests (list_all (λ b. b == 255) (take 16 header)) (is_in_range 19 (longest allowed) len) (kind_numbered allowed number) refl e
  where
    len : ℕ
    len = length_field header

    number : ℕ
    number = type_field header

    by_kind : (within : Bool) (kind : Kind) → 19 ≤ len → cond within (Ok (record { length = len; kind = kind })) (Err (faults.Length len)) ≡ Ok head → 19 ≤ head.length
    by_kind true kind h e = let same : len ≡ head.length = cc in omega arith
    by_kind false kind h e = cc

    by_tests : (marker within : Bool) (kind : Option Kind) → is_in_range 19 (longest allowed) len ≡ within
        → cond marker (cond within (head_of_type allowed kind len number) (Err (faults.Length len))) (Err faults.Marker) ≡ Ok head → 19 ≤ head.length
    by_tests false within kind p e = cc
    by_tests true false kind p e = cc
    by_tests true true None p e = cc
    by_tests true true (Some kind) p e = by_kind (is_in_range (least_length kind) (greatest_length allowed kind) len) kind (leb-true 19 len (both_true _ _ p)) e

-- a message that stands at the front is found there
found : (allowed : Allowed) (message after : List ℕ) → IsMessage allowed message → message_length allowed (message ++ after) ≡ length message
found allowed message after is =
    let size = length-append message after in
    let whole : nat_lt (length (message ++ after)) 19 ≡ false = le-ltb (length (message ++ after)) 19 (omega (arith, is.0)) in
    ap (λ short. cond short 0 (length_within (message ++ after) (header_of allowed (take 19 (message ++ after))))) whole
    ∙ ap (λ front. length_within (message ++ after) (header_of allowed front)) (take-append-le 19 message after is.0)
    ∙ by_header (header_of allowed (take 19 message)) is.1
  where
    by_header : (r : Result Head HeaderFault) → IsOkAnd r (λ head. head.length ≡ length message) → length_within (message ++ after) r ≡ length message
    by_header (Ok head) e =
        let fits : nat_lt (length (message ++ after)) head.length ≡ false = le-ltb (length (message ++ after)) head.length (omega (arith, e, length-append message after)) in
        ap (λ b. cond b 0 head.length) fits ∙ e
    by_header (Err fault) e = absurd e

-- a message that is found stands at the front
record Stands (allowed : Allowed) (octets : List ℕ) (n : ℕ) : Type 0 where
  room : n ≤ length octets
  is : IsMessage allowed (take n octets)

stands : (allowed : Allowed) (octets : List ℕ) (n : ℕ) → message_length allowed octets ≡ suc n → Stands allowed octets (suc n)
stands allowed octets n e = by_header (nat_lt (length octets) 19) (header_of allowed (take 19 octets)) refl e
  where
    by_room : (head : Head) (cut : Bool) → header_of allowed (take 19 octets) ≡ Ok head → nat_lt (length octets) head.length ≡ cut → cond cut 0 head.length ≡ suc n → Stands allowed octets (suc n)
    by_room head true p q e = absurd (omega arith)
    by_room head false p q e =
        let room : suc n ≤ length octets = let h = ltb-false _ _ q in omega arith in
        let long : 19 ≤ suc n = let h = header_long allowed (take 19 octets) head p in omega arith in
        let taken : length (take (suc n) octets) ≡ suc n = length-take-le (suc n) octets room in
        let front : take 19 (take (suc n) octets) ≡ take 19 octets =
        sym (take-append-le 19 (take (suc n) octets) (drop (suc n) octets) (omega arith)) ∙ ap (take 19) (take-append-drop (suc n) octets) in
        record {
          room = room;
          is = (omega arith, subst (λ r. IsOkAnd r (λ head. head.length ≡ length (take (suc n) octets))) (sym (ap (header_of allowed) front ∙ p)) (e ∙ sym taken));
        }

    by_header : (short : Bool) (r : Result Head HeaderFault) → header_of allowed (take 19 octets) ≡ r → cond short 0 (length_within octets r) ≡ suc n → Stands allowed octets (suc n)
    by_header true r p e = absurd (omega arith)
    by_header false (Err fault) p e = absurd (omega arith)
    by_header false (Ok head) p e = by_room head (nat_lt (length octets) head.length) p refl e

-- ---- the walk

-- what the walk does at an octet, by the length of the message that is found there
abbrev messages_by : Allowed → ℕ → List ℕ → ℕ → List (List ℕ)
messages_by allowed octet octets zero = []
messages_by allowed octet octets (suc n) = (octet ∷ take n octets) ∷ messages_behind allowed n octets

abbrev rest_by : Allowed → ℕ → List ℕ → ℕ → List ℕ
rest_by allowed octet octets zero = octet ∷ octets
rest_by allowed octet octets (suc n) = rest_behind allowed n octets

none_in_nothing : (allowed : Allowed) → BeginsNoMessage allowed []
none_in_nothing allowed message after is here = absurd (omega (arith, is.0, ap length here, length-append message after))

-- the computed cut is one
cuts_behind : (allowed : Allowed) (octets : List ℕ) (n : ℕ) → Cuts allowed (drop n octets) (messages_behind allowed n octets) (rest_behind allowed n octets)
cuts_behind allowed [] n =
    let P : List ℕ → Type 0 = λ octets. Cuts allowed octets [] [] in
    subst P (sym (drop-nil n)) (record { whole = refl; each = tt; stops = none_in_nothing allowed })
cuts_behind allowed (octet ∷ octets) (suc n) = cuts_behind allowed octets n
cuts_behind allowed (octet ∷ octets) zero = by_length (cuts_behind allowed octets) (message_length allowed (octet ∷ octets)) refl
  where
    by_length : ((n : ℕ) → Cuts allowed (drop n octets) (messages_behind allowed n octets) (rest_behind allowed n octets))
        → (n : ℕ) → message_length allowed (octet ∷ octets) ≡ n → Cuts allowed (octet ∷ octets) (messages_by allowed octet octets n) (rest_by allowed octet octets n)
    by_length later zero e = record {
      whole = refl;
      each = tt;
      stops = λ message after is here. absurd (omega (arith, is.0, sym (found allowed message after is) ∙ ap (message_length allowed) (sym here) ∙ e));
    }
    by_length later (suc n) e =
        let others = later n in
        let front : List ℕ = octet ∷ take n octets in
        record {
          whole = ap (λ xs. octet ∷ xs) (sym (take-append-drop n octets)) ∙ ap (λ xs. front ++ xs) others.whole ∙ sym (append_assoc front _ _);
          each = ((stands allowed (octet ∷ octets) n e).is, others.each);
          stops = others.stops;
        }

pub cuts_of : (allowed : Allowed) (octets : List ℕ) → Cuts allowed octets (messages_of allowed octets) (rest_of allowed octets)
cuts_of allowed octets = cuts_behind allowed octets 0

-- a message is no front of another, since its header has its length
messages_apart : (allowed : Allowed) → IsPrefixFree {A = List ℕ} (λ message. message) (IsMessage allowed)
messages_apart allowed a b x y is other e =
    same_fronts a b x y (sym (found allowed a x is) ∙ ap (message_length allowed) e ∙ found allowed b y other) e

-- so it is the only one
pub cuts_only : (allowed : Allowed) (octets : List ℕ) (messages : List (List ℕ)) (rest : List ℕ) → Cuts allowed octets messages rest
    → (messages ≡ messages_of allowed octets) × (rest ≡ rest_of allowed octets)
cuts_only allowed octets messages rest cut =
    one_way {A = List ℕ} (λ message. message) (IsMessage allowed) (messages_apart allowed) octets messages (messages_of allowed octets) rest (rest_of allowed octets) cut (cuts_of allowed octets)

-- octets that begin with no message are all rest
pub stops_are : (allowed : Allowed) (octets : List ℕ) → BeginsNoMessage allowed octets → (messages_of allowed octets ≡ []) × (rest_of allowed octets ≡ octets)
stops_are allowed octets stops =
    let only = cuts_only allowed octets [] octets (record { whole = refl; each = tt; stops = stops }) in
    (sym only.0, sym only.1)

-- one message at the front
pub first_message : (allowed : Allowed) (message tail : List ℕ) → IsMessage allowed message
    → (messages_of allowed (message ++ tail) ≡ message ∷ messages_of allowed tail) × (rest_of allowed (message ++ tail) ≡ rest_of allowed tail)
first_message allowed message tail is =
    let only = cuts_only allowed (message ++ tail) (message ∷ messages_of allowed tail) (rest_of allowed tail)
    (one_more {A = List ℕ} (λ message. message) (IsMessage allowed) message tail (messages_of allowed tail) (rest_of allowed tail) is (cuts_of allowed tail)) in
    (sym only.0, sym only.1)

-- ---- pieces

pub each_append : (allowed : Allowed) (xs ys : List (List ℕ)) → AllByRecursion (IsMessage allowed) xs → AllByRecursion (IsMessage allowed) ys → AllByRecursion (IsMessage allowed) (xs ++ ys)
each_append allowed [] ys first then = then
each_append allowed (x ∷ xs) ys first then = (first.0, each_append allowed xs ys first.1 then)

-- more octets go behind the rest
pub pieces_join : (allowed : Allowed) (octets more : List ℕ)
    → (messages_of allowed (octets ++ more) ≡ messages_of allowed octets ++ messages_of allowed (rest_of allowed octets ++ more))
    × (rest_of allowed (octets ++ more) ≡ rest_of allowed (rest_of allowed octets ++ more))
pieces_join allowed octets more =
    let first = cuts_of allowed octets in
    let then = cuts_of allowed (rest_of allowed octets ++ more) in
    let joined = λ (messages : List (List ℕ)). flat_map (λ (message : List ℕ). message) messages in
    let one : List ℕ = joined (messages_of allowed octets) in
    let two : List ℕ = joined (messages_of allowed (rest_of allowed octets ++ more)) in
    let only = cuts_only allowed (octets ++ more) (messages_of allowed octets ++ messages_of allowed (rest_of allowed octets ++ more)) (rest_of allowed (rest_of allowed octets ++ more)) (record {
      whole = ap (λ xs. xs ++ more) first.whole ∙ append_assoc one _ more ∙ ap (λ xs. one ++ xs) then.whole ∙ sym (append_assoc one two _)
          ∙ ap (λ xs. xs ++ rest_of allowed (rest_of allowed octets ++ more)) (sym (flat_map-append (λ (message : List ℕ). message) (messages_of allowed octets) (messages_of allowed (rest_of allowed octets ++ more))));
      each = each_append allowed (messages_of allowed octets) (messages_of allowed (rest_of allowed octets ++ more)) first.each then.each;
      stops = then.stops;
    }) in
    (sym only.0, sym only.1)

-- ---- what is heard

pub hears_of : (allowed : Allowed) (octets : List ℕ) → Hears allowed octets (heard_of allowed octets)
hears_of allowed octets = record { messages = messages_of allowed octets; rest = rest_of allowed octets; cut = cuts_of allowed octets; are = refl }

pub hears_only : (allowed : Allowed) (octets : List ℕ) (heard : List (Result (List ℕ) HeaderFault)) → Hears allowed octets heard → heard ≡ heard_of allowed octets
hears_only allowed octets heard hears =
    let only = cuts_only allowed octets hears.messages hears.rest hears.cut in
    hears.are ∙ (λ i. map Ok (only.0 i) ++ header_fault_of allowed (only.1 i))

-- ---- one octet more

abbrev Grows : Allowed → List ℕ → Type 0
Grows allowed grown =
    (IsMessage allowed grown × (messages_of allowed grown ≡ grown ∷ []) × (rest_of allowed grown ≡ []))
    ⊎ ((messages_of allowed grown ≡ []) × (rest_of allowed grown ≡ grown))

-- octets that are found to begin with no message begin with none
pub none_found : (allowed : Allowed) (octets : List ℕ) → message_length allowed octets ≡ 0 → BeginsNoMessage allowed octets
none_found allowed octets e message after is here =
    absurd (omega (arith, is.0, sym (found allowed message after is) ∙ ap (message_length allowed) (sym here) ∙ e))

-- a rest that grows by an octet is one message, or begins with none
rest_grows : (allowed : Allowed) (rest : List ℕ) (octet : ℕ) → BeginsNoMessage allowed rest → Grows allowed (rest ++ octet ∷ [])
rest_grows allowed rest octet stops = by_length (message_length allowed grown) refl
  where
    grown : List ℕ
    grown = rest ++ octet ∷ []

    by_room : (n : ℕ) (short : Bool) → Stands allowed (rest ++ octet ∷ []) n → nat_lt n (length (rest ++ octet ∷ [])) ≡ short → IsMessage allowed (rest ++ octet ∷ [])
    by_room n true it e =
        let fits : n ≤ length rest = omega (arith, ltb-true _ _ e, length-append rest (octet ∷ [])) in
        let front : take n (rest ++ octet ∷ []) ≡ take n rest = take-append-le n rest (octet ∷ []) fits in
        absurd (stops (take n rest) (drop n rest) (subst (IsMessage allowed) front it.is) (sym (take-append-drop n rest)))
    by_room n false it e =
        let room : n ≤ length (rest ++ octet ∷ []) = it.room in
        let all : n ≡ length (rest ++ octet ∷ []) = omega (arith, ltb-false _ _ e) in
        subst (IsMessage allowed) (ap (λ n. take n (rest ++ octet ∷ [])) all ∙ take-length (rest ++ octet ∷ [])) it.is

    by_length : (n : ℕ) → message_length allowed (rest ++ octet ∷ []) ≡ n → Grows allowed (rest ++ octet ∷ [])
    by_length zero e = inr (stops_are allowed grown (none_found allowed grown e))
    by_length (suc n) e =
        let is : IsMessage allowed grown = by_room (suc n) (nat_lt (suc n) (length grown)) (stands allowed grown n e) refl in
        let first = first_message allowed grown [] is in
        let alone : grown ++ [] ≡ grown = append-nil grown in
        inl (is, ap (messages_of allowed) (sym alone) ∙ first.0, ap (rest_of allowed) (sym alone) ∙ first.1)

-- so is what octets leave
pub octet_by_octet : (allowed : Allowed) (octets : List ℕ) (octet : ℕ) → GrowsBy allowed octets octet
octet_by_octet allowed octets octet =
    let joined = pieces_join allowed octets (octet ∷ []) in
    let grown : List ℕ = rest_of allowed octets ++ octet ∷ [] in
    elim (rest_grows allowed (rest_of allowed octets) octet (cuts_of allowed octets).stops) [
      | inl is ↦ inl (is.0, joined.0 ∙ ap (λ ms. messages_of allowed octets ++ ms) is.1, joined.1 ∙ is.2)
      | inr is ↦ inr (joined.0 ∙ ap (λ ms. messages_of allowed octets ++ ms) is.0 ∙ append-nil (messages_of allowed octets), joined.1 ∙ is.1)
    ]

-- a message alone is cut off, and nothing is left
pub alone : (allowed : Allowed) (message : List ℕ) → IsMessage allowed message → (messages_of allowed message ≡ message ∷ []) × (rest_of allowed message ≡ [])
alone allowed message is =
    let first = first_message allowed message [] is in
    let itself : message ++ [] ≡ message = append-nil message in
    (ap (messages_of allowed) (sym itself) ∙ first.0, ap (rest_of allowed) (sym itself) ∙ first.1)

pub heard_alone : (allowed : Allowed) (message : List ℕ) → IsMessage allowed message → heard_of allowed message ≡ Ok message ∷ []
heard_alone allowed message is =
    let only = alone allowed message is in
    λ i. map Ok (only.0 i) ++ header_fault_of allowed (only.1 i)
