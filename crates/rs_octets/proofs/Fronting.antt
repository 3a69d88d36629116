-- What stands at the front of octets, and what is heard of them by it.
use Rattle.std.proofs.Common.{◌≡◌, ◌<◌, ◌≤◌, ◌+◌, ◌-◌, ℕ, Bool, true, false, List, [], ◌∷◌, ◌++◌, length, map, take, drop, refl, sym, ◌∙◌, ap, subst, arith, nat_lt, length-append}
use Rattle.std.specs.Prelude.{Result, Ok, Err, if◌then◌else◌}
use Rattle.std.proofs.lemmas.Bool.{le-ltb, lt-ltb}
use Rattle.std.proofs.lemmas.List.{length-drop, length-take-le, take-append-drop, take-append-le}
use Rattle.rs_octets.specs.declared.heads.Allowed.{Allowed}
use Rattle.rs_octets.specs.declared.heads.Head.{Head}
use Rattle.rs_octets.specs.declared.heads.HeaderFault.{HeaderFault}
use Rattle.rs_octets.specs.declared.heads.Kind.{Kind}
use Rattle.rs_octets.specs.Headers.{header_of, least_length}
use Rattle.rs_octets.specs.Messages.{IsMessageOf, header_fault, header_fault_of, length_within, message_length, messages_of, rest_of, heard_of}
use Rattle.rs_octets.specs.Fronts.{BeginsWith, BeginsFaulty, Wants, wanted_by}
use Rattle.rs_octets.proofs.Cut.{first_message, header_long, none_found, stops_are}
use Rattle.rs_octets.proofs.GoodHeaders.{least_is_a_header, of_type_is}
use Rattle.rs_octets.proofs.Pieces.{faulty_is, faulty_heard, same_header, stays_long}

-- ---- what the code finds there

front_is_message : (a : Allowed) (octets front : List ℕ) (head : Head) → 19 ≤ length octets → front ≡ take 19 octets → header_of a front ≡ Ok head → head.length ≤ length octets
    → IsMessageOf a head.kind (take head.length octets)
front_is_message a octets front head long is good room =
    let message : List ℕ = take head.length octets in
    let some : 19 ≤ head.length = header_long a front head good in
    let size : length message ≡ head.length = length-take-le head.length octets room in
    let first : take 19 message ≡ front =
    sym (take-append-le 19 message (drop head.length octets) (omega (arith, some, size))) ∙ ap (take 19) (take-append-drop head.length octets) ∙ sym is in
    (omega (arith, some, size), ap (header_of a) first ∙ good ∙ (λ i. Ok (record { length = sym size i; kind = head.kind })))

pub message_begins : (a : Allowed) (octets front message body rest : List ℕ) (head : Head) (n : ℕ) → 19 ≤ length octets → front ≡ take 19 octets → header_of a front ≡ Ok head → n ≡ head.length → n ≤ length octets
    → message ≡ take n octets → body ≡ drop 19 message → rest ≡ drop n octets → BeginsWith a octets head.kind body rest
message_begins a octets front message body rest head n long is good size room taken behind left =
    let same : take head.length octets ≡ message = ap (λ n. take n octets) (sym size) ∙ sym taken in record {
      message = message;
      is = subst (IsMessageOf a head.kind) same (front_is_message a octets front head long is good (omega (arith, size, room)));
      body_is = behind;
      whole = sym (take-append-drop n octets) ∙ (λ i. sym taken i ++ sym left i);
    }

-- its parts are as long as the octets
pub message_sizes : (kind : Kind) (octets message body rest : List ℕ) (n : ℕ) → least_length kind ≤ n → length message ≡ n → body ≡ drop 19 message → length rest + n ≡ length octets
    → (least_length kind ≤ 19 + length body) × (19 + length body + length rest ≡ length octets)
message_sizes kind octets message body rest n enough size behind left =
    let long : 19 ≤ n = omega (arith, least_is_a_header kind, enough) in
    let short : length body ≡ n - 19 = ap length behind ∙ length-drop 19 message ∙ ap (λ n. n - 19) size in
    (omega (arith, long, short, enough), omega (arith, long, short, left))

-- ---- what is heard by it

pub message_in_front : (a : Allowed) (octets : List ℕ) (kind : Kind) (body rest : List ℕ) (at : BeginsWith a octets kind body rest)
    → (heard_of a octets ≡ Ok at.message ∷ heard_of a rest) × (messages_of a octets ≡ at.message ∷ messages_of a rest) × (rest_of a octets ≡ rest_of a rest)
message_in_front a octets kind body rest at =
    let first = first_message a at.message rest (of_type_is a kind at.message at.is) in
    let messages : messages_of a octets ≡ at.message ∷ messages_of a rest = ap (messages_of a) at.whole ∙ first.0 in
    let left : rest_of a octets ≡ rest_of a rest = ap (rest_of a) at.whole ∙ first.1 in
    ((λ i. map Ok (messages i) ++ header_fault_of a (left i)), messages, left)

pub fault_in_front : (a : Allowed) (octets : List ℕ) (fault : HeaderFault) → BeginsFaulty a octets fault
    → (heard_of a octets ≡ Err fault ∷ []) × (rest_of a octets ≡ octets)
fault_in_front a octets fault at =
    let long : nat_lt (length octets) 19 ≡ false = le-ltb (length octets) 19 at.0 in
    (faulty_heard a octets fault long at.1, (faulty_is a octets fault long at.1).1)

no_message : (a : Allowed) (octets : List ℕ) (n : ℕ) → Wants a octets n → (message_length a octets ≡ 0) × (header_fault_of a octets ≡ [])
no_message a octets n wants = by_tests (nat_lt (length octets) 19) (header_of a (take 19 octets)) refl refl wants.1
  where
    by_tests : (short : Bool) (head : Result Head HeaderFault) → nat_lt (length octets) 19 ≡ short → header_of a (take 19 octets) ≡ head
        → n ≡ (if short then 19 - length octets else wanted_by (length octets) head) → (message_length a octets ≡ 0) × (header_fault_of a octets ≡ [])
    by_tests true head e h is = (
      ap (λ b. if b then 0 else length_within octets (header_of a (take 19 octets))) e,
      ap (λ b. if b then [] else header_fault (header_of a (take 19 octets))) e,
    )
    by_tests false (Err fault) e h is = absurd (omega (arith, is, wants.0))
    by_tests false (Ok head) e h is =
        let part : nat_lt (length octets) head.length ≡ true = lt-ltb (length octets) head.length (omega (arith, is, wants.0)) in (
          ap (λ b. if b then 0 else length_within octets (header_of a (take 19 octets))) e ∙ ap (length_within octets) h ∙ ap (λ b. if b then 0 else head.length) part,
          ap (λ b. if b then [] else header_fault (header_of a (take 19 octets))) e ∙ ap header_fault h,
        )

-- nothing is heard of the beginning of a message, and it is left
pub waits : (a : Allowed) (octets : List ℕ) (n : ℕ) → Wants a octets n → (heard_of a octets ≡ []) × (rest_of a octets ≡ octets) × (header_fault_of a octets ≡ [])
waits a octets n wants =
    let none = no_message a octets n wants in
    let is = stops_are a octets (none_found a octets none.0) in
    ((λ i. map Ok (is.0 i) ++ header_fault_of a (is.1 i)) ∙ none.1, is.1, none.1)

-- and with fewer octets more than are wanted it still waits, for those that are missing
pub still_waits : (a : Allowed) (octets more : List ℕ) (n : ℕ) → Wants a octets n → length more < n → Wants a (octets ++ more) (n - length more)
still_waits a octets more n wants fewer = by_tests (nat_lt (length octets) 19) (header_of a (take 19 octets)) refl refl wants.1
  where
    by_tests : (short : Bool) (head : Result Head HeaderFault) → nat_lt (length octets) 19 ≡ short → header_of a (take 19 octets) ≡ head
        → n ≡ (if short then 19 - length octets else wanted_by (length octets) head) → Wants a (octets ++ more) (n - length more)
    by_tests true head e h is =
        let short : nat_lt (length (octets ++ more)) 19 ≡ true = lt-ltb (length (octets ++ more)) 19 (omega (arith, is, fewer, length-append octets more)) in
        let left : n - length more ≡ 19 - length (octets ++ more) = omega (arith, is, fewer, length-append octets more) in
        (omega (arith, fewer), left ∙ sym (ap (λ b. if b then 19 - length (octets ++ more) else wanted_by (length (octets ++ more)) (header_of a (take 19 (octets ++ more)))) short))
    by_tests false (Err fault) e h is = absurd (omega (arith, is, fewer))
    by_tests false (Ok head) e h is =
        let grown : header_of a (take 19 (octets ++ more)) ≡ Ok head = ap (header_of a) (same_header octets more e) ∙ h in
        let left : n - length more ≡ head.length - length (octets ++ more) = omega (arith, is, fewer, length-append octets more) in (
          omega (arith, fewer),
          left ∙ sym (ap (λ b. if b then 19 - length (octets ++ more) else wanted_by (length (octets ++ more)) (header_of a (take 19 (octets ++ more)))) (stays_long octets more e)
              ∙ ap (wanted_by (length (octets ++ more))) grown),
        )
