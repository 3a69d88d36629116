-- How octets are heard that come in pieces.
use Rattle.std.proofs.Common.{◌≡◌, ◌⊎◌, inl, inr, ◌≤◌, ℕ, Bool, true, false, List, [], ◌∷◌, ◌++◌, length, map, take, drop, refl, sym, ◌∙◌, ap, arith, append_assoc, length-append, nat_lt}
use Rattle.std.specs.Prelude.{Result, Ok, Err, if◌then◌else◌}
use Rattle.std.specs.List.{flat_map, AllByRecursion}
use Rattle.std.proofs.Math.Seq.{drop-append_seam}
use Rattle.std.proofs.lemmas.Bool.{le-ltb, ltb-false}
use Rattle.std.proofs.lemmas.Grind.{flat_map-append}
use Rattle.std.proofs.lemmas.List.{append-nil, map-append, drop-append-le, take-append-le}
use Rattle.rs_octets.specs.declared.heads.Allowed.{Allowed}
use Rattle.rs_octets.specs.declared.heads.Head.{Head}
use Rattle.rs_octets.specs.declared.heads.HeaderFault.{HeaderFault}
use Rattle.rs_octets.specs.Headers.{header_of}
use Rattle.rs_octets.specs.Messages.{IsMessage, header_fault, header_fault_of, length_within, messages_of, rest_of, heard_of, newly_heard}
use Rattle.rs_octets.proofs.Cut.{pieces_join, cuts_of, cuts_only, none_found, stops_are, each_append}

abbrev Heard : Type 0
Heard = List (Result (List ℕ) HeaderFault)

-- what comes later is heard of the rest and it, after the messages before
pub heard_behind : (a : Allowed) (octets more : List ℕ) → heard_of a (octets ++ more) ≡ map Ok (messages_of a octets) ++ heard_of a (rest_of a octets ++ more)
heard_behind a octets more =
    let joined = pieces_join a octets more in
    let first : Heard = map Ok (messages_of a octets) in
    let later : Heard = map Ok (messages_of a (rest_of a octets ++ more)) in
    let fault : Heard = header_fault_of a (rest_of a (rest_of a octets ++ more)) in
    (λ i. map Ok (joined.0 i) ++ header_fault_of a (joined.1 i))
    ∙ ap (λ xs. xs ++ fault) (map-append Ok (messages_of a octets) (messages_of a (rest_of a octets ++ more)))
    ∙ append_assoc first later fault

-- where no header was refused, it is all that is new
pub newly_is : (a : Allowed) (octets more : List ℕ) → header_fault_of a (rest_of a octets) ≡ [] → newly_heard a octets more ≡ heard_of a (rest_of a octets ++ more)
newly_is a octets more good =
    let first : Heard = map Ok (messages_of a octets) in
    let before : heard_of a octets ≡ first = ap (λ xs. first ++ xs) good ∙ append-nil first in
    (λ i. drop (length (before i)) (heard_behind a octets more i)) ∙ drop-append_seam first (heard_of a (rest_of a octets ++ more))

-- ---- a header that is refused

pub data Faulty (a : Allowed) (octets : List ℕ) : Type 0 where
  Bad : (fault : HeaderFault) → nat_lt (length octets) 19 ≡ false → header_of a (take 19 octets) ≡ Err fault → Faulty a octets

faulty_by : (a : Allowed) (octets : List ℕ) (short : Bool) (head : Result Head HeaderFault) → nat_lt (length octets) 19 ≡ short → header_of a (take 19 octets) ≡ head
    → (header_fault_of a octets ≡ []) ⊎ Faulty a octets
faulty_by a octets true head e h = inl (ap (λ b. if b then [] else header_fault (header_of a (take 19 octets))) e)
faulty_by a octets false (Ok head) e h = inl (ap (λ b. if b then [] else header_fault (header_of a (take 19 octets))) e ∙ ap header_fault h)
faulty_by a octets false (Err fault) e h = inr (Bad fault e h)

pub good_or_faulty : (a : Allowed) (octets : List ℕ) → (header_fault_of a octets ≡ []) ⊎ Faulty a octets
good_or_faulty a octets = faulty_by a octets (nat_lt (length octets) 19) (header_of a (take 19 octets)) refl refl

pub stays_long : (octets more : List ℕ) → nat_lt (length octets) 19 ≡ false → nat_lt (length (octets ++ more)) 19 ≡ false
stays_long octets more e = le-ltb (length (octets ++ more)) 19 (omega (arith, ltb-false _ _ e, length-append octets more))

pub same_header : (octets more : List ℕ) → nat_lt (length octets) 19 ≡ false → take 19 (octets ++ more) ≡ take 19 octets
same_header octets more e = take-append-le 19 octets more (omega (arith, ltb-false _ _ e))

-- nothing is heard of its octets but the fault, and they are left
pub faulty_is : (a : Allowed) (octets : List ℕ) (fault : HeaderFault) → nat_lt (length octets) 19 ≡ false → header_of a (take 19 octets) ≡ Err fault
    → (messages_of a octets ≡ []) × (rest_of a octets ≡ octets) × (header_fault_of a octets ≡ Err fault ∷ [])
faulty_is a octets fault e bad =
    let length_is = ap (λ b. if b then 0 else length_within octets (header_of a (take 19 octets))) e ∙ ap (length_within octets) bad in
    let none = stops_are a octets (none_found a octets length_is) in
    (none.0, none.1, ap (λ b. if b then [] else header_fault (header_of a (take 19 octets))) e ∙ ap header_fault bad)

pub faulty_heard : (a : Allowed) (octets : List ℕ) (fault : HeaderFault) → nat_lt (length octets) 19 ≡ false → header_of a (take 19 octets) ≡ Err fault → heard_of a octets ≡ Err fault ∷ []
faulty_heard a octets fault e bad =
    let is = faulty_is a octets fault e bad in
    (λ i. map Ok (is.0 i) ++ header_fault_of a (is.1 i)) ∙ is.2

-- after it nothing is heard
heard_again : (a : Allowed) (octets more : List ℕ) → Faulty a (rest_of a octets) → heard_of a (octets ++ more) ≡ heard_of a octets
heard_again a octets more (Bad fault e bad) =
    let rest : List ℕ = rest_of a octets in
    let first : Heard = map Ok (messages_of a octets) in
    let now : heard_of a (rest ++ more) ≡ Err fault ∷ [] = faulty_heard a (rest ++ more) fault (stays_long rest more e) (ap (header_of a) (same_header rest more e) ∙ bad) in
    let before : header_fault_of a rest ≡ Err fault ∷ [] = ap (λ b. if b then [] else header_fault (header_of a (take 19 rest))) e ∙ ap header_fault bad in
    heard_behind a octets more ∙ (λ i. first ++ now i) ∙ (λ i. first ++ sym before i)

nothing_new : (a : Allowed) (octets more : List ℕ) → Faulty a (rest_of a octets) → newly_heard a octets more ≡ []
nothing_new a octets more bad =
    let heard : Heard = heard_of a octets in
    ap (drop (length heard)) (heard_again a octets more bad ∙ sym (append-nil heard)) ∙ drop-append_seam heard []

pub nothing_behind_a_fault : (a : Allowed) (octets more : List ℕ) (fault : HeaderFault) → header_fault_of a (rest_of a octets) ≡ Err fault ∷ [] → newly_heard a octets more ≡ []
nothing_behind_a_fault a octets more fault is = elim (good_or_faulty a (rest_of a octets)) [
  | inl good ↦ absurd (let e : Err fault ∷ [] ≡ [] = sym is ∙ good in cc)
  | inr bad ↦ nothing_new a octets more bad
]

-- ---- pieces

-- what was heard stays heard: what is new is heard after it
pub heard_grows : (a : Allowed) (octets more : List ℕ) → heard_of a (octets ++ more) ≡ heard_of a octets ++ newly_heard a octets more
heard_grows a octets more = elim (good_or_faulty a (rest_of a octets)) [
  | inl good ↦
      let first : Heard = map Ok (messages_of a octets) in
      let before : heard_of a octets ≡ first = ap (λ xs. first ++ xs) good ∙ append-nil first in
      heard_behind a octets more ∙ (λ i. sym before i ++ sym (newly_is a octets more good) i)
  | inr bad ↦ heard_again a octets more bad ∙ sym (append-nil (heard_of a octets)) ∙ ap (λ xs. heard_of a octets ++ xs) (sym (nothing_new a octets more bad))
]

-- two pieces are heard as one
pub newly_joined : (a : Allowed) (before first later : List ℕ) → newly_heard a before (first ++ later) ≡ newly_heard a before first ++ newly_heard a (before ++ first) later
newly_joined a before first later =
    let n : ℕ = length (heard_of a before) in
    let short : n ≤ length (heard_of a (before ++ first)) = omega (arith, ap length (heard_grows a before first), length-append (heard_of a before) (newly_heard a before first)) in
    ap (λ l. drop n (heard_of a l)) (sym (append_assoc before first later))
    ∙ ap (drop n) (heard_grows a (before ++ first) later)
    ∙ drop-append-le n (heard_of a (before ++ first)) (newly_heard a (before ++ first) later) short

-- messages one after the other are heard one by one
pub heard_one_by_one : (a : Allowed) (messages : List (List ℕ)) (more : List ℕ) → AllByRecursion (IsMessage a) messages
    → heard_of a (flat_map (λ message. message) messages ++ more) ≡ map Ok messages ++ heard_of a more
heard_one_by_one a messages more each =
    let joined = λ (messages : List (List ℕ)). flat_map (λ (message : List ℕ). message) messages in
    let others = cuts_of a more in
    let only = cuts_only a (joined messages ++ more) (messages ++ messages_of a more) (rest_of a more) (record {
      whole = ap (λ xs. joined messages ++ xs) others.whole ∙ sym (append_assoc (joined messages) (joined (messages_of a more)) (rest_of a more))
          ∙ ap (λ xs. xs ++ rest_of a more) (sym (flat_map-append (λ (message : List ℕ). message) messages (messages_of a more)));
      each = each_append a messages (messages_of a more) each others.each;
      stops = others.stops;
    }) in
    (λ i. map Ok (sym only.0 i) ++ header_fault_of a (sym only.1 i))
    ∙ ap (λ xs. xs ++ header_fault_of a (rest_of a more)) (map-append Ok messages (messages_of a more))
    ∙ append_assoc (map Ok messages) (map Ok (messages_of a more)) (header_fault_of a (rest_of a more))
