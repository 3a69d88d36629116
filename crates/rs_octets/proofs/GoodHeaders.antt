-- A message whose length is one of its type has a good header, and is one of that type.
use Rattle.std.proofs.Common.{◌≡◌, ℕ, ◌+◌, ◌≤◌, Bool, true, false, cond, List, length, take, refl, sym, ap, ◌∙◌, subst, arith}
use Rattle.std.specs.Prelude.{◌&&◌, Some, Result, Ok, Err, IsOkAnd}
use Rattle.std.specs.Int.{is_in_range}
use Rattle.std.proofs.lemmas.Bool.{le-leb}
use Rattle.std.proofs.lemmas.Nat.{from_be_bytes-to_be_bytes_2}
use Rattle.rs_octets.specs.declared.heads.Allowed.{Allowed}
use Rattle.rs_octets.specs.declared.heads.Head.{Head}
use Rattle.rs_octets.specs.declared.heads.HeaderFault.{HeaderFault}
use Rattle.rs_octets.specs.declared.heads.HeaderFault.TheVariants as faults
use Rattle.rs_octets.specs.declared.heads.Kind.{Kind}
use Rattle.rs_octets.specs.declared.heads.Kind.TheVariants.{Open, Update, Note, Keepalive, Refresh}
use Rattle.rs_octets.specs.Headers.{header_of, header_octets, head_of_type, kind_numbered, longest, least_length, greatest_length, type_number}
use Rattle.rs_octets.specs.Messages.{IsMessage, IsMessageOf, message_octets}

pub longest_least : (long : Bool) → 4096 ≤ cond long 65535 4096
longest_least true = omega arith
longest_least false = omega arith

pub longest_most : (long : Bool) → cond long 65535 4096 ≤ 65535
longest_most true = omega arith
longest_most false = omega arith

-- a header is no longer than the shortest message of its type
pub least_is_a_header : (kind : Kind) → 19 ≤ least_length kind
least_is_a_header Open = omega arith
least_is_a_header Update = omega arith
least_is_a_header Note = omega arith
least_is_a_header Keepalive = omega arith
least_is_a_header Refresh = omega arith

-- and no type has longer messages than any message may be
pub greatest_is_allowed : (allowed : Allowed) (kind : Kind) → greatest_length allowed kind ≤ longest allowed
greatest_is_allowed allowed Open = longest_least allowed.long
greatest_is_allowed allowed Update = omega arith
greatest_is_allowed allowed Note = omega arith
greatest_is_allowed allowed Keepalive = omega (arith, longest_least allowed.long)
greatest_is_allowed allowed Refresh = omega (arith, longest_least allowed.long)

pub in_range : (least greatest n : ℕ) → least ≤ n → n ≤ greatest → is_in_range least greatest n ≡ true
in_range least greatest n h k = λ i. le-leb least n h i && le-leb n greatest k i

-- the check of the length by that of any message, before the last checks
abbrev checked : Bool → Result Head HeaderFault → ℕ → Result Head HeaderFault
checked any last len = cond any last (Err (faults.Length len))

pub good_header : (allowed : Allowed) (kind : Kind) (total : ℕ) → kind_numbered allowed (type_number kind) ≡ Some kind
    → least_length kind ≤ total → total ≤ greatest_length allowed kind → header_of allowed (header_octets total kind) ≡ Ok (record { length = total; kind = kind })
good_header allowed kind total known from to =
    let some : 19 ≤ total = omega (arith, least_is_a_header kind) in
    let fits : total ≤ longest allowed = omega (arith, greatest_is_allowed allowed kind) in
    let same = from_be_bytes-to_be_bytes_2 total (let most = longest_most allowed.long in omega (arith, fits)) in
    ap (λ len. checked (is_in_range 19 (longest allowed) len) (head_of_type allowed (kind_numbered allowed (type_number kind)) len (type_number kind)) len) same
    ∙ (λ i. checked (in_range 19 (longest allowed) total some fits i) (head_of_type allowed (known i) total (type_number kind)) total)
    ∙ ap (λ b. cond b (Ok (record { length = total; kind = kind })) (Err (faults.Length total))) (in_range (least_length kind) (greatest_length allowed kind) total from to)

-- what we write with such a length is a message of its type
pub written_is_message : (allowed : Allowed) (kind : Kind) (body : List ℕ) → kind_numbered allowed (type_number kind) ≡ Some kind
    → least_length kind ≤ 19 + length body → 19 + length body ≤ greatest_length allowed kind → IsMessageOf allowed kind (message_octets kind body)
written_is_message allowed kind body known from to =
    let size : 19 + length body ≡ length (message_octets kind body) = omega arith in
    let good = good_header allowed kind (19 + length body) known from to in
    (omega arith, good ∙ (λ i. Ok (record { length = size i; kind = kind })))

-- a message has a type, and what has a type is one
pub of_type_is : (allowed : Allowed) (kind : Kind) (message : List ℕ) → IsMessageOf allowed kind message → IsMessage allowed message
of_type_is allowed kind message is = (is.0, subst (λ r. IsOkAnd r (λ head. head.length ≡ length message)) (sym is.1) refl)

pub has_type : (allowed : Allowed) (message : List ℕ) → IsMessage allowed message → (kind : Kind) × IsMessageOf allowed kind message
has_type allowed message is = by_header (header_of allowed (take 19 message)) refl is.1
  where
    by_header : (r : Result Head HeaderFault) → header_of allowed (take 19 message) ≡ r → IsOkAnd r (λ head. head.length ≡ length message)
        → (kind : Kind) × IsMessageOf allowed kind message
    by_header (Ok head) e same = (head.kind, (is.0, e ∙ (λ i. Ok (record { length = same i; kind = head.kind }))))
    by_header (Err fault) e same = absurd same
