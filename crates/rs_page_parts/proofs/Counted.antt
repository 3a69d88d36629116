-- UPDATEs that are counted in octets which come in pieces.
use Rattle.std.proofs.Common.{◌≡◌, ℕ, ◌+◌, ◌-◌, ◌<◌, ◌≤◌, ◌==◌, Bool, true, false, cond, List, [], ◌∷◌, ◌++◌, length, take, drop, refl, sym, ap, subst, ◌∙◌, arith, nat_lt, min, length-append}
use Rattle.std.specs.Prelude.{Result, Ok, Err, IsErr, sum_by}
use Rattle.std.proofs.Math.Seq.{take-append_seam, take-length}
use Rattle.std.proofs.lemmas.Bool.{eqb-true, false≢true, le-ltb, ltb-false}
use Rattle.std.proofs.lemmas.List.{length-take, length-take-le, take-append-le}
use Rattle.std.proofs.lemmas.List.Sums.{sum_by-append}
use Rattle.rs_octets.specs.declared.heads.Head.{Head}
use Rattle.rs_octets.specs.declared.heads.HeaderFault.{HeaderFault}
use Rattle.rs_octets.specs.declared.heads.Kind.{Kind}
use Rattle.rs_octets.specs.Headers.{header_of, type_number}
use Rattle.rs_octets.specs.Messages.{IsMessageOf, length_within, message_length, messages_of, rest_of}
use Rattle.rs_octets.specs.Writes.{Writes}
use Rattle.rs_octets.proofs.Cut.{alone, header_long, none_found, pieces_join, stops_are}
use Rattle.rs_octets.proofs.GoodHeaders.{of_type_is}
use Rattle.rs_page_parts.specs.Updates.{any, is_update, updates_among, update_count, IsAt}
use Rattle.rs_page_parts.specs.Traffic.{greatest, IsCountOf, HasCounted}
use Rattle.rs_page_parts.specs.declared.traffic.Reading.{Reading}
use Rattle.rs_page_parts.specs.declared.traffic.Reading.TheVariants as readings
use Rattle.rs_page_parts.specs.declared.traffic.Traffic.{Traffic}

-- a piece adds the UPDATEs among the messages of the rest with it
joined : (octets part : List ℕ) → update_count (octets ++ part) ≡ update_count octets + updates_among (messages_of any (rest_of any octets ++ part))
joined octets part =
    ap updates_among (pieces_join any octets part).0
    ∙ sum_by-append (λ message. cond (is_update (header_of any (take 19 message))) 1 0) (messages_of any octets) (messages_of any (rest_of any octets ++ part))

-- ---- octets with which no message comes to its end

by_short : (octets : List ℕ) (short : Bool) → nat_lt (length octets) 19 ≡ short → length octets < 19 → cond short 0 (length_within octets (header_of any (take 19 octets))) ≡ 0
by_short octets true e lt = refl
by_short octets false e lt = absurd (omega (arith, ltb-false _ _ e))

by_room : (octets : List ℕ) (head : Head) (short : Bool) → nat_lt (length octets) head.length ≡ short → length octets < head.length → cond short 0 head.length ≡ 0
by_room octets head true e lt = refl
by_room octets head false e lt = absurd (omega (arith, ltb-false _ _ e))

long_is : (octets : List ℕ) → 19 ≤ length octets → message_length any octets ≡ length_within octets (header_of any (take 19 octets))
long_is octets long = ap (λ b. cond b 0 (length_within octets (header_of any (take 19 octets)))) (le-ltb (length octets) 19 long)

faulty : (octets : List ℕ) (r : Result Head HeaderFault) → IsErr r → length_within octets r ≡ 0
faulty octets (Ok head) e = absurd (false≢true e)
faulty octets (Err fault) e = refl

none_at : (reading : Reading) (header octets : List ℕ) → IsAt reading header octets → message_length any octets ≡ 0
none_at (readings.Header count) header octets at =
    by_short octets (nat_lt (length octets) 19) refl (omega (arith, at.0, ap length at.1, length-take count header))
none_at (readings.Body kind left) header octets at =
    long_is octets at.1 ∙ ap (length_within octets) at.2 ∙ by_room octets (record { length = length octets + left; kind = kind }) (nat_lt (length octets) (length octets + left)) refl (omega (arith, at.0))
none_at readings.Refused header octets at = long_is octets at.0 ∙ faulty octets (header_of any (take 19 octets)) at.1

pub goes_on : (before : ℕ) (octets part : List ℕ) (old new : Traffic) → IsCountOf before octets old → new.updates ≡ old.updates → IsAt new.reading new.header (rest_of any octets ++ part) → HasCounted before (octets ++ part) new
goes_on before octets part old new count same at =
    let stopped = stops_are any (rest_of any octets ++ part) (none_found any (rest_of any octets ++ part) (none_at new.reading new.header (rest_of any octets ++ part) at)) in
    let none : update_count octets ≡ update_count (octets ++ part) = let more = joined octets part ∙ ap (λ ms. update_count octets + updates_among ms) stopped.0 in omega (arith, more) in
    record {
      count = same ∙ count ∙ ap (λ n. min (before + n) greatest) none;
      reading = subst (IsAt new.reading new.header) (sym ((pieces_join any octets part).1 ∙ stopped.1)) at;
    }

-- ---- a message comes to its end

one_or_none : (b : Bool) (message : List ℕ) → sum_by (λ message. cond b 1 0) (message ∷ []) ≡ cond b 1 0
one_or_none true message = refl
one_or_none false message = refl

saturated : (before count one so_far after : ℕ) → so_far ≡ min (before + count) greatest → after ≡ min (so_far + one) greatest → after ≡ min (before + (count + one)) greatest
saturated before count one so_far after e f = omega (arith, e, f)

pub message_ends : (before : ℕ) (octets part : List ℕ) (kind : Kind) (old new : Traffic) → IsCountOf before octets old → new.updates ≡ min (old.updates + cond (type_number kind == 2) 1 0) greatest → new.reading ≡ readings.Header 0
    → IsMessageOf any kind (rest_of any octets ++ part) → HasCounted before (octets ++ part) new
message_ends before octets part kind old new count more fresh is =
    let whole : List ℕ = rest_of any octets ++ part in
    let one = alone any whole (of_type_is any kind whole is) in
    let counted : updates_among (messages_of any whole) ≡ cond (type_number kind == 2) 1 0 =
    ap updates_among one.0 ∙ ap (λ r. sum_by (λ message. cond (is_update r) 1 0) (whole ∷ [])) is.1 ∙ one_or_none (type_number kind == 2) whole in
    record {
      count = saturated before (update_count octets) (cond (type_number kind == 2) 1 0) old.updates new.updates count more
          ∙ ap (λ n. min (before + n) greatest) (sym (joined octets part ∙ ap (λ n. update_count octets + n) counted));
      reading = subst (λ r. IsAt r new.header (rest_of any (octets ++ part))) (sym fresh) (omega arith, (pieces_join any octets part).1 ∙ one.1);
    }

-- ---- a piece within a message

pub body_on : (kind : Kind) (left : ℕ) (header rest part : List ℕ) → IsAt (readings.Body kind left) header rest → length part < left → IsAt (readings.Body kind (left - length part)) header (rest ++ part)
body_on kind left header rest part at lt = (
  omega arith,
  omega (arith, at.1, length-append rest part),
  ap (header_of any) (take-append-le 19 rest part at.1) ∙ at.2 ∙ ap (λ n. Ok (record { length = n; kind = kind })) (omega (arith, length-append rest part)),
)

pub body_ends : (kind : Kind) (left : ℕ) (header rest part : List ℕ) → IsAt (readings.Body kind left) header rest → length part ≡ left → IsMessageOf any kind (rest ++ part)
body_ends kind left header rest part at e = (
  omega (arith, at.1, length-append rest part),
  ap (header_of any) (take-append-le 19 rest part at.1) ∙ at.2 ∙ ap (λ n. Ok (record { length = n; kind = kind })) (omega (arith, e, length-append rest part)),
)

pub refused_on : (header rest part : List ℕ) → IsAt readings.Refused header rest → IsAt readings.Refused header (rest ++ part)
refused_on header rest part at = (omega (arith, at.0, length-append rest part), subst (λ h. IsErr (header_of any h)) (sym (take-append-le 19 rest part at.0)) at.1)

-- ---- a piece of a header

all_taken : (xs : List ℕ) → length xs ≡ 19 → take 19 xs ≡ xs
all_taken xs e = sym (ap (λ n. take n xs) e) ∙ take-length xs

length_is : (octets header : List ℕ) → octets ≡ header → length header ≡ 19 → length octets ≡ 19
length_is octets header same size = ap length same ∙ size

pub written_front : (count : ℕ) (part old new : List ℕ) → count + length part ≤ length old → Writes count part old new → take count old ++ part ≡ take (count + length part) new
written_front count part old new room writes =
    let front : List ℕ = take count old ++ part in
    let size : count + length part ≡ length front = omega (arith, length-append (take count old) part, length-take-le count old (omega (arith, room))) in
    sym (ap (take (count + length part)) writes ∙ ap (λ n. take n (front ++ drop (count + length part) old)) size ∙ take-append_seam front (drop (count + length part) old))

-- a whole header is that of a message of which more is to come
pub header_on : (octets header : List ℕ) (head : Head) (n : ℕ) → octets ≡ header → length header ≡ 19 → header_of any header ≡ Ok head → n ≡ head.length → 19 < n → IsAt (readings.Body head.kind (n - 19)) header octets
header_on octets header head n same size e is long =
    let whole = length_is octets header same size in
    (omega arith, omega (arith, whole), ap (header_of any) (all_taken octets whole ∙ same) ∙ e ∙ ap (λ n. Ok (record { length = n; kind = head.kind })) (omega (arith, whole, is, long)))

-- or of one that is no more
pub header_ends : (octets header : List ℕ) (head : Head) → octets ≡ header → length header ≡ 19 → header_of any header ≡ Ok head → head.length ≤ 19 → IsMessageOf any head.kind octets
header_ends octets header head same size e short =
    let whole = length_is octets header same size in
    (omega (arith, whole), ap (header_of any) (all_taken octets whole ∙ same) ∙ e ∙ ap (λ n. Ok (record { length = n; kind = head.kind })) (omega (arith, whole, short, header_long any header head e)))

-- or of none
pub header_refused : (octets header : List ℕ) (fault : HeaderFault) → octets ≡ header → length header ≡ 19 → header_of any header ≡ Err fault → IsAt readings.Refused header octets
header_refused octets header fault same size e =
    let whole = length_is octets header same size in
    (omega (arith, whole), subst IsErr (sym (ap (header_of any) (all_taken octets whole ∙ same) ∙ e)) refl)

-- ---- pieces

nil_is : (xs : List ℕ) → length xs ≡ 0 → xs ≡ []
nil_is [] e = refl
nil_is (x ∷ xs) e = absurd (omega (arith, e))

pub nothing_left : (xs : List ℕ) → (length xs == 0) ≡ true → xs ≡ []
nothing_left xs e = nil_is xs (eqb-true (length xs) 0 e)
