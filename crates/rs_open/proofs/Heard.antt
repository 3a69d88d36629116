-- What is heard from an OPEN of ours.
use Rattle.std.proofs.Common.{◌≡◌, ℕ, ◌<◌, ◌^◌, lit<, cond, Bool, true, false, [], ◌++◌, Some, Result, Ok, refl, sym, ap, ◌∙◌, nat_lt, arith}
use Rattle.std.specs.Prelude.{◌==◌}
use Rattle.std.proofs.lemmas.Bool.{ltb-false, ne_eqb}
use Rattle.std.proofs.lemmas.List.{append-nil}
use Rattle.byteorder.specs.Endian.{big_number, big_bytes}
use Rattle.byteorder.specs.Numbers.{big_number-reads_back}
use Rattle.rs_open.specs.declared.open.Open.{Open}
use Rattle.rs_open.specs.declared.open.OpenFault.{OpenFault}
use Rattle.rs_open.specs.declared.open.OpenFault.TheVariants.{Hold, Identifier}
use Rattle.rs_open.specs.declared.writing.ServerOpen.{ServerOpen}
use Rattle.rs_octets.specs.HoldTimes.{is_refused_hold}
use Rattle.rs_open.specs.Opens.{when, unless, open_of}
use Rattle.rs_open.specs.Writing.{my_as_said, body_said}
use Rattle.rs_open.specs.Laws.{IsOpenToSay, heard_from}
use Rattle.rs_open.proofs.Written.{said_with}

-- the answer by the numbers that are read, where the parameters are good
abbrev answer : ℕ → ℕ → ℕ → ℕ → Bool → Result Open OpenFault
answer my_as number hold identifier long =
    unless (when (is_refused_hold hold) (Hold my_as (Some number)) ++ when (identifier == 0) (Identifier my_as (Some number)))
    (record { my_as = my_as; four = Some number; hold = hold; identifier = identifier; long = long })

abbrev read : ℕ → ℕ → ℕ
read n x = big_number n (big_bytes n x)

answer_by : (a b c : Bool) (number hold identifier : ℕ)
    → open_of (body_said (said_with a b c number hold identifier)) ≡ answer (read 2 (my_as_said number)) (read 4 number) (read 2 hold) (read 4 identifier) b
answer_by true true true number hold identifier = refl
answer_by true true false number hold identifier = refl
answer_by true false true number hold identifier = refl
answer_by true false false number hold identifier = refl
answer_by false true true number hold identifier = refl
answer_by false true false number hold identifier = refl
answer_by false false true number hold identifier = refl
answer_by false false false number hold identifier = refl

-- the numbers are read as they were written
reads : (n x : ℕ) → x < 256 ^ n → read n x ≡ x
reads n x h = ap (big_number n) (sym (append-nil (big_bytes n x))) ∙ big_number-reads_back n x [] h

my_as_fits : (number : ℕ) → my_as_said number < 256 ^ 2
my_as_fits number = by_test (nat_lt 65535 number) refl
  where
    by_test : (b : Bool) → nat_lt 65535 number ≡ b → cond b 23456 number < 256 ^ 2
    by_test true e = lit< tt
    by_test false e = omega (arith, ltb-false 65535 number e)

pub heard : (said : ServerOpen) → IsOpenToSay said → open_of (body_said said) ≡ Ok (heard_from said)
heard said is =
    let my_as = my_as_said said.server_as in
    let number : said.server_as < 256 ^ 4 = is.number in
    let hold : said.hold < 256 ^ 2 = is.hold in
    let identifier : said.identifier < 256 ^ 4 = is.identifier in
    answer_by said.multiprotocol said.extended said.refresh said.server_as said.hold said.identifier
    ∙ ap (λ x. answer x (read 4 said.server_as) (read 2 said.hold) (read 4 said.identifier) said.extended) (reads 2 my_as (my_as_fits said.server_as))
    ∙ ap (λ x. answer my_as x (read 2 said.hold) (read 4 said.identifier) said.extended) (reads 4 said.server_as number)
    ∙ ap (λ x. answer my_as said.server_as x (read 4 said.identifier) said.extended) (reads 2 said.hold hold)
    ∙ ap (λ x. answer my_as said.server_as said.hold x said.extended) (reads 4 said.identifier identifier)
    ∙ ap (λ b. unless (when b (Hold my_as (Some said.server_as)) ++ when (said.identifier == 0) (Identifier my_as (Some said.server_as))) (heard_from said)) is.good_hold
    ∙ ap (λ b. unless (when b (Identifier my_as (Some said.server_as))) (heard_from said)) (ne_eqb said.identifier 0 is.some_identifier)
