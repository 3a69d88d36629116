-- The longest front that a message has room for is as many prefixes as fit.
use Rattle.std.proofs.Common.{◌≡◌, ◌<◌, ◌≤◌, ◌+◌, ◌-◌, ℕ, zero, suc, Bool, true, false, List, [], ◌∷◌, length, take, nat_le, if◌then◌else◌, length-append, refl, ap, subst, arith}
use Rattle.std.proofs.lemmas.Bool.Decides.{nat_tests}
use Rattle.std.proofs.lemmas.Bool.{leb-true, leb-false}
use Rattle.rs_octets.specs.Prefixes.{Prefix}
use Rattle.rs_octets.specs.PrefixFields.{prefix_octets}
use Rattle.rs_attrs.specs.declared.mode.Mode.{Mode}
use Rattle.rs_attrs.specs.Meaning.{Attribute}
use Rattle.rs_attrs.specs.Writing.{spelt}
use Rattle.rs_packer.specs.Packed.{announcement, withdrawal, prefixes_octets, IsLongestFront, fitting, announced_fit, withdrawn_fit}
use Rattle.rs_packer.specs.Parts.{prefix_size}
use Rattle.rs_packer.proofs.Announcing.{update_length}
use Rattle.rs_packer.proofs.Withdrawing.{withdrawal_length}

longer : (p : Prefix) (ps : List Prefix) → length (prefixes_octets (p ∷ ps)) ≡ prefix_size p + length (prefixes_octets ps)
longer p ps = length-append (prefix_octets p) (prefixes_octets ps)

-- ---- there is one

record Fits (room : ℕ) (ps : List Prefix) (n : ℕ) : Type 0 where
  within : n ≤ length ps
  fits : length (prefixes_octets (take n ps)) ≤ room
  full : n < length ps → room < length (prefixes_octets (take (n + 1) ps))

abbrev fitting_by : Bool → ℕ → ℕ
fitting_by fits n = if fits then suc n else 0

fitting_fits : (room : ℕ) (ps : List Prefix) → Fits room ps (fitting room ps)
fitting_fits room [] = record { within = omega arith; fits = omega arith; full = λ l. absurd (omega (arith, l)) }
fitting_fits room (p ∷ ps) = by_test (nat_le (prefix_size p) room) refl (fitting_fits (room - prefix_size p) ps)
  where
    n : ℕ
    n = fitting (room - prefix_size p) ps

    by_test : (b : Bool) → nat_le (prefix_size p) room ≡ b → Fits (room - prefix_size p) ps (fitting (room - prefix_size p) ps) → Fits room (p ∷ ps) (fitting_by b (fitting (room - prefix_size p) ps))
    by_test false e later = record {
      within = omega arith;
      fits = omega arith;
      full = λ l. omega (arith, leb-false _ _ e, longer p []);
    }
    by_test true e later =
        let some : prefix_size p ≤ room = leb-true (prefix_size p) room e in record {
          within = omega (arith, later.within);
          fits = omega (arith, later.fits, some, longer p (take n ps));
          full = λ l.
              let next : suc (n + 1) ≡ suc n + 1 = omega arith in
              subst (λ k. room < length (prefixes_octets (take k (p ∷ ps)))) next
              (omega (arith, later.full (omega (arith, l)), some, longer p (take (n + 1) ps)));
        }

-- ---- it is the one

fitting_only : (room : ℕ) (ps : List Prefix) (n : ℕ) → n ≤ length ps → length (prefixes_octets (take n ps)) ≤ room
    → (n < length ps → room < length (prefixes_octets (take (n + 1) ps))) → n ≡ fitting room ps
fitting_only room [] n within fits full = omega (arith, within)
fitting_only room (p ∷ ps) zero within fits full =
    let one : length (prefixes_octets (p ∷ [])) ≡ prefix_size p + 0 = longer p [] in
    let over : room < length (prefixes_octets (p ∷ [])) = full (omega arith) in
    let more : room < prefix_size p = omega (arith, one, over) in
    let no : nat_le (prefix_size p) room ≡ false = grind (arith, nat_tests, more) in
    rw no refl
fitting_only room (p ∷ ps) (suc n) within fits full =
    let all : length (prefixes_octets (p ∷ take n ps)) ≡ prefix_size p + length (prefixes_octets (take n ps)) = longer p (take n ps) in
    let some : prefix_size p ≤ room = omega (arith, all, fits) in
    let yes : nat_le (prefix_size p) room ≡ true = grind (arith, nat_tests, some) in
    let rest : n ≡ fitting (room - prefix_size p) ps =
    fitting_only (room - prefix_size p) ps n (omega (arith, within)) (omega (arith, all, fits)) (λ l.
    let next : suc n + 1 ≡ suc (n + 1) = omega arith in
    let over : room < length (prefixes_octets (p ∷ take (n + 1) ps)) = subst (λ k. room < length (prefixes_octets (take k (p ∷ ps)))) next (full (omega (arith, l))) in
    omega (arith, over, longer p (take (n + 1) ps), some)) in
    rw yes (ap suc rest)

-- ---- of announcements

pub announced_front_is : (m : List Attribute) (mode : Mode) (limit : ℕ) (ps : List Prefix) → length (announcement m mode []) ≤ limit
    → IsLongestFront (announcement m mode) limit ps (announced_fit m mode limit ps)
announced_front_is m mode limit ps room =
    let a : List ℕ = spelt m mode in
    let n : ℕ = announced_fit m mode limit ps in
    let none = update_length a [] in
    let is = fitting_fits (limit - (23 + length a)) ps in record {
      within = is.within;
      fits = omega (arith, is.fits, none, room, update_length a (take n ps));
      full = λ l. omega (arith, is.full l, none, room, update_length a (take (n + 1) ps));
    }

pub announced_front_is_only : (m : List Attribute) (mode : Mode) (limit : ℕ) (ps : List Prefix) (n : ℕ) → IsLongestFront (announcement m mode) limit ps n
    → n ≡ announced_fit m mode limit ps
announced_front_is_only m mode limit ps n is =
    let a : List ℕ = spelt m mode in
    let size = update_length a (take n ps) in
    let next = update_length a (take (n + 1) ps) in
    fitting_only (limit - (23 + length a)) ps n is.within (omega (arith, is.fits, size)) (λ l. omega (arith, is.full l, is.fits, size, next))

-- ---- of withdrawals

pub withdrawn_front_is : (limit : ℕ) (ps : List Prefix) → length (withdrawal []) ≤ limit → IsLongestFront withdrawal limit ps (withdrawn_fit limit ps)
withdrawn_front_is limit ps room =
    let n : ℕ = withdrawn_fit limit ps in
    let none = withdrawal_length [] in
    let is = fitting_fits (limit - 23) ps in record {
      within = is.within;
      fits = omega (arith, is.fits, none, room, withdrawal_length (take n ps));
      full = λ l. omega (arith, is.full l, none, room, withdrawal_length (take (n + 1) ps));
    }

pub withdrawn_front_is_only : (limit : ℕ) (ps : List Prefix) (n : ℕ) → IsLongestFront withdrawal limit ps n → n ≡ withdrawn_fit limit ps
withdrawn_front_is_only limit ps n is =
    let size = withdrawal_length (take n ps) in
    let next = withdrawal_length (take (n + 1) ps) in
    fitting_only (limit - 23) ps n is.within (omega (arith, is.fits, size)) (λ l. omega (arith, is.full l, is.fits, size, next))
