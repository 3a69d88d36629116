-- The prefixes listed for a message are those of all slots that pass a test, as many as there is room for; and what is the longest front
-- of them that fits is the longest front of all.
use Rattle.std.proofs.Common.{◌≡◌, ◌+◌, ◌<◌, ◌≤◌, ◌⊎◌, ℕ, zero, suc, Bool, true, false, cond, List, [], ◌∷◌, length, take, get_or, length-append, sym, ap, ◌∙◌, subst, arith, inl, inr}
use Rattle.std.specs.List.{HoldsAt}
use Rattle.std.proofs.lemmas.Bool.{cases_lt}
use Rattle.std.proofs.lemmas.List.{get_or_default, length-take-le, take-take}
use Rattle.rs_octets.specs.Prefixes.{Prefix}
use Rattle.rs_octets.specs.PrefixFields.{prefix_octets}
use Rattle.rs_attrs.specs.declared.mode.Mode.{Mode}
use Rattle.rs_attrs.specs.Meaning.{Attribute}
use Rattle.rs_attrs.specs.Writing.{spelt}
use Rattle.rs_packer.specs.Packed.{announcement, withdrawal, prefixes_octets, IsLongestFront}
use Rattle.rs_packer.proofs.Announcing.{update_length}
use Rattle.rs_packer.proofs.Withdrawing.{withdrawal_length}
use Rattle.rs_outlet.specs.declared.waiting.Wait.{Wait}
use Rattle.rs_outlet.specs.Pending.Slots.{prefixes_at}
use Rattle.rs_outlet.specs.Pending.Choosing.{passing}
use Rattle.rs_outlet.specs.Message.Next.{AreAsManyAsFit}

-- ---- lists

taken : {A : Type 0} (n : ℕ) (xs : List A) → (length (take n xs) ≤ n) × (length (take n xs) ≤ length xs) × (length (take n xs) < n → length xs ≤ length (take n xs))
taken zero xs = (omega arith, omega arith, λ h. absurd (omega (arith, h)))
taken (suc n) [] = (omega arith, omega arith, λ h. omega arith)
taken (suc n) (x ∷ xs) = let r = taken n xs in (omega (arith, r.0), omega (arith, r.1), λ h. let s : length xs ≤ length (take n xs) = r.2 (omega (arith, h)) in omega (arith, s))

-- ---- the slots that pass a test

pub passing_one : (test : Wait → Bool) (w : Wait) → test w ≡ true → passing test (w ∷ []) ≡ w.prefix ∷ []
passing_one test w is = ap (λ b. prefixes_at (cond b (w ∷ []) [])) is

pub passing_none : (test : Wait → Bool) (w : Wait) → test w ≡ false → passing test (w ∷ []) ≡ []
passing_none test w is = ap (λ b. prefixes_at (cond b (w ∷ []) [])) is

-- what holds of a slot that was read
pub at_slot : (P : Wait → Type 0) (ws : List Wait) (n : ℕ) (w : Wait) → n < length ws → w ≡ get_or ws n w → P w → HoldsAt P ws n
at_slot P ws n w below is p d = subst P (is ∙ get_or_default ws n w d below) p

-- ---- the longest front

-- a message has more octets than prefixes, by those of its header and its lengths
abbrev pub TakesOctets : (List Prefix → List ℕ) → Type 0
TakesOctets message = (ps : List Prefix) → 23 + length ps ≤ length (message ps)

an_octet_each : (ps : List Prefix) → length ps ≤ length (prefixes_octets ps)
an_octet_each [] = omega arith
an_octet_each (p ∷ ps) =
    let all : length (prefixes_octets (p ∷ ps)) ≡ length (prefix_octets p) + length (prefixes_octets ps) = length-append (prefix_octets p) (prefixes_octets ps) in
    omega (arith, all, an_octet_each ps)

pub withdrawals_take : TakesOctets withdrawal
withdrawals_take ps = omega (arith, withdrawal_length ps, an_octet_each ps)

pub announcements_take : (m : List Attribute) (mode : Mode) → TakesOctets (announcement m mode)
announcements_take m mode ps =
    let size : length (announcement m mode ps) ≡ 23 + length (spelt m mode) + length (prefixes_octets ps) = update_length (spelt m mode) ps in
    omega (arith, size, an_octet_each ps)

-- what is listed is more than fits, or all: fewer of them fit than were to be listed, or no message has more
pub longest_of_all : (message : List Prefix → List ℕ) (limit room : ℕ) (all ps : List Prefix) (n : ℕ) → TakesOctets message → (n < room) ⊎ (limit ≤ 23 + room) → ps ≡ take room all → IsLongestFront message limit ps n → AreAsManyAsFit message limit all (take n ps)
longest_of_all message limit room all ps n takes ends is longest =
    let sizes = taken room all in
    let long : length ps ≡ length (take room all) = ap length is in
    let same : (k : ℕ) → k ≤ room → take k ps ≡ take k all = λ k less. ap (take k) is ∙ take-take k room all less in
    let most : n ≤ room = omega (arith, longest.within, long, sizes.0) in
    let count : length (take n ps) ≡ n = length-take-le n ps longest.within in
    record {
      front = same n most ∙ ap (λ k. take k all) (sym count);
      longest = subst (IsLongestFront message limit all) (sym count) (record {
        within = omega (arith, longest.within, long, sizes.1);
        fits = subst (λ qs. length (message qs) ≤ limit) (same n most) longest.fits;
        full = λ more. elim (cases_lt n (length ps)) [
          | inl less ↦ subst (λ qs. limit < length (message qs)) (same (n + 1) (omega (arith, less, long, sizes.0))) (longest.full less)
          | inr last ↦
              let whole : room ≤ n = elim (cases_lt (length (take room all)) room) [
                | inl short ↦ absurd (let s : length all ≤ length (take room all) = sizes.2 short in omega (arith, s, last, long, more))
                | inr full ↦ omega (arith, full, long, last)
              ] in
              elim ends [
                | inl fewer ↦ absurd (omega (arith, fewer, whole))
                | inr fits ↦
                    let next : length (take (n + 1) all) ≡ n + 1 = length-take-le (n + 1) all (omega (arith, more)) in
                    omega (arith, takes (take (n + 1) all), next, whole, fits)
              ]
        ];
      });
    }
