-- What is owed after a turn is sent, by what is lent and taken alone.
use Rattle.std.proofs.Common.{◌≡◌, ◌≢◌, inl, inr, ◌⊎◌, ℕ, ◌<◌, ◌≤◌, ◌+◌, ◌==◌, Bool, true, false, List, ◌∷◌, take, refl, sym, ◌∙◌, ap, subst, arith}
use Rattle.std.specs.Prelude.{if◌then◌else◌}
use Rattle.rs_core.specs.Run.Moves.{Move, Began, Took, config_in}
use Rattle.rs_core.specs.Session.Hearing.{state_in, is_up, takes}
use Rattle.rs_core.specs.Run.Meaning.{hearing, is_established}
use Rattle.rs_core.specs.Core.{client_count, lent_octets, owed}
use Rattle.rs_core.specs.Owed.Sending.{HasLent, HasTaken, Sends, Start, Lends, Takes, IsSentOf, SendsAllOwed}
use Rattle.rs_core.specs.declared.route_server.Core.{Core}
use Rattle.rs_core.proofs.Run.Lists.{own, other}
use Rattle.rs_core.proofs.Run.Clients.{equal_or}

-- who is Established stays so
pub took_up : (run : List Move) (c d : ℕ) (octets : List ℕ) → is_established (Took d octets ∷ run) c ≡ is_established run c
took_up run c d octets = by_test (d == c) where
  by_test : (b : Bool) → is_up (state_in (config_in run) c (if b then takes octets (hearing c run) else hearing c run)) ≡ is_established run c
  by_test true = refl
  by_test false = refl

counts : (c : ℕ) (old : Core) (before : List Move) (n : ℕ) (new : Core) (run : List Move) → Sends c old before n new run → client_count new ≡ client_count old
counts c old before n new run Start = refl
counts c old before n new run (Lends d m x y moves octets sends lt lent) = lent.count ∙ counts c old before m x moves sends
counts c old before n new run (Takes d k m x y moves sends lt taken) = taken.count ∙ counts c old before m x moves sends

less : (n first was now : ℕ) → now ≤ was → n + was ≤ first → n + now ≤ first
less n first was now down enough = omega (arith, down, enough)

paid : (n k first was now : ℕ) → now + k ≡ was → n + was ≤ first → n + k + now ≤ first
paid n k first was now down enough = omega (arith, down, enough)

lent_on : (c d n : ℕ) (old x y : Core) (run : List Move) (octets : List ℕ) → c < client_count x → HasLent d x octets y → IsSentOf c n old x run → IsSentOf c n old y (Began d ∷ run)
lent_on c d n old x y run octets lt lent sent = record {
  agrees = lent.began run sent.agrees;
  established = sent.established;
  decided = lent.owes.spares.decided c lt ∙ sent.decided;
  enough = less n (owed old c) (owed x c) (owed y c) (down (equal_or d c)) sent.enough;
} where
  down : (d ≡ c) ⊎ (d ≢ c) → owed y c ≤ owed x c
  down (inl same) = subst (λ i. owed y i ≤ owed x i) same (lent.owes.owing run sent.agrees (subst (λ i. is_established run i ≡ true) (sym same) sent.established))
  down (inr ne) = let e = lent.owes.spares.others c lt (λ same. ne (sym same)) in omega (arith, e)

taken_on : (c d k n : ℕ) (old x y : Core) (run : List Move) → c < client_count x → HasTaken d k x y → IsSentOf c n old x run
    → IsSentOf c (if d == c then n + k else n) old y (Took d (take k (lent_octets x d)) ∷ run)
taken_on c d k n old x y run lt taken sent = record {
  agrees = taken.took run sent.agrees;
  established = took_up run c d (take k (lent_octets x d)) ∙ sent.established;
  decided = taken.owes.spares.decided c lt ∙ sent.decided;
  enough = down (equal_or d c);
} where
  down : (d ≡ c) ⊎ (d ≢ c) → (if d == c then n + k else n) + owed y c ≤ owed old c
  down (inl same) = subst (λ m. m + owed y c ≤ owed old c) (sym (ap (λ i. if i == c then n + k else n) same ∙ own c (n + k) n))
      (paid n k (owed old c) (owed x c) (owed y c) (subst (λ i. owed y i + k ≡ owed x i) same taken.owes.owing) sent.enough)
  down (inr ne) = subst (λ m. m + owed y c ≤ owed old c) (sym (other d c (n + k) n (λ same. ne (sym same))))
      (less n (owed old c) (owed x c) (owed y c) (let e = taken.owes.spares.others c lt (λ same. ne (sym same)) in omega (arith, e)) sent.enough)

pub sends_all_owed : SendsAllOwed
sends_all_owed c old before lt h up all n new run Start = record { agrees = h; established = up; decided = all; enough = omega arith }
sends_all_owed c old before lt h up all n new run (Lends d m x y moves octets sends there lent) =
    lent_on c d m old x new moves octets (subst (λ k. c < k) (sym (counts c old before m x moves sends)) lt) lent (sends_all_owed c old before lt h up all m x moves sends)
sends_all_owed c old before lt h up all n new run (Takes d k m x y moves sends there taken) =
    taken_on c d k m old x new moves (subst (λ i. c < i) (sym (counts c old before m x moves sends)) lt) taken (sends_all_owed c old before lt h up all m x moves sends)
