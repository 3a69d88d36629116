-- The lines of each event say just that event.
use Rattle.std.proofs.Common.{◌≡◌, ℕ, zero, suc, ◌^◌, ◌<◌, ◌≤◌, List, [], ◌∷◌, ◌++◌, length, take, refl, sym, ◌∙◌, arith, Bool, true, false, Option, append_assoc, subst}
use Rattle.std.specs.Prelude.{nat_le, nat_lt, ◌||◌, codes, decimal}
use Rattle.std.proofs.lemmas.Bool.Decides.{nat_tests}
use Rattle.hex.specs.Hex.{encode_lower, IsBytes}
use Rattle.rs_core.specs.declared.links.Event.TheVariants as events
use Rattle.rs_session.specs.declared.command.Command.{Command}
use Rattle.rs_session.specs.declared.command.Command.TheVariants as commands
use Rattle.rs_trace.specs.Replays.{place_in}
use Rattle.rs_trace.specs.Trace.{Passed, Turned, Replaced}
use Rattle.rs_trace.specs.declared.names.Names.{Names}
use Rattle.rs_record.specs.Accounts.{event_says}
use Rattle.rs_record.specs.Lines.{one_operand, two_operands}
use Rattle.rs_record.specs.Named.{IsFound, count_of}
use Rattle.rs_record.specs.Records.{AddsLines}
use Rattle.rs_record.specs.Saying.{SaysOn, Says}
use Rattle.rs_record.proofs.Saying.{says_then}
use Rattle.rs_record.proofs.Recording.{adds_none}
use Rattle.rs_record.proofs.Words.{name_is_word}
use Rattle.rs_record.proofs.LineMeanings.{says_opened, says_lost, says_refresh, says_moment, says_turned, says_more, says_rules, says_heard, says_room, says_memory}

pub there : (n c : ℕ) → c < n → nat_le n c ≡ false
there n c h = grind (arith, nat_tests)

absent : (n c : ℕ) → n ≤ c → nat_le n c ≡ true
absent n c h = grind (arith, nat_tests)

fits : (size : ℕ) → size ≤ 4096 → nat_lt 4096 size ≡ false
fits size h = grind (arith, nat_tests)

too_long : (size : ℕ) → 4096 < size → nat_lt 4096 size ≡ true
too_long size h = grind (arith, nat_tests)

or_true : (b : Bool) → (b || true) ≡ true
or_true true = refl
or_true false = refl

pub bytes_taken : (n : ℕ) (xs : List ℕ) → IsBytes xs → IsBytes (take n xs)
bytes_taken zero xs h i = omega arith
bytes_taken (suc n) [] h i = omega arith
bytes_taken (suc n) (x ∷ xs) h zero = h zero
bytes_taken (suc n) (x ∷ xs) h (suc i) = bytes_taken n xs (λ k. h (suc k)) i

pub bytes_behind : (xs ys : List ℕ) → IsBytes (xs ++ ys) → IsBytes ys
bytes_behind [] ys h = h
bytes_behind (x ∷ xs) ys h = bytes_behind xs ys (λ k. h (suc k))

pub bytes_front : (xs ys : List ℕ) → IsBytes (xs ++ ys) → IsBytes xs
bytes_front [] ys h i = omega arith
bytes_front (x ∷ xs) ys h zero = h zero
bytes_front (x ∷ xs) ys h (suc i) = bytes_front xs ys (λ k. h (suc k)) i

length_taken : (n : ℕ) (xs : List ℕ) → length (take n xs) ≤ n
length_taken zero xs = omega arith
length_taken (suc n) [] = omega arith
length_taken (suc n) (x ∷ xs) = omega (arith, length_taken n xs)

module _ (names : Names) (line more : List ℕ) where
  module _ (c : ℕ) (name : List ℕ) (h : c < count_of names) (found : IsFound names c name) where
    pub adds_opened : more ≡ line ++ one_operand (codes "open") name → AddsLines names line more (event_says (count_of names) (events.Opened c) [])
    adds_opened is = record { lines = one_operand (codes "open") name; is = is; says = rw (there (count_of names) c h) (says_opened (place_in names) name c (name_is_word name found.word) found.place) }

    pub adds_lost : more ≡ line ++ one_operand (codes "lost") name → AddsLines names line more (event_says (count_of names) (events.Lost c) [])
    adds_lost is = record { lines = one_operand (codes "lost") name; is = is; says = rw (there (count_of names) c h) (says_lost (place_in names) name c (name_is_word name found.word) found.place) }

    pub adds_refresh : more ≡ line ++ one_operand (codes "refresh") name → AddsLines names line more (event_says (count_of names) (events.Commanded c commands.Refresh) [])
    adds_refresh is = record { lines = one_operand (codes "refresh") name; is = is; says = rw (there (count_of names) c h) (says_refresh (place_in names) name c (name_is_word name found.word) found.place) }

    pub adds_room : (room : ℕ) → room < 2 ^ 64 → more ≡ line ++ two_operands (codes "room") name (decimal room) → AddsLines names line more (event_says (count_of names) (events.Room c room) [])
    adds_room room l is = record { lines = two_operands (codes "room") name (decimal room); is = is; says = rw (there (count_of names) c h) (says_room (place_in names) name c room (name_is_word name found.word) found.place l) }

    pub adds_octets : (size : ℕ) (piece : List ℕ) → size ≤ 4096 → IsBytes piece → more ≡ line ++ two_operands (codes "octets") name (encode_lower (take size piece)) → AddsLines names line more (event_says (count_of names) (events.Octets c size) (take size piece))
    adds_octets size piece l bytes is =
        let short : length (take size piece) ≤ 4096 = omega (arith, l, length_taken size piece) in
        record { lines = two_operands (codes "octets") name (encode_lower (take size piece)); is = is; says = rw (there (count_of names) c h) (rw (fits size l) (says_heard (place_in names) name (take size piece) c (name_is_word name found.word) found.place short (bytes_taken size piece bytes))) }

    pub adds_memory : more ≡ line ++ two_operands (codes "#") (codes "memory") name → AddsLines names line more []
    adds_memory is = record { lines = two_operands (codes "#") (codes "memory") name; is = is; says = says_memory (place_in names) name (name_is_word name found.word) }

  pub adds_moment : (t : ℕ) → t < 2 ^ 64 → more ≡ line ++ one_operand (codes "moment") (decimal t) → AddsLines names line more (Passed t ∷ [])
  adds_moment t h is = record { lines = one_operand (codes "moment") (decimal t); is = is; says = says_moment (place_in names) t h }

  pub adds_turn : more ≡ line ++ (codes "turn" ++ (10 ∷ [])) → AddsLines names line more (Turned ∷ [])
  adds_turn is = record { lines = codes "turn" ++ (10 ∷ []); is = is; says = says_turned (place_in names) }

  -- all parts of a text
  pub adds_parts : (text done rest added : List ℕ) → text ≡ done ++ rest → 0 < length rest → length rest ≤ 4096 → IsBytes text → length text ≤ 67108864
      → ((place : List ℕ → Option ℕ) → SaysOn place [] added [] done) → more ≡ (line ++ added) ++ one_operand (codes "rules") (encode_lower rest) → AddsLines names line more (Replaced text ∷ [])
  adds_parts text done rest added parts some short bytes few says is =
      let own : IsBytes rest = bytes_behind done rest (subst IsBytes parts bytes) in
      let whole : length (done ++ rest) ≤ 67108864 = subst (λ (xs : List ℕ). length xs ≤ 67108864) parts few in
      record {
        lines = added ++ one_operand (codes "rules") (encode_lower rest);
        is = is ∙ append_assoc line added (one_operand (codes "rules") (encode_lower rest));
        says = subst (λ (xs : List ℕ). Says (place_in names) (added ++ one_operand (codes "rules") (encode_lower rest)) (Replaced xs ∷ [])) (sym parts)
            (says_then (place_in names) [] done [] added (one_operand (codes "rules") (encode_lower rest)) [] (Replaced (done ++ rest) ∷ []) (says (place_in names)) (says_rules (place_in names) done rest some short own whole));
      }

module _ (names : Names) (line : List ℕ) (c : ℕ) where
  pub no_opened : count_of names ≤ c → AddsLines names line line (event_says (count_of names) (events.Opened c) [])
  no_opened h = rw (absent (count_of names) c h) (adds_none names line)

  pub no_lost : count_of names ≤ c → AddsLines names line line (event_says (count_of names) (events.Lost c) [])
  no_lost h = rw (absent (count_of names) c h) (adds_none names line)

  pub no_command : (command : Command) → count_of names ≤ c → AddsLines names line line (event_says (count_of names) (events.Commanded c command) [])
  no_command command h = rw (absent (count_of names) c h) (adds_none names line)

  pub no_room : (room : ℕ) → count_of names ≤ c → AddsLines names line line (event_says (count_of names) (events.Room c room) [])
  no_room room h = rw (absent (count_of names) c h) (adds_none names line)

  pub no_octets : (size : ℕ) (octets : List ℕ) → count_of names ≤ c → AddsLines names line line (event_says (count_of names) (events.Octets c size) octets)
  no_octets size octets h = rw (absent (count_of names) c h) (adds_none names line)

  pub long_octets : (size : ℕ) (octets : List ℕ) → 4096 < size → AddsLines names line line (event_says (count_of names) (events.Octets c size) octets)
  long_octets size octets h = rw (too_long size h) (rw (or_true (nat_le (count_of names) c)) (adds_none names line))

-- a part of a text
pub goes_on : (added done front : List ℕ) → ((place : List ℕ → Option ℕ) → SaysOn place [] added [] done) → 0 < length front → length front ≤ 4096 → IsBytes front → length (done ++ front) ≤ 67108864
    → (place : List ℕ → Option ℕ) → SaysOn place [] (added ++ one_operand (codes "more") (encode_lower front)) [] (done ++ front)
goes_on added done front says some short bytes whole place =
    says_then place [] done (done ++ front) added (one_operand (codes "more") (encode_lower front)) [] [] (says place) (says_more place done front some short bytes whole)
