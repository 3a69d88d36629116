-- What each line of a record says.
use Rattle.std.proofs.Common.{◌≡◌, ℕ, ◌^◌, ◌<◌, ◌≤◌, List, [], ◌∷◌, ◌++◌, length, refl, ◌∙◌, ap, arith, false, Option, Some, None, length-append}
use Rattle.std.specs.Prelude.{nat_lt, Ok, codes, decimal}
use Rattle.std.proofs.lemmas.Bool.Decides.{nat_tests}
use Rattle.hex.specs.Hex.{encode_lower, IsBytes}
use Rattle.rs_open.specs.declared.shutdown.ShutdownText.{ShutdownText}
use Rattle.rs_open.specs.Notes.{no_text, shutdown_text}
use Rattle.rs_session.specs.declared.command.Command.TheVariants.{Stop, Refresh}
use Rattle.rs_trace.specs.Words.{words_of}
use Rattle.rs_trace.specs.Trace.{LineMeaning, Opened, Heard, Offered, Passed, Turned, Left, Commanded, Continued, Replaced, line_of, is_passed_over, meaning_by_words}
use Rattle.rs_trace.specs.Text.{said}
use Rattle.rs_trace.proofs.LineLemmas.{ends}
use Rattle.rs_record.specs.Lines.{one_operand, two_operands}
use Rattle.rs_record.specs.Saying.{SaysOn, Says}
use Rattle.rs_record.proofs.Saying.{says_line}
use Rattle.rs_record.proofs.Words.{IsWord, none_append, decimal_is_word, decimal_is_number, hex_is_word, hex_is_octets, hex_is_text, words_one, words_two}

line_means : (place : List ℕ → Option ℕ) (line : List ℕ) (words : List (List ℕ)) (meant : LineMeaning) → length line ≤ 8240 → is_passed_over line ≡ false → words_of line ≡ words → meaning_by_words place words ≡ Ok meant → line_of place line ≡ Ok (Some meant)
line_means place line words meant short not are is =
    let fits : nat_lt 8240 (length line) ≡ false = grind (arith, nat_tests) in
    rw fits (rw not (rw are (rw is refl)))

-- ---- lines of one operand

pub says_opened : (place : List ℕ → Option ℕ) (name : List ℕ) (c : ℕ) → IsWord name 32 → place name ≡ Some c → Says place (one_operand (codes "open") name) (Opened c ∷ [])
says_opened place name c word found =
    let line = codes "open" ++ (32 ∷ []) ++ name in
    says_line place [] line (Some (Opened c)) [] word.no_end
    (ap (said []) (line_means place line (codes "open" ∷ name ∷ []) (Opened c) (omega (arith, word.short)) refl (rw (words_one name word.no_space) refl) (rw found refl)))

pub says_lost : (place : List ℕ → Option ℕ) (name : List ℕ) (c : ℕ) → IsWord name 32 → place name ≡ Some c → Says place (one_operand (codes "lost") name) (Left c ∷ [])
says_lost place name c word found =
    let line = codes "lost" ++ (32 ∷ []) ++ name in
    says_line place [] line (Some (Left c)) [] word.no_end
    (ap (said []) (line_means place line (codes "lost" ∷ name ∷ []) (Left c) (omega (arith, word.short)) refl (rw (words_one name word.no_space) refl) (rw found refl)))

pub says_refresh : (place : List ℕ → Option ℕ) (name : List ℕ) (c : ℕ) → IsWord name 32 → place name ≡ Some c → Says place (one_operand (codes "refresh") name) (Commanded c Refresh ∷ [])
says_refresh place name c word found =
    let line = codes "refresh" ++ (32 ∷ []) ++ name in
    says_line place [] line (Some (Commanded c Refresh)) [] word.no_end
    (ap (said []) (line_means place line (codes "refresh" ∷ name ∷ []) (Commanded c Refresh) (omega (arith, word.short)) refl (rw (words_one name word.no_space) refl) (rw found refl)))

pub says_shutdown_alone : (place : List ℕ → Option ℕ) (name : List ℕ) (c : ℕ) → IsWord name 32 → place name ≡ Some c → Says place (one_operand (codes "shutdown") name) (Commanded c (Stop no_text) ∷ [])
says_shutdown_alone place name c word found =
    let line = codes "shutdown" ++ (32 ∷ []) ++ name in
    says_line place [] line (Some (Commanded c (Stop no_text))) [] word.no_end
    (ap (said []) (line_means place line (codes "shutdown" ∷ name ∷ []) (Commanded c (Stop no_text)) (omega (arith, word.short)) refl (rw (words_one name word.no_space) refl) (rw found refl)))

pub says_moment : (place : List ℕ → Option ℕ) (t : ℕ) → t < 2 ^ 64 → Says place (one_operand (codes "moment") (decimal t)) (Passed t ∷ [])
says_moment place t h =
    let word = decimal_is_word t h in
    let line = codes "moment" ++ (32 ∷ []) ++ decimal t in
    says_line place [] line (Some (Passed t)) [] word.no_end
    (ap (said []) (line_means place line (codes "moment" ∷ decimal t ∷ []) (Passed t) (omega (arith, word.short)) refl (rw (words_one (decimal t) word.no_space) refl) (rw (decimal_is_number t h) refl)))

pub says_turned : (place : List ℕ → Option ℕ) → Says place (codes "turn" ++ (10 ∷ [])) (Turned ∷ [])
says_turned place = says_line place [] (codes "turn") (Some Turned) [] refl refl

-- ---- a text of rules

within_text : (text octets : List ℕ) → length (text ++ octets) ≤ 67108864 → nat_lt 67108864 (length (text ++ octets)) ≡ false
within_text text octets h = grind (arith, nat_tests)

pub says_more : (place : List ℕ → Option ℕ) (text octets : List ℕ) → 0 < length octets → length octets ≤ 4096 → IsBytes octets → length (text ++ octets) ≤ 67108864 → SaysOn place text (one_operand (codes "more") (encode_lower octets)) [] (text ++ octets)
says_more place text octets some short bytes whole =
    let word = hex_is_word octets short bytes in
    let hex = encode_lower octets in
    let line = codes "more" ++ (32 ∷ []) ++ hex in
    says_line place text line None (text ++ octets) word.no_end
    (ap (said text) (line_means place line (codes "more" ∷ hex ∷ []) (Continued octets) (omega (arith, word.short)) refl (rw (words_one hex word.no_space) refl) (rw (hex_is_text octets some short bytes) refl))
    ∙ rw (within_text text octets whole) refl)

pub says_rules : (place : List ℕ → Option ℕ) (text octets : List ℕ) → 0 < length octets → length octets ≤ 4096 → IsBytes octets → length (text ++ octets) ≤ 67108864 → SaysOn place text (one_operand (codes "rules") (encode_lower octets)) (Replaced (text ++ octets) ∷ []) []
says_rules place text octets some short bytes whole =
    let word = hex_is_word octets short bytes in
    let hex = encode_lower octets in
    let line = codes "rules" ++ (32 ∷ []) ++ hex in
    says_line place text line (Some (Replaced (text ++ octets))) [] word.no_end
    (ap (said text) (line_means place line (codes "rules" ∷ hex ∷ []) (Replaced octets) (omega (arith, word.short)) refl (rw (words_one hex word.no_space) refl) (rw (hex_is_text octets some short bytes) refl))
    ∙ rw (within_text text octets whole) refl)

-- ---- lines of two operands

pub says_heard : (place : List ℕ → Option ℕ) (name octets : List ℕ) (c : ℕ) → IsWord name 32 → place name ≡ Some c → length octets ≤ 4096 → IsBytes octets → Says place (two_operands (codes "octets") name (encode_lower octets)) (Heard c octets ∷ [])
says_heard place name octets c word found short bytes =
    let hex = encode_lower octets in
    let second = hex_is_word octets short bytes in
    let line = codes "octets" ++ (32 ∷ []) ++ name ++ (32 ∷ []) ++ hex in
    says_line place [] line (Some (Heard c octets)) [] (none_append ends (name ++ (32 ∷ [])) hex (none_append ends name (32 ∷ []) word.no_end refl) second.no_end)
    (ap (said []) (line_means place line (codes "octets" ∷ name ∷ hex ∷ []) (Heard c octets) (omega (arith, word.short, second.short, length-append (name ++ (32 ∷ [])) hex, length-append name (32 ∷ []))) refl (rw (words_two name hex word.no_space second.no_space) refl) (rw found (rw (hex_is_octets octets short bytes) refl))))

pub says_shutdown : (place : List ℕ → Option ℕ) (name octets : List ℕ) (text : ShutdownText) (c : ℕ) → IsWord name 32 → place name ≡ Some c → 0 < length octets → length octets ≤ 4096 → IsBytes octets → shutdown_text octets ≡ Some text
    → Says place (two_operands (codes "shutdown") name (encode_lower octets)) (Commanded c (Stop text) ∷ [])
says_shutdown place name octets text c word found some short bytes is =
    let hex = encode_lower octets in
    let second = hex_is_word octets short bytes in
    let line = codes "shutdown" ++ (32 ∷ []) ++ name ++ (32 ∷ []) ++ hex in
    says_line place [] line (Some (Commanded c (Stop text))) [] (none_append ends (name ++ (32 ∷ [])) hex (none_append ends name (32 ∷ []) word.no_end refl) second.no_end)
    (ap (said []) (line_means place line (codes "shutdown" ∷ name ∷ hex ∷ []) (Commanded c (Stop text)) (omega (arith, word.short, second.short, length-append (name ++ (32 ∷ [])) hex, length-append name (32 ∷ []))) refl (rw (words_two name hex word.no_space second.no_space) refl) (rw found (rw (hex_is_text octets some short bytes) (rw is refl)))))

pub says_room : (place : List ℕ → Option ℕ) (name : List ℕ) (c n : ℕ) → IsWord name 32 → place name ≡ Some c → n < 2 ^ 64 → Says place (two_operands (codes "room") name (decimal n)) (Offered c n ∷ [])
says_room place name c n word found h =
    let second = decimal_is_word n h in
    let line = codes "room" ++ (32 ∷ []) ++ name ++ (32 ∷ []) ++ decimal n in
    says_line place [] line (Some (Offered c n)) [] (none_append ends (name ++ (32 ∷ [])) (decimal n) (none_append ends name (32 ∷ []) word.no_end refl) second.no_end)
    (ap (said []) (line_means place line (codes "room" ∷ name ∷ decimal n ∷ []) (Offered c n) (omega (arith, word.short, second.short, length-append (name ++ (32 ∷ [])) (decimal n), length-append name (32 ∷ []))) refl (rw (words_two name (decimal n) word.no_space second.no_space) refl) (rw found (rw (decimal_is_number n h) refl))))

-- a comment says nothing
pub says_memory : (place : List ℕ → Option ℕ) (name : List ℕ) → IsWord name 32 → Says place (two_operands (codes "#") (codes "memory") name) []
says_memory place name word =
    let line = codes "#" ++ (32 ∷ []) ++ codes "memory" ++ (32 ∷ []) ++ name in
    let fits : nat_lt 8240 (length line) ≡ false = let short = word.short in grind (arith, nat_tests) in
    says_line place [] line None [] word.no_end (rw fits refl)
