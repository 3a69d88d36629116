-- The line of a session that the operator ends says just that.
use Rattle.std.proofs.Common.{◌≡◌, ℕ, ◌<◌, ◌≤◌, List, [], ◌∷◌, ◌++◌, length, min, refl, sym, ◌∙◌, ap, arith, Option, Some, None, subst}
use Rattle.std.specs.Prelude.{codes, unwrap_or}
use Rattle.std.proofs.lemmas.List.{length-take}
use Rattle.hex.specs.Hex.{IsBytes}
use Rattle.rs_open.specs.declared.shutdown.ShutdownText.{ShutdownText}
use Rattle.rs_open.specs.Notes.{no_text, shutdown_text, text_octets}
use Rattle.rs_open.proofs.Texts.{text_kept, utf8_tested}
use Rattle.rs_core.specs.declared.links.Event.TheVariants as events
use Rattle.rs_session.specs.declared.command.Command.TheVariants.{Stop}
use Rattle.rs_trace.specs.Replays.{place_in}
use Rattle.rs_trace.specs.Trace.{Commanded}
use Rattle.rs_trace.specs.declared.names.Names.{Names}
use Rattle.rs_record.specs.Accounts.{event_says, said_text}
use Rattle.rs_record.specs.Lines.{one_operand, shutdown_line}
use Rattle.rs_record.specs.Named.{IsFound, count_of}
use Rattle.rs_record.specs.Records.{AddsLines}
use Rattle.rs_record.specs.Saying.{Says, TextsAreSaid}
use Rattle.rs_record.proofs.EventLemmas.{there}
use Rattle.rs_record.proofs.LineMeanings.{says_shutdown_alone, says_shutdown}
use Rattle.rs_record.proofs.Words.{IsWord, name_is_word}

-- ---- a text as it is said

pub texts_are_said : TextsAreSaid
texts_are_said octets text e =
    let kept : text_octets text ≡ octets = text_kept octets text e in
    ap (λ xs. unwrap_or (shutdown_text xs) no_text) kept ∙ ap (λ found. unwrap_or found no_text) e

-- no octets are no text
no_octets : shutdown_text [] ≡ Some no_text
no_octets = rw (utf8_tested [] ([], (refl, refl))) refl

-- it is the text of its octets
abbrev IsItself : ShutdownText → Type 0
IsItself text = shutdown_text (text_octets text) ≡ Some text

said_is_itself : (text : ShutdownText) → IsItself (said_text text)
said_is_itself text = by_found (shutdown_text (text_octets text)) refl where
  by_found : (found : Option ShutdownText) → shutdown_text (text_octets text) ≡ found → IsItself (unwrap_or found no_text)
  by_found None e = no_octets
  by_found (Some made) e = ap shutdown_text (text_kept (text_octets text) made e) ∙ e

-- ---- its line

short_text : (text : ShutdownText) → length (text_octets text) ≤ 4096
short_text text = omega (arith, length-take (min text.count 128) text.octets)

says_text : (place : List ℕ → Option ℕ) (name : List ℕ) (c : ℕ) → IsWord name 32 → place name ≡ Some c → (text : ShutdownText) (octets : List ℕ)
    → shutdown_text octets ≡ Some text → length octets ≤ 4096 → IsBytes octets → Says place (shutdown_line name octets) (Commanded c (Stop text) ∷ [])
says_text place name c word found text [] is short bytes =
    let same : no_text ≡ text = let e : Some no_text ≡ Some text = sym no_octets ∙ is in cc in
    subst (λ (t : ShutdownText). Says place (one_operand (codes "shutdown") name) (Commanded c (Stop t) ∷ [])) same (says_shutdown_alone place name c word found)
says_text place name c word found text (octet ∷ octets) is short bytes = says_shutdown place name (octet ∷ octets) text c word found (omega arith) short bytes is

module _ (names : Names) (line more : List ℕ) (c : ℕ) (name : List ℕ) (h : c < count_of names) (found : IsFound names c name) (text said : ShutdownText) (octets : List ℕ) where
  pub adds_shutdown : said ≡ said_text text → octets ≡ text_octets said → IsBytes octets → more ≡ line ++ shutdown_line name octets
      → AddsLines names line more (event_says (count_of names) (events.Commanded c (Stop text)) [])
  adds_shutdown same own bytes is =
      let itself : shutdown_text octets ≡ Some said = ap shutdown_text own ∙ subst IsItself (sym same) (said_is_itself text) in
      let short : length octets ≤ 4096 = subst (λ (xs : List ℕ). length xs ≤ 4096) (sym own) (short_text said) in
      let says : Says (place_in names) (shutdown_line name octets) (Commanded c (Stop said) ∷ []) =
      says_text (place_in names) name c (name_is_word name found.word) found.place said octets itself short bytes in
      record {
        lines = shutdown_line name octets;
        is = is;
        says = rw (there (count_of names) c h) (subst (λ (t : ShutdownText). Says (place_in names) (shutdown_line name octets) (Commanded c (Stop t) ∷ [])) same says);
      }
