-- Names and lines as texts of UTF-8.
use Rattle.std.proofs.Common.{◌≡◌, ℕ, Bool, true, false, List, [], Option, None, refl, ap, ◌∙◌, cond}
use Rattle.std.specs.Prelude.{IsUtf8}
use Rattle.std.specs.Str.{is_utf8}
use Rattle.rs_open.proofs.Texts.{utf8_tested, utf8_refuted}
use Rattle.rs_policy.specs.Configuration.{Configuration}
use Rattle.rs_policy.specs.Rules.{client_named}
use Rattle.rs_control.specs.declared.lines.Cause.TheVariants.{NotUtf8}
use Rattle.rs_control.specs.Lines.{Meaning, Refused, member_named, command_meaning, word_of, behind_word, unspaced, line_meaning}

chosen : (b : Bool) (found : Option ℕ) → b ≡ true → found ≡ cond b found None
chosen true found e = refl
chosen false found e = cc

passed : (b : Bool) (found : Option ℕ) → b ≡ false → None ≡ cond b found None
passed false found e = refl
passed true found e = cc

pub named : (config : Configuration) (name text : List ℕ) (r : Option ℕ) → IsUtf8 name → text ≡ name → r ≡ client_named config.clients text → r ≡ member_named config name
named config name text r is e f = f ∙ (ap (λ t. client_named config.clients t) e ∙ chosen (is_utf8 name) (client_named config.clients name) (utf8_tested name is))

pub unnamed : (config : Configuration) (name : List ℕ) → (IsUtf8 name → ⊥) → None ≡ member_named config name
unnamed config name not = passed (is_utf8 name) (client_named config.clients name) (utf8_refuted name not)

chosen_meaning : (b : Bool) (meaning other : Meaning) → b ≡ true → meaning ≡ cond b meaning other
chosen_meaning true meaning other e = refl
chosen_meaning false meaning other e = cc

passed_meaning : (b : Bool) (meaning other : Meaning) → b ≡ false → other ≡ cond b meaning other
passed_meaning false meaning other e = refl
passed_meaning true meaning other e = cc

pub commanded : (config : Configuration) (line : List ℕ) (r : Meaning) → IsUtf8 line → r ≡ command_meaning config (word_of (unspaced line)) (behind_word (unspaced line)) → r ≡ line_meaning config line
commanded config line r is e = e ∙ chosen_meaning (is_utf8 line) (command_meaning config (word_of (unspaced line)) (behind_word (unspaced line))) (Refused NotUtf8 []) (utf8_tested line is)

pub no_text : (config : Configuration) (line : List ℕ) → (IsUtf8 line → ⊥) → Refused NotUtf8 [] ≡ line_meaning config line
no_text config line not = passed_meaning (is_utf8 line) (command_meaning config (word_of (unspaced line)) (behind_word (unspaced line))) (Refused NotUtf8 []) (utf8_refuted line not)

pub by_words : (config : Configuration) (text whole word rest : List ℕ) (r : Meaning) → text ≡ whole → word ≡ word_of text → rest ≡ behind_word text → r ≡ command_meaning config word rest → r ≡ command_meaning config (word_of whole) (behind_word whole)
by_words config text whole word rest r e f g h =
    h ∙ (ap (λ w. command_meaning config w rest) (f ∙ ap word_of e) ∙ ap (λ b. command_meaning config (word_of whole) b) (g ∙ ap behind_word e))
