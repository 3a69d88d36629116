-- Decimal numbers in texts: their last digit, and how long texts can be.
use Rattle.std.proofs.Common.{◌≡◌, ℕ, ◌+◌, ◌/◌, ◌%◌, ◌^◌, ◌<◌, ◌≤◌, List, [], ◌∷◌, ◌++◌, length, decimal, sym, ap, ◌∙◌, append_assoc, length-append, lit≤, lit<, arith}
use Rattle.std.proofs.lemmas.Fmt.{decimal_digit, decimal_step, length-decimal-le}
use Rattle.rs_policy.specs.Keys.{key_text}
use Rattle.rs_policy.specs.declared.faults.Key.{Key}
use Rattle.rs_policy.specs.declared.faults.Key.TheVariants as K

-- a number of 64 bits has up to 20 digits
pub decimal_short : (n : ℕ) → n < 2 ^ 64 → length (decimal n) ≤ 20
decimal_short n h = length-decimal-le 20 n (lit< tt) (omega arith) h

pub key_text_short : (k : Key) → length (key_text k) ≤ 16
key_text_short K.As = lit≤ tt
key_text_short K.Identifier = lit≤ tt
key_text_short K.Hold = lit≤ tt
key_text_short K.Default = lit≤ tt
key_text_short K.Extended = lit≤ tt
key_text_short K.Refresh = lit≤ tt
key_text_short K.Multiprotocol = lit≤ tt
key_text_short K.Client = lit≤ tt
key_text_short K.List = lit≤ tt
key_text_short K.Rules = lit≤ tt
key_text_short K.Name = lit≤ tt
key_text_short K.Listen = lit≤ tt
key_text_short K.Peer = lit≤ tt
key_text_short K.Limit = lit≤ tt
key_text_short K.Import = lit≤ tt
key_text_short K.Export = lit≤ tt
key_text_short K.Prefixes = lit≤ tt
key_text_short K.Ases = lit≤ tt
key_text_short K.Prefix = lit≤ tt
key_text_short K.Min = lit≤ tt
key_text_short K.Max = lit≤ tt
key_text_short K.PrefixIn = lit≤ tt
key_text_short K.From = lit≤ tt
key_text_short K.PathHas = lit≤ tt
key_text_short K.PathLonger = lit≤ tt
key_text_short K.PathIn = lit≤ tt
key_text_short K.OriginAs = lit≤ tt
key_text_short K.OriginIn = lit≤ tt
key_text_short K.FirstAsIsPeer = lit≤ tt
key_text_short K.Community = lit≤ tt
key_text_short K.LargeCommunity = lit≤ tt
key_text_short K.NextHopIsPeer = lit≤ tt
key_text_short K.Action = lit≤ tt
key_text_short K.Preference = lit≤ tt
key_text_short K.Strip = lit≤ tt
key_text_short K.StripLarge = lit≤ tt
key_text_short K.Use = lit≤ tt
key_text_short K.Other = lit≤ tt

pub length-decimal-step : (n : ℕ) → 10 ≤ n → n < 2 ^ 64 → length (decimal n) ≡ length (decimal (n / 10)) + 1
length-decimal-step n large h = ap length (decimal_step n large h) ∙ length-append (decimal (n / 10)) ((48 + n % 10) ∷ [])

-- a number's digits after a text: those but the last, and the last
pub onto_decimal : (text : List ℕ) (n : ℕ) → 10 ≤ n → n < 2 ^ 64 → (text ++ decimal (n / 10)) ++ (48 + n % 10) ∷ [] ≡ text ++ decimal n
onto_decimal text n large h = append_assoc text (decimal (n / 10)) ((48 + n % 10) ∷ []) ∙ ap (λ d. text ++ d) (sym (decimal_step n large h))

pub length-onto_decimal : (text : List ℕ) (n : ℕ) → n < 2 ^ 64 → length (text ++ decimal n) ≤ length text + 20
length-onto_decimal text n h = omega (arith, decimal_short n h, length-append text (decimal n))

pub decimal_last : (n : ℕ) → n < 10 → (48 + n % 10) ∷ [] ≡ decimal n
decimal_last n h = let same : n % 10 ≡ n = omega arith in rw same (sym (decimal_digit n h))
