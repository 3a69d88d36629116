-- Where a value of a document stands in its text.
use Rattle.std.specs.Prelude.{ℕ, ◌+◌, Bool, false, ◌&&◌, not, ◌==◌, nat_le, nat_lt, List, [], ◌∷◌, ◌++◌, take, drop, fold, codes, bytes_eq, Option, Some, option_and_then, if◌then◌else◌}
use Rattle.toml.specs.Data.{Data, table, string, get, at}
use Rattle.toml.specs.Parse.{parse_document}
use Rattle.rs_places.specs.declared.steps.Step.{Step}
use Rattle.rs_places.specs.declared.steps.Step.TheVariants as S
use Rattle.rs_places.specs.declared.marks.Spot.{Spot}

-- an octet of UTF-8 that begins no character
abbrev pub goes_on : ℕ → Bool
goes_on octet = nat_le 128 octet && nat_lt octet 192

-- a line and a column, both from 1, and one octet more: a line feed ends a line, and each character is a column
abbrev pub moved : ℕ × ℕ → ℕ → ℕ × ℕ
moved place octet = if octet == 10 then (place.0 + 1, 1) else (if goes_on octet then place else (place.0, place.1 + 1))

-- the line and the column behind some octets
abbrev pub place_behind : List ℕ → ℕ × ℕ
place_behind octets = fold moved (1, 1) octets

-- the value of a document that some steps lead to

abbrev pub stepped : Step → Data → Option Data
stepped (S.Key key) d = get key.now d
stepped (S.Item n) d = at n d

abbrev pub data_at : List Step → Data → Option Data
data_at [] d = Some d
data_at (step ∷ steps) d = option_and_then (data_at steps) (stepped step d)

-- that of a text, where it is a document
abbrev pub data_in : List Step → List ℕ → Option Data
data_in steps text = option_and_then (λ ms. data_at steps (table ms)) (parse_document text)

-- the mark is put where a value stands
abbrev pub is_mark : Option Data → Bool
is_mark (Some (string text)) = bytes_eq text (codes "?")
is_mark _ = false

abbrev pub has_mark : Option Data → Bool
has_mark d = is_mark (option_and_then (get (codes "?")) d)

-- a text with others in place of some octets
abbrev pub with : List ℕ → ℕ → ℕ → List ℕ → List ℕ
with text start stop new = take start text ++ (new ++ drop stop text)

abbrev pub mark : List ℕ
mark = codes "\"?\""

abbrev pub mark_pair : List ℕ
mark_pair = codes "\n\"?\" = \"?\"\n"

-- The steps lead to what stands there: the mark that is put in a value's place is the value that they lead to; a
-- pair that is put behind a header is in the table that they lead to, and before the header it isn't.
abbrev pub stands_at : List ℕ → List Step → Spot → Bool
stands_at text steps (Spot.Value key start stop) = is_mark (data_in steps (with text start stop mark))
stands_at text steps (Spot.Header start stop) = has_mark (data_in steps (with text stop stop mark_pair)) && not (has_mark (data_in steps (with text start start mark_pair)))
