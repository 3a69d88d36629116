-- Lines of a text. A line ends with the octet 10, which is no part of it; the last may lack it.
use Rattle.std.specs.Prelude.{◌≡◌, ℕ, ◌<◌, ◌≤◌, ◌==◌, ◌⊎◌, Bool, true, false, List, [], ◌∷◌, ◌++◌, length}
use Rattle.std.specs.List.{list_any}

-- a reader of lines: the line that it came to, what waits after that line, and whether the text's end was found
pub record Reading : Type 0 where
  pub line : List ℕ
  pub rest : List ℕ
  pub is_over : Bool

-- the octets begin with a whole line
pub record IsEnded (octets : List ℕ) (r : Reading) : Type 0 where
  pub parts : octets ≡ r.line ++ (10 ∷ []) ++ r.rest
  pub fits : length r.line ≤ 8240

-- the octets are the last line, which lacks its end
pub record IsLast (octets : List ℕ) (r : Reading) : Type 0 where
  pub parts : octets ≡ r.line
  pub some : 0 < length r.line
  pub fits : length r.line ≤ 8240
  pub none_left : r.rest ≡ []
  pub over : r.is_over ≡ true

-- the octets begin with a line that is too long, and this is its front
pub record IsTooLong (octets : List ℕ) (r : Reading) : Type 0 where
  pub parts : octets ≡ r.line ++ r.rest
  pub too_long : length r.line ≡ 8241

-- the line is the first of the octets
pub record IsFirstLine (octets : List ℕ) (r : Reading) : Type 0 where
  pub one_line : list_any (λ octet. octet == 10) r.line ≡ false
  pub kind : IsEnded octets r ⊎ IsLast octets r ⊎ IsTooLong octets r

-- the octets are none, and no more come
pub record IsEnd (octets : List ℕ) (r : Reading) : Type 0 where
  pub none : octets ≡ []
  pub none_left : r.rest ≡ []
  pub over : r.is_over ≡ true

-- what a step to the next line leaves of these octets
abbrev pub StepsOver : Bool → List ℕ → Reading → Type 0
StepsOver true octets r = IsFirstLine octets r
StepsOver false octets r = IsEnd octets r

-- a step to the next line, for which these octets were taken: none once the text's end was found
pub record IsStep (is_line : Bool) (old new : Reading) (taken : List ℕ) : Type 0 where
  pub steps : StepsOver is_line (old.rest ++ taken) new
  pub none_after_end : old.is_over ≡ true → taken ≡ []
  pub stays_over : old.is_over ≡ true → new.is_over ≡ true

-- more waits, unless the text's end was found
pub record Fills (old new : Reading) (taken : List ℕ) : Type 0 where
  pub rest : new.rest ≡ old.rest ++ taken
  pub over : new.is_over ≡ (length taken == 0)
