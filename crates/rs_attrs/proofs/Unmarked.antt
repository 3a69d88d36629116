-- What isn't marked isn't there: no number of a path, and no community.
use Rattle.std.proofs.Common.{◌≡◌, ◌/◌, ◌%◌, ◌^◌, ◌==◌, ◌&&◌, ◌||◌, ℕ, Bool, true, false, List, [], ◌∷◌, Option, Some, None, bit_and, not, refl, sym, ap, subst, ◌∙◌, arith}
use Rattle.std.specs.Bool.{IsTrue}
use Rattle.std.specs.Int.{bit_at}
use Rattle.std.specs.Int.Bits.{bit_or}
use Rattle.std.specs.List.{list_any}
use Rattle.std.proofs.lemmas.Bool.Decides.{nat_tests}
use Rattle.std.proofs.lemmas.Nat.Bits.{bit_at_and, bit_at_ones, bit_at_or, bit_at-lt, bit_at-pow_same}
use Rattle.rs_attrs.specs.Spellings.{has_flag}
use Rattle.rs_attrs.specs.Writing.{bit}
use Rattle.rs_attrs.specs.Paths.{Segment, path_has}
use Rattle.rs_attrs.specs.Patterns.{is_like, is_like_large, part_is}
use Rattle.rs_attrs.specs.HeadLaws.{flag_back}
use Rattle.rs_attrs.proofs.HeadWords.{same_bit}
use Rattle.rs_attrs.specs.Marks.{mark_of, AreNumbersMarked, AreMarked, AreLargeMarked, IsPathMarked, KeepsMarks}
use Rattle.rs_attrs.specs.Tagged.{has_first, has_part, part_marks}
use Rattle.rs_attrs.specs.declared.asked.Firsts.{Firsts}
use Rattle.rs_attrs.specs.declared.patterns.CommunityPattern.{CommunityPattern}
use Rattle.rs_attrs.specs.declared.patterns.LargeCommunityPattern.{LargeCommunityPattern}
use Rattle.rs_attrs.specs.declared.patterns.LargeCommunity.{LargeCommunity}

-- ---- a flag is a bit

flag_from_bit : (k n : ℕ) → bit_at n k ≡ 1 → has_flag (2 ^ k) n ≡ true
flag_from_bit k n e = same_bit (has_flag (2 ^ k) n) true (flag_back k n ∙ e)

bit_from_flag : (k n : ℕ) → has_flag (2 ^ k) n ≡ true → bit_at n k ≡ 1
bit_from_flag k n e = sym (flag_back k n) ∙ ap (bit 1) e

-- ---- more marks

pub left_kept : (one other : ℕ) → KeepsMarks one (bit_or one other)
left_kept one other n is =
    let k : ℕ = n % 32 in
    let old = bit_from_flag k one is in
    let more = bit_at-lt other k in
    flag_from_bit k _ (bit_at_or one other k ∙ omega arith)

pub right_kept : (one other : ℕ) → KeepsMarks other (bit_or one other)
right_kept one other n is =
    let k : ℕ = n % 32 in
    let new = bit_from_flag k other is in
    let old = bit_at-lt one k in
    flag_from_bit k _ (bit_at_or one other k ∙ omega arith)

marks_itself : (n : ℕ) → has_flag (mark_of n) (mark_of n) ≡ true
marks_itself n = flag_from_bit (n % 32) (mark_of n) (bit_at-pow_same (n % 32))

pub one_marked : (marks number : ℕ) → has_flag (mark_of number) (bit_or marks (mark_of number)) ≡ true
one_marked marks number = right_kept marks (mark_of number) number (marks_itself number)

-- what is marked stays so
pub more_marked : (old new : ℕ) (numbers : List ℕ) → KeepsMarks old new → AreNumbersMarked old numbers → AreNumbersMarked new numbers
more_marked old new [] kept marked = tt
more_marked old new (n ∷ numbers) kept marked = (kept n marked.0, more_marked old new numbers kept marked.1)

-- ---- a mark that isn't set

other : (marks number n : ℕ) (b : Bool) → has_flag (mark_of number) marks ≡ false → has_flag (mark_of n) marks ≡ true → (n == number) ≡ b → b ≡ false
other marks number n false none marked is = refl
other marks number n true none marked is =
    let same : n ≡ number = grind (arith, nat_tests, is) in
    sym (subst (λ n. has_flag (mark_of n) marks ≡ true) same marked) ∙ none

absent : (marks number : ℕ) (numbers : List ℕ) → has_flag (mark_of number) marks ≡ false → AreNumbersMarked marks numbers → list_any (λ n. n == number) numbers ≡ false
absent marks number [] none marked = refl
absent marks number (n ∷ numbers) none marked =
    λ i. other marks number n (n == number) none marked.0 refl i || absent marks number numbers none marked.1 i

pub path_lacks : (marks number : ℕ) (path : List Segment) → has_flag (mark_of number) marks ≡ false → IsPathMarked marks path → path_has number path ≡ false
path_lacks marks number [] none marked = refl
path_lacks marks number (s ∷ path) none marked =
    λ i. absent marks number s.numbers none marked.0 i || path_lacks marks number path none marked.1 i

-- ---- communities of another first part

unlike : (p : CommunityPattern) (c : ℕ) (b : Bool) → part_is p.high (c / 65536) ≡ false → is_like p c ≡ b → b ≡ false
unlike p c b other like = sym like ∙ ap (λ t. t && part_is p.low (c % 65536)) other

unlike_large : (p : LargeCommunityPattern) (c : LargeCommunity) (b : Bool) → part_is p.global c.global ≡ false → is_like_large p c ≡ b → b ≡ false
unlike_large p c b other like = sym like ∙ ap (λ t. t && part_is p.first c.first && part_is p.second c.second) other

-- ---- what is asked for is marked nowhere

-- a mark that stands in one of two that have none in common doesn't stand in the other
apart : (one asked n : ℕ) → bit_and one asked ≡ 0 → has_flag (mark_of n) one ≡ true → has_flag (mark_of n) asked ≡ true → true ≡ false
apart one asked n none here there =
    let k : ℕ = n % 32 in
    let first = bit_from_flag k one here in
    let second = bit_from_flag k asked there in
    let both = bit_at_and one asked k in
    let nothing = ap (λ m. bit_at m k) none in
    absurd (omega (arith, first, second, both, nothing))

all_marked : (n : ℕ) → has_flag (mark_of n) 4294967295 ≡ true
all_marked n = flag_from_bit (n % 32) 4294967295 (bit_at_ones 32 (n % 32) (omega arith))

part_unlike : (part : Option ℕ) (one asked n : ℕ) (b : Bool) → bit_and one asked ≡ 0 → has_flag (mark_of n) one ≡ true → KeepsMarks (part_marks part) asked → part_is part n ≡ b → b ≡ false
part_unlike part one asked n false none here asks is = refl
part_unlike None one asked n true none here asks is = apart one asked n none here (asks n (all_marked n))
part_unlike (Some h) one asked n true none here asks is =
    let same : n ≡ h = grind (arith, nat_tests, is) in
    apart one asked n none here (asks n (subst (λ m. has_flag (mark_of n) (mark_of m) ≡ true) same (marks_itself n)))

pub none_like : (p : CommunityPattern) (one asked : ℕ) (cs : List ℕ) → bit_and one asked ≡ 0 → AreMarked one cs → KeepsMarks (part_marks p.high) asked → list_any (is_like p) cs ≡ false
none_like p one asked [] none marked asks = refl
none_like p one asked (c ∷ cs) none marked asks =
    ap (λ b. b || list_any (is_like p) cs) (unlike p c (is_like p c) (part_unlike p.high one asked (c / 65536) (part_is p.high (c / 65536)) none marked.0 asks refl) refl)
    ∙ none_like p one asked cs none marked.1 asks

pub none_like_large : (p : LargeCommunityPattern) (one asked : ℕ) (cs : List LargeCommunity) → bit_and one asked ≡ 0 → AreLargeMarked one cs → KeepsMarks (part_marks p.global) asked → list_any (is_like_large p) cs ≡ false
none_like_large p one asked [] none marked asks = refl
none_like_large p one asked (c ∷ cs) none marked asks =
    ap (λ b. b || list_any (is_like_large p) cs) (unlike_large p c (is_like_large p c) (part_unlike p.global one asked c.global (part_is p.global c.global) none marked.0 asks refl) refl)
    ∙ none_like_large p one asked cs none marked.1 asks

-- what a part asks for that is given alone
pub given_alone : (part : Option ℕ) (h : ℕ) → part ≡ Some h → KeepsMarks (part_marks part) (mark_of h)
given_alone part h is n marked = subst (λ o. has_flag (mark_of n) (part_marks o) ≡ true) is marked

-- ---- what is asked for by first parts is nowhere among others

part_unasked : (part : Option ℕ) (f : Firsts) (n : ℕ) (b : Bool) → f.all ≡ false → has_part f part ≡ true → has_first f n ≡ false → part_is part n ≡ b → b ≡ false
part_unasked part f n false all asked none is = refl
part_unasked None f n true all asked none is = sym asked ∙ all
part_unasked (Some h) f n true all asked none is =
    let same : n ≡ h = grind (arith, nat_tests, is) in
    sym (subst (λ n. has_first f n ≡ true) (sym same) asked) ∙ none

neither : (a b : Bool) → (a || b) ≡ false → (a ≡ false) × (b ≡ false)
neither true b e = absurd (cc e)
neither false b e = (refl, e)

pub none_asked : (f : Firsts) (p : CommunityPattern) (cs : List ℕ) → f.all ≡ false → has_part f p.high ≡ true → list_any (λ c. has_first f (c / 65536)) cs ≡ false → list_any (is_like p) cs ≡ false
none_asked f p [] all asked none = refl
none_asked f p (c ∷ cs) all asked none =
    let both = neither (has_first f (c / 65536)) (list_any (λ c. has_first f (c / 65536)) cs) none in
    ap (λ b. b || list_any (is_like p) cs) (unlike p c (is_like p c) (part_unasked p.high f (c / 65536) (part_is p.high (c / 65536)) all asked both.0 refl) refl)
    ∙ none_asked f p cs all asked both.1

pub none_asked_large : (f : Firsts) (p : LargeCommunityPattern) (cs : List LargeCommunity) → f.all ≡ false → has_part f p.global ≡ true → list_any (λ (c : LargeCommunity). has_first f c.global) cs ≡ false → list_any (is_like_large p) cs ≡ false
none_asked_large f p [] all asked none = refl
none_asked_large f p (c ∷ cs) all asked none =
    let both = neither (has_first f c.global) (list_any (λ (c : LargeCommunity). has_first f c.global) cs) none in
    ap (λ b. b || list_any (is_like_large p) cs) (unlike_large p c (is_like_large p c) (part_unasked p.global f c.global (part_is p.global c.global) all asked both.0 refl) refl)
    ∙ none_asked_large f p cs all asked both.1

pub denied : (b : Bool) → IsTrue (not b) → b ≡ false
denied true is = absurd (cc is)
denied false is = refl
