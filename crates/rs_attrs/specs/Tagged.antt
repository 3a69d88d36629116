-- Marks of the communities that a route has, and what rules ask for, by marks and by first parts: the first 16 bits of communities
-- (RFC 1997) and the Global Administrators of large ones (RFC 8092).
use Rattle.std.specs.Prelude.{◌≡◌, ℕ, Bool, ◌==◌, ◌||◌, true, false, List, Option, min, option_map, take, unwrap_or}
use Rattle.std.specs.List.{list_any}
use Rattle.rs_attrs.specs.Getters.{communities_of, large_communities_of}
use Rattle.rs_attrs.specs.Marks.{AreLargeMarked, AreMarked, KeepsMarks, mark_of}
use Rattle.rs_attrs.specs.Meaning.{Attribute}
use Rattle.rs_attrs.specs.Patterns.{is_like, is_like_large}
use Rattle.rs_attrs.specs.declared.asked.AskedTags.{AskedTags}
use Rattle.rs_attrs.specs.declared.asked.Firsts.{Firsts}
use Rattle.rs_attrs.specs.declared.marks.TagMarks.{TagMarks}
use Rattle.rs_attrs.specs.declared.patterns.CommunityPattern.{CommunityPattern}
use Rattle.rs_attrs.specs.declared.patterns.LargeCommunityPattern.{LargeCommunityPattern}

-- all communities of these attributes are marked, by their first 16 bits, and all large ones, by their Global Administrators
abbrev pub AreTagsMarked : TagMarks → List Attribute → Type 0
AreTagsMarked marks m = AreMarked marks.communities (communities_of m) × AreLargeMarked marks.large (large_communities_of m)

-- whatever the old marks mark the new do
abbrev pub KeepsTagMarks : TagMarks → TagMarks → Type 0
KeepsTagMarks old new = KeepsMarks old.communities new.communities × KeepsMarks old.large new.large

-- the marks of a part that is given; all, where it may be any
abbrev pub part_marks : Option ℕ → ℕ
part_marks part = unwrap_or (option_map mark_of part) 4294967295

-- a first part is asked for
abbrev pub has_first : Firsts → ℕ → Bool
has_first f number = f.all || list_any (λ n. n == number) (take (min f.count 8) f.numbers)

-- a part is, which may be any where none is given
abbrev pub has_part : Firsts → Option ℕ → Bool
has_part f part = unwrap_or (option_map (has_first f) part) f.all

-- whatever first part the old ask for the new do
abbrev pub KeepsFirsts : Firsts → Firsts → Type 0
KeepsFirsts old new = (part : Option ℕ) → has_part old part ≡ true → has_part new part ≡ true

-- whatever communities the old ask for, large or not, the new do
abbrev pub KeepsAsked : AskedTags → AskedTags → Type 0
KeepsAsked old new = KeepsTagMarks old.marks new.marks × KeepsFirsts old.firsts new.firsts × KeepsFirsts old.globals new.globals

-- all that is like a pattern is asked for
abbrev pub AsksFor : AskedTags → CommunityPattern → Type 0
AsksFor asked p = KeepsMarks (part_marks p.high) asked.marks.communities × (has_part asked.firsts p.high ≡ true)

abbrev pub AsksForLarge : AskedTags → LargeCommunityPattern → Type 0
AsksForLarge asked p = KeepsMarks (part_marks p.global) asked.marks.large × (has_part asked.globals p.global ≡ true)

-- no community is like a pattern that is asked for
abbrev pub LacksFirsts : AskedTags → List Attribute → Type 0
LacksFirsts asked m = (p : CommunityPattern) → AsksFor asked p → list_any (is_like p) (communities_of m) ≡ false

-- no large community is
abbrev pub LacksGlobals : AskedTags → List Attribute → Type 0
LacksGlobals asked m = (p : LargeCommunityPattern) → AsksForLarge asked p → list_any (is_like_large p) (large_communities_of m) ≡ false

-- neither a community nor a large one is
abbrev pub LacksAsked : AskedTags → List Attribute → Type 0
LacksAsked asked m = LacksFirsts asked m × LacksGlobals asked m
