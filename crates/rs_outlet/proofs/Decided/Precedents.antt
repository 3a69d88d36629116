-- What was decided for a client that holds no route at a prefix is decided for each that has the same export rules and holds none there
-- either, where these don't ask who it is; and for one with others, where the rules of both pass all routes there plainly.
use Rattle.std.proofs.Common.{◌≡◌, ◌<◌, ◌+◌, ◌≤◌, ◌∙◌, ℕ, zero, suc, Bool, true, false, ◌||◌, inl, inr, nat_eq, get_or, List, [], ◌∷◌, ◌++◌, Option, Some, None, length, map, take, option_map, refl, sym, ap, subst, arith}
use Rattle.std.specs.Prelude.{Err, IfOk, IfSome, Ok, Result, drop, option_and_then, slice_get, unwrap_or}
use Rattle.std.specs.Map.{keys_of}
use Rattle.std.specs.Arc.{arc_value}
use Rattle.std.specs.List.{All, AllByRecursion, IsDistinct, list_any}
use Rattle.std.proofs.lemmas.Bool.Decides.{nat_tests}
use Rattle.std.proofs.lemmas.List.{append_assoc, append-nil}
use Rattle.std.proofs.lemmas.Map.Keys.{IsDistinct-head, IsDistinct-tail}
use Rattle.std.proofs.lemmas.List.Elements.{All-from_recursion, recursion_from_All}
use Rattle.std.proofs.lemmas.Option.{same_Some}
use Rattle.rs_octets.specs.Prefixes.{Prefix}
use Rattle.rs_attrs.specs.Meaning.{Attribute}
use Rattle.rs_adjin.specs.declared.adj_ins.AdjIns.{AdjIns}
use Rattle.rs_adjin.specs.AdjIns.{number_of}
use Rattle.rs_policy.specs.Alike.{PassesPlainly, ReceiversAreAlike}
use Rattle.rs_policy.specs.Noted.{note_of_import}
use Rattle.rs_policy.specs.Verdicts.{verdict}
use Rattle.rs_decision.specs.Choice.{best_of}
use Rattle.rs_decision.specs.declared.rank.Rank.{Rank}
use Rattle.rs_rows.specs.Rows.{Row, row_at}
use Rattle.rs_outlet.specs.declared.answers.Speech.{Speech}
use Rattle.rs_outlet.specs.declared.changes.Change.{Change}
use Rattle.rs_outlet.specs.Inside.{AreDecided, IsChangeAt, IsDecidedAt, IsOwn, attributes_at, numbers_of, shown}
use Rattle.rs_outlet.specs.Decided.Due.{Held, due_to, holders_at, if_fits, passed_on, ranks_among, route_from}
use Rattle.rs_outlet.specs.declared.filled.Whole.{Whole}
use Rattle.rs_outlet.specs.declared.known.Asked.{Asked}
use Rattle.rs_outlet.specs.declared.known.Known.{Known}
use Rattle.rs_outlet.specs.declared.news.News.{News}
use Rattle.rs_outlet.specs.Decided.News.{AreFree, change_of, seen}
use Rattle.rs_outlet.specs.Decided.Plans.{news_within}
use Rattle.rs_outlet.specs.Decided.Precedents.{AreAlikeForAll, AreDecidedAt, AreDueAlike, AreDueHere, AreKnown, AreListed, AreNewsAt, AreUnheld, HaveSameExports, IsDueAlike, IsDueHere, IsPlainForBoth, ServesAt}
use Rattle.rs_outlet.proofs.Decided.Decisions.{none_decided, one_more_decided}
use Rattle.rs_outlet.proofs.Decided.Numbering.{number_once}
use Rattle.rs_outlet.proofs.Decided.Shared.{IsJudgedAlike, best_has, ranks_same}

-- ---- what is due to both

-- the rules judge the route that a client holds alike on its way to both
abbrev IsJudgedAlikeOf : Held → ℕ → ℕ → Prefix → ℕ → Type 0
IsJudgedAlikeOf t c d p from = (m : List Attribute) → t.held from p ≡ Some m → IsJudgedAlike t c d p (from, m)

of_holder : (t : Held) (c d : ℕ) (p : Prefix) (h : ℕ × List Attribute) → IsJudgedAlike t c d p h → t.held h.0 p ≡ Some h.1 → IsJudgedAlikeOf t c d p h.0
of_holder t c d p h same held m is = subst (λ m. IsJudgedAlike t c d p (h.0, m)) (same_Some h.1 m (sym held ∙ is)) same

of_holders : (t : Held) (c d : ℕ) (p : Prefix) (hs : List (ℕ × List Attribute)) → AllByRecursion (IsJudgedAlike t c d p) hs → AllByRecursion (λ h. t.held h.0 p ≡ Some h.1) hs → AllByRecursion (λ h. IsJudgedAlikeOf t c d p h.0) hs
of_holders t c d p [] same each = tt
of_holders t c d p (h ∷ hs) same each = (of_holder t c d p h same.0 each.0, of_holders t c d p hs same.1 each.1)

route_passed : (t : Held) (c d : ℕ) (speech : Speech) (p : Prefix) (from : ℕ) (m : Option (List Attribute)) → t.held from p ≡ m → IsJudgedAlikeOf t c d p from → route_from t c speech p from ≡ route_from t d speech p from
route_passed t c d speech p from None is same = ap (λ o. option_and_then (if_fits speech p) (option_and_then (λ m. passed_on m (verdict t.settings from c p m)) o)) is ∙ sym (ap (λ o. option_and_then (if_fits speech p) (option_and_then (λ m. passed_on m (verdict t.settings from d p m)) o)) is)
route_passed t c d speech p from (Some m) is same =
    ap (λ o. option_and_then (if_fits speech p) (option_and_then (λ m. passed_on m (verdict t.settings from c p m)) o)) is
    ∙ ap (λ j. option_and_then (if_fits speech p) (passed_on m j)) (same m is)
    ∙ sym (ap (λ o. option_and_then (if_fits speech p) (option_and_then (λ m. passed_on m (verdict t.settings from d p m)) o)) is)

abbrev from_best : Held → ℕ → Speech → Prefix → Option Rank → Option (List Attribute)
from_best t c speech p best = option_and_then (λ best. route_from t c speech p best.place) best

-- of which routes the same becomes for both, and who hold nothing at a prefix, are due the same there
due_alike : (t : Held) (c d : ℕ) (speech : Speech) (p : Prefix) (hs : List (ℕ × List Attribute)) → hs ≡ holders_at t p → AllByRecursion (IsJudgedAlike t c d p) hs → AllByRecursion (λ h. t.held h.0 p ≡ Some h.1) hs
    → t.held c p ≡ None → t.held d p ≡ None → due_to t c speech p ≡ due_to t d speech p
due_alike t c d speech p hs all alike each none nor =
    ap (λ hs. from_best t c speech p (best_of (ranks_among t c p hs))) (sym all)
    ∙ by_best (best_of (ranks_among t c p hs)) refl
    ∙ ap (λ ranks. from_best t d speech p (best_of ranks)) (ranks_same t c d p hs alike none nor each)
    ∙ ap (λ hs. from_best t d speech p (best_of (ranks_among t d p hs))) all
  where
    by_best : (best : Option Rank) → best_of (ranks_among t c p hs) ≡ best → from_best t c speech p (best_of (ranks_among t c p hs)) ≡ from_best t d speech p (best_of (ranks_among t c p hs))
    by_best None found = ap (from_best t c speech p) found ∙ sym (ap (from_best t d speech p) found)
    by_best (Some r) found =
        ap (from_best t c speech p) found
        ∙ route_passed t c d speech p r.place (t.held r.place p) refl (best_has (IsJudgedAlikeOf t c d p) t c p hs r found (of_holders t c d p hs alike each))
        ∙ sym (ap (from_best t d speech p) found)

-- those that have the same export rules judge the routes of holders alike, where it doesn't count who they go to
judged_for_all : (t : Held) (c d : ℕ) (p : Prefix) (hs : List (ℕ × List Attribute)) → HaveSameExports t c d → AllByRecursion (λ h. h.0 < length t.settings.clients) hs → AllByRecursion (λ h. ReceiversAreAlike t.settings c h.1) hs → AllByRecursion (IsJudgedAlike t c d p) hs
judged_for_all t c d p [] same known alike = tt
judged_for_all t c d p (h ∷ hs) same known alike = (alike.0 h.0 d p known.0 same, judged_for_all t c d p hs same known.1 alike.1)

-- ---- changes, whoever owns their attributes

abbrev Seen : Type 0
Seen = (ℕ × Prefix) × Option (List Attribute)

all_to : (P : Seen → Type 0) (cs : List Change) → AllByRecursion (λ c. P (seen c)) cs → AllByRecursion P (map seen cs)
all_to P [] all = tt
all_to P (c ∷ cs) all = (all.0, all_to P cs all.1)

all_back : (P : Seen → Type 0) (cs : List Change) → AllByRecursion P (map seen cs) → AllByRecursion (λ c. P (seen c)) cs
all_back P [] all = tt
all_back P (c ∷ cs) all = (all.0, all_back P cs all.1)

pub all_seen : (P : Seen → Type 0) (cs ds : List Change) → map seen ds ≡ map seen cs → AllByRecursion (λ c. P (seen c)) cs → AllByRecursion (λ c. P (seen c)) ds
all_seen P cs ds same all = all_back P ds (subst (AllByRecursion P) (sym same) (all_to P cs all))

numbers_seen : (cs : List Change) → numbers_of cs ≡ map (λ (it : Seen). it.0.0) (map seen cs)
numbers_seen [] = refl
numbers_seen (c ∷ cs) = ap (λ ns. c.number ∷ ns) (numbers_seen cs)

-- whoever owns the attributes, what is decided is
pub decided_seen : (ins : AdjIns) (due_at : Prefix → Option (List Attribute)) (rows : List (Option Row)) (is_in : ℕ → Bool) (cs ds : List Change) → map seen ds ≡ map seen cs → AreDecided ins due_at rows is_in cs → AreDecided ins due_at rows is_in ds
decided_seen ins due_at rows is_in cs ds same h =
    let numbers : numbers_of ds ≡ numbers_of cs = numbers_seen ds ∙ ap (map (λ (it : Seen). it.0.0)) same ∙ sym (numbers_seen cs) in
    record {
      placed = all_seen (λ it. number_of ins it.0.1 ≡ Some it.0.0) cs ds same h.placed;
      due = all_seen (λ it. it.1 ≡ due_at it.0.1) cs ds same h.due;
      own = all_seen (λ it. IsOwn (row_at rows it.0.0) it.0.1) cs ds same h.own;
      once = subst (IsDistinct nat_eq) (sym numbers) h.once;
      within = λ n t. h.within n (ap (list_any (nat_eq n)) (sym numbers) ∙ t);
      all = λ n t f. h.all n t (ap (list_any (nat_eq n)) (sym numbers) ∙ f);
    }

-- ---- what is due alike

due_alike_too : (t : Held) (ins : AdjIns) (c d : ℕ) (speech : Speech) (it : Seen) → HaveSameExports t c d → IsDueAlike t ins c speech it → IsDueAlike t ins d speech it
due_alike_too t ins c d speech it alike h = record {
  placed = h.placed;
  due = λ e too none. h.due e (alike ∙ too) none;
  one = h.one;
  same = sym alike ∙ h.same;
  unheld = h.unheld;
  alike = h.alike;
}

are_due_too : (t : Held) (ins : AdjIns) (c d : ℕ) (speech : Speech) (cs : List Change) → HaveSameExports t c d → AreDueAlike t ins c speech cs → AreDueAlike t ins d speech cs
are_due_too t ins c d speech [] alike h = tt
are_due_too t ins c d speech (x ∷ cs) alike h = (due_alike_too t ins c d speech (seen x) alike h.0, are_due_too t ins c d speech cs alike h.1)

wholes_too : (t : Held) (ins : AdjIns) (c d : ℕ) (speech : Speech) (ws : List Whole) → HaveSameExports t c d → AllByRecursion (λ w. AreDueAlike t ins c speech (map change_of (news_within w))) ws
    → AllByRecursion (λ w. AreDueAlike t ins d speech (map change_of (news_within w))) ws
wholes_too t ins c d speech [] alike h = tt
wholes_too t ins c d speech (w ∷ ws) alike h = (are_due_too t ins c d speech (map change_of (news_within w)) alike h.0, wholes_too t ins c d speech ws alike h.1)

-- what is listed for one is listed for another that has the same export rules
pub listed_too : (t : Held) (ins : AdjIns) (c d : ℕ) (speech : Speech) (cs : List Change) (ws : List Whole) → HaveSameExports t c d → AreListed t ins c speech cs ws → AreListed t ins d speech cs ws
listed_too t ins c d speech cs ws alike h = record {
  changes = are_due_too t ins c d speech cs alike h.changes;
  wholes = wholes_too t ins c d speech ws alike h.wholes;
}

pub listed_is : (t : Held) (ins : AdjIns) (c : ℕ) (speech more : Speech) (cs ds : List Change) (ws xs : List Whole) → more ≡ speech → ds ≡ cs → xs ≡ ws → AreListed t ins c speech cs ws → AreListed t ins c more ds xs
listed_is t ins c speech more cs ds ws xs spoken changes wholes h = subst (λ s. AreListed t ins c s ds xs) (sym spoken) (subst (λ cs. AreListed t ins c speech cs xs) (sym changes) (subst (AreListed t ins c speech cs) (sym wholes) h))

-- ---- what is due here

-- by the same export rules
pub same_here : (t : Held) (ins : AdjIns) (c d : ℕ) (speech : Speech) (it : Seen) → HaveSameExports t c d → IsDueAlike t ins c speech it → IsDueHere t ins d speech it
same_here t ins c d speech it alike h = record { placed = h.placed; due = h.due d alike }

pub all_same_here : (t : Held) (ins : AdjIns) (c d : ℕ) (speech : Speech) (cs : List Change) → HaveSameExports t c d → AreDueAlike t ins c speech cs → AreDueHere t ins d speech cs
all_same_here t ins c d speech [] alike h = tt
all_same_here t ins c d speech (x ∷ cs) alike h = (same_here t ins c d speech (seen x) alike h.0, all_same_here t ins c d speech cs alike h.1)

-- the note of a route is the one that its sender's import list gives it
abbrev IsNoted : Held → Prefix → (ℕ × List Attribute) × ℕ → Type 0
IsNoted t p h = h.1 ≡ note_of_import t.settings h.0.0 p h.0.1

-- routes that go plainly to both are judged alike on the way to the one and to the other, and to each that has the rules of one
judged_plainly : (t : Held) (c d one : ℕ) (p : Prefix) (asked : Asked) (hs : List ((ℕ × List Attribute) × ℕ)) → PassesPlainly t.settings c asked.first → PassesPlainly t.settings d asked.next → HaveSameExports t c one
    → AllByRecursion (λ h. h.0 < length t.settings.clients) (map (λ h. h.0) hs) → AllByRecursion (λ h. ReceiversAreAlike t.settings one h.1) (map (λ h. h.0) hs)
    → AllByRecursion (IsNoted t p) hs → AllByRecursion (IsPlainForBoth asked) hs → AllByRecursion (IsJudgedAlike t one d p) (map (λ h. h.0) hs)
judged_plainly t c d one p asked [] first next same known alike noted plain = tt
judged_plainly t c d one p asked (h ∷ hs) first next same known alike noted plain =
    let note : note_of_import t.settings h.0.0 p h.0.1 ≡ 1 = sym noted.0 ∙ plain.0.0 in (
      alike.0 h.0.0 c p known.0 (sym same) ∙ first h.0.0 p h.0.1 known.0 note plain.0.1 ∙ sym (next h.0.0 p h.0.1 known.0 note plain.0.2),
      judged_plainly t c d one p asked hs first next same known.1 alike.1 noted.1 plain.1,
    )

-- by other export rules, where all routes go plainly to both
pub plain_here : (t : Held) (ins : AdjIns) (c d : ℕ) (speech : Speech) (it : Seen) (asked : Asked) (hs : List ((ℕ × List Attribute) × ℕ)) → map (λ h. h.0) hs ≡ holders_at t it.0.1
    → All (λ h. h.0 < length t.settings.clients) (map (λ h. h.0) hs) → All (λ h. t.held h.0 it.0.1 ≡ Some h.1) (map (λ h. h.0) hs) → All (IsNoted t it.0.1) hs → All (IsPlainForBoth asked) hs
    → PassesPlainly t.settings c asked.first → PassesPlainly t.settings d asked.next → IsDueAlike t ins c speech it → IsDueHere t ins d speech it
plain_here t ins c d speech it asked hs all known each noted plain first next h =
    let gs = map (λ (h : (ℕ × List Attribute) × ℕ). h.0) hs in
    let judged = judged_plainly t c d h.one it.0.1 asked hs first next h.same
    (recursion_from_All (λ (h : ℕ × List Attribute). h.0 < length t.settings.clients) gs known)
    (recursion_from_All (λ (g : ℕ × List Attribute). ReceiversAreAlike t.settings h.one g.1) gs (subst (AreAlikeForAll t h.one) (sym all) h.alike))
    (recursion_from_All (IsNoted t it.0.1) hs noted) (recursion_from_All (IsPlainForBoth asked) hs plain) in
    record {
      placed = h.placed;
      due = λ none.
          sym (due_alike t h.one d speech it.0.1 gs all judged (recursion_from_All (λ (h : ℕ × List Attribute). t.held h.0 it.0.1 ≡ Some h.1) gs each) h.unheld none)
          ∙ h.due h.one h.same h.unheld;
    }

-- news of a block, where what was decided serves at the number of each
pub all_plain_here : (t : Held) (ins : AdjIns) (c d : ℕ) (speech : Speech) (asked : Asked) (ns : List News) → PassesPlainly t.settings c asked.first → PassesPlainly t.settings d asked.next
    → AllByRecursion (λ (n : News). ServesAt t ins d asked n.number) ns → AreDueAlike t ins c speech (map change_of ns) → AreDueHere t ins d speech (map change_of ns)
all_plain_here t ins c d speech asked [] first next serves h = tt
all_plain_here t ins c d speech asked (n ∷ ns) first next serves h = (serves.0 c speech (seen (change_of n)) first next refl h.0, all_plain_here t ins c d speech asked ns first next serves.1 h.1)

-- what is known doesn't depend on where the next is looked for
pub still_known : (t : Held) (ins : AdjIns) (c : ℕ) (speech : Speech) (old new : Known) → new ≡ record old { next = new.next; next_whole = new.next_whole } → AreKnown t ins c speech old → AreKnown t ins c speech new
still_known t ins c speech old new is h = subst (AreKnown t ins c speech) (sym is) (record { other = h.other; listed = h.listed; same = h.same; first = h.first; next = h.next })

-- nothing is known
pub nothing_known : (t : Held) (ins : AdjIns) (c : ℕ) (speech : Speech) (it : Known) → it.changes.now ≡ [] → it.wholes.now ≡ [] → it.asked ≡ None → AreKnown t ins c speech it
nothing_known t ins c speech it changes wholes asked = record {
  other = c;
  listed = listed_is t ins c speech speech [] it.changes.now [] it.wholes.now refl changes wholes (record { changes = tt; wholes = tt });
  same = λ none. refl;
  first = λ marks some. absurd (let f : None ≡ Some marks = sym asked ∙ some in (cc f));
  next = λ marks some. absurd (let f : None ≡ Some marks = sym asked ∙ some in (cc f));
}

-- one more holder of a route that goes plainly to both
pub plain_with : (asked : Asked) (h : (ℕ × List Attribute) × ℕ) (hs : List ((ℕ × List Attribute) × ℕ)) → IsPlainForBoth asked h → All (IsPlainForBoth asked) hs → All (IsPlainForBoth asked) (h ∷ hs)
plain_with asked h hs this rest = All-from_recursion (IsPlainForBoth asked) (h ∷ hs) (this, recursion_from_All (IsPlainForBoth asked) hs rest)

-- one more holder
pub alike_with : (t : Held) (c : ℕ) (h : ℕ × List Attribute) (hs : List (ℕ × List Attribute)) → ReceiversAreAlike t.settings c h.1 → AreAlikeForAll t c hs → AreAlikeForAll t c (h ∷ hs)
alike_with t c h hs this rest =
    let P = λ (h : ℕ × List Attribute). ReceiversAreAlike t.settings c h.1 in
    All-from_recursion P (h ∷ hs) (this, recursion_from_All P hs rest)

-- what is due to a client that holds nothing is due alike, where it doesn't count who the routes go to
pub learned_here : (t : Held) (ins : AdjIns) (c : ℕ) (speech : Speech) (it : Seen) (hs : List (ℕ × List Attribute)) → hs ≡ holders_at t it.0.1 → All (λ h. h.0 < length t.settings.clients) hs → All (λ h. t.held h.0 it.0.1 ≡ Some h.1) hs → AreAlikeForAll t c hs
    → number_of ins it.0.1 ≡ Some it.0.0 → t.held c it.0.1 ≡ None → it.1 ≡ due_to t c speech it.0.1 → IsDueAlike t ins c speech it
learned_here t ins c speech it hs all known each alike placed none is = record {
  placed = placed;
  due = λ d same nor.
      sym
      (due_alike t c d speech it.0.1 hs all
      (judged_for_all t c d it.0.1 hs same (recursion_from_All (λ h. h.0 < length t.settings.clients) hs known) (recursion_from_All (λ h. ReceiversAreAlike t.settings c h.1) hs alike))
      (recursion_from_All (λ h. t.held h.0 it.0.1 ≡ Some h.1) hs each) none nor)
      ∙ sym is;
  one = c;
  same = refl;
  unheld = none;
  alike = subst (AreAlikeForAll t c) all alike;
}

pub due_more : (t : Held) (ins : AdjIns) (c : ℕ) (speech : Speech) (cs : List Change) (x : Change) → AreDueAlike t ins c speech cs → IsDueAlike t ins c speech (seen x) → AreDueAlike t ins c speech (cs ++ x ∷ [])
due_more t ins c speech [] x h is = (is, tt)
due_more t ins c speech (y ∷ cs) x h is = (h.0, due_more t ins c speech cs x h.1 is)

pub due_behind : (t : Held) (ins : AdjIns) (c : ℕ) (speech : Speech) (n : ℕ) (cs : List Change) → AreDueAlike t ins c speech cs → AreDueAlike t ins c speech (drop n cs)
due_behind t ins c speech zero cs h = h
due_behind t ins c speech (suc n) [] h = tt
due_behind t ins c speech (suc n) (x ∷ cs) h = due_behind t ins c speech n cs h.1

pub due_first : (t : Held) (ins : AdjIns) (c : ℕ) (speech : Speech) (n : ℕ) (cs : List Change) → AreDueAlike t ins c speech cs → AreDueAlike t ins c speech (take n cs)
due_first t ins c speech zero cs h = tt
due_first t ins c speech (suc n) [] h = tt
due_first t ins c speech (suc n) (x ∷ cs) h = (h.0, due_first t ins c speech n cs h.1)

-- ---- one number after the other

or_move : (a b c : Bool) → (a || (b || c)) ≡ ((b || a) || c)
or_move true true c = refl
or_move true false c = refl
or_move false true c = refl
or_move false false c = refl

or_nothing : (a : Bool) → (a || false) ≡ a
or_nothing true = refl
or_nothing false = refl

module _ (ins : AdjIns) (due_at : Prefix → Option (List Attribute)) (rows : List (Option Row)) where
  pub decided_join : (ns ms : List ℕ) (a b c : List Change) → AreDecidedAt ins due_at rows ns a b → AreDecidedAt ins due_at rows ms b c → AreDecidedAt ins due_at rows (ns ++ ms) a c
  decided_join [] ms a b c first second = subst (λ x. AreDecidedAt ins due_at rows ms x c) first second
  decided_join (n ∷ ns) ms a b c first second = (first.0, first.1, decided_join ns ms first.0 b c first.2 second)

  pub decided_news : (ns : List News) (old : List Change) → AllByRecursion (λ (n : News). IsChangeAt ins due_at rows n.number (change_of n)) ns → AreDecidedAt ins due_at rows (numbers_of (map change_of ns)) old (old ++ map change_of ns)
  decided_news [] old each = append-nil old
  decided_news (n ∷ ns) old each = (
    old ++ change_of n ∷ [],
    inr (change_of n, each.0, refl),
    subst (λ cs. AreDecidedAt ins due_at rows (numbers_of (map change_of ns)) (old ++ change_of n ∷ []) cs) (append_assoc old (change_of n ∷ []) (map change_of ns)) (decided_news ns (old ++ change_of n ∷ []) each.1),
  )

  others : (d : ℕ → Bool) (n : ℕ) (ks : List ℕ) → AllByRecursion (λ k. nat_eq n k ≡ false) ks → AllByRecursion (λ k. d k ≡ false) ks → AllByRecursion (λ k. (nat_eq k n || d k) ≡ false) ks
  others d n [] apart off = tt
  others d n (k ∷ ks) apart off = (
    (let h = apart.0 in let e : nat_eq k n ≡ false = grind (arith, nat_tests, h) in ap (λ b. b || d k) e ∙ off.0),
    others d n ks apart.1 off.1,
  )

  decided_more : (ns : List ℕ) (d : ℕ → Bool) (old new : List Change) → IsDistinct nat_eq ns → AllByRecursion (λ k. d k ≡ false) ns → AreDecided ins due_at rows d old → AreDecidedAt ins due_at rows ns old new
      → AreDecided ins due_at rows (λ m. list_any (nat_eq m) ns || d m) new
  decided_more [] d old new once off h are = subst (AreDecided ins due_at rows d) (sym are) h
  decided_more (n ∷ ns) d old new once off h are =
      let one = one_more_decided ins due_at rows d (λ m. nat_eq m n || d m) n old are.0 h off.0 are.1 (λ m. refl) in
      subst (λ f. AreDecided ins due_at rows f new) (λ i m. or_move (list_any (nat_eq m) ns) (nat_eq m n) (d m) i)
      (decided_more ns (λ m. nat_eq m n || d m) are.0 new (IsDistinct-tail nat_eq n ns once) (others d n ns (IsDistinct-head nat_eq n ns once) off.1) one are.2)

  none_off : (ns : List ℕ) → AllByRecursion (λ k. false ≡ false) ns
  none_off [] = tt
  none_off (n ∷ ns) = (refl, none_off ns)

  -- what was decided at these numbers, one after the other, is decided
  pub decided_all : (ns : List ℕ) (cs : List Change) → IsDistinct nat_eq ns → AreDecidedAt ins due_at rows ns [] cs → AreDecided ins due_at rows (λ m. list_any (nat_eq m) ns) cs
  decided_all ns cs once are =
      subst (λ f. AreDecided ins due_at rows f cs) (λ i m. or_nothing (list_any (nat_eq m) ns) i)
      (decided_more ns (λ m. false) [] cs once (none_off ns) (none_decided ins due_at rows (λ m. false) [] refl (λ m. refl)) are)

free_is_own : (rows : List (Option Row)) (n : ℕ) (p : Prefix) → row_at rows n ≡ None → IsOwn (row_at rows n) p
free_is_own rows n p free = λ r there. absurd (let f : None ≡ Some r = sym free ∙ there in (cc f))

-- a route that is due here, to a client that holds none, whose row is free
change_here : (t : Held) (ins : AdjIns) (c : ℕ) (speech : Speech) (rows : List (Option Row)) (n : ℕ) (x : Change) → IsDueHere t ins c speech (seen x) → x.number ≡ n → ((p : Prefix) → number_of ins p ≡ Some n → t.held c p ≡ None) → row_at rows n ≡ None
    → IsChangeAt ins (due_to t c speech) rows n x
change_here t ins c speech rows n x h is unheld free =
    let placed : number_of ins x.prefix ≡ Some n = h.placed ∙ ap (λ k. Some k) is in
    record {
      number = is;
      placed = placed;
      due = sym (h.due (unheld x.prefix placed));
      own = free_is_own rows n x.prefix free;
    }

pub news_here : (t : Held) (ins : AdjIns) (c : ℕ) (speech : Speech) (rows : List (Option Row)) (ns : List News) → AreDueHere t ins c speech (map change_of ns) → AreUnheld t ins c (numbers_of (map change_of ns)) → AreFree rows ns
    → AllByRecursion (λ (n : News). IsChangeAt ins (due_to t c speech) rows n.number (change_of n)) ns
news_here t ins c speech rows [] h unheld free = tt
news_here t ins c speech rows (n ∷ ns) h unheld free = (change_here t ins c speech rows n.number (change_of n) h.0 refl unheld.0 free.0, news_here t ins c speech rows ns h.1 unheld.1 free.1)

-- what is due here to a client that holds nothing, as news
known_news : (t : Held) (ins : AdjIns) (c : ℕ) (speech : Speech) (n : ℕ) (x : Change) (found : Option News) → IsDueHere t ins c speech (seen x) → x.number ≡ n → ((p : Prefix) → number_of ins p ≡ Some n → t.held c p ≡ None)
    → IfSome found (λ (news : News). seen (change_of news) ≡ seen x) → (found ≡ None → x.due ≡ None) → AreNewsAt ins (due_to t c speech) n found
known_news t ins c speech n x (Some news) h is unheld same none =
    let placed : number_of ins x.prefix ≡ Some n = h.placed ∙ ap (λ k. Some k) is in
    record {
      placed = (ap (λ (s : Seen). s.0.0) same ∙ is, ap (λ (s : Seen). number_of ins s.0.1) same ∙ placed);
      due = λ p at. ap (λ (s : Seen). s.1) same ∙ sym (h.due (unheld x.prefix placed)) ∙ ap (due_to t c speech) (number_once ins x.prefix p n placed at);
    }
known_news t ins c speech n x None h is unheld same none =
    let placed : number_of ins x.prefix ≡ Some n = h.placed ∙ ap (λ k. Some k) is in
    record {
      placed = tt;
      due = λ p at. sym (ap (option_map arc_value) (none refl)) ∙ sym (h.due (unheld x.prefix placed)) ∙ ap (due_to t c speech) (number_once ins x.prefix p n placed at);
    }

pub news_made : {E : Type 0} (t : Held) (ins : AdjIns) (c : ℕ) (speech : Speech) (n : ℕ) (x : Change) (made : Result (Option News) E) → IsDueHere t ins c speech (seen x) → x.number ≡ n → ((p : Prefix) → number_of ins p ≡ Some n → t.held c p ≡ None)
    → IfOk made (λ found. IfSome found (λ (news : News). seen (change_of news) ≡ seen x)) → IfOk made (λ found. found ≡ None → x.due ≡ None) → IfOk made (AreNewsAt ins (due_to t c speech) n)
news_made t ins c speech n x (Ok found) h is unheld same none = known_news t ins c speech n x found h is unheld same none
news_made t ins c speech n x (Err e) h is unheld same none = tt

-- news at a number whose row is free are a change there
pub one_here : (ins : AdjIns) (due_at : Prefix → Option (List Attribute)) (rows : List (Option Row)) (n : ℕ) (news : News) → AreNewsAt ins due_at n (Some news) → row_at rows n ≡ None
    → (old new : List Change) → new ≡ old ++ change_of news ∷ [] → AreDecidedAt ins due_at rows (n ∷ []) old new
one_here ins due_at rows n news h free old new more = (
  new,
  inr (change_of news, record { number = h.placed.0; placed = h.placed.1; due = h.due news.prefix h.placed.1; own = free_is_own rows n news.prefix free }, more),
  refl,
)

-- where there is none, the row has what is due
pub none_here : (ins : AdjIns) (due_at : Prefix → Option (List Attribute)) (rows : List (Option Row)) (n : ℕ) → AreNewsAt ins due_at n None → row_at rows n ≡ None → (old : List Change) → AreDecidedAt ins due_at rows (n ∷ []) old old
none_here ins due_at rows n h free old = (old, inl (refl, λ p at. ap shown free ∙ h.due p at), refl)

-- the numbers of the first entries
abbrev no_entries : List (ℕ × Prefix)
no_entries = []

pub keys_one : (es : List (ℕ × Prefix)) (e : ℕ × Prefix) → 0 < length es → e ≡ get_or es 0 e → keys_of (take 1 es) ≡ e.0 ∷ []
keys_one [] e some is = absurd (omega (arith, some))
keys_one (x ∷ es) e some is = ap (λ (y : ℕ × Prefix). y.0 ∷ []) (sym is)

taken_none : (k : ℕ) → keys_of (take k no_entries) ≡ []
taken_none zero = refl
taken_none (suc k) = refl

pub keys_all : (es : List (ℕ × Prefix)) (k : ℕ) → length es ≤ k → keys_of (take k es) ≡ keys_of es
keys_all [] k all = taken_none k
keys_all (x ∷ es) zero all = absurd (omega (arith, all))
keys_all (x ∷ es) (suc k) all = ap (λ ks. x.0 ∷ ks) (keys_all es k (omega (arith, all)))

pub keys_more : (es : List (ℕ × Prefix)) (a b : ℕ) → keys_of (take (a + b) es) ≡ keys_of (take a es) ++ keys_of (take b (drop a es))
keys_more es zero b = ap (λ k. keys_of (take k es)) (let e : zero + b ≡ b = omega arith in e)
keys_more [] (suc a) b = taken_none (suc a + b) ∙ sym (taken_none b)
keys_more (x ∷ es) (suc a) b = ap (λ k. keys_of (take k (x ∷ es))) (let e : suc a + b ≡ suc (a + b) = omega arith in e) ∙ ap (λ ks. x.0 ∷ ks) (keys_more es a b)

-- what was just decided, by the change that it was
got_end : (cs : List Change) → slice_get cs (length cs) ≡ None
got_end [] = refl
got_end (c ∷ cs) = got_end cs

got_last : (cs : List Change) (c : Change) → slice_get (cs ++ c ∷ []) (length cs) ≡ Some c
got_last [] c = refl
got_last (x ∷ cs) c = got_last cs c

pub decided_so : (ins : AdjIns) (due_at : Prefix → Option (List Attribute)) (rows : List (Option Row)) (n : ℕ) (old new : List Change) (o : Option Change) → IsDecidedAt ins due_at rows n old new → o ≡ slice_get new (length old)
    → (p : Prefix) → number_of ins p ≡ Some n → unwrap_or (option_map (λ (c : Change). option_map arc_value c.due) o) (attributes_at rows n) ≡ due_at p
decided_so ins due_at rows n old new o (inl is) there p at =
    let none : o ≡ None = there ∙ ap (λ cs. slice_get cs (length old)) is.0 ∙ got_end old in
    ap (λ o. unwrap_or (option_map (λ (c : Change). option_map arc_value c.due) o) (attributes_at rows n)) none ∙ is.1 p at
decided_so ins due_at rows n old new o (inr is) there p at =
    let some : o ≡ Some is.0 = there ∙ ap (λ cs. slice_get cs (length old)) is.2 ∙ got_last old is.0 in
    ap (λ o. unwrap_or (option_map (λ (c : Change). option_map arc_value c.due) o) (attributes_at rows n)) some ∙ is.1.due ∙ ap due_at (number_once ins is.0.prefix p n is.1.placed at)

pub wholes_push : (t : Held) (ins : AdjIns) (c : ℕ) (speech : Speech) (ws : List Whole) (w : Whole) → AllByRecursion (λ w. AreDueAlike t ins c speech (map change_of (news_within w))) ws → AreDueAlike t ins c speech (map change_of (news_within w))
    → AllByRecursion (λ w. AreDueAlike t ins c speech (map change_of (news_within w))) (ws ++ w ∷ [])
wholes_push t ins c speech [] w h is = (is, tt)
wholes_push t ins c speech (x ∷ ws) w h is = (h.0, wholes_push t ins c speech ws w h.1 is)
