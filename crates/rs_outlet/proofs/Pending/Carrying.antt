-- What a change that is carried out leaves of what was told, and of what waits.
use Rattle.std.proofs.Common.{◌≡◌, ◌≤◌, ◌+◌, length, arith, Bool, true, false, cond, ◌&&◌, ◌||◌, Option, None, Some, List, [], ◌∷◌, ◌++◌, refl, sym, ap, ◌∙◌, subst}
use Rattle.std.specs.Prelude.{IfSome, is_some, option_map, nat_eq}
use mathlib.Core.Bool.{true≢false}
use Rattle.std.specs.List.{AllByRecursion, IsDistinct, list_any}
use Rattle.std.specs.Arc.{arc_value}
use Rattle.std.proofs.lemmas.Bool.{or_parts}
use Rattle.std.proofs.Math.Bool.{or-false}
use Rattle.rs_octets.specs.Prefixes.{Prefix}
use Rattle.rs_attrs.specs.Meaning.{Attribute}
use Rattle.rs_adjin.specs.declared.adj_ins.AdjIns.{AdjIns}
use Rattle.rs_adjin.specs.AdjIns.{number_of}
use Rattle.rs_rows.specs.Rows.{Row}
use Rattle.rs_outlet.specs.declared.waiting.Wait.{Wait}
use Rattle.rs_outlet.specs.declared.changes.Change.{Change}
use Rattle.rs_outlet.specs.Inside.{ArePlaced, numbers_of}
use Rattle.rs_outlet.specs.Pending.Slots.{AreFresh, open_at, prefixes_at, told_by, marked_by, marked_told}
use Rattle.rs_outlet.specs.Pending.Owed.{IsCarriedOut, IsExactAt, IsOpenAt, IsOwed, Keeps, listed, prefixes_of}
use Rattle.rs_outlet.proofs.Decided.LocByNumber.{same, same_is}
use Rattle.rs_outlet.proofs.Decided.Numbering.{all_both, all_nil}
use Rattle.rs_outlet.proofs.Pending.Adding.{first_alone, first_of_two, not_listed, open_both}
use Rattle.rs_outlet.proofs.Pending.Slots.{flips}
use Rattle.rs_outlet.proofs.Decided.Touches.{prefix_eq-cmp}
use Rattle.rs_outlet.proofs.Decided.TouchedNumbers.{eq_numbers}

-- ---- what stays at one prefix

pub keeps_same : (o : Option Wait) (d : Option (List Attribute)) (o' : Option Wait) (d' : Option (List Attribute)) → o' ≡ o → d' ≡ d → Keeps o d o' d'
keeps_same o d o' d' e f = record {
  told = λ i. told_by (e i) (f i);
  marked = λ i. marked_told (e i) (f i);
  exact = λ h. subst (λ x. IsExactAt x d') (sym e) (subst (IsExactAt o) (sym f) h);
}

pub keeps_both : (o : Option Wait) (d : Option (List Attribute)) (p : Option Wait) (e : Option (List Attribute)) (q : Option Wait) (f : Option (List Attribute)) → Keeps o d p e → Keeps p e q f → Keeps o d q f
keeps_both o d p e q f h k = record {
  told = k.told ∙ h.told;
  marked = k.marked ∙ h.marked;
  exact = λ x. k.exact (h.exact x);
}

marked_split : (o : Option Wait) (d : Option (List Attribute)) → marked_told o d ≡ (marked_by o && is_some (told_by o d))
marked_split None d = refl
marked_split (Some w) d = refl

keeps_owed : (o : Option Wait) (d : Option (List Attribute)) (o' : Option Wait) (d' : Option (List Attribute)) → IsOwed o' d' (told_by o d) (marked_by o) → Keeps o d o' d'
keeps_owed o d o' d' is = record {
  told = is.tells;
  marked = is.marks ∙ sym (marked_split o d);
  exact = λ _. is.exact;
}

-- ---- what stands at a prefix of two lists

same_twice : {A : Type 0} (b : Bool) (x : A) → cond b x x ≡ x
same_twice true x = refl
same_twice false x = refl

open_listed : (p q : Prefix) (o : Option Wait) → IfSome o (IsOpenAt p) → open_at q (listed o) ≡ cond (same q p) o None
open_listed p q None h = sym (same_twice (same q p) None)
open_listed p q (Some w) h = λ i. cond (h.1 i && same q (h.0 i)) (Some w) None

any_listed : (p q : Prefix) (o : Option Wait) → IfSome o (IsOpenAt p) → same q p ≡ false → list_any (same q) (prefixes_at (listed o)) ≡ false
any_listed p q None h is = refl
any_listed p q (Some w) h is = ap (λ (r : Prefix). same q r || false) h.0 ∙ ap (λ b. b || false) is

any_both : (q : Prefix) (ws more : List Wait) (b c : Bool) → list_any (same q) (prefixes_at ws) ≡ b → list_any (same q) (prefixes_at more) ≡ c → list_any (same q) (prefixes_at (ws ++ more)) ≡ (b || c)
any_both q [] more b c h k = k ∙ ap (λ b. b || c) h
any_both q (w ∷ ws) more b c h k =
    ap (λ x. same q w.prefix || x) (any_both q ws more (list_any (same q) (prefixes_at ws)) c refl k)
    ∙ three (same q w.prefix) (list_any (same q) (prefixes_at ws)) c
    ∙ ap (λ b. b || c) h
  where
    three : (x y z : Bool) → (x || (y || z)) ≡ ((x || y) || z)
    three true y z = refl
    three false y z = refl

length_added : (fs : List Wait) (o : Option Wait) → length (fs ++ listed o) ≤ length fs + 1
length_added [] None = omega arith
length_added [] (Some w) = omega arith
length_added (f ∷ fs) o = omega (arith, length_added fs o)

-- ---- before the first change

pub none_fresh : (ws fs : List Wait) → fs ≡ [] → AreFresh ws fs
unfolding IsDistinct
none_fresh ws fs none = subst (AreFresh ws) (sym none) (record { waiting = tt; apart = tt; alone = λ q there. absurd (true≢false (sym there)) })

pub none_unlisted : (fs : List Wait) (cs : List Change) → fs ≡ [] → AllByRecursion (λ q. list_any (same q) (prefixes_at fs) ≡ false) (prefixes_of cs)
none_unlisted fs [] none = tt
none_unlisted fs (c ∷ cs) none = (ap (λ xs. list_any (same c.prefix) (prefixes_at xs)) none, none_unlisted fs cs none)

pub none_more : (q : Prefix) (ws fs : List Wait) → fs ≡ [] → open_at q (ws ++ fs) ≡ open_at q ws
none_more q ws fs none = ap (λ xs. open_at q (ws ++ xs)) none ∙ ap (open_at q) (all_nil ws)

-- ---- a change carried out

module _ (c : Change) (was_due : Option (List Attribute)) (rows : List (Option Row)) (ws fs ws' fs' : List Wait) (h : IsCarriedOut c was_due rows ws fs ws' fs') where
  -- what stands after it, at its prefix and elsewhere
  pub here : (q : Prefix) → same q c.prefix ≡ true → open_at q fs ≡ None → open_at q (ws' ++ fs') ≡ h.wait
  here q is none =
      open_both q ws' fs'
      ∙ ap (λ o. first_of_two o (open_at q fs')) (h.closed q ∙ ap (λ b. cond b None (open_at q ws)) is)
      ∙ ap (open_at q) h.added ∙ open_both q fs (listed h.wait)
      ∙ ap (λ o. first_of_two o (open_at q (listed h.wait))) none
      ∙ open_listed c.prefix q h.wait h.slot ∙ ap (λ b. cond b h.wait None) is

  pub apart : (q : Prefix) → same q c.prefix ≡ false → open_at q (ws' ++ fs') ≡ open_at q (ws ++ fs)
  apart q is =
      let kept : open_at q fs' ≡ open_at q fs =
      ap (open_at q) h.added ∙ open_both q fs (listed h.wait)
      ∙ ap (first_of_two (open_at q fs)) (open_listed c.prefix q h.wait h.slot ∙ ap (λ b. cond b h.wait None) is) ∙ first_alone (open_at q fs) in
      open_both q ws' fs'
      ∙ ap (λ o. first_of_two o (open_at q fs')) (h.closed q ∙ ap (λ b. cond b None (open_at q ws)) is)
      ∙ ap (first_of_two (open_at q ws)) kept
      ∙ sym (open_both q ws fs)

  pub keeps_step : list_any (same c.prefix) (prefixes_at fs) ≡ false → (q : Prefix) (b : Bool) (old new : Option (List Attribute)) → same q c.prefix ≡ b → (b ≡ true → old ≡ was_due) → new ≡ cond b (option_map arc_value c.due) old
      → Keeps (open_at q (ws ++ fs)) old (open_at q (ws' ++ fs')) new
  keeps_step none q true old new is was now =
      let at = same_is q c.prefix is in
      let empty : open_at q fs ≡ None = not_listed q fs (ap (λ r. list_any (same r) (prefixes_at fs)) at ∙ none) in
      let before : open_at q (ws ++ fs) ≡ open_at c.prefix ws = open_both q ws fs ∙ ap (first_of_two (open_at q ws)) empty ∙ first_alone (open_at q ws) ∙ ap (λ r. open_at r ws) at in
      keeps_both _ _ _ _ _ _ (keeps_same _ _ (open_at c.prefix ws) was_due (sym before) (sym (was refl)))
      (keeps_both _ _ _ _ _ _ (keeps_owed (open_at c.prefix ws) was_due h.wait (option_map arc_value c.due) h.owed)
      (keeps_same h.wait (option_map arc_value c.due) _ _ (here q is empty) now))
  keeps_step none q false old new is was now = keeps_same _ _ _ _ (apart q is) now

  -- the fresh slots stay each of a prefix of its own
  all_added : (fs : List Wait) (o : Option Wait) (P : Prefix → Type 0) → IfSome o (IsOpenAt c.prefix) → P c.prefix → AllByRecursion P (prefixes_at fs) → AllByRecursion P (prefixes_at (fs ++ listed o))
  all_added [] None P is p all = tt
  all_added [] (Some w) P is p all = (subst P (sym is.0) p, tt)
  all_added (f ∷ fs) o P is p all = (all.0, all_added fs o P is p all.1)

  distinct : (fs : List Wait) (o : Option Wait) → IfSome o (IsOpenAt c.prefix) → list_any (same c.prefix) (prefixes_at fs) ≡ false → IsDistinct same (prefixes_at fs) → IsDistinct same (prefixes_at (fs ++ listed o))
  unfolding IsDistinct
  distinct [] None is none d = tt
  distinct [] (Some w) is none d = (tt, tt)
  distinct (f ∷ fs) o is none d =
      let both = or_parts (same c.prefix f.prefix) (list_any (same c.prefix) (prefixes_at fs)) none in
      (all_added fs o (λ q. same f.prefix q ≡ false) is (flips f.prefix c.prefix ∙ both.0) d.0, distinct fs o is both.1 d.1)

  listed_open : (o : Option Wait) → IfSome o (IsOpenAt c.prefix) → AllByRecursion (λ w. w.open ≡ true) (listed o)
  listed_open None is = tt
  listed_open (Some w) is = (is.1, tt)

  alone_step : AreFresh ws fs → (q : Prefix) (b : Bool) → same q c.prefix ≡ b → list_any (same q) (prefixes_at (fs ++ listed h.wait)) ≡ true → open_at q ws' ≡ None
  alone_step are q true is there = h.closed q ∙ ap (λ b. cond b None (open_at q ws)) is
  alone_step are q false is there =
      h.closed q ∙ ap (λ b. cond b None (open_at q ws)) is
      ∙ are.alone q (sym (or-false (list_any (same q) (prefixes_at fs))) ∙ sym (any_both q fs (listed h.wait) (list_any (same q) (prefixes_at fs)) false refl (any_listed c.prefix q h.wait h.slot is)) ∙ there)

  pub fresh_step : list_any (same c.prefix) (prefixes_at fs) ≡ false → AreFresh ws fs → AreFresh ws' fs'
  fresh_step none are = subst (AreFresh ws') (sym h.added) (record {
    waiting = all_both (λ w. w.open ≡ true) fs (listed h.wait) are.waiting (listed_open h.wait h.slot);
    apart = distinct fs h.wait h.slot none are.apart;
    alone = λ q there. alone_step are q (same q c.prefix) refl there;
  })

  pub unlisted_step : (q : Prefix) → same q c.prefix ≡ false → list_any (same q) (prefixes_at fs) ≡ false → list_any (same q) (prefixes_at fs') ≡ false
  unlisted_step q is none = ap (λ xs. list_any (same q) (prefixes_at xs)) h.added ∙ any_both q fs (listed h.wait) false false none (any_listed c.prefix q h.wait h.slot is)

  pub length_step : length fs' ≤ length fs + 1
  length_step = omega (arith, ap length h.added, length_added fs h.wait)

-- those that are left are not listed yet
pub unlisted_rest : (c : Change) (rest : List Change) (fs fs' : List Wait) → ((q : Prefix) → same q c.prefix ≡ false → list_any (same q) (prefixes_at fs) ≡ false → list_any (same q) (prefixes_at fs') ≡ false)
    → AllByRecursion (λ q. same c.prefix q ≡ false) (prefixes_of rest) → AllByRecursion (λ q. list_any (same q) (prefixes_at fs) ≡ false) (prefixes_of rest) → AllByRecursion (λ q. list_any (same q) (prefixes_at fs') ≡ false) (prefixes_of rest)
unlisted_rest c [] fs fs' step others none = tt
unlisted_rest c (d ∷ rest) fs fs' step others none = (step d.prefix (flips d.prefix c.prefix ∙ others.0) none.0, unlisted_rest c rest fs fs' step others.1 none.1)

-- ---- changes at numbers of their own have prefixes of their own

other_prefixes : (ins : AdjIns) (c : Change) (cs : List Change) → number_of ins c.prefix ≡ Some c.number → ArePlaced cs ins → AllByRecursion (λ n. nat_eq c.number n ≡ false) (numbers_of cs) → AllByRecursion (λ q. same c.prefix q ≡ false) (prefixes_of cs)
other_prefixes ins c [] at h others = tt
other_prefixes ins c (d ∷ cs) at h others = (prefix_eq-cmp c.prefix d.prefix ∙ eq_numbers ins c.prefix d.prefix c.number d.number at h.0 ∙ others.0, other_prefixes ins c cs at h.1 others.1)

pub distinct_prefixes : (ins : AdjIns) (cs : List Change) → ArePlaced cs ins → IsDistinct nat_eq (numbers_of cs) → IsDistinct same (prefixes_of cs)
unfolding IsDistinct
distinct_prefixes ins [] h d = tt
distinct_prefixes ins (c ∷ cs) h d = (other_prefixes ins c cs h.0 h.1 d.0, distinct_prefixes ins cs h.1 d.1)
