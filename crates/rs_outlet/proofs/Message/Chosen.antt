-- Slots chosen for a message: one more of them, and the first of them given up.
use Rattle.std.proofs.Common.{◌≡◌, ◌+◌, ◌<◌, ◌≤◌, ℕ, zero, suc, Bool, true, false, cond, not, ◌&&◌, ◌||◌, Option, None, Some, List, [], ◌∷◌, ◌++◌, length, take, get_or, slice_set, refl, sym, ap, ◌∙◌, subst, arith, inl, inr}
use Rattle.std.specs.Prelude.{◌⊎◌, option_map, slice_get}
use mathlib.Core.Bool.{true≢false}
use Rattle.std.specs.List.{list_any}
use Rattle.rs_octets.specs.Prefixes.{Prefix, IsIpv4Prefix}
use Rattle.rs_attrs.specs.Meaning.{Attribute}
use Rattle.std.proofs.Math.Bool.{or-false}
use Rattle.std.proofs.lemmas.Bool.{and_parts}
use Rattle.std.proofs.lemmas.List.{get_or_default}
use Rattle.rs_open.specs.Notes.{limit_octets}
use Rattle.rs_packer.specs.Packed.{announcement}
use Rattle.rs_outlet.specs.declared.answers.Speech.{Speech}
use Rattle.rs_outlet.specs.Inside.{AreBacked, FitsAlone, IsBacked, RowsFit, prefix_and_hash, row_by}
use Rattle.rs_rows.specs.Rows.{Row}
use Rattle.rs_outlet.specs.declared.waiting.Due.{Due}
use Rattle.rs_outlet.specs.declared.waiting.Due.TheVariants as due
use Rattle.rs_outlet.specs.declared.waiting.Wait.{Wait}
use Rattle.rs_outlet.specs.Pending.Slots.{AreApart, IsShut, open_at, is_announced, is_withdrawn, is_withdrawal}
use Rattle.rs_outlet.specs.Pending.Choosing.{HasRow, IsChosen, IsLeast, AreChosen, NoneOpen, WaitsFor}
use Rattle.rs_outlet.proofs.Decided.LocByNumber.{same, same_is, same_itself}
use Rattle.rs_outlet.proofs.Pending.Apart.{found_apart, shut_again, shut_apart_at, stands_somewhere}
use Rattle.rs_adjin.proofs.TableRows.{set_apart, set_here}
use Rattle.std.proofs.lemmas.Bool.{cases_eq}
use Rattle.std.proofs.lemmas.Option.{same_Some, slice_get_read, slice_get_within}

none_both : {A : Type 0} (b : Bool) → ◌≡◌ {A = Option A} (cond b None None) None
none_both true = refl
none_both false = refl

pub cond_or : {A : Type 0} (a b : Bool) (o : Option A) → cond a None (cond b None o) ≡ cond (b || a) None o
cond_or a true o = none_both a
cond_or a false o = refl

module _ (rows : List (Option Row)) (ws : List Wait) (said : Option (List Attribute)) where
  push : (ns : List ℕ) (ps : List Prefix) (n : ℕ) (p : Prefix) → AreChosen rows ws said ns ps → IsChosen rows ws said n p → AreChosen rows ws said (ns ++ n ∷ []) (ps ++ p ∷ [])
  push [] [] n p are is = (is, tt)
  push [] (r ∷ ps) n p are is = absurd are
  push (m ∷ ns) [] n p are is = absurd are
  push (m ∷ ns) (r ∷ ps) n p are is = (are.0, push ns ps n p are.1 is)

  pub pushed : (ns ns' : List ℕ) (ps ps' : List Prefix) (n : ℕ) (p : Prefix) → ns' ≡ ns ++ n ∷ [] → ps' ≡ ps ++ p ∷ [] → AreChosen rows ws said ns ps → IsChosen rows ws said n p → AreChosen rows ws said ns' ps'
  pushed ns ns' ps ps' n p a b are is =
      subst (λ ks. AreChosen rows ws said ks ps') (sym a)
      (subst (AreChosen rows ws said (ns ++ n ∷ [])) (sym b) (push ns ps n p are is))

  pub as_many : (ns : List ℕ) (ps : List Prefix) → AreChosen rows ws said ns ps → length ns ≡ length ps
  as_many [] [] are = refl
  as_many [] (p ∷ ps) are = absurd are
  as_many (n ∷ ns) [] are = absurd are
  as_many (n ∷ ns) (p ∷ ps) are = ap suc (as_many ns ps are.1)

  pub first_chosen : (k : ℕ) (ns : List ℕ) (ps : List Prefix) → AreChosen rows ws said ns ps → AreChosen rows ws said (take k ns) (take k ps)
  first_chosen zero ns ps are = tt
  first_chosen (suc k) [] [] are = tt
  first_chosen (suc k) [] (p ∷ ps) are = absurd are
  first_chosen (suc k) (n ∷ ns) [] are = absurd are
  first_chosen (suc k) (n ∷ ns) (p ∷ ps) are = (are.0, first_chosen k ns ps are.1)

  -- the next slot
  pub next_chosen : (ns : List ℕ) (ps : List Prefix) (i d : ℕ) → AreChosen rows ws said ns ps → i < length ns
      → (w : Wait) × (slice_get ws (get_or ns i d) ≡ Some w) × (w.open ≡ true) × ((q : Prefix) → list_any (same q) (take (i + 1) ps) ≡ (list_any (same q) (take i ps) || same q w.prefix))
  next_chosen [] ps i d are below = absurd (omega (arith, below))
  next_chosen (n ∷ ns) [] i d are below = absurd are
  next_chosen (n ∷ ns) (p ∷ ps) zero d are below = (are.0.wait, are.0.at, are.0.opened, λ q. or-false (same q p) ∙ ap (same q) (sym are.0.prefix))
  next_chosen (n ∷ ns) (p ∷ ps) (suc i) d are below =
      let r = next_chosen ns ps i d are.1 (omega (arith, below)) in
      let e : suc i + 1 ≡ suc (i + 1) = omega arith in
      (r.0, r.1, r.2, λ q. ap (λ k. list_any (same q) (take k (p ∷ ps))) e ∙ or_more (same q p) (list_any (same q) (take (i + 1) ps)) (list_any (same q) (take i ps)) (same q r.0.prefix) (r.3 q))
    where
      or_more : (a b c e : Bool) → b ≡ (c || e) → (a || b) ≡ ((a || c) || e)
      or_more true b c e h = refl
      or_more false b c e h = h

-- the slots left, as some are given up: each stands as it was, or it waits no more and nothing of its prefix does
abbrev pub AreLeft : List Wait → List Wait → Type 0
AreLeft old now = (n : ℕ) (w : Wait) → slice_get old n ≡ Some w → w.open ≡ true → (slice_get now n ≡ Some w) ⊎ ((v : Wait) × (slice_get now n ≡ Some v) × (v.open ≡ false) × (open_at w.prefix now ≡ None))

module _ (old now new : List Wait) (apart : AreApart now) (left : AreLeft old now) (n : ℕ) (w : Wait) (at : slice_get old n ≡ Some w) (opened : w.open ≡ true) (shut : IsShut n now new) where
  nothing_of : open_at w.prefix now ≡ None → (q : Prefix) (b : Bool) → same q w.prefix ≡ b → open_at q now ≡ cond b None (open_at q now)
  nothing_of none q true is = ap (λ p. open_at p now) (same_is q w.prefix is) ∙ none
  nothing_of none q false is = refl

  -- what waits once it is given up
  pub given_up_one : (q : Prefix) → open_at q new ≡ cond (same q w.prefix) None (open_at q now)
  given_up_one q = by_left (left n w at opened) shut
    where
      by_left : (slice_get now n ≡ Some w) ⊎ ((v : Wait) × (slice_get now n ≡ Some v) × (v.open ≡ false) × (open_at w.prefix now ≡ None)) → IsShut n now new → open_at q new ≡ cond (same q w.prefix) None (open_at q now)
      by_left (inl here) (inl past) = absurd (omega (arith, past.0, slice_get_within now n w here))
      by_left (inl here) (inr it) = ap (open_at q) it.4 ∙ shut_apart_at now n w it.1 apart here opened it.3 q
      by_left (inr shut_slot) (inl past) = absurd (omega (arith, past.0, slice_get_within now n shut_slot.0 shut_slot.1))
      by_left (inr shut_slot) (inr it) = ap (open_at q) it.4 ∙ shut_again now n shut_slot.0 it.1 shut_slot.1 shut_slot.2 it.3 q ∙ nothing_of shut_slot.3 q (same q w.prefix) refl

  stays_none : (b : Bool) (o : Option Wait) → o ≡ None → cond b None o ≡ None
  stays_none true o none = refl
  stays_none false o none = none

  set_slot : IsShut n now new → (v : Wait) → slice_get now n ≡ Some v → (y : Wait) × (y.open ≡ false) × (new ≡ slice_set now n y)
  set_slot (inl past) v here = absurd (omega (arith, past.0, slice_get_within now n v here))
  set_slot (inr it) v here = (it.1, it.3, it.4)

  some_there : (slice_get now n ≡ Some w) ⊎ ((v : Wait) × (slice_get now n ≡ Some v) × (v.open ≡ false) × (open_at w.prefix now ≡ None)) → (v : Wait) × (slice_get now n ≡ Some v)
  some_there (inl here) = (w, here)
  some_there (inr it) = (it.0, it.1)

  pub left_one : AreLeft old new
  left_one m z z_at z_open =
      let there = some_there (left n w at opened) in
      let set = set_slot shut there.0 there.1 in
      elim (cases_eq m n) [
        | inl e ↦
            let same_slot : w ≡ z = same_Some w z (sym at ∙ ap (slice_get old) (sym e) ∙ z_at) in
            inr (
              set.0,
              ap (slice_get new) e ∙ ap (λ ws. slice_get ws n) set.2 ∙ set_here now n set.0 there.0 there.1,
              set.1,
              given_up_one z.prefix ∙ ap (λ b. cond b None (open_at z.prefix now)) (ap (λ (v : Wait). same z.prefix v.prefix) same_slot ∙ same_itself z.prefix),
            )
        | inr ne ↦
            let kept : slice_get new m ≡ slice_get now m = ap (λ ws. slice_get ws m) set.2 ∙ set_apart now n set.0 m ne in
            elim (left m z z_at z_open) [
              | inl here ↦ inl (kept ∙ here)
              | inr it ↦ inr (it.0, kept ∙ it.1, it.2, given_up_one z.prefix ∙ stays_none (same z.prefix w.prefix) (open_at z.prefix now) it.3)
            ]
      ]

-- one slot more given up
pub given_up_more : (q p : Prefix) (ps : List Prefix) (i : ℕ) (old mid new : List Wait) → list_any (same q) (take (i + 1) ps) ≡ (list_any (same q) (take i ps) || same q p) → open_at q mid ≡ cond (list_any (same q) (take i ps)) None (open_at q old) → open_at q new ≡ cond (same q p) None (open_at q mid) → open_at q new ≡ cond (list_any (same q) (take (i + 1) ps)) None (open_at q old)
given_up_more q p ps i old mid new any was is =
    is ∙ ap (cond (same q p) None) was ∙ cond_or (same q p) (list_any (same q) (take i ps)) (open_at q old) ∙ ap (λ b. cond b None (open_at q old)) (sym any)

-- ---- a slot that may be chosen

said_withdrawn : (w : Wait) → is_withdrawn w ≡ true → (w.open ≡ true) × (is_withdrawal w.due ≡ true)
said_withdrawn w h = and_parts w.open (is_withdrawal w.due) h

pub chosen_withdrawn : (rows : List (Option Row)) (ws : List Wait) (n : ℕ) (w : Wait) → AreApart ws → n < length ws → w ≡ get_or ws n w → IsIpv4Prefix w.prefix → is_withdrawn w ≡ true → IsChosen rows ws None n w.prefix
chosen_withdrawn rows ws n w apart below is legal h =
    let s = said_withdrawn w h in
    let at : slice_get ws n ≡ Some w = slice_get_read ws (length ws) n w refl below is in
    record { wait = w; at = at; prefix = refl; opened = s.0; waits = found_apart ws n w apart at s.0; legal = legal; is = s.1 }

pub chosen_announced : (rows : List (Option Row)) (ws : List Wait) (n : ℕ) (w : Wait) (m : List Attribute) → AreApart ws → n < length ws → w ≡ get_or ws n w → IsIpv4Prefix w.prefix → w.open ≡ true → is_withdrawal w.due ≡ false → HasRow rows w.prefix m → IsChosen rows ws (Some m) n w.prefix
chosen_announced rows ws n w m apart below is legal opened said row =
    let at : slice_get ws n ≡ Some w = slice_get_read ws (length ws) n w refl below is in
    record { wait = w; at = at; prefix = refl; opened = opened; waits = found_apart ws n w apart at opened; legal = legal; is = (said, row) }

pub none_chosen : (rows : List (Option Row)) (ws : List Wait) (said : Option (List Attribute)) (ns : List ℕ) (ps : List Prefix) → ns ≡ [] → ps ≡ [] → AreChosen rows ws said ns ps
none_chosen rows ws said [] [] a b = tt
none_chosen rows ws said [] (p ∷ ps) a b = absurd (cc)
none_chosen rows ws said (n ∷ ns) ps a b = absurd (cc)

pub take_past : {X : Type 0} (n : ℕ) (xs : List X) → length xs ≤ n → take n xs ≡ xs
take_past zero [] h = refl
take_past zero (x ∷ xs) h = absurd (omega (arith, h))
take_past (suc n) [] h = refl
take_past (suc n) (x ∷ xs) h = ap (λ ys. x ∷ ys) (take_past n xs (omega (arith, h)))

-- the first prefix chosen for attributes fits beside them
pub first_fits : (speech : Speech) (rows : List (Option Row)) (ws : List Wait) (m : List Attribute) (ns : List ℕ) (ps : List Prefix) → RowsFit speech rows → AreChosen rows ws (Some m) ns ps → 0 < length ps → length (announcement m speech.mode (take 1 ps)) ≤ limit_octets speech.limit
first_fits speech rows ws m [] [] fit are some = absurd (omega (arith, some))
first_fits speech rows ws m [] (p ∷ ps) fit are some = absurd are
first_fits speech rows ws m (n ∷ ns) [] fit are some = absurd are
first_fits speech rows ws m (n ∷ ns) (p ∷ ps) fit are some =
    let r = are.0.is.1 in
    subst (FitsAlone speech p) r.attributes (subst (λ q. FitsAlone speech q r.row.attributes) r.prefix (fit r.number r.row r.at))

-- ---- where nothing is to be withdrawn or announced, nothing waits

either_way : (w : Wait) → w.open ≡ true → is_withdrawn w ≡ false → is_announced w ≡ false → ⊥
either_way w opened a b = go (is_withdrawal w.due) (sym (ap (λ o. o && is_withdrawal w.due) opened) ∙ a) (sym (ap (λ o. o && not (is_withdrawal w.due)) opened) ∙ b)
  where
    go : (x : Bool) → x ≡ false → not x ≡ false → ⊥
    go true e f = true≢false e
    go false e f = true≢false f

pub nothing_waits : (ws : List Wait) → IsLeast is_withdrawn ws None → IsLeast is_announced ws None → NoneOpen ws
nothing_waits ws h k q = go (open_at q ws) refl
  where
    go : (o : Option Wait) → open_at q ws ≡ o → o ≡ None
    go None is = refl
    go (Some w) is = let s = stands_somewhere q ws w is in absurd (either_way w s.2 (h s.0 w s.1) (k s.0 w s.1))

-- ---- the first slot to be announced

pub element : (ws : List Wait) (n : ℕ) → n < length ws → Wait
element [] n below = absurd (omega (arith, below))
element (w ∷ ws) zero below = w
element (w ∷ ws) (suc n) below = element ws n (omega (arith, below))

news_of : (w : Wait) → is_announced w ≡ true → (w.open ≡ true) × (not (is_withdrawal w.due) ≡ true)
news_of w h = and_parts w.open (not (is_withdrawal w.due)) h

pub there_backed : (rows : List (Option Row)) (ws : List Wait) (n : ℕ) (d : Wait) → AreApart ws → AreBacked rows ws → n < length ws → (get_or ws n d).open ≡ true → IsBacked rows (get_or ws n d).prefix (get_or ws n d).due
there_backed rows ws n d apart backed below opened =
    let w = get_or ws n d in
    backed w.prefix w (found_apart ws n w apart (slice_get_read ws (length ws) n w refl below (get_or_default ws n d w below)) opened)

has_row : (rows : List (Option Row)) (p : Prefix) (d : Due) → IsBacked rows p d → not (is_withdrawal d) ≡ true → row_by rows d ≡ None → ⊥
has_row rows p due.Withdrawn backed news none = true≢false (sym news)
has_row rows p (due.Announced number hash) backed news none = absurd (let f : ◌≡◌ {A = Option (Prefix × ℕ)} None (Some (p, hash)) = sym (ap (option_map prefix_and_hash) none) ∙ backed in (cc))

module _ (rows : List (Option Row)) (ws : List Wait) (n : ℕ) (w : Wait) (apart : AreApart ws) (backed : AreBacked rows ws) (at : slice_get ws n ≡ Some w) (is : is_announced w ≡ true) where
  here_backed : IsBacked rows w.prefix w.due
  here_backed = backed w.prefix w (found_apart ws n w apart at (news_of w is).0)

  -- it has a row
  pub first_row : None ≡ row_by rows w.due → ⊥
  first_row none = has_row rows w.prefix w.due here_backed (news_of w is).1 (sym none)

  pub first_waits : (m : List Attribute) → option_map (λ (r : Row). r.attributes) (row_by rows w.due) ≡ Some m → WaitsFor rows m w
  first_waits m value = record { opened = (news_of w is).0; backed = here_backed; said = value }
