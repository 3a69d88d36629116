-- Each slot to be announced has the row of its prefix, and each row fits: what a written row and a change leave of that.
use Rattle.std.proofs.Common.{◌≡◌, ◌≢◌, ◌<◌, ℕ, Bool, true, false, cond, ◌&&◌, Option, None, Some, List, [], ◌∷◌, ◌++◌, length, slice_set, inl, inr, refl, sym, ap, ◌∙◌, subst, arith, nat_eq}
use Rattle.std.specs.Prelude.{◌≤◌, IfSome, nat_le, option_and_then, option_map, slice_get, take}
use mathlib.Core.Bool.{true≢false}
use Rattle.std.specs.Arc.{arc_value}
use Rattle.std.specs.List.{AllByRecursion, list_any}
use Rattle.std.proofs.lemmas.Bool.Decides.{nat_tests}
use Rattle.std.proofs.lemmas.Bool.{and_parts, cases_eq}
use Rattle.std.proofs.lemmas.Option.{same_Some}
use Rattle.rs_octets.specs.Prefixes.{Prefix}
use Rattle.rs_attrs.specs.Meaning.{Attribute}
use Rattle.rs_adjin.proofs.TableRows.{set_apart, set_here, some_row}
use Rattle.rs_open.specs.Notes.{limit_octets}
use Rattle.rs_decision.specs.Choice.{best_of}
use Rattle.rs_decision.specs.declared.rank.Rank.{Rank}
use Rattle.rs_packer.specs.Packed.{announcement}
use Rattle.rs_outlet.specs.Decided.Due.{Held, due_to, holders_at, if_fits, ranks_among, route_from}
use Rattle.rs_outlet.specs.declared.answers.Speech.{Speech}
use Rattle.rs_outlet.specs.declared.changes.Change.{Change}
use Rattle.rs_rows.specs.Rows.{Row}
use Rattle.rs_outlet.specs.declared.waiting.Due.{Due}
use Rattle.rs_outlet.specs.declared.waiting.Due.TheVariants as due
use Rattle.rs_outlet.specs.declared.waiting.Wait.{Wait}
use Rattle.rs_outlet.specs.Inside.{AreBacked, AreChained, AreDue, AreOwn, ChangesFit, FitsAlone, IsBacked, IsOwn, IsRowOf, RowsFit, joined, numbers_of, prefix_and_hash, row_at, row_by, shown}
use Rattle.rs_outlet.specs.Pending.Owed.{IsCarriedOut, IsOpenAt}
use Rattle.rs_outlet.specs.Pending.Slots.{AreApart, open_at, prefixes_at}
use Rattle.rs_outlet.proofs.Pending.Adding.{first_of_two, not_listed, open_both}
use Rattle.rs_outlet.proofs.Pending.Apart.{found_apart}
use Rattle.rs_outlet.proofs.Pending.Carrying.{apart, here}
use Rattle.rs_outlet.proofs.Pending.TwoParts.{front_get}
use Rattle.rs_outlet.proofs.Decided.LocByNumber.{same, same_is, same_itself}

-- ---- a row written

module _ (rows : List (Option Row)) (n : ℕ) (x : Option Row) where
  pub other_row : (m : ℕ) → m ≢ n → row_at (slice_set rows n x) m ≡ row_at rows m
  other_row m ne = ap joined (set_apart rows n x m ne)

  pub this_row : n < length rows → row_at (slice_set rows n x) n ≡ x
  this_row below = let y = some_row rows n x below in ap joined (set_here rows n x y.0 y.1)

  pub fit_set : (speech : Speech) → n < length rows → ((r : Row) → x ≡ Some r → FitsAlone speech r.prefix r.attributes) → RowsFit speech rows → RowsFit speech (slice_set rows n x)
  fit_set speech below new fit m r is = elim (cases_eq m n) [
    | inl e ↦ new r (sym (this_row below) ∙ subst (λ k. row_at (slice_set rows n x) k ≡ Some r) e is)
    | inr ne ↦ fit m r (sym (other_row m ne) ∙ is)
  ]

-- ---- the same rows

pub backed_same : (rows rows' : List (Option Row)) (p : Prefix) (d : Due) → ((n : ℕ) → row_at rows' n ≡ row_at rows n) → IsBacked rows p d → IsBacked rows' p d
backed_same rows rows' p due.Withdrawn same_rows is = tt
backed_same rows rows' p (due.Announced number hash) same_rows is = ap (option_map prefix_and_hash) (same_rows number) ∙ is

pub are_backed_same : (rows rows' : List (Option Row)) (ws ws' : List Wait) → ((n : ℕ) → row_at rows' n ≡ row_at rows n) → ws' ≡ ws → AreBacked rows ws → AreBacked rows' ws'
are_backed_same rows rows' ws ws' same_rows slots are q w is = backed_same rows rows' w.prefix w.due same_rows (are q w (ap (open_at q) (sym slots) ∙ is))

pub fit_same : (speech : Speech) (rows rows' : List (Option Row)) → ((n : ℕ) → row_at rows' n ≡ row_at rows n) → RowsFit speech rows → RowsFit speech rows'
fit_same speech rows rows' same_rows fit n r is = fit n r (sym (same_rows n) ∙ is)

-- ---- a change carried out

pub open_is : (q : Prefix) (w : Wait) (ws : List Wait) → open_at q ws ≡ Some w → same q w.prefix ≡ true
open_is q w [] is = absurd (cc)
open_is q w (x ∷ ws) is =
    elim (x.open && same q x.prefix) as (λ b. (x.open && same q x.prefix) ≡ b → cond b (Some x) (open_at q ws) ≡ Some w → same q w.prefix ≡ true) [
      | true ↦ λ t e. ap (λ (v : Wait). same q v.prefix) (sym (same_Some x w e)) ∙ (and_parts x.open (same q x.prefix) t).1
      | false ↦ λ _ e. open_is q w ws e
    ] refl is

has_prefix : (o : Option Row) (p : Prefix) (hash : ℕ) → option_map prefix_and_hash o ≡ Some (p, hash) → (r : Row) × (o ≡ Some r) × (r.prefix ≡ p)
has_prefix None p hash is = absurd (cc)
has_prefix (Some r) p hash is = (r, refl, ap (λ (e : Prefix × ℕ). e.0) (same_Some (prefix_and_hash r) (p, hash) is))

-- what is due at another prefix has the row that it had
kept_row : (rows rows' : List (Option Row)) (c p : Prefix) (n : ℕ) (d : Due) → IsOwn (row_at rows n) c → ((m : ℕ) → m ≢ n → row_at rows' m ≡ row_at rows m) → (p ≡ c → ⊥) → IsBacked rows p d → row_by rows' d ≡ row_by rows d
kept_row rows rows' c p n due.Withdrawn own others ne is = refl
kept_row rows rows' c p n (due.Announced number hash) own others ne is = elim (cases_eq number n) [
  | inl e ↦ let r = has_prefix (row_at rows number) p hash is in absurd (ne (sym r.2 ∙ own r.0 (ap (row_at rows) (sym e) ∙ r.1)))
  | inr apart_from ↦ others number apart_from
]

elsewhere : (rows rows' : List (Option Row)) (c p : Prefix) (n : ℕ) (d : Due) → IsOwn (row_at rows n) c → ((m : ℕ) → m ≢ n → row_at rows' m ≡ row_at rows m) → (p ≡ c → ⊥) → IsBacked rows p d → IsBacked rows' p d
elsewhere rows rows' c p n due.Withdrawn own others ne is = tt
elsewhere rows rows' c p n (due.Announced number hash) own others ne is = ap (option_map prefix_and_hash) (kept_row rows rows' c p n (due.Announced number hash) own others ne is) ∙ is

waited_backed : (rows : List (Option Row)) (o : Option Wait) (w : Wait) → o ≡ Some w → IfSome o (λ v. IsBacked rows v.prefix v.due) → IsBacked rows w.prefix w.due
waited_backed rows None w e is = absurd (cc)
waited_backed rows (Some v) w e is = subst (λ (x : Wait). IsBacked rows x.prefix x.due) (same_Some v w e) is

pub backed_step : (c : Change) (was_due : Option (List Attribute)) (rows rows' : List (Option Row)) (ws fs ws' fs' : List Wait) → IsCarriedOut c was_due rows' ws fs ws' fs' → IsOwn (row_at rows c.number) c.prefix → ((m : ℕ) → m ≢ c.number → row_at rows' m ≡ row_at rows m)
    → list_any (same c.prefix) (prefixes_at fs) ≡ false → AreBacked rows (ws ++ fs) → AreBacked rows' (ws' ++ fs')
backed_step c was_due rows rows' ws fs ws' fs' h own others none are q w is = go (same q c.prefix) refl
  where
    go : (b : Bool) → same q c.prefix ≡ b → IsBacked rows' w.prefix w.due
    go true s =
        let empty : open_at q fs ≡ None = not_listed q fs (ap (λ r. list_any (same r) (prefixes_at fs)) (same_is q c.prefix s) ∙ none) in
        waited_backed rows' h.wait w (sym (here c was_due rows' ws fs ws' fs' h q s empty) ∙ is) h.backed
    go false s =
        let was : open_at q (ws ++ fs) ≡ Some w = sym (apart c was_due rows' ws fs ws' fs' h q s) ∙ is in
        elsewhere rows rows' c.prefix w.prefix c.number w.due own others
        (λ e. true≢false (sym (ap (λ r. same r c.prefix) (same_is q w.prefix (open_is q w (ws ++ fs) was) ∙ e) ∙ same_itself c.prefix) ∙ s))
        (are q w was)

-- a slot made for the row that is written
pub announced_backed : (rows : List (Option Row)) (o : Option Wait) (p : Prefix) (n hash : ℕ) → IfSome o (IsOpenAt p) → IfSome o (λ w. w.due ≡ due.Announced n hash) → IsRowOf rows n p hash → IfSome o (λ w. IsBacked rows w.prefix w.due)
announced_backed rows None p n hash slot is at = tt
announced_backed rows (Some w) p n hash slot is at = subst (λ q. IsBacked rows q w.due) (sym slot.0) (subst (IsBacked rows p) (sym is) at)

nat_eq_itself : (n : ℕ) → nat_eq n n ≡ true
nat_eq_itself n = grind (arith, nat_tests)

-- the changes that are left stand at the rows that they stood at
pub own_rest : (c : Change) (rest : List Change) (rows rows' : List (Option Row)) → ((m : ℕ) → m ≢ c.number → row_at rows' m ≡ row_at rows m) → AllByRecursion (λ n. nat_eq c.number n ≡ false) (numbers_of rest) → AreOwn rest rows → AreOwn rest rows'
own_rest c [] rows rows' others apart_from own = tt
own_rest c (d ∷ rest) rows rows' others apart_from own = (
  λ r is. own.0 r (sym (others d.number (λ e. true≢false (sym (ap (nat_eq c.number) e ∙ nat_eq_itself c.number) ∙ apart_from.0))) ∙ is),
  own_rest c rest rows rows' others apart_from.1 own.1,
)

pub own_same : (cs : List Change) (rows rows' : List (Option Row)) → ((n : ℕ) → row_at rows' n ≡ row_at rows n) → AreOwn cs rows → AreOwn cs rows'
own_same [] rows rows' same_rows own = tt
own_same (c ∷ cs) rows rows' same_rows own = (λ r is. own.0 r (sym (same_rows c.number) ∙ is), own_same cs rows rows' same_rows own.1)

-- ---- chains, where the row of a prefix that doesn't wait is written

-- the first slots have their rows
pub front_backed : (rows : List (Option Row)) (ws fs : List Wait) → AreBacked rows (ws ++ fs) → AreBacked rows ws
front_backed rows ws fs are q w is = are q w (open_both q ws fs ∙ ap (λ o. first_of_two o (open_at q fs)) is)

-- where one prefix waits no more, the others have theirs
pub closed_backed : (rows : List (Option Row)) (ws ws' : List Wait) (p : Prefix) → ((q : Prefix) → open_at q ws' ≡ cond (same q p) None (open_at q ws)) → AreBacked rows ws → AreBacked rows ws'
closed_backed rows ws ws' p closed are q w is = go (same q p) (sym (closed q) ∙ is)
  where
    go : (b : Bool) → cond b None (open_at q ws) ≡ Some w → IsBacked rows w.prefix w.due
    go true e = absurd (let f : ◌≡◌ {A = Option Wait} None (Some w) = e in cc)
    go false e = are q w e

module _ (rows rows' : List (Option Row)) (ws : List Wait) (n : ℕ) (p : Prefix) (apart_slots : AreApart ws) (backed : AreBacked rows ws) (own : IsOwn (row_at rows n) p) (none : open_at p ws ≡ None) (others : (m : ℕ) → m ≢ n → row_at rows' m ≡ row_at rows m) where
  -- a slot that waits has the row that it had
  waiting_row : (i : ℕ) (w : Wait) → slice_get ws i ≡ Some w → w.open ≡ true → row_by rows' w.due ≡ row_by rows w.due
  waiting_row i w at opened =
      let stands : open_at w.prefix ws ≡ Some w = found_apart ws i w apart_slots at opened in
      kept_row rows rows' p w.prefix n w.due own others
      (λ e. absurd (let f : ◌≡◌ {A = Option Wait} None (Some w) = sym none ∙ ap (λ q. open_at q ws) (sym e) ∙ stands in cc))
      (backed w.prefix w stands)

  -- so chains of the first part stay what they are
  pub written_chained : (k : ℕ) (chains : List ℕ) → AreChained rows (take k ws) chains → AreChained rows' (take k ws) chains
  written_chained k chains are i m chain hash w z a at from to later below waits opened w_hash z_hash is = λ e.
      let w_row = waiting_row i w (front_get k i ws w from) waits in
      let z_row = waiting_row m z (front_get k m ws z to) opened in
      are i m chain hash w z a at from to later below waits opened w_hash z_hash (ap shown (sym w_row) ∙ is) (ap shown (sym z_row) ∙ e)

-- ---- what is due fits

tested : (a b : ℕ) → nat_le a b ≡ true → a ≤ b
tested a b h = grind (arith, nat_tests)

where_it_fits : (speech : Speech) (p : Prefix) (m : List Attribute) (o : Option (List Attribute)) → option_and_then (if_fits speech p) o ≡ Some m → FitsAlone speech p m
where_it_fits speech p m None is = absurd (cc)
where_it_fits speech p m (Some n) is =
    elim (nat_le (length (announcement n speech.mode (p ∷ []))) (limit_octets speech.limit)) as (λ b. nat_le (length (announcement n speech.mode (p ∷ []))) (limit_octets speech.limit) ≡ b → cond b (Some n) None ≡ Some m → FitsAlone speech p m) [
      | true ↦ λ t e. subst (FitsAlone speech p) (same_Some n m e) (tested (length (announcement n speech.mode (p ∷ []))) (limit_octets speech.limit) t)
      | false ↦ λ _ e. absurd (let f : ◌≡◌ {A = Option (List Attribute)} None (Some m) = e in cc)
    ] refl is

due_fits : (t : Held) (c : ℕ) (speech : Speech) (p : Prefix) (m : List Attribute) → due_to t c speech p ≡ Some m → FitsAlone speech p m
due_fits t c speech p m is = go (best_of (ranks_among t c p (holders_at t p))) is
  where
    go : (o : Option Rank) → option_and_then (λ (best : Rank). route_from t c speech p best.place) o ≡ Some m → FitsAlone speech p m
    go None e = absurd (let f : ◌≡◌ {A = Option (List Attribute)} None (Some m) = e in cc)
    go (Some best) e = where_it_fits speech p m _ e

change_fits : {X : Type 0} (value : X → List Attribute) (t : Held) (c : ℕ) (speech : Speech) (p : Prefix) (o : Option X) → option_map value o ≡ due_to t c speech p → IfSome o (λ x. FitsAlone speech p (value x))
change_fits value t c speech p None is = tt
change_fits value t c speech p (Some x) is = due_fits t c speech p (value x) (sym is)

pub changes_fit : (t : Held) (c : ℕ) (speech : Speech) (cs : List Change) → AreDue (due_to t c speech) cs → ChangesFit speech cs
changes_fit t c speech [] due = tt
changes_fit t c speech (d ∷ cs) due = (change_fits arc_value t c speech d.prefix d.due due.0, changes_fit t c speech cs due.1)

-- by the speech of the outlet
pub fit_spoken : (rows : List (Option Row)) (o : Option Speech) (speech : Speech) → o ≡ Some speech → RowsFit speech rows → (spoken : Speech) → o ≡ Some spoken → RowsFit spoken rows
fit_spoken rows o speech is fit spoken e = subst (λ s. RowsFit s rows) (same_Some speech spoken (sym is ∙ e)) fit
