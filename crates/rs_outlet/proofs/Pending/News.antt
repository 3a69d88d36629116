-- News written in free rows where nothing waits: what they leave of the rows and of the Loc-RIB, and what waits then.
use Rattle.std.proofs.Common.{◌≡◌, ◌≢◌, ◌<◌, ◌+◌, ℕ, zero, suc, Bool, true, false, cond, ◌&&◌, ◌||◌, Option, None, Some, List, [], ◌∷◌, length, map, slice_set, refl, sym, ap, ◌∙◌, subst, arith}
use Rattle.std.specs.Prelude.{count_by, is_some, nat_eq, option_map, slice_get, take}
use mathlib.Core.Bool.{true≢false}
use Rattle.std.specs.FinMap as fin
use Rattle.std.specs.Arc.{arc_value}
use Rattle.std.specs.List.{AllByRecursion, IsDistinct, list_any}
use Rattle.std.proofs.Math.ListN.{length-set}
use Rattle.std.proofs.lemmas.Bool.Decides.{nat_tests}
use Rattle.std.proofs.lemmas.Bool.{or_parts}
use Rattle.std.proofs.lemmas.List.Sums.{sum_by-cons}
use Rattle.std.proofs.lemmas.Map.Keys.{IsDistinct-head, IsDistinct-tail}
use Rattle.std.proofs.lemmas.Option.{same_Some}
use Rattle.rs_octets.specs.Prefixes.{Prefix}
use Rattle.rs_attrs.specs.Meaning.{Attribute}
use Rattle.rs_adjin.specs.declared.adj_ins.AdjIns.{AdjIns}
use Rattle.rs_adjin.specs.AdjIns.{number_of}
use Rattle.rs_rows.specs.Rows.{Row}
use Rattle.rs_outlet.specs.declared.answers.Speech.{Speech}
use Rattle.rs_outlet.specs.declared.changes.Change.{Change}
use Rattle.rs_outlet.specs.declared.news.News.{News}
use Rattle.rs_outlet.specs.declared.waiting.Wait.{Wait}
use Rattle.rs_outlet.specs.Views.{HaveNumbers}
use Rattle.rs_outlet.specs.Decided.News.{AreFree, change_of, row_of, slot_of, written}
use Rattle.rs_outlet.specs.Inside.{AreBacked, AreChained, IsBacked, AreDue, ArePlaced, ChangesFit, FitsAlone, RowsFit, is_changed, loc_of, numbers_from, numbers_of, prefix_and_hash, row_at, shown}
use Rattle.rs_outlet.specs.Pending.Owed.{IsExactAt, Keeps, prefixes_of}
use Rattle.rs_outlet.specs.Pending.Slots.{AreFresh, open_at, open_count, prefixes_at, withdrawn_count}
use Rattle.rs_outlet.proofs.Decided.LocByNumber.{same, same_is, by_number, numbered, value_at}
use Rattle.rs_outlet.proofs.Decided.Numbering.{numbers_write}
use Rattle.rs_outlet.proofs.Decided.TurnedLoc.{changed_numbered}
use Rattle.rs_outlet.proofs.Pending.Backing.{fit_set, other_row, this_row}
use Rattle.rs_outlet.proofs.Pending.TwoParts.{front_get}
use Rattle.rs_outlet.proofs.Pending.Withdrawals.{one_if, one_more_row}

abbrev changes : List News → List Change
changes ns = map change_of ns

abbrev numbers : List News → List ℕ
numbers ns = numbers_of (changes ns)

-- ---- the rows

nat_eq_itself : (n : ℕ) → nat_eq n n ≡ true
nat_eq_itself n = grind (arith, nat_tests)

differ : (m n : ℕ) → nat_eq m n ≡ false → m ≢ n
differ m n apart e = true≢false (sym (nat_eq_itself m) ∙ ap (nat_eq m) e ∙ apart)

none_of : (m : ℕ) (ks : List ℕ) → AllByRecursion (λ k. nat_eq m k ≡ false) ks → list_any (nat_eq m) ks ≡ false
none_of m [] all = refl
none_of m (k ∷ ks) all = ap (λ b. b || list_any (nat_eq m) ks) all.0 ∙ none_of m ks all.1

swapped : (m n : ℕ) → nat_eq m n ≡ false → nat_eq n m ≡ false
swapped m n apart = grind (arith, nat_tests, apart)

-- there is a row for each
abbrev pub HaveARow : List (Option Row) → List News → Type 0
HaveARow rows ns = AllByRecursion (λ n. n.number < length rows) ns

have_rows : (ns : List News) (rows more : List (Option Row)) → length more ≡ length rows → HaveARow rows ns → HaveARow more ns
have_rows [] rows more same below = tt
have_rows (n ∷ ns) rows more same below = (omega (arith, same, below.0), have_rows ns rows more same below.1)

pub length_written : (ns : List News) (rows : List (Option Row)) → length (written ns rows) ≡ length rows
length_written [] rows = refl
length_written (n ∷ ns) rows = length_written ns (slice_set rows n.number (row_of n)) ∙ length-set rows n.number (row_of n)

-- the rows of the others are as they were
pub written_apart : (ns : List News) (rows : List (Option Row)) (m : ℕ) → list_any (nat_eq m) (numbers ns) ≡ false → row_at (written ns rows) m ≡ row_at rows m
written_apart [] rows m none = refl
written_apart (n ∷ ns) rows m none =
    let both = or_parts (nat_eq m n.number) (list_any (nat_eq m) (numbers ns)) none in
    written_apart ns (slice_set rows n.number (row_of n)) m both.1 ∙ other_row rows n.number (row_of n) m (differ m n.number both.0)

-- those that are left are free still
free_rest : (n : News) (ns : List News) (rows : List (Option Row)) → AllByRecursion (λ k. nat_eq n.number k ≡ false) (numbers ns) → AreFree rows ns → AreFree (slice_set rows n.number (row_of n)) ns
free_rest n [] rows apart free = tt
free_rest n (d ∷ ns) rows apart free = (
  other_row rows n.number (row_of n) d.number (differ d.number n.number (swapped n.number d.number apart.0)) ∙ free.0,
  free_rest n ns rows apart.1 free.1,
)

-- each stands in its row
abbrev Stand : List (Option Row) → List News → Type 0
Stand rows ns = AllByRecursion (λ n. row_at rows n.number ≡ row_of n) ns

stand : (ns : List News) (rows : List (Option Row)) → HaveARow rows ns → IsDistinct nat_eq (numbers ns) → Stand (written ns rows) ns
stand [] rows below once = tt
stand (n ∷ ns) rows below once =
    let next = slice_set rows n.number (row_of n) in (
      written_apart ns next n.number (none_of n.number (numbers ns) (IsDistinct-head nat_eq n.number (numbers ns) once)) ∙ this_row rows n.number (row_of n) below.0,
      stand ns next (have_rows ns rows next (length-set rows n.number (row_of n)) below.1) (IsDistinct-tail nat_eq n.number (numbers ns) once),
    )

pub used_written : (ns : List News) (rows : List (Option Row)) → HaveARow rows ns → IsDistinct nat_eq (numbers ns) → AreFree rows ns → count_by is_some (written ns rows) ≡ count_by is_some rows + length ns
used_written [] rows below once free = omega arith
used_written (n ∷ ns) rows below once free =
    let next = slice_set rows n.number (row_of n) in
    let rest = used_written ns next (have_rows ns rows next (length-set rows n.number (row_of n)) below.1) (IsDistinct-tail nat_eq n.number (numbers ns) once) (free_rest n ns rows (IsDistinct-head nat_eq n.number (numbers ns) once) free.1) in
    let one = one_more_row rows n.number (record { prefix = n.prefix; attributes = arc_value n.attrs }) below.0 free.0 in
    omega (arith, rest, one)

pub numbered_written : (ins : AdjIns) (ns : List News) (rows : List (Option Row)) → ArePlaced (changes ns) ins → HaveNumbers (numbers_from 0 rows) ins → HaveNumbers (numbers_from 0 (written ns rows)) ins
numbered_written ins [] rows placed h = h
numbered_written ins (n ∷ ns) rows placed h = numbered_written ins ns (slice_set rows n.number (row_of n)) placed.1 (numbers_write ins rows n.number _ h placed.0)

pub fit_written : (speech : Speech) (ns : List News) (rows : List (Option Row)) → HaveARow rows ns → ChangesFit speech (changes ns) → RowsFit speech rows → RowsFit speech (written ns rows)
fit_written speech [] rows below new fit = fit
fit_written speech (n ∷ ns) rows below new fit =
    let next = slice_set rows n.number (row_of n) in
    fit_written speech ns next (have_rows ns rows next (length-set rows n.number (row_of n)) below.1) new.1
    (fit_set rows n.number (row_of n) speech below.0 (λ r e. subst (λ (t : Row). FitsAlone speech t.prefix t.attributes) (same_Some _ r e) new.0) fit)

-- ---- their slots

later : (q : Prefix) (n : News) (ns : List News) (b : Bool) → same q n.prefix ≡ b → open_at q (map slot_of (n ∷ ns)) ≡ cond b (Some (slot_of n)) (open_at q (map slot_of ns))
later q n ns b is = ap (λ c. cond c (Some (slot_of n)) (open_at q (map slot_of ns))) is

pub no_slot : (q : Prefix) (ns : List News) → is_changed (changes ns) q ≡ false → open_at q (map slot_of ns) ≡ None
no_slot q [] none = refl
no_slot q (n ∷ ns) none =
    let both = or_parts (same q n.prefix) (is_changed (changes ns) q) none in
    later q n ns false both.0 ∙ no_slot q ns both.1

-- the news of a prefix, of which this holds as it does of all
record Told (P : News → Type 0) (q : Prefix) (ns : List News) : Type 0 where
  one : News
  slot : open_at q (map slot_of ns) ≡ Some (slot_of one)
  prefix : q ≡ one.prefix
  holds : P one

told_next : (P : News → Type 0) (q : Prefix) (n : News) (ns : List News) → same q n.prefix ≡ false → Told P q ns → Told P q (n ∷ ns)
told_next P q n ns apart it = record { one = it.one; slot = later q n ns false apart ∙ it.slot; prefix = it.prefix; holds = it.holds }

told : (P : News → Type 0) (q : Prefix) (ns : List News) → AllByRecursion P ns → is_changed (changes ns) q ≡ true → Told P q ns
told P q [] all there = absurd (true≢false (sym there))
told P q (n ∷ ns) all there =
    elim (same q n.prefix) as (λ b. same q n.prefix ≡ b → (b || is_changed (changes ns) q) ≡ true → Told P q (n ∷ ns)) [
      | true ↦ λ t _. record { one = n; slot = later q n ns true t; prefix = same_is q n.prefix t; holds = all.0 }
      | false ↦ λ f e. told_next P q n ns f (told P q ns all.1 e)
    ] refl there

all_open : (ns : List News) → AllByRecursion (λ (w : Wait). w.open ≡ true) (map slot_of ns)
all_open [] = tt
all_open (n ∷ ns) = (refl, all_open ns)

slot_prefixes : (ns : List News) → prefixes_at (map slot_of ns) ≡ prefixes_of (changes ns)
slot_prefixes [] = refl
slot_prefixes (n ∷ ns) = ap (λ ps. n.prefix ∷ ps) (slot_prefixes ns)

pub none_withdrawn : (ns : List News) → withdrawn_count (map slot_of ns) ≡ 0
none_withdrawn [] = refl
none_withdrawn (n ∷ ns) = none_withdrawn ns

-- ---- where nothing waits

none_first : (w : Wait) (ws : List Wait) (b : Bool) → w.open ≡ b → open_count (w ∷ ws) ≡ 0 → (w.open ≡ false) × (open_count ws ≡ 0)
none_first w ws true is none =
    let one : ◌≡◌ {A = ℕ} (one_if w.open) 1 = ap one_if is in
    absurd (omega (arith, none, one, sum_by-cons (λ (v : Wait). one_if v.open) w ws))
none_first w ws false is none =
    let zero_of : ◌≡◌ {A = ℕ} (one_if w.open) 0 = ap one_if is in
    (is, omega (arith, none, zero_of, sum_by-cons (λ (v : Wait). one_if v.open) w ws))

pub none_waits : (q : Prefix) (ws : List Wait) → open_count ws ≡ 0 → open_at q ws ≡ None
none_waits q [] none = refl
none_waits q (w ∷ ws) none =
    let both = none_first w ws w.open refl none in
    ap (λ b. cond (b && same q w.prefix) (Some w) (open_at q ws)) both.0 ∙ none_waits q ws both.1

all_shut : (ws : List Wait) (n : ℕ) (w : Wait) → open_count ws ≡ 0 → slice_get ws n ≡ Some w → w.open ≡ false
all_shut [] n w none at = absurd (let f : ◌≡◌ {A = Option Wait} None (Some w) = at in cc)
all_shut (v ∷ ws) zero w none at = ap (λ (x : Wait). x.open) (sym (same_Some v w at)) ∙ (none_first v ws v.open refl none).0
all_shut (v ∷ ws) (suc n) w none at = all_shut ws n w (none_first v ws v.open refl none).1 at

pub none_chained : (rows : List (Option Row)) (k : ℕ) (ws : List Wait) (chains : List ℕ) → open_count ws ≡ 0 → AreChained rows (take k ws) chains
none_chained rows k ws chains none i m chain hash w z a at from to later below waits opened w_hash z_hash is =
    absurd (true≢false (sym waits ∙ all_shut ws i w none (front_get k i ws w from)))

pub fresh_news : (ws : List Wait) (ns : List News) → open_count ws ≡ 0 → IsDistinct same (prefixes_of (changes ns)) → AreFresh ws (map slot_of ns)
fresh_news ws ns none once = record {
  waiting = all_open ns;
  apart = subst (IsDistinct same) (sym (slot_prefixes ns)) once;
  alone = λ q there. none_waits q ws none;
}

-- ---- the Loc-RIB, and what is kept at each prefix

keeps_news : (n : News) (was new : Option (List Attribute)) → was ≡ None → new ≡ Some (arc_value n.attrs) → Keeps None was (Some (slot_of n)) new
keeps_news n was new none is = record {
  told = sym none;
  marked = refl;
  exact = λ h. subst (λ d. IsExactAt (Some (slot_of n)) d) (sym is) refl;
}

module _ (ins : AdjIns) (ns : List News) (rows : List (Option Row)) (below : HaveARow rows ns) (once : IsDistinct nat_eq (numbers ns)) (free : AreFree rows ns)
    (placed : ArePlaced (changes ns) ins) (h : HaveNumbers (numbers_from 0 rows) ins) where
  abbrev new : List (Option Row)
  new = written ns rows

  by_new : (q : Prefix) (o : Option ℕ) → number_of ins q ≡ o → fin.get (loc_of new) q ≡ value_at new o
  by_new = by_number ins new (numbered ins new (numbered_written ins ns rows placed h))

  by_old : (q : Prefix) (o : Option ℕ) → number_of ins q ≡ o → fin.get (loc_of rows) q ≡ value_at rows o
  by_old = by_number ins rows (numbered ins rows h)

  value_kept : (q : Prefix) (o : Option ℕ) → number_of ins q ≡ o → is_changed (changes ns) q ≡ false → value_at new o ≡ value_at rows o
  value_kept q None at none = refl
  value_kept q (Some m) at none = ap shown (written_apart ns rows m (sym (changed_numbered ins (changes ns) q m placed at) ∙ none))

  elsewhere : (q : Prefix) → is_changed (changes ns) q ≡ false → fin.get (loc_of new) q ≡ fin.get (loc_of rows) q
  elsewhere q none = by_new q (number_of ins q) refl ∙ value_kept q (number_of ins q) refl none ∙ sym (by_old q (number_of ins q) refl)

  -- what is known of each
  abbrev Known : News → Type 0
  Known n = (row_at new n.number ≡ row_of n) × (row_at rows n.number ≡ None) × (number_of ins n.prefix ≡ Some n.number)

  known : (ms : List News) → Stand new ms → AreFree rows ms → ArePlaced (changes ms) ins → AllByRecursion Known ms
  known [] stands frees at = tt
  known (m ∷ ms) stands frees at = ((stands.0, frees.0, at.0), known ms stands.1 frees.1 at.1)

  all_known : AllByRecursion Known ns
  all_known = known ns (stand ns rows below once) free placed

  was_none : (q : Prefix) (it : Told Known q ns) → fin.get (loc_of rows) q ≡ None
  was_none q it = by_old q (Some it.one.number) (ap (number_of ins) it.prefix ∙ it.holds.2) ∙ ap shown it.holds.1

  is_now : (q : Prefix) (it : Told Known q ns) → fin.get (loc_of new) q ≡ Some (arc_value it.one.attrs)
  is_now q it = by_new q (Some it.one.number) (ap (number_of ins) it.prefix ∙ it.holds.2) ∙ ap shown it.holds.0

  keeps_at : (q : Prefix) (b : Bool) → is_changed (changes ns) q ≡ b → Keeps None (fin.get (loc_of rows) q) (open_at q (map slot_of ns)) (fin.get (loc_of new) q)
  keeps_at q true there =
      let it = told Known q ns all_known there in
      subst (λ o. Keeps None (fin.get (loc_of rows) q) o (fin.get (loc_of new) q)) (sym it.slot) (keeps_news it.one _ _ (was_none q it) (is_now q it))
  keeps_at q false none =
      subst (λ o. Keeps None (fin.get (loc_of rows) q) o (fin.get (loc_of new) q)) (sym (no_slot q ns none))
      (record { told = elsewhere q none; marked = refl; exact = λ e. subst (λ d. IsExactAt None d) (sym (elsewhere q none)) e })

  pub keeps_written : (q : Prefix) → Keeps None (fin.get (loc_of rows) q) (open_at q (map slot_of ns)) (fin.get (loc_of new) q)
  keeps_written q = keeps_at q (is_changed (changes ns) q) refl

  module _ (due_at : Prefix → Option (List Attribute)) (due : AreDue due_at (changes ns)) where
    known_due : (ms : List News) → AllByRecursion Known ms → AreDue due_at (changes ms) → AllByRecursion (λ n. Known n × (Some (arc_value n.attrs) ≡ due_at n.prefix)) ms
    known_due [] all is = tt
    known_due (m ∷ ms) all is = ((all.0, is.0), known_due ms all.1 is.1)

    loc_at : (q : Prefix) (b : Bool) → is_changed (changes ns) q ≡ b → fin.get (loc_of new) q ≡ cond b (due_at q) (fin.get (loc_of rows) q)
    loc_at q true there =
        let it = told _ q ns (known_due ns all_known due) there in
        by_new q (Some it.one.number) (ap (number_of ins) it.prefix ∙ it.holds.0.2) ∙ ap shown it.holds.0.0 ∙ it.holds.1 ∙ ap due_at (sym it.prefix)
    loc_at q false none = elsewhere q none

    pub loc_written : (q : Prefix) → fin.get (loc_of new) q ≡ cond (is_changed (changes ns) q) (due_at q) (fin.get (loc_of rows) q)
    loc_written q = loc_at q (is_changed (changes ns) q) refl

-- ---- each slot has its row

pub backed_news : (ns : List News) (rows : List (Option Row)) → HaveARow rows ns → IsDistinct nat_eq (numbers ns) → AreBacked (written ns rows) (map slot_of ns)
backed_news ns rows below once q w is = at (is_changed (changes ns) q) refl
  where
    at : (b : Bool) → is_changed (changes ns) q ≡ b → IsBacked (written ns rows) w.prefix w.due
    at true there =
        let it = told (λ n. row_at (written ns rows) n.number ≡ row_of n) q ns (stand ns rows below once) there in
        subst (λ (v : Wait). IsBacked (written ns rows) v.prefix v.due) (same_Some (slot_of it.one) w (sym it.slot ∙ is)) (ap (option_map prefix_and_hash) it.holds)
    at false none = absurd (let f : ◌≡◌ {A = Option Wait} None (Some w) = sym (no_slot q ns none) ∙ is in cc)
