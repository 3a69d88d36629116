-- What waits once a client asked for everything again, from slot to slot.
use Rattle.std.proofs.Common.{◌≡◌, ◌<◌, ◌≤◌, ℕ, zero, suc, Bool, true, false, cond, ◌&&◌, ◌||◌, Option, None, Some, IsSome, Result, Ok, Err, is_ok, List, [], ◌∷◌, length, length-append, map, take, get_or, refl, sym, ap, ◌∙◌, subst, arith}
use Rattle.std.specs.Prelude.{option_map}
use mathlib.Core.Bool.{true≢false}
use Rattle.std.proofs.Common.{inl, inr}
use Rattle.std.specs.List.{All, AllByRecursion, Contains, dedup, list_any}
use Rattle.std.specs.List.Sorted.{IsBinarySearchResult, IsSearchInRange, IsStrictlySortedBy}
use Rattle.std.specs.declared.cmp.Ordering.TheVariants.{Equal, Less}
use Rattle.std.specs.FinMap as fin
use Rattle.std.proofs.lemmas.List.{take-append-le}
use Rattle.std.proofs.lemmas.List.Elements.{All-contains, All-contains_itself, All-from_recursion, All-push, recursion_from_All}
use Rattle.std.proofs.lemmas.Bool.{and_parts, or_parts, or_right}
use Rattle.std.proofs.lemmas.Option.{same_Some}
use Rattle.rs_octets.specs.Prefixes.{Prefix, prefix_order}
use Rattle.rs_rows.specs.Rows.{Row}
use Rattle.rs_outlet.specs.declared.waiting.Wait.{Wait}
use Rattle.rs_outlet.specs.Views.{Table}
use Rattle.rs_outlet.specs.Pending.Slots.{is_withdrawal, open_at, prefixes_at, still_open}
use Rattle.rs_outlet.specs.Inside.{AreBacked, IsBacked, loc_of, prefix_and_hash, row_at}
use Rattle.rs_outlet.specs.Pending.Marking.{IsPutAgain, MayAddRow, MayWaitAgain, WaitsAgain, remarked}
use Rattle.rs_outlet.proofs.Pending.Deduped.{any_deduped}
use Rattle.rs_adjin.proofs.Listed.{exact_prefixes, prefixes_total}
use Rattle.rs_outlet.proofs.Decided.LocByNumber.{same, same_is, same_itself}
use Rattle.rs_outlet.proofs.Pending.Slots.{first_open, later_at, none_behind}
use Rattle.rs_outlet.proofs.Pending.Finding.{absent_slot, searchable}
use Rattle.rs_outlet.proofs.Pending.Adding.{none_listed, not_listed, open_still}

-- ---- a search

pub not_found : (q : Prefix) (ws : List Wait) → IsStrictlySortedBy prefix_order (prefixes_at ws) → (r : Result ℕ ℕ) → IsBinarySearchResult (λ w. prefix_order w.prefix q) ws r → is_ok r ≡ false → open_at q ws ≡ None
not_found q ws up (Ok i) is h = absurd (true≢false h)
not_found q ws up (Err i) is h = absent_slot q ws i (is (searchable q ws up))

listed_at : (q : Prefix) (ws : List Wait) (i : ℕ) → i < length ws → ((d : Wait) → prefix_order (get_or ws i d).prefix q ≡ Equal) → list_any (same q) (prefixes_at ws) ≡ true
listed_at q [] i below is = absurd (omega (arith, below))
listed_at q (w ∷ ws) zero below is = ap (λ b. b || list_any (same q) (prefixes_at ws)) (ap (same q) (exact_prefixes w.prefix q (is w)) ∙ same_itself q)
listed_at q (w ∷ ws) (suc i) below is = or_right (same q w.prefix) (list_any (same q) (prefixes_at ws)) (listed_at q ws i (omega (arith, below)) is)

pub found_listed : (q : Prefix) (ws : List Wait) (r : Result ℕ ℕ) → IsBinarySearchResult (λ w. prefix_order w.prefix q) ws r → IsSearchInRange r (length ws) → is_ok r ≡ true → list_any (same q) (prefixes_at ws) ≡ true
found_listed q ws (Ok i) is within h = listed_at q ws i within is
found_listed q ws (Err i) is within h = absurd (true≢false (sym h))

-- ---- the prefixes that a `dedup` leaves

pub deduped : (E : Wait → Wait → Bool) → ((v w : Wait) → E v w ≡ same v.prefix w.prefix) → (q : Prefix) (ws : List Wait) → list_any (same q) (prefixes_at (dedup E ws)) ≡ list_any (same q) (prefixes_at ws)
deduped E is q ws = any_deduped (λ (w : Wait). w.prefix) E (λ v w t. same_is v.prefix w.prefix (sym (is v w) ∙ t)) (same q) ws

-- ---- what stands at a prefix

at_slot : (P : Wait → Type 0) (q : Prefix) (z : Wait) (zs : List Wait) → AllByRecursion P zs → open_at q zs ≡ Some z → P z × (q ≡ z.prefix)
at_slot P q z [] h is = absurd (cc)
at_slot P q z (w ∷ zs) h is =
    elim (w.open && same q w.prefix) as (λ b. (w.open && same q w.prefix) ≡ b → cond b (Some w) (open_at q zs) ≡ Some z → P z × (q ≡ z.prefix)) [
      | true ↦ λ t e. let s : w ≡ z = same_Some w z e in (subst P s h.0, same_is q w.prefix (and_parts w.open (same q w.prefix) t).1 ∙ ap (λ (x : Wait). x.prefix) s)
      | false ↦ λ _ e. at_slot P q z zs h.1 e
    ] refl is

pub open_remarked : (q : Prefix) (ws : List Wait) → open_at q (map remarked ws) ≡ option_map remarked (open_at q ws)
open_remarked q [] = refl
open_remarked q (w ∷ ws) =
    elim (w.open && same q w.prefix) as (λ b. cond b (Some (remarked w)) (open_at q (map remarked ws)) ≡ option_map remarked (cond b (Some w) (open_at q ws))) [
      | true ↦ refl
      | false ↦ open_remarked q ws
    ]

pub none_remarked : (o : Option Wait) → option_map remarked o ≡ None → o ≡ None
none_remarked None h = refl
none_remarked (Some w) h = absurd (cc)

pub prefixes_remarked : (ws : List Wait) → prefixes_at (map remarked ws) ≡ prefixes_at ws
prefixes_remarked [] = refl
prefixes_remarked (w ∷ ws) = ap (λ ps. w.prefix ∷ ps) (prefixes_remarked ws)

all_still : (p : Prefix) (ws : List Wait) → AllByRecursion (λ q. prefix_order p q ≡ Less) (prefixes_at ws) → AllByRecursion (λ q. prefix_order p q ≡ Less) (prefixes_at (still_open ws))
all_still p [] h = tt
all_still p (w ∷ ws) h =
    elim w.open as (λ b. AllByRecursion (λ q. prefix_order p q ≡ Less) (prefixes_at (cond b (w ∷ still_open ws) (still_open ws)))) [
      | true ↦ (h.0, all_still p ws h.1)
      | false ↦ all_still p ws h.1
    ]

still_rise : (ws : List Wait) → IsStrictlySortedBy prefix_order (prefixes_at ws) → IsStrictlySortedBy prefix_order (prefixes_at (still_open ws))
unfolding IsStrictlySortedBy
still_rise [] up = tt
still_rise (w ∷ ws) up =
    elim w.open as (λ b. IsStrictlySortedBy prefix_order (prefixes_at (cond b (w ∷ still_open ws) (still_open ws)))) [
      | true ↦ (all_still w.prefix ws up.0, still_rise ws up.1)
      | false ↦ still_rise ws up.1
    ]

pub remarked_rise : (ws base : List Wait) → IsStrictlySortedBy prefix_order (prefixes_at ws) → base ≡ map remarked (still_open ws) → IsStrictlySortedBy prefix_order (prefixes_at base)
remarked_rise ws base up is = subst (IsStrictlySortedBy prefix_order) (sym (ap prefixes_at is ∙ prefixes_remarked (still_open ws))) (still_rise ws up)

pub any_front : (q : Prefix) (n : ℕ) (ws : List Wait) → list_any (same q) (prefixes_at ws) ≡ false → list_any (same q) (prefixes_at (take n ws)) ≡ false
any_front q zero ws h = refl
any_front q (suc n) [] h = refl
any_front q (suc n) (w ∷ ws) h =
    let both = or_parts (same q w.prefix) (list_any (same q) (prefixes_at ws)) h in
    ap (λ b. b || list_any (same q) (prefixes_at (take n ws))) both.0 ∙ any_front q n ws both.1

-- ---- those that wait still

abbrev pub Stands : List Wait → Wait → Type 0
Stands ws w = (w.open ≡ true) × (open_at w.prefix ws ≡ Some w)

pub all_mapped : (f : Wait → Wait) (P Q : Wait → Type 0) → ((w : Wait) → P w → Q (f w)) → (ws : List Wait) → AllByRecursion P ws → AllByRecursion Q (map f ws)
all_mapped f P Q g [] h = tt
all_mapped f P Q g (w ∷ ws) h = (g w h.0, all_mapped f P Q g ws h.1)

pub all_changed : (P Q : Wait → Type 0) → ((w : Wait) → P w → Q w) → (ws : List Wait) → AllByRecursion P ws → AllByRecursion Q ws
all_changed P Q g [] h = tt
all_changed P Q g (w ∷ ws) h = (g w h.0, all_changed P Q g ws h.1)

stands_behind : (x : Wait) (ws : List Wait) → AllByRecursion (λ p. prefix_order x.prefix p ≡ Less) (prefixes_at ws) → (w : Wait) → Stands ws w → Stands (x ∷ ws) w
stands_behind x ws up w h = (
  h.0,
  elim (same w.prefix x.prefix) as (λ b. same w.prefix x.prefix ≡ b → open_at w.prefix (x ∷ ws) ≡ Some w) [
    | true ↦ λ t. absurd (let f : None ≡ Some w = sym (none_behind x.prefix w.prefix ws up t) ∙ h.1 in (cc))
    | false ↦ λ f. later_at w.prefix x ws f ∙ h.1
  ] refl,
)

pub still_stand : (ws : List Wait) → IsStrictlySortedBy prefix_order (prefixes_at ws) → AllByRecursion (Stands ws) (still_open ws)
unfolding IsStrictlySortedBy
still_stand [] up = tt
still_stand (x ∷ ws) up =
    elim x.open as (λ b. x.open ≡ b → AllByRecursion (Stands (x ∷ ws)) (cond b (x ∷ still_open ws) (still_open ws))) [
      | true ↦ λ t. ((t, first_open x.prefix x ws t (same_itself x.prefix)), all_changed (Stands ws) (Stands (x ∷ ws)) (stands_behind x ws up.0) (still_open ws) (still_stand ws up.1))
      | false ↦ λ _. all_changed (Stands ws) (Stands (x ∷ ws)) (stands_behind x ws up.0) (still_open ws) (still_stand ws up.1)
    ] refl

-- what waited, marked where something was told
pub marked_first : (loc : Table) (ws : List Wait) → IsStrictlySortedBy prefix_order (prefixes_at ws) → All (IsPutAgain loc ws) (map remarked (still_open ws))
marked_first loc ws up =
    All-from_recursion (IsPutAgain loc ws) (map remarked (still_open ws))
    (all_mapped remarked (Stands ws) (IsPutAgain loc ws) (λ w h. record { opened = h.0; again = subst (λ o. WaitsAgain (fin.get loc w.prefix) o (remarked w)) (sym h.1) (refl, refl, refl) }) (still_open ws) (still_stand ws up))

-- what waited has the rows that it had
pub backed_first : (rows : List (Option Row)) (ws : List Wait) → IsStrictlySortedBy prefix_order (prefixes_at ws) → AreBacked rows ws → All (λ z. IsBacked rows z.prefix z.due) (map remarked (still_open ws))
backed_first rows ws up backed =
    All-from_recursion (λ z. IsBacked rows z.prefix z.due) (map remarked (still_open ws))
    (all_mapped remarked (Stands ws) (λ z. IsBacked rows z.prefix z.due) (λ w h. backed w.prefix w h.1) (still_open ws) (still_stand ws up))

-- ---- a row

pub row_due : (rows : List (Option Row)) (n : ℕ) (r : Row) → row_at rows n ≡ Some r → IsSome (fin.get (loc_of rows) r.prefix)
row_due [] n r is = absurd (cc)
row_due (None ∷ rows) zero r is = absurd (cc)
row_due (None ∷ rows) (suc n) r is = row_due rows n r is
row_due (Some x ∷ rows) zero r is =
    subst IsSome (sym (fin.get-insert prefixes_total (loc_of rows) x.prefix x.attributes r.prefix)) (here (same r.prefix x.prefix) (ap (λ (t : Row). same r.prefix t.prefix) (same_Some x r is) ∙ same_itself r.prefix))
  where
    here : (b : Bool) → b ≡ true → IsSome (cond b (Some x.attributes) (fin.get (loc_of rows) r.prefix))
    here true h = refl
    here false h = absurd (true≢false (sym h))
row_due (Some x ∷ rows) (suc n) r is =
    subst IsSome (sym (fin.get-insert prefixes_total (loc_of rows) x.prefix x.attributes r.prefix)) (there (same r.prefix x.prefix) (row_due rows n r is))
  where
    there : (b : Bool) → IsSome (fin.get (loc_of rows) r.prefix) → IsSome (cond b (Some x.attributes) (fin.get (loc_of rows) r.prefix))
    there true h = refl
    there false h = h

marked_more : (rows : List (Option Row)) (n : ℕ) (r : Row) (ws base old new : List Wait) → row_at rows n ≡ Some r → base ≡ map remarked (still_open ws) → MayAddRow base n r old new → All (IsPutAgain (loc_of rows) ws) old → All (IsPutAgain (loc_of rows) ws) new
marked_more rows n r ws base old new is first (inl stays) all = subst (All (IsPutAgain (loc_of rows) ws)) (sym stays) all
marked_more rows n r ws base old new is first (inr adds) all =
    let none : open_at adds.wait.prefix ws ≡ None =
    ap (λ p. open_at p ws) adds.prefix ∙ sym (open_still r.prefix ws)
    ∙ none_remarked (open_at r.prefix (still_open ws)) (sym (open_remarked r.prefix (still_open ws)) ∙ sym (ap (open_at r.prefix) first) ∙ adds.alone) in
    let due : IsSome (fin.get (loc_of rows) adds.wait.prefix) = subst (λ p. IsSome (fin.get (loc_of rows) p)) (sym adds.prefix) (row_due rows n r is) in
    subst (All (IsPutAgain (loc_of rows) ws)) (sym adds.added)
    (All-push (IsPutAgain (loc_of rows) ws) old adds.wait all (record {
      opened = adds.opened;
      again = subst (λ o. WaitsAgain (fin.get (loc_of rows) adds.wait.prefix) o adds.wait) (sym none) (due, ap is_withdrawal adds.due, adds.told, adds.marked);
    }))

-- while rows are added: those that waited stand in front
pub record AreMarking (rows : List (Option Row)) (ws base : List Wait) (waited : ℕ) (xs : List Wait) : Type 0 where
  pub front : take waited xs ≡ base
  pub within : waited ≤ length xs
  pub all : All (IsPutAgain (loc_of rows) ws) xs
  pub backed : AreBacked rows ws → All (λ z. IsBacked rows z.prefix z.due) xs

pub marking_more : (rows : List (Option Row)) (n : ℕ) (r : Row) (ws base : List Wait) (waited : ℕ) (old new : List Wait) → row_at rows n ≡ Some r → base ≡ map remarked (still_open ws) → MayAddRow (take waited old) n r old new
    → AreMarking rows ws base waited old → AreMarking rows ws base waited new
marking_more rows n r ws base waited old new is first (inl stays) are = subst (AreMarking rows ws base waited) (sym stays) are
marking_more rows n r ws base waited old new is first (inr adds) are = record {
  front = ap (take waited) adds.added ∙ take-append-le waited old (adds.wait ∷ []) are.within ∙ are.front;
  within = omega (arith, are.within, ap length adds.added, length-append old (adds.wait ∷ []));
  all = marked_more rows n r ws (take waited old) old new is (are.front ∙ first) (inr adds) are.all;
  backed = λ backed. subst (All (λ z. IsBacked rows z.prefix z.due)) (sym adds.added)
      (All-push (λ z. IsBacked rows z.prefix z.due) old adds.wait (are.backed backed)
      (subst (λ p. IsBacked rows p adds.wait.due) (sym adds.prefix) (subst (IsBacked rows r.prefix) (sym adds.due) (ap (option_map prefix_and_hash) is))));
}

-- ---- all of it

pub backed_again : (rows : List (Option Row)) (xs zs : List Wait) → All (λ z. IsBacked rows z.prefix z.due) xs → ((w : Wait) → Contains zs w → Contains xs w) → AreBacked rows zs
backed_again rows xs zs all from q z is = (at_slot P q z zs every is).0
  where
    P : Wait → Type 0
    P w = IsBacked rows w.prefix w.due

    every : AllByRecursion P zs
    every = recursion_from_All P zs (λ k d below. All-contains P xs (get_or zs k d) all (from (get_or zs k d) (All-contains_itself zs k d below)))

pub marked_again : (loc : Table) (ws base xs zs : List Wait) (n : ℕ) → base ≡ map remarked (still_open ws) → take n xs ≡ base → All (IsPutAgain loc ws) xs
    → ((w : Wait) → Contains zs w → Contains xs w) → ((q : Prefix) → list_any (same q) (prefixes_at zs) ≡ list_any (same q) (prefixes_at xs)) → (q : Prefix) → MayWaitAgain (fin.get loc q) (open_at q ws) (open_at q zs)
marked_again loc ws base xs zs n first front all from same_prefixes q = go (open_at q zs) refl
  where
    every : AllByRecursion (IsPutAgain loc ws) zs
    every = recursion_from_All (IsPutAgain loc ws) zs (λ k d below. All-contains (IsPutAgain loc ws) xs (get_or zs k d) all (from (get_or zs k d) (All-contains_itself zs k d below)))

    go : (o : Option Wait) → open_at q zs ≡ o → MayWaitAgain (fin.get loc q) (open_at q ws) o
    go None is =
        sym (open_still q ws)
        ∙ not_listed q (still_open ws)
        (sym (ap (list_any (same q)) (ap prefixes_at (front ∙ first) ∙ prefixes_remarked (still_open ws)))
        ∙ any_front q n xs (sym (same_prefixes q) ∙ none_listed q zs (all_changed (IsPutAgain loc ws) (λ w. w.open ≡ true) (λ w h. h.opened) zs every) is))
    go (Some z) is =
        let r = at_slot (IsPutAgain loc ws) q z zs every is in
        subst (λ p. WaitsAgain (fin.get loc p) (open_at p ws) z) (sym r.1) r.0.again
