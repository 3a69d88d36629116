-- Where nothing waits, what was told is what is due, and nothing is marked; and the other way round where what waits is exact.
use Rattle.std.proofs.Common.{◌≡◌, ◌+◌, ℕ, zero, suc, Bool, true, false, cond, ◌&&◌, Option, Some, None, List, [], ◌∷◌, refl, sym, ap, ◌∙◌, arith}
use Rattle.std.specs.Prelude.{slice_get, option_map}
use Rattle.std.proofs.lemmas.List.Sums.{sum_by-cons}
use Rattle.std.proofs.lemmas.Option.{same_Some}
use Rattle.std.specs.FinMap as fin
use Rattle.std.specs.FinSet as set
use Rattle.rs_outlet.specs.declared.waiting.Wait.{Wait}
use Rattle.rs_octets.specs.Prefixes.{Prefix, prefix_order}
use Rattle.rs_outlet.specs.Views.{View, Table, WaitsAreExact}
use Rattle.rs_outlet.specs.Views as views
use Rattle.rs_outlet.specs.Pending.Slots.{open_at, open_count, told_of, marked_told, is_withdrawal}
use Rattle.rs_outlet.specs.Inside.{told_over, marked_of, waits_of, put, mark}
use Rattle.rs_outlet.proofs.Decided.LocByNumber.{same, same_itself}
use Rattle.rs_outlet.proofs.Pending.Slots.{first_open}
use Rattle.rs_outlet.proofs.Pending.Standing.{waits_at}
use Rattle.rs_outlet.proofs.Pending.Exact.{none_waits}

first_shut : (w : Wait) (ws : List Wait) → open_count (w ∷ ws) ≡ 0 → (w.open ≡ false) × (open_count ws ≡ 0)
first_shut w ws h = go w.open refl
  where
    more : open_count (w ∷ ws) ≡ cond w.open 1 0 + open_count ws
    more = sum_by-cons (λ (x : Wait). cond x.open 1 0) w ws

    go : (b : Bool) → w.open ≡ b → (w.open ≡ false) × (open_count ws ≡ 0)
    go true is =
        let one : ◌≡◌ {A = ℕ} (cond w.open 1 0) 1 = ap (λ b. cond b 1 0) is in
        absurd (omega (arith, h, more, one))
    go false is =
        let none : ◌≡◌ {A = ℕ} (cond w.open 1 0) 0 = ap (λ b. cond b 1 0) is in
        (is, omega (arith, h, more, none))

-- where none waits, no slot does
pub all_shut : (ws : List Wait) → open_count ws ≡ 0 → (m : ℕ) (z : Wait) → slice_get ws m ≡ Some z → z.open ≡ false
all_shut [] none zero z at = absurd (cc)
all_shut [] none (suc m) z at = absurd (cc)
all_shut (w ∷ ws) none zero z at = sym (ap (λ (v : Wait). v.open) (same_Some w z at)) ∙ (first_shut w ws none).0
all_shut (w ∷ ws) none (suc m) z at = all_shut ws (first_shut w ws none).1 m z at

pub told_drained : (loc : Table) (ws : List Wait) → open_count ws ≡ 0 → told_over loc ws ≡ loc
told_drained loc [] h = refl
told_drained loc (w ∷ ws) h =
    let f = first_shut w ws h in
    ap (λ b. cond b (put (told_over loc ws) w.prefix (told_of w.told (fin.get loc w.prefix))) (told_over loc ws)) f.0
    ∙ told_drained loc ws f.1

pub marked_drained : (loc : Table) (ws : List Wait) → open_count ws ≡ 0 → marked_of loc ws ≡ set.empty
marked_drained loc [] h = refl
marked_drained loc (w ∷ ws) h =
    let f = first_shut w ws h in
    ap (λ b. cond b (mark (marked_of loc ws) w.prefix (marked_told (Some w) (fin.get loc w.prefix))) (marked_of loc ws)) f.0
    ∙ marked_drained loc ws f.1

pub waits_drained : (ws : List Wait) → open_count ws ≡ 0 → waits_of ws ≡ fin.empty
waits_drained [] h = refl
waits_drained (w ∷ ws) h =
    let f = first_shut w ws h in
    ap (λ b. cond b (fin.insert (waits_of ws) w.prefix (is_withdrawal w.due)) (waits_of ws)) f.0
    ∙ waits_drained ws f.1

-- ---- the other way round

none_open : (ws : List Wait) → ((q : Prefix) → open_at q ws ≡ None) → open_count ws ≡ 0
none_open [] h = refl
none_open (w ∷ ws) h = go w.open refl (λ shut. none_open ws (λ q. sym (ap (λ b. cond (b && same q w.prefix) (Some w) (open_at q ws)) shut) ∙ h q))
  where
    more : open_count (w ∷ ws) ≡ cond w.open 1 0 + open_count ws
    more = sum_by-cons (λ (x : Wait). cond x.open 1 0) w ws

    go : (b : Bool) → w.open ≡ b → (w.open ≡ false → open_count ws ≡ 0) → open_count (w ∷ ws) ≡ 0
    go true is rest = absurd (let f : Some w ≡ None = sym (first_open w.prefix w ws is (same_itself w.prefix)) ∙ h w.prefix in (cc))
    go false is rest =
        let none : ◌≡◌ {A = ℕ} (cond w.open 1 0) 0 = ap (λ b. cond b 1 0) is in
        omega (arith, rest is, more, none)

unmapped : (f : Wait → Bool) (o : Option Wait) → option_map f o ≡ None → o ≡ None
unmapped f None h = refl
unmapped f (Some w) h = absurd (cc)

-- where all that is due was told, and nothing is marked, nothing waits
pub drained_open : (v : View) (ws : List Wait) → WaitsAreExact v → v.waits ≡ waits_of ws → v.told ≡ v.loc → v.marked ≡ set.empty → open_count ws ≡ 0
drained_open v ws exact waits told marked = none_open ws (λ q.
    unmapped (λ w. is_withdrawal w.due) (open_at q ws)
    (sym (ap (λ t. fin.get t q) waits ∙ waits_at ws q) ∙ exact q
    ∙ (λ i. views.waits_at (fin.get v.loc q) (fin.get (told i) q) (set.contains (marked i) q))
    ∙ ap (views.waits_at (fin.get v.loc q) (fin.get v.loc q)) (set.contains-empty prefix_order q)
    ∙ none_waits (fin.get v.loc q)))

-- where nothing waits no slot is open
pub empty_open : (ws : List Wait) → waits_of ws ≡ fin.empty → open_count ws ≡ 0
empty_open ws e = none_open ws (λ q. unmapped (λ w. is_withdrawal w.due) (open_at q ws) (sym (waits_at ws q) ∙ ap (λ t. fin.get t q) e ∙ fin.get-empty prefix_order q))
