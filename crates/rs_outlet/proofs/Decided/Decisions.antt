-- The changes of a turn, decided one number after the other.
use Rattle.std.proofs.Common.{◌≡◌, ◌<◌, ◌+◌, ◌∙◌, ℕ, zero, suc, Bool, true, false, ◌||◌, inl, inr, nat_eq, nat_lt, List, [], ◌∷◌, ◌++◌, Option, Some, length, get_or, take, refl, sym, ap, subst, arith}
use mathlib.Core.Bool.{true≢false}
use Rattle.std.specs.List.{AllByRecursion, IsDistinct, list_any}
use Rattle.std.specs.Map.{keys_of}
use Rattle.std.specs.Arc.{arc_value}
use Rattle.std.specs.Prelude.{option_map}
use Rattle.std.proofs.lemmas.Bool.Decides.{nat_tests}
use Rattle.std.proofs.lemmas.Bool.{or_parts, or_right, eqb-true}
use Rattle.std.proofs.lemmas.List.{append_assoc}
use Rattle.rs_octets.specs.Prefixes.{Prefix}
use Rattle.rs_attrs.specs.Meaning.{Attribute}
use Rattle.rs_adjin.specs.declared.adj_ins.AdjIns.{AdjIns}
use Rattle.rs_adjin.specs.AdjIns.{number_of}
use Rattle.rs_rows.specs.Rows.{Row}
use Rattle.rs_outlet.specs.declared.changes.Change.{Change}
use Rattle.rs_outlet.specs.Inside.{AreDecided, IsChangeAt, IsDecidedAt, IsOwn, attributes_at, numbers_of, row_at}
use Rattle.rs_outlet.specs.Decided.Touching.{is_numbered_in}
use Rattle.rs_outlet.proofs.Decided.Numbering.{all_both}

or_swap : (a b c : Bool) → (a || (b || c)) ≡ (b || (a || c))
or_swap true true c = refl
or_swap true false c = refl
or_swap false b c = refl

or_true : (a b : Bool) → (a || b) ≡ true → a ≡ false → b ≡ true
or_true true b h f = absurd (true≢false f)
or_true false b h f = h

swap_false : (n m : ℕ) → nat_eq n m ≡ false → nat_eq m n ≡ false
swap_false n m h = grind (arith, nat_tests, h)

any_push : (cs : List Change) (c : Change) (m : ℕ) → list_any (nat_eq m) (numbers_of (cs ++ c ∷ [])) ≡ (nat_eq m c.number || list_any (nat_eq m) (numbers_of cs))
any_push [] c m = refl
any_push (x ∷ cs) c m = ap (λ b. nat_eq m x.number || b) (any_push cs c m) ∙ or_swap (nat_eq m x.number) (nat_eq m c.number) _

all_push : (x : ℕ) (cs : List Change) (c : Change) → AllByRecursion (λ y. nat_eq x y ≡ false) (numbers_of cs) → nat_eq x c.number ≡ false → AllByRecursion (λ y. nat_eq x y ≡ false) (numbers_of (cs ++ c ∷ []))
all_push x [] c h is = (is, tt)
all_push x (d ∷ cs) c h is = (h.0, all_push x cs c h.1 is)

distinct_push : (cs : List Change) (c : Change) → IsDistinct nat_eq (numbers_of cs) → list_any (nat_eq c.number) (numbers_of cs) ≡ false → IsDistinct nat_eq (numbers_of (cs ++ c ∷ []))
unfolding IsDistinct
distinct_push [] c h new = (tt, tt)
distinct_push (x ∷ cs) c h new =
    let apart = or_parts (nat_eq c.number x.number) (list_any (nat_eq c.number) (numbers_of cs)) new in
    (all_push x.number cs c h.0 (swap_false c.number x.number apart.0), distinct_push cs c h.1 apart.1)

-- ---- the entry at an index

all_at : (P : ℕ → Type 0) (es : List (ℕ × Prefix)) (i : ℕ) (e : ℕ × Prefix) → AllByRecursion P (keys_of es) → i < length es → e ≡ get_or es i e → P e.0
all_at P [] i e h below is = absurd (omega (arith, below))
all_at P (x ∷ es) zero e h below is = subst (λ (y : ℕ × Prefix). P y.0) (sym is) h.0
all_at P (x ∷ es) (suc i) e h below is = all_at P es i e h.1 (omega (arith, below)) is

-- it is not among those before it
pub entry_new : (es : List (ℕ × Prefix)) (i : ℕ) (e : ℕ × Prefix) → IsDistinct nat_eq (keys_of es) → i < length es → e ≡ get_or es i e → is_numbered_in (take i es) e.0 ≡ false
unfolding IsDistinct
entry_new [] i e d below is = absurd (omega (arith, below))
entry_new (x ∷ es) zero e d below is = refl
entry_new (x ∷ es) (suc i) e d below is =
    let apart : nat_eq x.0 e.0 ≡ false = all_at (λ y. nat_eq x.0 y ≡ false) es i e d.0 (omega (arith, below)) is in
    ap (λ b. b || is_numbered_in (take i es) e.0) (swap_false x.0 e.0 apart) ∙ entry_new es i e d.1 (omega (arith, below)) is

-- with it
pub entry_more : (es : List (ℕ × Prefix)) (i : ℕ) (e : ℕ × Prefix) → i < length es → e ≡ get_or es i e → (m : ℕ) → is_numbered_in (take (i + 1) es) m ≡ (nat_eq m e.0 || is_numbered_in (take i es) m)
entry_more [] i e below is m = absurd (omega (arith, below))
entry_more (x ∷ es) zero e below is m = ap (λ (y : ℕ × Prefix). nat_eq m y.0 || false) (sym is)
entry_more (x ∷ es) (suc i) e below is m =
    let next : suc i + 1 ≡ suc (i + 1) = omega arith in
    ap (λ k. is_numbered_in (take k (x ∷ es)) m) next
    ∙ ap (λ b. nat_eq m x.0 || b) (entry_more es i e (omega (arith, below)) is m)
    ∙ or_swap (nat_eq m x.0) (nat_eq m e.0) _

module _ (ins : AdjIns) (due_at : Prefix → Option (List Attribute)) (rows : List (Option Row)) where
  same_in : (d e : ℕ → Bool) (n : ℕ) (cs : List Change) → AreDecided ins due_at rows d cs
      → ((p : Prefix) → number_of ins p ≡ Some n → attributes_at rows n ≡ due_at p) → ((m : ℕ) → e m ≡ (nat_eq m n || d m)) → AreDecided ins due_at rows e cs
  same_in d e n cs h is more = record {
    placed = h.placed;
    due = h.due;
    own = h.own;
    once = h.once;
    within = λ m found. more m ∙ or_right (nat_eq m n) (d m) (h.within m found);
    all = λ m there none p at.
        elim (nat_eq m n) as (λ b. nat_eq m n ≡ b → attributes_at rows m ≡ due_at p) [
          | true ↦ λ t. let k : m ≡ n = eqb-true m n t in ap (attributes_at rows) k ∙ is p (at ∙ ap (λ k. Some k) k)
          | false ↦ λ f. h.all m (or_true (nat_eq m n) (d m) (sym (more m) ∙ there) f) none p at
        ] refl;
  }

  one_in : (d e : ℕ → Bool) (n : ℕ) (cs : List Change) (c : Change) → AreDecided ins due_at rows d cs → d n ≡ false
      → IsChangeAt ins due_at rows n c → ((m : ℕ) → e m ≡ (nat_eq m n || d m)) → AreDecided ins due_at rows e (cs ++ c ∷ [])
  one_in d e n cs c h new is more =
      let out : list_any (nat_eq n) (numbers_of cs) ≡ false =
      elim (list_any (nat_eq n) (numbers_of cs)) as (λ b. list_any (nat_eq n) (numbers_of cs) ≡ b → b ≡ false) [
        | true ↦ λ t. absurd (true≢false (sym (h.within n t) ∙ new))
        | false ↦ λ f. refl
      ] refl in
      let gone : list_any (nat_eq c.number) (numbers_of cs) ≡ false = ap (λ k. list_any (nat_eq k) (numbers_of cs)) is.number ∙ out in
      record {
        placed = all_both (λ (x : Change). number_of ins x.prefix ≡ Some x.number) cs (c ∷ []) h.placed (is.placed ∙ ap (λ k. Some k) (sym is.number), tt);
        due = all_both (λ (x : Change). option_map arc_value x.due ≡ due_at x.prefix) cs (c ∷ []) h.due (is.due, tt);
        own = all_both (λ (x : Change). IsOwn (row_at rows x.number) x.prefix) cs (c ∷ []) h.own (subst (λ k. IsOwn (row_at rows k) c.prefix) (sym is.number) is.own, tt);
        once = distinct_push cs c h.once gone;
        within = λ m found. more m ∙
            elim (nat_eq m n) as (λ b. nat_eq m n ≡ b → (b || d m) ≡ true) [
              | true ↦ λ t. refl
              | false ↦ λ f. h.within m (or_true (nat_eq m c.number) _ (sym (any_push cs c m) ∙ found) (ap (nat_eq m) is.number ∙ f))
            ] refl;
        all = λ m there none p at.
            let both = or_parts (nat_eq m c.number) (list_any (nat_eq m) (numbers_of cs)) (sym (any_push cs c m) ∙ none) in
            h.all m (or_true (nat_eq m n) (d m) (sym (more m) ∙ there) (sym (ap (nat_eq m) is.number) ∙ both.0)) both.1 p at;
      }

  -- one number more
  pub one_more_decided : (d e : ℕ → Bool) (n : ℕ) (cs ds : List Change) → AreDecided ins due_at rows d cs → d n ≡ false
      → IsDecidedAt ins due_at rows n cs ds → ((m : ℕ) → e m ≡ (nat_eq m n || d m)) → AreDecided ins due_at rows e ds
  one_more_decided d e n cs ds h new (inl is) more = subst (AreDecided ins due_at rows e) (sym is.0) (same_in d e n cs h is.1 more)
  one_more_decided d e n cs ds h new (inr is) more = subst (AreDecided ins due_at rows e) (sym is.2) (one_in d e n cs is.0 h new is.1 more)

  -- none yet
  pub none_decided : (d : ℕ → Bool) (cs : List Change) → cs ≡ [] → ((m : ℕ) → d m ≡ false) → AreDecided ins due_at rows d cs
  unfolding IsDistinct
  none_decided d cs none off = subst (AreDecided ins due_at rows d) (sym none) (record {
    placed = tt;
    due = tt;
    own = tt;
    once = tt;
    within = λ m found. absurd (true≢false (sym found));
    all = λ m there empty p at. absurd (true≢false (sym there ∙ off m));
  })

  -- the numbers up to one
  pub next_decided : (n : ℕ) (cs ds : List Change) → AreDecided ins due_at rows (λ m. nat_lt m n) cs → IsDecidedAt ins due_at rows n cs ds → AreDecided ins due_at rows (λ m. nat_lt m (n + 1)) ds
  next_decided n cs ds h is = one_more_decided (λ m. nat_lt m n) (λ m. nat_lt m (n + 1)) n cs ds h (grind (arith, nat_tests)) is (λ m. grind (arith, nat_tests))

  -- what every prefix's number is below is all
  pub all_decided : (n : ℕ) (cs : List Change) → AreDecided ins due_at rows (λ m. nat_lt m n) cs → ((p : Prefix) (m : ℕ) → number_of ins p ≡ Some m → m < n) → AreDecided ins due_at rows (λ m. true) cs
  all_decided n cs h below = record {
    placed = h.placed;
    due = h.due;
    own = h.own;
    once = h.once;
    within = λ m found. refl;
    all = λ m there none p at. let l : m < n = below p m at in h.all m (grind (arith, nat_tests, l)) none p at;
  }

  -- the prefix of a number is one
  pub decided_there : (n : ℕ) (p : Prefix) (cs : List Change) → number_of ins p ≡ Some n → ((q : Prefix) → number_of ins q ≡ Some n → q ≡ p) → attributes_at rows n ≡ due_at p → IsDecidedAt ins due_at rows n cs cs
  decided_there n p cs at once is = inl (refl, λ q there. is ∙ ap due_at (sym (once q there)))

  -- behind other changes
  pub decided_behind : (front old new : List Change) (n : ℕ) → IsDecidedAt ins due_at rows n old new → IsDecidedAt ins due_at rows n (front ++ old) (front ++ new)
  decided_behind front old new n (inl is) = inl (ap (λ cs. front ++ cs) is.0, is.1)
  decided_behind front old new n (inr is) = inr (is.0, is.1, ap (λ cs. front ++ cs) is.2 ∙ sym (append_assoc front old (is.0 ∷ [])))
