-- Chains of slots: how they come of slots that are in order, and what leaves them as they are.
use Rattle.std.proofs.Common.{◌≡◌, ◌≢◌, ◌<◌, ◌≤◌, ◌==◌, ℕ, zero, suc, Bool, true, false, ◌&&◌, not, cond, Option, None, Some, List, [], ◌∷◌, ◌++◌, length, slice_set, take, refl, sym, ap, ◌∙◌, subst, arith, inl, inr}
use Rattle.std.specs.Prelude.{◌⊎◌, option_map, slice_get}
use Rattle.std.specs.List.{AllWithin, Contains}
use Rattle.std.specs.List.Sorted.{IsPermutation}
use Rattle.std.specs.Ordering.{is_eq}
use Rattle.std.specs.declared.cmp.Ordering.TheVariants.{Less, Equal}
use Rattle.std.proofs.lemmas.Bool.{cases_eq, cases_lt}
use Rattle.std.proofs.lemmas.Cmp.{tied_itself}
use Rattle.std.proofs.lemmas.Option.{get_or_from_slice_get, slice_get_read, slice_get_within, same_Some}
use Rattle.std.proofs.lemmas.List.Sorted.{Contains-permutation, IsPermutation-sym}
use Rattle.std.proofs.lemmas.List.Elements.{AllWithin-set, Contains-append_left, Contains-append_right, Contains-append_cases}
use Rattle.rs_octets.specs.Prefixes.{Prefix}
use Rattle.rs_attrs.specs.Meaning.{Attribute}
use Rattle.rs_attrs.specs.Comparing.{attributes_cmp, attributes_hash, same_attributes}
use Rattle.rs_attrs.specs.ComparisonLaws.{attributes_cmp_decides, attributes_cmp_total, attributes_decides}
use Rattle.rs_adjin.proofs.TableRows.{set_apart, set_here, some_row}
use Rattle.rs_rows.specs.Rows.{Row}
use Rattle.rs_outlet.specs.declared.waiting.Due.{Due}
use Rattle.rs_outlet.specs.declared.waiting.Due.TheVariants as due
use Rattle.rs_outlet.specs.declared.waiting.Wait.{Wait}
use Rattle.rs_outlet.specs.declared.waiting.chains.Keyed.{Keyed}
use Rattle.rs_outlet.specs.Inside.{AreChained, IsBacked, prefix_and_hash, row_at, row_by, shown}
use Rattle.rs_outlet.specs.Message.Next.{has_attributes}
use Rattle.rs_outlet.specs.Pending.Slots.{AreByHash, hash_of}
use Rattle.rs_outlet.specs.Pending.Chains.{AreInOrder, AreKeyed, AreLinked, IsBefore, IsKeyed, Leads, attributes_if, by_rows, due_by, due_there, key_at, key_by, no_set, or_none}
use Rattle.rs_outlet.specs.Pending.Choosing.{shares}

-- ---- what leaves chains as they are

past : (chain n : ℕ) → ◌≢◌ (slice_get [] n) (Some chain)
past chain zero h = cc
past chain (suc n) h = cc

pub none_chained : (rows : List (Option Row)) (ws : List Wait) (chains : List ℕ) → chains ≡ [] → AreChained rows ws chains
none_chained rows ws chains none n m chain hash w z a at from to later below waits opened here there is = absurd (past chain n (sym (ap (λ ls. slice_get ls n) none) ∙ at))

pub none_by_hash : (ws : List Wait) (chains : List ℕ) → chains ≡ [] → AreByHash ws chains
none_by_hash ws chains none n m chain hash w z at from to later below opened here there = past chain n (sym (ap (λ ls. slice_get ls n) none) ∙ at)

pub same_by_hash : (ws ws' : List Wait) (chains chains' : List ℕ) → ws' ≡ ws → chains' ≡ chains → AreByHash ws chains → AreByHash ws' chains'
same_by_hash ws ws' chains chains' slots same are = subst (AreByHash ws') (sym same) (subst (λ vs. AreByHash vs chains) (sym slots) are)

same_row_by : (rows rows' : List (Option Row)) → ((n : ℕ) → row_at rows' n ≡ row_at rows n) → (d : Due) → row_by rows' d ≡ row_by rows d
same_row_by rows rows' same_rows due.Withdrawn = refl
same_row_by rows rows' same_rows (due.Announced number hash) = same_rows number

pub same_chained : (rows rows' : List (Option Row)) (ws ws' : List Wait) (chains chains' : List ℕ) → ((n : ℕ) → row_at rows' n ≡ row_at rows n) → ws' ≡ ws → chains' ≡ chains → AreChained rows ws chains → AreChained rows' ws' chains'
same_chained rows rows' ws ws' chains chains' same_rows slots same are n m chain hash w z a at from to later below waits opened here there is =
    λ e.
    are n m chain hash w z a (ap (λ ls. slice_get ls n) (sym same) ∙ at) (ap (λ vs. slice_get vs n) (sym slots) ∙ from) (ap (λ vs. slice_get vs m) (sym slots) ∙ to) later below waits opened here there
    (ap shown (sym (same_row_by rows rows' same_rows w.due)) ∙ is)
    (ap shown (sym (same_row_by rows rows' same_rows z.due)) ∙ e)

-- one slot waits no more
pub shut_chained : (rows : List (Option Row)) (ws : List Wait) (n : ℕ) (x y : Wait) (chains : List ℕ) → slice_get ws n ≡ Some x → y.open ≡ false → AreChained rows ws chains → AreChained rows (slice_set ws n y) chains
shut_chained rows ws n x y chains here shut are k m chain hash w z a at from to later below waits opened w_hash z_hash is = elim (cases_eq m n) [
  | inl e ↦
      let same : y ≡ z = same_Some y z (sym (set_here ws n y x here) ∙ sym (ap (slice_get (slice_set ws n y)) e) ∙ to) in
      absurd (let f : true ≡ false = sym opened ∙ ap (λ (v : Wait). v.open) (sym same) ∙ shut in cc)
  | inr ne ↦
      let there : slice_get ws m ≡ Some z = sym (set_apart ws n y m ne) ∙ to in
      elim (cases_eq k n) [
        | inl e ↦
            let same : y ≡ w = same_Some y w (sym (set_here ws n y x here) ∙ sym (ap (slice_get (slice_set ws n y)) e) ∙ from) in
            absurd (let f : true ≡ false = sym waits ∙ ap (λ (v : Wait). v.open) (sym same) ∙ shut in cc)
        | inr apart ↦ are k m chain hash w z a at (sym (set_apart ws n y k apart) ∙ from) there later below waits opened w_hash z_hash is
      ]
]

pub shut_by_hash : (ws : List Wait) (n : ℕ) (x y : Wait) (chains : List ℕ) → slice_get ws n ≡ Some x → y.due ≡ x.due → y.open ≡ false → AreByHash ws chains → AreByHash (slice_set ws n y) chains
shut_by_hash ws n x y chains here due shut are k m chain hash w z at from to later below opened w_hash z_hash = elim (cases_eq m n) [
  | inl e ↦
      let same : y ≡ z = same_Some y z (sym (set_here ws n y x here) ∙ sym (ap (slice_get (slice_set ws n y)) e) ∙ to) in
      absurd (let f : true ≡ false = sym opened ∙ ap (λ (v : Wait). v.open) (sym same) ∙ shut in cc)
  | inr ne ↦
      let there : slice_get ws m ≡ Some z = sym (set_apart ws n y m ne) ∙ to in
      elim (cases_eq k n) [
        | inl e ↦
            let same : y ≡ w = same_Some y w (sym (set_here ws n y x here) ∙ sym (ap (slice_get (slice_set ws n y)) e) ∙ from) in
            are k m chain hash x z at (ap (slice_get ws) e ∙ here) there later below opened (ap hash_of (sym due ∙ ap (λ (v : Wait). v.due) same) ∙ w_hash) z_hash
        | inr apart ↦ are k m chain hash w z at (sym (set_apart ws n y k apart) ∙ from) there later below opened w_hash z_hash
      ]
]

-- ---- a slot of the first part, or one behind it, waits no more

take_write : (k n : ℕ) (ws : List Wait) (y : Wait) → take k (slice_set ws n y) ≡ slice_set (take k ws) n y
take_write zero zero [] y = refl
take_write zero zero (w ∷ ws) y = refl
take_write zero (suc n) [] y = refl
take_write zero (suc n) (w ∷ ws) y = refl
take_write (suc k) zero [] y = refl
take_write (suc k) zero (w ∷ ws) y = refl
take_write (suc k) (suc n) [] y = refl
take_write (suc k) (suc n) (w ∷ ws) y = ap (λ vs. w ∷ vs) (take_write k n ws y)

take_beyond : (k n : ℕ) (ws : List Wait) (y : Wait) → k ≤ n → take k (slice_set ws n y) ≡ take k ws
take_beyond zero n ws y h = refl
take_beyond (suc k) zero ws y h = absurd (omega (arith, h))
take_beyond (suc k) (suc n) [] y h = refl
take_beyond (suc k) (suc n) (w ∷ ws) y h = ap (λ vs. w ∷ vs) (take_beyond k n ws y (omega (arith, h)))

pub first_get : (k n : ℕ) (ws : List Wait) (x : Wait) → n < k → slice_get ws n ≡ Some x → slice_get (take k ws) n ≡ Some x
first_get zero n ws x h at = absurd (omega (arith, h))
first_get (suc k) zero [] x h at = at
first_get (suc k) (suc n) [] x h at = at
first_get (suc k) zero (w ∷ ws) x h at = at
first_get (suc k) (suc n) (w ∷ ws) x h at = first_get k n ws x (omega (arith, h)) at

pub within_take : (k n : ℕ) (ws : List Wait) → n < k → n < length ws → n < length (take k ws)
within_take zero n ws a b = absurd (omega (arith, a))
within_take (suc k) n [] a b = absurd (omega (arith, b))
within_take (suc k) zero (w ∷ ws) a b = omega arith
within_take (suc k) (suc n) (w ∷ ws) a b = let rest = within_take k n ws (omega (arith, a)) (omega (arith, b)) in omega (arith, rest)

pub first_shut_by_hash : (k : ℕ) (ws : List Wait) (n : ℕ) (x y : Wait) (chains : List ℕ) → slice_get ws n ≡ Some x → y.due ≡ x.due → y.open ≡ false → AreByHash (take k ws) chains → AreByHash (take k (slice_set ws n y)) chains
first_shut_by_hash k ws n x y chains here due shut are = elim (cases_lt n k) [
  | inl within ↦ subst (λ vs. AreByHash vs chains) (sym (take_write k n ws y)) (shut_by_hash (take k ws) n x y chains (first_get k n ws x within here) due shut are)
  | inr beyond ↦ subst (λ vs. AreByHash vs chains) (sym (take_beyond k n ws y beyond)) are
]

pub first_shut_chained : (rows : List (Option Row)) (k : ℕ) (ws : List Wait) (n : ℕ) (x y : Wait) (chains : List ℕ) → slice_get ws n ≡ Some x → y.open ≡ false → AreChained rows (take k ws) chains → AreChained rows (take k (slice_set ws n y)) chains
first_shut_chained rows k ws n x y chains here shut are = elim (cases_lt n k) [
  | inl within ↦ subst (λ vs. AreChained rows vs chains) (sym (take_write k n ws y)) (shut_chained rows (take k ws) n x y chains (first_get k n ws x within here) shut are)
  | inr beyond ↦ subst (λ vs. AreChained rows vs chains) (sym (take_beyond k n ws y beyond)) are
]

-- none of the first ones passes a test that it doesn't pass
pub none_set : (test : Wait → Bool) (k to : ℕ) (ws : List Wait) (n : ℕ) (y : Wait) → n < length ws → test y ≡ false → AllWithin (λ w. test w ≡ false) (take k ws) 0 to → AllWithin (λ w. test w ≡ false) (take k (slice_set ws n y)) 0 to
none_set test k to ws n y below not none = elim (cases_lt n k) [
  | inl within ↦ subst (λ vs. AllWithin (λ w. test w ≡ false) vs 0 to) (sym (take_write k n ws y)) (AllWithin-set (λ w. test w ≡ false) (take k ws) 0 to n y (within_take k n ws within below) not none)
  | inr beyond ↦ subst (λ vs. AllWithin (λ w. test w ≡ false) vs 0 to) (sym (take_beyond k n ws y beyond)) none
]

-- ---- what a chain passes over

has_not : (o : Option (List Attribute)) (m : List Attribute) → o ≢ Some m → has_attributes o m ≡ false
has_not None m ne = refl
has_not (Some n) m ne = go (same_attributes n m) refl
  where
    go : (b : Bool) → same_attributes n m ≡ b → b ≡ false
    go true is = absurd (ne (ap (λ x. Some x) ((attributes_decides n m).0 is)))
    go false is = refl

-- what isn't due at a slot, where it waits, is not shared by it
pub shares_other : (rows : List (Option Row)) (m : List Attribute) (z : Wait) → (z.open ≡ true → shown (row_by rows z.due) ≢ Some m) → shares rows m z ≡ false
shares_other rows m z ne = go z.open refl
  where
    go : (b : Bool) → z.open ≡ b → (b && has_attributes (shown (row_by rows z.due)) m) ≡ false
    go true opened = has_not (shown (row_by rows z.due)) m (ne opened)
    go false opened = refl

-- ---- slots in order

pub not_less : (m : List Attribute) → attributes_cmp m m ≡ Less → ⊥
not_less m h = let f : Equal ≡ Less = sym (tied_itself attributes_cmp_total m) ∙ h in cc

pub level_is : (m n : List Attribute) → attributes_cmp m n ≡ Equal → m ≡ n
level_is m n h = (attributes_cmp_decides m n).0 (ap is_eq h)

module _ (a : Keyed → List Attribute) where
  not_before_itself : (e : Keyed) → IsBefore a e e → ⊥
  not_before_itself e (inl less) = absurd (omega (arith, less))
  not_before_itself e (inr (same, inl less)) = not_less (a e) less
  not_before_itself e (inr (same, inr (level, less))) = absurd (omega (arith, less))

  before_trans : (e f g : Keyed) → IsBefore a e f → IsBefore a f g → IsBefore a e g
  before_trans e f g (inl x) (inl y) = inl (omega (arith, x, y))
  before_trans e f g (inl x) (inr (h, y)) = inl (omega (arith, x, h))
  before_trans e f g (inr (h, x)) (inl y) = inl (omega (arith, h, y))
  before_trans e f g (inr (h, inl x)) (inr (k, inl y)) = inr (h ∙ k, inl (attributes_cmp_total.trans (a e) (a f) (a g) x y))
  before_trans e f g (inr (h, inl x)) (inr (k, inr (is, y))) = inr (h ∙ k, inl (ap (attributes_cmp (a e)) (sym is) ∙ x))
  before_trans e f g (inr (h, inr (is, x))) (inr (k, inl y)) = inr (h ∙ k, inl (ap (λ m. attributes_cmp m (a g)) is ∙ y))
  before_trans e f g (inr (h, inr (is, x))) (inr (k, inr (also, y))) = inr (h ∙ k, inr (is ∙ also, omega (arith, x, y)))

  -- what comes between two with the same attributes has them too
  between : (e g f : Keyed) → IsBefore a e g → IsBefore a g f → e.key ≡ f.key → a e ≡ a f → (g.key ≡ e.key) × (a g ≡ a e) × (g.slot < f.slot)
  between e g f (inl x) (inl y) same is = absurd (omega (arith, x, y, same))
  between e g f (inl x) (inr (h, y)) same is = absurd (omega (arith, x, h, same))
  between e g f (inr (h, x)) (inl y) same is = absurd (omega (arith, h, y, same))
  between e g f (inr (h, inl x)) (inr (k, inl y)) same is = absurd (not_less (a f) (ap (λ m. attributes_cmp m (a f)) (sym is) ∙ attributes_cmp_total.trans (a e) (a g) (a f) x y))
  between e g f (inr (h, inl x)) (inr (k, inr (also, y))) same is = absurd (not_less (a e) (ap (attributes_cmp (a e)) (is ∙ sym also) ∙ x))
  between e g f (inr (h, inr (also, x))) (inr (k, inl y)) same is = absurd (not_less (a f) (ap (λ m. attributes_cmp m (a f)) (sym is ∙ also) ∙ y))
  between e g f (inr (h, inr (also, x))) (inr (k, inr (too, y))) same is = (sym h, sym also, y)

  -- each comes before all behind it
  rise_on : (es : List Keyed) → AreInOrder a es (length es) → (i j : ℕ) (e f : Keyed) → i < j → slice_get es i ≡ Some e → slice_get es j ≡ Some f → IsBefore a e f
  rise_on es rise i zero e f less at to = absurd (omega (arith, less))
  rise_on es rise i (suc j) e f less at to = elim (cases_eq i j) [
    | inl same ↦ rise j e f (let w = slice_get_within es (suc j) f to in omega (arith, w)) (ap (slice_get es) (sym same) ∙ at) to
    | inr ne ↦
        let apart : i ≢ j = ne in
        let below : j < length es = (let w = slice_get_within es (suc j) f to in omega (arith, w)) in
        let g = some_row es j e below in
        before_trans e g.0 f (rise_on es rise i j e g.0 (omega (arith, less, apart)) at g.1) (rise j g.0 f below g.1 to)
  ]

  -- one that comes before another with its attributes leads no further than there
  leads_on : (es : List Keyed) → AreInOrder a es (length es) → (i j chain : ℕ) (e f : Keyed) → slice_get es i ≡ Some e → slice_get es j ≡ Some f → e.key ≡ f.key → a e ≡ a f → e.slot < f.slot
      → ((g : Keyed) → slice_get es (suc i) ≡ Some g → g.key ≡ e.key → a g ≡ a e → chain ≤ g.slot) → chain ≤ f.slot
  leads_on es rise i j chain e f at to same is less leads = elim (cases_lt i j) [
    | inr past ↦
        let before : IsBefore a e f = inr (same, inr (is, less)) in
        elim (cases_eq j i) [
          | inl here ↦ absurd (not_before_itself e (subst (IsBefore a e) (same_Some f e (sym to ∙ ap (slice_get es) here ∙ at)) before))
          | inr ne ↦ absurd (let apart : j ≢ i = ne in not_before_itself e (before_trans e f e before (rise_on es rise j i f e (omega (arith, past, apart)) to at)))
        ]
    | inl more ↦ elim (cases_eq j (suc i)) [
      | inl here ↦ leads f (ap (slice_get es) (sym here) ∙ to) (sym same) (sym is)
      | inr ne ↦
          let apart : j ≢ suc i = ne in
          let below : suc i < length es = (let w = slice_get_within es j f to in omega (arith, w, more, apart)) in
          let g = some_row es (suc i) e below in
          let r = between e g.0 f (rise_on es rise i (suc i) e g.0 (omega arith) at g.1) (rise_on es rise (suc i) j g.0 f (omega (arith, more, apart)) g.1 to) same is in
          let most = leads g.0 g.1 r.0 r.1 in
          omega (arith, most, r.2)
    ]
  ]

-- ---- chains of slots in order

pub hash_by : (o : Option Row) (p : Prefix) (hash : ℕ) (m : List Attribute) → option_map prefix_and_hash o ≡ Some (p, hash) → shown o ≡ Some m → attributes_hash m ≡ hash
hash_by None p hash m backed is = absurd (cc)
hash_by (Some r) p hash m backed is = ap attributes_hash (sym (same_Some r.attributes m is)) ∙ ap (λ (e : Prefix × ℕ). e.1) (same_Some (prefix_and_hash r) (p, hash) backed)

-- what is due at a slot that has its row has the hash that the slot says
pub backed_hash : (rows : List (Option Row)) (p : Prefix) (d : Due) (m : List Attribute) → IsBacked rows p d → shown (row_by rows d) ≡ Some m → hash_of d ≡ Some (attributes_hash m)
backed_hash rows p due.Withdrawn m backed is = absurd (let f : ◌≡◌ {A = Option (List Attribute)} None (Some m) = is in cc)
backed_hash rows p (due.Announced number hash) m backed is = ap (λ h. Some h) (sym (hash_by (row_at rows number) p hash m backed is))

-- between a slot of a message's hash and the one that it leads to, none waits for the message's attributes
pub none_between : (rows : List (Option Row)) (ws : List Wait) (chains : List ℕ) (m : List Attribute) (exact has : Bool) → AreChained rows ws chains → (exact ≡ false → AreByHash ws chains)
    → (i n chain : ℕ) (w z : Wait) → slice_get chains i ≡ Some chain → slice_get ws i ≡ Some w → slice_get ws n ≡ Some z → i < n → n < chain
    → (has ≡ false → (exact ≡ false) × (hash_of w.due ≡ Some (attributes_hash m))) → (has ≡ true → (w.open ≡ true) × (shown (row_by rows w.due) ≡ Some m))
    → (w.open ≡ true → IsBacked rows w.prefix w.due) → (z.open ≡ true → IsBacked rows z.prefix z.due) → shares rows m z ≡ false
none_between rows ws chains m exact has chained by_hash i n chain w z at from to later below hashed is w_backed backed =
    shares_other rows m z (λ opened also. go has hashed is opened (backed_hash rows z.prefix z.due m (backed opened) also) also)
  where
    go : (has : Bool) → (has ≡ false → (exact ≡ false) × (hash_of w.due ≡ Some (attributes_hash m))) → (has ≡ true → (w.open ≡ true) × (shown (row_by rows w.due) ≡ Some m)) → z.open ≡ true → hash_of z.due ≡ Some (attributes_hash m) → shown (row_by rows z.due) ≡ Some m → ⊥
    go true hashed is opened z_hash also =
        let here = is refl in
        chained i n chain (attributes_hash m) w z m at from to later below here.0 opened (backed_hash rows w.prefix w.due m (w_backed here.0) here.1) z_hash here.1 also
    go false hashed is opened z_hash also = by_hash (hashed refl).0 i n chain (attributes_hash m) w z at from to later below opened (hashed refl).1 z_hash

announced : (d : Due) (hash : ℕ) → hash_of d ≡ Some hash → (number : ℕ) × (d ≡ due.Announced number hash)
announced due.Withdrawn hash is = absurd (let f : ◌≡◌ {A = Option ℕ} None (Some hash) = is in cc)
announced (due.Announced number own) hash is = (number, ap (due.Announced number) (same_Some own hash is))

listed_at : (es : List Keyed) (e : Keyed) → Contains es e → (j : ℕ) × (slice_get es j ≡ Some e)
listed_at es e (k, below, at) = (k, slice_get_read es (length es) k e refl below (sym at))

contains_at : (es : List Keyed) (i : ℕ) (e : Keyed) → slice_get es i ≡ Some e → Contains es e
contains_at es i e at = (i, slice_get_within es i e at, get_or_from_slice_get es i e e at)

module _ (exact : Bool) (set_of : List Attribute → Option ℕ) (rows : List (Option Row)) (ws : List Wait) where
  due_is : (e : Keyed) (w : Wait) (m : List Attribute) → slice_get ws e.slot ≡ Some w → shown (row_by rows w.due) ≡ Some m → due_there rows ws e ≡ m
  due_is e w m at is = ap (by_rows rows) at ∙ ap or_none is

  alike_by : (e f : Keyed) → e.key ≡ f.key → due_there rows ws e ≡ due_there rows ws f → due_by exact rows ws e ≡ due_by exact rows ws f
  unfolding due_by
  alike_by e f same is = ap (λ k. attributes_if (exact && k == no_set) (due_there rows ws e)) same ∙ ap (attributes_if (exact && f.key == no_set)) is

  -- what stands between a slot and the one that it leads to, and has its key, is told apart from it
  passed_over : (a : Keyed → List Attribute) (es : List Keyed) (chains : List ℕ) → AreKeyed exact set_of rows ws (length ws) es → AreInOrder a es (length es) → AreLinked a es chains
      → (n m chain hash : ℕ) (w z : Wait) → slice_get chains n ≡ Some chain → slice_get ws n ≡ Some w → slice_get ws m ≡ Some z → n < m → m < chain → z.open ≡ true → hash_of w.due ≡ Some hash → hash_of z.due ≡ Some hash
      → key_at exact set_of rows w hash ≡ key_at exact set_of rows z hash
      → a (record { key = key_at exact set_of rows w hash; slot = n }) ≢ a (record { key = key_at exact set_of rows z hash; slot = m })
  passed_over a es chains keyed rise linked n m chain hash w z at from to later below opened w_hash z_hash alike = λ same. go same (linked n chain at)
    where
      own : ℕ
      own = key_at exact set_of rows w hash

      go : a (record { key = own; slot = n }) ≡ a (record { key = key_at exact set_of rows z hash; slot = m }) → Leads a es n chain → ⊥
      go same (inl nowhere) = absurd (omega (arith, nowhere, below))
      go same (inr (i, e, e_at, e_slot, leads)) =
          let j = keyed.just e (contains_at es i e e_at) in
          let w_is : j.wait ≡ w = same_Some j.wait w (sym j.at ∙ ap (slice_get ws) e_slot ∙ from) in
          let w_due : w.due ≡ due.Announced j.number j.hash = ap (λ (v : Wait). v.due) (sym w_is) ∙ j.due in
          let j_hash : j.hash ≡ hash = same_Some j.hash hash (sym (ap hash_of w_due) ∙ w_hash) in
          let e_key : e.key ≡ own = j.key ∙ ap (λ (v : Wait). key_at exact set_of rows v j.hash) w_is ∙ ap (key_at exact set_of rows w) j_hash in
          let whole : e ≡ record { key = own; slot = n } = (λ i. record { key = e_key i; slot = e_slot i }) in
          let d = announced z.due hash z_hash in
          let f : Keyed = record { key = key_at exact set_of rows z hash; slot = m } in
          let k = listed_at es f (keyed.all m d.0 hash z to (slice_get_within ws m z to) opened d.1) in
          let less : e.slot < f.slot = omega (arith, e_slot, later) in
          let most : chain ≤ m = leads_on a es rise i k.0 chain e f e_at k.1 (e_key ∙ alike) (ap a whole ∙ same) less leads in
          absurd (omega (arith, most, below))

  pub linked_chained : (es : List Keyed) (chains : List ℕ) → AreKeyed exact set_of rows ws (length ws) es → AreInOrder (due_by exact rows ws) es (length es) → AreLinked (due_by exact rows ws) es chains → AreChained rows ws chains
  linked_chained es chains keyed rise linked n m chain hash w z a at from to later below waits opened w_hash z_hash is = λ also.
      let same : shown (row_by rows w.due) ≡ shown (row_by rows z.due) = is ∙ sym also in
      let alike : key_at exact set_of rows w hash ≡ key_at exact set_of rows z hash = ap (λ o. key_by exact set_of (or_none o) hash) same in
      let e : Keyed = record { key = key_at exact set_of rows w hash; slot = n } in
      let f : Keyed = record { key = key_at exact set_of rows z hash; slot = m } in
      passed_over (due_by exact rows ws) es chains keyed rise linked n m chain hash w z at from to later below opened w_hash z_hash alike
      (alike_by e f alike (due_is e w a from is ∙ sym (due_is f z a to also)))

-- slots that are chained by the hash that they say
pub linked_by_hash : (exact : Bool) (set_of : List Attribute → Option ℕ) (rows : List (Option Row)) (ws : List Wait) (es : List Keyed) (chains : List ℕ) → AreKeyed exact set_of rows ws (length ws) es → AreInOrder (due_by exact rows ws) es (length es) → AreLinked (due_by exact rows ws) es chains → exact ≡ false → AreByHash ws chains
unfolding due_by
linked_by_hash true set_of rows ws es chains keyed rise linked is = absurd (cc)
linked_by_hash false set_of rows ws es chains keyed rise linked is = λ n m chain hash w z at from to later below opened w_hash z_hash.
    passed_over false set_of rows ws (due_by false rows ws) es chains keyed rise linked n m chain hash w z at from to later below opened w_hash z_hash refl refl

-- ---- slots listed

module _ (exact : Bool) (set_of : List Attribute → Option ℕ) (rows : List (Option Row)) (ws : List Wait) where
  pub none_keyed : (es : List Keyed) → es ≡ [] → AreKeyed exact set_of rows ws 0 es
  none_keyed es none = record {
    just = λ e there. absurd (let below : there.0 < length es = there.1 in omega (arith, below, ap length none));
    all = λ m number hash z at below opened is. absurd (omega (arith, below));
  }

  -- one slot more that is not to be announced
  pub keyed_past : (n : ℕ) (w : Wait) (es : List Keyed) → slice_get ws n ≡ Some w → (w.open ≡ true → (number hash : ℕ) → w.due ≢ due.Announced number hash) → AreKeyed exact set_of rows ws n es → AreKeyed exact set_of rows ws (suc n) es
  keyed_past n w es at none are = record {
    just = are.just;
    all = λ m number hash z to below opened is. elim (cases_eq m n) [
      | inl e ↦
          let same : z ≡ w = same_Some z w (sym to ∙ ap (slice_get ws) e ∙ at) in
          absurd (none (ap (λ (v : Wait). v.open) (sym same) ∙ opened) number hash (ap (λ (v : Wait). v.due) (sym same) ∙ is))
      | inr ne ↦ are.all m number hash z to (let apart : m ≢ n = ne in omega (arith, below, apart)) opened is
    ];
  }

  -- one slot more that is
  pub keyed_more : (n : ℕ) (w : Wait) (es es' : List Keyed) (e : Keyed) (number hash : ℕ) → slice_get ws n ≡ Some w → w.open ≡ true → w.due ≡ due.Announced number hash → e.key ≡ key_at exact set_of rows w hash → e.slot ≡ n → es' ≡ es ++ e ∷ [] → AreKeyed exact set_of rows ws n es → AreKeyed exact set_of rows ws (suc n) es'
  keyed_more n w es es' e number hash at opened is key slot added are =
      subst (AreKeyed exact set_of rows ws (suc n)) (sym added) (record {
        just = λ f there. elim (Contains-append_cases es (e ∷ []) f there) [
          | inl old ↦ are.just f old
          | inr new ↦ subst (IsKeyed exact set_of rows ws) (only f new) (record { wait = w; number = number; hash = hash; at = ap (slice_get ws) slot ∙ at; waits = opened; due = is; key = key })
        ];
        all = λ m other own z to below wopen wis. elim (cases_eq m n) [
          | inl here ↦
              let same : z ≡ w = same_Some z w (sym to ∙ ap (slice_get ws) here ∙ at) in
              let due_is : due.Announced other own ≡ due.Announced number hash = sym wis ∙ ap (λ (v : Wait). v.due) same ∙ is in
              let hash_is : own ≡ hash = ap hash_in due_is in
              let key_is : key_at exact set_of rows z own ≡ e.key = ap (λ (v : Wait). key_at exact set_of rows v own) same ∙ ap (key_at exact set_of rows w) hash_is ∙ sym key in
              let whole : record { key = key_at exact set_of rows z own; slot = m } ≡ e = (λ i. record { key = key_is i; slot = (here ∙ sym slot) i }) in
              subst (Contains (es ++ e ∷ [])) (sym whole) (Contains-append_right es (e ∷ []) e (0, omega arith, refl))
          | inr ne ↦ Contains-append_left es (e ∷ []) _ (are.all m other own z to (let apart : m ≢ n = ne in omega (arith, below, apart)) wopen wis)
        ];
      })
    where
      hash_in : Due → ℕ
      hash_in due.Withdrawn = 0
      hash_in (due.Announced number hash) = hash

      only : (f : Keyed) → Contains (e ∷ []) f → e ≡ f
      only f (zero, below, at) = at
      only f (suc k, below, at) = absurd (omega (arith, below))

  -- the same slots in another order
  pub keyed_again : (count : ℕ) (es es' : List Keyed) → IsPermutation es es' → AreKeyed exact set_of rows ws count es → AreKeyed exact set_of rows ws count es'
  keyed_again count es es' moved are = record {
    just = λ e is. are.just e (Contains-permutation es' es e (IsPermutation-sym es es' moved) is);
    all = λ m number hash z at below opened is. Contains-permutation es es' _ moved (are.all m number hash z at below opened is);
  }

-- ---- chains made one by one

module _ (a : Keyed → List Attribute) (es : List Keyed) where
  pub none_linked : (chains : List ℕ) → chains ≡ [] → AreLinked a es chains
  none_linked chains none n chain at = absurd (let below = slice_get_within chains n chain at in omega (arith, below, ap length none))

  pub linked_none_more : (chains chains' : List ℕ) (b : Bool) → chains' ≡ cond b (chains ++ 0 ∷ []) chains → AreLinked a es chains → AreLinked a es chains'
  linked_none_more chains chains' false is are = subst (AreLinked a es) (sym is) are
  linked_none_more chains chains' true is are = subst (AreLinked a es) (sym is) (λ n chain at. elim (push_cases chains n chain at) [
    | inl old ↦ are n chain old
    | inr new ↦ inl new
  ])
    where
      push_cases : (ls : List ℕ) (n chain : ℕ) → slice_get (ls ++ 0 ∷ []) n ≡ Some chain → (slice_get ls n ≡ Some chain) ⊎ (chain ≡ 0)
      push_cases [] zero chain h = inr (sym (same_Some 0 chain h))
      push_cases [] (suc zero) chain h = absurd (cc)
      push_cases [] (suc (suc n)) chain h = absurd (cc)
      push_cases (l ∷ ls) zero chain h = inl h
      push_cases (l ∷ ls) (suc n) chain h = push_cases ls n chain h

  pub linked_more : (chains : List ℕ) (i n chain was : ℕ) (e : Keyed) → slice_get es i ≡ Some e → e.slot ≡ n → slice_get chains n ≡ Some was
      → ((f : Keyed) → slice_get es (suc i) ≡ Some f → f.key ≡ e.key → a f ≡ a e → chain ≤ f.slot) → AreLinked a es chains → AreLinked a es (slice_set chains n chain)
  linked_more chains i n chain was e at slot old leads are k to there = elim (cases_eq k n) [
    | inl here ↦
        let same : chain ≡ to = same_Some chain to (sym (set_here chains n chain was old) ∙ sym (ap (slice_get (slice_set chains n chain)) here) ∙ there) in
        inr (i, e, at, slot ∙ sym here, λ f f_at h d. subst (λ c. c ≤ f.slot) same (leads f f_at h d))
    | inr ne ↦ are k to (sym (set_apart chains n chain k ne) ∙ there)
  ]

  pub rise_more : (n : ℕ) → ((e f : Keyed) → slice_get es n ≡ Some e → slice_get es (suc n) ≡ Some f → IsBefore a e f) → AreInOrder a es n → AreInOrder a es (suc n)
  rise_more n next rise k e f below at to = elim (cases_eq k n) [
    | inl here ↦ next e f (ap (slice_get es) (sym here) ∙ at) (ap (λ j. slice_get es (suc j)) (sym here) ∙ to)
    | inr ne ↦ rise k e f (let apart : k ≢ n = ne in omega (arith, below, apart)) at to
  ]
