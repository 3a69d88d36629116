-- All prefixes that wait for the like, as callers see them, are those of the slots that pass a test.
use Rattle.std.proofs.Common.{◌≡◌, ℕ, Bool, true, false, cond, not, ◌&&◌, Option, None, Some, List, [], ◌∷◌, length, map, get_or, refl, subst, sym, ap, ◌∙◌}
use Rattle.std.specs.Prelude.{◌||◌, is_some, option_map}
use mathlib.Core.Bool.{true≢false}
use Rattle.std.specs.List.{AllByRecursion, AllWithin, filter, list_any}
use Rattle.std.proofs.lemmas.Map.Keys.{IsDistinct-from_sorted}
use Rattle.std.specs.List.Sorted.{IsStrictlySortedBy}
use Rattle.std.specs.declared.cmp.Ordering.TheVariants.{Less}
use Rattle.std.proofs.lemmas.Option.{same_Some}
use Rattle.std.proofs.lemmas.List.Elements.{All-from_all_within, recursion_from_All}
use Rattle.std.specs.FinMap as fin
use Rattle.std.specs.FinMap.Entries.{put, by_order}
use Rattle.rs_octets.specs.Prefixes.{Prefix, prefix_order}
use Rattle.rs_attrs.specs.Meaning.{Attribute}
use Rattle.rs_attrs.specs.Comparing.{attributes_hash, same_attributes}
use Rattle.rs_attrs.specs.ComparisonLaws.{attributes_decides}
use Rattle.rs_adjin.specs.declared.adj_ins.AdjIns.{AdjIns}
use Rattle.rs_adjin.specs.AdjIns.{number_of}
use Rattle.rs_rows.specs.Rows.{Row}
use Rattle.rs_outlet.specs.declared.waiting.Due.{Due}
use Rattle.rs_outlet.specs.declared.waiting.Due.TheVariants as due
use Rattle.rs_outlet.specs.declared.waiting.Wait.{Wait}
use Rattle.rs_outlet.specs.Views.{View, HaveNumbers}
use Rattle.rs_outlet.specs.Pending.Slots.{prefixes_at, still_open, is_announced, is_withdrawal, is_withdrawn}
use Rattle.rs_outlet.specs.Inside.{AreBacked, IsBacked, loc_of, numbers_from, prefix_and_hash, row_at, row_by, shown, waits_of}
use Rattle.rs_outlet.specs.Pending.Choosing.{passing, shares}
use Rattle.rs_outlet.specs.Message.Next.{has_attributes, to_announce, to_withdraw}
use Rattle.rs_outlet.proofs.Message.Chosen.{there_backed}
use Rattle.rs_outlet.proofs.Pending.Apart.{distinct_apart}
use Rattle.rs_outlet.proofs.Decided.LocByNumber.{by_number, numbered, same, same_itself}
use Rattle.rs_adjin.proofs.Listed.{prefixes_total}

-- ---- the entries of what waits

abbrev pub entry_of : Wait → Prefix × Bool
entry_of w = (w.prefix, is_withdrawal w.due)

abbrev pub entries_at : List Wait → List (Prefix × Bool)
entries_at ws = map entry_of (still_open ws)

no_keys : (es : List (Prefix × Bool)) → ((q : Prefix) → list_any (same q) (map (λ (e : Prefix × Bool). e.0) es) ≡ false) → es ≡ []
no_keys [] none = refl
no_keys (e ∷ es) none = absurd (true≢false (sym (ap (λ b. b || list_any (same e.0) (map (λ (e : Prefix × Bool). e.0) es)) (same_itself e.0)) ∙ none e.0))

no_entries : fin.entries (waits_of []) ≡ []
no_entries = no_keys (fin.entries (waits_of [])) (λ q. sym (fin.contains_key-keys (waits_of []) q) ∙ ap is_some (fin.get-empty prefix_order q))

put_first : (p : Prefix) (b : Bool) (es : List (Prefix × Bool)) → AllByRecursion (λ (e : Prefix × Bool). prefix_order p e.0 ≡ Less) es → put prefix_order p b es ≡ (p, b) ∷ es
put_first p b [] above = refl
put_first p b (e ∷ es) above = ap (λ o. by_order o ((p, b) ∷ e ∷ es) ((e.0, b) ∷ es) (e ∷ put prefix_order p b es)) above.0

above_entries : (p : Prefix) (ws : List Wait) → AllByRecursion (λ q. prefix_order p q ≡ Less) (prefixes_at ws) → AllByRecursion (λ (e : Prefix × Bool). prefix_order p e.0 ≡ Less) (entries_at ws)
above_entries p [] above = tt
above_entries p (w ∷ ws) above =
    elim w.open as (λ b. AllByRecursion (λ (e : Prefix × Bool). prefix_order p e.0 ≡ Less) (map entry_of (cond b (w ∷ still_open ws) (still_open ws)))) [
      | true ↦ (above.0, above_entries p ws above.1)
      | false ↦ above_entries p ws above.1
    ]

pub entries_of_waits : (ws : List Wait) → IsStrictlySortedBy prefix_order (prefixes_at ws) → fin.entries (waits_of ws) ≡ entries_at ws
unfolding IsStrictlySortedBy
entries_of_waits [] up = no_entries
entries_of_waits (w ∷ ws) up =
    let rest = entries_of_waits ws up.1 in
    elim w.open as (λ b. fin.entries (cond b (fin.insert (waits_of ws) w.prefix (is_withdrawal w.due)) (waits_of ws)) ≡ map entry_of (cond b (w ∷ still_open ws) (still_open ws))) [
      | true ↦
          fin.entries-insert prefixes_total (waits_of ws) w.prefix (is_withdrawal w.due) ∙ ap (put prefix_order w.prefix (is_withdrawal w.due)) rest
          ∙ put_first w.prefix (is_withdrawal w.due) (entries_at ws) (above_entries w.prefix ws up.0)
      | false ↦ rest
    ]

-- ---- those that pass a test

-- a test of slots asks whether they are open, and then another test
abbrev pub Asks : (Wait → Bool) → (Prefix × Bool → Bool) → Wait → Type 0
Asks test asked w = test w ≡ (w.open && asked (entry_of w))

where_asked : (test : Wait → Bool) (asked : Prefix × Bool → Bool) (ws : List Wait) → AllByRecursion (Asks test asked) ws → map (λ (e : Prefix × Bool). e.0) (filter asked (entries_at ws)) ≡ passing test ws
where_asked test asked [] asks = refl
where_asked test asked (w ∷ ws) asks = go (where_asked test asked ws asks.1) w.open (asked (entry_of w)) refl asks.0
  where
    go : map (λ (e : Prefix × Bool). e.0) (filter asked (entries_at ws)) ≡ passing test ws → (a b : Bool) → asked (entry_of w) ≡ b → test w ≡ (a && b) → map (λ (e : Prefix × Bool). e.0) (filter asked (map entry_of (cond a (w ∷ still_open ws) (still_open ws)))) ≡ prefixes_at (cond (test w) (w ∷ filter test ws) (filter test ws))
    go rest true true is t =
        ap (λ c. map (λ (e : Prefix × Bool). e.0) (cond c (entry_of w ∷ filter asked (entries_at ws)) (filter asked (entries_at ws)))) is
        ∙ ap (λ ps. w.prefix ∷ ps) rest ∙ ap (λ c. prefixes_at (cond c (w ∷ filter test ws) (filter test ws))) (sym t)
    go rest true false is t =
        ap (λ c. map (λ (e : Prefix × Bool). e.0) (cond c (entry_of w ∷ filter asked (entries_at ws)) (filter asked (entries_at ws)))) is
        ∙ rest ∙ ap (λ c. prefixes_at (cond c (w ∷ filter test ws) (filter test ws))) (sym t)
    go rest false b is t = rest ∙ ap (λ c. prefixes_at (cond c (w ∷ filter test ws) (filter test ws))) (sym t)

asks_withdrawn : (ws : List Wait) → AllByRecursion (Asks is_withdrawn (λ e. e.1)) ws
asks_withdrawn [] = tt
asks_withdrawn (w ∷ ws) = (refl, asks_withdrawn ws)

pub all_withdrawn : (v : View) (ws : List Wait) → v.waits ≡ waits_of ws → IsStrictlySortedBy prefix_order (prefixes_at ws) → to_withdraw v ≡ passing is_withdrawn ws
all_withdrawn v ws waits up =
    ap (λ t. map (λ (e : Prefix × Bool). e.0) (filter (λ (e : Prefix × Bool). e.1) (fin.entries t))) waits
    ∙ ap (λ es. map (λ (e : Prefix × Bool). e.0) (filter (λ (e : Prefix × Bool). e.1) es)) (entries_of_waits ws up)
    ∙ where_asked is_withdrawn (λ e. e.1) ws (asks_withdrawn ws)

-- ---- those with the same attributes

module _ (rows : List (Option Row)) (ws : List Wait) (m : List Attribute) (ins : AdjIns) (numbers : HaveNumbers (numbers_from 0 rows) ins) (up : IsStrictlySortedBy prefix_order (prefixes_at ws)) (backed : AreBacked rows ws) where
  abbrev asked : Prefix × Bool → Bool
  asked e = not e.1 && has_attributes (fin.get (loc_of rows) e.0) m

  due_of : (p : Prefix) (number hash : ℕ) (o : Option Row) → row_at rows number ≡ o → option_map prefix_and_hash o ≡ Some (p, hash) → fin.get (loc_of rows) p ≡ shown o
  due_of p number hash None at is = absurd (let f : ◌≡◌ {A = Option (Prefix × ℕ)} None (Some (p, hash)) = is in (cc))
  due_of p number hash (Some r) at is =
      let same : r.prefix ≡ p = ap (λ (e : Prefix × ℕ). e.0) (same_Some (prefix_and_hash r) (p, hash) is) in
      let there : number_of ins p ≡ Some number = ap (number_of ins) (sym same) ∙ numbered ins rows numbers number r at in
      by_number ins rows (numbered ins rows numbers) p (Some number) there ∙ ap shown at

  asks_due : (p : Prefix) (d : Due) → IsBacked rows p d → has_attributes (shown (row_by rows d)) m ≡ (not (is_withdrawal d) && has_attributes (fin.get (loc_of rows) p) m)
  asks_due p due.Withdrawn is = refl
  asks_due p (due.Announced number hash) is = ap (λ o. has_attributes o m) (sym (due_of p number hash (row_at rows number) refl is))

  asks_shares : AllWithin (Asks (shares rows m) asked) ws 0 (length ws)
  asks_shares n d from to = go (get_or ws n d).open refl
    where
      go : (b : Bool) → (get_or ws n d).open ≡ b → (b && has_attributes (shown (row_by rows (get_or ws n d).due)) m) ≡ (b && asked (entry_of (get_or ws n d)))
      go true opened = asks_due (get_or ws n d).prefix (get_or ws n d).due (there_backed rows ws n d (distinct_apart ws (IsDistinct-from_sorted prefix_order (prefixes_at ws) up)) backed to opened)
      go false opened = refl

  pub all_sharing : (v : View) → v.waits ≡ waits_of ws → v.loc ≡ loc_of rows → to_announce v m ≡ passing (shares rows m) ws
  all_sharing v waits loc =
      (λ i. map (λ (e : Prefix × Bool). e.0) (filter (λ (e : Prefix × Bool). not e.1 && has_attributes (fin.get (loc i) e.0) m) (fin.entries (waits i))))
      ∙ ap (λ es. map (λ (e : Prefix × Bool). e.0) (filter asked es)) (entries_of_waits ws up)
      ∙ where_asked (shares rows m) asked ws (recursion_from_All (Asks (shares rows m) asked) ws (All-from_all_within (Asks (shares rows m) asked) ws asks_shares))

-- ---- what a test of a slot answers

-- what isn't to be announced shares no attributes
pub not_shared : (rows : List (Option Row)) (m : List Attribute) (w : Wait) → is_announced w ≡ false → shares rows m w ≡ false
not_shared rows m w h = go w.open w.due h
  where
    go : (b : Bool) (d : Due) → (b && not (is_withdrawal d)) ≡ false → (b && has_attributes (shown (row_by rows d)) m) ≡ false
    go false d h = refl
    go true due.Withdrawn h = refl
    go true (due.Announced number hash) h = absurd (true≢false h)

-- nor does a slot whose row has attributes of another hash
pub not_hashed : (rows : List (Option Row)) (p : Prefix) (d : Due) (m : List Attribute) (number hash : ℕ) → due.Announced number hash ≡ d → (hash ≡ attributes_hash m → ⊥) → IsBacked rows p d → false ≡ has_attributes (shown (row_by rows d)) m
not_hashed rows p d m number hash is differs =
    subst (λ (d : Due). IsBacked rows p d → false ≡ has_attributes (shown (row_by rows d)) m) is (λ backed. go (row_at rows number) backed)
  where
    alike : (r : Row) → option_map prefix_and_hash (Some r) ≡ Some (p, hash) → (b : Bool) → same_attributes r.attributes m ≡ b → false ≡ b
    alike r is false e = refl
    alike r is true e = absurd (differs (sym (ap (λ (e : Prefix × ℕ). e.1) (same_Some (prefix_and_hash r) (p, hash) is)) ∙ ap attributes_hash ((attributes_decides r.attributes m).0 e)))

    go : (o : Option Row) → option_map prefix_and_hash o ≡ Some (p, hash) → false ≡ has_attributes (shown o) m
    go None is = refl
    go (Some r) is = alike r is (same_attributes r.attributes m) refl
