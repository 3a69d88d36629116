-- The table by which slots are chained: what stands at the place of a hash, and what stays there.
use Rattle.std.proofs.Common.{◌≡◌, ◌≢◌, ◌<◌, ◌≤◌, ◌-◌, ◌==◌, ℕ, zero, suc, Bool, true, false, cond, Option, None, Some, List, [], ◌∷◌, length, slice_set, refl, sym, ap, ◌∙◌, arith, inl, inr}
use Rattle.std.specs.Prelude.{slice_get, bit_and}
use Rattle.std.proofs.lemmas.Bool.{cases_eq}
use Rattle.std.proofs.lemmas.Bool.Decides.{nat_tests}
use Rattle.std.proofs.lemmas.Option.{same_Some}
use Rattle.rs_adjin.proofs.TableRows.{set_apart, set_here}
use Rattle.rs_outlet.specs.declared.waiting.Wait.{Wait}
use Rattle.rs_outlet.specs.declared.waiting.chains.Keyed.{Keyed}
use Rattle.rs_outlet.specs.Pending.Slots.{AreByHash, hash_of}
use Rattle.rs_outlet.specs.Pending.Linking.{AreMet, IsMet, is_for, next_in, no_slot, place_by, place_from, place_of}

none_some : (n : ℕ) → ◌≡◌ {A = Option ℕ} None (Some n) → ⊥
none_some n h = cc

length_set : (table : List Keyed) (n : ℕ) (x : Keyed) → length (slice_set table n x) ≡ length table
length_set [] zero x = refl
length_set [] (suc n) x = refl
length_set (y ∷ table) zero x = refl
length_set (y ∷ table) (suc n) x = ap suc (length_set table n x)

nowhere : (ls : List ℕ) (n x y : ℕ) → slice_get ls n ≡ None → slice_get (slice_set ls n x) n ≡ Some y → ⊥
nowhere [] zero x y none is = cc
nowhere [] (suc n) x y none is = cc
nowhere (l ∷ ls) zero x y none is = cc
nowhere (l ∷ ls) (suc n) x y none is = nowhere ls n x y none is

place_is_from : (table : List Keyed) (hash : ℕ) → place_of table hash ≡ place_from table hash 32 (bit_and hash (length table - 1))
unfolding place_of
place_is_from table hash = refl

pub first_place : (table : List Keyed) (hash last : ℕ) → last ≡ length table - 1 → place_from table hash 32 (bit_and hash last) ≡ place_of table hash
first_place table hash last is = ap (λ n. place_from table hash 32 (bit_and hash n)) is ∙ sym (place_is_from table hash)

-- what is tried next
pub place_at : (table : List Keyed) (hash left at : ℕ) → 0 < left → place_from table hash left at ≡ place_by (slice_get table at) hash at (place_from table hash (left - 1) (next_in (length table) at))
place_at table hash zero at some = absurd (omega (arith, some))
place_at table hash (suc left) at some = ap (λ n. place_by (slice_get table at) hash at (place_from table hash n (next_in (length table) at))) (let less : left ≡ suc left - 1 = omega arith in less)

pub none_there : (table : List Keyed) (hash left at : ℕ) → 0 < left → slice_get table at ≡ None → place_from table hash left at ≡ None
none_there table hash left at some none = place_at table hash left at some ∙ ap (λ o. place_by o hash at (place_from table hash (left - 1) (next_in (length table) at))) none

module _ (table : List Keyed) (hash left at : ℕ) (some : 0 < left) (e : Keyed) (here : slice_get table at ≡ Some e) where
  tested_here : (b : Bool) → is_for hash e ≡ b → place_from table hash left at ≡ cond b (Some at) (place_from table hash (left - 1) (next_in (length table) at))
  tested_here b test =
      place_at table hash left at some ∙ ap (λ o. place_by o hash at (place_from table hash (left - 1) (next_in (length table) at))) here
      ∙ ap (λ c. cond c (Some at) (place_from table hash (left - 1) (next_in (length table) at))) test

  pub it_is_there : is_for hash e ≡ true → place_from table hash left at ≡ Some at
  it_is_there test = tested_here true test

  pub it_is_further : is_for hash e ≡ false → place_from table hash left at ≡ place_from table hash (left - 1) (next_in (length table) at)
  it_is_further test = tested_here false test

-- what stands at the place of a hash is free, or has it
pub place_is : (table : List Keyed) (hash left at p : ℕ) → place_from table hash left at ≡ Some p → (e : Keyed) × (slice_get table p ≡ Some e) × (is_for hash e ≡ true)
place_is table hash zero at p is = absurd (none_some p is)
place_is table hash (suc left) at p is = go (slice_get table at) refl is (place_is table hash left (next_in (length table) at) p)
  where
    Found : Type 0
    Found = (e : Keyed) × (slice_get table p ≡ Some e) × (is_for hash e ≡ true)

    Further : Type 0
    Further = place_from table hash left (next_in (length table) at) ≡ Some p → Found

    tested : (e : Keyed) (b : Bool) → slice_get table at ≡ Some e → is_for hash e ≡ b → cond b (Some at) (place_from table hash left (next_in (length table) at)) ≡ Some p → Further → Found
    tested e true here test is further = (e, ap (slice_get table) (sym (same_Some at p is)) ∙ here, test)
    tested e false here test is further = further is

    go : (o : Option Keyed) → slice_get table at ≡ o → place_by o hash at (place_from table hash left (next_in (length table) at)) ≡ Some p → Further → Found
    go None here is further = absurd (none_some p is)
    go (Some e) here is further = tested e (is_for hash e) here refl is further

-- a hash that has a place has it still where another one, or itself, was met since
module _ (table : List Keyed) (p hash : ℕ) (e x : Keyed) (here : slice_get table p ≡ Some e) (own : is_for hash e ≡ true) (key : x.key ≡ hash) (taken : (x.slot == no_slot) ≡ false) where
  abbrev pub after : List Keyed
  after = slice_set table p x

  it_is_for : is_for hash x ≡ true
  it_is_for = grind (arith, nat_tests, key)

  no_other : (other : ℕ) → other ≢ hash → is_for other x ≡ false
  no_other other ne = grind (arith, nat_tests, key, taken, ne)

  -- the entry at the place of another hash, which is taken, is another one
  not_here : (other : ℕ) → other ≢ hash → e.key ≡ other → (e.slot == no_slot) ≡ false → ⊥
  not_here other ne is free = ne (grind (arith, nat_tests, own, is, free))

  pub place_put : (other left at q : ℕ) (f : Keyed) → slice_get table q ≡ Some f → (other ≢ hash → (f.key ≡ other) × ((f.slot == no_slot) ≡ false)) → place_from table other left at ≡ Some q → place_from after other left at ≡ Some q
  place_put other zero at q f there old is = absurd (none_some q is)
  place_put other (suc left) at q f there old is =
      go (slice_get table at) refl is (λ h. ap (λ n. place_from after other left (next_in n at)) (length_set table p x) ∙ place_put other left (next_in (length table) at) q f there old h)
    where
      Further : Type 0
      Further = place_from table other left (next_in (length table) at) ≡ Some q → place_from after other left (next_in (length after) at) ≡ Some q

      tested : (d : Keyed) (b : Bool) → slice_get after at ≡ Some d → is_for other d ≡ b → cond b (Some at) (place_from table other left (next_in (length table) at)) ≡ Some q → Further
          → place_by (slice_get after at) other at (place_from after other left (next_in (length after) at)) ≡ Some q
      tested d b at_is test is further =
          ap (λ o. place_by o other at (place_from after other left (next_in (length after) at))) at_is ∙ ap (λ c. cond c (Some at) (place_from after other left (next_in (length after) at))) test ∙ ends b is further
        where
          ends : (b : Bool) → cond b (Some at) (place_from table other left (next_in (length table) at)) ≡ Some q → Further → cond b (Some at) (place_from after other left (next_in (length after) at)) ≡ Some q
          ends true is further = is
          ends false is further = further is

      -- at the place itself
      itself : (b : Bool) → at ≡ p → is_for other e ≡ b → cond b (Some at) (place_from table other left (next_in (length table) at)) ≡ Some q → Further
          → place_by (slice_get after at) other at (place_from after other left (next_in (length after) at)) ≡ Some q
      itself b same test is further = elim (cases_eq other hash) [
        | inl alike ↦
            let b_is : b ≡ true = sym test ∙ ap (λ h. is_for h e) alike ∙ own in
            tested x true (ap (slice_get after) same ∙ set_here table p x e here) (ap (λ h. is_for h x) alike ∙ it_is_for) (ap (λ c. cond c (Some at) (place_from table other left (next_in (length table) at))) (sym b_is) ∙ is) further
        | inr ne ↦ tested x false (ap (slice_get after) same ∙ set_here table p x e here) (no_other other ne) (passed b ne test is) further
      ]
        where
          passed : (b : Bool) → other ≢ hash → is_for other e ≡ b → cond b (Some at) (place_from table other left (next_in (length table) at)) ≡ Some q → place_from table other left (next_in (length table) at) ≡ Some q
          passed false ne test is = is
          passed true ne test is =
              let f_is : f ≡ e = same_Some f e (sym there ∙ ap (slice_get table) (sym (same_Some at q is) ∙ same) ∙ here) in
              absurd (not_here other ne (ap (λ (d : Keyed). d.key) (sym f_is) ∙ (old ne).0) (ap (λ (d : Keyed). d.slot == no_slot) (sym f_is) ∙ (old ne).1))

      go : (o : Option Keyed) → slice_get table at ≡ o → place_by o other at (place_from table other left (next_in (length table) at)) ≡ Some q → Further
          → place_by (slice_get after at) other at (place_from after other left (next_in (length after) at)) ≡ Some q
      go None at_is is further = absurd (none_some q is)
      go (Some d) at_is is further = elim (cases_eq at p) [
        | inl same ↦
            let d_is : d ≡ e = same_Some d e (sym at_is ∙ ap (slice_get table) same ∙ here) in
            itself (is_for other d) same (ap (is_for other) (sym d_is)) is further
        | inr ne ↦ tested d (is_for other d) (set_apart table p x at ne ∙ at_is) refl is further
      ]

-- a slot is met, of a hash that has this place
module _ (ws : List Wait) (slot hash p : ℕ) (w : Wait) (table : List Keyed) (e x : Keyed) (from : slice_get ws slot ≡ Some w) (w_hash : hash_of w.due ≡ Some hash) (place : place_of table hash ≡ Some p) (here : slice_get table p ≡ Some e) where
  own : is_for hash e ≡ true
  own =
      let i = place_is table hash 32 (bit_and hash (length table - 1)) p (sym (place_is_from table hash) ∙ place) in
      ap (is_for hash) (same_Some e i.0 (sym here ∙ i.1)) ∙ i.2

  pub met_more : x.key ≡ hash → x.slot ≡ slot → (x.slot == no_slot) ≡ false → AreMet ws (suc slot) table → AreMet ws slot (slice_set table p x)
  met_more key is taken are m other z at least opened z_hash = elim (cases_eq m slot) [
    | inl same ↦
        let z_is : z ≡ w = same_Some z w (sym at ∙ ap (slice_get ws) same ∙ from) in
        let other_is : other ≡ hash = same_Some other hash (sym z_hash ∙ ap (λ (v : Wait). hash_of v.due) z_is ∙ w_hash) in
        now other other_is m (omega (arith, is, same))
    | inr ne ↦ elim (cases_eq other hash) [
      | inl same ↦ now other same m (omega (arith, is, least))
      | inr apart ↦ before other m apart (are m other z at (omega (arith, least, ne)) opened z_hash)
    ]
  ]
    where
      put : (other q : ℕ) (f : Keyed) → slice_get table q ≡ Some f → (other ≢ hash → (f.key ≡ other) × ((f.slot == no_slot) ≡ false)) → place_of table other ≡ Some q → place_of (slice_set table p x) other ≡ Some q
      put other q f there old is =
          place_is_from (slice_set table p x) other
          ∙ ap (λ n. place_from (slice_set table p x) other 32 (bit_and other (n - 1))) (length_set table p x)
          ∙ place_put table p hash e x here own key taken other 32 (bit_and other (length table - 1)) q f there old (sym (place_is_from table other) ∙ is)

      now : (other : ℕ) → other ≡ hash → (m : ℕ) → x.slot ≤ m → IsMet (slice_set table p x) other m
      now other same m most = record {
        place = p;
        entry = x;
        at = put other p e here (λ ne. absurd (ne same)) (ap (place_of table) same ∙ place);
        there = set_here table p x e here;
        key = key ∙ sym same;
        taken = taken;
        before = most;
      }

      before : (other m : ℕ) → other ≢ hash → IsMet table other m → IsMet (slice_set table p x) other m
      before other m ne i = record {
        place = i.place;
        entry = i.entry;
        at = put other i.place i.entry i.there (λ _. (i.key, i.taken)) i.at;
        there = set_apart table p x i.place (λ same. elsewhere same) ∙ i.there;
        key = i.key;
        taken = i.taken;
        before = i.before;
      }
        where
          elsewhere : i.place ≡ p → ⊥
          elsewhere same =
              let i_is : i.entry ≡ e = same_Some i.entry e (sym i.there ∙ ap (slice_get table) same ∙ here) in
              not_here table p hash e x here own key taken other ne (ap (λ (d : Keyed). d.key) (sym i_is) ∙ i.key) (ap (λ (d : Keyed). d.slot == no_slot) (sym i_is) ∙ i.taken)

  -- it leads to the one that was met last
  pub by_hash_more : (chains : List ℕ) → AreMet ws (suc slot) table → AreByHash ws chains → AreByHash ws (slice_set chains slot e.slot)
  by_hash_more chains are by_hash n m chain other v z at v_at to later below opened v_hash z_hash = elim (cases_eq n slot) [
    | inl same ↦
        let chain_is : chain ≡ e.slot = led same in
        let v_is : v ≡ w = same_Some v w (sym v_at ∙ ap (slice_get ws) same ∙ from) in
        let other_is : other ≡ hash = same_Some other hash (sym v_hash ∙ ap (λ (v : Wait). hash_of v.due) v_is ∙ w_hash) in
        let i : IsMet table other m = are m other z to (omega (arith, later, same)) opened z_hash in
        let at_p : i.place ≡ p = same_Some i.place p (sym i.at ∙ ap (place_of table) other_is ∙ place) in
        let i_is : i.entry ≡ e = same_Some i.entry e (sym i.there ∙ ap (slice_get table) at_p ∙ here) in
        absurd (omega (arith, below, chain_is, ap (λ (d : Keyed). d.slot) i_is, i.before))
    | inr ne ↦ by_hash n m chain other v z (sym (others ne) ∙ at) v_at to later below opened v_hash z_hash
  ]
    where
      others : n ≢ slot → slice_get (slice_set chains slot e.slot) n ≡ slice_get chains n
      others ne = set_apart chains slot e.slot n ne

      led : n ≡ slot → chain ≡ e.slot
      led same = was (slice_get chains slot) refl
        where
          was : (o : Option ℕ) → slice_get chains slot ≡ o → chain ≡ e.slot
          was None none = absurd (nowhere chains slot e.slot chain none (ap (slice_get (slice_set chains slot e.slot)) (sym same) ∙ at))
          was (Some c) some = same_Some chain e.slot (sym at ∙ ap (slice_get (slice_set chains slot e.slot)) same ∙ set_here chains slot e.slot c some)
