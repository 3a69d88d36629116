-- Where no prefix is stale that changed for a client, what is due to it stays due.
use Rattle.std.proofs.Common.{◌≡◌, ◌≢◌, ◌⊎◌, inl, inr, ◌<◌, ◌==◌, ◌&&◌, ℕ, Bool, true, false, List, [], ◌∷◌, refl, sym, ◌∙◌, ap, subst, arith}
use Rattle.std.specs.Prelude.{Option, Some, None, IsSome, if◌then◌else◌}
use Rattle.std.specs.List.{Contains}
use Rattle.std.specs.FinMap as map
use Rattle.rs_octets.specs.Prefixes.{Prefix}
use Rattle.rs_attrs.specs.Meaning.{Attribute}
use Rattle.rs_attrs.specs.Effects.{same_prefix}
use Rattle.rs_attrs.proofs.EachOnce.{same_is}
use Rattle.rs_adjin.specs.declared.adj_ins.AdjIns.{AdjIns}
use Rattle.rs_adjin.specs.AdjIns.{client_count, held_of, identifier_of, Begins, Same, Sets}
use Rattle.rs_policy.specs.Configuration.{Configuration}
use Rattle.rs_outlet.specs.declared.answers.Speech.{Speech}
use Rattle.rs_outlet.specs.Decided.Due.{due_to}
use Rattle.rs_outlet.specs.Views.{View, IsStaleTouched, if_up, is_touched}
use Rattle.rs_core.specs.Touched.Touches.{IsTouchedAt, IsTouchedWhereHeld}
use Rattle.rs_core.specs.Touched.Turns.{IsMarked}
use Rattle.rs_core.specs.Ribs.{outlet_in, due_in, IsDecidedBy, IsFresh, KeepsSettings, ChangesOthers, ChangesOwn, ChangesAll}
use Rattle.rs_core.specs.declared.ribs.Ribs.{Ribs}
use Rattle.rs_core.proofs.Run.Clients.{equal_or, is_own, is_other}
use Rattle.rs_core.proofs.Run.Dues.{IsSameSent, held_as, due_alike}
use Rattle.rs_core.proofs.Touched.Touching.{IsTouchedAtChange, touched_others}

due_same : (s t : Configuration) (m n c : ℕ) (speech : Speech) (p : Prefix) (f g : ℕ → ℕ) (x y : ℕ → Prefix → Option (List Attribute)) → t ≡ s → n ≡ m → ((d : ℕ) → d ≢ c → IsSameSent (f d) (g d) (x d p) (y d p)) →
    due_to (held_as s m x f) c speech p ≡ due_to (held_as t n y g) c speech p
due_same s t m n c speech p f g x y config count same =
    due_alike s m c speech p f g x y same
    ∙ ap (λ k. due_to (held_as s k y g) c speech p) (sym count)
    ∙ ap (λ z. due_to (held_as z n y g) c speech p) (sym config)

-- the same is sent by all but client d for p
abbrev pub AreSent : AdjIns → AdjIns → ℕ → Prefix → Type 0
AreSent old new d p = (e : ℕ) → e ≢ d → IsSameSent (identifier_of old e) (identifier_of new e) (held_of old e p) (held_of new e p)

-- ---- one client

-- client d's outlet had at least as much decided, and what is not stale is sent as before
pub record IsStill (old new : AdjIns) (d : ℕ) (v w : View) : Type 0 where
  pub speech : w.speech ≡ v.speech
  pub loc : w.loc ≡ v.loc
  pub untouched : (p : Prefix) (speech : Speech) → v.speech ≡ Some speech → is_touched w.stale p ≡ false → (is_touched v.stale p ≡ false) × AreSent old new d p
  pub stale_touched : IsStaleTouched v → IsStaleTouched w

pub still_decided : (old new : Ribs) (d : ℕ) (v w : View) → new.config ≡ old.config → client_count new.tables ≡ client_count old.tables → IsStill old.tables new.tables d v w → IsDecidedBy (due_in old d) v → IsDecidedBy (due_in new d) w
still_decided old new d v w config count h decided = record {
  at = λ speech p up un.
      let was : v.speech ≡ Some speech = sym h.speech ∙ up in
      let so = h.untouched p speech was un in
      ap (λ t. map.get t p) h.loc
      ∙ decided.at speech p was so.0
      ∙ due_same old.config new.config (client_count old.tables) (client_count new.tables) d speech p (identifier_of old.tables) (identifier_of new.tables) (held_of old.tables) (held_of new.tables) config count so.1;
  stale_touched = h.stale_touched decided.stale_touched;
}

-- an outlet that is as it was
pub same_still : (old new : AdjIns) (d : ℕ) (v w : View) → w ≡ v → ((p : Prefix) → AreSent old new d p) → IsStill old new d v w
same_still old new d v w e sent = record {
  speech = ap (λ (x : View). x.speech) e;
  loc = ap (λ (x : View). x.loc) e;
  untouched = λ p speech up un. (ap (λ (x : View). is_touched x.stale p) (sym e) ∙ un, sent p);
  stale_touched = λ within. subst IsStaleTouched (sym e) within;
}

not_stale : (v w : View) (ps : List Prefix) (q : Prefix) → IsTouchedAtChange ps v w → is_touched w.stale q ≡ false → is_touched v.stale q ≡ false
not_stale v w ps q h un = by_it (is_touched v.stale q) refl where
  by_it : (b : Bool) → is_touched v.stale q ≡ b → is_touched v.stale q ≡ false
  by_it true e = absurd (let f : true ≡ false = sym (h.still q e) ∙ un in (cc))
  by_it false e = e

-- one that was touched wherever what is sent has changed
pub touched_others_still : (old new : AdjIns) (d : ℕ) (ps : List Prefix) (v w : View) → IsTouchedAt ps v w → ((p : Prefix) → (Contains ps p → ⊥) → AreSent old new d p) → IsStill old new d v w
touched_others_still old new d ps v w touched sent = let h = touched_others ps v w touched in record {
  speech = h.speech;
  loc = h.loc;
  untouched = λ p speech up un. (not_stale v w ps p h un, sent p (λ has. absurd (let f : true ≡ false = sym (h.all p speech up has) ∙ un in (cc))));
  stale_touched = h.stale_touched;
}

-- one with all stale, and one that is not up
pub all_decided : (due : Speech → Prefix → Option (List Attribute)) (w : View) → w.stale ≡ None → IsStaleTouched w → IsDecidedBy due w
all_decided due w all within = record { at = λ speech p up un. absurd (let f : true ≡ false = sym (ap (λ t. is_touched t p) all) ∙ un in (cc)); stale_touched = within }

all_touched : (w : View) → w.touched ≡ None → IsStaleTouched w
all_touched w all p un = absurd (let f : true ≡ false = sym (ap (λ t. is_touched t p) all) ∙ un in (cc))

pub silent_decided : (due : Speech → Prefix → Option (List Attribute)) (w : View) → w.speech ≡ None → IsStaleTouched w → IsDecidedBy due w
silent_decided due w silent within = record { at = λ speech p up un. absurd (let f : ◌≡◌ {A = Option Speech} None (Some speech) = sym silent ∙ up in (cc)); stale_touched = within }

marked_by : (due : Speech → Prefix → Option (List Attribute)) (ins : AdjIns) (v w : View) (o : Option Speech) → v.speech ≡ o → IsMarked ins v w → IsStaleTouched v → IsDecidedBy due w
marked_by due ins v w None e h within = silent_decided due w (ap (λ (x : View). x.speech) h.is ∙ e) (λ p un.
    ap (λ (x : View). is_touched x.stale p) h.is ∙ ap (λ o. is_touched (if_up o None v.stale) p) e
    ∙ within p (sym (ap (λ o. is_touched (if_up o None v.touched) p) e) ∙ sym (ap (λ (x : View). is_touched x.touched p) h.is) ∙ un))
marked_by due ins v w (Some speech) e h within =
    all_decided due w (ap (λ (x : View). x.stale) h.is ∙ ap (λ o. if_up o None v.stale) e) (all_touched w (ap (λ (x : View). x.touched) h.is ∙ ap (λ o. if_up o None v.touched) e))

pub marked_decided : (due : Speech → Prefix → Option (List Attribute)) (ins : AdjIns) (v w : View) → IsMarked ins v w → IsStaleTouched v → IsDecidedBy due w
marked_decided due ins v w h within = marked_by due ins v w v.speech refl h within

-- ---- all clients

pub fresh_each : (old new : Ribs) → new.count ≡ old.count → ((d : ℕ) (none : View) → d < old.count → IsDecidedBy (due_in old d) (outlet_in old d none) → IsDecidedBy (due_in new d) (outlet_in new d none)) → IsFresh old → IsFresh new
fresh_each old new count so fresh = record { each = λ d none lt. let within : d < old.count = subst (λ n. d < n) count lt in so d none within (fresh.each d none within) }

-- nothing has changed in the tables
pub same_sent : (old new : AdjIns) (d : ℕ) (p : Prefix) → Same old new → AreSent old new d p
same_sent old new d p h = λ e ne. record { held = sym (h.held e p); identifier = λ m is. sym (h.identifiers e) }

pub same_fresh : (old new : Ribs) → KeepsSettings old new → Same old.tables new.tables → ((d : ℕ) (none : View) → outlet_in new d none ≡ outlet_in old d none) → IsFresh old → IsFresh new
same_fresh old new settings same outlets = fresh_each old new settings.count (λ d none lt.
    still_decided old new d (outlet_in old d none) (outlet_in new d none) settings.config same.count
    (same_still old.tables new.tables d (outlet_in old d none) (outlet_in new d none) (outlets d none) (λ p. same_sent old.tables new.tables d p same)))

-- ---- one client's value at one prefix has changed

others_sent : (old new : AdjIns) (c d : ℕ) (p q : Prefix) (w : Option (List Attribute)) → Sets old new c p w → d ≡ c → AreSent old new d q
others_sent old new c d p q w h is = λ e ne. record {
  held = sym (h.held e q ∙ ap (λ b. if b && same_prefix q p then w else held_of old e q) (is_other e c (λ own. ne (own ∙ sym is))));
  identifier = λ m is. sym (h.identifiers e);
}

apart_sent : (old new : AdjIns) (c d : ℕ) (p q : Prefix) (w : Option (List Attribute)) → Sets old new c p w → same_prefix q p ≡ false → AreSent old new d q
apart_sent old new c d p q w h apart = λ e ne. record {
  held = sym (h.held e q ∙ ap (λ b. if (e == c) && b then w else held_of old e q) apart ∙ neither (e == c) e);
  identifier = λ m is. sym (h.identifiers e);
} where
  neither : (b : Bool) (e : ℕ) → (if b && false then w else held_of old e q) ≡ held_of old e q
  neither true e = refl
  neither false e = refl

-- p was touched for all others
pub changed_fresh : (old new : Ribs) (c : ℕ) (p : Prefix) (w : Option (List Attribute)) → KeepsSettings old new → Sets old.tables new.tables c p w → ChangesOthers c (IsTouchedAt (p ∷ [])) old new → IsFresh old → IsFresh new
changed_fresh old new c p w settings sets changes = fresh_each old new settings.count (λ d none lt.
    still_decided old new d (outlet_in old d none) (outlet_in new d none) settings.config sets.count (by_client d none lt (equal_or d c))) where
      not_it : (q : Prefix) → (Contains (p ∷ []) q → ⊥) → same_prefix q p ≡ false
      not_it q isnt = by_test (same_prefix q p) refl where
        by_test : (b : Bool) → same_prefix q p ≡ b → same_prefix q p ≡ false
        by_test true e = absurd (isnt (0, omega arith, sym (same_is q p e)))
        by_test false e = e

      by_client : (d : ℕ) (none : View) → d < old.count → (d ≡ c) ⊎ (d ≢ c) → IsStill old.tables new.tables d (outlet_in old d none) (outlet_in new d none)
      by_client d none lt (inl e) = same_still old.tables new.tables d (outlet_in old d none) (outlet_in new d none)
          (ap (λ k. outlet_in new k none) e ∙ changes.own none ∙ ap (λ k. outlet_in old k none) (sym e)) (λ q. others_sent old.tables new.tables c d p q w sets e)
      by_client d none lt (inr ne) = touched_others_still old.tables new.tables d (p ∷ []) (outlet_in old d none) (outlet_in new d none) (changes.others d none lt ne)
          (λ q isnt. apart_sent old.tables new.tables c d p q w sets (not_it q isnt))

-- ---- one client holds nothing more

begun_sent : (old new : AdjIns) (c d identifier : ℕ) (q : Prefix) → Begins old new c identifier → held_of old c q ≡ None → AreSent old new d q
begun_sent old new c d identifier q h none = λ e ne. by_client e (equal_or e c) where
  by_client : (e : ℕ) → (e ≡ c) ⊎ (e ≢ c) → IsSameSent (identifier_of old e) (identifier_of new e) (held_of old e q) (held_of new e q)
  by_client e (inl is) = let was : held_of old e q ≡ None = ap (λ k. held_of old k q) is ∙ none in record {
    held = was ∙ sym (h.held e q ∙ ap (λ b. if b then None else held_of old e q) (ap (λ k. k == c) is ∙ is_own c));
    identifier = λ m some. absurd (let f : ◌≡◌ {A = Option (List Attribute)} None (Some m) = sym was ∙ some in (cc));
  }
  by_client e (inr ne) = record {
    held = sym (h.held e q ∙ ap (λ b. if b then None else held_of old e q) (is_other e c ne));
    identifier = λ m some. sym (h.identifiers e ∙ ap (λ b. if b then identifier else identifier_of old e) (is_other e c ne));
  }

own_sent : (old new : AdjIns) (c d identifier : ℕ) (q : Prefix) → Begins old new c identifier → d ≡ c → AreSent old new d q
own_sent old new c d identifier q h is = λ e ne. let other : e ≢ c = λ own. ne (own ∙ sym is) in record {
  held = sym (h.held e q ∙ ap (λ b. if b then None else held_of old e q) (is_other e c other));
  identifier = λ m some. sym (h.identifiers e ∙ ap (λ b. if b then identifier else identifier_of old e) (is_other e c other));
}

none_held : (w : Option (List Attribute)) → (IsSome w → ⊥) → w ≡ None
none_held None isnt = refl
none_held (Some m) isnt = absurd (isnt refl)

-- what it held was touched for all others
pub forgotten_fresh : (old new : Ribs) (c identifier : ℕ) → KeepsSettings old new → Begins old.tables new.tables c identifier → ChangesOthers c (IsTouchedWhereHeld old.tables c) old new → IsFresh old → IsFresh new
forgotten_fresh old new c identifier settings begins changes = fresh_each old new settings.count (λ d none lt.
    still_decided old new d (outlet_in old d none) (outlet_in new d none) settings.config begins.count (by_client d none lt (equal_or d c))) where
      by_client : (d : ℕ) (none : View) → d < old.count → (d ≡ c) ⊎ (d ≢ c) → IsStill old.tables new.tables d (outlet_in old d none) (outlet_in new d none)
      by_client d none lt (inl e) = same_still old.tables new.tables d (outlet_in old d none) (outlet_in new d none)
          (ap (λ k. outlet_in new k none) e ∙ changes.own none ∙ ap (λ k. outlet_in old k none) (sym e)) (λ q. own_sent old.tables new.tables c d identifier q begins e)
      by_client d none lt (inr ne) = let t = changes.others d none lt ne in
          touched_others_still old.tables new.tables d t.prefixes (outlet_in old d none) (outlet_in new d none) t.touched
          (λ q isnt. begun_sent old.tables new.tables c d identifier q begins (none_held (held_of old.tables c q) (λ some. isnt ((t.held.all q).1 some))))

-- it held nothing, and all is to be decided for it
pub begun_fresh : (old new : Ribs) (c identifier : ℕ) (Is : View → View → Type 0) → KeepsSettings old new → Begins old.tables new.tables c identifier → ChangesOwn c Is old new → ((v w : View) → Is v w → (w.touched ≡ None) × (w.stale ≡ None)) → ((p : Prefix) → held_of old.tables c p ≡ None) → IsFresh old → IsFresh new
begun_fresh old new c identifier Is settings begins changes all nothing = fresh_each old new settings.count (λ d none lt decided. by_client d none lt decided (equal_or d c)) where
  by_client : (d : ℕ) (none : View) → d < old.count → IsDecidedBy (due_in old d) (outlet_in old d none) → (d ≡ c) ⊎ (d ≢ c) → IsDecidedBy (due_in new d) (outlet_in new d none)
  by_client d none lt decided (inl e) =
      let is = all (outlet_in old c none) (outlet_in new c none) (changes.own none (subst (λ k. k < old.count) e lt)) in
      all_decided (due_in new d) (outlet_in new d none) (ap (λ k. (outlet_in new k none).stale) e ∙ is.1)
      (all_touched (outlet_in new d none) (ap (λ k. (outlet_in new k none).touched) e ∙ is.0))
  by_client d none lt decided (inr ne) = still_decided old new d (outlet_in old d none) (outlet_in new d none) settings.config begins.count
      (same_still old.tables new.tables d (outlet_in old d none) (outlet_in new d none) (changes.others d none ne) (λ q. begun_sent old.tables new.tables c d identifier q begins (nothing q))) decided

-- ---- all is to be decided

pub marked_fresh : (old new : Ribs) (ins : AdjIns) → new.count ≡ old.count → ChangesAll (λ c. IsMarked ins) old new → IsFresh old → IsFresh new
marked_fresh old new ins count changes fresh = record {
  each = λ d none lt.
      let within = subst (λ n. d < n) count lt in
      marked_decided (due_in new d) ins (outlet_in old d none) (outlet_in new d none) (changes.each d none within) (fresh.each d none within).stale_touched;
}
