-- One client's value at one prefix changes, in steps.
use Rattle.std.proofs.Common.{◌≡◌, ◌≢◌, ◌==◌, ◌&&◌, ℕ, Bool, true, false, List, [], ◌∷◌, slice_index_or, refl, sym, ◌∙◌, ap, subst}
use Rattle.std.specs.Prelude.{Option, Some, None, is_some, if◌then◌else◌}
use Rattle.rs_octets.specs.Prefixes.{Prefix}
use Rattle.rs_attrs.specs.Meaning.{Attribute}
use Rattle.rs_attrs.specs.Effects.{same_prefix}
use Rattle.rs_attrs.proofs.EachOnce.{same_is, same_itself}
use Rattle.rs_adjin.specs.declared.adj_ins.AdjIns.{AdjIns}
use Rattle.rs_adjin.specs.Table.{TellsChange}
use Rattle.rs_adjin.specs.AdjIns.{held_of, KeepsNumbers, Same, Sets}
use Rattle.rs_core.specs.Touched.Touches.{IsTouchedAt}
use Rattle.rs_core.specs.Ribs.{IsNumbered, KeepsFresh, KeepsSettings, ChangesOthers, TouchesChange}
use Rattle.rs_core.specs.declared.ribs.Ribs.{Ribs}
use Rattle.rs_core.proofs.Run.Clients.{is_own, same_client}
use Rattle.rs_core.proofs.Run.Loops.{others_from, settings_on}
use Rattle.rs_core.proofs.Run.Numbers.{numbered_kept}
use Rattle.rs_core.proofs.Run.Freshness.{changed_fresh, same_fresh}

pub same_on : (a b c : AdjIns) → Same a b → Same b c → Same a c
same_on a b c h k = record { count = k.count ∙ h.count; identifiers = λ d. k.identifiers d ∙ h.identifiers d; held = λ d q. k.held d q ∙ h.held d q }

pub sets_on : (a b c : AdjIns) (d : ℕ) (p : Prefix) (w : Option (List Attribute)) → Same a b → Sets b c d p w → Sets a c d p w
sets_on a b c d p w h k = record {
  count = k.count ∙ h.count;
  identifiers = λ e. k.identifiers e ∙ h.identifiers e;
  held = λ e q. k.held e q ∙ ap (λ o. if (e == d) && same_prefix q p then w else o) (h.held e q);
}

-- it is the value now
pub set_here : (old new : AdjIns) (c : ℕ) (p : Prefix) (w : Option (List Attribute)) → Sets old new c p w → held_of new c p ≡ w
set_here old new c p w h = h.held c p ∙ ap (λ b. if b && same_prefix p p then w else held_of old c p) (is_own c) ∙ ap (λ b. if b then w else held_of old c p) (same_itself p)

-- the value was this one before
pub sets_nothing : (old new : AdjIns) (c : ℕ) (p : Prefix) (w : Option (List Attribute)) → Sets old new c p w → held_of old c p ≡ w → Same old new
sets_nothing old new c p w h was = record { count = h.count; identifiers = h.identifiers; held = λ d q. h.held d q ∙ by_place d q (d == c) (same_prefix q p) refl refl } where
  by_place : (d : ℕ) (q : Prefix) (a b : Bool) → (d == c) ≡ a → same_prefix q p ≡ b → (if a && b then w else held_of old d q) ≡ held_of old d q
  by_place d q true true e f = sym was ∙ ap (λ k. held_of old k p) (sym (same_client d c e)) ∙ ap (held_of old d) (sym (same_is q p f))
  by_place d q true false e f = refl
  by_place d q false b e f = refl

pub none_of : {A : Type 0} (o : Option A) → is_some o ≡ false → o ≡ None
none_of None e = refl
none_of (Some x) e = absurd (let f : true ≡ false = e in (cc))

pub changed_is : (b : Bool) (o w : Option (List Attribute)) → TellsChange b o w → b ≡ true → o ≢ w
changed_is true o w h e = h
changed_is false o w h e = absurd (let f : false ≡ true = e in (cc))

pub unchanged_is : (b : Bool) (o w : Option (List Attribute)) → TellsChange b o w → b ≡ false → o ≡ w
unchanged_is false o w h e = h
unchanged_is true o w h e = absurd (let f : true ≡ false = e in (cc))

-- ---- touched exactly where the value changed

-- the tables were written, and then all others touched
pub told_others : (c : ℕ) (p : Prefix) (w : Option (List Attribute)) (old mid new : Ribs) → KeepsSettings old mid → mid.outlets.items ≡ old.outlets.items → KeepsNumbers old.tables mid.tables → Sets old.tables mid.tables c p w → held_of old.tables c p ≢ w
    → KeepsSettings mid new → new.tables ≡ mid.tables → (IsNumbered mid → ChangesOthers c (IsTouchedAt (p ∷ [])) mid new) → (IsNumbered mid → IsNumbered new) → (IsNumbered old → TouchesChange c p old new) × KeepsFresh old new
told_others c p w old mid new before items numbers sets differs after tables touched numbered = (
  λ h. record { changed = λ ne. others h; unchanged = λ e. absurd (differs (sym e ∙ set_here old.tables new.tables c p w written)) },
  record { numbered = λ h. numbered (placed h); fresh = λ h f. changed_fresh old new c p w (settings_on old mid new before after) written (others h) f },
) where
  placed : IsNumbered old → IsNumbered mid
  placed h = numbered_kept old mid before.count numbers (λ d none. ap (λ xs. slice_index_or xs d none) items) h

  written : Sets old.tables new.tables c p w
  written = subst (λ t. Sets old.tables t c p w) (sym tables) sets

  others : IsNumbered old → ChangesOthers c (IsTouchedAt (p ∷ [])) old new
  others h = others_from c (IsTouchedAt (p ∷ [])) old mid new before.count items (touched (placed h))

-- the tables hold the same as before
pub told_nobody : (old new : Ribs) → KeepsSettings old new → new.outlets.items ≡ old.outlets.items → KeepsNumbers old.tables new.tables → Same old.tables new.tables → KeepsFresh old new
told_nobody old new settings items numbers same = record {
  numbered = λ h. numbered_kept old new settings.count numbers (λ d none. ap (λ xs. slice_index_or xs d none) items) h;
  fresh = λ h f. same_fresh old new settings same (λ d none. ap (λ xs. slice_index_or xs d none) items) f;
}

pub keeps_on : (a b c : Ribs) → KeepsFresh a b → KeepsFresh b c → KeepsFresh a c
keeps_on a b c h k = record { numbered = λ n. k.numbered (h.numbered n); fresh = λ n f. k.fresh (h.numbered n) (h.fresh n f) }

-- ---- numbers are given up

-- all is as it was, but for numbers that no outlet has
pub record IsSwept (old new : Ribs) : Type 0 where
  pub settings : KeepsSettings old new
  pub tables : Same old.tables new.tables
  pub outlets : new.outlets ≡ old.outlets
  pub kept : KeepsFresh old new

pub sweep_begins : (old : Ribs) → IsSwept old old
sweep_begins old = record {
  settings = record { count = refl; extended = refl; config = refl };
  tables = record { count = refl; identifiers = λ d. refl; held = λ d q. refl };
  outlets = refl;
  kept = record { numbered = λ h. h; fresh = λ h f. f };
}

pub sweep_on : (a b c : Ribs) → IsSwept a b → KeepsSettings b c → Same b.tables c.tables → c.outlets ≡ b.outlets → KeepsFresh b c → IsSwept a c
sweep_on a b c h settings tables outlets kept = record {
  settings = settings_on a b c h.settings settings;
  tables = same_on a.tables b.tables c.tables h.tables tables;
  outlets = outlets ∙ h.outlets;
  kept = keeps_on a b c h.kept kept;
}
