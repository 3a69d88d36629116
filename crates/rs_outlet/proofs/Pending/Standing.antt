-- What was told of a prefix, whether it is marked and whether it waits, by the slot that stands open for it.
use Rattle.std.proofs.Common.{◌≡◌, Bool, true, false, cond, not, ◌&&◌, ◌||◌, Option, None, Some, List, [], ◌∷◌, refl, sym, ap, ◌∙◌}
use Rattle.std.specs.Prelude.{option_map}
use Rattle.std.specs.FinMap as fin
use Rattle.std.specs.FinSet as set
use Rattle.rs_octets.specs.Prefixes.{Prefix, prefix_order}
use Rattle.rs_attrs.specs.Meaning.{Attribute}
use Rattle.rs_outlet.specs.declared.waiting.Wait.{Wait}
use Rattle.rs_outlet.specs.Views.{Table, Prefixes}
use Rattle.rs_outlet.specs.Pending.Slots.{open_at, told_of, told_by, marked_told, is_withdrawal}
use Rattle.rs_outlet.specs.Inside.{told_over, marked_of, waits_of, put, mark}
use Rattle.rs_adjin.proofs.Listed.{prefixes_total}
use Rattle.rs_outlet.proofs.Decided.LocByNumber.{same, same_is}

get-put : (t : Table) (p : Prefix) (v : Option (List Attribute)) (q : Prefix) → fin.get (put t p v) q ≡ cond (same q p) v (fin.get t q)
get-put t p None q = fin.get-remove prefixes_total t p q
get-put t p (Some m) q = fin.get-insert prefixes_total t p m q

pub told_at : (loc : Table) (ws : List Wait) (q : Prefix) → fin.get (told_over loc ws) q ≡ told_by (open_at q ws) (fin.get loc q)
told_at loc [] q = refl
told_at loc (w ∷ ws) q = go w.open (same q w.prefix) refl (told_at loc ws q)
  where
    T : Table
    T = told_over loc ws

    value : Option (List Attribute)
    value = told_of w.told (fin.get loc w.prefix)

    go : (a b : Bool) → same q w.prefix ≡ b → fin.get T q ≡ told_by (open_at q ws) (fin.get loc q) → fin.get (cond a (put T w.prefix value) T) q ≡ told_by (cond (a && b) (Some w) (open_at q ws)) (fin.get loc q)
    go true true s rest =
        get-put T w.prefix value q ∙ ap (λ b. cond b value (fin.get T q)) s
        ∙ ap (λ p. told_of w.told (fin.get loc p)) (sym (same_is q w.prefix s))
    go true false s rest = get-put T w.prefix value q ∙ ap (λ b. cond b value (fin.get T q)) s ∙ rest
    go false b s rest = rest

contains-mark : (s : Prefixes) (p : Prefix) (b : Bool) (q : Prefix) → set.contains (mark s p b) q ≡ cond (same q p) b (set.contains s q)
contains-mark s p true q = set.contains-insert prefixes_total s p q ∙ or_cond (same q p) (set.contains s q)
  where
    or_cond : (a o : Bool) → (a || o) ≡ cond a true o
    or_cond true o = refl
    or_cond false o = refl
contains-mark s p false q = set.contains-remove prefixes_total s p q ∙ and_cond (same q p) (set.contains s q)
  where
    and_cond : (a o : Bool) → (not a && o) ≡ cond a false o
    and_cond true o = refl
    and_cond false o = refl

pub marked_at : (loc : Table) (ws : List Wait) (q : Prefix) → set.contains (marked_of loc ws) q ≡ marked_told (open_at q ws) (fin.get loc q)
marked_at loc [] q = set.contains-empty prefix_order q
marked_at loc (w ∷ ws) q = go w.open (same q w.prefix) refl (marked_at loc ws q)
  where
    S : Prefixes
    S = marked_of loc ws

    m : Bool
    m = marked_told (Some w) (fin.get loc w.prefix)

    go : (a b : Bool) → same q w.prefix ≡ b → set.contains S q ≡ marked_told (open_at q ws) (fin.get loc q) → set.contains (cond a (mark S w.prefix m) S) q ≡ marked_told (cond (a && b) (Some w) (open_at q ws)) (fin.get loc q)
    go true true s rest =
        contains-mark S w.prefix m q ∙ ap (λ b. cond b m (set.contains S q)) s
        ∙ ap (λ p. marked_told (Some w) (fin.get loc p)) (sym (same_is q w.prefix s))
    go true false s rest = contains-mark S w.prefix m q ∙ ap (λ b. cond b m (set.contains S q)) s ∙ rest
    go false b s rest = rest

pub waits_at : (ws : List Wait) (q : Prefix) → fin.get (waits_of ws) q ≡ option_map (λ w. is_withdrawal w.due) (open_at q ws)
waits_at [] q = fin.get-empty prefix_order q
waits_at (w ∷ ws) q = go w.open (same q w.prefix) refl (waits_at ws q)
  where
    d : Bool
    d = is_withdrawal w.due

    go : (a b : Bool) → same q w.prefix ≡ b → fin.get (waits_of ws) q ≡ option_map (λ w. is_withdrawal w.due) (open_at q ws) → fin.get (cond a (fin.insert (waits_of ws) w.prefix d) (waits_of ws)) q ≡ option_map (λ w. is_withdrawal w.due) (cond (a && b) (Some w) (open_at q ws))
    go true true s rest = fin.get-insert prefixes_total (waits_of ws) w.prefix d q ∙ ap (λ b. cond b (Some d) (fin.get (waits_of ws) q)) s
    go true false s rest = fin.get-insert prefixes_total (waits_of ws) w.prefix d q ∙ ap (λ b. cond b (Some d) (fin.get (waits_of ws) q)) s ∙ rest
    go false b s rest = rest
