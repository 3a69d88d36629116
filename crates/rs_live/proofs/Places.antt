-- What each client has, where one place is written.
use Rattle.std.proofs.Common.{◌≡◌, ◌≤◌, ◌<◌, Bool, ℕ, zero, suc, List, [], ◌∷◌, ◌++◌, length, set, Option, Some, None, refl, sym, subst, ap, ◌∙◌, arith}
use Rattle.std.proofs.lemmas.List.{length-set}
use Rattle.std.specs.Prelude.{slice_get}
use Rattle.rs_live.specs.declared.connections.ClientConnections.{ClientConnections}
use Rattle.rs_live.specs.declared.live_link.Phase.{Phase}
use Rattle.rs_live.specs.Keeping.{Held, IsFairBy, change, held_by, held_in, held_of, nothing}

abbrev pub holds : Option ℕ → List ℕ → Option ℕ → List ℕ → Bool → Held
holds key waiting rest_key rest is_down = record { key = key; waiting = waiting; rest_key = rest_key; rest = rest; is_down = is_down }

-- it is written with what it had
pub held_same : (connections : List ClientConnections) (c : ℕ) (was own : ClientConnections) → slice_get connections c ≡ Some was → held_in own ≡ held_in was → held_of (set connections c own) ≡ held_of connections
held_same [] c was own e same = refl
held_same (s ∷ connections) zero was own e same = let i : s ≡ was = cc in ap (λ k. k ∷ held_of connections) (same ∙ ap held_in (sym i))
held_same (s ∷ connections) (suc c) was own e same = ap (λ ks. held_in s ∷ ks) (held_same connections c was own e same)

-- it is written with something else
pub held_changed : (f : Held → Held) (connections : List ClientConnections) (c : ℕ) (was own : ClientConnections) → slice_get connections c ≡ Some was → held_in own ≡ f (held_in was) → held_of (set connections c own) ≡ change c f (held_of connections)
held_changed f [] c was own e to = refl
held_changed f (s ∷ connections) zero was own e to = let i : s ≡ was = cc in ap (λ k. k ∷ held_of connections) (to ∙ ap (λ t. f (held_in t)) (sym i))
held_changed f (s ∷ connections) (suc c) was own e to = ap (λ ks. held_in s ∷ ks) (held_changed f connections c was own e to)

-- it is not there
pub unchanged_past : (f : Held → Held) (held : List Held) (c : ℕ) → length held ≤ c → change c f held ≡ held
unchanged_past f [] c past = refl
unchanged_past f (k ∷ held) zero past = absurd (omega arith)
unchanged_past f (k ∷ held) (suc c) past = ap (λ ks. k ∷ ks) (unchanged_past f held c (omega arith))

-- it has what it had
pub unchanged : (f : Held → Held) (held : List Held) (c : ℕ) → f (held_by c held) ≡ held_by c held → change c f held ≡ held
unchanged f [] c e = refl
unchanged f (k ∷ held) zero e = ap (λ j. j ∷ held) e
unchanged f (k ∷ held) (suc c) e = ap (λ ks. k ∷ ks) (unchanged f held c e)

-- two changes of one place
pub change_again : (f g h : Held → Held) (held : List Held) (c : ℕ) → ((x : Held) → g (f x) ≡ h x) → change c g (change c f held) ≡ change c h held
change_again f g h [] c e = refl
change_again f g h (k ∷ held) zero e = ap (λ j. j ∷ held) (e k)
change_again f g h (k ∷ held) (suc c) e = ap (λ ks. k ∷ ks) (change_again f g h held c e)

-- a place that is there has what it was changed to
pub at_place : (f : Held → Held) (held : List Held) (c : ℕ) → c < length held → held_by c (change c f held) ≡ f (held_by c held)
at_place f [] c below = absurd (omega arith)
at_place f (k ∷ held) zero below = refl
at_place f (k ∷ held) (suc c) below = at_place f held c (omega arith)

-- and is there still
pub below_change : (f : Held → Held) (held : List Held) (c : ℕ) → c < length held → c < length (change c f held)
below_change f held c below = subst (λ n. c < n) (sym (length-set held c (f (held_by c held)))) below

pub below_held : (connections : List ClientConnections) (c : ℕ) → c < length connections → c < length (held_of connections)
below_held [] c below = absurd (omega arith)
below_held (s ∷ connections) zero below = omega arith
below_held (s ∷ connections) (suc c) below = omega (arith, below_held connections c (omega arith))

pub below_count : (connections : List ClientConnections) (count c : ℕ) → count ≡ length connections → c < count → c < length (held_of connections)
below_count connections count c e below = below_held connections c (subst (λ n. c < n) e below)

-- what the client of a place has
pub held_there : (connections : List ClientConnections) (c : ℕ) (own : ClientConnections) → slice_get connections c ≡ Some own → held_by c (held_of connections) ≡ held_in own
held_there [] c own e = cc
held_there (s ∷ connections) zero own e = let i : s ≡ own = cc in ap held_in i
held_there (s ∷ connections) (suc c) own e = held_there connections c own e

-- a place more, where nothing is
pub nothing_more : (connections : List ClientConnections) (own : ClientConnections) → held_in own ≡ nothing → ((c : ℕ) → held_by c (held_of connections) ≡ nothing) → (c : ℕ) → held_by c (held_of (connections ++ own ∷ [])) ≡ nothing
nothing_more [] own is none zero = is
nothing_more [] own is none (suc c) = refl
nothing_more (s ∷ connections) own is none zero = none zero
nothing_more (s ∷ connections) own is none (suc c) = nothing_more connections own is (λ d. none (suc d)) c

-- a client that is not there has no connection
pub none_past : (connections : List ClientConnections) (c : ℕ) → length connections ≤ c → (held_by c (held_of connections)).key ≡ None
none_past [] c past = refl
none_past (s ∷ connections) zero past = absurd (omega (arith, past))
none_past (s ∷ connections) (suc c) past = none_past connections c (omega (arith, past))

pub held_count : (connections : List ClientConnections) → length (held_of connections) ≡ length connections
held_count [] = refl
held_count (s ∷ connections) = ap suc (held_count connections)

-- a moment that is fair beside so many clients
pub fair_held : (connections : List ClientConnections) (phase : Phase) (t : ℕ) → IsFairBy (length connections) phase t → IsFairBy (length (held_of connections)) phase t
fair_held connections phase t h = subst (λ n. IsFairBy n phase t) (sym (held_count connections)) h

-- each part is the same
pub parts : {k l : Option ℕ} {w v : List ℕ} {r s : Option ℕ} {o p : List ℕ} {d e : Bool} → k ≡ l → w ≡ v → r ≡ s → o ≡ p → d ≡ e → holds k w r o d ≡ holds l v s p e
parts {k} {l} {w} {v} {r} {s} {o} {p} {d} {e} a b c f g = ap (λ x. holds x w r o d) a ∙ ap (λ x. holds l x r o d) b ∙ ap (λ x. holds l v x o d) c ∙ ap (λ x. holds l v s x d) f ∙ ap (λ x. holds l v s p x) g
