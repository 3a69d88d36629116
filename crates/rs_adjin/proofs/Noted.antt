-- The notes beside the routes: by the lists of routes, and as the contracts have them.
use Rattle.std.proofs.Common.{Bool, true, false, ◌≡◌, ◌==◌, ℕ, List, [], ◌∷◌, map, refl, sym, ◌∙◌, ap, subst, arith}
use Rattle.std.specs.Prelude.{Option, Some, None, All, IfSome, option_map, if◌then◌else◌}
use Rattle.std.specs.List.{AllByRecursion}
use Rattle.std.specs.Arc.{arc_value}
use Rattle.std.proofs.lemmas.Bool.Decides.{nat_tests}
use Rattle.std.proofs.lemmas.Option.{same_Some}
use Rattle.std.proofs.lemmas.List.Elements.{All-from_recursion, All-map, recursion_from_All}
use Rattle.rs_octets.specs.Prefixes.{Prefix}
use Rattle.rs_attrs.specs.Meaning.{Attribute}
use Rattle.rs_adjin.specs.declared.routes.Route.{Route}
use Rattle.rs_adjin.specs.declared.adj_ins.AdjIns.{AdjIns}
use Rattle.rs_adjin.specs.Routes.{value_in, note_in}
use Rattle.rs_adjin.specs.Numbers.{routes_at}
use Rattle.rs_adjin.specs.Listing.{sent_by, noted_by}
use Rattle.rs_adjin.specs.Table as tables
use Rattle.rs_adjin.specs.AdjIns.{held_of, note_of, AreNoted, KeepsNotes, PutsNote}
use Rattle.rs_adjin.proofs.RouteLists.{Rising, rising, none_above}
use Rattle.rs_adjin.proofs.TableRows.{none_some}

abbrev HasNote : (ℕ → List Attribute → ℕ) → Route → Type 0
HasNote f r = r.note ≡ f r.client (arc_value r.attrs)

-- ---- by client

note_by_value : (f : ℕ → List Attribute → ℕ) (rs : List Route) (c : ℕ) (m : List Attribute) → AllByRecursion (HasNote f) rs → value_in c rs ≡ Some m → note_in c rs ≡ f c m
note_by_value f [] c m h is = absurd (let e : ◌≡◌ {A = Option (List Attribute)} None (Some m) = is in cc)
note_by_value f (r ∷ rs) c m h is = go (λ there. note_by_value f rs c m h.1 there) (c == r.client) refl is
  where
    go : (value_in c rs ≡ Some m → note_in c rs ≡ f c m) → (b : Bool) → (c == r.client) ≡ b → (if b then Some (arc_value r.attrs) else value_in c rs) ≡ Some m → (if b then r.note else note_in c rs) ≡ f c m
    go later true at there =
        let e : r.client ≡ c = grind (arith, nat_tests, at) in
        h.0 ∙ (ap (λ n. f n (arc_value r.attrs)) e ∙ ap (f c) (same_Some (arc_value r.attrs) m there))
    go later false at there = later there

value_by_note : (f : ℕ → List Attribute → ℕ) (rs : List Route) → Rising rs → ((c : ℕ) (m : List Attribute) → value_in c rs ≡ Some m → note_in c rs ≡ f c m) → AllByRecursion (HasNote f) rs
value_by_note f [] up h = tt
value_by_note f (r ∷ rs) up h = (here, value_by_note f rs up.1 (λ c m is. rest c m is (c == r.client) refl))
  where
    itself : (r.client == r.client) ≡ true
    itself = grind (arith, nat_tests)

    here : HasNote f r
    here = sym (ap (λ b. if b then r.note else note_in r.client rs) itself) ∙ h r.client (arc_value r.attrs) (ap (λ b. if b then Some (arc_value r.attrs) else value_in r.client rs) itself)

    rest : (c : ℕ) (m : List Attribute) → value_in c rs ≡ Some m → (b : Bool) → (c == r.client) ≡ b → note_in c rs ≡ f c m
    rest c m is true at =
        let e : r.client ≡ c = grind (arith, nat_tests, at) in
        absurd (none_some (value_in c rs) m (subst (λ n. value_in n rs ≡ None) e (none_above r.client rs up.0)) is)
    rest c m is false at = sym (ap (λ b. if b then r.note else note_in c rs) at) ∙ h c m (ap (λ b. if b then Some (arc_value r.attrs) else value_in c rs) at ∙ is)

-- ---- all tables

pub noted_of : (f : ℕ → Prefix → List Attribute → ℕ) (ins : AdjIns) → tables.AllHaveNotes f ins.table → AreNoted f ins
unfolding held_of note_of
noted_of f ins h = record { each = λ c p m is. note_by_value (λ d n. f d p n) (routes_at ins.table p) c m (recursion_from_All (HasNote (λ d n. f d p n)) (routes_at ins.table p) (h p)) is }

pub noted_in : (f : ℕ → Prefix → List Attribute → ℕ) (ins : AdjIns) → AreNoted f ins → tables.AllHaveNotes f ins.table
unfolding held_of note_of
noted_in f ins h p = All-from_recursion (HasNote (λ d n. f d p n)) (routes_at ins.table p) (value_by_note (λ d n. f d p n) (routes_at ins.table p) (rising (routes_at ins.table p) (ins.whole.rising p)) (λ c m is. h.each c p m is))

pub keeps_notes : (old new : AdjIns) → tables.KeepsNotes old.table new.table → KeepsNotes old new
keeps_notes old new keeps f h = noted_of f new (keeps f (noted_in f old h))

pub puts_note : (old new : AdjIns) (c : ℕ) (p : Prefix) (m : List Attribute) (note : ℕ) → tables.PutsNote old.table new.table c p m note → PutsNote old new c p m note
puts_note old new c p m note puts f h is = noted_of f new (puts f is (noted_in f old h))

-- ---- listed beside the routes

pub firsts : (rs : List Route) → map (λ (h : (ℕ × List Attribute) × ℕ). h.0) (map noted_by rs) ≡ map sent_by rs
firsts [] = refl
firsts (r ∷ rs) = ap (λ hs. sent_by r ∷ hs) (firsts rs)

pub listed_notes : (f : ℕ → Prefix → List Attribute → ℕ) (ins : AdjIns) (p : Prefix) (routes : List Route) (holders : List ((ℕ × List Attribute) × ℕ)) → AreNoted f ins → holders ≡ map noted_by routes → routes ≡ routes_at ins.table p
    → All (λ (h : (ℕ × List Attribute) × ℕ). h.1 ≡ f h.0.0 p h.0.1) holders
listed_notes f ins p routes holders h is e =
    subst (All (λ (h : (ℕ × List Attribute) × ℕ). h.1 ≡ f h.0.0 p h.0.1)) (sym (is ∙ ap (map noted_by) e))
    (All-map (λ (h : (ℕ × List Attribute) × ℕ). h.1 ≡ f h.0.0 p h.0.1) noted_by (routes_at ins.table p) (noted_in f ins h p))

-- one client's, where it has a route
pub noted_one : {A : Type 0} (f : ℕ → Prefix → List Attribute → ℕ) (ins : AdjIns) (c : ℕ) (p : Prefix) (value : A → List Attribute) (note : A → ℕ) (o : Option A) → AreNoted f ins → option_map value o ≡ held_of ins c p → IfSome o (λ h. note h ≡ note_of ins c p)
    → IfSome o (λ h. note h ≡ f c p (value h))
noted_one f ins c p value note None noted held is = tt
noted_one f ins c p value note (Some h) noted held is = is ∙ noted.each c p (value h) (sym held)
