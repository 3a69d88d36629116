-- The attributes at fault, noted from left to right.
use Rattle.std.proofs.Common.{◌≡◌, ℕ, zero, suc, ◌<◌, Bool, true, false, cond, List, [], ◌∷◌, ◌++◌, length, get_or, set, replicate, Option, Some, None, refl, sym, ap, ◌∙◌, arith, nat_eq, append_assoc}
use Rattle.std.specs.Prelude.{is_some, option_map}
use Rattle.std.specs.List.{find, cons_option}
use Rattle.std.proofs.lemmas.Bool.{eqb-true, eq-eqb}
use Rattle.std.proofs.lemmas.List.{append-nil, get_or-set_same, get_or-set_other, length-set, length-replicate}
use Rattle.rs_attrs.specs.declared.mode.Mode.{Mode}
use Rattle.rs_attrs.specs.declared.table.Outcome.{Outcome}
use Rattle.rs_attrs.specs.declared.faults.Faulted.{Faulted}
use Rattle.rs_attrs.specs.declared.faults.Flaw.{Flaw}
use Rattle.rs_attrs.specs.Spellings.{Spelling, spellings_of, rest_of}
use Rattle.rs_attrs.specs.Table.{is_withdraw, is_discard}
use Rattle.rs_attrs.specs.Meaning.{that_counts}
use Rattle.rs_attrs.specs.Types as types
use Rattle.rs_attrs.specs.Flaws.{flaw_by, comes_among, flaws_behind, flaws_of, cut_off, first_by, firsts_of, faulted_of, or_fault, with_flaw}
use Rattle.rs_attrs.specs.Walking.{Stops, Steps}
use Rattle.rs_attrs.proofs.Fields.FirstOfTypeWalk.{or_else, if_kind, counts_more}

-- ---- one more

flaws_more : (mode : Mode) (earlier done : List Spelling) (s : Spelling)
    → flaws_behind mode earlier (done ++ s ∷ []) ≡ flaws_behind mode earlier done ++ cons_option (flaw_by mode (comes_among s.kind (earlier ++ done)) s) []
flaws_more mode earlier [] s = ap (λ before. cons_option (flaw_by mode (comes_among s.kind before) s) []) (sym (append-nil earlier))
flaws_more mode earlier (t ∷ done) s =
    ap (cons_option (flaw_by mode (comes_among t.kind earlier) t))
    (flaws_more mode (earlier ++ t ∷ []) done s ∙ ap (λ before. flaws_behind mode (earlier ++ t ∷ []) done ++ cons_option (flaw_by mode (comes_among s.kind before) s) []) (append_assoc earlier (t ∷ []) done))
    ∙ consed (flaw_by mode (comes_among t.kind earlier) t) (flaws_behind mode (earlier ++ t ∷ []) done) _
  where
    consed : (o : Option Flaw) (xs ys : List Flaw) → cons_option o (xs ++ ys) ≡ cons_option o xs ++ ys
    consed None xs ys = refl
    consed (Some f) xs ys = refl

first_more : (is_it : Outcome → Bool) (flaws : List Flaw) (f : Flaw) → first_by is_it (flaws ++ f ∷ []) ≡ or_fault (first_by is_it flaws) (is_it f.outcome) f.fault
first_more is_it [] f = by_test (is_it f.outcome)
  where
    by_test : (b : Bool) → option_map (λ (flaw : Flaw). flaw.fault) (cond b (Some f) None) ≡ cond b (Some f.fault) None
    by_test true = refl
    by_test false = refl
first_more is_it (g ∷ flaws) f = by_test (is_it g.outcome) (first_more is_it flaws f)
  where
    by_test : (b : Bool) → first_by is_it (flaws ++ f ∷ []) ≡ or_fault (first_by is_it flaws) (is_it f.outcome) f.fault
        → option_map (λ (flaw : Flaw). flaw.fault) (cond b (Some g) (find (λ flaw. is_it flaw.outcome) (flaws ++ f ∷ [])))
        ≡ or_fault (option_map (λ (flaw : Flaw). flaw.fault) (cond b (Some g) (find (λ flaw. is_it flaw.outcome) flaws))) (is_it f.outcome) f.fault
    by_test true later = refl
    by_test false later = later

pub firsts_more : (flaws : List Flaw) (o : Option Flaw) → firsts_of (flaws ++ cons_option o []) ≡ with_flaw (firsts_of flaws) o
firsts_more flaws None = ap firsts_of (append-nil flaws)
firsts_more flaws (Some f) = λ i. record { withdraw = first_more is_withdraw flaws f i; discard = first_more is_discard flaws f i; mp_reach = false }

-- ---- the walk

-- what is noted when this is left of the field
pub record FlawsSoFar (mode : Mode) (field : List ℕ) (seen : List Bool) (faulted : Faulted) (done : List Spelling) (rest : List ℕ) : Type 0 where
  pub size : length seen ≡ 256
  pub whole : spellings_of field ≡ done ++ spellings_of rest
  pub behind : rest_of field ≡ rest_of rest
  pub came : (kind : ℕ) → get_or seen kind false ≡ comes_among kind done
  pub firsts : faulted ≡ firsts_of (flaws_behind mode [] done)

none_seen : (n kind : ℕ) → get_or (replicate n false) kind false ≡ false
none_seen zero kind = refl
none_seen (suc n) zero = refl
none_seen (suc n) (suc kind) = none_seen n kind

pub so_far_start : (mode : Mode) (field : List ℕ) → FlawsSoFar mode field (replicate 256 false) (record { withdraw = None; discard = None; mp_reach = false }) [] field
so_far_start mode field = record {
  size = length-replicate 256 false;
  whole = refl;
  behind = refl;
  came = none_seen 256;
  firsts = refl;
}

came_more : (seen : List Bool) (done : List Spelling) (s : Spelling) (kind : ℕ) → s.kind < length seen → get_or seen kind false ≡ comes_among kind done
    → get_or (set seen s.kind true) kind false ≡ comes_among kind (done ++ s ∷ [])
came_more seen done s kind within had = by_test (nat_eq s.kind kind) refl ∙ sym (ap is_some (counts_more kind done s))
  where
    some : (o : Option Spelling) → true ≡ is_some (or_else o (Some s))
    some None = refl
    some (Some t) = refl

    same : (o : Option Spelling) → is_some o ≡ is_some (or_else o None)
    same None = refl
    same (Some t) = refl

    by_test : (b : Bool) → nat_eq s.kind kind ≡ b → get_or (set seen s.kind true) kind false ≡ is_some (or_else (that_counts kind done) (if_kind kind s))
    by_test true e =
        let here : s.kind ≡ kind = eqb-true s.kind kind e in
        ap (λ k. get_or (set seen s.kind true) k false) (sym here) ∙ get_or-set_same seen s.kind true false within
        ∙ some (that_counts kind done) ∙ ap (λ b. is_some (or_else (that_counts kind done) (cond b (Some s) None))) (sym e)
    by_test false e =
        let other : kind ≡ s.kind → ⊥ = λ is. (let test : nat_eq s.kind kind ≡ true = eq-eqb s.kind kind (sym is) in cc) in
        get_or-set_other seen s.kind kind true false other ∙ had
        ∙ same (that_counts kind done) ∙ ap (λ b. is_some (or_else (that_counts kind done) (cond b (Some s) None))) (sym e)

pub so_far_more : (mode : Mode) (field : List ℕ) (seen : List Bool) (faulted more : Faulted) (done : List Spelling) (rest after : List ℕ) (s : Spelling) (flaw : Option Flaw) → FlawsSoFar mode field seen faulted done rest → Steps rest s after
    → s.kind < 256 → flaw ≡ flaw_by mode (get_or seen s.kind false) s → more ≡ with_flaw faulted flaw → FlawsSoFar mode field (set seen s.kind true) more (done ++ s ∷ []) after
so_far_more mode field seen faulted more done rest after s flaw had steps byte flaw_is more_is = record {
  size = length-set seen s.kind true ∙ had.size;
  whole = had.whole ∙ ap (λ ss. done ++ ss) steps.0 ∙ sym (append_assoc done (s ∷ []) (spellings_of after));
  behind = had.behind ∙ steps.1;
  came = λ kind. came_more seen done s kind (omega (arith, had.size)) (had.came kind);
  firsts = more_is ∙ (λ i. with_flaw (had.firsts i) ((flaw_is ∙ ap (λ b. flaw_by mode b s) (had.came s.kind)) i))
      ∙ sym (firsts_more (flaws_behind mode [] done) (flaw_by mode (comes_among s.kind done) s))
      ∙ ap firsts_of (sym (flaws_more mode [] done s));
}

pub so_far_all : (mode : Mode) (field : List ℕ) (seen : List Bool) (faulted : Faulted) (done : List Spelling) (rest : List ℕ) → FlawsSoFar mode field seen faulted done rest → Stops rest → done ≡ spellings_of field
so_far_all mode field seen faulted done rest had stops = sym (had.whole ∙ ap (λ ss. done ++ ss) stops.0 ∙ append-nil done)

pub so_far_end : (mode : Mode) (field : List ℕ) (seen : List Bool) (faulted : Faulted) (done : List Spelling) (rest : List ℕ) → FlawsSoFar mode field seen faulted done rest → Stops rest → record (with_flaw faulted (cut_off rest)) { mp_reach = get_or seen types.mp_reach_nlri false } ≡ faulted_of field mode
so_far_end mode field seen faulted done rest had stops =
    let all : done ≡ spellings_of field = so_far_all mode field seen faulted done rest had stops in
    let left : rest ≡ rest_of field = sym (had.behind ∙ stops.1) in
    let firsts : with_flaw faulted (cut_off rest) ≡ firsts_of (flaws_of field mode) =
    (λ i. with_flaw ((had.firsts ∙ ap (λ ss. firsts_of (flaws_behind mode [] ss)) all) i) (cut_off (left i)))
    ∙ sym (firsts_more (flaws_behind mode [] (spellings_of field)) (cut_off (rest_of field))) in
    let came = had.came types.mp_reach_nlri ∙ ap (comes_among types.mp_reach_nlri) all in
    λ i. record (firsts i) { mp_reach = came i }
