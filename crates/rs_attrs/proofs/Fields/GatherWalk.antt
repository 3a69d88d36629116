-- A field gone over once, from left to right: what is kept, and what is noted of the others.
use Rattle.std.proofs.Common.{◌≡◌, ℕ, ◌<◌, ◌&&◌, ◌||◌, Bool, true, false, cond, List, [], ◌∷◌, ◌++◌, length, get_or, set, replicate, Option, Some, None, refl, sym, ap, ◌∙◌, subst, nat_eq, nat_lt}
use Rattle.std.specs.Prelude.{is_some, not, option_map}
use Rattle.std.proofs.lemmas.Bool.{eqb-true, lt-ltb}
use Rattle.rs_attrs.specs.declared.mode.Mode.{Mode}
use Rattle.rs_attrs.specs.declared.faults.Faults.{Faults}
use Rattle.rs_attrs.specs.declared.table.Outcome.{Outcome}
use Rattle.rs_attrs.specs.declared.reading.field.Found.{Found}
use Rattle.rs_attrs.specs.declared.faults.Faulted.{Faulted}
use Rattle.rs_attrs.specs.Spellings.{Spelling, spellings_of, rest_of}
use Rattle.rs_attrs.specs.Table.{outcome_of, is_kept, is_withdraw, is_unknown, is_discard}
use Rattle.rs_attrs.specs.Meaning.{that_counts, if_kept, kept_spelling, stands_twice, comes_to, some_comes_to, faults_of, all_types}
use Rattle.rs_attrs.specs.Flaws.{fault, cause_in, cut_off, faulted_of, flaw_by, with_flaw, comes_among}
use Rattle.rs_attrs.specs.Types as types
use Rattle.rs_attrs.specs.Walking.{Stops, Steps, noted, noted_with, AreRising, Keeps, faults_with, noted_more}
use Rattle.rs_attrs.proofs.Fields.FirstOfType.{any_of, not_withdraw, not_unknown, not_discard}
use Rattle.rs_attrs.proofs.Fields.FirstOfTypeWalk.{counts_same, counts_new, twice_more, comes_more}
use Rattle.rs_attrs.proofs.Fields.FlawWalk.{FlawsSoFar, so_far_start, so_far_more, so_far_all, so_far_end}

-- the faults of the attributes alone, with no rest
abbrev pub faults_among : Mode → List Spelling → Faults
faults_among mode done = record {
  mp_twice = stands_twice 14 done || stands_twice 15 done;
  withdraw = some_comes_to is_withdraw mode done;
  unknown = some_comes_to is_unknown mode done;
  discard = some_comes_to is_discard mode done;
}

-- what stands when this is left of the field
pub record Gathering (mode : Mode) (field : List ℕ) (came : List Bool) (kept : List Found) (faults_noted : Faults × Faulted) (rest : List ℕ) : Type 0 where
  pub done : List Spelling
  pub flaws_so_far : FlawsSoFar mode field came faults_noted.1 done rest
  pub rising : AreRising kept
  pub same : (kind : ℕ) → noted kept kind ≡ kept_spelling mode done kind
  pub faults : faults_noted.0 ≡ faults_among mode done

-- ---- one more

faults_more : (mode : Mode) (done : List Spelling) (s : Spelling) → s.kind < 256 → faults_among mode (done ++ s ∷ []) ≡ faults_with mode (faults_among mode done) (comes_among s.kind done) s
faults_more mode done s byte = λ i. record {
  mp_twice = twice i;
  withdraw = comes_more is_withdraw mode done s byte i;
  unknown = comes_more is_unknown mode done s byte i;
  discard = comes_more is_discard mode done s byte i;
}
  where
    -- one of either type counts where one of the type came before
    at_kind : (kind : ℕ) → (is_some (that_counts kind done) && nat_eq s.kind kind) ≡ (comes_among s.kind done && nat_eq s.kind kind)
    at_kind kind = by_test (nat_eq s.kind kind) refl
      where
        and_false : (x y : Bool) → (x && false) ≡ (y && false)
        and_false true true = refl
        and_false true false = refl
        and_false false true = refl
        and_false false false = refl

        by_test : (b : Bool) → nat_eq s.kind kind ≡ b → (is_some (that_counts kind done) && b) ≡ (comes_among s.kind done && b)
        by_test true e = ap (λ k. is_some (that_counts k done) && true) (sym (eqb-true s.kind kind e))
        by_test false e = and_false (is_some (that_counts kind done)) (comes_among s.kind done)

    joined : (a b x p q : Bool) → (a || (x && p) || (b || (x && q))) ≡ (a || b || (x && (p || q)))
    joined true b x p q = refl
    joined false true true true q = refl
    joined false true true false q = refl
    joined false true false p q = refl
    joined false false true true q = refl
    joined false false true false q = refl
    joined false false false p q = refl

    twice : (stands_twice 14 (done ++ s ∷ []) || stands_twice 15 (done ++ s ∷ [])) ≡ (stands_twice 14 done || stands_twice 15 done || (comes_among s.kind done && (nat_eq s.kind 14 || nat_eq s.kind 15)))
    twice =
        (λ i. (twice_more 14 done s ∙ ap (λ b. stands_twice 14 done || b) (at_kind 14)) i || (twice_more 15 done s ∙ ap (λ b. stands_twice 15 done || b) (at_kind 15)) i)
        ∙ joined (stands_twice 14 done) (stands_twice 15 done) (comes_among s.kind done) (nat_eq s.kind 14) (nat_eq s.kind 15)

-- what is noted of the kept, with a spelling more
abbrev pub noted_by : Bool → Spelling → (ℕ → Option Spelling) → ℕ → Option Spelling
noted_by counts s used kind = cond counts (noted_with s used kind) (used kind)

same_more : (mode : Mode) (done : List Spelling) (s : Spelling) (used : ℕ → Option Spelling) → ((kind : ℕ) → used kind ≡ kept_spelling mode done kind)
    → (kind : ℕ) → noted_by (not (comes_among s.kind done) && is_kept (outcome_of mode s)) s used kind ≡ kept_spelling mode (done ++ s ∷ []) kind
same_more mode done s used same kind = by_test (comes_among s.kind done) refl (is_kept (outcome_of mode s)) refl
  where
    put : (k : Bool) → is_kept (outcome_of mode s) ≡ k → (b : Bool) → nat_eq s.kind kind ≡ b → comes_among s.kind done ≡ false
        → cond k (cond b (Some s) (used kind)) (used kind) ≡ if_kept mode (cond b (Some s) (that_counts kind done))
    put true e true p none = ap (λ k. cond k (Some s) None) (sym e)
    put false e true p none =
        same kind ∙ ap (if_kept mode) (ap (λ k. that_counts k done) (sym (eqb-true s.kind kind p)) ∙ empty (that_counts s.kind done) none) ∙ ap (λ k. cond k (Some s) None) (sym e)
      where
        empty : (o : Option Spelling) → is_some o ≡ false → o ≡ None
        empty None e = refl
        empty (Some t) e = cc
    put true e false p none = same kind
    put false e false p none = same kind

    by_test : (c : Bool) → comes_among s.kind done ≡ c → (k : Bool) → is_kept (outcome_of mode s) ≡ k → noted_by (not c && k) s used kind ≡ kept_spelling mode (done ++ s ∷ []) kind
    by_test true came k e = same kind ∙ ap (if_kept mode) (sym (counts_same kind done s came))
    by_test false none k e = put k e (nat_eq s.kind kind) refl none ∙ ap (if_kept mode) (sym (counts_new kind done s none))

gathering_more : (mode : Mode) (field : List ℕ) (came : List Bool) (kept more : List Found) (faults_noted new : Faults × Faulted) (rest after : List ℕ) (s : Spelling) → Gathering mode field came kept faults_noted rest → Steps rest s after
    → s.kind < 256 → new ≡ noted_more mode faults_noted (get_or came s.kind false) s → AreRising more
    → ((kind : ℕ) → noted more kind ≡ noted_by (not (get_or came s.kind false) && is_kept (outcome_of mode s)) s (noted kept) kind)
    → Gathering mode field (set came s.kind true) more new after
gathering_more mode field came kept more faults_noted new rest after s had steps byte new_is rising more_is =
    let before : get_or came s.kind false ≡ comes_among s.kind had.done = had.flaws_so_far.came s.kind in
    record {
      done = had.done ++ s ∷ [];
      flaws_so_far = so_far_more mode field came faults_noted.1 new.1 had.done rest after s (flaw_by mode (get_or came s.kind false) s) had.flaws_so_far steps byte refl (ap (λ (t : Faults × Faulted). t.1) new_is);
      rising = rising;
      same = λ kind. more_is kind ∙ ap (λ b. noted_by (not b && is_kept (outcome_of mode s)) s (noted kept) kind) before ∙ same_more mode had.done s (noted kept) had.same kind;
      faults = ap (λ (t : Faults × Faulted). t.0) new_is ∙ (λ i. faults_with mode (had.faults i) (before i) s) ∙ sym (faults_more mode had.done s byte);
    }

-- the same, at the place that the code looks at
gathering_at : (mode : Mode) (field : List ℕ) (came : List Bool) (kept more : List Found) (faults_noted new : Faults × Faulted) (rest after : List ℕ) (s : Spelling) (place : ℕ) → Gathering mode field came kept faults_noted rest → Steps rest s after
    → s.kind < 256 → place ≡ s.kind → new ≡ noted_more mode faults_noted (get_or came place false) s → AreRising more
    → ((kind : ℕ) → noted more kind ≡ noted_by (not (get_or came place false) && is_kept (outcome_of mode s)) s (noted kept) kind)
    → Gathering mode field (set came place true) more new after
gathering_at mode field came kept more faults_noted new rest after s place had steps byte e new_is rising more_is =
    let P : ℕ → Type 0 = λ place. new ≡ noted_more mode faults_noted (get_or came place false) s
    → ((kind : ℕ) → noted more kind ≡ noted_by (not (get_or came place false) && is_kept (outcome_of mode s)) s (noted kept) kind) → Gathering mode field (set came place true) more new after in
    subst P (sym e) (λ new_is more_is. gathering_more mode field came kept more faults_noted new rest after s had steps byte new_is rising more_is) new_is more_is

-- what is kept leaves nothing to note
flaw_kept : (mode : Mode) (s : Spelling) → is_kept (outcome_of mode s) ≡ true → flaw_by mode false s ≡ None
flaw_kept mode s good = ap (λ b. cond b None (option_map (λ why. record { outcome = outcome_of mode s; fault = fault s.kind why }) (cause_in mode s))) good

pub noted_kept : (mode : Mode) (faults_noted : Faults × Faulted) (s : Spelling) → is_kept (outcome_of mode s) ≡ true → faults_noted ≡ noted_more mode faults_noted false s
noted_kept mode faults_noted s good = λ i. (
  record {
    mp_twice = or_none faults_noted.0.mp_twice false refl i;
    withdraw = or_none faults_noted.0.withdraw (is_withdraw (outcome_of mode s)) (not_withdraw (outcome_of mode s) good) i;
    unknown = or_none faults_noted.0.unknown (is_unknown (outcome_of mode s)) (not_unknown (outcome_of mode s) good) i;
    discard = or_none faults_noted.0.discard (is_discard (outcome_of mode s)) (not_discard (outcome_of mode s) good) i;
  },
  with_flaw faults_noted.1 (sym (flaw_kept mode s good) i),
)
  where
    or_none : (a b : Bool) → b ≡ false → a ≡ (a || b)
    or_none true b e = refl
    or_none false b e = sym e

counted : (before good : Bool) → (not before && good) ≡ true → (before ≡ false) × (good ≡ true)
counted true good e = cc
counted false good e = (refl, e)

-- one that counts and is kept
pub gathering_kept : (mode : Mode) (field : List ℕ) (came : List Bool) (kept put more : List Found) (faults_noted new : Faults × Faulted) (rest after : List ℕ) (s : Spelling) (place : ℕ) (counts : Bool) → Gathering mode field came kept faults_noted rest → Steps rest s after
    → s.kind < 256 → place ≡ s.kind → counts ≡ (not (get_or came place false) && is_kept (outcome_of mode s)) → counts ≡ true → new ≡ faults_noted
    → more ≡ put → AreRising put → ((kind : ℕ) → noted put kind ≡ noted_with s (noted kept) kind) → Gathering mode field (set came place true) more new after
gathering_kept mode field came kept put more faults_noted new rest after s place counts had steps byte e counts_is counts_true new_is same rising put_is =
    let both = counted (get_or came place false) (is_kept (outcome_of mode s)) (sym counts_is ∙ counts_true) in
    let P : List Found → Type 0 = λ kept. Gathering mode field (set came place true) kept new after in
    subst P (sym same)
    (gathering_at mode field came kept put faults_noted new rest after s place had steps byte e
    (new_is ∙ noted_kept mode faults_noted s both.1 ∙ ap (λ b. noted_more mode faults_noted b s) (sym both.0))
    rising
    (λ kind. put_is kind ∙ ap (λ b. noted_by b s (noted kept) kind) (sym (sym counts_is ∙ counts_true))))

-- its type isn't among the kept
pub kept_new : (mode : Mode) (field : List ℕ) (came : List Bool) (kept : List Found) (faults_noted : Faults × Faulted) (rest : List ℕ) (s : Spelling) (place : ℕ) (counts : Bool) → Gathering mode field came kept faults_noted rest
    → place ≡ s.kind → counts ≡ (not (get_or came place false) && is_kept (outcome_of mode s)) → counts ≡ true → noted kept s.kind ≡ None
kept_new mode field came kept faults_noted rest s place counts had e counts_is counts_true =
    let both = counted (get_or came place false) (is_kept (outcome_of mode s)) (sym counts_is ∙ counts_true) in
    let none : is_some (that_counts s.kind had.done) ≡ false = sym (had.flaws_so_far.came s.kind) ∙ ap (λ k. get_or came k false) (sym e) ∙ both.0 in
    had.same s.kind ∙ ap (if_kept mode) (empty (that_counts s.kind had.done) none)
  where
    empty : (o : Option Spelling) → is_some o ≡ false → o ≡ None
    empty None e = refl
    empty (Some t) e = cc

-- another
pub gathering_noted : (mode : Mode) (field : List ℕ) (came : List Bool) (kept more : List Found) (faults_noted new : Faults × Faulted) (rest after : List ℕ) (s : Spelling) (place : ℕ) (counts : Bool) → Gathering mode field came kept faults_noted rest → Steps rest s after
    → s.kind < 256 → place ≡ s.kind → counts ≡ (not (get_or came place false) && is_kept (outcome_of mode s)) → counts ≡ false → more ≡ kept
    → new ≡ noted_more mode faults_noted (get_or came place false) s → Gathering mode field (set came place true) more new after
gathering_noted mode field came kept more faults_noted new rest after s place counts had steps byte e counts_is counts_false more_is new_is =
    let P : List Found → Type 0 = λ kept. Gathering mode field (set came place true) kept new after in
    subst P (sym more_is)
    (gathering_at mode field came kept kept faults_noted new rest after s place had steps byte e new_is had.rising
    (λ kind. ap (λ b. noted_by b s (noted kept) kind) (sym (sym counts_is ∙ counts_false))))

-- ---- the first and the last

abbrev pub nothing_wrong : Faults × Faulted
nothing_wrong = (record { mp_twice = false; withdraw = false; unknown = false; discard = false }, record { withdraw = None; discard = None; mp_reach = false })

pub gathering_start : (mode : Mode) (field : List ℕ) (kept : List Found) → kept ≡ [] → Gathering mode field (replicate 256 false) kept nothing_wrong field
gathering_start mode field kept e =
    let P : List Found → Type 0 = λ kept. Gathering mode field (replicate 256 false) kept nothing_wrong field in
    subst P (sym e) (record {
      done = [];
      flaws_so_far = so_far_start mode field;
      rising = tt;
      same = λ kind. refl;
      faults = λ i. record { mp_twice = false; withdraw = sym (none_comes_to is_withdraw) i; unknown = sym (none_comes_to is_unknown) i; discard = sym (none_comes_to is_discard) i };
    })
  where
    none_comes_to : (is_it : Outcome → Bool) → some_comes_to is_it mode [] ≡ false
    none_comes_to is_it = any_of (λ kind. comes_to is_it mode None) (λ kind. refl) all_types

all_done : (mode : Mode) (field : List ℕ) (came : List Bool) (kept : List Found) (faults_noted : Faults × Faulted) (rest : List ℕ) (had : Gathering mode field came kept faults_noted rest) → Stops rest → had.done ≡ spellings_of field
all_done mode field came kept faults_noted rest had stops = so_far_all mode field came faults_noted.1 had.done rest had.flaws_so_far stops

pub gathering_keeps : (mode : Mode) (field : List ℕ) (came : List Bool) (kept : List Found) (faults_noted : Faults × Faulted) (rest : List ℕ) → Gathering mode field came kept faults_noted rest → Stops rest → Keeps mode kept (spellings_of field)
gathering_keeps mode field came kept faults_noted rest had stops = record {
  rising = had.rising;
  same = λ kind. had.same kind ∙ ap (λ ss. kept_spelling mode ss kind) (all_done mode field came kept faults_noted rest had stops);
}

-- with the rest that is left
pub rest_faults : (mode : Mode) (field : List ℕ) (came : List Bool) (kept : List Found) (faults_noted : Faults × Faulted) (rest : List ℕ) → Gathering mode field came kept faults_noted rest → Stops rest
    → record faults_noted.0 { withdraw = faults_noted.0.withdraw || nat_lt 0 (length rest) } ≡ faults_of mode (spellings_of field) (rest_of field)
rest_faults mode field came kept faults_noted rest had stops =
    let faults = had.faults ∙ ap (faults_among mode) (all_done mode field came kept faults_noted rest had stops) in
    let left : rest ≡ rest_of field = sym (had.flaws_so_far.behind ∙ stops.1) in
    λ i. record (faults i) { withdraw = (faults i).withdraw || nat_lt 0 (length (left i)) }

pub some_rest : (faults : Faults) (rest : List ℕ) → 0 < length rest → record faults { withdraw = true } ≡ record faults { withdraw = faults.withdraw || nat_lt 0 (length rest) }
some_rest faults rest h = λ i. record faults { withdraw = (always faults.withdraw ∙ ap (λ b. faults.withdraw || b) (sym (lt-ltb 0 (length rest) h))) i }
  where
    always : (a : Bool) → true ≡ (a || true)
    always true = refl
    always false = refl

pub no_rest : (faults : Faults) (rest : List ℕ) → rest ≡ [] → faults ≡ record faults { withdraw = faults.withdraw || nat_lt 0 (length rest) }
no_rest faults rest e = λ i. record faults { withdraw = (never faults.withdraw ∙ ap (λ rest. faults.withdraw || nat_lt 0 (length rest)) (sym e)) i }
  where
    never : (a : Bool) → a ≡ (a || false)
    never true = refl
    never false = refl

pub rest_faulted : (mode : Mode) (field : List ℕ) (came : List Bool) (kept : List Found) (faults_noted : Faults × Faulted) (rest : List ℕ) → Gathering mode field came kept faults_noted rest → Stops rest
    → record (with_flaw faults_noted.1 (cut_off rest)) { mp_reach = get_or came types.mp_reach_nlri false } ≡ faulted_of field mode
rest_faulted mode field came kept faults_noted rest had stops = so_far_end mode field came faults_noted.1 had.done rest had.flaws_so_far stops
