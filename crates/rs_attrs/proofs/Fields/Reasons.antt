-- An attribute is noted as treated as withdraw exactly where one is.
use Rattle.std.proofs.Common.{◌≡◌, ℕ, ◌&&◌, ◌||◌, Bool, true, false, cond, not, List, [], ◌∷◌, ◌++◌, length, Option, Some, None, refl, sym, ap, ◌∙◌, arith, nat_lt, append_assoc}
use Rattle.std.specs.Prelude.{◌==◌, is_some, option_map}
use Rattle.std.specs.Cmp.{first_so, second_so}
use Rattle.std.specs.List.{AllByRecursion, find, cons_option, list_all}
use Rattle.std.proofs.lemmas.Bool.{lt-ltb}
use Rattle.std.proofs.lemmas.List.{append-nil}
use Rattle.rs_attrs.specs.declared.mode.Mode.{Mode}
use Rattle.rs_attrs.specs.declared.mode.Mode.TheVariants.{Two, Four}
use Rattle.rs_attrs.specs.declared.faults.Cause.{Cause}
use Rattle.rs_attrs.specs.declared.faults.Cause.TheVariants as causes
use Rattle.rs_attrs.specs.declared.faults.Flaw.{Flaw}
use Rattle.rs_attrs.specs.declared.table.Outcome.{Outcome}
use Rattle.rs_attrs.specs.declared.table.Outcome.TheVariants.{Kept, Withdraw, Discard, Unknown}
use Rattle.rs_attrs.specs.declared.table.Shape.{Shape}
use Rattle.rs_attrs.specs.declared.table.Shape.TheVariants as shapes
use Rattle.rs_attrs.specs.Spellings.{Spelling, IsSpelling, has_flag, spellings_of, rest_of}
use Rattle.rs_attrs.specs.Table.{Row, rows, row_of, outcome_by, outcome_of, fits_class, is_well_formed, is_kept, is_withdraw}
use Rattle.rs_attrs.specs.Meaning.{read_of, that_counts, comes_to, some_comes_to, all_types}
use Rattle.rs_attrs.specs.Flaws.{value_cause, cause_by, fault, flaw_by, comes_among, flaws_behind, cut_off, first_by, faulted_of}
use Rattle.rs_attrs.proofs.Fields.FirstOfType.{any_of}
use Rattle.rs_attrs.proofs.Fields.FirstOfTypeWalk.{comes_more}
use Rattle.rs_attrs.proofs.Fields.Walk.{FitOctets, splits_of}
use Rattle.rs_attrs.proofs.WellFormed.{is_found}

-- ---- one attribute

-- a type whose bad values are treated as withdraw has a cause for each of them
abbrev has_cause : Row → Bool
has_cause r = not (is_withdraw r.otherwise) || is_some (value_cause r.shape [])

rows_have : (mode : Mode) → list_all has_cause (rows mode) ≡ true
rows_have Two = refl
rows_have Four = refl

each_passes : (test : Row → Bool) (rs : List Row) → list_all test rs ≡ true → AllByRecursion (λ r. test r ≡ true) rs
each_passes test [] all = tt
each_passes test (r ∷ rs) all = (first_so (test r) (list_all test rs) all, each_passes test rs (second_so (test r) (list_all test rs) all))

caused : (shape : Shape) (value : List ℕ) (withdraws : Bool) → (not withdraws || is_some (value_cause shape [])) ≡ true → withdraws ≡ true → is_some (value_cause shape value) ≡ true
caused shapes.Origin value w has is = refl
caused shapes.AsPath value w has is = refl
caused shapes.Aggregator value w has is = refl
caused shapes.As4Path value w has is = refl
caused (shapes.Length n) value w has is = refl
caused shapes.Communities value w has is = refl
caused shapes.ExtendedCommunities value w has is = refl
caused shapes.LargeCommunities value w has is = refl
caused shapes.Never value true has is = has
caused shapes.Never value false has is = is

abbrev withdraws : List Flaw → Bool
withdraws flaws = is_some (first_by is_withdraw flaws)

abbrev flaw_with : Spelling → Outcome → Option Cause → Option Flaw
flaw_with s o why = cond (is_kept o) None (option_map (λ why. record { outcome = o; fault = fault s.kind why }) why)

by_tests : (s : Spelling) (fits well : Bool) (o : Outcome) (why : Option Cause) → (is_withdraw o ≡ true → is_some why ≡ true)
    → withdraws (cons_option (flaw_with s (cond fits (cond well Kept o) Withdraw) (cond fits why (Some causes.Flags))) []) ≡ is_withdraw (cond fits (cond well Kept o) Withdraw)
by_tests s false well o why has = refl
by_tests s true true o why has = refl
by_tests s true false Kept why has = refl
by_tests s true false Withdraw None has = has refl
by_tests s true false Withdraw (Some why) has = refl
by_tests s true false Discard None has = refl
by_tests s true false Discard (Some why) has = refl
by_tests s true false Unknown None has = refl
by_tests s true false Unknown (Some why) has = refl

by_row : (mode : Mode) (s : Spelling) (o : Option Row) → ((r : Row) → o ≡ Some r → has_cause r ≡ true)
    → withdraws (cons_option (flaw_with s (outcome_by mode o s) (cause_by o s)) []) ≡ is_withdraw (outcome_by mode o s)
by_row mode s None has = by_flag (has_flag 0x80 s.flags)
  where
    by_flag : (b : Bool) → withdraws (cons_option (flaw_with s (cond b Kept Unknown) None) []) ≡ is_withdraw (cond b Kept Unknown)
    by_flag true = refl
    by_flag false = refl
by_row mode s (Some r) has = by_tests s (fits_class r.class s.flags) (is_well_formed mode r.shape s.value) r.otherwise (value_cause r.shape s.value) (caused r.shape s.value (is_withdraw r.otherwise) (has r refl))

one_noted : (mode : Mode) (came : Bool) (s : Spelling) → withdraws (cons_option (flaw_by mode came s) []) ≡ (not came && is_withdraw (outcome_of mode s))
one_noted mode true s = refl
one_noted mode false s = by_row mode s (row_of mode s.kind) (λ r e. (is_found {P = λ r. has_cause r ≡ true} {test = λ r. r.kind == s.kind} (rows mode) r (each_passes has_cause (rows mode) (rows_have mode)) e).has)

-- ---- a field

first_noted : (o : Option Flaw) (flaws : List Flaw) → withdraws (cons_option o flaws) ≡ (withdraws (cons_option o []) || withdraws flaws)
first_noted None flaws = refl
first_noted (Some f) flaws = by_test (is_withdraw f.outcome)
  where
    by_test : (b : Bool) → is_some (option_map (λ (flaw : Flaw). flaw.fault) (cond b (Some f) (find (λ flaw. is_withdraw flaw.outcome) flaws)))
        ≡ (is_some (option_map (λ (flaw : Flaw). flaw.fault) (cond b (Some f) None)) || withdraws flaws)
    by_test true = refl
    by_test false = refl

or_assoc : (x y z : Bool) → (x || (y || z)) ≡ (x || y || z)
or_assoc true y z = refl
or_assoc false y z = refl

or_false : (x : Bool) → (x || false) ≡ x
or_false true = refl
or_false false = refl

both_noted : (flaws more : List Flaw) → withdraws (flaws ++ more) ≡ (withdraws flaws || withdraws more)
both_noted [] more = refl
both_noted (f ∷ flaws) more =
    first_noted (Some f) (flaws ++ more) ∙ ap (λ b. withdraws (f ∷ []) || b) (both_noted flaws more) ∙ or_assoc (withdraws (f ∷ [])) (withdraws flaws) (withdraws more)
    ∙ ap (λ b. b || withdraws more) (sym (first_noted (Some f) flaws))

noted_after : (mode : Mode) (earlier spellings : List Spelling) → AllByRecursion IsSpelling spellings
    → (some_comes_to is_withdraw mode earlier || withdraws (flaws_behind mode earlier spellings)) ≡ some_comes_to is_withdraw mode (earlier ++ spellings)
noted_after mode earlier [] all = or_false (some_comes_to is_withdraw mode earlier) ∙ ap (some_comes_to is_withdraw mode) (sym (append-nil earlier))
noted_after mode earlier (s ∷ spellings) all =
    let before = some_comes_to is_withdraw mode earlier in
    let later = withdraws (flaws_behind mode (earlier ++ s ∷ []) spellings) in
    let here = not (comes_among s.kind earlier) && is_withdraw (outcome_of mode s) in
    ap (λ b. before || b) (first_noted (flaw_by mode (comes_among s.kind earlier) s) (flaws_behind mode (earlier ++ s ∷ []) spellings) ∙ ap (λ b. b || later) (one_noted mode (comes_among s.kind earlier) s))
    ∙ or_assoc before here later
    ∙ ap (λ b. b || later) (sym (comes_more is_withdraw mode earlier s all.0.kind))
    ∙ noted_after mode (earlier ++ s ∷ []) spellings all.1
    ∙ ap (some_comes_to is_withdraw mode) (append_assoc earlier (s ∷ []) spellings)

rest_noted : (rest : List ℕ) → withdraws (cons_option (cut_off rest) []) ≡ nat_lt 0 (length rest)
rest_noted [] = refl
rest_noted (flags ∷ []) = refl
rest_noted (flags ∷ kind ∷ octets) = sym (lt-ltb 0 (length (flags ∷ kind ∷ octets)) (omega arith))

pub field_noted : (octets : List ℕ) (mode : Mode) → FitOctets octets → is_some (faulted_of octets mode).withdraw ≡ (read_of octets mode).faults.withdraw
field_noted octets mode fit =
    let spellings = spellings_of octets in
    let among = flaws_behind mode [] spellings in
    let none = any_of (λ kind. comes_to is_withdraw mode (that_counts kind [])) (λ kind. refl) all_types in
    both_noted among (cons_option (cut_off (rest_of octets)) [])
    ∙ (λ i. (ap (λ b. b || withdraws among) (sym none) ∙ noted_after mode [] spellings (splits_of octets fit).each) i || rest_noted (rest_of octets) i)
