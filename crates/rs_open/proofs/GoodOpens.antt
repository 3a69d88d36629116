-- Nothing is wrong with an OPEN exactly where it is a good one.
use Rattle.std.proofs.Common.{◌≡◌, ◌≢◌, ℕ, zero, suc, inl, inr, Bool, true, false, cond, List, [], ◌∷◌, ◌++◌, length, Option, refl, sym, ap, ◌∙◌, arith}
use Rattle.std.specs.Prelude.{◌==◌, ◌&&◌, ◌||◌, ◌↔◌, IsOk, is_ok, not}
use Rattle.std.specs.List.{flat_map, AllByRecursion}
use Rattle.std.proofs.lemmas.Bool.{eq-eqb, eqb-true, ne_eqb}
use Rattle.std.proofs.lemmas.List.{append-nil}
use Rattle.rs_open.specs.declared.open.Open.{Open}
use Rattle.rs_open.specs.declared.open.OpenFault.{OpenFault}
use Rattle.rs_open.specs.declared.open.OpenFault.TheVariants.{Version, Malformed, Parameter, Hold, Identifier}
use Rattle.rs_open.specs.Triples.{Triple, Row, triple_octets, row_of}
use Rattle.rs_octets.specs.HoldTimes.{is_refused_hold}
use Rattle.rs_open.specs.Opens.{when, rest_faults, row_faults, capability_faults, parameter_faults, version_field, my_as_field, hold_field, identifier_field, parameters_length, parameters_of, capabilities_of, four_of, faults_of, said_by, unless, open_of}
use Rattle.rs_open.specs.Good.{AreWhole, IsGoodCapability, IsGoodParameter, IsGoodHold, IsGoodOpen}
use Rattle.rs_open.proofs.Splitting.{row_is, row_is_only, each_is_triple, none_in_nothing}

-- ---- lists of faults that are empty

left_none : {A : Type 0} (xs ys : List A) → xs ++ ys ≡ [] → xs ≡ []
left_none [] ys e = refl
left_none (x ∷ xs) ys e = cc

right_none : {A : Type 0} (xs ys : List A) → xs ++ ys ≡ [] → ys ≡ []
right_none [] ys e = e
right_none (x ∷ xs) ys e = cc

both_none : {A : Type 0} (xs ys : List A) → xs ≡ [] → ys ≡ [] → xs ++ ys ≡ []
both_none xs ys e f = ap (λ zs. zs ++ ys) e ∙ f

not_when : (b : Bool) (fault : OpenFault) → when b fault ≡ [] → b ≡ false
not_when true fault e = cc
not_when false fault e = refl

when_not : (b : Bool) (fault : OpenFault) → b ≡ false → when b fault ≡ []
when_not b fault e = ap (λ b. when b fault) e

no_rest : (rest : List ℕ) → rest_faults rest ≡ [] → rest ≡ []
no_rest [] e = refl
no_rest (octet ∷ octets) e = cc

true_not : (b : Bool) → not b ≡ false → b ≡ true
true_not true e = refl
true_not false e = cc

-- ---- rows

each_good : (faults : Triple → List OpenFault) (IsGood : Triple → Type 0) → ((t : Triple) → faults t ≡ [] → IsGood t)
    → (ts : List Triple) → flat_map faults ts ≡ [] → AllByRecursion IsGood ts
each_good faults IsGood good [] e = tt
each_good faults IsGood good (t ∷ ts) e = (good t (left_none (faults t) (flat_map faults ts) e), each_good faults IsGood good ts (right_none (faults t) (flat_map faults ts) e))

each_faultless : (faults : Triple → List OpenFault) (IsGood : Triple → Type 0) → ((t : Triple) → IsGood t → faults t ≡ [])
    → (ts : List Triple) → AllByRecursion IsGood ts → flat_map faults ts ≡ []
each_faultless faults IsGood faultless [] all = refl
each_faultless faults IsGood faultless (t ∷ ts) all = both_none (faults t) (flat_map faults ts) (faultless t all.0) (each_faultless faults IsGood faultless ts all.1)

row_good : (faults : Triple → List OpenFault) (IsGood : Triple → Type 0) → ((t : Triple) → faults t ≡ [] → IsGood t)
    → (octets : List ℕ) → row_faults faults (row_of octets) ≡ [] → AreWhole IsGood octets
row_good faults IsGood good octets e =
    let row : Row = row_of octets in
    let rest : row.rest ≡ [] = no_rest row.rest (right_none (flat_map faults row.triples) (rest_faults row.rest) e) in
    record {
      triples = row.triples;
      octets_are = (row_is octets).whole ∙ ap (λ xs. flat_map triple_octets row.triples ++ xs) rest ∙ append-nil (flat_map triple_octets row.triples);
      each = each_good faults IsGood good row.triples (left_none (flat_map faults row.triples) (rest_faults row.rest) e);
    }

row_faultless : (faults : Triple → List OpenFault) (IsGood : Triple → Type 0) → ((t : Triple) → IsGood t → faults t ≡ [])
    → (octets : List ℕ) → AreWhole IsGood octets → row_faults faults (row_of octets) ≡ []
row_faultless faults IsGood faultless octets are =
    let row : Row = record { triples = are.triples; rest = [] } in
    let whole : octets ≡ flat_map triple_octets are.triples ++ [] = are.octets_are ∙ sym (append-nil (flat_map triple_octets are.triples)) in
    ap (row_faults faults) (sym (row_is_only octets row (record { whole = whole; each = each_is_triple are.triples; stops = none_in_nothing })))
    ∙ both_none (flat_map faults are.triples) [] (each_faultless faults IsGood faultless are.triples are.each) refl

-- ---- capabilities and parameters

capability_good : (c : Triple) → capability_faults c ≡ [] → IsGoodCapability c
capability_good c e kind =
    let four : (true && not (length c.value == 4)) ≡ false = ap (λ b. b && not (length c.value == 4)) (sym (eq-eqb c.kind 65 kind)) ∙ not_when _ Malformed e in
    eqb-true (length c.value) 4 (true_not (length c.value == 4) four)

capability_faultless : (c : Triple) → IsGoodCapability c → capability_faults c ≡ []
capability_faultless c good = by_test (c.kind == 65) refl
  where
    by_test : (b : Bool) → (c.kind == 65) ≡ b → when (b && not (length c.value == 4)) Malformed ≡ []
    by_test true e = ap (λ b. when (not b) Malformed) (eq-eqb (length c.value) 4 (good (eqb-true c.kind 65 e)))
    by_test false e = refl

parameter_good : (p : Triple) → parameter_faults p ≡ [] → IsGoodParameter p
parameter_good p e = by_test (p.kind == 2) refl e
  where
    by_test : (b : Bool) → (p.kind == 2) ≡ b → cond b (row_faults capability_faults (row_of p.value)) (Parameter ∷ []) ≡ [] → IsGoodParameter p
    by_test true is e = record { kind = eqb-true p.kind 2 is; capabilities = row_good capability_faults IsGoodCapability capability_good p.value e }
    by_test false is e = cc

parameter_faultless : (p : Triple) → IsGoodParameter p → parameter_faults p ≡ []
parameter_faultless p good =
    ap (λ b. cond b (row_faults capability_faults (row_of p.value)) (Parameter ∷ [])) (eq-eqb p.kind 2 good.kind)
    ∙ row_faultless capability_faults IsGoodCapability capability_faultless p.value good.capabilities

-- ---- the Hold Time

hold_good : (hold : ℕ) → is_refused_hold hold ≡ false → IsGoodHold hold
hold_good zero e = inl refl
hold_good (suc zero) e = cc
hold_good (suc (suc zero)) e = cc
hold_good (suc (suc (suc n))) e = inr (omega arith)

hold_faultless : (hold : ℕ) → IsGoodHold hold → is_refused_hold hold ≡ false
hold_faultless hold (inl is) = ap is_refused_hold is
hold_faultless hold (inr more) =
    let not_1 : hold ≢ 1 = λ e. omega (arith, more, e) in
    let not_2 : hold ≢ 2 = λ e. omega (arith, more, e) in
    ap (λ b. b || (hold == 2)) (ne_eqb hold 1 not_1) ∙ ne_eqb hold 2 not_2

-- ---- the whole

-- the faults of each part, in their order
abbrev version_faults : List ℕ → List OpenFault
version_faults body = when (not (version_field body == 4)) Version

abbrev length_faults : List ℕ → List OpenFault
length_faults body = when (not (parameters_length body == length (parameters_of body))) Malformed

-- a fault of the Hold Time or of the identifier brings these AS numbers
abbrev four_said : List ℕ → Option ℕ
four_said body = four_of (capabilities_of (parameters_of body))

abbrev hold_faults : List ℕ → List OpenFault
hold_faults body = when (is_refused_hold (hold_field body)) (Hold (my_as_field body) (four_said body))

abbrev identifier_faults : List ℕ → List OpenFault
identifier_faults body = when (identifier_field body == 0) (Identifier (my_as_field body) (four_said body))

open_good : (body : List ℕ) → faults_of body ≡ [] → IsGoodOpen body
open_good body e =
    let a = version_faults body in
    let b = length_faults body in
    let c = row_faults parameter_faults (row_of (parameters_of body)) in
    let d = hold_faults body in
    let f = identifier_faults body in
    let abcd = left_none (a ++ b ++ c ++ d) f e in
    let abc = left_none (a ++ b ++ c) d abcd in
    let ab = left_none (a ++ b) c abc in
    record {
      version = eqb-true (version_field body) 4 (true_not (version_field body == 4) (not_when (not (version_field body == 4)) Version (left_none a b ab)));
      reaches = eqb-true (parameters_length body) (length (parameters_of body))
          (true_not _ (not_when (not (parameters_length body == length (parameters_of body))) Malformed (right_none a b ab)));
      parameters = row_good parameter_faults IsGoodParameter parameter_good (parameters_of body) (right_none (a ++ b) c abc);
      hold = hold_good (hold_field body) (not_when (is_refused_hold (hold_field body)) (Hold (my_as_field body) (four_said body)) (right_none (a ++ b ++ c) d abcd));
      identifier = λ is. not_both (identifier_field body == 0) (eq-eqb (identifier_field body) 0 is) (not_when (identifier_field body == 0) (Identifier (my_as_field body) (four_said body)) (right_none (a ++ b ++ c ++ d) f e));
    }
  where
    not_both : (b : Bool) → b ≡ true → b ≡ false → ⊥
    not_both b is isnt = cc

open_faultless : (body : List ℕ) → IsGoodOpen body → faults_of body ≡ []
open_faultless body good =
    let a = version_faults body in
    let b = length_faults body in
    let c = row_faults parameter_faults (row_of (parameters_of body)) in
    let d = hold_faults body in
    let f = identifier_faults body in
    both_none (a ++ b ++ c ++ d) f
    (both_none (a ++ b ++ c) d
    (both_none (a ++ b) c
    (both_none a b
    (ap (λ b. when (not b) Version) (eq-eqb (version_field body) 4 good.version))
    (ap (λ b. when (not b) Malformed) (eq-eqb (parameters_length body) (length (parameters_of body)) good.reaches)))
    (row_faultless parameter_faults IsGoodParameter parameter_faultless (parameters_of body) good.parameters))
    (when_not (is_refused_hold (hold_field body)) (Hold (my_as_field body) (four_said body)) (hold_faultless (hold_field body) good.hold)))
    (when_not (identifier_field body == 0) (Identifier (my_as_field body) (four_said body)) (ne_eqb (identifier_field body) 0 good.identifier))

ok_none : (faults : List OpenFault) (value : Open) → IsOk (unless faults value) → faults ≡ []
ok_none [] value ok = refl
ok_none (fault ∷ faults) value ok = cc

pub taken : (body : List ℕ) → IsOk (open_of body) ↔ IsGoodOpen body
taken body =
    (λ ok. open_good body (ok_none (faults_of body) (said_by body) ok), λ good. ap (λ faults. is_ok (unless faults (said_by body))) (open_faultless body good))
