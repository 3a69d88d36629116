-- What a route server answers around the first route from one member to another, by computation: the calls on the sink, and what
-- befalls the route server, whatever has passed between it and its link before.
use Rattle.std.proofs.Common.{◌≡◌, ◌≢◌, ◌⊎◌, ◌<◌, ◌≤◌, ℕ, zero, suc, true, false, List, [], ◌∷◌, ◌++◌, take, refl, sym, ap, ◌∙◌, subst, inl, inr, arith, length}
use Rattle.std.specs.Prelude.{◌||◌, Option, Some, None, nat_le, nat_lt, ⊤}
use Rattle.std.proofs.lemmas.Bool.Decides.{nat_tests}
use Rattle.std.proofs.lemmas.List.{append_assoc, length-append}
use Rattle.rs_session.specs.declared.act.State.{State}
use Rattle.rs_session.specs.declared.act.State.TheVariants as states
use Rattle.rs_core.specs.Drives.Answers.{Offers, Nothing, Fails, Takes, Gives, Used, Stopped, Goes_on, Answers, Passes, Begins, Declines, Hears, Drops, Sees, Commands, Turns, Fills, Loses, Rules, Keeps, AreEstablished, IsIdle, is_passed_over}
use Rattle.rs_core.specs.Core.{client_count, lent_octets, owed}
use Rattle.rs_core.specs.Drives.Courses.{Course, called, memories}
use Rattle.rs_core.specs.Drives.Steps.{Step, Begin, Busy, Offer, Memory, End}
use Rattle.rs_core.specs.Run.Moves.{Move, Ruled, Came, Heard, Saw, Left, Dropped, Commanded, Turned}
use Rattle.rs_core.specs.Owed.Sending.{HasLent}
use Rattle.rs_core.specs.declared.links.Event.{Event}
use Rattle.rs_core.specs.declared.links.Event.TheVariants as events
use Rattle.rs_core.specs.declared.route_server.Core.{Core}
use Rattle.rs_core.proofs.Examples.DueRoutes.{base, u1}
use Rattle.rs_core.proofs.Examples.FirstRoute.{both_up}

-- ---- an event that is passed over changes nothing

below : (n c : ℕ) → nat_le n c ≡ true → c < n → ⊥
below n c over lt = grind (arith, nat_tests)

piece : (n c len : ℕ) → (nat_le n c || nat_lt 4096 len) ≡ true → c < n → len ≤ 4096 → ⊥
piece n c len over lt le = grind (arith, nat_tests)

passed : (octets : List ℕ) (event : Event) (x y : Course) → is_passed_over (client_count x.core) event ≡ true → Answers octets event x y → y ≡ x
passed octets event x y over (Passes e u is) = refl
passed octets event x y over (Begins c u core became lt idle) = absurd (below (client_count u.core) c over lt)
passed octets event x y over (Declines c u lt busy) = absurd (below (client_count u.core) c over lt)
passed octets event x y over (Hears c len u core became lt le) = absurd (piece (client_count u.core) c len over lt le)
passed octets event x y over (Drops c len u core became lt le) = absurd (piece (client_count u.core) c len over lt le)
passed octets event x y over (Sees t u core became) = absurd (let f : false ≡ true = over in cc)
passed octets event x y over (Commands c command u core became lt) = absurd (below (client_count u.core) c over lt)
passed octets event x y over (Turns refused u core became established) = absurd (let f : false ≡ true = over in cc)
passed octets event x y over (Fills c room u v lt gives) = absurd (below (client_count u.core) c over lt)
passed octets event x y over (Loses c u core became lt) = absurd (below (client_count u.core) c over lt)
passed octets event x y over (Rules config u core became replaces) = absurd (let f : false ≡ true = over in cc)
passed octets event x y over (Keeps fault u refuses) = absurd (let f : false ≡ true = over in cc)

-- of four clients there is no fifth
no_fifth : (octets : List ℕ) (room : ℕ) (x y : Course) → client_count x.core ≡ 4 → Answers octets (events.Room 4 room) x y → y ≡ x
no_fifth octets room x y four = passed octets (events.Room 4 room) x y (ap (λ n. nat_le n 4) four)

-- ---- any other has its own answers

-- one move and these steps more
abbrev Goes : Move → List Step → Course → Course → Type 0
Goes move steps x y = (y.run ≡ move ∷ x.run) × (y.steps ≡ steps ++ x.steps)

-- by the event; not of other rules
abbrev Answered : List ℕ → Event → Course → Course → Type 0
Answered octets (events.Opened c) x y = (IsIdle x.run c × Goes (Came c) (Begin c ∷ []) x y) ⊎ ((IsIdle x.run c → ⊥) × (y ≡ called (Busy c) x))
Answered octets (events.Octets c len) x y = Goes (Heard c octets) [] x y ⊎ Goes (Dropped c octets) (End c ∷ Memory c ∷ []) x y
Answered octets (events.Moment t) x y = Goes (Saw t) [] x y
Answered octets (events.Commanded c command) x y = Goes (Commanded c command) [] x y
Answered octets events.Turn x y = (refused : List ℕ) × AreEstablished x.run (client_count x.core) refused × (y.run ≡ Turned refused ∷ x.run) × (y.steps ≡ memories refused x.steps)
Answered octets (events.Room c room) x y = Gives c room x y
Answered octets (events.Lost c) x y = Goes (Left c) [] x y
Answered octets events.Rules x y = ⊤
Answered octets events.Stop x y = ⊥

answered : (octets : List ℕ) (event : Event) (x y : Course) → is_passed_over (client_count x.core) event ≡ false → Answers octets event x y → Answered octets event x y
answered octets event x y not (Passes e u is) = absurd (let f : true ≡ false = sym is ∙ not in cc)
answered octets event x y not (Begins c u core became lt idle) = inl (idle, (refl, refl))
answered octets event x y not (Declines c u lt busy) = inr (busy, refl)
answered octets event x y not (Hears c len u core became lt le) = inl (refl, refl)
answered octets event x y not (Drops c len u core became lt le) = inr (refl, refl)
answered octets event x y not (Sees t u core became) = (refl, refl)
answered octets event x y not (Commands c command u core became lt) = (refl, refl)
answered octets event x y not (Turns refused u core became established) = (refused, established, refl, refl)
answered octets event x y not (Fills c room u v lt gives) = gives
answered octets event x y not (Loses c u core became lt) = (refl, refl)
answered octets event x y not (Rules config u core became replaces) = tt
answered octets event x y not (Keeps fault u refuses) = tt

-- ---- connections

-- the first one of a client is taken
begins : (x y : Course) → client_count x.core ≡ 4 → x.run ≡ Ruled base ∷ [] → Answers [] (events.Opened 0) x y → Goes (Came 0) (Begin 0 ∷ []) x y
begins x y four run answers = elim (answered [] (events.Opened 0) x y (ap (λ n. nat_le n 0) four) answers) [
  | inl taken ↦ taken.1
  | inr busy ↦ absurd (busy.0 (subst (λ r. IsIdle r 0) (sym run) refl))
]

-- and a second one is not
busy : (x y : Course) → client_count x.core ≡ 4 → x.run ≡ both_up → Answers [] (events.Opened 1) x y → y ≡ called (Busy 1) x
busy x y four run answers = elim (answered [] (events.Opened 1) x y (ap (λ n. nat_le n 1) four) answers) [
  | inl taken ↦ absurd (let f : ◌≡◌ {A = State} states.Established states.Idle = subst (λ r. IsIdle r 1) run taken.0 in cc)
  | inr declined ↦ declined.1
]

lost : (x y : Course) → client_count x.core ≡ 4 → Answers [] (events.Lost 1) x y → Goes (Left 1) [] x y
lost x y four answers = answered [] (events.Lost 1) x y (ap (λ n. nat_le n 1) four) answers

-- ---- the route

-- it is heard, or memory was refused for it
heard : (x y : Course) → client_count x.core ≡ 4 → Answers u1 (events.Octets 0 47) x y → Goes (Heard 0 u1) [] x y ⊎ Goes (Dropped 0 u1) (End 0 ∷ Memory 0 ∷ []) x y
heard x y four answers = answered u1 (events.Octets 0 47) x y (ap (λ n. nat_le n 0 || nat_lt 4096 47) four) answers

-- it is heard of a, and of nobody else
not_of_b : (x y : Course) → client_count x.core ≡ 4 → Answers u1 (events.Octets 0 47) x y → y.run ≡ Heard 1 u1 ∷ x.run → ⊥
not_of_b x y four answers other = elim (heard x y four answers) [
  | inl is ↦ let f : ◌≡◌ {A = List Move} (Heard 0 u1 ∷ x.run) (Heard 1 u1 ∷ x.run) = sym is.0 ∙ other in cc
  | inr is ↦ let f : ◌≡◌ {A = List Move} (Dropped 0 u1 ∷ x.run) (Heard 1 u1 ∷ x.run) = sym is.0 ∙ other in cc
]

-- ---- a turn: memory may be refused for a and for b, which are Established

abbrev IsOfTwo : List ℕ → Type 0
IsOfTwo refused = (refused ≡ []) ⊎ ((refused ≡ 0 ∷ []) ⊎ ((refused ≡ 1 ∷ []) ⊎ (refused ≡ 1 ∷ 0 ∷ [])))

of_two : (refused : List ℕ) → AreEstablished (Heard 0 u1 ∷ both_up) 4 refused → IsOfTwo refused
of_two [] are = inl refl
of_two (zero ∷ []) are = inr (inl refl)
of_two (zero ∷ d ∷ cs) are = absurd (let h = are.2.0 in omega (arith, h))
of_two (suc zero ∷ []) are = inr (inr (inl refl))
of_two (suc zero ∷ zero ∷ []) are = inr (inr (inr refl))
of_two (suc zero ∷ zero ∷ d ∷ cs) are = absurd (let h = are.2.2.0 in omega (arith, h))
of_two (suc zero ∷ suc d ∷ cs) are = absurd (let h = are.2.0 in omega (arith, h))
of_two (suc (suc zero) ∷ cs) are = absurd (let f : false ≡ true = are.1 in cc)
of_two (suc (suc (suc zero)) ∷ cs) are = absurd (let f : false ≡ true = are.1 in cc)
of_two (suc (suc (suc (suc c))) ∷ cs) are = absurd (let h = are.0 in omega (arith, h))

turned : (x y : Course) → client_count x.core ≡ 4 → x.run ≡ Heard 0 u1 ∷ both_up → Answers [] events.Turn x y
    → (refused : List ℕ) × IsOfTwo refused × (y.run ≡ Turned refused ∷ x.run) × (y.steps ≡ memories refused x.steps)
turned x y four run answers =
    let t = answered [] events.Turn x y refl answers in
    (t.0, of_two t.0 (subst (λ n. AreEstablished (Heard 0 u1 ∷ both_up) n t.0) four (subst (λ r. AreEstablished r (client_count x.core) t.0) run t.1)), t.2, t.3)

-- a is reported to the sink first, and then b
by_rising_place : (steps : List Step) → memories (1 ∷ 0 ∷ []) steps ≡ Memory 1 ∷ Memory 0 ∷ steps
by_rising_place steps = refl

-- the other way round, twice, and one that isn't Established are no lists of such clients
not_falling : AreEstablished both_up 4 (0 ∷ 1 ∷ []) → ⊥
not_falling are = let h = are.2.0 in absurd (omega (arith, h))

not_twice : AreEstablished both_up 4 (1 ∷ 1 ∷ []) → ⊥
not_twice are = let h = are.2.0 in absurd (omega (arith, h))

not_of_c : AreEstablished both_up 4 (2 ∷ []) → ⊥
not_of_c are = let f : false ≡ true = are.1 in cc

-- ---- room: where something is owed, the first step is an offer of what is lent, as far as there is room

record IsOffered (c room : ℕ) (x y : Course) : Type 0 where
  core : Core
  lent : HasLent c x.core (lent_octets core c) core
  some : lent_octets core c ≢ []
  answer : Option ℕ
  more : List Step
  steps : y.steps ≡ more ++ Offer c (take room (lent_octets core c)) answer ∷ x.steps

offers_first : (c room k : ℕ) (x y : Course) → owed x.core c ≢ 0 → Offers c room k x y → IsOffered c room x y
offers_first c room k x y owes (Nothing u core lent none empty) = absurd (owes none)
offers_first c room k x y owes (Fails u core after lent some lost) = record { core = core; lent = lent; some = some; answer = None; more = []; steps = refl }
offers_first c room k x y owes (Takes j u core after lent some within taken) = record { core = core; lent = lent; some = some; answer = Some j; more = []; steps = refl }

more_offers : (c room k : ℕ) (x y : Course) → Offers c room k x y → (more : List Step) × (y.steps ≡ more ++ x.steps)
more_offers c room k x y (Nothing u core lent none empty) = ([], refl)
more_offers c room k x y (Fails u core after lent some lost) = (Offer c (take room (lent_octets core c)) None ∷ [], refl)
more_offers c room k x y (Takes j u core after lent some within taken) = (Offer c (take room (lent_octets core c)) (Some j) ∷ [], refl)

more_given : (c room : ℕ) (x y : Course) → Gives c room x y → (more : List Step) × (y.steps ≡ more ++ x.steps)
more_given c room x y (Used u) = ([], refl)
more_given c room x y (Stopped r u v some offers) = more_offers c r 0 u v offers
more_given c room x y (Goes_on r k u v w some within offers rest) =
    let first = more_offers c r k u v offers in
    let then = more_given c _ v w rest in
    (then.0 ++ first.0, then.1 ∙ ap (λ l. then.0 ++ l) first.1 ∙ sym (append_assoc then.0 first.0 u.steps))

given_first : (c room : ℕ) (x y : Course) → 0 < room → owed x.core c ≢ 0 → Gives c room x y → IsOffered c room x y
given_first c room x y room_left owes (Used u) = absurd (omega (arith, room_left))
given_first c room x y room_left owes (Stopped r u v some offers) = offers_first c r 0 u v owes offers
given_first c room x y room_left owes (Goes_on r k u v w some within offers rest) =
    let first = offers_first c r k u v owes offers in
    let then = more_given c _ v w rest in
    record {
      core = first.core;
      lent = first.lent;
      some = first.some;
      answer = first.answer;
      more = then.0 ++ first.more;
      steps = then.1 ∙ ap (λ l. then.0 ++ l) first.steps ∙ sym (append_assoc then.0 first.more (Offer c (take r (lent_octets first.core c)) first.answer ∷ u.steps));
    }

room_is_used : (x y : Course) → client_count x.core ≡ 4 → owed x.core 1 ≢ 0 → Answers [] (events.Room 1 5000) x y → IsOffered 1 5000 x y
room_is_used x y four owes answers = given_first 1 5000 x y (omega arith) owes (answered [] (events.Room 1 5000) x y (ap (λ n. nat_le n 1) four) answers)

-- so it can't be passed over
nonempty : (more : List Step) (step : Step) (steps : List Step) → steps ≡ more ++ step ∷ steps → ⊥
nonempty more step steps e = let n : length steps ≡ length (more ++ step ∷ steps) = ap length e in absurd (omega (arith, n, length-append more (step ∷ steps)))

not_passed_over : (x y : Course) → client_count x.core ≡ 4 → owed x.core 1 ≢ 0 → Answers [] (events.Room 1 5000) x y → y.steps ≡ x.steps → ⊥
not_passed_over x y four owes answers same =
    let first = room_is_used x y four owes answers in
    nonempty first.more (Offer 1 (take 5000 (lent_octets first.core 1)) first.answer) x.steps (sym same ∙ first.steps)
