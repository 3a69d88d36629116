-- How route servers and links go on, one call after another.
use Rattle.std.proofs.Common.{◌≡◌, ◌≢◌, ◌<◌, ◌≤◌, ◌-◌, ◌==◌, ◌||◌, ◌&&◌, ◌⊎◌, inl, inr, ℕ, zero, suc, nat_le, nat_lt, Bool, true, false, List, [], ◌∷◌, length, take, refl, sym, ◌∙◌, ap, subst, arith}
use Rattle.std.specs.Prelude.{Result, Ok, Err, OnOk, OnErr, IfErr, if◌then◌else◌}
use Rattle.std.proofs.lemmas.Bool.Decides.{nat_tests}
use Rattle.std.proofs.lemmas.List.{take_all}
use Rattle.rs_policy.specs.Replacing.{Refuses}
use Rattle.rs_policy.specs.declared.faults.RulesFault.{RulesFault}
use Rattle.rs_core.specs.Core.{client_count, lent_octets, owed, is_refused, refused_below}
use Rattle.rs_core.specs.Owed.Sending.{HasLent, LeavesOwed}
use Rattle.rs_core.specs.Run.Moves.{Move, Ruled, Left, Turned, Began, config_in}
use Rattle.rs_core.specs.Run.Meaning.{is_established}
use Rattle.rs_core.specs.Run.Agreeing.{Agrees, IsRuled}
use Rattle.rs_core.specs.Drives.Steps.{Step, Happened, Memory, End, Replaced, HasLed, HasStopped, Leads, octets_of, stops}
use Rattle.rs_core.specs.Drives.Courses.{Course, course, called, memories, Reaches, Continues, HasContinued}
use Rattle.rs_core.specs.Drives.Answers.{is_passed_over, closes, AreEstablished, Answers, Passes, Turns, Rules, Keeps, EndsAll, Ended, Lasts, Owes, Closes, Gives, Goes_on, Offers, Rounds, Start, Round, Drives}
use Rattle.rs_core.specs.Drives.Closing.{may_close, HasClosing, DoesAmong, Notes}
use Rattle.rs_core.specs.declared.driving.closing.MayClose.{MayClose}
use Rattle.rs_core.specs.declared.links.Event.{Event}
use Rattle.rs_core.specs.declared.links.Event.TheVariants as events
use Rattle.rs_core.specs.declared.route_server.Core.{Core}
use Rattle.rs_core.proofs.Drives.Leading.{led_by, led_on, led_same, led_to_stop, stop_is}

-- to what follows, by these steps and moves
pub goes : {L : Type 0} (happens : L → Step → L → Type 0) (old : Core) (before : L) (new : Core) (after : L) (By : Course → Course → Type 0) (next : List Step → List Step) (grown : List Move → List Move)
    → ((first : L) (steps : List Step) → Leads happens first steps before → Leads happens first (next steps) after)
    → (agrees : (run : List Move) → Agrees old run → Agrees new (grown run))
    → ((steps : List Step) (run : List Move) (h : Agrees old run) → By (course old steps run h) (course new (next steps) (grown run) (agrees run h)))
    → Continues happens old before new after By
goes happens old before new after By next grown leads agrees by = record {
  on = λ first steps run h l. record { steps = next steps; run = grown run; agrees = agrees run h; leads = leads first steps l; is = by steps run h };
}

-- nothing happened
pub stays : {L : Type 0} (happens : L → Step → L → Type 0) (core : Core) (link : L) (By : Course → Course → Type 0) → ((x : Course) → By x x) → Continues happens core link core link By
stays happens core link By by = record { on = λ first steps run h l. record { steps = steps; run = run; agrees = h; leads = l; is = by (course core steps run h) } }

-- one after the other
pub joined : {L : Type 0} (happens : L → Step → L → Type 0) (a : Core) (x : L) (b : Core) (y : L) (c : Core) (z : L) (By Then Both : Course → Course → Type 0)
    → ((p q r : Course) → By p q → Then q r → Both p r)
    → Continues happens a x b y By → Continues happens b y c z Then → Continues happens a x c z Both
joined happens a x b y c z By Then Both both p q = record {
  on = λ first steps run h l.
      let one = p.on first steps run h l in
      let two = q.on first one.steps one.run one.agrees one.leads in
      record {
        steps = two.steps;
        run = two.run;
        agrees = two.agrees;
        leads = two.leads;
        is = both (course a steps run h) (course b one.steps one.run one.agrees) (course c two.steps two.run two.agrees) one.is two.is;
      };
}

-- the same in other words
pub also : {L : Type 0} (happens : L → Step → L → Type 0) (a : Core) (x : L) (b : Core) (y : L) (By Also : Course → Course → Type 0)
    → ((steps : List Step) (run : List Move) (h : Agrees a run) (q : Course) → By (course a steps run h) q → Also (course a steps run h) q)
    → Continues happens a x b y By → Continues happens a x b y Also
also happens a x b y By Also so p = record {
  on = λ first steps run h l.
      let one = p.on first steps run h l in
      record { steps = one.steps; run = one.run; agrees = one.agrees; leads = one.leads; is = so steps run h (course b one.steps one.run one.agrees) one.is };
}

-- ---- an event

-- by what it is
pub as_event : {L : Type 0} (happens : L → Step → L → Type 0) (old : Core) (before : L) (new : Core) (after : L) (event e : Event) (piece text : List ℕ) → event ≡ e
    → Continues happens old before new after (Answers (octets_of e piece text) e) → Continues happens old before new after (Answers (octets_of event piece text) event)
as_event happens old before new after event e piece text is h = subst (λ (x : Event). Continues happens old before new after (Answers (octets_of x piece text) x)) (sym is) h

-- rounds, and each client that is closing is in the set
abbrev pub RoundsAmong : MayClose → Course → Course → Type 0
RoundsAmong set x y = Rounds x y × HasClosing set y.run

-- a round more
round : {L : Type 0} (happens : L → Step → L → Type 0) (a : Core) (x : L) (b : Core) (before told : L) (c : Core) (mid : L) (d : Core) (after : L) (event : Event) (octets : List ℕ) (old noted new : MayClose)
    → stops event ≡ false → happens before (Happened event octets) told → Notes event old noted
    → Continues happens a x b before (RoundsAmong old) → Continues happens b told c mid (Answers octets event) → Continues happens c mid d after (DoesAmong EndsAll noted new)
    → Continues happens a x d after (RoundsAmong new)
round happens a x b before told c mid d after event octets old noted new goes_on step notes rounds answers ends = record {
  on = λ first steps run h l.
      let r = rounds.on first steps run h l in
      let s = answers.on first (Happened event octets ∷ r.steps) r.run r.agrees (before, r.leads, step) in
      let t = ends.on first s.steps s.run s.agrees s.leads in
      let there = course b r.steps r.run r.agrees in
      let answered = course c s.steps s.run s.agrees in
      let done = t.is (notes octets (called (Happened event octets) there) answered s.is r.is.1) in
      record {
        steps = t.steps;
        run = t.run;
        agrees = t.agrees;
        leads = t.leads;
        is = (Round event octets there answered (course d t.steps t.run t.agrees) r.is.0 goes_on s.is done.0, done.1);
      };
}

-- and then a stop
stopped : {L : Type 0} (happens : L → Step → L → Type 0) (a : Core) (x : L) (b : Core) (before after : L) (event : Event) (octets : List ℕ) (set : MayClose)
    → stops event ≡ true → happens before (Happened event octets) after → Continues happens a x b before (RoundsAmong set) → Continues happens a x b after Drives
stopped happens a x b before after event octets set is step rounds = record {
  on = λ first steps run h l.
      let r = rounds.on first steps run h l in
      let stop : happens before (Happened events.Stop octets) after = subst (λ (e : Event). happens before (Happened e octets) after) (stop_is event is) step in
      record {
        steps = Happened events.Stop octets ∷ r.steps;
        run = r.run;
        agrees = r.agrees;
        leads = (before, r.leads, stop);
        is = record { before = course b r.steps r.run r.agrees; octets = octets; rounds = r.is.0; stop = refl };
      };
}

-- driven so far: by rounds, none of them a stop, and each client that is closing is in the set
pub record IsDriven {L : Type 0} (happens : L → Step → L → Type 0) (old : Core) (before : L) (new : Core) (after : L) (set : MayClose) : Type 0 where
  pub count : client_count new ≡ client_count old
  pub led : HasLed happens before after
  pub rounds : Continues happens old before new after (RoundsAmong set)

-- not at all yet
pub not_driven : {L : Type 0} (happens : L → Step → L → Type 0) (core : Core) (link : L) (set : MayClose) → ((c : ℕ) → c < 512 → may_close set c ≡ true) → IsDriven happens core link core link set
not_driven happens core link set all = record {
  count = refl;
  led = led_same happens link;
  rounds = stays happens core link (RoundsAmong set) (λ x. (Start, λ c few e. all c few));
}

-- driven to the stop
pub record IsDrivenToStop {L : Type 0} (happens : L → Step → L → Type 0) (old : Core) (before : L) (new : Core) (after : L) : Type 0 where
  pub count : client_count new ≡ client_count old
  pub led : HasStopped happens before after
  pub drives : Continues happens old before new after Drives

-- the event that came is a stop, by which nothing changed
pub driven_to_stop : {L : Type 0} (happens : L → Step → L → Type 0) (a : Core) (x : L) (b : Core) (before told : L) (new : Core) (after : L) (event : Event) (octets : List ℕ) (set : MayClose)
    → stops event ≡ true → happens before (Happened event octets) told → IsDriven happens a x b before set → (new ≡ b) × (after ≡ told) → IsDrivenToStop happens a x new after
driven_to_stop happens a x b before told new after event octets set is step driven same =
    subst (λ l. IsDrivenToStop happens a x new l) (sym same.1)
    (subst (λ (k : Core). IsDrivenToStop happens a x k told) (sym same.0)
    (record {
      count = driven.count;
      led = led_to_stop happens x before told event octets driven.led step is;
      drives = stopped happens a x b before told event octets set is step driven.rounds;
    }))

-- and a round more
pub driven_on : {L : Type 0} (happens : L → Step → L → Type 0) (a : Core) (x : L) (b : Core) (before told : L) (c : Core) (mid : L) (d : Core) (after : L) (event : Event) (octets : List ℕ) (old noted new : MayClose)
    → stops event ≡ false → happens before (Happened event octets) told → Notes event old noted
    → IsDriven happens a x b before old → HasContinued happens b told c mid (Answers octets event) → HasContinued happens c mid d after (DoesAmong EndsAll noted new)
    → IsDriven happens a x d after new
driven_on happens a x b before told c mid d after event octets old noted new goes_on step notes driven answered ended = record {
  count = ended.count ∙ (answered.count ∙ driven.count);
  led = led_on happens x mid after (led_on happens x told mid (led_by happens x before told (Happened event octets) driven.led step goes_on) answered.led) ended.led;
  rounds = round happens a x b before told c mid d after event octets old noted new goes_on step notes driven.rounds answered.continues ended.continues;
}

-- an answer that left a turn to do changed nothing, and then the turn was done
pub turned_then : {L : Type 0} (happens : L → Step → L → Type 0) (b : Core) (told : L) (asked : Core) (there : L) (c : Core) (mid : L) (event : Event) (piece text : List ℕ)
    → event ≡ events.Turn → (asked ≡ b) × (there ≡ told) → HasContinued happens asked there c mid (Answers [] events.Turn)
    → HasContinued happens b told c mid (Answers (octets_of event piece text) event)
turned_then happens b told asked there c mid event piece text is same turned =
    subst (λ (e : Event). HasContinued happens b told c mid (Answers (octets_of e piece text) e)) (sym is)
    (subst (λ l. HasContinued happens b l c mid (Answers [] events.Turn)) same.1
    (subst (λ (k : Core). HasContinued happens k there c mid (Answers [] events.Turn)) same.0 turned))

-- ---- an event that is passed over

pub passes : {L : Type 0} (happens : L → Step → L → Type 0) (core : Core) (link : L) (event : Event) (octets : List ℕ) → is_passed_over (client_count core) event ≡ true
    → Continues happens core link core link (Answers octets event)
passes happens core link event octets over =
    goes happens core link core link (Answers octets event) (λ s. s) (λ r. r) (λ first s l. l) (λ run h. h) (λ steps run h. Passes event (course core steps run h) over)

pub over_client : (n c : ℕ) → n ≤ c → nat_le n c ≡ true
over_client n c le = grind (arith, nat_tests)

pub over_piece : (n c len : ℕ) → n ≤ c → (nat_le n c || nat_lt 4096 len) ≡ true
over_piece n c len le = ap (λ b. b || nat_lt 4096 len) (over_client n c le)

pub over_length : (n c len : ℕ) → 4096 < len → (nat_le n c || nat_lt 4096 len) ≡ true
over_length n c len lt = grind (arith, nat_tests)

-- ---- an event that changes nothing

-- the sink is called, and the route server stays what it was
pub answers_by : {L : Type 0} (happens : L → Step → L → Type 0) (old : Core) (before : L) (new : Core) (after : L) (octets : List ℕ) (event : Event) (step : Step)
    → new ≡ old → happens before step after → ((x : Course) → x.core ≡ old → Answers octets event x (called step x)) → Continues happens old before new after (Answers octets event)
answers_by happens old before new after octets event step same there by =
    subst (λ (k : Core). Continues happens old before k after (Answers octets event)) (sym same)
    (goes happens old before old after (Answers octets event) (λ s. step ∷ s) (λ r. r) (λ first s l. (before, l, there)) (λ run h. h) (λ steps run h. by (course old steps run h) refl))

-- ---- other rules

rules_are : {L : Type 0} (happens : L → Step → L → Type 0) (old : Core) (before : L) (new : Core) (after : L) (octets : List ℕ) (answer : Result Unit RulesFault)
    → client_count new ≡ client_count old → happens before (Replaced answer) after
    → OnOk answer ((run : List Move) → Agrees old run → IsRuled octets new run)
    → IfErr answer (λ fault. (run : List Move) → Agrees old run → Refuses (config_in run) octets fault)
    → OnErr answer (new ≡ old)
    → Continues happens old before new after (Answers octets events.Rules)
rules_are happens old before new after octets (Ok done) count step ruled refused unchanged = record {
  on = λ first steps run h l.
      let r = ruled run h in
      record {
        steps = Replaced (Ok done) ∷ steps;
        run = Ruled r.config ∷ run;
        agrees = r.agrees;
        leads = (before, l, step);
        is = Rules r.config (course old steps run h) new (record { count = count; agrees = r.agrees }) r.replaces;
      };
}
rules_are happens old before new after octets (Err fault) count step ruled refused unchanged =
    answers_by happens old before new after octets events.Rules (Replaced (Err fault)) unchanged step (λ x is. Keeps fault x (refused x.run (subst (λ (k : Core). Agrees k x.run) is x.agrees)))

-- this text
pub rules_by : {L : Type 0} (happens : L → Step → L → Type 0) (old : Core) (before : L) (new : Core) (after : L) (octets text : List ℕ) (answer : Result Unit RulesFault)
    → octets ≡ text → client_count new ≡ client_count old → happens before (Replaced answer) after
    → OnOk answer ((run : List Move) → Agrees old run → IsRuled octets new run)
    → IfErr answer (λ fault. (run : List Move) → Agrees old run → Refuses (config_in run) octets fault)
    → OnErr answer (new ≡ old)
    → Continues happens old before new after (Answers text events.Rules)
rules_by happens old before new after octets text answer is count step ruled refused unchanged =
    subst (λ o. Continues happens old before new after (Answers o events.Rules)) is (rules_are happens old before new after octets answer count step ruled refused unchanged)

-- ---- a turn

-- those for which memory was refused are Established, and each stands once, the greatest first
refused_established : (core : Core) (run : List Move) (n : ℕ) → ((c : ℕ) → c < n → is_refused core c ≡ true → is_established run c ≡ true) → AreEstablished run n (refused_below core n)
refused_established core run zero up = tt
refused_established core run (suc c) up = go (is_refused core c) refl (refused_established core run c (λ d lt. up d (omega (arith, lt)))) where
  below_more : (n m : ℕ) (cs : List ℕ) → n ≤ m → AreEstablished run n cs → AreEstablished run m cs
  below_more n m [] le h = tt
  below_more n m (d ∷ cs) le h = (omega (arith, h.0, le), h.1, h.2)

  go : (b : Bool) → is_refused core c ≡ b → AreEstablished run c (refused_below core c) → AreEstablished run (suc c) (if b then c ∷ refused_below core c else refused_below core c)
  go true refused below = (omega arith, up c (omega arith) refused, below)
  go false done below = below_more c (suc c) (refused_below core c) (omega arith) below

pub told_more : {L : Type 0} (happens : L → Step → L → Type 0) (core : Core) (c : ℕ) (first before after : L) (steps : List Step)
    → (is_refused core c ≡ true → happens before (Memory c) after) → (is_refused core c ≡ false → after ≡ before)
    → Leads happens first (memories (refused_below core c) steps) before → Leads happens first (memories (refused_below core (suc c)) steps) after
told_more happens core c first before after steps refused done so = go (is_refused core c) refl where
  go : (b : Bool) → is_refused core c ≡ b → Leads happens first (memories (if b then c ∷ refused_below core c else refused_below core c) steps) after
  go true e = (before, so, refused e)
  go false e = subst (λ l. Leads happens first (memories (refused_below core c) steps) l) (sym (done e)) so

pub turned : {L : Type 0} (happens : L → Step → L → Type 0) (old : Core) (before : L) (new : Core) (after : L) → client_count new ≡ client_count old
    → ((run : List Move) → Agrees old run → Agrees new (Turned (refused_below new (client_count new)) ∷ run))
    → ((c : ℕ) (run : List Move) → c < client_count old → Agrees old run → is_refused new c ≡ true → is_established run c ≡ true)
    → ((first : L) (steps : List Step) → Leads happens first steps before → Leads happens first (memories (refused_below new (client_count new)) steps) after)
    → Continues happens old before new after (Answers [] events.Turn)
turned happens old before new after count agrees up told =
    let refused = refused_below new (client_count new) in
    goes happens old before new after (Answers [] events.Turn) (memories refused) (λ r. Turned refused ∷ r) told agrees
    (λ steps run h. Turns refused (course old steps run h) new (record { count = count; agrees = agrees run h }) (subst (λ m. AreEstablished run m refused) count
    (refused_established new run (client_count new) (λ c lt is. up c run (subst (λ m. c < m) count lt) h is))))

-- ---- octets that are lent

pub some_are : (octets : List ℕ) → (length octets == 0) ≡ false → octets ≢ []
some_are octets e none = absurd (let h : (length octets == 0) ≡ true = ap (λ l. length l == 0) none in grind (arith, nat_tests, e, h))

-- ---- the ends

-- what a route server answers about a client
pub record IsAsked (old new : Core) (c : ℕ) (wants : Bool) : Type 0 where
  pub owing : (run : List Move) → Agrees old run → wants ≡ (closes run c && (owed old c == 0))
  pub unchanged : (run : List Move) → Agrees old run → closes run c ≡ false → new ≡ old
  pub lends : (run : List Move) → Agrees old run → closes run c ≡ true → HasLent c old (lent_octets new c) new

some_owed : (b : Bool) (n : ℕ) → b ≡ true → false ≡ (b && (n == 0)) → n ≢ 0
some_owed true n closing is none = absurd (grind (arith, nat_tests, is, none))
some_owed false n closing is none = absurd (let f : false ≡ true = closing in cc)

pub kept : {L : Type 0} (happens : L → Step → L → Type 0) (old new : Core) (link : L) (c : ℕ) (wants : Bool) → IsAsked old new c wants → wants ≡ false → Continues happens old link new link (Ended c)
kept {L} happens old new link c wants asked not = record { on = λ first steps run h l. so first steps run h l (closes run c) refl } where
  so : (first : L) (steps : List Step) (run : List Move) (h : Agrees old run) → Leads happens first steps link → (b : Bool) → closes run c ≡ b → Reaches happens first new link (Ended c (course old steps run h))
  so first steps run h l false e =
      subst (λ (k : Core). Reaches happens first k link (Ended c (course old steps run h))) (sym (asked.unchanged run h e))
      (record { steps = steps; run = run; agrees = h; leads = l; is = Lasts (course old steps run h) e })
  so first steps run h l true e =
      let lent = asked.lends run h e in
      record {
        steps = steps;
        run = Began c ∷ run;
        agrees = lent.began run h;
        leads = l;
        is = Owes (course old steps run h) new lent e (some_owed (closes run c) (owed old c) e (sym not ∙ asked.owing run h));
      }

closing_by : (b t : Bool) → true ≡ (b && t) → (b ≡ true) × (t ≡ true)
closing_by true t is = (refl, sym is)
closing_by false t is = absurd (let f : true ≡ false = is in cc)

is_zero : (n : ℕ) → (n == 0) ≡ true → n ≡ 0
is_zero n e = grind (arith, nat_tests, e)

pub closed : {L : Type 0} (happens : L → Step → L → Type 0) (old asked new : Core) (before after : L) (c : ℕ) (wants : Bool) → IsAsked old asked c wants → wants ≡ true
    → client_count new ≡ client_count asked → ((run : List Move) → Agrees asked run → Agrees new (Left c ∷ run)) → LeavesOwed c asked new → happens before (End c) after
    → Continues happens old before new after (Ended c)
closed happens old asked new before after c wants by does count left owes step = record {
  on = λ first steps run h l.
      let closing = closing_by (closes run c) (owed old c == 0) (sym does ∙ by.owing run h) in
      let lent = by.lends run h closing.0 in
      let gone = left (Began c ∷ run) (lent.began run h) in
      record {
        steps = End c ∷ steps;
        run = Left c ∷ Began c ∷ run;
        agrees = gone;
        leads = (before, l, step);
        is = Closes (course old steps run h) asked new lent closing.0 (is_zero (owed old c) closing.1) (record { becomes = record { count = count; agrees = gone }; owed = owes });
      };
}

-- ---- so far, and the rest of the way

-- where offers go on with what room is left, they were the first of them
abbrev pub GivesOn : ℕ → ℕ → ℕ → Course → Course → Type 0
GivesOn c room left x y = (z : Course) → Gives c left y z → Gives c room x z

pub gives_more : (c room left taken : ℕ) (x y z : Course) → taken ≢ 0 → taken ≤ left → GivesOn c room left x y → Offers c left taken y z → GivesOn c room (left - taken) x z
gives_more c room left taken x y z some within so offers = λ w rest. so w (Goes_on left taken y z w (omega (arith, some)) within offers rest)

-- ---- what there is room for

either : (m n : ℕ) → (m ≤ n) ⊎ (n ≤ m)
either m n = grind arith

pub within_take : (octets : List ℕ) (room most : ℕ) → (room ≤ length octets → most ≡ room) → (length octets ≤ room → most ≡ length octets) → take most octets ≡ take room octets
within_take octets room most full all = elim (either room (length octets)) [
  | inl le ↦ ap (λ n. take n octets) (full le)
  | inr le ↦ ap (λ n. take n octets) (all le) ∙ (take_all (length octets) octets (omega arith) ∙ sym (take_all room octets le))
]
