-- A message that comes in several pieces, and is made whole by the front of the last.
use Rattle.std.proofs.Common.{◌≡◌, ◌<◌, ◌≤◌, ◌-◌, ◌+◌, ◌==◌, ◌⊎◌, inl, inr, ℕ, Bool, true, false, List, [], ◌∷◌, ◌++◌, length, drop, take, refl, sym, ◌∙◌, ap, subst, arith, length-append}
use Rattle.std.specs.Prelude.{Some, Result, Ok, Err, nat_lt, slice_get, if◌then◌else◌}
use Rattle.std.specs.Global.{Vec}
use Rattle.std.proofs.lemmas.List.{append-nil, take-append-le}
use Rattle.std.proofs.lemmas.Bool.Decides.{nat_tests}
use Rattle.std.proofs.Math.Seq.{drop-append_seam}
use Rattle.rs_octets.specs.declared.heads.Allowed.{Allowed}
use Rattle.rs_octets.specs.declared.heads.Head.{Head}
use Rattle.rs_octets.specs.declared.heads.HeaderFault.{HeaderFault}
use Rattle.rs_octets.specs.declared.heads.Kind.{Kind}
use Rattle.rs_octets.specs.declared.fronts.Front.{Front}
use Rattle.rs_octets.specs.declared.fronts.Front.TheVariants as fronts
use Rattle.rs_octets.specs.Headers.{header_of}
use Rattle.rs_octets.specs.Fronts.{IsFront, BeginsWith, BeginsFaulty, Wants, wanted_by}
use Rattle.rs_octets.specs.Messages.{heard_of, newly_heard, rest_of, header_fault_of}
use Rattle.rs_octets.proofs.Cut.{pieces_join, alone, heard_alone}
use Rattle.rs_octets.proofs.GoodHeaders.{of_type_is}
use Rattle.rs_octets.proofs.Pieces.{newly_is}
use Rattle.rs_octets.proofs.Fronting.{message_in_front, fault_in_front, waits, still_waits}
use Rattle.rs_session.specs.Sessions.{is_live}
use Rattle.rs_policy.specs.Configuration.{Configuration}
use Rattle.rs_session.specs.declared.heard.Heard.TheVariants as heard
use Rattle.rs_core.specs.Session.Hearing.{Hearing, allowed_in, session_in, state_in, without_change, body_said, takes_in, with_octets, hears}
use Rattle.rs_core.specs.Run.Parts.{IsWanted, FillsUp, HasHeardFront, IsBetween}
use Rattle.rs_core.specs.Run.Agreeing.{Knows, Waits, AgreesAt}
use Rattle.rs_core.specs.declared.route_server.Core.{Core}
use Rattle.rs_core.proofs.Run.OtherRules.{unmoved}
use Rattle.rs_core.proofs.Session.Cutting.{with_others, hears_as, hears_message, hears_fault, over, fault_ends}

-- ---- what is wanted is no message and no fault

cons_nil : {A : Type 0} (x : A) (xs : List A) → ◌≡◌ {A = List A} (x ∷ xs) [] → ⊥
cons_nil x xs e = cc

no_message : (a : Allowed) (octets : List ℕ) (kind : Kind) (body rest : List ℕ) → BeginsWith a octets kind body rest → heard_of a octets ≡ [] → ⊥
no_message a octets kind body rest at e = cons_nil _ _ (sym (message_in_front a octets kind body rest at).0 ∙ e)

no_fault : (a : Allowed) (octets : List ℕ) (fault : HeaderFault) → BeginsFaulty a octets fault → heard_of a octets ≡ [] → ⊥
no_fault a octets fault at e = cons_nil _ _ (sym (fault_in_front a octets fault at).0 ∙ e)

pub not_wanted : (a : Allowed) (octets : List ℕ) (front : Front) → IsFront a octets front → ((k : ℕ) → front ≡ fronts.Wants k → ⊥) → (n : ℕ) → Wants a octets n → ⊥
not_wanted a octets (fronts.Message kind body rest) is not n wants = no_message a octets kind body.now rest.now is (waits a octets n wants).0
not_wanted a octets (fronts.Fault fault) is not n wants = no_fault a octets fault is (waits a octets n wants).0
not_wanted a octets (fronts.Wants k) is not n wants = absurd (not k refl)

-- ---- a message that was filled up has just its octets

none_long : (octets : List ℕ) → length octets ≤ 0 → octets ≡ []
none_long [] le = refl
none_long (x ∷ xs) le = absurd (omega (arith, le))

short_or_not : (n : ℕ) → (nat_lt n 19 ≡ true) ⊎ (nat_lt n 19 ≡ false)
short_or_not n = go (nat_lt n 19) refl where
  go : (b : Bool) → nat_lt n 19 ≡ b → (nat_lt n 19 ≡ true) ⊎ (nat_lt n 19 ≡ false)
  go true e = inl e
  go false e = inr e

-- the head of a good header says how long the message is
length_said : (n size : ℕ) (head : Result Head HeaderFault) (size_of : ℕ) (kind : Kind) → 0 < n → n ≡ wanted_by size head → head ≡ Ok (record { length = size_of; kind = kind }) → size + n ≡ size_of
length_said n size (Ok head) size_of kind some e is = let f : head.length ≡ size_of = (cc) in omega (arith, some, e, f)
length_said n size (Err fault) size_of kind some e is = absurd (omega (arith, some, e))

pub just_it : (a : Allowed) (octets : List ℕ) (kind : Kind) (body rest : List ℕ) → IsWanted a octets → BeginsWith a octets kind body rest → rest ≡ []
just_it a octets kind body rest w at = elim (nat_cases (length w.last) w.n w.within) [
  | inl less ↦ absurd (no_message a octets kind body rest at (subst (λ o. heard_of a o ≡ []) (sym w.whole) (waits a (w.before ++ w.last) (w.n - length w.last) (still_waits a w.before w.last w.n w.wants less)).0))
  | inr all ↦ none_long rest (elim (short_or_not (length w.before)) [
    | inl short ↦
        let n_is : w.n ≡ 19 - length w.before = w.wants.1 ∙ ap (λ b. if b then 19 - length w.before else wanted_by (length w.before) (header_of a (take 19 w.before))) short in
        let lt : length w.before < 19 = grind (arith, nat_tests, short) in
        omega (arith, sizes, all, n_is, lt, at.is.0)
    | inr long ↦
        let le : 19 ≤ length w.before = grind (arith, nat_tests, long) in
        let n_is : w.n ≡ wanted_by (length w.before) (header_of a (take 19 w.before)) =
        w.wants.1 ∙ ap (λ b. if b then 19 - length w.before else wanted_by (length w.before) (header_of a (take 19 w.before))) long in
        let heads : take 19 w.before ≡ take 19 at.message =
        sym (take-append-le 19 w.before w.last le) ∙ ap (take 19) (sym w.whole ∙ at.whole) ∙ take-append-le 19 at.message rest at.is.0 in
        let said : length w.before + w.n ≡ length at.message = length_said w.n (length w.before) (header_of a (take 19 w.before)) (length at.message) kind w.wants.0 n_is (ap (header_of a) heads ∙ at.is.1) in
        omega (arith, sizes, all, said)
  ])
] where
  sizes : length at.message + length rest ≡ length w.before + length w.last
  sizes = sym (length-append at.message rest) ∙ ap length (sym at.whole ∙ w.whole) ∙ length-append w.before w.last

  nat_cases : (m n : ℕ) → m ≤ n → (m < n) ⊎ (m ≡ n)
  nat_cases m n le = go (nat_lt m n) refl where
    go : (b : Bool) → nat_lt m n ≡ b → (m < n) ⊎ (m ≡ n)
    go true e = inl (grind (arith, nat_tests, e))
    go false e = inr (grind (arith, nat_tests, e, le))

-- ---- what waits says nothing

pub nothing_new : (a : Allowed) (octets : List ℕ) → newly_heard a octets [] ≡ []
nothing_new a octets =
    ap (λ l. drop (length (heard_of a octets)) (heard_of a l)) (append-nil octets)
    ∙ ap (drop (length (heard_of a octets))) (sym (append-nil (heard_of a octets))) ∙ drop-append_seam (heard_of a octets) []

pub waiting_silent : (a : Allowed) (octets : List ℕ) → header_fault_of a (rest_of a octets) ≡ [] → heard_of a (rest_of a octets) ≡ []
waiting_silent a octets good = ap (heard_of a) (sym (append-nil (rest_of a octets))) ∙ sym (newly_is a octets [] good) ∙ nothing_new a octets

-- octets behind what waits are heard with it
pub newly_waiting : (s : Configuration) (c : ℕ) (buffer front : List ℕ) (h : Hearing) → is_live (state_in s c h) ≡ true → Waits s c buffer h
    → newly_heard (allowed_in s) h.octets front ≡ heard_of (allowed_in s) (buffer ++ front)
newly_waiting s c buffer front h live w = newly_is (allowed_in s) h.octets front (w.good live) ∙ ap (λ r. heard_of (allowed_in s) (r ++ front)) (sym (w.rest live))

pub rest_waiting : (s : Configuration) (c : ℕ) (buffer front : List ℕ) (h : Hearing) → is_live (state_in s c h) ≡ true → Waits s c buffer h
    → rest_of (allowed_in s) (h.octets ++ front) ≡ rest_of (allowed_in s) (buffer ++ front)
rest_waiting s c buffer front h live w = (pieces_join (allowed_in s) h.octets front).1 ∙ ap (λ r. rest_of (allowed_in s) (r ++ front)) (sym (w.rest live))

-- a message or a fault stands in the buffer only where something was appended to what waited
pub was_filled : (s : Configuration) (c : ℕ) (buffer new : List ℕ) (h : Hearing) (front : List ℕ) → is_live (state_in s c h) ≡ true → Waits s c buffer h → new ≡ buffer ++ front
    → (front ≡ []) ⊎ IsWanted (allowed_in s) new → (heard_of (allowed_in s) new ≡ [] → ⊥) → IsWanted (allowed_in s) new
was_filled s c buffer new h front live w behind (inl none) some =
    absurd (some (ap (heard_of (allowed_in s)) (behind ∙ ap (λ f. buffer ++ f) none ∙ append-nil buffer ∙ w.rest live) ∙ waiting_silent (allowed_in s) h.octets (w.good live)))
was_filled s c buffer new h front live w behind (inr is) some = is

-- a message that stands there is all of it, and all that is new
pub newly_message : (s : Configuration) (c : ℕ) (h : Hearing) (buffer new piece rest : List ℕ) (kind : Kind) (body behind : List ℕ) → is_live (state_in s c h) ≡ true → Waits s c buffer h
    → (fills : FillsUp (allowed_in s) buffer piece new rest) → (at : BeginsWith (allowed_in s) new kind body behind)
    → (new ≡ at.message) × (newly_heard (allowed_in s) h.octets fills.front ≡ Ok at.message ∷ [])
newly_message s c h buffer new piece rest kind body behind live w fills at =
    let a = allowed_in s in
    let filled = was_filled s c buffer new h fills.front live w fills.behind fills.wanted (no_message a new kind body behind at) in
    let whole : new ≡ at.message = at.whole ∙ ap (λ r. at.message ++ r) (just_it a new kind body behind filled at) ∙ append-nil at.message in
    (whole, newly_waiting s c buffer fills.front h live w ∙ ap (heard_of a) (sym fills.behind ∙ whole) ∙ heard_alone a at.message (of_type_is a kind at.message at.is))

-- ---- what the front of a piece makes of it

pub waiting_on : (core : Core) (s : Configuration) (c : ℕ) (h : Hearing) (buffer new piece rest : List ℕ) (n : ℕ) → is_live (state_in s c h) ≡ true → Waits s c buffer h
    → FillsUp (allowed_in s) buffer piece new rest → Wants (allowed_in s) new n → Knows core s c h → HasHeardFront core s c h piece new rest
waiting_on core s c h buffer new piece rest n live w fills wants knows =
    let a = allowed_in s in
    let it = waits a new n wants in
    let left : rest_of a (h.octets ++ fills.front) ≡ new = rest_waiting s c buffer fills.front h live w ∙ ap (rest_of a) (sym fills.behind) ∙ it.1 in
    let new_is = newly_waiting s c buffer fills.front h live w ∙ ap (heard_of a) (sym fills.behind) ∙ it.0 in
    let e = hears_as s c fills.front [] h new_is in
    record {
      front = fills.front;
      whole = fills.whole;
      once = subst (λ (ms : List (Result (List ℕ) HeaderFault)). length ms ≤ 1) (sym new_is) (omega arith);
      knows = subst (λ k. Knows core s c k) (sym e) (with_others core s c (h.octets ++ fills.front) h knows);
      waits = subst (λ k. Waits s c new k) (sym e) (record { rest = λ _. sym left; good = λ _. ap (header_fault_of a) left ∙ it.2 });
      all = elim fills.enough [ inl none ↦ inl none | inr not ↦ absurd (not n wants) ];
    }

pub waiting_fault : (core : Core) (s : Configuration) (c : ℕ) (h : Hearing) (buffer new piece rest : List ℕ) (fault : HeaderFault) → is_live (state_in s c h) ≡ true → Waits s c buffer h
    → FillsUp (allowed_in s) buffer piece new rest → BeginsFaulty (allowed_in s) new fault → Knows core s c (takes_in s c (without_change (heard.Header fault)) h)
    → HasHeardFront core s c h piece [] rest
waiting_fault core s c h buffer new piece rest fault live w fills faulty knows =
    let a = allowed_in s in
    let new_is = newly_waiting s c buffer fills.front h live w ∙ ap (heard_of a) (sym fills.behind) ∙ (fault_in_front a new fault faulty).0 in
    let e = hears_fault s c h fills.front fault live new_is in
    let next : Hearing = takes_in s c (without_change (heard.Header fault)) h in
    record {
      front = fills.front;
      whole = fills.whole;
      once = subst (λ (ms : List (Result (List ℕ) HeaderFault)). length ms ≤ 1) (sym new_is) (omega arith);
      knows = subst (λ k. Knows core s c k) (sym e) (with_others core s c (h.octets ++ fills.front) next knows);
      waits = subst (λ k. Waits s c [] k) (sym e) (over s c [] (with_octets (h.octets ++ fills.front) next) (fault_ends (session_in s c) fault h.items));
      all = inr refl;
    }

pub waiting_message : (core : Core) (s : Configuration) (c : ℕ) (h : Hearing) (buffer new piece rest : List ℕ) (kind : Kind) (body behind : List ℕ) → is_live (state_in s c h) ≡ true
    → Waits s c buffer h → FillsUp (allowed_in s) buffer piece new rest → BeginsWith (allowed_in s) new kind body behind
    → Knows core s c (takes_in s c (body_said s c h kind body) h) → HasHeardFront core s c h piece [] rest
waiting_message core s c h buffer new piece rest kind body behind live w fills at knows =
    let a = allowed_in s in
    let is = newly_message s c h buffer new piece rest kind body behind live w fills at in
    let left : rest_of a (h.octets ++ fills.front) ≡ [] =
    rest_waiting s c buffer fills.front h live w ∙ ap (rest_of a) (sym fills.behind ∙ is.0) ∙ (alone a at.message (of_type_is a kind at.message at.is)).1 in
    let e = hears_message s c h kind body fills.front at.message at.is at.body_is live is.1 in
    let next : Hearing = takes_in s c (body_said s c h kind body) h in
    record {
      front = fills.front;
      whole = fills.whole;
      once = subst (λ (ms : List (Result (List ℕ) HeaderFault)). length ms ≤ 1) (sym is.1) (omega arith);
      knows = subst (λ k. Knows core s c k) (sym e) (with_others core s c (h.octets ++ fills.front) next knows);
      waits = subst (λ k. Waits s c [] k) (sym e) (record { rest = λ _. sym left; good = λ _. ap (header_fault_of a) left });
      all = inr refl;
    }

-- ---- the buffer is put back

-- what waits of a piece where nothing of it is left
pub front_agrees : (mid new : Core) (s : Configuration) (c : ℕ) (h : Hearing) (piece buffer rest : List ℕ) → new.sessions ≡ mid.sessions → new.ribs ≡ mid.ribs → new.watched ≡ mid.watched
    → ((x : Vec ℕ) → slice_get new.buffers.items c ≡ Some x → x.items ≡ buffer) → rest ≡ [] → HasHeardFront mid s c h piece buffer rest → AgreesAt new s c (hears s c piece h)
front_agrees mid new s c h piece buffer rest sessions ribs watched put none was =
    let whole : was.front ≡ piece = sym (was.whole ∙ ap (λ r. was.front ++ r) none ∙ append-nil was.front) in
    subst (λ p. AgreesAt new s c (hears s c p h)) whole (record {
      knows = unmoved mid new s c (hears s c was.front h) sessions ribs watched was.knows;
      waits = λ x e. subst (λ b. Waits s c b (hears s c was.front h)) (sym (put x e)) was.waits;
    })

some_left : (rest buffer : List ℕ) → (length rest == 0) ≡ false → (rest ≡ []) ⊎ (buffer ≡ []) → buffer ≡ []
some_left rest buffer e (inl none) = absurd (let f : true ≡ false = sym (ap (λ r. length r == 0) none) ∙ e in cc)
some_left rest buffer e (inr empty) = empty

-- nothing waits where the piece has more
pub front_between : (mid new : Core) (s : Configuration) (c : ℕ) (h : Hearing) (piece buffer rest : List ℕ) → new.sessions ≡ mid.sessions → new.ribs ≡ mid.ribs → new.watched ≡ mid.watched
    → ((x : Vec ℕ) → slice_get new.buffers.items c ≡ Some x → x.items ≡ buffer) → (length rest == 0) ≡ false → (was : HasHeardFront mid s c h piece buffer rest)
    → IsBetween new s c (hears s c was.front h)
front_between mid new s c h piece buffer rest sessions ribs watched put some was =
    let none = some_left rest buffer some was.all in record {
      knows = unmoved mid new s c (hears s c was.front h) sessions ribs watched was.knows;
      rest = λ live. sym (was.waits.rest live) ∙ none;
      empty = λ live x e. put x e ∙ none;
    }
