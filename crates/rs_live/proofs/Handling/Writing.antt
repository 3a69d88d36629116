-- What waits for clients is written, one call of the ports after the other, and their connections are closed.
use Rattle.std.proofs.Common.{◌≡◌, ◌<◌, ◌≤◌, ◌+◌, ℕ, zero, suc, List, [], ◌∷◌, length, set, take, drop, ◌++◌, Option, Some, None, Result, Err, refl, sym, subst, ap, ◌∙◌, arith}
use Rattle.std.specs.Prelude.{IsOk, IsSome}
use Rattle.std.proofs.lemmas.List.{append-nil}
use Rattle.rs_core.specs.Drives.Steps.{Step, Offer}
use Rattle.rs_live.specs.declared.ports.PortFault.{PortFault}
use Rattle.rs_live.specs.declared.ports.Line.TheVariants as lines
use Rattle.rs_live.specs.declared.live_link.Phase.{Phase}
use Rattle.rs_live.specs.Calls.{Call, Wrote, Closed, Printed}
use Rattle.rs_live.specs.Operations.{Operation, Asked, WroteTo, WroteRest, ClosedRest, Did, calls}
use Rattle.rs_live.specs.Keys.{key_of}
use Rattle.rs_live.specs.Waiting.{waiting, rest_key, rest}
use Rattle.rs_live.specs.Sending.{taken, Writes, NoWrite, OneMore, Sent, Broke}
use Rattle.rs_live.specs.Keeping.{Held, Agrees, at, change, held_by, nothing, with_live, with_rest}
use Rattle.rs_live.specs.Handled.{IsLossOf, AreHandled, Takes, Sends, Breaks, SendsRest, Drops, Closes, EndByWrite, ByWrite, Has, AreKept, AreBroken}
use Rattle.rs_live.proofs.Changing.{ended, no_some}
use Rattle.rs_live.proofs.Agreeing.Connections.{agrees_offer, handed_more, agrees_wrote, taken_from, agrees_wrote_rest, taken_from_rest, agrees_closed}
use Rattle.rs_live.proofs.Places.{change_again, unchanged}
use Rattle.rs_live.proofs.Handling.Calls.{AsksMore, AsksTwo, so, did, more, two_more}
use Rattle.rs_live.proofs.Handling.Connections.{lost_so}

-- an offer takes some octets
pub takes : {P : Type 0} (asked : P → List Call → Type 0) (held : List Held) (phase : Phase) (c n : ℕ) (octets : List ℕ) (p : P) → (length held ≤ c → take n octets ≡ []) → ((held_by c held).key ≡ None → n ≡ 0) → (IsSome (held_by c held).key → (held_by c held).waiting ≡ [] → n ≡ 0 → octets ≡ []) → Has asked p (AreKept held phase) → Has asked p (λ operations. AreKept (change c (handed_more (take n octets)) held) phase (Did (Offer c octets (Some n)) ∷ operations))
takes asked held phase c n octets p past none some h = did asked (AreKept held phase) (AreKept (change c (handed_more (take n octets)) held) phase) p (Offer c octets (Some n))
    (λ operations k. (Takes c n octets operations (λ e. none (sym (ap (λ x. x.key) (k.1.same c)) ∙ e)) (λ has waits. some (subst (λ o. IsSome o) (ap (λ x. x.key) (k.1.same c)) has) (sym (ap (λ x. x.waiting) (k.1.same c)) ∙ waits)) k.0, agrees_offer held phase c n octets operations past k.1)) h

-- operations after which this waits, whose calls are these
pub record Done (cs : List Call) (Is : List Operation → Type 0) : Type 0 where
  pub operations : List Operation
  pub same : calls operations ≡ cs
  pub are : Is operations

-- each write of a connection is an operation for its client
carried : (D : ℕ → List ℕ → Result (Option ℕ) PortFault → List Operation → List Operation) → ((k : ℕ) (octets : List ℕ) (answer : Result (Option ℕ) PortFault) (operations : List Operation) → calls (D k octets answer operations) ≡ Wrote k octets answer ∷ calls operations) →
    (Is : List ℕ → List Operation → Type 0) (key : Option ℕ) (start : List Call) (first : List ℕ) → ((k : ℕ) (answer : Result (Option ℕ) PortFault) (operations : List Operation) (waits : List ℕ) → key ≡ Some k → IsOk answer → Is waits operations → Is (drop (taken answer) waits) (D k waits answer operations)) →
    (cs : List Call) (waits : List ℕ) → Writes key start first cs waits → Done start (Is first) → Done cs (Is waits)
carried D same Is key start first step _ _ NoWrite h = h
carried D same Is key start first step _ _ (OneMore k answer cs waits e ok w) h = let d = carried D same Is key start first step cs waits w h in record {
  operations = D k waits answer d.operations;
  same = same k waits answer d.operations ∙ ap (λ x. Wrote k waits answer ∷ x) d.same;
  are = step k answer d.operations waits e ok d.are;
}

-- what waits, of one client
abbrev pub waits_so : List ℕ → Held → Held
waits_so octets h = with_live h.key octets h

abbrev pub rests_so : List ℕ → Held → Held
rests_so octets h = with_rest h.rest_key octets h

sent_one : (held : List Held) (phase : Phase) (c k : ℕ) (answer : Result (Option ℕ) PortFault) (operations : List Operation) (waits : List ℕ) → (held_by c (change c (waits_so waits) held)).key ≡ Some k → (held_by c (change c (waits_so waits) held)).waiting ≡ waits → IsOk answer → AreKept (change c (waits_so waits) held) phase operations → AreKept (change c (waits_so (drop (taken answer) waits)) held) phase (WroteTo c k waits answer ∷ operations)
sent_one held phase c k answer operations waits key all ok h =
    let w : waiting c operations ≡ waits = ap (λ x. x.waiting) (h.1.same c) ∙ all in (
      subst (λ o. AreHandled (WroteTo c k o answer ∷ operations)) w (Sends c k answer operations (ap (λ x. x.key) (h.1.same c) ∙ key) ok h.0),
      subst (λ hs. Agrees hs phase (WroteTo c k waits answer ∷ operations)) (change_again (waits_so waits) (taken_from answer) (waits_so (drop (taken answer) waits)) held c (λ x. refl)) (agrees_wrote (change c (waits_so waits) held) phase c k waits answer operations h.1),
    )

sent_rest : (held : List Held) (phase : Phase) (c k : ℕ) (answer : Result (Option ℕ) PortFault) (operations : List Operation) (waits : List ℕ) → (held_by c (change c (rests_so waits) held)).rest_key ≡ Some k → (held_by c (change c (rests_so waits) held)).rest ≡ waits → IsOk answer → AreKept (change c (rests_so waits) held) phase operations → AreKept (change c (rests_so (drop (taken answer) waits)) held) phase (WroteRest c k waits answer ∷ operations)
sent_rest held phase c k answer operations waits key all ok h =
    let w : rest c operations ≡ waits = ap (λ x. x.rest) (h.1.same c) ∙ all in (
      subst (λ o. AreHandled (WroteRest c k o answer ∷ operations)) w (SendsRest c k answer operations (ap (λ x. x.rest_key) (h.1.same c) ∙ key) ok h.0),
      subst (λ hs. Agrees hs phase (WroteRest c k waits answer ∷ operations)) (change_again (rests_so waits) (taken_from_rest answer) (rests_so (drop (taken answer) waits)) held c (λ x. refl)) (agrees_wrote_rest (change c (rests_so waits) held) phase c k waits answer operations h.1),
    )

-- a place that is there has what it was changed to
there : (held : List Held) (c : ℕ) (k : ℕ) (f : Held → Held) → (held_by c held).key ≡ Some k → held_by c (change c f held) ≡ f (held_by c held)
there [] c k f e = absurd (no_key c e)
  where
    no_key : (c : ℕ) → (held_by c []).key ≡ Some k → ⊥
    no_key zero i = cc
    no_key (suc c) i = cc
there (h ∷ held) zero k f e = refl
there (h ∷ held) (suc c) k f e = there held c k f e

there_rest : (held : List Held) (c : ℕ) (k : ℕ) (f : Held → Held) → (held_by c held).rest_key ≡ Some k → held_by c (change c f held) ≡ f (held_by c held)
there_rest [] c k f e = absurd (no_key c e)
  where
    no_key : (c : ℕ) → (held_by c []).rest_key ≡ Some k → ⊥
    no_key zero i = cc
    no_key (suc c) i = cc
there_rest (h ∷ held) zero k f e = refl
there_rest (h ∷ held) (suc c) k f e = there_rest held c k f e

sent_all : (held : List Held) (phase : Phase) (c : ℕ) (operations : List Operation) → AreKept held phase operations → (cs : List Call) (waits : List ℕ) → Writes (held_by c held).key (calls operations) (held_by c held).waiting cs waits → Done cs (AreKept (change c (waits_so waits) held) phase)
sent_all held phase c operations h cs waits w = carried (λ k octets answer ds. WroteTo c k octets answer ∷ ds) (λ k octets answer ds. refl) (λ o ds. AreKept (change c (waits_so o) held) phase ds) (held_by c held).key (calls operations) (held_by c held).waiting
    (λ k answer ds o e ok x. sent_one held phase c k answer ds o (ap (λ y. y.key) (there held c k (waits_so o) e) ∙ e) (ap (λ y. y.waiting) (there held c k (waits_so o) e)) ok x) cs waits w
    (record { operations = operations; same = refl; are = subst (λ hs. AreKept hs phase operations) (sym (unchanged (waits_so (held_by c held).waiting) held c refl)) h })

rest_all : (held : List Held) (phase : Phase) (c : ℕ) (operations : List Operation) → AreKept held phase operations → (cs : List Call) (waits : List ℕ) → Writes (held_by c held).rest_key (calls operations) (held_by c held).rest cs waits → Done cs (AreKept (change c (rests_so waits) held) phase)
rest_all held phase c operations h cs waits w = carried (λ k octets answer ds. WroteRest c k octets answer ∷ ds) (λ k octets answer ds. refl) (λ o ds. AreKept (change c (rests_so o) held) phase ds) (held_by c held).rest_key (calls operations) (held_by c held).rest
    (λ k answer ds o e ok x. sent_rest held phase c k answer ds o (ap (λ y. y.rest_key) (there_rest held c k (rests_so o) e) ∙ e) (ap (λ y. y.rest) (there_rest held c k (rests_so o) e)) ok x) cs waits w
    (record { operations = operations; same = refl; are = subst (λ hs. AreKept hs phase operations) (sym (unchanged (rests_so (held_by c held).rest) held c refl)) h })

-- what waits for a client was written, and this waits then
pub sends_all : {P : Type 0} (asked : P → List Call → Type 0) (held : List Held) (phase : Phase) (c : ℕ) (key : Option ℕ) (first : List ℕ) (a b : P) (Is : List ℕ → Type 0) → (held_by c held).key ≡ key → (held_by c held).waiting ≡ first → ((cs : List Call) → asked a cs → Sent asked key cs first b Is) → Has asked a (AreKept held phase) → (waits : List ℕ) × (Is waits × Has asked b (AreKept (change c (waits_so waits) held) phase))
sends_all asked held phase c key first a b Is e o sent h =
    let s = sent (calls h.operations) h.were in
    let d = sent_all held phase c h.operations h.are s.calls s.waiting (subst (λ k. Writes k (calls h.operations) (held_by c held).waiting s.calls s.waiting) (sym e) (subst (λ w. Writes key (calls h.operations) w s.calls s.waiting) (sym o) s.writes)) in
    (s.waiting, (s.is, record { operations = d.operations; are = d.are; were = subst (λ cs. asked b cs) (sym d.same) s.were }))

pub sends_rest : {P : Type 0} (asked : P → List Call → Type 0) (held : List Held) (phase : Phase) (c : ℕ) (key : Option ℕ) (first : List ℕ) (a b : P) (Is : List ℕ → Type 0) → (held_by c held).rest_key ≡ key → (held_by c held).rest ≡ first → ((cs : List Call) → asked a cs → Sent asked key cs first b Is) → Has asked a (AreKept held phase) → (waits : List ℕ) × (Is waits × Has asked b (AreKept (change c (rests_so waits) held) phase))
sends_rest asked held phase c key first a b Is e o sent h =
    let s = sent (calls h.operations) h.were in
    let d = rest_all held phase c h.operations h.are s.calls s.waiting (subst (λ k. Writes k (calls h.operations) (held_by c held).rest s.calls s.waiting) (sym e) (subst (λ w. Writes key (calls h.operations) w s.calls s.waiting) (sym o) s.writes)) in
    (s.waiting, (s.is, record { operations = d.operations; are = d.are; were = subst (λ cs. asked b cs) (sym d.same) s.were }))

breaking : (c key : ℕ) (step : Step) (operations : List Operation) → IsLossOf c step → EndByWrite c key operations → AreHandled (Did step ∷ Asked (Closed key) ∷ Asked (Printed (lines.Lost c)) ∷ operations)
breaking c key step _ is (ByWrite fault operations of handled) = Breaks c key fault step operations of is handled

-- the core hears of a client's loss where a write of what waits for it failed
pub breaks_down : {P : Type 0} (asked : P → List Call → Type 0) (held : List Held) (phase : Phase) (c key : ℕ) (step : Step) (a b : P) → AsksTwo asked a (Printed (lines.Lost c)) (Closed key) b → IsLossOf c step → Has asked a (AreBroken c key held phase) → Has asked b (λ operations. AreKept (change c (with_live None []) held) phase (Did step ∷ operations))
breaks_down asked held phase c key step a b m is h = two_more asked (AreBroken c key held phase) (λ operations. AreKept (change c (with_live None []) held) phase (Did step ∷ operations)) a b (Printed (lines.Lost c)) (Closed key) m
    (λ operations k. (breaking c key step operations is k.0, lost_so held phase c key step operations is k.1)) h

-- the last write of what waits failed
pub breaks_all : {P : Type 0} (asked : P → List Call → Type 0) (held : List Held) (phase : Phase) (c k : ℕ) (key : Option ℕ) (first : List ℕ) (a b : P) (was : List ℕ) → (held_by c held).key ≡ key → (held_by c held).waiting ≡ first → ((cs : List Call) → asked a cs → Broke asked k key cs first b was) → Has asked a (AreKept held phase) → Has asked b (AreBroken c k (change c (waits_so was) held) phase)
breaks_all asked held phase c k key first a b was e o broke h =
    let br = broke (calls h.operations) h.were in
    let fault = br.1.0 in
    let s = br.1.1 in
    let d = sent_all held phase c h.operations h.are s.calls s.waiting (subst (λ y. Writes y (calls h.operations) (held_by c held).waiting s.calls s.waiting) (sym e) (subst (λ w. Writes key (calls h.operations) w s.calls s.waiting) (sym o) s.writes)) in
    let at = there held c k (waits_so s.waiting) (e ∙ br.0) in
    let of : key_of c d.operations ≡ Some k = ap (λ x. x.key) (d.are.1.same c) ∙ ap (λ x. x.key) at ∙ e ∙ br.0 in
    let w : was ≡ waiting c d.operations = s.is ∙ sym (ap (λ x. x.waiting) (d.are.1.same c) ∙ ap (λ x. x.waiting) at) in
    let agreed : Agrees (change c (waits_so s.waiting) held) phase (WroteTo c k (waiting c d.operations) (Err fault) ∷ d.operations) =
    subst (λ hs. Agrees hs phase (WroteTo c k (waiting c d.operations) (Err fault) ∷ d.operations)) (change_again (waits_so s.waiting) (taken_from (Err fault)) (waits_so s.waiting) held c (λ x. refl)) (agrees_wrote (change c (waits_so s.waiting) held) phase c k (waiting c d.operations) (Err fault) d.operations d.are.1) in
    record {
      operations = WroteTo c k (waiting c d.operations) (Err fault) ∷ d.operations;
      are = (ByWrite fault d.operations of d.are.0, subst (λ y. Agrees (change c (waits_so y) held) phase (WroteTo c k (waiting c d.operations) (Err fault) ∷ d.operations)) (sym s.is) agreed);
      were = subst (λ y. asked b (Wrote k y (Err fault) ∷ calls d.operations)) w (subst (λ cs. asked b (Wrote k was (Err fault) ∷ cs)) (sym d.same) s.were);
    }

rest_as : (held : List Held) (phase : Phase) (c : ℕ) (operations : List Operation) (key now_key : Option ℕ) (out now : List ℕ) → now_key ≡ key → now ≡ out → Agrees (change c (with_rest key out) held) phase operations → Agrees (change c (with_rest now_key now) held) phase operations
rest_as held phase c operations key now_key out now e o h = subst (λ k. Agrees (change c (with_rest k now) held) phase operations) (sym e) (subst (λ w. Agrees (change c (with_rest key w) held) phase operations) (sym o) h)

-- the connection of an ended session is closed
pub closes : {P : Type 0} (asked : P → List Call → Type 0) (held : List Held) (phase : Phase) (c k : ℕ) (key : Option ℕ) (out : List ℕ) (a b : P) → key ≡ None → out ≡ [] → (held_by c held).rest_key ≡ Some k → AsksMore asked a (Closed k) b → Has asked a (AreKept held phase) → Has asked b (AreKept (change c (with_rest key out) held) phase)
closes asked held phase c k key out a b none empty e m h = record {
  operations = ClosedRest c k ∷ h.operations;
  are = (Closes c k h.operations (ap (λ x. x.rest_key) (h.are.1.same c) ∙ e) h.are.0, rest_as held phase c (ClosedRest c k ∷ h.operations) None key [] out none empty (agrees_closed held phase c k h.operations h.are.1));
  were = m (calls h.operations) h.were;
}

-- the rest was written
pub rests_written : {P : Type 0} (asked : P → List Call → Type 0) (held : List Held) (phase : Phase) (c : ℕ) (key now_key : Option ℕ) (first now : List ℕ) (a b : P) → (held_by c held).rest_key ≡ key → (held_by c held).rest ≡ first → now_key ≡ key → ((cs : List Call) → asked a cs → Sent asked key cs first b (λ w. now ≡ w)) → Has asked a (AreKept held phase) → Has asked b (AreKept (change c (with_rest now_key now) held) phase)
rests_written asked held phase c key now_key first now a b e o same sent h =
    let w = sends_rest asked held phase c key first a b (λ w. now ≡ w) e o sent h in
    let at : with_rest (held_by c held).rest_key w.0 (held_by c held) ≡ with_rest now_key now (held_by c held) = ap (λ k. with_rest k w.0 (held_by c held)) (e ∙ sym same) ∙ ap (λ x. with_rest now_key x (held_by c held)) (sym w.1.0) in
    so asked (AreKept (change c (rests_so w.0) held) phase) (AreKept (change c (with_rest now_key now) held) phase) b (λ operations k. subst (λ x. AreKept (set held c x) phase operations) at k) w.1.1

-- what waits was written
pub waits_written : {P : Type 0} (asked : P → List Call → Type 0) (held : List Held) (phase : Phase) (c : ℕ) (key now_key : Option ℕ) (first now : List ℕ) (a b : P) → (held_by c held).key ≡ key → (held_by c held).waiting ≡ first → now_key ≡ key → ((cs : List Call) → asked a cs → Sent asked key cs first b (λ w. now ≡ w)) → Has asked a (AreKept held phase) → Has asked b (AreKept (change c (with_live now_key now) held) phase)
waits_written asked held phase c key now_key first now a b e o same sent h =
    let w = sends_all asked held phase c key first a b (λ w. now ≡ w) e o sent h in
    let at : with_live (held_by c held).key w.0 (held_by c held) ≡ with_live now_key now (held_by c held) = ap (λ k. with_live k w.0 (held_by c held)) (e ∙ sym same) ∙ ap (λ x. with_live now_key x (held_by c held)) (sym w.1.0) in
    so asked (AreKept (change c (waits_so w.0) held) phase) (AreKept (change c (with_live now_key now) held) phase) b (λ operations k. subst (λ x. AreKept (set held c x) phase operations) at k) w.1.1

-- more waits than did
pub takes_more : {P : Type 0} (asked : P → List Call → Type 0) (held : List Held) (phase : Phase) (c n : ℕ) (octets : List ℕ) (key now_key : Option ℕ) (first now : List ℕ) (p : P) → c < length held → (held_by c held).key ≡ key → (held_by c held).waiting ≡ first → now_key ≡ key → IsSome key → now ≡ first ++ take n octets → (first ≡ [] → n ≡ 0 → octets ≡ []) → Has asked p (AreKept held phase) → Has asked p (λ operations. AreKept (change c (with_live now_key now) held) phase (Did (Offer c octets (Some n)) ∷ operations))
takes_more asked held phase c n octets key now_key first now p below e o same some rest progress h =
    let at : handed_more (take n octets) (held_by c held) ≡ with_live now_key now (held_by c held) = ap (λ k. with_live k ((held_by c held).waiting ++ take n octets) (held_by c held)) (e ∙ sym same) ∙ ap (λ w. with_live now_key w (held_by c held)) (ap (λ w. w ++ take n octets) o ∙ sym rest) in
    subst (λ x. Has asked p (λ operations. AreKept (set held c x) phase (Did (Offer c octets (Some n)) ∷ operations))) at
    (takes asked held phase c n octets p (λ ge. absurd (omega (arith, ge, below))) (λ none. absurd (no_some key (sym e ∙ none) some)) (λ has waits. progress (sym o ∙ waits)) h)

-- an offer to a client that has no connection takes nothing
pub takes_none : {P : Type 0} (asked : P → List Call → Type 0) (held : List Held) (phase : Phase) (c : ℕ) (octets : List ℕ) (p : P) → (held_by c held).key ≡ None → Has asked p (AreKept held phase) → Has asked p (λ operations. AreKept held phase (Did (Offer c octets (Some 0)) ∷ operations))
takes_none asked held phase c octets p none h =
    let same : change c (handed_more []) held ≡ held = unchanged (handed_more []) held c (ap (λ o. with_live (held_by c held).key o (held_by c held)) (append-nil (held_by c held).waiting)) in
    so asked (λ operations. AreKept (change c (handed_more []) held) phase (Did (Offer c octets (Some 0)) ∷ operations)) (λ operations. AreKept held phase (Did (Offer c octets (Some 0)) ∷ operations)) p (λ operations k. subst (λ hs. AreKept hs phase (Did (Offer c octets (Some 0)) ∷ operations)) same k)
    (takes asked held phase c 0 octets p (λ ge. refl) (λ is. refl) (λ has. absurd (no_some (held_by c held).key none has)) h)

-- and at once where a write of the rest failed
pub drops : {P : Type 0} (asked : P → List Call → Type 0) (held : List Held) (phase : Phase) (c k : ℕ) (key now_key : Option ℕ) (first now : List ℕ) (a m b : P) (was : List ℕ) → (held_by c held).rest_key ≡ key → (held_by c held).rest ≡ first → ((cs : List Call) → asked a cs → Broke asked k key cs first m was) → AsksMore asked m (Closed k) b → now_key ≡ None → now ≡ [] → Has asked a (AreKept held phase) → Has asked b (AreKept (change c (with_rest now_key now) held) phase)
drops asked held phase c k key now_key first now a m b was e o broke more none empty h =
    let br = broke (calls h.operations) h.were in
    let fault = br.1.0 in
    let s = br.1.1 in
    let d = rest_all held phase c h.operations h.are s.calls s.waiting (subst (λ y. Writes y (calls h.operations) (held_by c held).rest s.calls s.waiting) (sym e) (subst (λ w. Writes key (calls h.operations) w s.calls s.waiting) (sym o) s.writes)) in
    let at = there_rest held c k (rests_so s.waiting) (e ∙ br.0) in
    let of : rest_key c d.operations ≡ Some k = ap (λ x. x.rest_key) (d.are.1.same c) ∙ ap (λ x. x.rest_key) at ∙ e ∙ br.0 in
    let w : was ≡ rest c d.operations = s.is ∙ sym (ap (λ x. x.rest) (d.are.1.same c) ∙ ap (λ x. x.rest) at) in
    let last = WroteRest c k (rest c d.operations) (Err fault) ∷ d.operations in
    let wrote : Agrees (change c (rests_so s.waiting) held) phase last = subst (λ hs. Agrees hs phase last) (change_again (rests_so s.waiting) (taken_from_rest (Err fault)) (rests_so s.waiting) held c (λ x. refl)) (agrees_wrote_rest (change c (rests_so s.waiting) held) phase c k (rest c d.operations) (Err fault) d.operations d.are.1) in
    let closed : Agrees (change c (with_rest None []) held) phase (ClosedRest c k ∷ last) = subst (λ hs. Agrees hs phase (ClosedRest c k ∷ last)) (change_again (rests_so s.waiting) (with_rest None []) (with_rest None []) held c (λ x. refl)) (agrees_closed (change c (rests_so s.waiting) held) phase c k last wrote) in
    record {
      operations = ClosedRest c k ∷ last;
      are = (Drops c k fault d.operations of d.are.0, rest_as held phase c (ClosedRest c k ∷ last) None now_key [] now none empty closed);
      were = more (calls last) (subst (λ y. asked m (Wrote k y (Err fault) ∷ calls d.operations)) w (subst (λ cs. asked m (Wrote k was (Err fault) ∷ cs)) (sym d.same) s.were));
    }
