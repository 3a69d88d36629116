-- All that a link does between two calls of the core.
use Rattle.std.proofs.Common.{◌≡◌, Bool, true, false, List, [], ◌∷◌, refl, ◌∙◌, subst}
use Rattle.rs_core.specs.declared.links.Event.TheVariants.{Stop}
use Rattle.rs_core.specs.Drives.Steps.{Step, Happened, Leads, GoesOn, AllGoOn, HasStopped}
use Rattle.rs_live.specs.declared.live_link.LiveLink.{LiveLink}
use Rattle.rs_live.specs.Calls.{Call, IsFailedAccept}
use Rattle.rs_live.specs.Operations.{Did}
use Rattle.rs_live.specs.Handled.{EndBy, Has, Keeps, Follows, On, Halts}

went_on : {P : Type 0} (asked : P → List Call → Type 0) (step : Step) (l : LiveLink P) (has_failed : Bool) → GoesOn step → Follows asked step l has_failed → (has_failed ≡ false) × Keeps asked l
went_on asked step l _ on (On h) = (refl, record { operations = Did step ∷ h.operations; are = h.are; were = h.were })
went_on asked step l _ on (Halts octets e h) = let k : true ≡ false = subst GoesOn e on in cc

stopped : {P : Type 0} (asked : P → List Call → Type 0) (step : Step) (l : LiveLink P) (has_failed : Bool) → Follows asked step l has_failed → (has_failed ≡ false → Keeps asked l) × (has_failed ≡ true → Has asked l.ports.now (EndBy IsFailedAccept))
stopped asked step l _ (On h) = (λ e. record { operations = Did step ∷ h.operations; are = h.are; were = h.were }, λ (e : false ≡ true). cc)
stopped asked step l _ (Halts octets is h) = (λ (e : true ≡ false). cc, λ e. h)

same_run : {L N : Type 0} (happens : L → Step → L → Type 0) (name : L → N) → ((x y : L) (s : Step) → happens x s y → name y ≡ name x) → (run : List Step) (a b : L) → Leads happens a run b → name b ≡ name a
same_run happens name same [] a b e = subst (λ x. name x ≡ name a) e refl
same_run happens name same (s ∷ run) a b leads = same leads.0 b s leads.2 ∙ same_run happens name same run a leads.0 leads.1

-- what no step changes stays the same
pub stopped_same : {L N : Type 0} (a b : L) (happens : L → Step → L → Type 0) → HasStopped happens a b → (name : L → N) → ((x y : L) (s : Step) → happens x s y → name y ≡ name x) → name b ≡ name a
stopped_same a b happens p name same = same p.before b (Happened Stop p.octets) p.stops ∙ same_run happens name same p.led.run a p.before p.led.leads

-- each step follows the ports, from a link that has not failed
abbrev pub FollowsPorts : {P : Type 0} → (LiveLink P → Step → LiveLink P → Type 0) → (P → List Call → Type 0) → Type 0
FollowsPorts {P} happens asked = (x y : LiveLink P) (s : Step) → happens x s y → x.has_failed ≡ false → Keeps asked x → Follows asked s y y.has_failed

led : {P : Type 0} (happens : LiveLink P → Step → LiveLink P → Type 0) (asked : P → List Call → Type 0) → FollowsPorts happens asked →
    (run : List Step) (a b : LiveLink P) → AllGoOn run → Leads happens a run b → a.has_failed ≡ false → Keeps asked a → (b.has_failed ≡ false) × Keeps asked b
led happens asked follows [] a b on e f h = subst (λ x. (x.has_failed ≡ false) × Keeps asked x) e (f, h)
led happens asked follows (s ∷ run) a b on leads f h =
    let before = led happens asked follows run a leads.0 on.0 leads.1 f h in
    went_on asked s b b.has_failed on.1 (follows leads.0 b s leads.2 before.0 before.1)

-- what the ports were asked up to the stop
pub stopped_so : {P : Type 0} (a b : LiveLink P) (happens : LiveLink P → Step → LiveLink P → Type 0) → HasStopped happens a b → (asked : P → List Call → Type 0) → FollowsPorts happens asked →
    a.has_failed ≡ false → Keeps asked a → (b.has_failed ≡ false → Keeps asked b) × (b.has_failed ≡ true → Has asked b.ports.now (EndBy IsFailedAccept))
stopped_so a b happens p asked follows f h =
    let before = led happens asked follows p.led.run a p.before p.led.onward p.led.leads f h in
    stopped asked (Happened Stop p.octets) b b.has_failed (follows p.before b (Happened Stop p.octets) p.stops before.0 before.1)
