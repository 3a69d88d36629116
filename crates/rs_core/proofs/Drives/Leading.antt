-- Steps of a link, one after the other.
use Rattle.std.proofs.Common.{◌≡◌, ℕ, true, false, List, [], ◌∷◌, ◌++◌, refl, subst}
use Rattle.rs_core.specs.declared.links.Event.{Event}
use Rattle.rs_core.specs.declared.links.Event.TheVariants.{Opened, Octets, Moment, Commanded, Turn, Room, Lost, Rules, Stop}
use Rattle.rs_core.specs.Drives.Steps.{Step, Happened, Leads, stops, GoesOn, AllGoOn, HasLed, HasStopped}

leads_on : {L : Type 0} (happens : L → Step → L → Type 0) (a : L) (r : List Step) (b : L) (s : List Step) (c : L) → Leads happens a r b → Leads happens b s c → Leads happens a (s ++ r) c
leads_on happens a r b [] c p q = subst (λ x. Leads happens a r x) q p
leads_on happens a r b (x ∷ s) c p q = (q.0, leads_on happens a r b s q.0 p q.1, q.2)

all_on : (r s : List Step) → AllGoOn r → AllGoOn s → AllGoOn (s ++ r)
all_on r [] p q = p
all_on r (x ∷ s) p q = (all_on r s p q.0, q.1)

-- nothing has happened
pub led_same : {L : Type 0} (happens : L → Step → L → Type 0) (a : L) → HasLed happens a a
led_same happens a = record { run = []; onward = tt; leads = refl }

-- one step more
pub led_by : {L : Type 0} (happens : L → Step → L → Type 0) (a b c : L) (s : Step) → HasLed happens a b → happens b s c → GoesOn s → HasLed happens a c
led_by happens a b c s p step on = record { run = s ∷ p.run; onward = (p.onward, on); leads = (b, p.leads, step) }

-- one step
pub led_once : {L : Type 0} (happens : L → Step → L → Type 0) (a b : L) (s : Step) → happens a s b → GoesOn s → HasLed happens a b
led_once happens a b s step on = led_by happens a a b s (led_same happens a) step on

-- one after the other
pub led_on : {L : Type 0} (happens : L → Step → L → Type 0) (a b c : L) → HasLed happens a b → HasLed happens b c → HasLed happens a c
led_on happens a b c p q = record {
  run = q.run ++ p.run;
  onward = all_on p.run q.run p.onward q.onward;
  leads = leads_on happens a p.run b q.run c p.leads q.leads;
}

pub stop_is : (event : Event) → stops event ≡ true → event ≡ Stop
stop_is Stop e = refl
stop_is (Opened c) e = let h : false ≡ true = e in cc
stop_is (Octets c n) e = let h : false ≡ true = e in cc
stop_is (Moment t) e = let h : false ≡ true = e in cc
stop_is (Commanded c command) e = let h : false ≡ true = e in cc
stop_is Turn e = let h : false ≡ true = e in cc
stop_is (Room c n) e = let h : false ≡ true = e in cc
stop_is (Lost c) e = let h : false ≡ true = e in cc
stop_is Rules e = let h : false ≡ true = e in cc

-- and then a stop
pub led_to_stop : {L : Type 0} (happens : L → Step → L → Type 0) (a b c : L) (event : Event) (octets : List ℕ) → HasLed happens a b → happens b (Happened event octets) c → stops event ≡ true → HasStopped happens a c
led_to_stop happens a b c event octets p step e = record {
  before = b;
  octets = octets;
  led = p;
  stops = subst (λ (x : Event). happens b (Happened x octets) c) (stop_is event e) step;
}
