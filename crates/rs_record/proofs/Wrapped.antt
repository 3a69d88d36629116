-- What a link around another did, the other did.
use Rattle.std.proofs.Common.{◌≡◌, List, [], ◌∷◌, ◌++◌, refl, sym, ◌∙◌, ap, subst}
use Rattle.std.specs.Prelude.{⊤}
use Rattle.rs_core.specs.Drives.Steps.{Step, Leads, HasLed, HasStopped}
use Rattle.rs_core.specs.Drives.Courses.{Course, course, Continues}
use Rattle.rs_core.specs.Drives.Answers.{Drives}
use Rattle.rs_core.specs.declared.route_server.Core.{Core}
use Rattle.rs_trace.proofs.Behind.{drives_behind}

-- first these steps, and then more
leads_on : {L : Type 0} (happens : L → Step → L → Type 0) (more steps : List Step) (first mid last : L) → Leads happens first steps mid → Leads happens mid more last → Leads happens first (more ++ steps) last
leads_on happens [] steps first mid last before after = subst (λ x. Leads happens first steps x) after before
leads_on happens (s ∷ more) steps first mid last before after = (after.0, leads_on happens more steps first mid after.0 before after.1, after.2)

-- what each step keeps
pub kept_led : {W G : Type 0} (happens : W → Step → W → Type 0) (name : W → G) → ((a b : W) (s : Step) → happens a s b → name b ≡ name a) → (run : List Step) (old new : W) → Leads happens old run new → name new ≡ name old
kept_led happens name step [] old new led = ap name (sym led)
kept_led happens name step (s ∷ run) old new led = step led.0 new s led.2 ∙ kept_led happens name step run old led.0 led.1

pub kept_stopped : {W G : Type 0} (happens : W → Step → W → Type 0) (name : W → G) → ((a b : W) (s : Step) → happens a s b → name b ≡ name a) → (old new : W) → HasStopped happens old new → name new ≡ name old
kept_stopped happens name step old new h = step h.before new _ h.stops ∙ kept_led happens name step h.led.run old h.before h.led.leads

module _ {W L : Type 0} (outer : W → Step → W → Type 0) (inner : L → Step → L → Type 0) (link : W → L) (step : (a b : W) (s : Step) → outer a s b → inner (link a) s (link b)) where
  leads_inner : (run : List Step) (old new : W) → Leads outer old run new → Leads inner (link old) run (link new)
  leads_inner [] old new led = ap link led
  leads_inner (s ∷ run) old new led = (link led.0, leads_inner run old led.0 led.1, step led.0 new s led.2)

  pub led_inner : (old new : W) → HasLed outer old new → HasLed inner (link old) (link new)
  led_inner old new h = record { run = h.run; onward = h.onward; leads = leads_inner h.run old new h.leads }

  pub stopped_inner : (old new : W) → HasStopped outer old new → HasStopped inner (link old) (link new)
  stopped_inner old new h = record { before = link h.before; octets = h.octets; led = led_inner old h.before h.led; stops = step h.before new _ h.stops }

  -- and so with what each step adds to: P, of the steps so far
  module _ (P : W → List Step → Type 0) (adds : (a b : W) (s : Step) (steps : List Step) → outer a s b → P a steps → P b (s ∷ steps)) where
    adds_led : (run : List Step) (old new : W) → Leads outer old run new → P old [] → P new run
    adds_led [] old new led p = subst (λ x. P x []) led p
    adds_led (s ∷ run) old new led p = adds led.0 new s run led.2 (adds_led run old led.0 led.1 p)

    pub adds_driven : (By : Course → Course → Type 0) (core : Core) (old : W) (later : Core) (new : W)
        → ((x y : Course) → Drives x y → (more : List Step) → y.steps ≡ more ++ x.steps → P new more → By x y)
        → P old [] → Continues outer core old later new Drives → Continues inner core (link old) later (link new) By
    adds_driven By core old later new made p c = record {
      on = λ first steps run agrees leads.
          let on = c.on old [] run agrees refl in
          record {
            steps = on.steps ++ steps;
            run = on.run;
            agrees = on.agrees;
            leads = leads_on inner on.steps steps first (link old) (link new) leads (leads_inner on.steps old new on.leads);
            is = made (course core steps run agrees) (course later (on.steps ++ steps) on.run on.agrees)
                (drives_behind steps (course core [] run agrees) (course later on.steps on.run on.agrees) on.is)
                on.steps refl (adds_led on.steps old new on.leads p);
          };
    }

  pub drives_inner : (core : Core) (old : W) (later : Core) (new : W) → Continues outer core old later new Drives → Continues inner core (link old) later (link new) Drives
  drives_inner core old later new c = adds_driven (λ wrapped steps. ⊤) (λ a b s steps happens told. tt) Drives core old later new (λ x y drives more steps told. drives) tt c

-- by whatever names the links go
pub stopped_at : {L : Type 0} (happens : L → Step → L → Type 0) (a b old new : L) → a ≡ old → b ≡ new → HasStopped happens a b → HasStopped happens old new
stopped_at happens a b old new e f h = subst (λ x. HasStopped happens x new) e (subst (λ y. HasStopped happens a y) f h)

pub drives_at : {L : Type 0} (happens : L → Step → L → Type 0) (By : Course → Course → Type 0) (core later : Core) (a b old new : L) → a ≡ old → b ≡ new → Continues happens core a later b By → Continues happens core old later new By
drives_at happens By core later a b old new e f h = subst (λ x. Continues happens core x later new By) e (subst (λ y. Continues happens core a later y By) f h)
