-- The claim of the whole, by what each drive adds to a course.
use Rattle.std.proofs.Common.{[], ◌∷◌, refl}
use Rattle.rs_policy.specs.Configuration.{Configuration}
use Rattle.rs_core.specs.Run.Moves.{Ruled}
use Rattle.rs_core.specs.Drives.Steps.{Step}
use Rattle.rs_core.specs.Drives.Courses.{Course, course}
use Rattle.rs_core.specs.Drives.Answers.{Drove, Never, Again}
use Rattle.rs_core.specs.Run.Agreeing.{Agrees}
use Rattle.rs_core.specs.Drives.Serving.{start}
use Rattle.rs_core.specs.Headline.{New, Driven, HasCome, DrainedClientsHaveWhatIsDue}
use Rattle.rs_core.specs.declared.route_server.Core.{Core}
use Rattle.rs_core.proofs.Drives.Taking.{serves}
use Rattle.rs_core.proofs.Owed.Draining.{drained_served}
use Rattle.rs_core.proofs.Told.Senders.{due_routes_are_the_senders}

pub has_come : (config : Configuration) (new : Core) (agrees : Agrees new (Ruled config ∷ [])) (x : Course) → Drove (start config new agrees) x → HasCome config x
has_come config new agrees x drove = record {
  new = new;
  agrees = agrees;
  drove = drove;
  drained = λ c drained. record {
    served = serves c config new agrees x drove (drained_served x c drained);
    senders = λ p route is. due_routes_are_the_senders x.run c p route is;
  };
}

pub have_what_is_due : {L : Type 0} (happens : L → Step → L → Type 0) → DrainedClientsHaveWhatIsDue happens
have_what_is_due {L} happens config first core link (New core2 agrees) =
    record { steps = []; run = Ruled config ∷ []; agrees = agrees; leads = refl; is = has_come config core2 agrees (start config core2 agrees) Never }
have_what_is_due {L} happens config first core link (Driven old new before after driven continues) =
    let r = have_what_is_due happens config first old before driven in
    let on = continues.on first r.steps r.run r.agrees r.leads in
    record {
      steps = on.steps;
      run = on.run;
      agrees = on.agrees;
      leads = on.leads;
      is = has_come config r.is.new r.is.agrees (course new on.steps on.run on.agrees) (Again (course old r.steps r.run r.agrees) (course new on.steps on.run on.agrees) r.is.drove on.is);
    }
