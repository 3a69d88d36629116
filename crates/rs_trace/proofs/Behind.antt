-- What a link and a route server do together they do too where other steps were before.
use Rattle.std.proofs.Common.{◌≡◌, ℕ, zero, suc, List, [], ◌∷◌, ◌++◌, refl, ap, subst}
use Rattle.rs_core.specs.Run.Moves.{Turned}
use Rattle.rs_core.specs.Core.{client_count}
use Rattle.rs_core.specs.Drives.Steps.{Step, Happened, Memory}
use Rattle.rs_core.specs.Drives.Courses.{Course, course, called, memories}
use Rattle.rs_core.specs.Drives.Answers.{Offers, Nothing, Fails, Takes, Gives, Used, Stopped, Goes_on, Answers, Passes, Begins, Declines, Hears, Drops, Sees, Commands, Turns, Fills, Loses, Rules, Keeps, Ended, Lasts, Owes, Closes, Ends, Rounds, Start, Round, Drives}
use Rattle.rs_core.specs.declared.links.Event.{Event}
use Rattle.rs_core.specs.declared.links.Event.TheVariants as events

-- with these steps before
abbrev pub behind : List Step → Course → Course
behind older x = course x.core (x.steps ++ older) x.run x.agrees

memories_behind : (refused : List ℕ) (steps older : List Step) → memories refused (steps ++ older) ≡ memories refused steps ++ older
memories_behind [] steps older = refl
memories_behind (c ∷ refused) steps older = ap (λ s. Memory c ∷ s) (memories_behind refused steps older)

offers_behind : (older : List Step) (c room k : ℕ) (x y : Course) → Offers c room k x y → Offers c room k (behind older x) (behind older y)
offers_behind older c room k x y (Nothing u core lent none empty) = Nothing (behind older u) core lent none empty
offers_behind older c room k x y (Fails u core after lent some lost) = Fails (behind older u) core after lent some lost
offers_behind older c room k x y (Takes j u core after lent some within taken) = Takes j (behind older u) core after lent some within taken

gives_behind : (older : List Step) (c room : ℕ) (x y : Course) → Gives c room x y → Gives c room (behind older x) (behind older y)
gives_behind older c room x y (Used u) = Used (behind older u)
gives_behind older c room x y (Stopped r u v some offers) = Stopped r (behind older u) (behind older v) some (offers_behind older c r 0 u v offers)
gives_behind older c room x y (Goes_on r k u v w some within offers rest) =
    Goes_on r k (behind older u) (behind older v) (behind older w) some within (offers_behind older c r k u v offers) (gives_behind older c _ v w rest)

answers_behind : (older : List Step) (octets : List ℕ) (event : Event) (x y : Course) → Answers octets event x y → Answers octets event (behind older x) (behind older y)
answers_behind older octets event x y (Passes e u over) = Passes e (behind older u) over
answers_behind older octets event x y (Begins c u core came lt idle) = Begins c (behind older u) core came lt idle
answers_behind older octets event x y (Declines c u lt busy) = Declines c (behind older u) lt busy
answers_behind older octets event x y (Hears c len u core heard lt le) = Hears c len (behind older u) core heard lt le
answers_behind older octets event x y (Drops c len u core dropped lt le) = Drops c len (behind older u) core dropped lt le
answers_behind older octets event x y (Sees t u core saw) = Sees t (behind older u) core saw
answers_behind older octets event x y (Commands c command u core became lt) = Commands c command (behind older u) core became lt
answers_behind older octets event x y (Turns refused u core turned established) =
    subst (λ (s : List Step). Answers octets events.Turn (behind older u) (course core s (Turned refused ∷ u.run) turned.agrees)) (memories_behind refused u.steps older)
    (Turns refused (behind older u) core turned established)
answers_behind older octets event x y (Fills c room u v lt gives) = Fills c room (behind older u) (behind older v) lt (gives_behind older c room u v gives)
answers_behind older octets event x y (Loses c u core left lt) = Loses c (behind older u) core left lt
answers_behind older octets event x y (Rules config u core ruled replaces) = Rules config (behind older u) core ruled replaces
answers_behind older octets event x y (Keeps fault u refuses) = Keeps fault (behind older u) refuses

ended_behind : (older : List Step) (c : ℕ) (x y : Course) → Ended c x y → Ended c (behind older x) (behind older y)
ended_behind older c x y (Lasts u not) = Lasts (behind older u) not
ended_behind older c x y (Owes u core lent closing some) = Owes (behind older u) core lent closing some
ended_behind older c x y (Closes u core after lent closing none left) = Closes (behind older u) core after lent closing none left

ends_behind : (older : List Step) (k : ℕ) (x y : Course) → Ends k x y → Ends k (behind older x) (behind older y)
ends_behind older zero x y ends = ap (behind older) ends
ends_behind older (suc c) x y ends = (behind older ends.0, ends_behind older c x ends.0 ends.1, ended_behind older c ends.0 y ends.2)

rounds_behind : (older : List Step) (x y : Course) → Rounds x y → Rounds (behind older x) (behind older y)
rounds_behind older x y Start = Start
rounds_behind older x y (Round event octets u v w rounds goes_on answers ends) =
    Round event octets (behind older u) (behind older v) (behind older w) (rounds_behind older x u rounds) goes_on
    (answers_behind older octets event (called (Happened event octets) u) v answers) (ends_behind older (client_count v.core) v w ends)

pub drives_behind : (older : List Step) (x y : Course) → Drives x y → Drives (behind older x) (behind older y)
drives_behind older x y drives = record {
  before = behind older drives.before;
  octets = drives.octets;
  rounds = rounds_behind older x drives.before drives.rounds;
  stop = ap (behind older) drives.stop;
}
