-- A replay is one course of a route server and a link, in which each offer was taken whole.
use Rattle.std.proofs.Common.{◌≡◌, ◌==◌, ℕ, zero, suc, List, [], ◌∷◌, ◌++◌, length, take, refl, sym, ◌∙◌, ap, subst, arith}
use Rattle.std.specs.Prelude.{Option, Some, None, ⊤, if◌then◌else◌}
use Rattle.std.proofs.lemmas.List.{take_all}
use Rattle.rs_policy.specs.Configuration.{Configuration}
use Rattle.rs_core.specs.Run.Moves.{Ruled}
use Rattle.rs_core.specs.Core.{client_count, lent_octets}
use Rattle.rs_core.specs.Run.Agreeing.{Agrees}
use Rattle.rs_core.specs.Drives.Steps.{Step, Happened, Begin, Busy, Offer, Memory, End, Replaced}
use Rattle.rs_core.specs.Drives.Courses.{Course, called}
use Rattle.rs_core.specs.Drives.Answers.{Offers, Nothing, Fails, Takes, Gives, Used, Stopped, Goes_on, Ended, Lasts, Owes, Closes, Ends, Never, Again}
use Rattle.rs_core.specs.Drives.Answers as answers
use Rattle.rs_core.specs.Drives.Serving.{start, taken_by}
use Rattle.rs_core.specs.Owed.Draining.{IsDrained, TakesWhole, TakesAll, Rooms, RoomFor}
use Rattle.rs_core.specs.Owed.Draining as draining
use Rattle.rs_core.specs.declared.links.Event.TheVariants as events
use Rattle.rs_core.specs.declared.route_server.Core.{Core}
use Rattle.rs_core.proofs.Owed.Draining.{room_drains}
use Rattle.rs_core.proofs.Headline.{has_come}
use Rattle.rs_trace.specs.Played.{Act, Did, ListedRoutes, TookAll, AllTookAll, steps_of}
use Rattle.rs_trace.specs.Replays.{HasRun, Begins, Drove, Tells, steps_done}
use Rattle.rs_trace.specs.Serving.{ReplaysAreCourses, sent_to, ReplaysServe, GivesRoom, GivesRooms, NoRoom, MoreRoom, ReplaysDrain}

-- ---- a replay is one course

-- from the start on
record IsDriven (settings : Configuration) (acts : List Act) (x : Course) : Type 0 where
  new : Core
  agrees : Agrees new (Ruled settings ∷ [])
  drove : answers.Drove (start settings new agrees) x
  steps : x.steps ≡ steps_of acts

steps_done_of : (more : List Step) (acts : List Act) → steps_of (steps_done more acts) ≡ more ++ steps_of acts
steps_done_of [] acts = refl
steps_done_of (s ∷ more) acts = ap (λ steps. s ∷ steps) (steps_done_of more acts)

driven : (settings : Configuration) (name : ℕ → List ℕ) (acts : List Act) (x : Course) → HasRun settings name acts x → IsDriven settings acts x
driven settings name acts x (Begins core agrees count) = record { new = core; agrees = agrees; drove = Never; steps = refl }
driven settings name acts x (Drove more before u v ran drives is) =
    let d = driven settings name before u ran in
    record { new = d.new; agrees = d.agrees; drove = Again u v d.drove drives; steps = is ∙ ap (λ steps. more ++ steps) d.steps ∙ sym (steps_done_of more before) }
driven settings name acts x (Tells c listed_lines before u ran lists) =
    let d = driven settings name before u ran in
    record { new = d.new; agrees = d.agrees; drove = d.drove; steps = d.steps }

pub are_courses : ReplaysAreCourses
are_courses settings name acts x ran = let d = driven settings name acts x ran in record { come = has_come settings d.new d.agrees x d.drove; steps = d.steps }

-- ---- each offer was taken whole

offered : (c d : ℕ) (octets : List ℕ) (answer : Option ℕ) (steps : List Step) → answer ≡ Some (length octets)
    → taken_by c (Offer d octets answer ∷ steps) ≡ (if d == c then taken_by c steps ++ octets else taken_by c steps)
offered c d octets answer steps whole =
    ap (λ a. taken_by c (Offer d octets a ∷ steps)) whole ∙ ap (λ l. if d == c then taken_by c steps ++ l else taken_by c steps) (take_all (length octets) octets (omega arith))

taken_is_sent : (c : ℕ) (acts : List Act) → AllTookAll acts → taken_by c (steps_of acts) ≡ sent_to c acts
taken_is_sent c [] all = refl
taken_is_sent c (ListedRoutes d listed_lines ∷ acts) all = taken_is_sent c acts all
taken_is_sent c (Did (Happened event octets) ∷ acts) all = taken_is_sent c acts all.0
taken_is_sent c (Did (Begin d) ∷ acts) all = ap (λ l. if d == c then [] else l) (taken_is_sent c acts all.0)
taken_is_sent c (Did (Busy d) ∷ acts) all = taken_is_sent c acts all.0
taken_is_sent c (Did (Offer d octets answer) ∷ acts) all =
    offered c d octets answer (steps_of acts) all.1 ∙ ap (λ l. if d == c then l ++ octets else l) (taken_is_sent c acts all.0)
taken_is_sent c (Did (Memory d) ∷ acts) all = taken_is_sent c acts all.0
taken_is_sent c (Did (End d) ∷ acts) all = taken_is_sent c acts all.0
taken_is_sent c (Did (Replaced answer) ∷ acts) all = taken_is_sent c acts all.0

pub serve : ReplaysServe
serve settings name acts x ran all c drained =
    let is = are_courses settings name acts x ran in
    record { served = is.come.drained c drained; sent = ap (λ steps. taken_by c steps) is.steps ∙ taken_is_sent c acts all }

-- ---- by steps

abbrev AllTook : List Step → Type 0
AllTook [] = ⊤
AllTook (s ∷ steps) = AllTook steps × TookAll s

by_steps : (acts : List Act) → AllTookAll acts → AllTook (steps_of acts)
by_steps [] all = tt
by_steps (Did step ∷ acts) all = (by_steps acts all.0, all.1)
by_steps (ListedRoutes c listed_lines ∷ acts) all = by_steps acts all

-- what was before too
before_offers : (c room k : ℕ) (x y : Course) → Offers c room k x y → AllTook y.steps → AllTook x.steps
before_offers c room k x y (Nothing u core lent none empty) all = all
before_offers c room k x y (Fails u core after lent some lost) all = all.0
before_offers c room k x y (Takes j u core after lent some within taken) all = all.0

before_gives : (c room : ℕ) (x y : Course) → Gives c room x y → AllTook y.steps → AllTook x.steps
before_gives c room x y (Used u) all = all
before_gives c room x y (Stopped r u v some offers) all = before_offers c r 0 u v offers all
before_gives c room x y (Goes_on r k u v w some within offers rest) all = before_offers c r k u v offers (before_gives c _ v w rest all)

before_ended : (c : ℕ) (x y : Course) → Ended c x y → AllTook y.steps → AllTook x.steps
before_ended c x y (Lasts u not) all = all
before_ended c x y (Owes u core lent closing some) all = all
before_ended c x y (Closes u core after lent closing none lost) all = all.0

before_ends : (k : ℕ) (x y : Course) → Ends k x y → AllTook y.steps → AllTook x.steps
before_ends zero x y ends all = subst (λ (z : Course). AllTook z.steps) (sym ends) all
before_ends (suc k) x y ends all = before_ends k x ends.0 ends.1 (before_ended k ends.0 y ends.2 all)

before_room : (d room : ℕ) (x y : Course) → GivesRoom d room x y → AllTook y.steps → AllTook x.steps
before_room d room x y r all =
    (before_gives d room (called (Happened (events.Room d room) r.octets) x) r.given r.gives (before_ends (client_count r.given.core) r.given y r.ends all)).0

-- ---- so room is used, or nothing is owed

abbrev answered : Option ℕ → ℕ
answered None = zero
answered (Some n) = n

takes_whole : (c room k : ℕ) (x y : Course) (o : Offers c room k x y) → AllTook y.steps → TakesWhole c room k x y o
takes_whole c room k x y (Nothing u core lent none empty) all = tt
takes_whole c room k x y (Fails u core after lent some lost) all = absurd (let f : ◌≡◌ {A = Option ℕ} None (Some (length (take room (lent_octets core c)))) = all.1 in cc)
takes_whole c room k x y (Takes j u core after lent some within taken) all = ap answered all.1

takes_all : (c room : ℕ) (x y : Course) (g : Gives c room x y) → AllTook y.steps → TakesAll c room x y g
takes_all c room x y (Used u) all = tt
takes_all c room x y (Stopped r u v some offers) all = takes_whole c r 0 u v offers all
takes_all c room x y (Goes_on r k u v w some within offers rest) all = (takes_whole c r k u v offers (before_gives c _ v w rest all), takes_all c _ v w rest all)

room_for : (d room : ℕ) (x y : Course) → GivesRoom d room x y → AllTook y.steps → RoomFor d room x y
room_for d room x y r all = record {
  octets = r.octets;
  given = r.given;
  gives = r.gives;
  takes = takes_all d room (called (Happened (events.Room d room) r.octets) x) r.given r.gives (before_ends (client_count r.given.core) r.given y r.ends all);
  ends = r.ends;
}

rooms : (x y : Course) → GivesRooms x y → AllTook y.steps → Rooms x y
rooms x y NoRoom all = draining.NoRoom
rooms x y (MoreRoom d room u v before one) all = draining.MoreRoom d room u v (rooms x u before (before_room d room u v one all)) (room_for d room u v one all)

pub drain : ReplaysDrain
drain settings name acts x ran all c e = record { drained = drained; served = serve settings name acts x ran all c drained } where
  stopped : AllTook (called (Happened events.Stop e.octets) e.after).steps
  stopped = subst (λ (z : Course). AllTook z.steps) e.stop (subst AllTook (sym (are_courses settings name acts x ran).steps) (by_steps acts all))

  leaves : IsDrained e.after c
  leaves = (room_drains c e.room e.before e.turned e.given e.after e.client e.established e.turns
      (rooms e.turned e.given e.rooms (before_room c e.room e.given e.after e.own stopped.0)) e.enough (room_for c e.room e.given e.after e.own stopped.0)).drained

  drained : IsDrained x c
  drained = subst (λ (z : Course). IsDrained z c) (sym e.stop) (record { client = leaves.client; established = leaves.established; decided = leaves.decided; none_owed = leaves.none_owed })
