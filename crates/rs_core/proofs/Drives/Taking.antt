-- What the link of a client took, by the run and by the offers.
use Rattle.std.proofs.Common.{◌≡◌, ◌==◌, ◌≤◌, ℕ, zero, suc, Bool, true, false, List, [], ◌∷◌, ◌++◌, length, take, refl, sym, ◌∙◌, ap, subst, arith}
use Rattle.std.specs.Prelude.{Result, if◌then◌else◌}
use Rattle.std.proofs.lemmas.List.{length-take, take-take}
use Rattle.rs_octets.specs.declared.heads.HeaderFault.{HeaderFault}
use Rattle.rs_session.specs.declared.command.Command.{Command}
use Rattle.rs_session.specs.Items.{is_connected, message_count}
use Rattle.rs_session.specs.Endings.{Fate}
use Rattle.rs_session.specs.Sessions.{state_by, is_live, fate}
use Rattle.rs_policy.specs.Configuration.{Configuration}
use Rattle.rs_core.specs.Run.Moves.{config_in}
use Rattle.rs_core.specs.Session.Hearing.{Hearing, session_in, state_in, is_up, said_in, takes_in, listens, listens_to, hears, begins, commanded, leaves, takes, offers, allowed_in}
use Rattle.rs_core.specs.Run.Meaning.{hearing, due}
use Rattle.rs_core.specs.Told.Telling.{Speaks}
use Rattle.rs_core.specs.Drives.Steps.{Step, Happened}
use Rattle.rs_core.specs.Core.{client_count, lent_octets}
use Rattle.rs_core.specs.Drives.Courses.{Course, called, memories}
use Rattle.rs_core.specs.Drives.Answers.{Offers, Nothing, Fails, Takes, Gives, Used, Stopped, Goes_on, Answers, Passes, Begins, Declines, Hears, Drops, Sees, Commands, Turns, Fills, Loses, Rules, Keeps, Ended, Lasts, Owes, Closes, Ends, Rounds, Start, Round, Drives, Drove, Never, Again}
use Rattle.rs_core.specs.Drives.Serving.{taken_by, start, IsTakenBy, ServesByOffers}
use Rattle.rs_core.specs.declared.endings.Ending.{Ending}
use Rattle.rs_core.specs.declared.endings.Ending.TheVariants as reasons
use Rattle.rs_core.specs.declared.links.Event.{Event}
use Rattle.rs_octets.specs.Messages.{newly_heard}

-- ---- what is heard takes nothing

pub record TakesNothing (h next : Hearing) : Type 0 where
  pub taken : next.taken ≡ h.taken
  pub connected : is_connected next.items ≡ is_connected h.items

listened_by : (b : Bool) (h next : Hearing) → TakesNothing h next → TakesNothing h (if b then next else h)
listened_by true h next nothing = nothing
listened_by false h next nothing = record { taken = refl; connected = refl }

listened : (s : Configuration) (c : ℕ) (m : Result (List ℕ) HeaderFault) (h : Hearing) → TakesNothing h (listens s c m h)
listened s c m h = listened_by (is_live (state_in s c h)) h (takes_in s c (said_in s c h m) h) (record { taken = refl; connected = refl })

listened_all : (s : Configuration) (c : ℕ) (ms : List (Result (List ℕ) HeaderFault)) (h : Hearing) → TakesNothing h (listens_to s c ms h)
listened_all s c [] h = record { taken = refl; connected = refl }
listened_all s c (m ∷ ms) h =
    let one = listened s c m h in
    let rest = listened_all s c ms (listens s c m h) in
    record { taken = rest.taken ∙ one.taken; connected = rest.connected ∙ one.connected }

-- ---- by what befalls a client

came : (own : Bool) (h : Hearing) (octets : List ℕ) → (is_connected h.items ≡ true → h.taken ≡ octets)
    → is_connected (if own then begins h else h).items ≡ true → (if own then begins h else h).taken ≡ (if own then [] else octets)
came true h octets so on = refl
came false h octets so on = so on

left : (own : Bool) (s : Configuration) (c : ℕ) (why : Ending) (h : Hearing) (octets : List ℕ) → (is_connected h.items ≡ true → h.taken ≡ octets)
    → is_connected (if own then leaves s c why h else h).items ≡ true → (if own then leaves s c why h else h).taken ≡ octets
left true s c why h octets so on = absurd (let f : false ≡ true = on in cc)
left false s c why h octets so on = so on

took : (own : Bool) (h : Hearing) (octets more : List ℕ) → (is_connected h.items ≡ true → h.taken ≡ octets)
    → is_connected (if own then takes more h else h).items ≡ true → (if own then takes more h else h).taken ≡ (if own then octets ++ more else octets)
took true h octets more so on = ap (λ l. l ++ more) (so on)
took false h octets more so on = so on

heard : (own : Bool) (s : Configuration) (c : ℕ) (piece : List ℕ) (h : Hearing) (octets : List ℕ) → (is_connected h.items ≡ true → h.taken ≡ octets)
    → is_connected (if own then hears s c piece h else h).items ≡ true → (if own then hears s c piece h else h).taken ≡ octets
heard true s c piece h octets so on =
    let nothing = listened_all s c (newly_heard (allowed_in s) h.octets piece) h in
    nothing.taken ∙ so (sym nothing.connected ∙ on)
heard false s c piece h octets so on = so on

obeyed : (own : Bool) (s : Configuration) (c : ℕ) (command : Command) (h : Hearing) (octets : List ℕ) → (is_connected h.items ≡ true → h.taken ≡ octets)
    → is_connected (if own then commanded s c command h else h).items ≡ true → (if own then commanded s c command h else h).taken ≡ octets
obeyed true s c command h octets so on = so on
obeyed false s c command h octets so on = so on

remembered : (c : ℕ) (refused : List ℕ) (steps : List Step) → taken_by c (memories refused steps) ≡ taken_by c steps
remembered c [] steps = refl
remembered c (d ∷ refused) steps = remembered c refused steps

cut : (k room : ℕ) (octets : List ℕ) → k ≤ length (take room octets) → take k (take room octets) ≡ take k octets
cut k room octets within = take-take k room octets (omega (arith, within, length-take room octets))

-- ---- by what a link and a route server do together

offers_keep : (d room k c : ℕ) (x y : Course) → Offers d room k x y → IsTakenBy c x → IsTakenBy c y
offers_keep d room k c x y (Nothing u core lent none empty) so = so
offers_keep d room k c x y (Fails u core after lent some lost) so = left (d == c) (config_in u.run) c reasons.Lost (offers (d == c) (hearing c u.run)) (taken_by c u.steps) so
offers_keep d room k c x y (Takes j u core after lent some within taken) so = λ on.
    took (d == c) (offers (d == c) (hearing c u.run)) (taken_by c u.steps) (take j (lent_octets core d)) so on
    ∙ ap (λ l. if d == c then taken_by c u.steps ++ l else taken_by c u.steps) (sym (cut j room (lent_octets core d) within))

gives_keep : (d room c : ℕ) (x y : Course) → Gives d room x y → IsTakenBy c x → IsTakenBy c y
gives_keep d room c x y (Used u) so = so
gives_keep d room c x y (Stopped r u v some offers) so = offers_keep d r 0 c u v offers so
gives_keep d room c x y (Goes_on r k u v w some within offers rest) so = gives_keep d _ c v w rest (offers_keep d r k c u v offers so)

answers_keep : (octets : List ℕ) (event : Event) (c : ℕ) (x y : Course) → Answers octets event x y → IsTakenBy c x → IsTakenBy c y
answers_keep octets event c x y (Passes e u over) so = so
answers_keep octets event c x y (Begins d u core became lt idle) so = came (d == c) (hearing c u.run) (taken_by c u.steps) so
answers_keep octets event c x y (Declines d u lt busy) so = so
answers_keep octets event c x y (Hears d len u core became lt le) so = heard (d == c) (config_in u.run) c octets (hearing c u.run) (taken_by c u.steps) so
answers_keep octets event c x y (Drops d len u core became lt le) so = left (d == c) (config_in u.run) c reasons.Memory (hearing c u.run) (taken_by c u.steps) so
answers_keep octets event c x y (Sees t u core became) so = so
answers_keep octets event c x y (Commands d command u core became lt) so = obeyed (d == c) (config_in u.run) c command (hearing c u.run) (taken_by c u.steps) so
answers_keep octets event c x y (Turns refused u core became established) so = λ on. so on ∙ sym (remembered c refused u.steps)
answers_keep octets event c x y (Fills d room u v lt gives) so = gives_keep d room c u v gives so
answers_keep octets event c x y (Loses d u core became lt) so = left (d == c) (config_in u.run) c reasons.Lost (hearing c u.run) (taken_by c u.steps) so
answers_keep octets event c x y (Rules config u core became replaces) so = so
answers_keep octets event c x y (Keeps fault u refuses) so = so

ended_keep : (d c : ℕ) (x y : Course) → Ended d x y → IsTakenBy c x → IsTakenBy c y
ended_keep d c x y (Lasts u not) so = so
ended_keep d c x y (Owes u core lent closing some) so = so
ended_keep d c x y (Closes u core after lent closing none gone) so = left (d == c) (config_in u.run) c reasons.Lost (offers (d == c) (hearing c u.run)) (taken_by c u.steps) so

ends_keep : (k c : ℕ) (x y : Course) → Ends k x y → IsTakenBy c x → IsTakenBy c y
ends_keep zero c x y ends so = subst (IsTakenBy c) ends so
ends_keep (suc k) c x y ends so = ended_keep k c ends.0 y ends.2 (ends_keep k c x ends.0 ends.1 so)

rounds_keep : (c : ℕ) (x y : Course) → Rounds x y → IsTakenBy c x → IsTakenBy c y
rounds_keep c x y Start so = so
rounds_keep c x y (Round event octets u v w rounds goes_on answers ends) so =
    ends_keep (client_count v.core) c v w ends (answers_keep octets event c (called (Happened event octets) u) v answers (rounds_keep c x u rounds so))

drives_keep : (c : ℕ) (x y : Course) → Drives x y → IsTakenBy c x → IsTakenBy c y
drives_keep c x y drives so = subst (IsTakenBy c) (sym drives.stop) (rounds_keep c x drives.before drives.rounds so)

drove_keep : (c : ℕ) (x y : Course) → Drove x y → IsTakenBy c x → IsTakenBy c y
drove_keep c x y Never so = so
drove_keep c x y (Again u v drove drives) so = drives_keep c u v drives (drove_keep c x u drove so)

-- ---- a client that is served

connected_by : (b : Bool) (f : Fate) (k : ℕ) → is_up (state_by b f k) ≡ true → b ≡ true
connected_by true f k up = refl
connected_by false f k up = absurd (let g : false ≡ true = up in cc)

pub serves : ServesByOffers
serves c config core agrees x drove served =
    let h = hearing c x.run in
    let on : is_connected h.items ≡ true = connected_by (is_connected h.items) (fate (session_in (config_in x.run) c) h.items) (message_count h.items) served.established in
    let taken : h.taken ≡ taken_by c x.steps = drove_keep c (start config core agrees) x drove (λ none. absurd (let g : false ≡ true = none in cc)) on in
    record { established = served.established; told = λ speech is. subst (λ l. Speaks speech l (due x.run c)) taken (served.told speech is) }
