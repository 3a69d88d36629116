use Rattle.std.proofs.Common.{◌≡◌, ◌≤◌, ◌≢◌, ℕ, List, [], ◌∷◌, length, take, refl, sym, ◌∙◌, ap, subst}
use Rattle.std.specs.Prelude.{Some, None}
use Rattle.rs_core.specs.Core.{client_count, lent_octets}
use Rattle.rs_core.specs.Run.Agreeing.{Agrees}
use Rattle.rs_core.specs.Run.Moves.{Move, Left, Began, Took}
use Rattle.rs_core.specs.Drives.Steps.{Offer}
use Rattle.rs_core.specs.Owed.Sending.{HasLent, HasTaken, OwesNoMore}
use Rattle.rs_core.specs.Drives.Courses.{course}
use Rattle.rs_core.specs.declared.route_server.Core.{Core}
use Rattle.rs_core.specs.Drives.Answers.{Offers, Nothing, Fails, Takes}
use Rattle.rs_core.proofs.Drives.Leading.{led_same, led_once}
use Rattle.rs_core.proofs.Drives.Continuing.{goes, some_are, within_take}
use Rattle.rs_core.proofs.driving.offering.offer.Goals as goal
use Rattle.rs_core.proofs.Run.Lists.{none_are}

pub returns-then-is_empty-clause-led : goal.returns-then-is_empty-clause-led
returns-then-is_empty-clause-led g c = led_same g.L.Link.happens _

pub returns-in-None-clause-led : goal.returns-in-None-clause-led
returns-in-None-clause-led g c = led_once g.L.Link.happens _ _ _ c.in-None.ensures.step tt

pub returns-in-Some-clause-led : goal.returns-in-Some-clause-led
returns-in-Some-clause-led g c = led_once g.L.Link.happens _ _ _ c.in-Some.ensures.step tt

-- the next message began, and is lent
abbrev begins : (c : ℕ) (old new : Core) → client_count new ≡ client_count old → ((run : List Move) → Agrees old run → Agrees new (Began c ∷ run)) → OwesNoMore c old new → HasLent c old (lent_octets new c) new
begins c old new count began owes = record { count = count; lent = refl; began = began; owes = owes }

pub returns-then-is_empty-clause-offers : goal.returns-then-is_empty-clause-offers
returns-then-is_empty-clause-offers g c =
    let none : lent_octets c.begin.new.self c.args.c ≡ [] = sym c.lent-lent.ensures ∙ none_are c.lent-lent.result.now (sym c.is_empty.ensures ∙ c.if-is_empty.true) in
    goes g.L.Link.happens _ _ _ _ (Offers c.args.c c.args.room 0) (λ s. s) (λ r. Began c.args.c ∷ r) (λ first s l. l) (λ run h. c.begin.ensures.began run h)
    (λ s run h. Nothing (course _ s run h) _ (begins c.args.c _ _ c.begin.ensures.count c.begin.ensures.began c.begin.ensures.owes) (c.begin.ensures.owes.all none) none)

pub returns-in-None-clause-offers : goal.returns-in-None-clause-offers
returns-in-None-clause-offers g c =
    let octets : List ℕ = lent_octets c.begin.new.self c.args.c in
    let some : octets ≢ [] = λ none. some_are c.lent-lent.result.now (sym c.is_empty.ensures ∙ c.if-is_empty.false) (c.lent-lent.ensures ∙ none) in
    let same : take c.within-most.result c.lent-lent.result.now ≡ take c.args.room octets =
    within_take c.lent-lent.result.now c.args.room c.within-most.result c.within-most.ensures.full c.within-most.ensures.all ∙ ap (take c.args.room) c.lent-lent.ensures in
    let step = subst (λ o. g.L.Link.happens c.args.link.now (Offer c.args.c o None) c.offer.new.self) same c.in-None.ensures.step in
    goes g.L.Link.happens _ _ _ _ (Offers c.args.c c.args.room 0) (λ s. Offer c.args.c (take c.args.room octets) None ∷ s) (λ r. Left c.args.c ∷ Began c.args.c ∷ r)
    (λ first s l. (c.args.link.now, l, step)) (λ run h. c.lost.ensures.left _ (c.begin.ensures.began run h))
    (λ s run h. Fails (course _ s run h) _ _ (begins c.args.c _ _ c.begin.ensures.count c.begin.ensures.began c.begin.ensures.owes) some
    (record { becomes = record { count = c.lost.ensures.count; agrees = c.lost.ensures.left _ (c.begin.ensures.began run h) }; owed = c.lost.ensures.owes }))

pub returns-in-Some-clause-offers : goal.returns-in-Some-clause-offers
returns-in-Some-clause-offers g c =
    let octets : List ℕ = lent_octets c.begin.new.self c.args.c in
    let k = c.in-Some.n in
    let some : octets ≢ [] = λ none. some_are c.lent-lent.result.now (sym c.is_empty.ensures ∙ c.if-is_empty.false) (c.lent-lent.ensures ∙ none) in
    let same : take c.within-most.result c.lent-lent.result.now ≡ take c.args.room octets =
    within_take c.lent-lent.result.now c.args.room c.within-most.result c.within-most.ensures.full c.within-most.ensures.all ∙ ap (take c.args.room) c.lent-lent.ensures in
    let step = subst (λ o. g.L.Link.happens c.args.link.now (Offer c.args.c o (Some k)) c.offer.new.self) same c.in-Some.ensures.step in
    let front : k ≤ length (take c.args.room octets) = subst (λ o. k ≤ length o) same c.in-Some.ensures.front in
    let taken : HasTaken c.args.c k c.begin.new.self c.took.new.self = record { count = c.took.ensures.count; took = c.took.ensures.took; owes = c.took.ensures.owes } in
    goes g.L.Link.happens _ _ _ _ (Offers c.args.c c.args.room k) (λ s. Offer c.args.c (take c.args.room octets) (Some k) ∷ s) (λ r. Took c.args.c (take k octets) ∷ Began c.args.c ∷ r)
    (λ first s l. (c.args.link.now, l, step)) (λ run h. c.took.ensures.took _ (c.begin.ensures.began run h))
    (λ s run h. Takes k (course _ s run h) _ _ (begins c.args.c _ _ c.begin.ensures.count c.begin.ensures.began c.begin.ensures.owes) some front taken)
