-- KEEPALIVEs beside the first route from one member to another, by computation, as the recorded session first_route has them: one
-- goes out where one fell due, and no other does.
use Rattle.std.proofs.Common.{◌≡◌, ◌≢◌, ◌≤◌, ℕ, Bool, true, false, List, [], ◌∷◌, ◌++◌, length, refl, sym, ap, ◌∙◌, subst, inl, inr, arith}
use Rattle.std.proofs.lemmas.List.{append-nil, append_cancel_left}
use Rattle.std.proofs.lemmas.Bool.{false≢true}
use Rattle.rs_open.specs.Writing.{keepalive}
use Rattle.rs_open.specs.declared.short.Limit.TheVariants as limits
use Rattle.rs_open.specs.declared.writing.ServerOpen.{ServerOpen}
use Rattle.rs_core.specs.Session.Keepalives.{KeepaliveMove, FellDue, Begun, IsNext, AreKeepalives}
use Rattle.rs_core.specs.Session.Conversations.{own_open}
use Rattle.rs_core.specs.Run.Moves.{Move, Ruled, Came, Saw, Began, Took}
use Rattle.rs_core.specs.Run.Meaning.{hearing}
use Rattle.rs_core.specs.Told.Telling.{heads_update}
use Rattle.rs_core.proofs.Examples.DueRoutes.{base, open_b, up}
use Rattle.rs_core.proofs.Examples.Recorded.{keepalive_sent, route, said}
use Rattle.rs_core.proofs.Examples.FirstRoute.{both_up, first_route}

-- what the server puts on the connection by what befell client 1
abbrev Beaten : List Move → List ℕ → Bool → Type 0
Beaten run octets due = AreKeepalives (own_open base) limits.Short (hearing 1 run).keepalives octets due

-- ---- what goes out

long_enough : 19 ≤ 47
long_enough = omega arith

-- the OPEN, the KEEPALIVE that the client's OPEN asks for, and after a beginning with nothing to say the UPDATE
goes_out : Beaten first_route (said ++ keepalive_sent ++ route) false
goes_out = (
  said ++ keepalive_sent ++ route,
  false,
  (
    said ++ keepalive_sent,
    false,
    (
      said ++ keepalive_sent,
      false,
      (
        said,
        true,
        (said, true, (refl, false, (refl, refl)), record { message = []; whole = refl; is = inl (λ e. let f : said ≡ [] = e in cc, refl, refl) }),
        record { message = keepalive_sent; whole = refl; is = inr (refl, refl, refl) },
      ),
      record { message = []; whole = refl; is = inr (refl, inl refl, refl) },
    ),
    record { message = route; whole = refl; is = inr (refl, inr (long_enough, refl), refl) },
  ),
  record { message = []; whole = refl; is = inr (refl, inl refl, refl) },
)

-- ---- what alone does

abbrev Alone : ServerOpen → List KeepaliveMove → List ℕ → Bool → Type 0
Alone own keepalives octets due = (others : List ℕ) (other : Bool) → AreKeepalives own limits.Short keepalives others other → (others ≡ octets) × (other ≡ due)

fell_alone : (own : ServerOpen) (keepalives : List KeepaliveMove) (octets : List ℕ) (due : Bool) → Alone own keepalives octets due → Alone own (FellDue ∷ keepalives) octets true
fell_alone own keepalives octets due alone others other (is, was, before) = ((alone others was before).0, is)

-- one was in flight
still_alone : (own : ServerOpen) (keepalives : List KeepaliveMove) (taken octets : List ℕ) (due : Bool) → octets ≢ taken → Alone own keepalives octets due → Alone own (Begun taken ∷ keepalives) octets due
still_alone own keepalives taken octets due flies alone others other (before, was, earlier, begun) =
    let is = alone before was earlier in
    elim begun.is [
      | inl still ↦ (begun.whole ∙ ap (λ l. before ++ l) still.1 ∙ append-nil before ∙ is.0, still.2 ∙ is.1)
      | inr next ↦ absurd (flies (sym is.0 ∙ next.0))
    ]

-- a KEEPALIVE is due
keepalive_alone : (own : ServerOpen) (keepalives : List KeepaliveMove) (taken : List ℕ) → Alone own keepalives taken true → Alone own (Begun taken ∷ keepalives) (taken ++ keepalive) false
keepalive_alone own keepalives taken alone others other (before, was, earlier, begun) =
    let is = alone before was earlier in
    elim begun.is [
      | inl still ↦ absurd (still.0 is.0)
      | inr next ↦ (begun.whole ∙ (λ i. is.0 i ++ subst (λ due. IsNext limits.Short due begun.message) is.1 next.1 i), next.2)
    ]

no_update : IsNext limits.Short false keepalive_sent → ⊥
no_update (inl none) = let f : keepalive_sent ≡ [] = none in cc
no_update (inr is) = false≢true (ap heads_update is.1)

-- none is due
none_begins : (own : ServerOpen) (keepalives : List KeepaliveMove) (taken : List ℕ) (due : Bool) → Alone own keepalives taken false → AreKeepalives own limits.Short (Begun taken ∷ keepalives) (taken ++ keepalive_sent) due → ⊥
none_begins own keepalives taken due alone (before, was, earlier, begun) =
    let is = alone before was earlier in
    let whole : taken ++ keepalive_sent ≡ taken ++ begun.message = begun.whole ∙ ap (λ l. l ++ begun.message) is.0 in
    elim begun.is [
      | inl still ↦ still.0 is.0
      | inr next ↦ no_update (subst (λ l. IsNext limits.Short false l) (sym (append_cancel_left taken keepalive_sent begun.message whole)) (subst (λ d. IsNext limits.Short d begun.message) is.1 next.1))
    ]

-- ---- KEEPALIVEs that no rule asks for

-- before the client's OPEN is accepted
abbrev greeting : List Move
greeting = Took 1 said ∷ Began 1 ∷ Came 1 ∷ Ruled base ∷ []

not_before_its_open : (due : Bool) → Beaten (Began 1 ∷ greeting) (said ++ keepalive_sent) due → ⊥
not_before_its_open due = none_begins (own_open base) (Begun [] ∷ []) said due
    (still_alone (own_open base) [] [] said false (λ e. let f : said ≡ [] = e in cc) (λ others other is. is))

-- a second one
up_alone : Alone (own_open base) (Begun said ∷ Begun [] ∷ FellDue ∷ []) (said ++ keepalive_sent) false
up_alone = keepalive_alone (own_open base) (Begun [] ∷ FellDue ∷ []) said
    (still_alone (own_open base) (FellDue ∷ []) [] said true (λ e. let f : said ≡ [] = e in cc) (fell_alone (own_open base) [] said false (λ others other is. is)))

not_twice : (due : Bool) → Beaten both_up (said ++ keepalive_sent ++ keepalive_sent) due → ⊥
not_twice due = none_begins (own_open base) (Begun said ∷ Begun [] ∷ FellDue ∷ []) (said ++ keepalive_sent) due up_alone

-- ---- a third of the Hold Time later another one is due, and goes out before any UPDATE

abbrev just_up : List Move
just_up = Took 1 keepalive_sent ∷ Began 1 ∷ Took 1 said ∷ Began 1 ∷ up 1 open_b (Ruled base ∷ [])

none_due_at_29 : (hearing 1 (Saw 29 ∷ just_up)).keepalives ≡ (hearing 1 just_up).keepalives
none_due_at_29 = refl

one_due_at_30 : (hearing 1 (Saw 30 ∷ just_up)).keepalives ≡ FellDue ∷ (hearing 1 just_up).keepalives
one_due_at_30 = refl

no_update_before_it : (due : Bool) → Beaten (Began 1 ∷ Saw 30 ∷ just_up) (said ++ keepalive_sent ++ route) due → ⊥
no_update_before_it due keepalives =
    let alone = keepalive_alone (own_open base) (FellDue ∷ Begun said ∷ Begun [] ∷ FellDue ∷ []) (said ++ keepalive_sent) (fell_alone (own_open base) (Begun said ∷ Begun [] ∷ FellDue ∷ []) (said ++ keepalive_sent) false up_alone) in
    let longer : ◌≡◌ {A = ℕ} 47 19 = ap length (append_cancel_left (said ++ keepalive_sent) route keepalive_sent (alone (said ++ keepalive_sent ++ route) due keepalives).0) in
    absurd (omega arith)
