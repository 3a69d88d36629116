-- The first route from one member to another, by computation, as the recorded session first_route has it: what the link took is
-- the table that is due, and it was told in order.
use Rattle.std.proofs.Common.{◌≡◌, ◌≢◌, ◌<◌, ℕ, zero, suc, List, [], ◌∷◌, ◌++◌, refl, sym, ap, ◌∙◌, subst, inl, inr, arith}
use Rattle.std.specs.Prelude.{Option, Some, None, unwrap_or, false}
use Rattle.std.proofs.lemmas.Bool.{cases_Bool}
use Rattle.std.specs.List.{AllZip}
use Rattle.rs_octets.specs.Messages.{body_of}
use Rattle.rs_octets.specs.Prefixes.{Prefix}
use Rattle.rs_attrs.specs.declared.mode.Mode.TheVariants as modes
use Rattle.rs_attrs.specs.Meaning.{Attribute, all_types}
use Rattle.rs_attrs.specs.Effects.{Change, Changes, HasEffect, MeansTable, same_prefix, table_of, table_since}
use Rattle.rs_attrs.proofs.EachOnce.{same_is}
use Rattle.rs_attrs.proofs.Rows.{u1_attributes}
use Rattle.rs_policy.specs.Verdicts.{attributes_match, matches, outcome, verdict}
use Rattle.rs_decision.specs.Choice.{unbeaten}
use Rattle.rs_outlet.specs.declared.answers.Speech.{Speech}
use Rattle.rs_core.specs.Session.Hearing.{identifier_in, table_in}
use Rattle.rs_core.specs.Drives.Steps.{Step, Happened, Offer}
use Rattle.rs_core.specs.Run.Moves.{Move, Ruled, Heard, Turned, Began, Took}
use Rattle.rs_core.specs.Run.Meaning.{hearing, due, IsServed}
use Rattle.rs_core.specs.Drives.Serving.{taken_by}
use Rattle.rs_core.specs.Told.Telling.{Speaks}
use Rattle.rs_core.specs.declared.links.Event.TheVariants.{Octets, Turn, Room}
use Rattle.rs_core.proofs.Run.Dues.{IsSameSent, due_below}
use Rattle.rs_core.proofs.Examples.DueRoutes.{base, n24, open_a, open_b, u1, up}
use Rattle.rs_core.proofs.Examples.Recorded.{announces, keepalive_sent, bodies, four, greeted, greets, means, route, said, tells, tells_route, InOrder}

abbrev pub both_up : List Move
both_up = greeted 1 said (up 1 open_b (greeted 0 said (up 0 open_a (Ruled base ∷ []))))

abbrev pub decided : List Move
decided = Turned [] ∷ Heard 0 u1 ∷ both_up

abbrev pub first_route : List Move
first_route = Began 1 ∷ Took 1 route ∷ Began 1 ∷ decided

-- ---- what the link took

taken : (hearing 1 first_route).taken ≡ said ++ keepalive_sent ++ route
taken = refl

one_update : bodies (hearing 1 first_route).taken ≡ body_of route ∷ []
one_update = refl

-- the same by the steps of the link
abbrev pub steps_before : List Step
steps_before = Happened Turn [] ∷ Happened (Octets 0 47) u1 ∷ greets 1 open_b (greets 0 open_a [])

by_steps : taken_by 1 (Offer 1 route (Some 47) ∷ Happened (Room 1 5000) [] ∷ steps_before) ≡ (hearing 1 first_route).taken
by_steps = refl

-- a takes nothing of it
by_steps_of_a : taken_by 0 (Offer 1 route (Some 47) ∷ Happened (Room 1 5000) [] ∷ steps_before) ≡ said ++ keepalive_sent
by_steps_of_a = refl

-- ---- the table that is due

elsewhere : (p : Prefix) → same_prefix p n24 ≡ false → table_since (announces ∷ []) p ≡ None
elsewhere p e = rw e

none_elsewhere : (p : Prefix) → same_prefix p n24 ≡ false → due first_route 1 p ≡ None
unfolding all_types attributes_match matches outcome verdict unbeaten
none_elsewhere p e =
    due_below base 4 1 four p identifiers identifiers (λ d q. table_in base d (hearing d first_route) q) (λ d q. None) others
  where
    identifiers : ℕ → ℕ
    identifiers d = identifier_in base d (hearing d first_route)

    others : (d : ℕ) → d < 4 → d ≢ 1 → IsSameSent (identifiers d) (identifiers d) (table_in base d (hearing d first_route) p) None
    others zero below other = record { held = elsewhere p e; identifier = λ m is. refl }
    others (suc zero) below other = absurd (other refl)
    others (suc (suc zero)) below other = record { held = refl; identifier = λ m is. refl }
    others (suc (suc (suc zero))) below other = record { held = refl; identifier = λ m is. refl }
    others (suc (suc (suc (suc d)))) below other = absurd (omega arith)

due_is : (p : Prefix) → due first_route 1 p ≡ table_of (announces ∷ []) p
unfolding all_types attributes_match matches outcome verdict unbeaten
due_is p = elim (cases_Bool (same_prefix p n24)) [
  | inl same ↦ subst (λ q. due first_route 1 q ≡ table_of (announces ∷ []) q) (sym (same_is p n24 same)) refl
  | inr other ↦ none_elsewhere p other ∙ sym (elsewhere p other)
]

means_the_table : MeansTable (bodies (said ++ keepalive_sent ++ route)) modes.Four (due first_route 1)
unfolding all_types
means_the_table = let m = means (bodies (said ++ keepalive_sent ++ route)) (announces ∷ []) refl (refl, tt) in (m.0, m.1, λ p. due_is p ∙ m.2 p)

speaks : Speaks four (said ++ keepalive_sent ++ route) (due first_route 1)
speaks = record { whole = refl; means = means_the_table }

served : IsServed first_route 1
served = record {
  established = refl;
  told = λ speech is. subst (λ (s : Speech). Speaks s (said ++ keepalive_sent ++ route) (due first_route 1)) (ap (λ o. unwrap_or o speech) is) speaks;
}

-- before the UPDATE is taken it is not served
some_none : (attributes : List Attribute) → ◌≡◌ {A = Option (List Attribute)} (Some attributes) None → ⊥
some_none attributes same = cc

none_told : (changes : List Change) → AllZip (λ body change. HasEffect body modes.Four (Changes change)) [] changes → due decided 1 n24 ≡ table_of changes n24 → ⊥
unfolding all_types attributes_match matches outcome verdict unbeaten
none_told [] zip same = some_none u1_attributes same
none_told (change ∷ changes) zip same = absurd zip

not_served_yet : IsServed decided 1 → ⊥
not_served_yet yet = let t = (yet.told four refl).means in none_told t.0 t.1 (t.2 n24)

-- ---- in order

pub in_order : InOrder (hearing 1 first_route).points (Some u1_attributes ∷ []) false
unfolding all_types attributes_match matches outcome verdict unbeaten
in_order = inl (tells_route (hearing 1 decided).points (said ++ keepalive_sent) (inl (inl (inl (refl, refl)))) (tells (said ++ keepalive_sent) [] refl tt) refl refl)
