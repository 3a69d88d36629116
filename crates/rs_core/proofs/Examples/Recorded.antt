-- What links took in recorded sessions of a small exchange (examples/sessions), for the worked examples of what a client was told:
-- the octets, what the UPDATEs among them change, and what alone is in order where 198.51.100.0/24 was told once, or not at all.
use Rattle.std.proofs.Common.{◌≡◌, ◌≢◌, ◌⊎◌, ℕ, Bool, true, false, List, [], ◌∷◌, ap, sym, ◌∙◌, refl, subst, inl, inr}
use Rattle.std.specs.Prelude.{codes, nat_lt, Some, None, reverse, ◌&&◌}
use Rattle.std.specs.List.{AllZip}
use Rattle.std.specs.Cmp.{first_so, second_so}
use Rattle.std.proofs.lemmas.Bool.{ltb-true, false≢true}
use Rattle.rs_octets.specs.Messages.{rest_of}
use Rattle.rs_attrs.specs.Spellings.{AreOctets}
use Rattle.rs_attrs.specs.declared.mode.Mode.TheVariants as modes
use Rattle.rs_attrs.specs.Effects.{Change, Changes, HasEffect, MeansTable, effect_of, table_of}
use Rattle.rs_attrs.proofs.Rows.{u1_attributes}
use Rattle.rs_update.proofs.OneEffect.{have_effects}
use Rattle.rs_open.specs.declared.short.Limit.TheVariants as limits
use Rattle.rs_outlet.specs.declared.answers.Speech.{Speech}
use Rattle.rs_core.specs.Drives.Steps.{Step, Happened, Begin, Offer}
use Rattle.rs_core.specs.Run.Moves.{Move, Began, Took}
use Rattle.rs_core.specs.Told.Order.{TellsAt, TellsInOrder, TellsOneMore, told_by}
use Rattle.rs_core.specs.Told.Points.{Point, Offered, Value, dues_at, latest}
use Rattle.rs_core.specs.Told.Telling.{allowed_to, updates_in}
use Rattle.rs_core.specs.declared.links.Event.TheVariants.{Opened, Octets, Room}
use Rattle.rs_core.proofs.Examples.DueRoutes.{keepalive, m, n24}

-- ---- the octets

-- the server's OPEN, and its KEEPALIVE
abbrev pub said : List ℕ
said = m (codes "0025 01 04 fbf4 005a c0000201 08 0206 4104 0000fbf4")

abbrev pub keepalive_sent : List ℕ
keepalive_sent = m (codes "0013 04")

-- UPDATEs: with a's route to 198.51.100.0/24, and with the one that has a MULTI_EXIT_DISC of 5
abbrev pub route : List ℕ
route = m (codes "002f 02 0000 0014 40010100 40020602010000fbf0 400304c000020b 18c63364")

abbrev pub route_5 : List ℕ
route_5 = m (codes "0036 02 0000 001b 40010100 40020602010000fbf0 400304c000020b 80040400000005 18c63364")

-- a client that came up takes the OPEN and the KEEPALIVE, and no more is there for it
abbrev pub greeted : ℕ → List ℕ → List Move → List Move
greeted c opening run = Began c ∷ Took c keepalive_sent ∷ Began c ∷ Took c opening ∷ Began c ∷ run

-- and so it is by the steps of the link
abbrev pub greets : ℕ → List ℕ → List Step → List Step
greets c opening steps =
    Offer c keepalive_sent (Some 19) ∷ Offer c said (Some 37) ∷ Happened (Room c 1000) [] ∷ Happened (Octets c 19) keepalive ∷ Happened (Octets c 37) opening ∷ Begin c ∷ Happened (Opened c) [] ∷ steps

-- ---- what they mean

abbrev pub announces : Change
announces = record { withdrawn = []; announced = n24 ∷ []; attributes = Some u1_attributes }

-- by its OPEN each client is spoken to like this: with AS numbers of four octets, in messages of at most 4,096
abbrev pub four : Speech
four = record { mode = modes.Four; limit = limits.Short }

-- the bodies of the UPDATEs among octets
abbrev pub bodies : List ℕ → List (List ℕ)
bodies octets = updates_in limits.Short octets

-- by the UPDATEs among octets these values are told at 198.51.100.0/24, the newest first
abbrev pub Tells : List ℕ → List Value → Type 0
Tells octets values = TellsAt four octets n24 values

-- by what befell a client, it was told these values there in order, and has or has not asked since
abbrev pub InOrder : List Point → List Value → Bool → Type 0
InOrder points values asked = TellsInOrder four points n24 values asked

-- the newest of these values was told by a message that began after these octets and these points
abbrev pub OneMore : List Point → List ℕ → List Value → Bool → Type 0
OneMore points taken values asked = TellsOneMore four points taken n24 (λ earlier was. InOrder points earlier was) values asked

-- ---- what is computed of bodies holds of them

abbrev are_octets : List ℕ → Bool
are_octets [] = true
are_octets (octet ∷ octets) = nat_lt octet 256 && are_octets octets

abbrev pub all_octets : List (List ℕ) → Bool
all_octets [] = true
all_octets (body ∷ all) = are_octets body && all_octets all

abbrev pub AreChanges : List (List ℕ) → List Change → Type 0
AreChanges all changes = AllZip (λ body change. effect_of body modes.Four ≡ Changes change) all changes

octets_are : (octets : List ℕ) → are_octets octets ≡ true → AreOctets octets
octets_are [] small = tt
octets_are (octet ∷ octets) small = (ltb-true octet 256 (first_so (nat_lt octet 256) (are_octets octets) small), octets_are octets (second_so (nat_lt octet 256) (are_octets octets) small))

effects_are : (all : List (List ℕ)) (changes : List Change) → all_octets all ≡ true → AreChanges all changes → AllZip (λ body change. HasEffect body modes.Four (Changes change)) all changes
effects_are [] [] small are = tt
effects_are [] (change ∷ changes) small are = absurd are
effects_are (body ∷ all) [] small are = absurd are
effects_are (body ∷ all) (change ∷ changes) small are = (
  subst (λ effect. HasEffect body modes.Four effect) are.0 (have_effects body modes.Four (octets_are body (first_so (are_octets body) (all_octets all) small))),
  effects_are all changes (second_so (are_octets body) (all_octets all) small) are.1,
)

-- the UPDATEs with these bodies mean the table of these changes, the oldest first
pub means : (all : List (List ℕ)) (changes : List Change) → all_octets all ≡ true → AreChanges all changes → MeansTable all modes.Four (table_of changes)
means all changes small are = (changes, effects_are all changes small are, λ p. refl)

-- and tell at 198.51.100.0/24 what these changes do
pub tells : (octets : List ℕ) (changes : List Change) → all_octets (bodies octets) ≡ true → AreChanges (bodies octets) changes → Tells octets (told_by (reverse changes) n24)
tells octets changes small are = record { changes = changes; have = effects_are (bodies octets) changes small are; are = refl }

-- ---- one value more

-- the value that is due is told, by a message that began after these octets, where it wasn't told last or was asked for
pub tells_more : (points : List Point) (taken : List ℕ) (value : Value) (earlier : List Value) (was_asked : Bool) → InOrder points earlier was_asked → Tells taken earlier
    → rest_of (allowed_to limits.Short) taken ≡ [] → value ≡ latest (dues_at points n24) → (value ≢ latest earlier) ⊎ (was_asked ≡ true) → InOrder (Offered taken ∷ points) (value ∷ earlier) false
tells_more points taken value earlier was_asked before told whole due news = inr (record {
  value = value;
  earlier = earlier;
  was_asked = was_asked;
  are = refl;
  before = before;
  taken_tells = told;
  whole = whole;
  due = due;
  news = news;
  answered = refl;
})

-- a's route is told, where none was told before
pub tells_route : (points : List Point) (taken : List ℕ) → InOrder points [] false → Tells taken [] → rest_of (allowed_to limits.Short) taken ≡ [] → Some u1_attributes ≡ latest (dues_at points n24)
    → InOrder (Offered taken ∷ points) (Some u1_attributes ∷ []) false
tells_route points taken before told whole due =
    tells_more points taken (Some u1_attributes) [] false before told whole due (inl (λ e. let f : ◌≡◌ {A = Value} (Some u1_attributes) None = e in cc))

-- ---- what alone is in order

-- where none was told and none is due, none is told
abbrev pub NothingAlone : List Point → Type 0
NothingAlone points = (values : List Value) (asked : Bool) → InOrder points values asked → (values ≡ []) × (asked ≡ false)

pub nothing_more : (points : List Point) (taken : List ℕ) → latest (dues_at points n24) ≡ None → NothingAlone points → NothingAlone (Offered taken ∷ points)
nothing_more points taken none alone values asked (inl before) = alone values asked before
nothing_more points taken none alone values asked (inr more) =
    let was = alone more.earlier more.was_asked more.before in
    elim more.news [
      | inl news ↦ absurd (news (more.due ∙ none ∙ sym (ap latest was.0)))
      | inr again ↦ absurd (false≢true (sym was.1 ∙ again))
    ]

-- where one value was told at most, and it is due, it is told once at most
abbrev pub Once : Value → List Point → Type 0
Once value points = (values : List Value) (asked : Bool) → InOrder points values asked → ((values ≡ []) ⊎ (values ≡ value ∷ [])) × (asked ≡ false)

pub no_more_than_once : (value : Value) (points : List Point) → NothingAlone points → Once value points
no_more_than_once value points alone values asked order = let was = alone values asked order in (inl was.0, was.1)

pub once_more : (value : Value) (points : List Point) (taken : List ℕ) → latest (dues_at points n24) ≡ value → Once value points → Once value (Offered taken ∷ points)
once_more value points taken due once values asked (inl before) = once values asked before
once_more value points taken due once values asked (inr more) =
    let was = once more.earlier more.was_asked more.before in (
      elim was.0 [
        | inl none ↦ inr (more.are ∙ (λ i. (more.due ∙ due) i ∷ none i))
        | inr told ↦ elim more.news [
          | inl news ↦ absurd (news (more.due ∙ due ∙ sym (ap latest told)))
          | inr again ↦ absurd (false≢true (sym was.1 ∙ again))
        ]
      ],
      more.answered,
    )
