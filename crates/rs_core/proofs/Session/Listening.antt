-- Hearings that follow each other.
use Rattle.std.proofs.Common.{◌≡◌, ℕ, Bool, true, false, List, [], ◌∷◌, ◌++◌, length, drop, refl, sym, ◌∙◌, ap, append_assoc}
use Rattle.std.specs.Prelude.{Result, if◌then◌else◌}
use Rattle.std.proofs.lemmas.List.{append-nil}
use Rattle.std.proofs.Math.Seq.{drop-append_seam}
use Rattle.rs_octets.specs.declared.heads.HeaderFault.{HeaderFault}
use Rattle.rs_octets.specs.Messages.{heard_of, newly_heard}
use Rattle.rs_octets.proofs.Pieces.{newly_joined}
use Rattle.rs_session.specs.Sessions.{is_live}
use Rattle.rs_session.specs.Items.{greatest}
use Rattle.rs_policy.specs.Configuration.{Configuration}
use Rattle.rs_core.specs.Session.Hearing.{Hearing, allowed_in, state_in, said_in, takes_in, listens, listens_to, with_octets, hears}

abbrev pub Heards : Type 0
Heards = List (Result (List ℕ) HeaderFault)

-- the octets are carried along
pub listens_octets : (s : Configuration) (c : ℕ) (octets : List ℕ) (m : Result (List ℕ) HeaderFault) (h : Hearing) → listens s c m (with_octets octets h) ≡ with_octets octets (listens s c m h)
listens_octets s c octets m h = by_it (is_live (state_in s c h)) where
  by_it : (b : Bool) → (if b then takes_in s c (said_in s c h m) (with_octets octets h) else with_octets octets h) ≡ with_octets octets (if b then takes_in s c (said_in s c h m) h else h)
  by_it true = refl
  by_it false = refl

all_octets : (s : Configuration) (c : ℕ) (octets : List ℕ) (ms : Heards) (h : Hearing) → listens_to s c ms (with_octets octets h) ≡ with_octets octets (listens_to s c ms h)
all_octets s c octets [] h = refl
all_octets s c octets (m ∷ ms) h = ap (listens_to s c ms) (listens_octets s c octets m h) ∙ all_octets s c octets ms (listens s c m h)

all_joined : (s : Configuration) (c : ℕ) (ms ns : Heards) (h : Hearing) → listens_to s c (ms ++ ns) h ≡ listens_to s c ns (listens_to s c ms h)
all_joined s c [] ns h = refl
all_joined s c (m ∷ ms) ns h = all_joined s c ms ns (listens s c m h)

-- two pieces are heard as one
pub hears_joined : (s : Configuration) (c : ℕ) (first later : List ℕ) (h : Hearing) → hears s c later (hears s c first h) ≡ hears s c (first ++ later) h
hears_joined s c first later h =
    let a = allowed_in s in
    let one : Hearing = listens_to s c (newly_heard a h.octets first) h in
    ap (with_octets ((h.octets ++ first) ++ later)) (all_octets s c (h.octets ++ first) (newly_heard a (h.octets ++ first) later) one)
    ∙ ap (with_octets ((h.octets ++ first) ++ later)) (sym (all_joined s c (newly_heard a h.octets first) (newly_heard a (h.octets ++ first) later) h))
    ∙ (λ i. with_octets (append_assoc h.octets first later i) (listens_to s c (sym (newly_joined a h.octets first later) i) h))

-- no octets say nothing
pub hears_nothing : (s : Configuration) (c : ℕ) (h : Hearing) → hears s c [] h ≡ h
hears_nothing s c h =
    let a = allowed_in s in
    let none : newly_heard a h.octets [] ≡ [] = ap (λ l. drop (length (heard_of a h.octets)) (heard_of a l)) (append-nil h.octets) ∙ ap (drop (length (heard_of a h.octets))) (sym (append-nil (heard_of a h.octets))) ∙ drop-append_seam (heard_of a h.octets) [] in
    (λ i. with_octets (append-nil h.octets i) (listens_to s c (none i) h))

-- what has ended, or not begun, hears nothing
pub deaf : (s : Configuration) (c : ℕ) (ms : Heards) (h : Hearing) → is_live (state_in s c h) ≡ false → listens_to s c ms h ≡ h
deaf s c [] h e = refl
deaf s c (m ∷ ms) h e = ap (λ b. listens_to s c ms (if b then takes_in s c (said_in s c h m) h else h)) e ∙ deaf s c ms h e

-- messages move no moment
listens_moment : (s : Configuration) (c : ℕ) (m : Result (List ℕ) HeaderFault) (h : Hearing) → greatest (listens s c m h).items ≡ greatest h.items
listens_moment s c m h = by_it (is_live (state_in s c h)) where
  by_it : (b : Bool) → greatest (if b then takes_in s c (said_in s c h m) h else h).items ≡ greatest h.items
  by_it true = refl
  by_it false = refl

all_moment : (s : Configuration) (c : ℕ) (ms : Heards) (h : Hearing) → greatest (listens_to s c ms h).items ≡ greatest h.items
all_moment s c [] h = refl
all_moment s c (m ∷ ms) h = all_moment s c ms (listens s c m h) ∙ listens_moment s c m h

pub hears_moment : (s : Configuration) (c : ℕ) (octets : List ℕ) (h : Hearing) → greatest (hears s c octets h).items ≡ greatest h.items
hears_moment s c octets h = all_moment s c (newly_heard (allowed_in s) h.octets octets) h
