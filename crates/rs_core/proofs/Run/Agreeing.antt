-- Agreement that is joined from what was done for one client, and from what was left alone.
use Rattle.std.proofs.Common.{◌≡◌, ◌≢◌, ◌<◌, ◌≤◌, ◌+◌, ◌==◌, inl, inr, ℕ, Bool, true, false, List, ◌∷◌, refl, sym, ◌∙◌, subst, arith}
use Rattle.std.specs.Prelude.{None, if◌then◌else◌}
use Rattle.rs_octets.specs.Prefixes.{Prefix}
use Rattle.rs_adjin.specs.AdjIns.{held_of, identifier_of, Begins}
use Rattle.rs_adjin.specs.declared.adj_ins.AdjIns.{AdjIns}
use Rattle.rs_policy.specs.Configuration.{Configuration}
use Rattle.rs_core.specs.Run.Moves.{Move, Saw, config_in}
use Rattle.rs_core.specs.Session.Hearing.{Hearing, sees}
use Rattle.rs_core.specs.Run.Meaning.{hearing}
use Rattle.rs_core.specs.Run.Agreeing.{Knows, AgreesAt, IsCutShort, Agrees, Spares}
use Rattle.rs_core.specs.Ribs.{outlet_in}
use Rattle.rs_core.specs.declared.route_server.Core.{Core}
use Rattle.rs_core.proofs.Run.Lists.{own, other}
use Rattle.rs_core.proofs.Told.Alike.{still}
use Rattle.rs_core.proofs.Told.BySession.{spoken_same}
use Rattle.rs_core.proofs.Run.Around.{others_alone_on}
use Rattle.rs_core.proofs.Touched.KeptAnswers.{answers_on}
use Rattle.rs_core.proofs.Told.Ordering.{same_ordered}
use Rattle.rs_core.proofs.Run.Clients.{equal_or}

-- ---- one client has begun, or begun again

flip : {A : Type 0} (c d : ℕ) → d ≢ c → (x y : A) → (if d == c then x else y) ≡ y
flip c d ne x y = other d c x y (λ e. ne (sym e))

pub begun_held : (old new : AdjIns) (c i : ℕ) → Begins old new c i → (p : Prefix) → held_of new c p ≡ None
begun_held old new c i h p = h.held c p ∙ own c None (held_of old c p)

pub begun_identifier : (old new : AdjIns) (c i : ℕ) → Begins old new c i → identifier_of new c ≡ i
begun_identifier old new c i h = h.identifiers c ∙ own c i (identifier_of old c)

pub others_held : (old new : AdjIns) (c i : ℕ) → Begins old new c i → (d : ℕ) (p : Prefix) → d ≢ c → held_of new d p ≡ held_of old d p
others_held old new c i h d p ne = h.held d p ∙ flip c d ne None (held_of old d p)

pub others_identifiers : (old new : AdjIns) (c i : ℕ) → Begins old new c i → (d : ℕ) → d ≢ c → identifier_of new d ≡ identifier_of old d
others_identifiers old new c i h d ne = h.identifiers d ∙ flip c d ne i (identifier_of old d)

-- begun, and begun again
pub begun_again : (old mid new : AdjIns) (c i : ℕ) → Begins old mid c 0 → Begins mid new c i → Begins old new c i
begun_again old mid new c i h k = record {
  count = k.count ∙ h.count;
  identifiers = λ d. k.identifiers d ∙ twice d (d == c) i (identifier_of mid d) 0 (identifier_of old d) (h.identifiers d);
  held = λ d p. k.held d p ∙ twice d (d == c) None (held_of mid d p) None (held_of old d p) (h.held d p);
} where
  twice : {A : Type 0} (d : ℕ) (b : Bool) (x y w z : A) → y ≡ (if b then w else z) → (if b then x else y) ≡ (if b then x else z)
  twice d true x y w z e = refl
  twice d false x y w z e = e

-- ---- the others

pub spared : (c d : ℕ) (old new : Core) (s : Configuration) (h : Hearing) → Spares c old new → d ≢ c → d < old.count → AgreesAt old s d h → AgreesAt new s d h
spared c d old new s h it ne lt at = record {
  knows = record {
    session = λ x e. at.knows.session x (sym (it.sessions d ne) ∙ e);
    table = λ p. it.held d p ne ∙ at.knows.table p;
    identifier = it.identifiers d ne ∙ at.knows.identifier;
    outlet = λ config none. spoken_same s d h (outlet_in old.ribs d none) (outlet_in new.ribs d none) (it.others_alone d none (subst (λ n. d < n) (sym old.ribs_len) lt) ne)
        (at.knows.outlet (sym it.config ∙ config) none);
    ordered = λ config none. same_ordered s d h (outlet_in old.ribs d none) (outlet_in new.ribs d none) (still _ _ (it.others_alone d none (subst (λ n. d < n) (sym old.ribs_len) lt) ne))
        (at.knows.ordered (sym it.config ∙ config) none);
    watched = λ x e. at.knows.watched x (sym (it.watched d ne) ∙ e);
  };
  waits = λ x e. at.waits x (sym (it.buffers d ne) ∙ e);
}

pub spares_both : (c : ℕ) (old mid new : Core) → Spares c old mid → Spares c mid new → Spares c old new
spares_both c old mid new a b = record {
  count = b.count ∙ a.count;
  config = b.config ∙ a.config;
  sessions = λ d ne. b.sessions d ne ∙ a.sessions d ne;
  buffers = λ d ne. b.buffers d ne ∙ a.buffers d ne;
  held = λ d p ne. b.held d p ne ∙ a.held d p ne;
  identifiers = λ d ne. b.identifiers d ne ∙ a.identifiers d ne;
  others_alone = others_alone_on c old.ribs mid.ribs new.ribs (mid.ribs_len ∙ a.count ∙ sym old.ribs_len) a.others_alone b.others_alone;
  watched = λ d ne. b.watched d ne ∙ a.watched d ne;
  answers = answers_on old.ribs mid.ribs new.ribs (mid.ribs_len ∙ a.count ∙ sym old.ribs_len) a.answers b.answers;
}

-- ---- all of them

-- what is held of each client is what the run means, whatever is touched for it, and whatever its last turn answered
pub record AgreesOnClients (core : Core) (run : List Move) : Type 0 where
  pub config : core.ribs.config ≡ config_in run
  pub clients : (c : ℕ) → c < core.count → AgreesAt core (config_in run) c (hearing c run)

pub on_clients : (core : Core) (run : List Move) → Agrees core run → AgreesOnClients core run
on_clients core run h = record { config = h.config; clients = h.clients }

-- what holds of all, said of one client
pub grown : (old new : Core) (c : ℕ) (run more : List Move) → config_in more ≡ config_in run → ((d : ℕ) → d ≢ c → hearing d more ≡ hearing d run)
    → Agrees old run → Spares c old new → AgreesAt new (config_in run) c (hearing c more) → AgreesOnClients new more
grown old new c run more config others h it at = record {
  config = it.config ∙ h.config ∙ sym config;
  clients = λ d lt. subst (λ s. AgreesAt new s d (hearing d more)) (sym config) (elim (equal_or d c) [
    | inl same ↦ subst (λ i. AgreesAt new (config_in run) i (hearing i more)) (sym same) at
    | inr ne ↦ subst (λ k. AgreesAt new (config_in run) d k) (sym (others d ne)) (let within = subst (λ n. d < n) it.count lt in spared c d old new (config_in run) (hearing d run) it ne within (h.clients d within))
  ]);
}

pub cut_short : (core : Core) (s : Configuration) (c : ℕ) (h : Hearing) → Knows core s c h → IsCutShort core s c h
cut_short core s c h knows = record { items = h.items; moment = refl; session = knows.session }

-- ---- one client after the other

-- the clients below n have seen the moment, and the others not yet
pub record HaveSeen (t n : ℕ) (core : Core) (run : List Move) : Type 0 where
  pub config : core.ribs.config ≡ config_in run
  pub seen : (d : ℕ) → d < n → d < core.count → AgreesAt core (config_in run) d (sees (config_in run) d t (hearing d run))
  pub unseen : (d : ℕ) → n ≤ d → d < core.count → AgreesAt core (config_in run) d (hearing d run)

pub none_seen : (t : ℕ) (core : Core) (run : List Move) → Agrees core run → HaveSeen t 0 core run
none_seen t core run h = record { config = h.config; seen = λ d lt. absurd (omega (arith, lt)); unseen = λ d ge. h.clients d }

pub one_seen : (t c n : ℕ) (old new : Core) (run : List Move) → n ≡ c + 1 → c < old.count → Spares c old new
    → ((s : Configuration) (h : Hearing) → AgreesAt old s c h → AgreesAt new s c (sees s c t h)) → HaveSeen t c old run → HaveSeen t n new run
one_seen t c n old new run next lt it sees_at h = record {
  config = it.config ∙ h.config;
  seen = λ d below within. elim (equal_or d c) [
    | inl same ↦ subst (λ i. AgreesAt new (config_in run) i (sees (config_in run) i t (hearing i run))) (sym same) (sees_at (config_in run) (hearing c run) (h.unseen c (omega arith) lt))
    | inr ne ↦ let there = subst (λ k. d < k) it.count within in spared c d old new (config_in run) (sees (config_in run) d t (hearing d run)) it ne there (h.seen d (omega (arith, below, next, ne)) there)
  ];
  unseen = λ d above within. let there = subst (λ k. d < k) it.count within in
      spared c d old new (config_in run) (hearing d run) it (λ e. absurd (omega (arith, e, above, next))) there (h.unseen d (omega (arith, above, next)) there);
}

pub all_seen : (t n : ℕ) (core : Core) (run : List Move) → core.count ≤ n → HaveSeen t n core run → AgreesOnClients core (Saw t ∷ run)
all_seen t n core run le h = record { config = h.config; clients = λ d lt. h.seen d (omega (arith, lt, le)) lt }
