-- What a client's Adj-RIB-In has and what the client is known by, after what its session asked for.
use Rattle.std.proofs.Common.{◌≡◌, inl, inr, ℕ, true, false, List, [], refl, sym, ◌∙◌, ap}
use Rattle.std.specs.Prelude.{Some, None, slice_get, if◌then◌else◌}
use Rattle.std.proofs.lemmas.Bool.{cases_Bool}
use Rattle.rs_octets.specs.Prefixes.{Prefix}
use Rattle.rs_attrs.specs.Effects.{table_since}
use Rattle.rs_open.specs.declared.short.Short.{Short}
use Rattle.rs_open.specs.declared.short.Short.TheVariants as short
use Rattle.rs_session.specs.declared.act.Act.{Act}
use Rattle.rs_session.specs.declared.act.Act.TheVariants as acts
use Rattle.rs_session.specs.declared.session.Session.{Session}
use Rattle.rs_session.specs.Sessions.{agreed_identifier, identifier_by}
use Rattle.rs_session.specs.Hearing.{HasHeard, Tells, Stays}
use Rattle.rs_session.specs.declared.act.State.{State}
use Rattle.rs_session.specs.declared.act.State.TheVariants as states
use Rattle.rs_adjin.specs.AdjIns.{held_of, identifier_of}
use Rattle.rs_adjin.specs.declared.adj_ins.AdjIns.{AdjIns}
use Rattle.rs_policy.specs.Configuration.{Configuration}
use Rattle.rs_core.specs.Session.Hearing.{Hearing, session_in, state_in, is_up, identifier_in, table_in}
use Rattle.rs_core.specs.Run.Parts.{ActsOn}
use Rattle.rs_core.proofs.Run.Agreeing.{begun_held, begun_identifier}

-- ---- what a client holds and is known by, by its state

pub down_table : (s : Configuration) (c : ℕ) (h : Hearing) → is_up (state_in s c h) ≡ false → (p : Prefix) → table_in s c h p ≡ None
down_table s c h e p = ap (λ b. if b then table_since h.changes p else None) e

pub down_identifier : (s : Configuration) (c : ℕ) (h : Hearing) → is_up (state_in s c h) ≡ false → identifier_in s c h ≡ 0
down_identifier s c h e = ap (λ b. if b then agreed_identifier (session_in s c) h.items else 0) e

pub up_table : (s : Configuration) (c : ℕ) (h : Hearing) → is_up (state_in s c h) ≡ true → (p : Prefix) → table_in s c h p ≡ table_since h.changes p
up_table s c h e p = ap (λ b. if b then table_since h.changes p else None) e

pub up_identifier : (s : Configuration) (c : ℕ) (h : Hearing) → is_up (state_in s c h) ≡ true → identifier_in s c h ≡ agreed_identifier (session_in s c) h.items
up_identifier s c h e = ap (λ b. if b then agreed_identifier (session_in s c) h.items else 0) e

pub up_is : (state : State) → is_up state ≡ true → state ≡ states.Established
up_is states.Idle e = absurd (cc)
up_is states.OpenSent e = absurd (cc)
up_is states.OpenConfirm e = absurd (cc)
up_is states.Established e = refl
up_is states.Closing e = absurd (cc)

-- both are what they were
pub record IsAlike (s : Configuration) (c : ℕ) (h next : Hearing) : Type 0 where
  pub table : (p : Prefix) → table_in s c h p ≡ table_in s c next p
  pub identifier : identifier_in s c h ≡ identifier_in s c next

pub both_down : (s : Configuration) (c : ℕ) (h next : Hearing) → is_up (state_in s c h) ≡ false → is_up (state_in s c next) ≡ false → IsAlike s c h next
both_down s c h next before now = record {
  table = λ p. down_table s c h before p ∙ sym (down_table s c next now p);
  identifier = down_identifier s c h before ∙ sym (down_identifier s c next now);
}

stays_alike : (s : Configuration) (c : ℕ) (h next : Hearing) → Stays (session_in s c) h.items next.items
    → (is_up (state_in s c h) ≡ true → is_up (state_in s c next) ≡ true → next.changes ≡ h.changes) → IsAlike s c h next
stays_alike s c h next stays same = elim (cases_Bool (is_up (state_in s c h))) [
  | inl up ↦
      let now : is_up (state_in s c next) ≡ true = ap is_up stays.state ∙ up in
      record {
        table = λ p. up_table s c h up p ∙ ap (λ cs. table_since cs p) (sym (same up now)) ∙ sym (up_table s c next now p);
        identifier = up_identifier s c h up ∙ ap identifier_by (sym stays.agreed) ∙ sym (up_identifier s c next now);
      }
  | inr down ↦ both_down s c h next down (ap is_up stays.state ∙ down)
]

says_alike : (message : Short) (s : Configuration) (c : ℕ) (h next : Hearing) → Tells (acts.Say message) (session_in s c) h.items next.items
    → (is_up (state_in s c h) ≡ true → is_up (state_in s c next) ≡ true → next.changes ≡ h.changes) → IsAlike s c h next
says_alike short.Open s c h next tells same = both_down s c h next (ap is_up tells.before) (ap is_up tells.now)
says_alike short.Keepalive s c h next tells same = elim tells [
  | inl confirms ↦ both_down s c h next (ap is_up confirms.before) (ap is_up confirms.now)
  | inr keepalives ↦ stays_alike s c h next keepalives.same same
]
says_alike (short.Note code sub extra count) s c h next tells same = absurd tells

-- ---- what is done

-- the Adj-RIB-In then has what was heard
pub record Has (ins : AdjIns) (s : Configuration) (c : ℕ) (h : Hearing) : Type 0 where
  pub table : (p : Prefix) → held_of ins c p ≡ table_in s c h p
  pub identifier : identifier_of ins c ≡ identifier_in s c h

alike_has : (old new : AdjIns) (s : Configuration) (c : ℕ) (h next : Hearing) → new ≡ old → IsAlike s c h next → Has old s c h → Has new s c next
alike_has old new s c h next e alike has = record {
  table = λ p. ap (λ ins. held_of ins c p) e ∙ has.table p ∙ alike.table p;
  identifier = ap (λ ins. identifier_of ins c) e ∙ has.identifier ∙ alike.identifier;
}

pub acted_has : (act : Act) (old new : AdjIns) (sessions : List Session) (x : Session) (s : Configuration) (c : ℕ) (h next : Hearing)
    → ActsOn act c sessions old new → slice_get sessions c ≡ Some x → HasHeard x (session_in s c) next.items
    → Tells act (session_in s c) h.items next.items
    → (is_up (state_in s c h) ≡ false → act ≡ acts.Up → next.changes ≡ [])
    → (is_up (state_in s c h) ≡ true → is_up (state_in s c next) ≡ true → next.changes ≡ h.changes)
    → Has old s c h → Has new s c next
acted_has acts.None old new sessions x s c h next does read heard tells fresh same has = alike_has old new s c h next does (stays_alike s c h next tells same) has
acted_has (acts.Say message) old new sessions x s c h next does read heard tells fresh same has = alike_has old new s c h next does (says_alike message s c h next tells same) has
acted_has acts.Up old new sessions x s c h next does read heard tells fresh same has =
    let begins = does x read (session_in s c) next.items heard tells.now in
    let now : is_up (state_in s c next) ≡ true = ap is_up tells.now in
    record {
      table = λ p. begun_held old new c _ begins p ∙ ap (λ cs. table_since cs p) (sym (fresh (ap is_up tells.before) refl)) ∙ sym (up_table s c next now p);
      identifier = begun_identifier old new c _ begins ∙ sym (up_identifier s c next now);
    }
acted_has (acts.Down _) old new sessions x s c h next does read heard tells fresh same has =
    let now : is_up (state_in s c next) ≡ false = ap is_up tells.now in
    record {
      table = λ p. begun_held old new c 0 does p ∙ sym (down_table s c next now p);
      identifier = begun_identifier old new c 0 does ∙ sym (down_identifier s c next now);
    }
acted_has acts.Again old new sessions x s c h next does read heard tells fresh same has = alike_has old new s c h next does (stays_alike s c h next tells.same same) has
