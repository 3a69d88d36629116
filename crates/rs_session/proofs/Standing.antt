-- What follows from how the items stand.
use Rattle.std.proofs.Common.{◌≡◌, Bool, true, false, List, ◌∷◌, Option, refl, sym, ap, ◌∙◌, if◌then◌else◌}
use Rattle.rs_open.specs.declared.short.Short.{Short}
use Rattle.rs_session.specs.declared.act.State.{State}
use Rattle.rs_session.specs.declared.act.State.TheVariants as states
use Rattle.rs_session.specs.declared.act.Act.{Act}
use Rattle.rs_session.specs.declared.settings.Settings.{Settings}
use Rattle.rs_session.specs.declared.phase.Phase.{Phase}
use Rattle.rs_session.specs.declared.phase.Phase.TheVariants as phases
use Rattle.rs_session.specs.declared.phase.Peer.{Peer}
use Rattle.rs_session.specs.Items.{Item, is_connected}
use Rattle.rs_session.specs.Endings.{Fate, GoesOn, Ends}
use Rattle.rs_session.specs.Sessions.{fate, earlier, state_of, is_live}
use Rattle.rs_session.specs.Hearing.{HasAgreed, Stands, Stays, GoesDown}
use Rattle.rs_session.specs.Steps.{step}
use Rattle.rs_session.proofs.Phases.{state_in, sent_in, state_is, agreed_is}

-- ---- what an item makes of the end so far

pub earlier_goes : (f g : Fate) → f ≡ GoesOn → earlier f g ≡ g
earlier_goes f g e = ap (λ x. earlier x g) e

pub earlier_ended : (f g : Fate) (said : Option Short) → f ≡ Ends said → earlier f g ≡ Ends said
earlier_ended f g said e = ap (λ x. earlier x g) e

-- ---- answers by the state

pub live_act : (st : State) (act none : Act) → is_live st ≡ true → (if is_live st then act else none) ≡ act
live_act st act none e = ap (λ b. if b then act else none) e

pub still_act : (st : State) (act none : Act) → is_live st ≡ false
    → (if is_live st then act else none) ≡ none
still_act st act none e = ap (λ b. if b then act else none) e

-- a phase after a step, where the item has this fate
pub stands_by : (f : Fate) (phase : Phase) (act : Act) (s : Settings) (items : List Item)
    → is_connected items ≡ true → fate s items ≡ f → (f ≡ GoesOn → Stands phase s items)
    → Stands (step f phase act).0 s items
stands_by (Ends said) phase act s items c e k = record { connected = c; note = said; ends = e }
stands_by GoesOn phase act s items c e k = k refl

-- ---- what an answer tells

pub same : (p q : Phase) (s : Settings) (items : List Item) (item : Item) → Stands p s items
    → Stands q s (item ∷ items) → state_in q ≡ state_in p → sent_in q ≡ sent_in p
    → Stays s items (item ∷ items)
same p q s items item h k e f = record {
  state = state_is q s (item ∷ items) k ∙ e ∙ sym (state_is p s items h);
  agreed = agreed_is q s (item ∷ items) k ∙ f ∙ sym (agreed_is p s items h);
}

pub down : (phase : Phase) (s : Settings) (items : List Item) (item : Item) (said : Option Short)
    → Stands phase s items → is_live (state_in phase) ≡ true → is_connected (item ∷ items) ≡ true
    → fate s (item ∷ items) ≡ Ends said → GoesDown s items (item ∷ items) said
down phase s items item said h l c e = record {
  live = ap is_live (state_is phase s items h) ∙ l;
  now = state_is phases.Closing s (item ∷ items) (record { connected = c; note = said; ends = e });
  ends = e;
}

pub state_confirmed : (s : Settings) (items : List Item) (peer : Peer) (b : Bool) → peer.confirmed ≡ b
    → HasAgreed s items peer → state_of s items ≡ (if b then states.Established else states.OpenConfirm)
state_confirmed s items peer b e w =
    state_is (phases.Agreed peer) s items w
    ∙ ap (λ b. if b then states.Established else states.OpenConfirm) e

pub live_confirmed : (b : Bool) → is_live (if b then states.Established else states.OpenConfirm) ≡ true
live_confirmed false = refl
live_confirmed true = refl
