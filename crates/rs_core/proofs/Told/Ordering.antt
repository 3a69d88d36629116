-- The order of what a client is told, after each thing that befalls it but the beginning of a message.
use Rattle.std.proofs.Common.{◌≡◌, inl, inr, ℕ, Bool, true, false, not, ◌&&◌, List, [], ◌∷◌, ◌++◌, take, drop, refl, sym, ◌∙◌, ap, subst, append_assoc}
use Rattle.std.specs.Prelude.{Option, Some, None, slice_get}
use Rattle.std.specs.List.{AllZip}
use Rattle.std.specs.FinMap as fin
use Rattle.std.specs.FinSet as set
use Rattle.std.proofs.lemmas.Bool.{false≢true}
use Rattle.std.proofs.lemmas.List.{take-append-drop}
use Rattle.std.proofs.Math.Bool.{and-true}
use Rattle.rs_octets.specs.declared.heads.Kind.TheVariants as kinds
use Rattle.rs_octets.specs.Prefixes.{Prefix}
use Rattle.rs_attrs.specs.Effects.{Changes, HasEffect}
use Rattle.rs_open.specs.declared.short.Short.{Short}
use Rattle.rs_open.specs.declared.short.Short.TheVariants as short
use Rattle.rs_open.specs.Writing.{server_open}
use Rattle.rs_open.proofs.ShortMessages.{short_is_message}
use Rattle.rs_session.specs.declared.act.Act.{Act}
use Rattle.rs_session.specs.declared.act.Act.TheVariants as acts
use Rattle.rs_session.specs.declared.session.Session.{Session}
use Rattle.rs_session.specs.Sessions.{is_live}
use Rattle.rs_session.specs.Hearing.{Asks, HasHeard, Tells, Stays, Says}
use Rattle.rs_adjin.specs.declared.adj_ins.AdjIns.{AdjIns}
use Rattle.rs_policy.specs.Configuration.{Configuration}
use Rattle.rs_outlet.specs.declared.answers.Speech.{Speech}
use Rattle.rs_outlet.specs.Decided.Turns.{IsCurrent}
use Rattle.rs_outlet.specs.Views.{View, AreNumbered}
use Rattle.rs_core.specs.Told.Points.{Point, Asked, Value, asked_if, dues_at, latest}
use Rattle.rs_core.specs.Told.Order.{IsOrdered, IsToldInOrder, TellsAt, TellsInOrder}
use Rattle.rs_core.specs.Session.Hearing.{Hearing, session_in, state_in, is_up, decides}
use Rattle.rs_core.specs.Told.Telling.{allowed_to, updates_in}
use Rattle.rs_core.specs.Core.{is_refusal}
use Rattle.rs_core.specs.Touched.Turns.{IsDone, IsTurn}
use Rattle.rs_core.specs.Session.Conversations.{own_open}
use Rattle.rs_core.specs.Told.Outlets.{IsInOrder, IsGreeting, HasComeUp, SaysTheSame, SpeaksTo, TellsAgain, ActsOnOutlet}
use Rattle.rs_core.proofs.Told.Telling.{updates_more}
use Rattle.rs_core.proofs.Told.Alike.{due_same, last_same, same_is}
use Rattle.rs_core.proofs.Told.BySession.{down_speech}

-- ---- what goes on as before

-- the same was told, and the same is marked
told_on : (speech : Speech) (points : List Point) (octets : List ℕ) (v w : View) (p : Prefix) → w.told ≡ v.told → w.marked ≡ v.marked → IsToldInOrder speech points octets v p → IsToldInOrder speech points octets w p
told_on speech points octets v w p told marked h = record {
  values = h.values;
  asked = h.asked;
  tells = h.tells;
  order = h.order;
  told = ap (λ t. fin.get t p) told ∙ h.told;
  marked = λ m. h.marked (ap (λ s. set.contains s p) (sym marked) ∙ m);
  pending = λ a t. ap (λ s. set.contains s p) marked ∙ h.pending a (ap (λ x. fin.contains_key x p) (sym told) ∙ t);
}

-- the outlet says the same
pub ordered_on : (s t : Configuration) (c : ℕ) (h next : Hearing) (v w : View) → next.points ≡ h.points → next.taken ++ w.flight ≡ h.taken ++ v.flight
    → w.speech ≡ v.speech → w.loc ≡ v.loc → w.told ≡ v.told → w.marked ≡ v.marked
    → (is_live (state_in t c next) ≡ true → is_up (state_in t c next) ≡ false → (is_live (state_in s c h) ≡ true) × (is_up (state_in s c h) ≡ false))
    → IsOrdered s c h v → IsOrdered t c next w
ordered_on s t c h next v w points octets speech loc told marked down at = record {
  before = λ l d. let was = down l d in let u = at.before was.0 was.1 in record {
    dues = λ p. ap (λ ps. dues_at ps p) points ∙ u.dues p;
    order = λ sp p. subst (λ ps. TellsInOrder sp ps p [] false) (sym points) (u.order sp p);
    updates = λ limit. ap (updates_in limit) octets ∙ u.updates limit;
  };
  loc = λ sp is p. ap (λ t. fin.get t p) loc ∙ at.loc sp (sym speech ∙ is) p ∙ sym (ap (λ ps. latest (dues_at ps p)) points);
  told = λ sp is p. subst (λ ps. IsToldInOrder sp ps (next.taken ++ w.flight) w p) (sym points)
      (subst (λ o. IsToldInOrder sp h.points o w p) (sym octets) (told_on sp h.points (h.taken ++ v.flight) v w p told marked (at.told sp (sym speech ∙ is) p)));
}

-- nothing but a KEEPALIVE that is due, what is touched and the last answer has changed
same_on : (s t : Configuration) (c : ℕ) (h next : Hearing) (v w : View) → next.points ≡ h.points → next.taken ≡ h.taken
    → (is_live (state_in t c next) ≡ true → is_up (state_in t c next) ≡ false → (is_live (state_in s c h) ≡ true) × (is_up (state_in s c h) ≡ false))
    → SaysTheSame v w → IsOrdered s c h v → IsOrdered t c next w
same_on s t c h next v w points taken down same at = ordered_on s t c h next v w points (λ i. taken i ++ (ap (λ (x : View). x.flight) same.is) i) (ap (λ (x : View). x.speech) same.is)
    (ap (λ (x : View). x.loc) same.is) (ap (λ (x : View). x.told) same.is) (ap (λ (x : View). x.marked) same.is) down at

-- nothing was heard since
pub same_ordered : (s : Configuration) (c : ℕ) (h : Hearing) (v w : View) → SaysTheSame v w → IsOrdered s c h v → IsOrdered s c h w
same_ordered s c h v w same at = same_on s s c h h v w refl refl (λ l d. (l, d)) same at

-- the session is over, or there is none
pub over_ordered : (s : Configuration) (c : ℕ) (h : Hearing) (v : View) → is_live (state_in s c h) ≡ false → v.speech ≡ None → IsOrdered s c h v
over_ordered s c h v dead silent = record {
  before = λ l d. absurd (false≢true (sym dead ∙ l));
  loc = λ sp is p. absurd (let f : ◌≡◌ {A = Option Speech} None (Some sp) = sym silent ∙ is in cc);
  told = λ sp is p. absurd (let f : ◌≡◌ {A = Option Speech} None (Some sp) = sym silent ∙ is in cc);
}

-- ---- a connection came

pub greeted_ordered : (s : Configuration) (c : ℕ) (h : Hearing) (v : View) → IsGreeting (own_open s) v → h.taken ≡ [] → h.points ≡ [] → IsOrdered s c h v
greeted_ordered s c h v greets none points = record {
  before = λ l d. record {
    dues = λ p. ap (λ ps. dues_at ps p) points;
    order = λ sp p. subst (λ ps. TellsInOrder sp ps p [] false) (sym points) (refl, refl);
    updates = λ limit. (λ i. updates_in limit (none i ++ greets.flight i)) ∙ updates_more limit [] (server_open (own_open s)) kinds.Open refl (short_is_message (allowed_to limit) (own_open s) short.Open tt);
  };
  loc = λ sp is p. absurd (let f : ◌≡◌ {A = Option Speech} None (Some sp) = sym greets.silent.speech ∙ is in cc);
  told = λ sp is p. absurd (let f : ◌≡◌ {A = Option Speech} None (Some sp) = sym greets.silent.speech ∙ is in cc);
}

-- ---- what a session asks for is done

not_asked : (b : Bool) (points : List Point) → (b ≡ true → ⊥) → asked_if b points ≡ points
not_asked true points never = absurd (never refl)
not_asked false points never = refl

come_up_ordered : (s : Configuration) (c : ℕ) (h next : Hearing) (v w : View) (agreed : Option Speech) → HasComeUp agreed v w → next.points ≡ h.points → next.taken ≡ h.taken
    → is_live (state_in s c h) ≡ true → is_up (state_in s c h) ≡ false → is_up (state_in s c next) ≡ true → IsOrdered s c h v → IsOrdered s c next w
come_up_ordered s c h next v w agreed came_up points taken live down up at = let u = at.before live down in record {
  before = λ l d. absurd (false≢true (sym d ∙ up));
  loc = λ sp is p. came_up.loc p ∙ sym (ap latest (ap (λ ps. dues_at ps p) points ∙ u.dues p));
  told = λ sp is p. record {
    values = [];
    asked = false;
    tells = record {
      changes = [];
      have = subst (λ bodies. AllZip (λ body change. HasEffect body sp.mode (Changes change)) bodies []) (sym ((λ i. updates_in sp.limit (taken i ++ came_up.flight i)) ∙ u.updates sp.limit)) tt;
      are = refl;
    };
    order = subst (λ ps. TellsInOrder sp ps p [] false) (sym points) (u.order sp p);
    told = came_up.told p;
    marked = λ m. absurd (false≢true (sym (came_up.marked p) ∙ m));
    pending = λ a t. absurd (false≢true a);
  };
}

pub stayed_ordered : (s : Configuration) (c : ℕ) (h next : Hearing) (v w : View) → next.points ≡ h.points → Stays (session_in s c) h.items next.items → next.taken ≡ h.taken → SaysTheSame v w
    → IsOrdered s c h v → IsOrdered s c next w
stayed_ordered s c h next v w points stays taken same at = same_on s s c h next v w points taken (λ l d. (ap is_live (sym stays.state) ∙ l, ap is_up (sym stays.state) ∙ d)) same at

said_ordered : (message : Short) (s : Configuration) (c : ℕ) (h next : Hearing) (v w : View) → next.points ≡ h.points → (message ≡ short.Open → ⊥) → Says message (session_in s c) h.items next.items
    → next.taken ≡ h.taken → SaysTheSame v w → IsOrdered s c h v → IsOrdered s c next w
said_ordered short.Open s c h next v w points not tells taken same at = absurd (not refl)
said_ordered short.Keepalive s c h next v w points not tells taken same at = elim tells [
  | inl confirms ↦ same_on s s c h next v w points taken (λ l d. (ap is_live confirms.before, ap is_up confirms.before)) same at
  | inr keepalives ↦ stayed_ordered s c h next v w points keepalives.same taken same at
]
said_ordered (short.Note code sub extra count) s c h next v w points not tells taken same at = absurd tells

-- the client asked for all routes
again_ordered : (s : Configuration) (c : ℕ) (h next : Hearing) (v w : View) → IsInOrder v → next.points ≡ Asked ∷ h.points → Asks (session_in s c) h.items next.items → next.taken ≡ h.taken → TellsAgain v w
    → IsOrdered s c h v → IsOrdered s c next w
again_ordered s c h next v w in_order points tells taken same at = record {
  before = λ l d. absurd (false≢true (sym d ∙ ap is_up (tells.same.state ∙ tells.before)));
  loc = λ sp is p. ap (λ t. fin.get t p) same.loc ∙ at.loc sp (sym same.speech ∙ is) p ∙ sym (ap (λ ps. latest (dues_at ps p)) points);
  told = λ sp is p. let t = at.told sp (sym same.speech ∙ is) p in record {
    values = t.values;
    asked = true;
    tells = subst (λ o. TellsAt sp o p t.values) (λ i. sym taken i ++ sym same.flight i) t.tells;
    order = subst (λ ps. TellsInOrder sp ps p t.values true) (sym points) (refl, t.asked, t.order);
    told = ap (λ x. fin.get x p) same.told ∙ t.told;
    marked = λ m. refl;
    pending = λ a there. same.marked p ∙ ap (λ x. fin.contains_key x p) (sym same.told) ∙ there;
  };
}

pub acted_ordered : (act : Act) (long : Bool) (sessions : List Session) (x : Session) (s : Configuration) (c : ℕ) (h next : Hearing) (v w : View) (b : Bool)
    → IsInOrder v → next.points ≡ asked_if b h.points → (act ≡ acts.Again → b ≡ true) → (b ≡ true → act ≡ acts.Again)
    → ActsOnOutlet act long c sessions v w → slice_get sessions c ≡ Some x → HasHeard x (session_in s c) next.items → Tells act (session_in s c) h.items next.items
    → (act ≡ acts.Say short.Open → ⊥) → next.taken ≡ h.taken → IsOrdered s c h v → IsOrdered s c next w
acted_ordered acts.None long sessions x s c h next v w b in_order points again only others_alone read heard tells not taken at =
    stayed_ordered s c h next v w (points ∙ not_asked b h.points (λ e. let f : ◌≡◌ {A = Act} acts.None acts.Again = only e in cc)) tells taken (same_is v w others_alone) at
acted_ordered (acts.Say message) long sessions x s c h next v w b in_order points again only others_alone read heard tells not taken at =
    said_ordered message s c h next v w (points ∙ not_asked b h.points (λ e. let f : ◌≡◌ {A = Act} (acts.Say message) acts.Again = only e in cc))
    (λ e. not (ap (λ (m : Short). acts.Say m) e)) tells taken (due_same v w others_alone) at
acted_ordered acts.Up long sessions x s c h next v w b in_order points again only others_alone read heard tells not taken at =
    come_up_ordered s c h next v w _ (others_alone x read (session_in s c) next.items heard tells.now)
    (points ∙ not_asked b h.points (λ e. let f : ◌≡◌ {A = Act} acts.Up acts.Again = only e in cc)) taken (ap is_live tells.before) (ap is_up tells.before) (ap is_up tells.now) at
acted_ordered (acts.Down _) long sessions x s c h next v w b in_order points again only others_alone read heard tells not taken at = over_ordered s c next w (ap is_live tells.now) others_alone.speech
acted_ordered acts.Again long sessions x s c h next v w b in_order points again only others_alone read heard tells not taken at =
    again_ordered s c h next v w in_order (points ∙ ap (λ a. asked_if a h.points) (again refl)) tells taken others_alone at

-- ---- octets are taken

pub took_ordered : (s : Configuration) (c n : ℕ) (h next : Hearing) (v w : View) → w ≡ record v { flight = drop n v.flight } → next.items ≡ h.items → next.taken ≡ h.taken ++ take n v.flight → next.points ≡ h.points
    → IsOrdered s c h v → IsOrdered s c next w
took_ordered s c n h next v w e items taken points at =
    ordered_on s s c h next v w points
    ((λ i. taken i ++ (e i).flight) ∙ append_assoc h.taken (take n v.flight) (drop n v.flight) ∙ ap (λ l. h.taken ++ l) (take-append-drop n v.flight))
    (ap (λ (x : View). x.speech) e) (ap (λ (x : View). x.loc) e) (ap (λ (x : View). x.told) e) (ap (λ (x : View). x.marked) e)
    (λ l d. (ap (λ k. is_live (state_in s c (record h { items = k }))) (sym items) ∙ l, ap (λ k. is_up (state_in s c (record h { items = k }))) (sym items) ∙ d)) at

-- ---- a turn

-- what is due is decided: the Loc-RIB has it, and all else stays
pub decided_ordered : (s : Configuration) (c : ℕ) (h : Hearing) (due : Prefix → Value) (v w : View) → is_up (state_in s c h) ≡ true → w.flight ≡ v.flight → w.speech ≡ v.speech → w.told ≡ v.told → w.marked ≡ v.marked
    → ((speech : Speech) → w.speech ≡ Some speech → (p : Prefix) → fin.get w.loc p ≡ due p) → IsOrdered s c h v → IsOrdered s c (decides true due h) w
decided_ordered s c h due v w up flight speech told marked loc at = record {
  before = λ l d. absurd (false≢true (sym d ∙ up));
  loc = loc;
  told = λ sp is p. let t = at.told sp (sym speech ∙ is) p in record {
    values = t.values;
    asked = t.asked;
    tells = subst (λ f. TellsAt sp (h.taken ++ f) p t.values) (sym flight) t.tells;
    order = t.order;
    told = ap (λ x. fin.get x p) told ∙ t.told;
    marked = λ m. t.marked (ap (λ x. set.contains x p) (sym marked) ∙ m);
    pending = λ a there. ap (λ x. set.contains x p) marked ∙ t.pending a (ap (λ x. fin.contains_key x p) (sym told) ∙ there);
  };
}

-- nothing was decided: the outlet is not up, or memory was refused
not_decided : (s : Configuration) (c : ℕ) (h : Hearing) (due : Prefix → Value) (v w : View) → SaysTheSame v w → IsOrdered s c h v → IsOrdered s c (decides false due h) w
not_decided s c h due v w same at = same_on s s c h (decides false due h) v w refl refl (λ l d. (l, d)) same at

and_not : (up listed : Bool) → listed ≡ true → (up && not listed) ≡ false
and_not true listed e = ap not e
and_not false listed e = refl

done_ordered : (s : Configuration) (c : ℕ) (h : Hearing) (due : Prefix → Value) (config : Configuration) (ins : AdjIns) (v w : View) → AreNumbered v ins → IsCurrent config ins v → SpeaksTo s c h v → (done : IsDone config ins v w)
    → ((speech : Speech) → w.speech ≡ Some speech → (p : Prefix) → fin.get w.loc p ≡ due p) → (up : Bool) → is_up (state_in s c h) ≡ up → IsOrdered s c h v → IsOrdered s c (decides up due h) w
done_ordered s c h due config ins v w numbered current says done loc true up at =
    decided_ordered s c h due v w up (ap (λ (x : View). x.flight) done.rest) (ap (λ (x : View). x.speech) done.rest) ((done.decided numbered current).told) ((done.decided numbered current).marked) loc at
done_ordered s c h due config ins v w numbered current says done loc false up at =
    not_decided s c h due v w (last_same v w _ (((done.decided numbered current).down (says.speech ∙ down_speech s c h up)).1)) at

-- a turn of all; a client for which memory was refused is listed
pub turned_ordered : (s : Configuration) (c : ℕ) (h : Hearing) (due : Prefix → Value) (config : Configuration) (ins : AdjIns) (v w : View) (listed : Bool) → AreNumbered v ins → IsCurrent config ins v → SpeaksTo s c h v → listed ≡ is_refusal w.last
    → ((done : IsDone config ins v w) (speech : Speech) → w.speech ≡ Some speech → (p : Prefix) → fin.get w.loc p ≡ due p) → IsTurn config ins v w → IsOrdered s c h v
    → IsOrdered s c (decides (is_up (state_in s c h) && not listed) due h) w
turned_ordered s c h due config ins v w listed numbered current says is loc (inl done) at =
    subst (λ b. IsOrdered s c (decides b due h) w) (sym (ap (λ b. is_up (state_in s c h) && not b) (is ∙ ap is_refusal done.last) ∙ and-true (is_up (state_in s c h))))
    (done_ordered s c h due config ins v w numbered current says done (loc done) (is_up (state_in s c h)) refl at)
turned_ordered s c h due config ins v w listed numbered current says is loc (inr refused) at =
    subst (λ b. IsOrdered s c (decides b due h) w) (sym (and_not (is_up (state_in s c h)) listed (is ∙ ap (λ (x : View). is_refusal x.last) refused.rest)))
    (not_decided s c h due v w (last_same v w _ refused.rest) at)
