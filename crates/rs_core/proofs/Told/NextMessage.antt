-- The order of what a client is told, where its next message begins.
use Rattle.std.proofs.Common.{◌≡◌, ◌≢◌, ◌⊎◌, inl, inr, ◌≤◌, ℕ, Bool, true, false, not, ◌&&◌, List, [], ◌∷◌, ◌++◌, length, refl, sym, ◌∙◌, ap, subst, arith}
use Rattle.std.specs.Prelude.{Option, Some, None, is_some, reverse, if◌then◌else◌}
use Rattle.std.specs.List.{AllZip}
use Rattle.std.specs.FinMap as fin
use Rattle.std.specs.FinSet as set
use Rattle.std.proofs.lemmas.Bool.{false≢true}
use Rattle.std.proofs.lemmas.List.{append-nil, reverse-append}
use Rattle.std.proofs.Math.Bool.{or-false}
use Rattle.rs_octets.specs.declared.heads.Kind.TheVariants as kinds
use Rattle.rs_octets.specs.Messages.{body_of, rest_of}
use Rattle.rs_octets.specs.Prefixes.{Prefix}
use Rattle.rs_attrs.specs.declared.mode.Mode.TheVariants as modes
use Rattle.rs_attrs.specs.Meaning.{Attribute}
use Rattle.rs_attrs.specs.Comparing.{same_attributes}
use Rattle.rs_attrs.specs.ComparisonLaws.{attributes_decides}
use Rattle.rs_attrs.specs.Effects.{Change, Changes, HasEffect, attributes_after, has_prefix, mentions, once}
use Rattle.rs_attrs.proofs.EachOnce.{once_has}
use Rattle.rs_open.specs.declared.short.Limit.{Limit}
use Rattle.rs_open.specs.declared.short.Short.{Short}
use Rattle.rs_open.specs.Notes.{limit_octets}
use Rattle.rs_open.specs.Writing.{keepalive}
use Rattle.rs_session.specs.Sessions.{is_live}
use Rattle.rs_adjin.specs.declared.adj_ins.AdjIns.{AdjIns}
use Rattle.rs_policy.specs.Configuration.{Configuration}
use Rattle.rs_packer.specs.Packed.{announcement, withdrawal}
use Rattle.rs_packer.specs.Laws.{IsAnnounceable, IsWithdrawable}
use Rattle.rs_packer.proofs.EachOnce.{announcement_announces, withdrawal_withdraws}
use Rattle.rs_outlet.specs.declared.answers.Speech.{Speech}
use Rattle.rs_outlet.specs.Message.Begins.{BeginsUpdate, Settles}
use Rattle.rs_outlet.specs.Views.{View, AreNumbered, waits_at}
use Rattle.rs_core.specs.Told.Points.{Point, Offered, Value, dues_at, latest}
use Rattle.rs_core.specs.Told.Order.{IsOrdered, IsToldInOrder, told_by}
use Rattle.rs_core.specs.Session.Hearing.{Hearing, state_in, offers}
use Rattle.rs_core.specs.Told.Telling.{allowed_to, updates_in}
use Rattle.rs_outlet.specs.Message.Begun.{HasBegun}
use Rattle.rs_core.specs.Told.Outlets.{IsInOrder, SpeaksTo}
use Rattle.rs_core.proofs.Session.Conversing.{keepalive_is_message}
use Rattle.rs_core.proofs.Told.Telling.{announcement_is_message, updates_more, withdrawal_is_message, zip_more}
use Rattle.rs_core.proofs.Told.OneMessage.{all_at, among_has}
use Rattle.rs_core.proofs.Told.NextUpdate.{all_gone, due_mandatory, limit_most}
use Rattle.rs_core.proofs.Told.BySession.{down_speech, spoken_up, up_live}

-- no UPDATE: what was told stays
offered_on : (s : Configuration) (c : ℕ) (h : Hearing) (v w : View) → ((limit : Limit) → rest_of (allowed_to limit) (h.taken ++ v.flight) ≡ [] → updates_in limit (h.taken ++ w.flight) ≡ updates_in limit (h.taken ++ v.flight))
    → w.speech ≡ v.speech → w.loc ≡ v.loc → w.told ≡ v.told → w.marked ≡ v.marked → SpeaksTo s c h v → IsOrdered s c h v → IsOrdered s c (offers true h) w
offered_on s c h v w updates speech loc told marks says at = record {
  before = λ l d. let u = at.before l d in record {
    dues = u.dues;
    order = λ sp p. inl (u.order sp p);
    updates = λ limit. updates limit ((says.before l (says.speech ∙ down_speech s c h d) (record { mode = modes.Four; limit = limit })).whole) ∙ u.updates limit;
  };
  loc = λ sp is p. ap (λ t. fin.get t p) loc ∙ at.loc sp (sym speech ∙ is) p;
  told = λ sp is p. let t = at.told sp (sym speech ∙ is) p in record {
    values = t.values;
    asked = t.asked;
    tells = record {
      changes = t.tells.changes;
      have = subst (λ bodies. AllZip (λ body change. HasEffect body sp.mode (Changes change)) bodies t.tells.changes) (sym (updates sp.limit ((says.since sp (sym speech ∙ is)).whole))) t.tells.have;
      are = t.tells.are;
    };
    order = inl t.order;
    told = ap (λ x. fin.get x p) told ∙ t.told;
    marked = λ m. t.marked (ap (λ x. set.contains x p) (sym marks) ∙ m);
    pending = λ a there. ap (λ x. set.contains x p) marks ∙ t.pending a (ap (λ x. fin.contains_key x p) (sym told) ∙ there);
  };
}

-- a message that changes what was told waits for it: it is news, or the client asked
news_by : (loc told : Value) (marked is_gone : Bool) → waits_at loc told marked ≡ Some is_gone → (loc ≢ told) ⊎ (marked ≡ true)
news_by None None marked is_gone e = absurd (let f : ◌≡◌ {A = Option Bool} None (Some is_gone) = e in cc)
news_by None (Some n) marked is_gone e = inl (λ same. absurd (let f : ◌≡◌ {A = Value} None (Some n) = same in cc))
news_by (Some m) None marked is_gone e = inl (λ same. absurd (let f : ◌≡◌ {A = Value} (Some m) None = same in cc))
news_by (Some m) (Some n) true is_gone e = inr refl
news_by (Some m) (Some n) false is_gone e = inl (λ same. absurd (by_test (same_attributes m n) ((attributes_decides m n).1 (let g : ◌≡◌ {A = Value} (Some m) (Some n) = same in cc)) e)) where
  by_test : (b : Bool) → b ≡ true → (if b && not false then None else Some false) ≡ Some is_gone → ⊥
  by_test true t e = let f : ◌≡◌ {A = Option Bool} None (Some is_gone) = e in cc
  by_test false t e = false≢true t

-- an UPDATE about these prefixes: each has what is due, and each other one what it had
one_update : (speech : Speech) (points : List Point) (taken flight : List ℕ) (v w : View) (change : Change) (ps : List Prefix) (p : Prefix)
    → rest_of (allowed_to speech.limit) taken ≡ [] → HasEffect (body_of flight) speech.mode (Changes change) → updates_in speech.limit (taken ++ flight) ≡ updates_in speech.limit taken ++ body_of flight ∷ []
    → mentions p change ≡ has_prefix p ps → (has_prefix p ps ≡ true → attributes_after p (Some change) ≡ fin.get v.loc p)
    → (has_prefix p ps ≡ true → (fin.get v.loc p ≢ fin.get v.told p) ⊎ (set.contains v.marked p ≡ true))
    → Settles v w ps → fin.get v.loc p ≡ latest (dues_at points p) → IsToldInOrder speech points taken v p → IsToldInOrder speech (Offered taken ∷ points) (taken ++ flight) w p
one_update speech points taken flight v w change ps p rest effect updates mention after news settles due t = by_test (has_prefix p ps) refl where
  all : List Change
  all = t.tells.changes ++ change ∷ []

  have : AllZip (λ body x. HasEffect body speech.mode (Changes x)) (updates_in speech.limit (taken ++ flight)) all
  have = subst (λ bodies. AllZip (λ body x. HasEffect body speech.mode (Changes x)) bodies all) (sym updates)
      (zip_more (λ body x. HasEffect body speech.mode (Changes x)) (updates_in speech.limit taken) t.tells.changes (body_of flight) change t.tells.have effect)

  newest : told_by (reverse all) p ≡ told_by (change ∷ reverse t.tells.changes) p
  newest = ap (λ l. told_by l p) (reverse-append t.tells.changes (change ∷ []))

  is_news : (fin.get v.loc p ≢ fin.get v.told p) ⊎ (set.contains v.marked p ≡ true) → (fin.get v.loc p ≢ latest t.values) ⊎ (t.asked ≡ true)
  is_news (inl ne) = inl (λ e. ne (e ∙ sym t.told))
  is_news (inr m) = inr (t.marked m)

  by_test : (b : Bool) → has_prefix p ps ≡ b → IsToldInOrder speech (Offered taken ∷ points) (taken ++ flight) w p
  by_test true e = record {
    values = fin.get v.loc p ∷ t.values;
    asked = false;
    tells = record {
      changes = all;
      have = have;
      are = (λ i. sym (after e) i ∷ t.tells.are i)
          ∙ sym (newest ∙ ap (λ b. if b then attributes_after p (Some change) ∷ told_by (reverse t.tells.changes) p else told_by (reverse t.tells.changes) p) (mention ∙ e));
    };
    order = inr (record { value = fin.get v.loc p; earlier = t.values; was_asked = t.asked; are = refl; before = t.order; taken_tells = t.tells; whole = rest; due = due; news = is_news (news e); answered = refl });
    told = settles.told p ∙ ap (λ b. if b then fin.get v.loc p else fin.get v.told p) (among_has p ps ∙ e);
    marked = λ m. absurd (false≢true (sym (settles.marked p ∙ ap (λ b. not b && set.contains v.marked p) (among_has p ps ∙ e)) ∙ m));
    pending = λ a there. absurd (false≢true a);
  }
  by_test false e = record {
    values = t.values;
    asked = t.asked;
    tells = record {
      changes = all;
      have = have;
      are = t.tells.are
          ∙ sym (newest ∙ ap (λ b. if b then attributes_after p (Some change) ∷ told_by (reverse t.tells.changes) p else told_by (reverse t.tells.changes) p) (mention ∙ e));
    };
    order = inl t.order;
    told = settles.told p ∙ ap (λ b. if b then fin.get v.loc p else fin.get v.told p) (among_has p ps ∙ e) ∙ t.told;
    marked = λ m. t.marked (sym (settles.marked p ∙ ap (λ b. not b && set.contains v.marked p) (among_has p ps ∙ e)) ∙ m);
    pending = λ a there. settles.marked p ∙ ap (λ b. not b && set.contains v.marked p) (among_has p ps ∙ e)
        ∙ t.pending a (ap is_some (sym (settles.told p ∙ ap (λ b. if b then fin.get v.loc p else fin.get v.told p) (among_has p ps ∙ e))) ∙ there);
  }

-- by what the outlet began
told_next : (speech : Speech) (points : List Point) (taken : List ℕ) (v w : View) (ins : AdjIns) (p : Prefix) → AreNumbered v ins → IsInOrder v → rest_of (allowed_to speech.limit) taken ≡ [] → BeginsUpdate speech v w
    → fin.get v.loc p ≡ latest (dues_at points p) → IsToldInOrder speech points taken v p → IsToldInOrder speech (Offered taken ∷ points) (taken ++ w.flight) w p
told_next speech points taken v w ins p numbered order whole (inl rests) due t = subst (λ o. IsToldInOrder speech (Offered taken ∷ points) o w p) (sym (ap (λ l. taken ++ l) rests.flight ∙ append-nil taken))
    (record {
      values = t.values;
      asked = t.asked;
      tells = t.tells;
      order = inl t.order;
      told = rests.settles.told p ∙ t.told;
      marked = λ m. t.marked (sym (rests.settles.marked p) ∙ m);
      pending = λ a there. rests.settles.marked p ∙ t.pending a (ap is_some (sym (rests.settles.told p)) ∙ there);
    })
told_next speech points taken v w ins p numbered order whole (inr (inl gone)) due t =
    let ok : IsWithdrawable gone.prefixes = record { prefixes = gone.prefixes_legal; fits = let most = limit_most speech.limit in let fits : length (withdrawal gone.prefixes) ≤ limit_octets speech.limit = subst (λ f. length f ≤ limit_octets speech.limit) gone.flight gone.fits in omega (arith, most, fits) } in
    subst (λ f. IsToldInOrder speech (Offered taken ∷ points) (taken ++ f) w p) (sym gone.flight)
    (one_update speech points taken (withdrawal gone.prefixes) v w (record { withdrawn = once gone.prefixes; announced = []; attributes = None }) gone.prefixes p
    whole (withdrawal_withdraws speech.mode gone.prefixes ok) (updates_more speech.limit taken (withdrawal gone.prefixes) kinds.Update whole (withdrawal_is_message speech.limit w.flight gone.prefixes gone.flight gone.fits))
    (or-false (has_prefix p (once gone.prefixes)) ∙ once_has p gone.prefixes)
    (λ e. sym (all_at (λ q. fin.get v.loc q ≡ None) gone.prefixes p (all_gone v gone.prefixes order.exact gone.waited) e))
    (λ e. news_by (fin.get v.loc p) (fin.get v.told p) (set.contains v.marked p) true (sym (order.exact p) ∙ all_at (λ q. fin.get v.waits q ≡ Some true) gone.prefixes p gone.waited e))
    gone.settles due t)
told_next speech points taken v w ins p numbered order whole (inr (inr news)) due t =
    let m : List Attribute = news.attributes in
    let all_due = news.due ins numbered in
    let ok : IsAnnounceable m speech.mode news.prefixes = record {
      legal = news.legal;
      mandatory = due_mandatory v news.prefixes m order news.some all_due;
      some = news.some;
      prefixes = news.prefixes_legal;
      fits = let most = limit_most speech.limit in
          let fits : length (announcement m speech.mode news.prefixes) ≤ limit_octets speech.limit = subst (λ f. length f ≤ limit_octets speech.limit) news.flight news.fits in omega (arith, most, fits);
    } in
    subst (λ f. IsToldInOrder speech (Offered taken ∷ points) (taken ++ f) w p) (sym news.flight)
    (one_update speech points taken (announcement m speech.mode news.prefixes) v w (record { withdrawn = []; announced = once news.prefixes; attributes = Some m }) news.prefixes p
    whole (announcement_announces m speech.mode news.prefixes ok) (updates_more speech.limit taken (announcement m speech.mode news.prefixes) kinds.Update whole (announcement_is_message speech w.flight m news.prefixes news.flight news.fits))
    (once_has p news.prefixes)
    (λ e. ap (λ b. if b then Some m else None) (once_has p news.prefixes ∙ e) ∙ sym (all_at (λ q. fin.get v.loc q ≡ Some m) news.prefixes p all_due e))
    (λ e. news_by (fin.get v.loc p) (fin.get v.told p) (set.contains v.marked p) false (sym (order.exact p) ∙ all_at (λ q. fin.get v.waits q ≡ Some false) news.prefixes p news.waited e))
    news.settles due t)

pub begun_ordered : (s : Configuration) (c : ℕ) (h : Hearing) (ins : AdjIns) (v w : View) → AreNumbered v ins → HasBegun v w → SpeaksTo s c h v → IsOrdered s c h v → IsOrdered s c (offers true h) w
begun_ordered s c h ins v w numbered b says at = by_flight v.flight refl where
  same : w ≡ v → IsOrdered s c (offers true h) w
  same e = offered_on s c h v w (λ limit whole. ap (λ (x : View). updates_in limit (h.taken ++ x.flight)) e) (ap (λ (x : View). x.speech) e) (ap (λ (x : View). x.loc) e)
      (ap (λ (x : View). x.told) e) (ap (λ (x : View). x.marked) e) says at

  bare_octets : v.flight ≡ [] → h.taken ++ v.flight ≡ h.taken
  bare_octets empty = ap (λ l. h.taken ++ l) empty ∙ append-nil h.taken

  by_speech : (o : Option Speech) → v.flight ≡ [] → v.note ≡ None → v.keepalive_due ≡ false → v.speech ≡ o → IsOrdered s c (offers true h) w
  by_speech None empty quiet keepalive_due e = same (b.down empty quiet keepalive_due e)
  by_speech (Some speech) empty quiet keepalive_due e = record {
    before = λ l d. absurd (let f : ◌≡◌ {A = Option Speech} None (Some speech) = sym (says.speech ∙ down_speech s c h d) ∙ e in cc);
    loc = λ sp is p. ap (λ (x : View). fin.get x.loc p) b.rest ∙ at.loc sp (ap (λ (x : View). x.speech) (sym b.rest) ∙ is) p;
    told = λ sp is p.
        let up : v.speech ≡ Some sp = ap (λ (x : View). x.speech) (sym b.rest) ∙ is in
        told_next sp h.points h.taken v w ins p numbered says.order (subst (λ o. rest_of (allowed_to sp.limit) o ≡ []) (bare_octets empty) ((says.since sp up).whole)) (b.begins sp empty quiet keepalive_due up) (at.loc sp up p)
        (subst (λ o. IsToldInOrder sp h.points o v p) (bare_octets empty) (at.told sp up p));
  }

  by_keepalive : (d : Bool) → v.flight ≡ [] → v.note ≡ None → v.keepalive_due ≡ d → IsOrdered s c (offers true h) w
  by_keepalive true empty quiet e = let is = b.keepalive empty quiet e in
      offered_on s c h v w
      (λ limit whole. let before = bare_octets empty in
      ap (λ (x : View). updates_in limit (h.taken ++ x.flight)) is
      ∙ updates_more limit h.taken keepalive kinds.Keepalive (subst (λ o. rest_of (allowed_to limit) o ≡ []) before whole) (keepalive_is_message limit)
      ∙ append-nil (updates_in limit h.taken) ∙ sym (ap (updates_in limit) before))
      (ap (λ (x : View). x.speech) is) (ap (λ (x : View). x.loc) is) (ap (λ (x : View). x.told) is) (ap (λ (x : View). x.marked) is) says at
  by_keepalive false empty quiet e = by_speech v.speech empty quiet e refl

  by_note : (o : Option Short) → v.flight ≡ [] → v.note ≡ o → IsOrdered s c (offers true h) w
  by_note None empty e = by_keepalive v.keepalive_due empty e refl
  by_note (Some note) empty e = record {
    before = λ l d. absurd (over l);
    loc = λ sp is p. absurd (over (up sp is));
    told = λ sp is p. absurd (over (up sp is));
  } where
    over : is_live (state_in s c h) ≡ true → ⊥
    over l = let f : ◌≡◌ {A = Option Short} None (Some note) = sym (says.quiet l) ∙ e in cc

    up : (sp : Speech) → w.speech ≡ Some sp → is_live (state_in s c h) ≡ true
    up sp is = up_live s c h (spoken_up s c h sp (sym says.speech ∙ sym (ap (λ (x : View). x.speech) b.rest) ∙ is))

  by_flight : (f : List ℕ) → v.flight ≡ f → IsOrdered s c (offers true h) w
  by_flight [] e = by_note v.note e refl
  by_flight (x ∷ xs) e = same (b.kept (λ empty. let f : ◌≡◌ {A = List ℕ} (x ∷ xs) [] = sym e ∙ empty in cc))
