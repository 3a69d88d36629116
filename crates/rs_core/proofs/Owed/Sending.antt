-- What is owed to clients, as the outlet of one of them changes.
use Rattle.std.proofs.Common.{◌≡◌, ◌≢◌, inl, inr, ◌⊎◌, ℕ, ◌<◌, ◌≤◌, ◌+◌, true, false, List, length, refl, sym, ◌∙◌, ap, subst}
use Rattle.std.specs.Prelude.{None, Some, slice_get}
use Rattle.std.proofs.lemmas.Option.{slice_get_read}
use Rattle.rs_outlet.specs.Views.{View, bare}
use Rattle.rs_outlet.specs.declared.answers.Last.TheVariants as lasts
use Rattle.rs_core.specs.Run.Moves.{Move, config_in}
use Rattle.rs_core.specs.Run.Meaning.{hearing, is_established}
use Rattle.rs_core.specs.Ribs.{outlet_in}
use Rattle.rs_outlet.specs.Message.Begun.{HasBegun}
use Rattle.rs_core.specs.Run.Agreeing.{Agrees}
use Rattle.rs_core.specs.Owed.Owing.{owed_by, is_decided_for, is_none}
use Rattle.rs_core.specs.Core.{client_count, last_in, last_of, lent_octets, owed, owed_in, is_decided, decided_in, touched_for, touched_in}
use Rattle.rs_core.specs.Owed.Sending.{SparesOwed, OwesNoMore, OwesLess, LeavesOwed}
use Rattle.rs_core.specs.Told.Outlets.{LeavesOthersAlone}
use Rattle.rs_core.specs.declared.route_server.Core.{Core}
use Rattle.rs_core.proofs.Run.Clients.{equal_or}
use Rattle.rs_core.proofs.Run.Loops.{default_same}
use Rattle.rs_core.proofs.Run.Outgoing.{MovesOutlet, IsTakenFrom, lent_is, within}
use Rattle.rs_core.proofs.Told.BySession.{up_live}
use Rattle.rs_core.proofs.Owed.Owing.{begun_owes, none_owed, none_begun, took_owes}

-- in place of the outlet of a client that there is not
abbrev pub nobody : View
nobody = bare 0 false lasts.Never

pub outlet_is : (core : Core) (c : ℕ) → c < core.count → slice_get core.ribs.outlets.items c ≡ Some (outlet_in core.ribs c nobody)
outlet_is core c lt =
    let xs : List View = core.ribs.outlets.items in
    let there : c < length xs = subst (λ n. c < n) (sym (core.ribs.outlets_len ∙ core.ribs_len)) lt in
    slice_get_read xs (length xs) c (outlet_in core.ribs c nobody) refl there (default_same xs c nobody (outlet_in core.ribs c nobody) there)

pub owed_is : (core : Core) (c : ℕ) → c < core.count → owed core c ≡ owed_by (outlet_in core.ribs c nobody)
unfolding owed
owed_is core c lt = ap owed_in (outlet_is core c lt)

pub decided_is : (core : Core) (c : ℕ) → c < core.count → is_decided core c ≡ is_decided_for (outlet_in core.ribs c nobody)
unfolding is_decided
decided_is core c lt = ap decided_in (outlet_is core c lt)

pub touched_is : (core : Core) (c : ℕ) → c < core.count → touched_for core c ≡ (outlet_in core.ribs c nobody).touched
unfolding touched_for
touched_is core c lt = ap touched_in (outlet_is core c lt)

pub last_is : (core : Core) (c : ℕ) → c < core.count → last_of core c ≡ (outlet_in core.ribs c nobody).last
unfolding last_of
last_is core c lt = ap last_in (outlet_is core c lt)

lent_at : (core : Core) (c : ℕ) → c < core.count → lent_octets core c ≡ (outlet_in core.ribs c nobody).flight
unfolding lent_octets
lent_at core c lt = lent_is core c nobody lt

moved_spares_owed : (c : ℕ) (Is : View → View → Type 0) (old new : Core) → c < old.count → MovesOutlet c Is old new → ((v w : View) → Is v w → w.touched ≡ v.touched) → SparesOwed c old new
unfolding client_count
moved_spares_owed c Is old new lt m touched = record {
  touched = λ d there. touched_is new d (now d there) ∙ same d (equal_or d c) ∙ sym (touched_is old d there);
  others = λ d there ne. owed_is new d (now d there) ∙ ap owed_by (m.outlet.others d nobody ne) ∙ sym (owed_is old d there);
  decided = λ d there. decided_is new d (now d there) ∙ ap is_none (same d (equal_or d c)) ∙ sym (decided_is old d there);
} where
  now : (d : ℕ) → d < old.count → d < new.count
  now d there = subst (λ n. d < n) (sym m.count) there

  same : (d : ℕ) → (d ≡ c) ⊎ (d ≢ c) → (outlet_in new.ribs d nobody).touched ≡ (outlet_in old.ribs d nobody).touched
  same d (inl e) = subst (λ k. (outlet_in new.ribs k nobody).touched ≡ (outlet_in old.ribs k nobody).touched) (sym e)
      (touched (outlet_in old.ribs c nobody) (outlet_in new.ribs c nobody) (m.outlet.own nobody (within old c lt)))
  same d (inr ne) = ap (λ (v : View). v.touched) (m.outlet.others d nobody ne)

-- the next message was begun
pub begun_owes_no_more : (c : ℕ) (old new : Core) → c < old.count → MovesOutlet c HasBegun old new → OwesNoMore c old new
begun_owes_no_more c old new lt m = record {
  spares = moved_spares_owed c HasBegun old new lt m (λ v w b. ap (λ (x : View). x.touched) b.rest);
  none = λ e. lent_at new c now ∙ none_owed v w begun (sym (owed_is old c lt) ∙ e);
  all = λ none. owed_is old c lt ∙ none_begun v w begun (sym (lent_at new c now) ∙ none);
  owing = λ run h up. subst (λ n. n ≤ owed old c) (sym (owed_is new c now)) (subst (λ n. owed_by w ≤ n) (sym (owed_is old c lt)) (begun_owes v w begun (quiet run h up)));
} where
  v : View
  v = outlet_in old.ribs c nobody

  w : View
  w = outlet_in new.ribs c nobody

  now : c < new.count
  now = subst (λ n. c < n) (sym m.count) lt

  begun : HasBegun v w
  begun = m.outlet.own nobody (within old c lt)

  quiet : (run : List Move) → Agrees old run → is_established run c ≡ true → v.note ≡ None
  quiet run h up = ((h.clients c lt).knows.outlet h.config nobody).quiet (up_live (config_in run) c (hearing c run) up)

-- octets of it were taken
pub took_owes_less : (c n : ℕ) (old new : Core) → c < old.count → n ≤ length (lent_octets old c) → MovesOutlet c (IsTakenFrom n) old new → OwesLess c n old new
took_owes_less c n old new lt most m = record {
  spares = moved_spares_owed c (IsTakenFrom n) old new lt m (λ v w e. ap (λ (x : View). x.touched) e);
  owing = ap (λ k. k + n) (owed_is new c (subst (λ k. c < k) (sym m.count) lt))
      ∙ took_owes n (outlet_in old.ribs c nobody) (outlet_in new.ribs c nobody) (subst (λ octets. n ≤ length octets) (lent_at old c lt) most) (m.outlet.own nobody (within old c lt))
      ∙ sym (owed_is old c lt);
}

-- the outlets of the others were left alone
pub others_owed : (c : ℕ) (old new : Core) → new.count ≡ old.count → LeavesOthersAlone c old.ribs new.ribs → LeavesOwed c old new
unfolding client_count
others_owed c old new count others_alone = record {
  others = λ d lt ne. owed_is new d (subst (λ n. d < n) (sym count) lt) ∙ ap owed_by (others_alone d nobody (within old d lt) ne).is ∙ sym (owed_is old d lt);
}
