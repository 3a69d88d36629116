-- A client is drained exactly where it is Established, nothing is touched for it and nothing is owed to it.
use Rattle.std.proofs.Common.{◌≡◌, inl, inr, ℕ, ◌<◌, ◌+◌, ◌*◌, ◌==◌, ◌&&◌, Bool, true, false, List, length, refl, sym, ◌∙◌, ap, subst, arith}
use Rattle.std.specs.Prelude.{Option, Some, None, IsSome, IsTrue, ◌↔◌, slice_index_or, if◌then◌else◌}
use Rattle.std.specs.Global.{Vec}
use Rattle.std.specs.FinMap as fin
use Rattle.std.specs.FinSet as set
use Rattle.std.proofs.lemmas.Bool.Decides.{nat_tests}
use Rattle.rs_octets.specs.Prefixes.{prefix_order}
use Rattle.rs_open.specs.Notes.{limit_octets}
use Rattle.rs_session.proofs.Lasting.{brings_up}
use Rattle.rs_outlet.specs.declared.answers.Last.TheVariants as lasts
use Rattle.rs_outlet.specs.declared.answers.Speech.{Speech}
use Rattle.rs_outlet.specs.Pending.Left.{HasNothingLeft}
use Rattle.rs_outlet.specs.Views.{View, Prefixes}
use Rattle.rs_core.specs.Run.Moves.{Move, config_in}
use Rattle.rs_policy.specs.Configuration.{Configuration}
use Rattle.rs_core.specs.Session.Hearing.{Hearing, state_in, session_in, is_up}
use Rattle.rs_core.specs.Run.Meaning.{hearing, speech_in, speech_by, is_established}
use Rattle.rs_core.specs.Ribs.{outlet_in, ChangesAll}
use Rattle.rs_core.specs.Touched.Turns.{IsTurn}
use Rattle.rs_core.specs.declared.ribs.Ribs.{Ribs}
use Rattle.rs_core.specs.Run.Agreeing.{Agrees}
use Rattle.rs_core.specs.Owed.Owing.{owed_by, owed_behind, waiting_octets, is_none}
use Rattle.rs_core.specs.Core.{owed, is_decided, is_refused, is_refusal, refusal_in}
use Rattle.rs_core.specs.declared.route_server.Core.{Core}
use Rattle.rs_core.proofs.Touched.Turned.{is_current}
use Rattle.rs_core.proofs.Told.BySession.{spoken_up, up_live}
use Rattle.rs_core.proofs.Owed.Owing.{limit_least, none_times, no_length, some_owed}
use Rattle.rs_core.proofs.Owed.Sending.{nobody, outlet_is, owed_is, decided_is}
use Rattle.rs_core.proofs.Run.Outgoing.{within}
use Rattle.rs_core.proofs.Told.Serving.{spoken}
use Rattle.rs_adjin.proofs.Counting.{iff}
use Rattle.rs_core.proofs.Run.Holding.{up_is}

-- ---- who is Established is spoken to

pub up_spoken : (s : Configuration) (c : ℕ) (h : Hearing) → is_up (state_in s c h) ≡ true → (speech : Speech) × (speech_in s c h ≡ Some speech)
up_spoken s c h up = let brought = brings_up (session_in s c) h.items (up_is (state_in s c h) up) in (_, (λ i. if up i then speech_by s.top.extended (brought.agreed i) else None))

pub established_spoken : (run : List Move) (c : ℕ) → is_established run c ≡ true → (speech : Speech) × (speech_in (config_in run) c (hearing c run) ≡ Some speech)
established_spoken run c up = up_spoken (config_in run) c (hearing c run) up

-- ---- nothing is left

all_true : (a b d : Bool) → a ≡ true → b ≡ true → d ≡ true → (a && (b && d)) ≡ true
all_true a b d x y z = λ i. x i && (y i && z i)

each_true : (a b d : Bool) → (a && (b && d)) ≡ true → (a ≡ true) × (b ≡ true) × (d ≡ true)
each_true true true true e = (refl, refl, refl)
each_true true true false e = absurd (let f : false ≡ true = e in cc)
each_true true false d e = absurd (let f : false ≡ true = e in cc)
each_true false b d e = absurd (let f : false ≡ true = e in cc)

zero_test : (n : ℕ) → n ≡ 0 → (n == 0) ≡ true
zero_test n e = grind (arith, nat_tests)

test_zero : (n : ℕ) → (n == 0) ≡ true → n ≡ 0
test_zero n e = grind (arith, nat_tests)

pub none_touched : (o : Option Prefixes) → o ≡ Some set.empty → is_none o ≡ true
none_touched o e = ap is_none e ∙ zero_test (set.len (set.empty {R = prefix_order})) (set.len-empty prefix_order)

pub touched_none : (o : Option Prefixes) → is_none o ≡ true → o ≡ Some set.empty
touched_none None e = absurd (let f : false ≡ true = e in cc)
touched_none (Some s) e = ap (λ t. Some t) (set.empty_of_len s (test_zero (set.len s) e))

none_waiting : (o : Option Speech) → waiting_octets o 0 ≡ 0
none_waiting None = refl
none_waiting (Some speech) = omega arith

all_zero : (a b d : ℕ) → a ≡ 0 → b ≡ 0 → d ≡ 0 → a + (b + d) ≡ 0
all_zero a b d x y z = omega (arith, x, y, z)

-- by the outlet
left_owed : (v : View) → v.note ≡ None → HasNothingLeft v → owed_by v ≡ 0
left_owed v quiet left =
    (λ i. length (left.flight i) + owed_behind (quiet i) (left.keepalive_due i) v.speech (fin.len (left.waits i)))
    ∙ all_zero 0 0 (waiting_octets v.speech (fin.len (fin.empty {X = Bool} {R = prefix_order}))) refl refl (ap (waiting_octets v.speech) (fin.len-empty prefix_order Bool) ∙ none_waiting v.speech)

pub owed_left : (v : View) (speech : Speech) → v.note ≡ None → v.speech ≡ Some speech → v.touched ≡ Some set.empty → owed_by v ≡ 0 → HasNothingLeft v
owed_left v speech quiet up untouched none = record {
  up = subst IsSome (sym up) refl;
  untouched = untouched;
  flight = no_length v.flight parts.0;
  keepalive_due = by_keepalive v.keepalive_due (sym (λ i. owed_behind (quiet i) v.keepalive_due (up i) (fin.len v.waits)) ∙ parts.1);
  waits = fin.empty_of_len v.waits (by_count v.keepalive_due (sym (λ i. owed_behind (quiet i) v.keepalive_due (up i) (fin.len v.waits)) ∙ parts.1));
} where
  parts : (length v.flight ≡ 0) × (owed_behind v.note v.keepalive_due v.speech (fin.len v.waits) ≡ 0)
  parts = some_owed (length v.flight) (owed_behind v.note v.keepalive_due v.speech (fin.len v.waits)) none

  by_keepalive : (b : Bool) → owed_behind None b (Some speech) (fin.len v.waits) ≡ 0 → b ≡ false
  by_keepalive false e = refl
  by_keepalive true e = absurd (let f = (some_owed 19 (fin.len v.waits * limit_octets speech.limit) e).0 in omega (arith, f))

  by_count : (b : Bool) → owed_behind None b (Some speech) (fin.len v.waits) ≡ 0 → fin.len v.waits ≡ 0
  by_count false e = none_times (fin.len v.waits) (limit_octets speech.limit) (limit_least speech.limit) (some_owed 0 (fin.len v.waits * limit_octets speech.limit) e).1
  by_count true e = none_times (fin.len v.waits) (limit_octets speech.limit) (limit_least speech.limit) (some_owed 19 (fin.len v.waits * limit_octets speech.limit) e).1

-- by the run
pub drained_exactly : (core : Core) (run : List Move) (c : ℕ) (b : Bool) → c < core.count → (IsTrue b ↔ HasNothingLeft (outlet_in core.ribs c nobody)) → Agrees core run
    → b ≡ (is_established run c && (is_decided core c && (owed core c == 0)))
drained_exactly core run c b lt exact h = iff b _ whole part where
  v : View
  v = outlet_in core.ribs c nobody

  speaks : v.speech ≡ speech_in (config_in run) c (hearing c run)
  speaks = ((h.clients c lt).knows.outlet h.config nobody).speech

  quiet : is_established run c ≡ true → v.note ≡ None
  quiet up = ((h.clients c lt).knows.outlet h.config nobody).quiet (up_live (config_in run) c (hearing c run) up)

  whole : b ≡ true → (is_established run c && (is_decided core c && (owed core c == 0))) ≡ true
  whole t = let left = exact.0 t in spoken v.speech left.up _ (λ speech up.
      let there = spoken_up (config_in run) c (hearing c run) speech (sym speaks ∙ up) in
      all_true (is_established run c) (is_decided core c) (owed core c == 0) there (decided_is core c lt ∙ none_touched v.touched left.untouched)
      (zero_test (owed core c) (owed_is core c lt ∙ left_owed v (quiet there) left)))

  part : (is_established run c && (is_decided core c && (owed core c == 0))) ≡ true → b ≡ true
  part t =
      let each = each_true (is_established run c) (is_decided core c) (owed core c == 0) t in
      let heard = established_spoken run c each.0 in
      exact.1 (owed_left v heard.0 (quiet each.0) (speaks ∙ heard.1) (touched_none v.touched (sym (decided_is core c lt) ∙ each.1)) (sym (owed_is core c lt) ∙ test_zero (owed core c) each.2))

-- ---- after a turn

-- what a turn of all made of one outlet
pub turned_outlet : (c : ℕ) (old new : Core) (mid : Ribs) → c < old.count → ChangesAll (λ d. IsTurn old.ribs.config old.ribs.tables) old.ribs mid → new.ribs.outlets ≡ mid.outlets
    → IsTurn old.ribs.config old.ribs.tables (outlet_in old.ribs c nobody) (outlet_in new.ribs c nobody)
turned_outlet c old new mid lt turned same =
    subst (λ w. IsTurn old.ribs.config old.ribs.tables (outlet_in old.ribs c nobody) w) (sym (ap (λ (x : Vec View). slice_index_or x.items c nobody) same)) (turned.each c nobody (within old c lt))

-- nothing is touched any more for an Established client, unless its turn was refused
pub turned_decided : (c : ℕ) (old new : Core) (mid : Ribs) (run : List Move) → c < old.count → new.count ≡ old.count → ChangesAll (λ d. IsTurn old.ribs.config old.ribs.tables) old.ribs mid → new.ribs.outlets ≡ mid.outlets
    → Agrees old run → is_established run c ≡ true → is_refused new c ≡ false → is_decided new c ≡ true
unfolding is_refused
turned_decided c old new mid run lt count turned same h up done = decided_is new c now ∙ by_turn (turned_outlet c old new mid lt turned same) where
  now : c < new.count
  now = subst (λ n. c < n) (sym count) lt

  w : View
  w = outlet_in new.ribs c nobody

  heard : (speech : Speech) × (speech_in (config_in run) c (hearing c run) ≡ Some speech)
  heard = established_spoken run c up

  by_turn : IsTurn old.ribs.config old.ribs.tables (outlet_in old.ribs c nobody) w → is_none w.touched ≡ true
  by_turn (inl d) =
      none_touched w.touched ((d.decided (old.numbered.each c nobody (within old c lt)) (is_current old.ribs c nobody (within old c lt) old.fresh)).touched (subst IsSome (sym (((h.clients c lt).knows.outlet h.config nobody).speech ∙ heard.1)) refl))
  by_turn (inr refused) = absurd (
      let last : w.last ≡ lasts.Refused = ap (λ (x : View). x.last) refused.rest in
      let f : true ≡ false = sym (ap refusal_in (outlet_is new c now) ∙ ap is_refusal last) ∙ done in cc)
