-- What a client is told over a run.
use Rattle.std.proofs.Common.{◌≡◌, ◌≢◌, ◌⊎◌, inl, inr, ◌<◌, ◌≤◌, ℕ, Bool, true, false, List, [], ◌∷◌, ◌++◌, length, length-append, get_or, nat_lt, take, refl, sym, ◌∙◌, ap, subst, arith}
use Rattle.std.specs.Prelude.{Some, None, Result, Ok, Err, IsOkAnd, reverse, slice_get, if◌then◌else◌}
use Rattle.std.specs.FinMap as fin
use Rattle.std.specs.List.{AllByRecursion, AllZip, flat_map}
use Rattle.std.proofs.lemmas.Bool.{false≢true, ltb-false}
use Rattle.std.proofs.lemmas.List.{append-nil, reverse-append, take-append-le}
use Rattle.std.proofs.lemmas.Option.{slice_get_read}
use Rattle.rs_octets.specs.declared.heads.Head.{Head}
use Rattle.rs_octets.specs.declared.heads.HeaderFault.{HeaderFault}
use Rattle.rs_octets.specs.Messages.{IsMessage, body_of, header_fault, messages_of, rest_of}
use Rattle.rs_octets.specs.Prefixes.{Prefix}
use Rattle.rs_octets.specs.Headers.{header_of}
use Rattle.rs_octets.proofs.Cut.{cuts_of, pieces_join}
use Rattle.rs_attrs.specs.Effects.{Change, Changes, HasEffect, attributes_after, mentions}
use Rattle.rs_session.specs.Sessions.{agreed_of}
use Rattle.rs_session.proofs.Lasting.{brings_up}
use Rattle.rs_policy.specs.Configuration.{Configuration}
use Rattle.rs_open.specs.declared.short.Limit.{Limit}
use Rattle.rs_outlet.specs.declared.answers.Speech.{Speech}
use Rattle.rs_outlet.specs.Views.{View, AreNumbered, bare}
use Rattle.rs_outlet.specs.declared.answers.Last.TheVariants as lasts
use Rattle.rs_core.specs.Core.{client_count, loc_in, loc_rib}
use Rattle.rs_core.specs.Session.Hearing.{Hearing, session_in, state_in}
use Rattle.rs_core.specs.Told.InTurn.{IsHadFrom, Alternate, has_asked, IsToldInTurn, TellsInTurn, HasWhatWasDue}
use Rattle.rs_core.specs.Run.Moves.{Move, config_in}
use Rattle.rs_core.specs.Told.Order.{TellsAt, TellsInOrder, told_by}
use Rattle.rs_core.specs.Told.Points.{Point, Decided, Asked, Offered, Value, dues_at, latest}
use Rattle.rs_core.specs.Ribs.{outlet_in}
use Rattle.rs_core.specs.Run.Meaning.{hearing, is_established, speech_by, speech_in}
use Rattle.rs_core.specs.Told.Telling.{IsReadable, allowed_to, body_if, heads_update, updates_among, updates_in}
use Rattle.rs_core.proofs.Run.Loops.{default_same}
use Rattle.rs_core.specs.Run.Agreeing.{Agrees}
use Rattle.rs_core.specs.declared.route_server.Core.{Core}
use Rattle.rs_core.proofs.Run.Holding.{up_is}
use Rattle.rs_core.proofs.Told.BySession.{down_speech}

-- ---- had from what was due

left_out : (values dues : List Value) (due : Value) → IsHadFrom values dues → IsHadFrom values (due ∷ dues)
left_out [] dues due had = tt
left_out (value ∷ values) dues due had = inr had

on_top : (value due : Value) (values dues : List Value) → value ≡ due → IsHadFrom values (due ∷ dues) → IsHadFrom (value ∷ values) (due ∷ dues)
on_top value due [] dues e had = inl (e, inl tt)
on_top value due (next ∷ values) dues e (inl (f, rest)) = inl (e, inr (e ∙ sym f, inl (f, rest)))
on_top value due (next ∷ values) dues e (inr had) = inl (e, inl had)

one_more : (value : Value) (values dues : List Value) → value ≡ latest dues → IsHadFrom values (dues ++ None ∷ []) → IsHadFrom (value ∷ values) (dues ++ None ∷ [])
one_more value values [] e had = on_top value None values [] e had
one_more value values (due ∷ dues) e had = on_top value due values (dues ++ None ∷ []) e had

had_from : (speech : Speech) (points : List Point) (p : Prefix) (values : List Value) (asked : Bool) → TellsInOrder speech points p values asked → IsHadFrom (values ++ None ∷ []) (dues_at points p ++ None ∷ [])
had_from speech [] p values asked (none, not) = subst (λ l. IsHadFrom (l ++ None ∷ []) (None ∷ [])) (sym none) (inl (refl, inl tt))
had_from speech (Decided due ∷ points) p values asked order = left_out (values ++ None ∷ []) (dues_at points p ++ None ∷ []) (due p) (had_from speech points p values asked order)
had_from speech (Asked ∷ points) p values asked (now, was, order) = had_from speech points p values was order
had_from speech (Offered taken ∷ points) p values asked (inl order) = had_from speech points p values asked order
had_from speech (Offered taken ∷ points) p values asked (inr one) = subst (λ l. IsHadFrom (l ++ None ∷ []) (dues_at points p ++ None ∷ [])) (sym one.are)
    (one_more one.value (one.earlier ++ None ∷ []) (dues_at points p) one.due (had_from speech points p one.earlier one.was_asked one.before))

-- ---- no two alike

other_first : (value : Value) (values : List Value) → value ≢ latest values → Alternate (values ++ None ∷ []) → Alternate (value ∷ values ++ None ∷ [])
other_first value [] ne rest = (ne, tt)
other_first value (next ∷ values) ne rest = (ne, rest)

alternates : (speech : Speech) (points : List Point) (p : Prefix) (values : List Value) (asked : Bool) → has_asked points ≡ false → TellsInOrder speech points p values asked → Alternate (values ++ None ∷ []) × (asked ≡ false)
alternates speech [] p values asked never (none, not) = (subst (λ l. Alternate (l ++ None ∷ [])) (sym none) tt, not)
alternates speech (Decided due ∷ points) p values asked never order = alternates speech points p values asked never order
alternates speech (Asked ∷ points) p values asked never order = absurd (false≢true (sym never))
alternates speech (Offered taken ∷ points) p values asked never (inl order) = alternates speech points p values asked never order
alternates speech (Offered taken ∷ points) p values asked never (inr one) =
    let before = alternates speech points p one.earlier one.was_asked never one.before in
    (subst (λ l. Alternate (l ++ None ∷ [])) (sym one.are) (other_first one.value one.earlier (is_news before.1 one.news) before.0), one.answered) where
      is_news : one.was_asked ≡ false → (one.value ≢ latest one.earlier) ⊎ (one.was_asked ≡ true) → one.value ≢ latest one.earlier
      is_news not (inl ne) = ne
      is_news not (inr asked) = absurd (false≢true (sym not ∙ asked))

-- ---- without what is still in flight

-- in order, with or without a request since
pub record IsSomehowInOrder (speech : Speech) (points : List Point) (p : Prefix) (values : List Value) : Type 0 where
  pub asked : Bool
  pub order : TellsInOrder speech points p values asked

without_newest : (speech : Speech) (points : List Point) (p : Prefix) (value : Value) (values : List Value) (asked : Bool) → TellsInOrder speech points p (value ∷ values) asked → IsSomehowInOrder speech points p values
without_newest speech [] p value values asked (none, not) = absurd (let f : ◌≡◌ {A = List Value} (value ∷ values) [] = none in cc)
without_newest speech (Decided due ∷ points) p value values asked order = let rest = without_newest speech points p value values asked order in record { asked = rest.asked; order = rest.order }
without_newest speech (Asked ∷ points) p value values asked (now, was, order) = let rest = without_newest speech points p value values was order in record { asked = true; order = (refl, rest.asked, rest.order) }
without_newest speech (Offered taken ∷ points) p value values asked (inl order) = let rest = without_newest speech points p value values asked order in record { asked = rest.asked; order = inl rest.order }
without_newest speech (Offered taken ∷ points) p value values asked (inr one) =
    let same : one.earlier ≡ values = let e : ◌≡◌ {A = List Value} (value ∷ values) (one.value ∷ one.earlier) = one.are in cc in
    record { asked = one.was_asked; order = inl (subst (λ l. TellsInOrder speech points p l one.was_asked) same one.before) }

without_newer : (speech : Speech) (points : List Point) (p : Prefix) (newer values : List Value) → IsSomehowInOrder speech points p (newer ++ values) → IsSomehowInOrder speech points p values
without_newer speech points p [] values so = so
without_newer speech points p (value ∷ newer) values so = without_newer speech points p newer values (without_newest speech points p value (newer ++ values) so.asked so.order)

among_join : (limit : Limit) (ms ns : List (List ℕ)) → updates_among limit (ms ++ ns) ≡ updates_among limit ms ++ updates_among limit ns
among_join limit [] ns = refl
among_join limit (m ∷ ms) ns = by_test (heads_update (header_of (allowed_to limit) (take 19 m))) (among_join limit ms ns) where
  by_test : (b : Bool) → updates_among limit (ms ++ ns) ≡ updates_among limit ms ++ updates_among limit ns → body_if b m (updates_among limit (ms ++ ns)) ≡ body_if b m (updates_among limit ms) ++ updates_among limit ns
  by_test true e = ap (λ l. body_of m ∷ l) e
  by_test false e = e

-- what goes with the first of a list
pub record Zips {A B : Type 0} (R : A → B → Type 0) (xs : List A) (zs : List B) : Type 0 where
  pub front : List B
  pub behind : List B
  pub whole : zs ≡ front ++ behind
  pub zips : AllZip R xs front

zip_front : {A B : Type 0} (R : A → B → Type 0) (xs ys : List A) (zs : List B) → AllZip R (xs ++ ys) zs → Zips R xs zs
zip_front R [] ys zs h = record { front = []; behind = zs; whole = refl; zips = tt }
zip_front R (x ∷ xs) ys [] h = absurd h
zip_front R (x ∷ xs) ys (z ∷ zs) h = let rest = zip_front R xs ys zs h.1 in record { front = z ∷ rest.front; behind = rest.behind; whole = ap (λ l. z ∷ l) rest.whole; zips = (h.0, rest.zips) }

told_join : (xs ys : List Change) (p : Prefix) → told_by (xs ++ ys) p ≡ told_by xs p ++ told_by ys p
told_join [] ys p = refl
told_join (x ∷ xs) ys p = by_test (mentions p x) (told_join xs ys p) where
  by_test : (b : Bool) → told_by (xs ++ ys) p ≡ told_by xs p ++ told_by ys p
      → (if b then attributes_after p (Some x) ∷ told_by (xs ++ ys) p else told_by (xs ++ ys) p) ≡ (if b then attributes_after p (Some x) ∷ told_by xs p else told_by xs p) ++ told_by ys p
  by_test true e = ap (λ l. attributes_after p (Some x) ∷ l) e
  by_test false e = e

-- what was taken of whole messages has no header at fault
front_readable : (limit : Limit) (taken flight : List ℕ) → rest_of (allowed_to limit) (taken ++ flight) ≡ [] → IsReadable limit taken
front_readable limit taken flight none = by_size (nat_lt (length rest) 19) refl where
  rest : List ℕ
  rest = rest_of (allowed_to limit) taken

  by_header : (r : Result Head HeaderFault) (n : ℕ) → IsOkAnd r (λ head. head.length ≡ n) → header_fault r ≡ []
  by_header (Ok head) n is = refl
  by_header (Err fault) n is = absurd is

  by_first : (ms : List (List ℕ)) → 19 ≤ length rest → rest ++ flight ≡ flat_map (λ (m : List ℕ). m) ms → AllByRecursion (IsMessage (allowed_to limit)) ms
      → header_fault (header_of (allowed_to limit) (take 19 rest)) ≡ []
  by_first [] long whole each = absurd (omega (arith, long, length-append rest flight, ap length whole))
  by_first (m ∷ ms) long whole each =
      let later : List ℕ = flat_map (λ (m : List ℕ). m) ms in
      let first : take 19 rest ≡ take 19 m = sym (take-append-le 19 rest flight long) ∙ ap (take 19) whole ∙ take-append-le 19 m later (each.0).0 in
      ap (λ front. header_fault (header_of (allowed_to limit) front)) first ∙ by_header (header_of (allowed_to limit) (take 19 m)) (length m) (each.0).1

  by_size : (short : Bool) → nat_lt (length rest) 19 ≡ short → IsReadable limit taken
  by_size true e = ap (λ b. if b then [] else header_fault (header_of (allowed_to limit) (take 19 rest))) e
  by_size false e =
      let cut = cuts_of (allowed_to limit) (rest ++ flight) in
      let ms : List (List ℕ) = messages_of (allowed_to limit) (rest ++ flight) in
      let nothing : rest_of (allowed_to limit) (rest ++ flight) ≡ [] = sym (pieces_join (allowed_to limit) taken flight).1 ∙ none in
      ap (λ b. if b then [] else header_fault (header_of (allowed_to limit) (take 19 rest))) e
      ∙ by_first ms (ltb-false _ _ e) (cut.whole ∙ ap (λ r. flat_map (λ (m : List ℕ). m) ms ++ r) nothing ∙ append-nil (flat_map (λ (m : List ℕ). m) ms)) cut.each

told_by_taken : (speech : Speech) (points : List Point) (taken flight : List ℕ) (p : Prefix) (values : List Value) (asked : Bool) → rest_of (allowed_to speech.limit) (taken ++ flight) ≡ [] → TellsAt speech (taken ++ flight) p values
    → TellsInOrder speech points p values asked → IsToldInTurn speech points taken p
told_by_taken speech points taken flight p values asked whole tells order =
    let R : List ℕ → Change → Type 0 = λ body change. HasEffect body speech.mode (Changes change) in
    let allowed = allowed_to speech.limit in
    let more : List (List ℕ) = updates_among speech.limit (messages_of allowed (rest_of allowed taken ++ flight)) in
    let parts : updates_in speech.limit (taken ++ flight) ≡ updates_in speech.limit taken ++ more =
    ap (updates_among speech.limit) (pieces_join allowed taken flight).0 ∙ among_join speech.limit (messages_of allowed taken) _ in
    let zips = zip_front R (updates_in speech.limit taken) more tells.changes (subst (λ bodies. AllZip R bodies tells.changes) parts tells.have) in
    let told : List Value = told_by (reverse zips.front) p in
    let newer : List Value = told_by (reverse zips.behind) p in
    let are : values ≡ newer ++ told = tells.are ∙ ap (λ l. told_by (reverse l) p) zips.whole ∙ ap (λ l. told_by l p) (reverse-append zips.front zips.behind) ∙ told_join (reverse zips.behind) (reverse zips.front) p in
    let so = without_newer speech points p newer told (record { asked = asked; order = subst (λ l. TellsInOrder speech points p l asked) are order }) in
    record {
      readable = front_readable speech.limit taken flight whole;
      values = told;
      asked = so.asked;
      tells = record { changes = zips.front; have = zips.zips; are = refl };
      order = so.order;
      had = had_from speech points p told so.asked so.order;
      alternate = λ never. (alternates speech points p told so.asked never so.order).0;
    }

-- ---- laws

any_view : View
any_view = bare 0 false lasts.Never

pub tells_in_turn : TellsInTurn
unfolding client_count
tells_in_turn core run c speech p lt h spoken =
    let at = (h.clients c lt).knows in
    let v : View = outlet_in core.ribs c any_view in
    let told = (at.ordered h.config any_view).told speech ((at.outlet h.config any_view).speech ∙ spoken) p in
    let whole = ((at.outlet h.config any_view).since speech ((at.outlet h.config any_view).speech ∙ spoken)).whole in
    told_by_taken speech (hearing c run).points (hearing c run).taken v.flight p told.values told.asked whole told.tells told.order

pub has_what_was_due : HasWhatWasDue
unfolding client_count loc_rib
has_what_was_due core run c p lt h up =
    let at = (h.clients c lt).knows in
    let s : Configuration = config_in run in
    let it : Hearing = hearing c run in
    let v : View = outlet_in core.ribs c any_view in
    let brought = brings_up (session_in s c) it.items (up_is (state_in s c it) up) in
    let spoken : speech_in s c it ≡ speech_by s.top.extended (Some brought.sent) =
    ap (λ b. if b then speech_by s.top.extended (agreed_of (session_in s c) it.items) else None) up ∙ ap (speech_by s.top.extended) brought.agreed in
    let xs : List View = core.ribs.outlets.items in
    let there : c < length xs = subst (λ n. c < n) (sym (core.ribs.outlets_len ∙ core.ribs_len)) lt in
    ap (λ o. loc_in o p) (slice_get_read xs (length xs) c v refl there (default_same xs c any_view v there))
    ∙ (at.ordered h.config any_view).loc _ ((at.outlet h.config any_view).speech ∙ spoken) p

-- and that of one that isn't Established is empty
pub loc_empty : (core : Core) (run : List Move) (c : ℕ) (none : View) → c < core.count → Agrees core run → is_established run c ≡ false → (outlet_in core.ribs c none).loc ≡ fin.empty
loc_empty core run c none lt h down =
    let at = (h.clients c lt).knows.outlet h.config none in
    at.order.down (at.speech ∙ down_speech (config_in run) c (hearing c run) down)

-- a client's outlet, as calls read it
pub record IsOutlet (core : Core) (c : ℕ) (v : View) : Type 0 where
  pub read : slice_get core.ribs.outlets.items c ≡ Some v
  pub numbered : AreNumbered v core.ribs.tables
  pub down : (run : List Move) → Agrees core run → is_established run c ≡ false → v.loc ≡ fin.empty

pub outlet_read : (core : Core) (c : ℕ) (v : View) → c < client_count core → v ≡ get_or core.ribs.outlets.items c v → IsOutlet core c v
unfolding client_count
outlet_read core c v here is = record {
  read = slice_get_read core.ribs.outlets.items core.count c v (sym (core.ribs.outlets_len ∙ core.ribs_len)) here is;
  numbered = subst (λ o. AreNumbered o core.ribs.tables) (sym is) (core.numbered.each c v (subst (λ n. c < n) (sym core.ribs_len) here));
  down = λ run h down. subst (λ (o : View). o.loc ≡ fin.empty) (sym is) (loc_empty core run c v here h down);
}
