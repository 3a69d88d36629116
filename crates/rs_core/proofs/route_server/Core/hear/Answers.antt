use Rattle.std.proofs.Common.{◌≡◌, ◌++◌, append-nil, refl, sym, ◌∙◌, ap, subst}
use Rattle.rs_policy.specs.Configuration.{Configuration}
use Rattle.rs_core.specs.Core.{client_count}
use Rattle.rs_core.specs.Session.Hearing.{Hearing, hears}
use Rattle.rs_core.specs.Run.Agreeing.{AgreesAt}
use Rattle.rs_core.specs.Run.Parts.{HasHeardFront, IsBetween}
use Rattle.rs_core.specs.declared.ribs.Ribs.{Ribs}
use Rattle.rs_core.proofs.Run.Lists.{map_ok, map_err, none_are, on_err}
use Rattle.rs_core.proofs.Run.OtherRules.{unmoved}
use Rattle.rs_core.proofs.Session.Cutting.{deaf_agrees, none_waits, not_deaf, cut_before, agrees_joined}
use Rattle.rs_core.proofs.Session.Filling.{front_agrees, front_between}
use Rattle.rs_core.specs.Touched.Altering.{IsAlteredBy}
use Rattle.rs_core.specs.Ribs.{TouchesOthersJustWhere}
use Rattle.rs_core.proofs.Touched.Altering.{front_touches, piece_deaf, touches_after, touches_once}
use Rattle.rs_core.proofs.Touched.ChangedPrefixes.{touches_nowhere}
use Rattle.rs_core.proofs.Touched.Altering.{both_ok}
use Rattle.rs_core.proofs.Touched.OwnSession.{keeps_behind, keeps_between, keeps_same}
use Rattle.rs_core.proofs.Touched.ChangedPrefixes.{within_between}
use Rattle.rs_core.proofs.Touched.CutShort.{rest_within}
use Rattle.rs_core.proofs.route_server.Core.hear.Goals as goal

-- ---- the session doesn't last

pub returns-then-not-is_live-clause-heard : goal.returns-then-not-is_live-clause-heard
unfolding client_count
returns-then-not-is_live-clause-heard c = λ s h config at.
    deaf_agrees c.args.self.now s c.args.c c.args.piece.now h (sym (c.is_live.ensures s h at.knows) ∙ c.if-not-is_live.true) at.knows

pub returns-then-not-is_live-clause-others_touched : goal.returns-then-not-is_live-clause-others_touched
unfolding client_count
returns-then-not-is_live-clause-others_touched c = λ s h config at.
    touches_nowhere _ c.args.c c.args.self.now.ribs c.args.self.now.ribs (λ d none ne. refl) (λ p x. piece_deaf s c.args.c c.args.piece.now h p (sym (c.is_live.ensures s h at.knows) ∙ c.if-not-is_live.true) x)

pub returns-then-not-is_live-clause-keeps : goal.returns-then-not-is_live-clause-keeps
returns-then-not-is_live-clause-keeps c = λ s h config at none. keeps_same _ _ refl refl

-- ---- no octet waits

none_waiting : (c : goal.After-hear_piece) (s : Configuration) (h : Hearing) → AgreesAt c.args.self.now s c.args.c h → IsBetween c.args.self.now s c.args.c h
unfolding client_count
none_waiting c s h at = none_waits c.args.self.now s c.args.c h c.index.result.now c.requires c.index.ensures (sym c.is_empty.ensures ∙ c.if-is_empty.true) at

pub returns-then-is_empty-clause-heard : goal.returns-then-is_empty-clause-heard
returns-then-is_empty-clause-heard c = map_ok c.hear_piece.result c.hear_piece.ensures.heard (λ heard s h config at. heard s h config (none_waiting c s h at))

pub returns-then-is_empty-clause-refused : goal.returns-then-is_empty-clause-refused
returns-then-is_empty-clause-refused c = map_err c.hear_piece.result c.hear_piece.ensures.refused (λ refused s h config at. refused s h config (none_waiting c s h at))

pub returns-then-is_empty-clause-others_touched : goal.returns-then-is_empty-clause-others_touched
returns-then-is_empty-clause-others_touched c = map_ok c.hear_piece.result c.hear_piece.ensures.others_touched (λ others_touched s h config at. others_touched s h config (none_waiting c s h at))

pub returns-then-is_empty-clause-keeps : goal.returns-then-is_empty-clause-keeps
returns-then-is_empty-clause-keeps c = map_ok c.hear_piece.result c.hear_piece.ensures.keeps (λ keeps s h config at none. keeps s h config (none_waiting c s h at) none)

pub returns-then-is_empty-clause-cut : goal.returns-then-is_empty-clause-cut
returns-then-is_empty-clause-cut c = map_err c.hear_piece.result c.hear_piece.ensures.cut (λ cut s h config at. cut s h config (none_waiting c s h at))

pub returns-then-is_empty-clause-unheard : goal.returns-then-is_empty-clause-unheard
returns-then-is_empty-clause-unheard c = not_deaf c.args.self.now c.args.c c.is_live.result c.is_live.ensures c.if-not-is_live.false

-- ---- a message waits, and the piece has more than its rest

-- the front of the piece was heard with it
front : (c : goal.After-hear_piece-2) (s : Configuration) (h : Hearing) → c.args.self.now.ribs.config ≡ s → AgreesAt c.args.self.now s c.args.c h
    → HasHeardFront c.hear_waiting-heard.new.self s c.args.c h c.args.piece.now c.hear_waiting-heard.new.buffer.items c.in_ok-rest.rest.now
unfolding client_count
front c s h config at =
    let taken = c.take_buffer-buffer in
    c.in_ok-rest.ensures.heard s h (ap (λ (r : Ribs). r.config) taken.ensures.ribs ∙ config) (sym (c.is_live.ensures s h at.knows) ∙ c.if-not-is_live.false)
    (unmoved c.args.self.now taken.new.self s c.args.c h taken.ensures.sessions taken.ensures.ribs taken.ensures.watched at.knows) (at.waits taken.result taken.ensures.taken)

-- by the same configuration
still : (c : goal.After-hear_piece-2) (s : Configuration) → c.args.self.now.ribs.config ≡ s → c.put_buffer.new.self.ribs.config ≡ s
still c s config = ap (λ (r : Ribs). r.config) c.put_buffer.ensures.ribs ∙ c.hear_waiting-heard.ensures.spares.config ∙ ap (λ (r : Ribs). r.config) c.take_buffer-buffer.ensures.ribs ∙ config

-- and nothing waits then
between : (c : goal.After-hear_piece-2) (s : Configuration) (h : Hearing) (config : c.args.self.now.ribs.config ≡ s) (at : AgreesAt c.args.self.now s c.args.c h)
    → IsBetween c.put_buffer.new.self s c.args.c (hears s c.args.c (front c s h config at).front h)
between c s h config at = let put = c.put_buffer in
    front_between c.hear_waiting-heard.new.self put.new.self s c.args.c h c.args.piece.now c.hear_waiting-heard.new.buffer.items c.in_ok-rest.rest.now put.ensures.sessions put.ensures.ribs put.ensures.watched put.ensures.put
    (sym c.is_empty-2.ensures ∙ c.if-is_empty-2.false) (front c s h config at)

counted : (c : goal.After-hear_piece-2) → c.put_buffer.new.self.ribs.count ≡ c.args.self.now.ribs.count
unfolding client_count
counted c = ap (λ (r : Ribs). r.count) c.put_buffer.ensures.ribs ∙ c.hear_waiting-heard.new.self.ribs_len ∙ c.hear_waiting-heard.ensures.spares.count ∙ c.take_buffer-buffer.ensures.count ∙ sym c.args.self.now.ribs_len

-- what that touched
touched : (c : goal.After-hear_piece-2) (s : Configuration) (h : Hearing) (config : c.args.self.now.ribs.config ≡ s) (at : AgreesAt c.args.self.now s c.args.c h)
    → TouchesOthersJustWhere (IsAlteredBy s c.args.c (front c s h config at).front h) c.args.c c.args.self.now.ribs c.put_buffer.new.self.ribs
touched c s h config at =
    let taken = c.take_buffer-buffer in
    let heard = c.hear_waiting-heard in
    let it = front c s h config at in
    front_touches s c.args.c h it.front it.front c.args.self.now taken.new.self heard.new.self c.put_buffer.new.self taken.ensures.ribs c.put_buffer.ensures.ribs refl
    (touches_once s c.args.c it.front h taken.new.self heard.new.self it.once heard.ensures.others_touched (unmoved c.args.self.now taken.new.self s c.args.c h taken.ensures.sessions taken.ensures.ribs taken.ensures.watched at.knows) it.knows)

pub returns-clause-heard : goal.returns-clause-heard
returns-clause-heard c = map_ok c.hear_piece-2.result c.hear_piece-2.ensures.heard (λ on s h config at.
    let it = front c s h config at in
    agrees_joined c.hear_piece-2.new.self s c.args.c c.args.piece.now it.front c.in_ok-rest.rest.now h it.whole (on s (hears s c.args.c it.front h) (still c s config) (between c s h config at)))

pub returns-clause-refused : goal.returns-clause-refused
returns-clause-refused c = map_err c.hear_piece-2.result c.hear_piece-2.ensures.refused (λ on s h config at.
    let it = front c s h config at in
    cut_before c.hear_piece-2.new.self s c.args.c it.front h (on s (hears s c.args.c it.front h) (still c s config) (between c s h config at)))

pub returns-clause-others_touched : goal.returns-clause-others_touched
returns-clause-others_touched c = map_ok c.hear_piece-2.result c.hear_piece-2.ensures.others_touched (λ on s h config at.
    let it = front c s h config at in
    subst (λ o. TouchesOthersJustWhere (IsAlteredBy s c.args.c o h) c.args.c c.args.self.now.ribs c.hear_piece-2.new.self.ribs) (sym it.whole)
    (touches_after s c.args.c it.front c.in_ok-rest.rest.now h c.args.self.now.ribs c.put_buffer.new.self.ribs c.hear_piece-2.new.self.ribs (counted c) (touched c s h config at)
    (on s (hears s c.args.c it.front h) (still c s config) (between c s h config at))))

pub returns-clause-keeps : goal.returns-clause-keeps
returns-clause-keeps c = both_ok c.hear_piece-2.result c.hear_piece-2.ensures.keeps c.hear_piece-2.ensures.heard (λ on on_heard s h config at none.
    let it = front c s h config at in
    let taken = c.take_buffer-buffer in
    let mid = still c s config in
    let clear = between c s h config at in
    keeps_behind c.args.self.now c.put_buffer.new.self c.hear_piece-2.new.self s c.args.c it.front c.in_ok-rest.rest.now h config mid (c.hear_piece-2.ensures.spares.config ∙ mid)
    at.knows clear.knows (on_heard s (hears s c.args.c it.front h) mid clear).knows none
    (keeps_between c.args.c c.args.self.now.ribs taken.new.self.ribs c.hear_waiting-heard.new.self.ribs c.put_buffer.new.self.ribs none taken.ensures.ribs c.put_buffer.ensures.ribs
    (c.hear_waiting-heard.ensures.keeps s h (ap (λ (r : Ribs). r.config) taken.ensures.ribs ∙ config) (unmoved c.args.self.now taken.new.self s c.args.c h taken.ensures.sessions taken.ensures.ribs taken.ensures.watched at.knows) none))
    (on s (hears s c.args.c it.front h) mid clear none))

pub returns-clause-cut : goal.returns-clause-cut
returns-clause-cut c = map_err c.hear_piece-2.result c.hear_piece-2.ensures.cut (λ cut s h config at.
    let it = front c s h config at in
    let clear = between c s h config at in
    rest_within s c.args.c h c.args.piece.now it.front c.in_ok-rest.rest.now c.args.self.now c.put_buffer.new.self c.hear_piece-2.new.self.ribs it.whole (counted c) at.knows clear.knows (touched c s h config at)
    (cut s (hears s c.args.c it.front h) (still c s config) clear))

pub returns-clause-unheard : goal.returns-clause-unheard
returns-clause-unheard c = not_deaf c.args.self.now c.args.c c.is_live.result c.is_live.ensures c.if-not-is_live.false

-- ---- a message waits, and the piece has no more

pub returns-then-is_empty-2-clause-heard : goal.returns-then-is_empty-2-clause-heard
unfolding client_count
returns-then-is_empty-2-clause-heard c = λ s h config at.
    let i = c.args.c in
    let taken = c.take_buffer-buffer in
    let heard = c.hear_waiting-heard in
    let live = sym (c.is_live.ensures s h at.knows) ∙ c.if-not-is_live.false in
    let front = c.in_ok-rest.ensures.heard s h (ap (λ (r : Ribs). r.config) taken.ensures.ribs ∙ config) live
    (unmoved c.args.self.now taken.new.self s i h taken.ensures.sessions taken.ensures.ribs taken.ensures.watched at.knows) (at.waits taken.result taken.ensures.taken) in
    front_agrees heard.new.self c.put_buffer.new.self s i h c.args.piece.now heard.new.buffer.items c.in_ok-rest.rest.now c.put_buffer.ensures.sessions c.put_buffer.ensures.ribs c.put_buffer.ensures.watched c.put_buffer.ensures.put
    (none_are c.in_ok-rest.rest.now (sym c.is_empty-2.ensures ∙ c.if-is_empty-2.true)) front

pub returns-then-is_empty-2-clause-others_touched : goal.returns-then-is_empty-2-clause-others_touched
unfolding client_count
returns-then-is_empty-2-clause-others_touched c = λ s h config at.
    let i = c.args.c in
    let taken = c.take_buffer-buffer in
    let heard = c.hear_waiting-heard in
    let live = sym (c.is_live.ensures s h at.knows) ∙ c.if-not-is_live.false in
    let was = unmoved c.args.self.now taken.new.self s i h taken.ensures.sessions taken.ensures.ribs taken.ensures.watched at.knows in
    let front = c.in_ok-rest.ensures.heard s h (ap (λ (r : Ribs). r.config) taken.ensures.ribs ∙ config) live was (at.waits taken.result taken.ensures.taken) in
    let whole : front.front ≡ c.args.piece.now = sym (front.whole ∙ ap (λ r. front.front ++ r) (none_are c.in_ok-rest.rest.now (sym c.is_empty-2.ensures ∙ c.if-is_empty-2.true)) ∙ append-nil front.front) in
    front_touches s i h front.front c.args.piece.now c.args.self.now taken.new.self heard.new.self c.put_buffer.new.self taken.ensures.ribs c.put_buffer.ensures.ribs whole (touches_once s i front.front h taken.new.self heard.new.self front.once heard.ensures.others_touched was front.knows)

pub returns-then-is_empty-2-clause-keeps : goal.returns-then-is_empty-2-clause-keeps
unfolding client_count
returns-then-is_empty-2-clause-keeps c = λ s h config at none.
    let taken = c.take_buffer-buffer in
    let was = unmoved c.args.self.now taken.new.self s c.args.c h taken.ensures.sessions taken.ensures.ribs taken.ensures.watched at.knows in
    keeps_between c.args.c c.args.self.now.ribs taken.new.self.ribs c.hear_waiting-heard.new.self.ribs c.put_buffer.new.self.ribs none taken.ensures.ribs c.put_buffer.ensures.ribs
    (c.hear_waiting-heard.ensures.keeps s h (ap (λ (r : Ribs). r.config) taken.ensures.ribs ∙ config) was none)

pub returns-then-is_empty-2-clause-unheard : goal.returns-then-is_empty-2-clause-unheard
returns-then-is_empty-2-clause-unheard c = not_deaf c.args.self.now c.args.c c.is_live.result c.is_live.ensures c.if-not-is_live.false

-- ---- memory was refused for the message that waits

pub returns-in_err-rest-clause-cut : goal.returns-in_err-rest-clause-cut
unfolding client_count
returns-in_err-rest-clause-cut c = on_err c.from_residual.result (λ s h config at.
    let taken = c.take_buffer-buffer in
    let live = sym (c.is_live.ensures s h at.knows) ∙ c.if-not-is_live.false in
    within_between (IsAlteredBy s c.args.c c.args.piece.now h) c.args.c c.args.self.now.ribs taken.new.self.ribs c.hear_waiting-heard.new.self.ribs c.put_buffer.new.self.ribs taken.ensures.ribs c.put_buffer.ensures.ribs
    (c.in_err-rest.ensures.cut s h (ap (λ (r : Ribs). r.config) taken.ensures.ribs ∙ config) live
    (unmoved c.args.self.now taken.new.self s c.args.c h taken.ensures.sessions taken.ensures.ribs taken.ensures.watched at.knows) (at.waits taken.result taken.ensures.taken)))

pub returns-in_err-rest-clause-unheard : goal.returns-in_err-rest-clause-unheard
returns-in_err-rest-clause-unheard c = not_deaf c.args.self.now c.args.c c.is_live.result c.is_live.ensures c.if-not-is_live.false
