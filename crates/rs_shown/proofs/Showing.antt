-- The routes of the core's tables that are left, from a number on; and how a client is spoken to.
use Rattle.std.proofs.Common.{◌≡◌, ◌∙◌, ◌≤◌, ◌<◌, refl, sym, ap, ℕ, Bool, true, false, T, List, [], Option, Some, None}
use Rattle.std.specs.Prelude.{if◌then◌else◌}
use Rattle.std.specs.FinMap.{find, is_sorted}
use Rattle.std.specs.Ordering.{is_le}
use Rattle.rs_octets.specs.Prefixes.{Prefix, IsIpv4Prefix, prefix_order}
use Rattle.rs_attrs.specs.Meaning.{Attribute}
use Rattle.rs_attrs.specs.declared.mode.Mode.{Mode}
use Rattle.rs_open.specs.declared.open.Open.{Open}
use Rattle.rs_open.specs.declared.short.Limit.{Limit}
use Rattle.rs_session.specs.Sessions.{limit_by, mode_by, mode_in}
use Rattle.rs_core.specs.Core.{client_count, loc_rib}
use Rattle.rs_core.specs.Run.Agreeing.{Agrees}
use Rattle.rs_core.specs.Run.Meaning.{dues, is_established, speech_by}
use Rattle.rs_core.specs.Run.Moves.{Move}
use Rattle.rs_core.specs.Told.Points.{latest}
use Rattle.rs_core.specs.declared.route_server.Core.{Core}
use Rattle.rs_core.proofs.Told.InTurn.{has_what_was_due}
use Rattle.rs_page_parts.specs.Keys.{key_of}
use Rattle.rs_page_parts.proofs.Firsts.{AreLeft, begun}
use Rattle.rs_shown.specs.Shown.{due_last, speech_with}

nothing : (b : Bool) (o : Option (List Attribute)) → o ≡ None → o ≡ (if b then o else None)
nothing true o e = refl
nothing false o e = e

-- the routes of a Loc-RIB, where the client is Established or is not
pub begun_due : (core : Core) (run : List Move) (c : ℕ) (from : Prefix) (at : ℕ) (routes : List (Prefix × List Attribute)) → c < client_count core → Agrees core run → IsIpv4Prefix from → key_of from ≤ at
    → T (is_sorted prefix_order routes) → ((p : Prefix) → find prefix_order p routes ≡ (if is_le (prefix_order from p) then loc_rib core c p else None)) → (is_established run c ≡ false → routes ≡ []) → AreLeft (due_last run c) at routes
begun_due core run c from at routes lt agrees proper low rising each down = one (is_established run c) refl
  where
    one : (up : Bool) → is_established run c ≡ up → AreLeft (due_last run c) at routes
    one true up =
        begun (due_last run c) from at routes proper low rising
        (λ p. each p ∙ ap (λ o. if is_le (prefix_order from p) then o else None) (has_what_was_due core run c p lt agrees up ∙ sym (ap (λ b. if b then latest (dues run c p) else None) up)))
    one false up =
        let empty = down up in
        begun (due_last run c) from at routes proper low rising
        (λ p. ap (find prefix_order p) empty ∙ nothing (is_le (prefix_order from p)) None refl ∙ sym (ap (λ o. if is_le (prefix_order from p) then o else None) (ap (λ b. if b then latest (dues run c p) else None) up)))

-- how a client is spoken to that has a mode and a limit just while it is Established
pub spoken : (up extended : Bool) (agreed : Option Open) (mode : Option Mode) (limit : Option Limit) → mode ≡ (if up then mode_by agreed else None) → limit ≡ (if up then Some (limit_by extended agreed) else None) → speech_with mode limit ≡ (if up then speech_by extended agreed else None)
spoken true extended (Some sent) mode limit e f = ap (λ m. speech_with m limit) e ∙ ap (speech_with (Some (mode_in sent.four))) f
spoken true extended None mode limit e f = ap (λ m. speech_with m limit) e
spoken false extended agreed mode limit e f = ap (λ m. speech_with m limit) e
