-- What it is to begin the next message (RFC 4271, 4.3 to 4.5, 9.2).
use Rattle.std.specs.Prelude.{◌≡◌, ◌≢◌, true, false, Some, None, []}
use Rattle.rs_open.specs.Writing.{keepalive}
use Rattle.rs_open.specs.declared.short.Short.{Short}
use Rattle.rs_outlet.specs.declared.answers.Speech.{Speech}
use Rattle.rs_outlet.specs.Message.Begins.{BeginsUpdate}
use Rattle.rs_outlet.specs.Message.Next.{note_octets}
use Rattle.rs_outlet.specs.Views.{View, WaitsAreExact}

-- nothing begins while something is in flight; else the NOTIFICATION that waits, the KEEPALIVE that is due, or an UPDATE
pub record HasBegun (old new : View) : Type 0 where
  pub rest : new ≡ record old { told = new.told; flight = new.flight; keepalive_due = new.keepalive_due; note = new.note; marked = new.marked; waits = new.waits }
  pub kept : old.flight ≢ [] → new ≡ old
  pub note : (note : Short) → old.flight ≡ [] → old.note ≡ Some note → new ≡ record old { flight = note_octets note; note = None }
  pub keepalive : old.flight ≡ [] → old.note ≡ None → old.keepalive_due ≡ true → new ≡ record old { flight = keepalive; keepalive_due = false }
  pub update : old.flight ≡ [] → old.note ≡ None → old.keepalive_due ≡ false → (new.note ≡ None) × (new.keepalive_due ≡ false)
  pub begins : (speech : Speech) → old.flight ≡ [] → old.note ≡ None → old.keepalive_due ≡ false → old.speech ≡ Some speech → BeginsUpdate speech old new
  pub down : old.flight ≡ [] → old.note ≡ None → old.keepalive_due ≡ false → old.speech ≡ None → new ≡ old
  pub exact : WaitsAreExact old → WaitsAreExact new
