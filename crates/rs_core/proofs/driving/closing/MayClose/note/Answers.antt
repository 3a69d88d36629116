use Rattle.std.proofs.Common.{inl, inr, ap, sym, subst}
use Rattle.rs_core.specs.Drives.Closing.{Notes}
use Rattle.rs_core.specs.declared.links.Event.{Event}
use Rattle.rs_core.proofs.Drives.Closing.{may_end, notes_command, notes_none, notes_octets}
use Rattle.rs_core.proofs.driving.closing.MayClose.note.Goals as goal

pub returns-in-Octets : goal.returns-in-Octets
returns-in-Octets c =
    subst (λ (e : Event). Notes e c.args.self.now c.add.new.self) (sym c.in-Octets.is) (notes_octets c.in-Octets.c c.in-Octets.field-1 c.args.self.now c.add.new.self c.add.ensures)

pub returns-in-Commanded : goal.returns-in-Commanded
returns-in-Commanded c =
    subst (λ (e : Event). Notes e c.args.self.now c.add-in-Commanded.new.self) (sym c.in-Commanded.is) (notes_command c.in-Commanded.c c.in-Commanded.field-1 c.args.self.now c.add-in-Commanded.new.self c.add-in-Commanded.ensures)

pub returns-in-Opened : goal.returns-in-Opened
returns-in-Opened c = notes_none c.args.event c.args.self.now (elim c.in-Opened.is [
  | inl opened ↦ ap may_end opened.1
  | inr rest ↦ elim rest [
    | inl turn ↦ ap may_end turn
    | inr rest ↦ elim rest [
      | inl room ↦ ap may_end room.2
      | inr rest ↦ elim rest [
        | inl lost ↦ ap may_end lost.1
        | inr stop ↦ ap may_end stop
      ]
    ]
  ]
])
