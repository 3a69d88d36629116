-- A route that is put with its note.
use Rattle.std.proofs.Common.{◌≡◌, ◌∙◌, ℕ, List, ap}
use Rattle.std.specs.Prelude.{Some}
use Rattle.rs_octets.specs.Prefixes.{Prefix}
use Rattle.rs_attrs.specs.Meaning.{Attribute}
use Rattle.rs_adjin.specs.declared.adj_ins.AdjIns.{AdjIns}
use Rattle.rs_adjin.specs.AdjIns.{number_of, AreNoted, KeepsNotes, PutsNoteAt}
use Rattle.rs_policy.specs.Configuration.{Configuration}
use Rattle.rs_policy.specs.Noted.{note_of_import}

-- its prefix got a number first
pub noted_put : (s : Configuration) (old mid new : AdjIns) (c n : ℕ) (p : Prefix) (m x : List Attribute) (note : ℕ) → AreNoted (note_of_import s) old → KeepsNotes old mid → number_of mid p ≡ Some n
    → note ≡ note_of_import s c p x → x ≡ m → PutsNoteAt mid new c n m note → AreNoted (note_of_import s) new
noted_put s old mid new c n p m x note noted keeps at is same puts = puts p at (note_of_import s) (keeps (note_of_import s) noted) (is ∙ ap (note_of_import s c p) same)
