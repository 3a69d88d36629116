-- What is found where the files of rules are looked for.
use Rattle.std.specs.Prelude.{ℕ, ◌≤◌, ◌-◌, List, [], ◌∷◌, ⊤}
use Rattle.rs_streams.specs.declared.file_watch.Found.{Found}
use Rattle.rs_streams.specs.declared.file_watch.Found.TheVariants as founds

-- all are regular files, and have at most so many octets together
abbrev pub AreSmall : ℕ → List Found → Type 0
AreSmall room [] = ⊤
AreSmall room (founds.File version ∷ files) = (version.size ≤ room) × AreSmall (room - version.size) files
AreSmall room (founds.Nothing ∷ files) = ⊥
AreSmall room (founds.Other ∷ files) = ⊥
