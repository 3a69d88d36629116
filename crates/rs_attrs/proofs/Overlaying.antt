-- The table that changes mean, with a change more.
use Rattle.std.proofs.Common.{◌≡◌, Bool, true, false, cond, [], ◌∷◌, Option, Some, refl, ap, ◌∙◌}
use Rattle.std.specs.Prelude.{reverse, find}
use Rattle.std.proofs.lemmas.List.{reverse-append}
use Rattle.rs_attrs.specs.Effects.{Change, mentions, attributes_after}
use Rattle.rs_attrs.specs.TableLaws.{NewestOverlays, LastOverlays}

pub newest_overlays : NewestOverlays
newest_overlays change changes p = by_test (mentions p change) (find (mentions p) changes)
  where
    by_test : (b : Bool) (older : Option Change) → attributes_after p (cond b (Some change) older) ≡ cond b (attributes_after p (Some change)) (attributes_after p older)
    by_test true older = refl
    by_test false older = refl

pub last_overlays : LastOverlays
last_overlays changes change p =
    ap (λ newest. attributes_after p (find (mentions p) newest)) (reverse-append changes (change ∷ [])) ∙ newest_overlays change (reverse changes) p
