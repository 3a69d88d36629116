use Rattle.std.proofs.Common.{◌≡◌, ℕ, ◌<◌}
use Rattle.rs_octets.specs.declared.notification.Notification.{Notification}
use Rattle.rs_octets.specs.Names.{IsNamed}
use Rattle.rs_octets.proofs.NameList.{place}
use Rattle.rs_octets.proofs.notification.Notification.named.Given as goal

abbrev pub invariant-loop-name : goal.invariant-loop-name
invariant-loop-name l = (k : ℕ) → k < l.name-index → (name : Notification) → place name ≡ k → IsNamed name l.code l.sub → ⊥
