-- Each list of prefixes has one that names each of them once: so a message has an effect.
use Rattle.std.proofs.Common.{List, refl}
use Rattle.rs_octets.specs.Prefixes.{Prefix}
use Rattle.rs_attrs.specs.Effects.{once}
use Rattle.rs_attrs.proofs.EachOnce.{once_distinct, once_has}
use Rattle.rs_packer.specs.Denoted.{IsEachOnce}
use Rattle.rs_packer.specs.Laws.{AnnouncementAnnounces, WithdrawalWithdraws}
use Rattle.rs_packer.proofs.Denoting.{announcement_has_effect, withdrawal_has_effect}

once_each : (ps : List Prefix) → IsEachOnce ps (once ps)
once_each ps = record { once = once_distinct ps; same = λ p. once_has p ps }

pub announcement_announces : AnnouncementAnnounces
announcement_announces m mode ps is = announcement_has_effect m mode ps is _ (record { announced = once_each ps; attributes = refl; withdrawn = refl })

pub withdrawal_withdraws : WithdrawalWithdraws
withdrawal_withdraws mode ps is = withdrawal_has_effect mode ps is _ (record { withdrawn = once_each ps; announced = refl; attributes = refl })
