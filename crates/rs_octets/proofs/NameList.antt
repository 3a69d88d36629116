-- Every name stands in the list of names.
use Rattle.std.proofs.Common.{◌≡◌, ℕ, ◌<◌, Bool, get_or, refl, sym, ap, subst, ◌∙◌, lit<}
use Rattle.std.specs.Prelude.{◌==◌, ◌&&◌}
use Rattle.std.specs.List.{position_or_len}
use Rattle.rs_octets.specs.declared.notification.Notification.{Notification}
use Rattle.rs_octets.specs.declared.notification.Notification.TheVariants.{MessageHeaderError}
use Rattle.rs_octets.specs.declared.notification.TheConstants.{NAMES}
use Rattle.rs_octets.specs.Names.{code_of, sub_of, IsNamed}

abbrev is_like : Notification → Notification → Bool
is_like a b = (code_of a == code_of b) && (sub_of a == sub_of b)

-- where a name stands
pub place : Notification → ℕ
place name = position_or_len (is_like name) NAMES

pub place_fits : (name : Notification) → place name < 36
unfolding place
place_fits name = elim name as (λ n. place n < 36) [ MessageHeaderError ↦ lit< tt | _ ↦ lit< tt ]

pub stands : (name d : Notification) → get_or NAMES (place name) d ≡ name
unfolding place
stands name d = elim name as (λ n. get_or NAMES (place n) d ≡ n) [ MessageHeaderError ↦ refl | _ ↦ refl ]

-- the name at a place is not the one that is looked for
pub not_here : (code sub i : ℕ) (d : Notification) → (IsNamed (get_or NAMES i d) code sub → ⊥) → (name : Notification) → place name ≡ i → IsNamed name code sub → ⊥
not_here code sub i d differs name at is =
    let here : get_or NAMES i d ≡ name = ap (λ k. get_or NAMES k d) (sym at) ∙ stands name d in
    let P : Notification → Type 0 = λ n. IsNamed n code sub in
    differs (subst P (sym here) is)
