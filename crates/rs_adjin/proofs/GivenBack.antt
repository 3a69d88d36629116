-- A number that a prefix got and that was given up again.
use Rattle.std.proofs.Common.{true, false, ◌≡◌, ◌≢◌, ℕ, [], refl, sym, ◌∙◌, ap, subst, inl, inr}
use Rattle.std.specs.Prelude.{Option, Some, None}
use Rattle.std.proofs.lemmas.Option.{same_Some}
use Rattle.std.specs.BTreeMap.{is_at}
use Rattle.rs_octets.specs.Prefixes.{Prefix, prefix_order}
use Rattle.rs_adjin.specs.declared.numbers.Numbered.{Numbered}
use Rattle.rs_adjin.specs.Routes.{value_in}
use Rattle.rs_adjin.specs.Numbering.{prefix_at, routes_by}
use Rattle.rs_adjin.specs.Numbers.{number_in, prefix_of_in, routes_at, routes_of, SameNumbers, SameNumbersBut, SameLists, GivesUp}
use Rattle.rs_adjin.specs.Table.{IsSame}
use Rattle.rs_adjin.proofs.Holding.{at_number, same_number}
use Rattle.rs_adjin.proofs.Listed.{all_none}
use Rattle.rs_adjin.proofs.TableRows.{prefix_is, at_itself, none_some}

apart : (p q : Prefix) → is_at (prefix_order p) q ≡ false → q ≢ p
apart p q other e = absurd (let t : is_at (prefix_order p) p ≡ false = subst (λ x. is_at (prefix_order p) x ≡ false) e other in let f : true ≡ false = sym (at_itself p) ∙ t in (cc))

-- ---- each prefix has the number that it had

module _ (old mid new : Numbered) (p : Prefix) (n : ℕ) (absent : number_in old p ≡ None) (at : number_in mid p ≡ Some n) (others : SameNumbersBut p old mid) (gives : GivesUp mid new n) (none : prefix_of_in new n ≡ None) where
  gone : (o : Option ℕ) → number_in new p ≡ o → o ≡ None
  gone None is = refl
  gone (Some m) is =
      let same : m ≡ n = same_Some m n (sym (gives.none_new p m is) ∙ at) in
      absurd (none_some (prefix_of_in new n) p none (subst (λ k. prefix_at new.rows.items k ≡ Some p) same (new.inverse.there p m is)))

  still_none : (q : Prefix) → q ≢ p → number_in old q ≡ None → (o : Option ℕ) → number_in new q ≡ o → o ≡ None
  still_none q ne was None is = refl
  still_none q ne was (Some m) is = absurd (none_some (number_in old q) m was (sym (others q ne) ∙ gives.none_new q m is))

  left : (q : Prefix) → q ≢ p → (o : Option ℕ) → number_in old q ≡ o → number_in new q ≡ o
  left q ne None was = still_none q ne was (number_in new q) refl
  left q ne (Some m) was = let there : number_in mid q ≡ Some m = others q ne ∙ was in gives.kept q m (λ e. ne (same_number mid p q n at (there ∙ ap (λ k. Some k) e))) there

  pub undone : SameNumbers old new
  undone q = elim (prefix_is p q) [
    | inl e ↦ subst (λ x. number_in new x ≡ number_in old x) (sym e) (gone (number_in new p) refl ∙ sym absent)
    | inr other ↦ left q (apart p q other) (number_in old q) refl
  ]

-- ---- nobody has a route there

pub nobody : (table : Numbered) (p : Prefix) (n : ℕ) → number_in table p ≡ Some n → ((d : ℕ) → value_in d (routes_at table p) ≡ None) → routes_of table n ≡ []
nobody table p n at none = all_none (routes_of table n) (λ d. ap (value_in d) (sym (at_number table p n at)) ∙ none d)

pub nobody_yet : (old mid new : Numbered) (p : Prefix) → number_in old p ≡ None → SameLists old mid → IsSame mid new → (d : ℕ) → value_in d (routes_at new p) ≡ None
nobody_yet old mid new p absent rows same d = same d p ∙ (ap (value_in d) (rows p) ∙ ap (λ o. value_in d (routes_by old.rows.items o)) absent)
