-- Where no pattern takes anything out, attributes stay as they are.
use Rattle.std.proofs.Common.{◌≡◌, List, [], ◌∷◌, false, refl}
use Rattle.rs_octets.proofs.Members.{any_false}
use Rattle.rs_attrs.specs.Getters.{communities_of, large_communities_of}
use Rattle.rs_attrs.specs.Meaning.{Attribute}
use Rattle.rs_attrs.specs.Stripping.{Taken, is_stripped, is_stripped_large, stripped_of}
use Rattle.rs_attrs.specs.Writing.{IsLegal}
use Rattle.rs_attrs.proofs.Strips.StrippedLaws.{stripped_same}

abbrev pub nothing : Taken
nothing = record {
  communities = [] ∷ [] ∷ [];
  all_communities = false;
  large = [] ∷ [] ∷ [];
  all_large = false;
}

pub nothing_stripped : (m : List Attribute) → IsLegal m → stripped_of nothing m ≡ m
nothing_stripped m legal =
    stripped_same nothing m legal
    (any_false (is_stripped nothing) (communities_of m) (λ x member. refl))
    (any_false (is_stripped_large nothing) (large_communities_of m) (λ x member. refl))
