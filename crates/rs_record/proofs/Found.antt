-- The clients of a configuration are found by their names.
use Rattle.std.proofs.Common.{◌≡◌, ◌≢◌, ℕ, zero, suc, ◌<◌, List, [], ◌∷◌, length, get_or, refl, sym, ◌∙◌, ap, arith, Bool, true, false, Some, subst}
use Rattle.std.specs.Prelude.{map, nat_lt, bytes_eq, position, slice_get}
use Rattle.std.specs.List.{All, AllPairs, position_or_len}
use Rattle.std.specs.Global.{Vec}
use Rattle.std.proofs.lemmas.Bool.{false_from_ne_true}
use Rattle.std.proofs.lemmas.Bool.Decides.{nat_tests}
use Rattle.std.proofs.lemmas.Slice.Eq.{bytes_eq-Decides}
use Rattle.std.proofs.lemmas.List.Sums.{position_or_len_is}
use Rattle.rs_policy.specs.Texts.{is_name}
use Rattle.rs_policy.specs.Configuration.{Client, Configuration}
use Rattle.rs_policy.specs.Sound.{AreOthers, IsSound, IsSoundClient}
use Rattle.rs_trace.specs.declared.names.Names.{Names}
use Rattle.rs_trace.specs.Replays.{AreNamesOf, name_or_none, name_in}
use Rattle.rs_record.specs.Named.{AreFound}

at_map : {X Y : Type 0} (f : X → Y) (xs : List X) (k : ℕ) (d : X) → get_or (map f xs) k (f d) ≡ f (get_or xs k d)
at_map f [] k d = refl
at_map f (x ∷ xs) zero d = refl
at_map f (x ∷ xs) (suc k) d = at_map f xs k d

any_default : {X : Type 0} (xs : List X) (k : ℕ) (a b : X) → k < length xs → get_or xs k a ≡ get_or xs k b
any_default [] k a b h = absurd (omega (arith, h))
any_default (x ∷ xs) zero a b h = refl
any_default (x ∷ xs) (suc k) a b h = any_default xs k a b (omega (arith, h))

named_at : (names : List (List ℕ)) (c : ℕ) (d : List ℕ) → c < length names → name_or_none (slice_get names c) ≡ get_or names c d
named_at [] c d h = absurd (omega (arith, h))
named_at (x ∷ names) zero d h = refl
named_at (x ∷ names) (suc c) d h = named_at names c d (omega (arith, h))

length_map : {X Y : Type 0} (f : X → Y) (xs : List X) → length (map f xs) ≡ length xs
length_map f [] = refl
length_map f (x ∷ xs) = ap suc (length_map f xs)

other_names : (a b : List ℕ) → a ≢ b → bytes_eq a b ≡ false
other_names a b h = false_from_ne_true (bytes_eq a b) (λ e. h ((bytes_eq-Decides a b).0 e))

-- the place of the first for which a test holds
first_at : {X : Type 0} (p : X → Bool) (xs : List X) (c : ℕ) → position_or_len p xs ≡ c → c < length xs → position p xs ≡ Some c
first_at p xs c is h =
    let within : nat_lt c (length xs) ≡ true = grind (arith, nat_tests) in
    rw is (rw within refl)

module _ (xs : List (Vec ℕ)) (cs : List Client) (same : map (λ (v : Vec ℕ). v.items) xs ≡ map (λ (client : Client). client.name) cs) (others : AllPairs AreOthers cs) (d : Vec ℕ) (e : Client) where
  size : length xs ≡ length cs
  size = sym (length_map (λ (v : Vec ℕ). v.items) xs) ∙ ap length same ∙ length_map (λ (client : Client). client.name) cs

  name_at : (k : ℕ) → k < length xs → (get_or xs k d).items ≡ (get_or cs k e).name
  name_at k h =
      let there : k < length (map (λ (client : Client). client.name) cs) = omega (arith, h, size, length_map (λ (client : Client). client.name) cs) in
      sym (at_map (λ (v : Vec ℕ). v.items) xs k d)
      ∙ ap (λ names. get_or names k d.items) same
      ∙ any_default (map (λ (client : Client). client.name) cs) k d.items e.name there
      ∙ at_map (λ (client : Client). client.name) cs k e

  own_name : (c : ℕ) → c < length xs → name_or_none (slice_get (map (λ (v : Vec ℕ). v.items) xs) c) ≡ (get_or xs c d).items
  own_name c h =
      named_at (map (λ (v : Vec ℕ). v.items) xs) c d.items (omega (arith, h, length_map (λ (v : Vec ℕ). v.items) xs)) ∙ at_map (λ (v : Vec ℕ). v.items) xs c d

  place_of_own : (c : ℕ) → c < length xs → position (λ (v : Vec ℕ). bytes_eq v.items (get_or xs c d).items) xs ≡ Some c
  place_of_own c h =
      let test : Vec ℕ → Bool = λ (v : Vec ℕ). bytes_eq v.items (get_or xs c d).items in
      let before : (k : ℕ) → k < c → test (get_or xs k d) ≡ false = λ k l.
      other_names (get_or xs k d).items (get_or xs c d).items (λ alike. (others k c e l (omega (arith, h, size))).0 (sym (name_at k (omega (arith, h, l))) ∙ alike ∙ name_at c h)) in
      let own : test (get_or xs c d) ≡ true = (bytes_eq-Decides (get_or xs c d).items (get_or xs c d).items).1 refl in
      first_at test xs c (position_or_len_is test xs c d (omega (arith, h)) before (λ l. own)) h

found_in : (xs : List (Vec ℕ)) (cs : List Client) → map (λ (v : Vec ℕ). v.items) xs ≡ map (λ (client : Client). client.name) cs → AllPairs AreOthers cs → All IsSoundClient cs → (c : ℕ) → c < length xs → (name : List ℕ) → name ≡ name_or_none (slice_get (map (λ (v : Vec ℕ). v.items) xs) c)
    → (position (λ (v : Vec ℕ). bytes_eq v.items name) xs ≡ Some c) × (is_name name ≡ true)
found_in [] cs same others sound c h name is = absurd (omega (arith, h))
found_in (x ∷ xs) [] same others sound c h name is = let bad : x.items ∷ map (λ (v : Vec ℕ). v.items) xs ≡ [] = same in cc
found_in (x ∷ xs) (e ∷ cs) same others sound c h name is =
    let own : name ≡ (get_or (x ∷ xs) c x).items = is ∙ own_name (x ∷ xs) (e ∷ cs) same others x e c h in
    let word : is_name (get_or (e ∷ cs) c e).name ≡ true = (sound c e (omega (arith, h, size (x ∷ xs) (e ∷ cs) same others x e))).name in (
      subst (λ (n : List ℕ). position (λ (v : Vec ℕ). bytes_eq v.items n) (x ∷ xs) ≡ Some c) (sym own) (place_of_own (x ∷ xs) (e ∷ cs) same others x e c h),
      subst (λ (n : List ℕ). is_name n ≡ true) (sym (own ∙ name_at (x ∷ xs) (e ∷ cs) same others x e c h)) word,
    )

pub are_found : (names : Names) (settings : Configuration) → IsSound settings → AreNamesOf names settings → AreFound names
are_found names settings sound named c h =
    let found = found_in names.names.items settings.clients named sound.others sound.clients c h (name_in names c) refl in
    record { is = refl; place = found.0; word = found.1 }
