-- What stays where nothing that is fixed differs.
use Rattle.std.proofs.Common.{◌≡◌, ℕ, zero, suc, ◌+◌, ◌==◌, Bool, true, false, List, [], ◌∷◌, length, get_or, Option, Some, None, refl, sym, ap, ◌∙◌, eqb-true, eq-eqb, arith, if◌then◌else◌}
use Rattle.std.specs.Prelude.{◌↔◌, ⊤}
use Rattle.std.proofs.lemmas.Slice.Eq.{bytes_eq-Decides}
use Rattle.std.proofs.lemmas.Bool.{and_parts, and_from}
use Rattle.rs_policy.specs.declared.faults.Key.{Key}
use Rattle.rs_policy.specs.declared.faults.Key.TheVariants as K
use Rattle.rs_policy.specs.declared.faults.Place.{Place}
use Rattle.rs_policy.specs.declared.config.top.Top.{Top}
use Rattle.rs_policy.specs.Values.{keyed}
use Rattle.rs_policy.specs.Configuration.{Client, Configuration, no_client}
use Rattle.rs_policy.specs.Documents.{the_top, client_place}
use Rattle.rs_policy.specs.Replacing.{alike, first_other, alike_tops, alike_clients, other_in_top, other_in_client, place_or, other_in_clients, other_in_all, first_fixed, IsSameClient, IsFixed}

-- ---- keys that are alike

none_by : (b : Bool) (k : Key) (rest : Option Key) → (if b then rest else Some k) ≡ None → (b ≡ true) × (rest ≡ None)
none_by false k rest e = cc
none_by true k rest e = (refl, e)

abbrev AllAlike : List (Bool × Key) → Type 0
AllAlike [] = ⊤
AllAlike (same ∷ rest) = (same.0 ≡ true) × AllAlike rest

all_alike : (keys : List (Bool × Key)) → first_other keys ≡ None → AllAlike keys
all_alike [] e = tt
all_alike (same ∷ rest) e =
    let h : (same.0 ≡ true) × (first_other rest ≡ None) = none_by same.0 same.1 (first_other rest) e in
    (h.0, all_alike rest h.1)

alike_all : (keys : List (Bool × Key)) → AllAlike keys → first_other keys ≡ None
alike_all [] h = refl
alike_all (same ∷ rest) h = ap (λ x. if x then first_other rest else Some same.1) h.0 ∙ alike_all rest h.1

alike_true : (a b : Bool) → alike a b ≡ true → b ≡ a
alike_true false false e = refl
alike_true false true e = cc
alike_true true false e = cc
alike_true true true e = refl

true_alike : (a b : Bool) → b ≡ a → alike a b ≡ true
true_alike false false e = refl
true_alike false true e = cc
true_alike true false e = cc
true_alike true true e = refl

pair_is : (a b : ℕ × ℕ) → a.0 ≡ b.0 → a.1 ≡ b.1 → b ≡ a
pair_is a b e f = let g : ◌≡◌ {A = ℕ × ℕ} (b.0, b.1) (a.0, a.1) = cc in g

-- ---- the top

pub record IsSameTop (a b : Top) : Type 0 where
  pub server_as : b.server_as ≡ a.server_as
  pub identifier : b.identifier ≡ a.identifier
  pub hold : b.hold ≡ a.hold
  pub extended : b.extended ≡ a.extended
  pub refresh : b.refresh ≡ a.refresh
  pub multiprotocol : b.multiprotocol ≡ a.multiprotocol

same_top : (a b : Top) → other_in_top a b ≡ None → IsSameTop a b
unfolding other_in_top
same_top a b e =
    let h : AllAlike (alike_tops a b) = all_alike (alike_tops a b) e in
    record {
      server_as = sym (eqb-true a.server_as b.server_as h.0);
      identifier = sym (eqb-true a.identifier b.identifier h.1.0);
      hold = sym (eqb-true a.hold b.hold h.1.1.0);
      extended = alike_true a.extended b.extended h.1.1.1.0;
      refresh = alike_true a.refresh b.refresh h.1.1.1.1.0;
      multiprotocol = alike_true a.multiprotocol b.multiprotocol h.1.1.1.1.1.0;
    }

top_same : (a b : Top) → IsSameTop a b → other_in_top a b ≡ None
unfolding other_in_top
top_same a b h = alike_all (alike_tops a b) (
  eq-eqb a.server_as b.server_as (sym h.server_as),
  (
    eq-eqb a.identifier b.identifier (sym h.identifier),
    (
      eq-eqb a.hold b.hold (sym h.hold),
      (
        true_alike a.extended b.extended h.extended,
        (
          true_alike a.refresh b.refresh h.refresh,
          (true_alike a.multiprotocol b.multiprotocol h.multiprotocol, tt),
        ),
      ),
    ),
  ),
)

-- ---- a client

same_client : (a b : Client) → other_in_client a b ≡ None → IsSameClient a b
unfolding other_in_client
same_client a b e =
    let h : AllAlike (alike_clients a b) = all_alike (alike_clients a b) e in
    let l : (a.listen.0 == b.listen.0 ≡ true) × (a.listen.1 == b.listen.1 ≡ true) = and_parts (a.listen.0 == b.listen.0) (a.listen.1 == b.listen.1) h.1.1.0 in
    record {
      name = sym ((bytes_eq-Decides a.name b.name).0 h.0);
      client_as = sym (eqb-true a.client_as b.client_as h.1.0);
      listen = pair_is a.listen b.listen (eqb-true a.listen.0 b.listen.0 l.0) (eqb-true a.listen.1 b.listen.1 l.1);
      peer = sym (eqb-true a.peer b.peer h.1.1.1.0);
    }

client_same : (a b : Client) → IsSameClient a b → other_in_client a b ≡ None
unfolding other_in_client
client_same a b h = alike_all (alike_clients a b) (
  (bytes_eq-Decides a.name b.name).1 (sym h.name),
  (
    eq-eqb a.client_as b.client_as (sym h.client_as),
    (
      and_from (a.listen.0 == b.listen.0) (a.listen.1 == b.listen.1)
          (eq-eqb a.listen.0 b.listen.0 (sym (ap (λ (x : ℕ × ℕ). x.0) h.listen)))
          (eq-eqb a.listen.1 b.listen.1 (sym (ap (λ (x : ℕ × ℕ). x.1) h.listen))),
      (eq-eqb a.peer b.peer (sym h.peer), tt),
    ),
  ),
)

-- ---- all of them

none_place : (here : Place) (k : Option Key) (rest : Option Place) → place_or here k rest ≡ None
    → (k ≡ None) × (rest ≡ None)
none_place here None rest e = (refl, e)
none_place here (Some k) rest e = cc

place_none : (here : Place) (k : Option Key) (rest : Option Place) → k ≡ None → rest ≡ None
    → place_or here k rest ≡ None
place_none here k rest e f = ap (λ x. place_or here x rest) e ∙ f

same_clients : (n : ℕ) (xs ys : List Client) → length xs ≡ length ys → other_in_clients n xs ys ≡ None → (c : ℕ)
    → IsSameClient (get_or xs c no_client) (get_or ys c no_client)
unfolding other_in_clients
same_clients n [] [] l e c = record { name = refl; client_as = refl; listen = refl; peer = refl }
same_clients n [] (y ∷ ys) l e c = absurd (omega arith)
same_clients n (x ∷ xs) [] l e c = absurd (omega arith)
same_clients n (x ∷ xs) (y ∷ ys) l e zero = same_client x y (none_place (client_place n) _ _ e).0
same_clients n (x ∷ xs) (y ∷ ys) l e (suc c) = same_clients (n + 1) xs ys (omega arith) (none_place (client_place n) _ _ e).1 c

clients_same : (n : ℕ) (xs ys : List Client) → length xs ≡ length ys
    → ((c : ℕ) → IsSameClient (get_or xs c no_client) (get_or ys c no_client)) → other_in_clients n xs ys ≡ None
unfolding other_in_clients
clients_same n [] [] l h = refl
clients_same n [] (y ∷ ys) l h = refl
clients_same n (x ∷ xs) [] l h = refl
clients_same n (x ∷ xs) (y ∷ ys) l h =
    place_none (client_place n) _ _ (client_same x y (h zero)) (clients_same (n + 1) xs ys (omega arith) (λ c. h (suc c)))

none_count : (b : Bool) (rest other : Option Place) (p : Place) → other ≡ Some p
    → (if b then rest else other) ≡ None → (b ≡ true) × (rest ≡ None)
none_count false rest other p o e = cc
none_count true rest other p o e = (refl, e)

count_none : (b : Bool) (rest : Option Place) (p : Place) → b ≡ true → rest ≡ None
    → (if b then rest else Some p) ≡ None
count_none b rest p e f = ap (λ x. if x then rest else Some p) e ∙ f

pub fixed_same : (a b : Configuration) → first_fixed a b ≡ None → IsFixed a b
unfolding first_fixed
fixed_same a b e =
    let p = none_place the_top (other_in_top a.top b.top) (other_in_all a.clients b.clients) e in
    let t : IsSameTop a.top b.top = same_top a.top b.top p.0 in
    let q = none_count (length a.clients == length b.clients) (other_in_clients 1 a.clients b.clients) _ _ refl p.1 in
    let l : length a.clients ≡ length b.clients = eqb-true (length a.clients) (length b.clients) q.0 in
    record {
      server_as = t.server_as;
      identifier = t.identifier;
      hold = t.hold;
      extended = t.extended;
      refresh = t.refresh;
      multiprotocol = t.multiprotocol;
      count = sym l;
      clients = same_clients 1 a.clients b.clients l q.1;
    }

pub same_fixed : (a b : Configuration) → IsFixed a b → first_fixed a b ≡ None
unfolding first_fixed
same_fixed a b h =
    place_none the_top (other_in_top a.top b.top) (other_in_all a.clients b.clients)
    (top_same a.top b.top (record { server_as = h.server_as; identifier = h.identifier; hold = h.hold; extended = h.extended; refresh = h.refresh; multiprotocol = h.multiprotocol }))
    (count_none (length a.clients == length b.clients) (other_in_clients 1 a.clients b.clients) (keyed the_top K.Client)
    (eq-eqb (length a.clients) (length b.clients) (sym h.count))
    (clients_same 1 a.clients b.clients (sym h.count) h.clients))

pub nothing_fixed : (a b : Configuration) → (first_fixed a b ≡ None) ↔ IsFixed a b
nothing_fixed a b = (fixed_same a b, same_fixed a b)
