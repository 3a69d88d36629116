-- Clients of two configurations, side by side.
use Rattle.std.proofs.Common.{◌≡◌, ℕ, ◌+◌, ◌<◌, ◌≤◌, List, None, length, get_or, drop, eq-eqb}
use Rattle.std.proofs.lemmas.List.{drop_more, drop_all}
use Rattle.rs_policy.specs.Configuration.{Client}
use Rattle.rs_policy.specs.Documents.{client_place}
use Rattle.rs_policy.specs.Replacing.{other_in_client, other_in_clients, other_in_all, place_or}

pub other_in_clients-next : (n i : ℕ) (xs ys : List Client) (a b : Client) → i < length xs → i < length ys → a ≡ get_or xs i a → b ≡ get_or ys i b
    → other_in_clients n (drop i xs) (drop i ys) ≡ place_or (client_place n) (other_in_client a b) (other_in_clients (n + 1) (drop (i + 1) xs) (drop (i + 1) ys))
unfolding other_in_clients
other_in_clients-next n i xs ys a b p q this that = rw (drop_more xs i a p, drop_more ys i b q, ← this, ← that)

pub other_in_clients-end : (n i : ℕ) (xs ys : List Client) → length xs ≤ i → other_in_clients n (drop i xs) (drop i ys) ≡ None
unfolding other_in_clients
other_in_clients-end n i xs ys past = rw (drop_all i xs past)

pub other_in_all-same : (xs ys : List Client) → length xs ≡ length ys → other_in_all xs ys ≡ other_in_clients 1 xs ys
other_in_all-same xs ys count = rw (eq-eqb (length xs) (length ys) count)
