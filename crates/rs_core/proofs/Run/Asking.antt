-- What the tables hold, by the run that they agree with.
use Rattle.std.proofs.Common.{Bool, true, false, cond, ◌≡◌, ◌<◌, ◌+◌, ◌∙◌, ℕ, zero, suc, List, [], ◌∷◌, length, map, refl, sym, ap, arith}
use Rattle.std.specs.Prelude.{Option, Some, None, T, if◌then◌else◌}
use Rattle.std.specs.FinMap as fin
use Rattle.std.specs.FinMap.{FinMap, find, is_sorted}
use Rattle.std.specs.FinMap.Entries.{same_entries}
use Rattle.rs_octets.specs.Prefixes.{Prefix, prefix_order}
use Rattle.rs_attrs.specs.Meaning.{Attribute}
use Rattle.rs_adjin.specs.AdjIns as adj_ins
use Rattle.rs_adjin.specs.AdjIns.{candidates_of, held_of, identifier_of}
use Rattle.rs_adjin.specs.Listing.{Sent, holders_from, with_holder}
use Rattle.rs_adjin.specs.Onward.{is_from}
use Rattle.rs_adjin.proofs.Listed.{exact_prefixes, prefixes_total}
use Rattle.rs_core.specs.Run.Candidates.{candidates_in}
use Rattle.rs_core.specs.Run.Moves.{Move, config_in}
use Rattle.rs_core.specs.Run.Meaning.{hearing}
use Rattle.rs_core.specs.Run.Agreeing.{Agrees}
use Rattle.rs_core.specs.Session.Hearing.{identifier_in, table_in}
use Rattle.rs_core.specs.declared.route_server.Core.{Core}

-- ---- candidates

abbrev sent : (ℕ → ℕ) → ℕ × List Attribute → Sent
sent identifier h = record { client = h.0; identifier = identifier h.0; attrs = h.1 }

candidates_same : (f g : ℕ → Option (List Attribute)) (i j : ℕ → ℕ) (n c : ℕ) → ((d : ℕ) → d < c + n → f d ≡ g d) → ((d : ℕ) → d < c + n → i d ≡ j d) → map (sent i) (holders_from f c n) ≡ map (sent j) (holders_from g c n)
candidates_same f g i j zero c held known = refl
candidates_same f g i j (suc n) c held known =
    ap (λ o. map (sent i) (with_holder c o (holders_from f (suc c) n))) (held c (omega arith))
    ∙ one (g c) (known c (omega arith)) (candidates_same f g i j n (suc c) (λ d below. held d (omega (arith, below))) (λ d below. known d (omega (arith, below))))
  where
    one : (o : Option (List Attribute)) → i c ≡ j c → map (sent i) (holders_from f (suc c) n) ≡ map (sent j) (holders_from g (suc c) n)
        → map (sent i) (with_holder c o (holders_from f (suc c) n)) ≡ map (sent j) (with_holder c o (holders_from g (suc c) n))
    one None is rest = rest
    one (Some m) is rest = λ k. record { client = c; identifier = is k; attrs = m } ∷ rest k

pub candidates_agree : (core : Core) (run : List Move) (p : Prefix) → Agrees core run → candidates_of core.ribs.tables p ≡ candidates_in run p
candidates_agree core run p h =
    let s = config_in run in
    let held : ℕ → Option (List Attribute) = λ d. table_in s d (hearing d run) p in
    let known : ℕ → ℕ = λ d. identifier_in s d (hearing d run) in
    let count : adj_ins.client_count core.ribs.tables ≡ core.count = core.ribs.tables_len ∙ core.ribs_len in
    let clients : core.count ≡ length s.clients = sym core.ribs_len ∙ (sym core.ribs.clients_len ∙ ap (λ k. length k.clients) h.config) in
    ap (λ n. map (sent (identifier_of core.ribs.tables)) (holders_from (λ d. held_of core.ribs.tables d p) 0 n)) count
    ∙ (candidates_same (λ d. held_of core.ribs.tables d p) held (identifier_of core.ribs.tables) known core.count 0
    (λ d below. (h.clients d (omega (arith, below))).knows.table p) (λ d below. (h.clients d (omega (arith, below))).knows.identifier)
    ∙ ap (λ n. map (sent known) (holders_from held 0 n)) clients)

-- ---- a part of a table

cond_if : {A : Type 0} (b : Bool) (x y : A) → cond b x y ≡ (if b then x else y)
cond_if true x y = refl
cond_if false x y = refl

abbrev Table : Type 0
Table = FinMap prefix_order (List Attribute)

pub get_from : (t : Table) (from p : Prefix) → find prefix_order p (fin.entries (fin.retain_keys t (is_from from))) ≡ (if is_from from p then fin.get t p else None)
get_from t from p =
    sym (fin.get-entries (fin.retain_keys t (is_from from)) p)
    ∙ (fin.get-retain_keys t (is_from from) p (λ x e. ap (is_from from) (sym (exact_prefixes p x e))) ∙ cond_if (is_from from p) (fin.get t p) None)

if_none : {A : Type 0} (b : Bool) (o : Option A) → o ≡ None → (if b then o else None) ≡ None
if_none true o none = none
if_none false o none = refl

pub none_from : (t : Table) (from : Prefix) → t ≡ fin.empty → fin.entries (fin.retain_keys t (is_from from)) ≡ []
none_from t from empty =
    same_entries prefix_order prefixes_total exact_prefixes (fin.entries (fin.retain_keys t (is_from from))) [] (fin.entries_sorted (fin.retain_keys t (is_from from))) tt
    (λ p. get_from t from p ∙ if_none (is_from from p) (fin.get t p) (ap (λ (m : Table). fin.get m p) empty ∙ fin.get-empty prefix_order p))

-- each list of the same routes is as long
pub listed_len : (t : Table) (routes : List (Prefix × List Attribute)) → T (is_sorted prefix_order routes) → ((p : Prefix) → find prefix_order p routes ≡ fin.get t p) → fin.len t ≡ length routes
listed_len t routes up same =
    fin.len-entries t
    ∙ ap length (same_entries prefix_order prefixes_total exact_prefixes (fin.entries t) routes (fin.entries_sorted t) up (λ p. sym (fin.get-entries t p) ∙ sym (same p)))
