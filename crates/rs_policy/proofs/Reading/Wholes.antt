-- How the parts of a configuration make the whole.
use Rattle.std.proofs.Common.{◌≡◌, ℕ, ◌+◌, ◌-◌, List, ◌++◌, length, take, Option, Ok, sym, ap, ◌∙◌, arith}
use Rattle.toml.specs.Data.{Data}
use Rattle.std.proofs.Math.Seq.{take-append_seam}
use Rattle.rs_policy.specs.Keys.{top_keys}
use Rattle.rs_policy.specs.Values.{answer, stranger}
use Rattle.rs_policy.specs.Configuration.{Client, NamedList, SharedRules, Stated}
use Rattle.rs_policy.specs.NamedLists.{named_lists_checks, named_lists_from}
use Rattle.rs_policy.specs.Documents.{top_checks, top_of, the_top, clients_at, lists_at, all_shared_at, clients_checks, clients_from, all_shared_checks, all_shared_from, rules_at, items_checks, items_from, list_checks, list_of_items, policies_checks, policies_from, document_checks, configuration_of}
use Rattle.rs_policy.specs.declared.faults.List.{List as RuleList}
use Rattle.rs_policy.specs.declared.faults.ConfigFault.{ConfigFault}
use Rattle.rs_policy.specs.declared.config.top.Top.{Top}
use Rattle.rs_policy.proofs.Reading.Checks.{passes, passes_one, answer-value, answer-append-ok, answer-ok_for}

-- those before number i, from 0
pub earlier : {A : Type 0} (all items rest : List A) (i : ℕ) → all ≡ items ++ rest → length items ≡ i → items ≡ take (i + 1 - 1) all
earlier all items rest i parts count =
    let same : i + 1 - 1 ≡ length items = omega arith in
    rw (same, parts) (sym (take-append_seam items rest))

-- a list of rules whose array is one
pub list_passes : (clients : List Client) (lists : List NamedList) (shared : List SharedRules) (n : ℕ) (list : RuleList) (d : Data) (ds : List Data) → Ok ds ≡ rules_at n list d
    → answer (list_checks clients lists shared n list d) (list_of_items clients lists shared n list d) ≡ answer (items_checks clients lists shared n list ds) (items_from clients lists shared n list ds)
unfolding answer
list_passes clients lists shared n list d ds e = rw (← e)

-- the top and the arrays of tables
pub record TopIs (d : Data) (top : Top) (ds ls us : List Data) : Type 0 where
  pub first : Ok top ≡ answer (top_checks d) (top_of d)
  pub clients : Ok ds ≡ clients_at d
  pub lists : Ok ls ≡ lists_at d
  pub shared : Ok us ≡ all_shared_at d
  pub only : Ok tt ≡ stranger top_keys the_top d

pub top_is : (d : Data) (top : Top) (ds ls us : List Data) → Ok top ≡ answer (top_checks d) (top_of d) → Ok ds ≡ clients_at d → Ok ls ≡ lists_at d
    → Ok us ≡ all_shared_at d → Ok tt ≡ stranger top_keys the_top d → TopIs d top ds ls us
top_is d top ds ls us a b c s e = record { first = a; clients = b; lists = c; shared = s; only = e }

-- the checks behind those of the lists
abbrev shared_next : List Client → List NamedList → List Data → List Data → List (Option ConfigFault)
shared_next cs ns us ds = all_shared_checks cs ns us ++ policies_checks cs ns (all_shared_from cs ns us) ds

-- the top passes
pub top_passes : {A : Type 0} (d : Data) (top : Top) (ds ls us : List Data) (a : A) → TopIs d top ds ls us
    → answer (document_checks d) a ≡ answer (clients_checks ds ++ (named_lists_checks ls ++ shared_next (clients_from ds) (named_lists_from ls) us ds)) a
top_passes d top ds ls us a h =
    passes (top_checks d) _ (top_of d) top a h.first
    ∙ passes_one (clients_at d) _ ds a h.clients
    ∙ passes_one (lists_at d) _ ls a h.lists
    ∙ passes_one (all_shared_at d) _ us a h.shared
    ∙ passes_one (stranger top_keys the_top d) _ tt a h.only
    ∙ rw (← h.clients, ← h.lists, ← h.shared)

-- the clients pass
pub clients_pass : {A : Type 0} (d : Data) (top : Top) (ds ls us : List Data) (cs : List Client) (a : A) → TopIs d top ds ls us
    → answer (clients_checks ds) (clients_from ds) ≡ Ok cs
    → answer (document_checks d) a ≡ answer (named_lists_checks ls ++ shared_next cs (named_lists_from ls) us ds) a
clients_pass d top ds ls us cs a h second =
    top_passes d top ds ls us a h
    ∙ answer-append-ok (clients_checks ds) (named_lists_checks ls ++ shared_next (clients_from ds) (named_lists_from ls) us ds) (clients_from ds) cs a second
    ∙ ap (λ x. answer (named_lists_checks ls ++ shared_next x (named_lists_from ls) us ds) a) (answer-value (clients_checks ds) (clients_from ds) cs second)

-- the lists pass
pub lists_pass : {A : Type 0} (d : Data) (top : Top) (ds ls us : List Data) (cs : List Client) (ns : List NamedList) (a : A) → TopIs d top ds ls us
    → answer (clients_checks ds) (clients_from ds) ≡ Ok cs → answer (named_lists_checks ls) (named_lists_from ls) ≡ Ok ns
    → answer (document_checks d) a ≡ answer (shared_next cs ns us ds) a
lists_pass d top ds ls us cs ns a h second third =
    clients_pass d top ds ls us cs a h second
    ∙ answer-append-ok (named_lists_checks ls) (shared_next cs (named_lists_from ls) us ds) (named_lists_from ls) ns a third
    ∙ ap (λ x. answer (shared_next cs x us ds) a) (answer-value (named_lists_checks ls) (named_lists_from ls) ns third)

-- the rules that others use pass
pub shared_pass : {A : Type 0} (d : Data) (top : Top) (ds ls us : List Data) (cs : List Client) (ns : List NamedList) (ss : List SharedRules) (a : A) → TopIs d top ds ls us
    → answer (clients_checks ds) (clients_from ds) ≡ Ok cs → answer (named_lists_checks ls) (named_lists_from ls) ≡ Ok ns
    → answer (all_shared_checks cs ns us) (all_shared_from cs ns us) ≡ Ok ss
    → answer (document_checks d) a ≡ answer (policies_checks cs ns ss ds) a
shared_pass d top ds ls us cs ns ss a h second third fourth =
    lists_pass d top ds ls us cs ns a h second third
    ∙ answer-append-ok (all_shared_checks cs ns us) (policies_checks cs ns (all_shared_from cs ns us) ds) (all_shared_from cs ns us) ss a fourth
    ∙ ap (λ x. answer (policies_checks cs ns x ds) a) (answer-value (all_shared_checks cs ns us) (all_shared_from cs ns us) ss fourth)

-- everything passes
pub document_passes : (d : Data) (top : Top) (ds ls us : List Data) (cs : List Client) (ns : List NamedList) (ss : List SharedRules) (ps : List Stated) → TopIs d top ds ls us
    → answer (clients_checks ds) (clients_from ds) ≡ Ok cs → answer (named_lists_checks ls) (named_lists_from ls) ≡ Ok ns
    → answer (all_shared_checks cs ns us) (all_shared_from cs ns us) ≡ Ok ss
    → answer (policies_checks cs ns ss ds) (policies_from cs ns ss ds) ≡ Ok ps
    → answer (document_checks d) (configuration_of d) ≡ Ok (record { top = top; clients = cs; lists = ns; shared = ss; policies = ps })
document_passes d top ds ls us cs ns ss ps h second third fourth fifth =
    let a : top_of d ≡ top = answer-value (top_checks d) (top_of d) top (sym h.first) in
    let b : clients_from ds ≡ cs = answer-value (clients_checks ds) (clients_from ds) cs second in
    let n : named_lists_from ls ≡ ns = answer-value (named_lists_checks ls) (named_lists_from ls) ns third in
    let s : all_shared_from cs ns us ≡ ss = answer-value (all_shared_checks cs ns us) (all_shared_from cs ns us) ss fourth in
    let p : policies_from cs ns ss ds ≡ ps = answer-value (policies_checks cs ns ss ds) (policies_from cs ns ss ds) ps fifth in
    shared_pass d top ds ls us cs ns ss (configuration_of d) h second third fourth
    ∙ answer-ok_for (policies_checks cs ns ss ds) (policies_from cs ns ss ds) ps (configuration_of d) fifth
    ∙ rw (← h.clients, ← h.lists, ← h.shared, a, b, n, s, p)
