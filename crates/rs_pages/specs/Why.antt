-- What `/why` says of a candidate.
use Rattle.std.specs.Prelude.{ℕ, Bool, true, false, List, [], ◌++◌, Option, Some, None, unwrap_or, codes, decimal}
use Rattle.rs_octets.specs.Prefixes.{Prefix}
use Rattle.rs_attrs.specs.Getters.{next_hop_of}
use Rattle.rs_policy.specs.Configuration.{Configuration, client_of}
use Rattle.rs_policy.specs.declared.faults.List.{List as RuleList}
use Rattle.rs_policy.specs.declared.faults.List.TheVariants as lists
use Rattle.rs_decision.specs.declared.losing.Step.{Step}
use Rattle.rs_decision.specs.declared.losing.Step.TheVariants as steps
use Rattle.rs_outlet.specs.declared.answers.Speech.{Speech}
use Rattle.rs_reasons.specs.Why.{Account, Told, by_default, by_own, by_used, import_account, export_account}
use Rattle.rs_page_parts.specs.Holders.{Holding}
use Rattle.rs_page_parts.specs.Texts.{address_text, json_text}
use Rattle.rs_pages.specs.declared.candidates.Outcome.{Outcome}
use Rattle.rs_pages.specs.declared.candidates.Outcome.TheVariants as outcomes
use Rattle.rs_pages.specs.Candidates.{ranks_to, sent_outcome}

abbrev pub list_text : RuleList → List ℕ
list_text lists.Import = codes "import"
list_text lists.Export = codes "export"
list_text lists.Shared = codes "shared"

-- the rule that decided: its place in the list, and where it stands there for others, their name and the place among them
abbrev pub cause_text : Told → List ℕ
cause_text by_default = codes "null"
cause_text (by_own place) = decimal place
cause_text (by_used place name rule) = decimal place ++ codes ",\"uses\":\"" ++ json_text name ++ codes "\",\"rule_there\":" ++ decimal rule

abbrev pub passes_text : Bool → List ℕ
passes_text true = codes ",\"passes\":true}"
passes_text false = codes ",\"passes\":false}"

-- what a list did with the route, and by which rule
unfoldable pub account_text : Account → List ℕ
account_text a = codes "{\"list\":\"" ++ list_text a.list ++ codes "\",\"of\":\"" ++ json_text a.client ++ codes "\",\"rule\":" ++ cause_text a.cause ++ passes_text a.passes

abbrev pub export_text : Option Account → List ℕ
export_text None = []
export_text (Some a) = codes "," ++ account_text a

-- what the import list did, and behind it the export list where it was asked
unfoldable pub rules_text : Configuration → ℕ → Prefix → Holding → List ℕ
rules_text s to p h =
    codes ",\"rules\":["
    ++ account_text (import_account s h.member to p h.attributes)
    ++ export_text (export_account s h.member to p h.attributes)
    ++ codes "]"

abbrev pub step_text : Step → List ℕ
step_text steps.Preference = codes "preference"
step_text steps.Path = codes "path"
step_text steps.Origin = codes "ORIGIN"
step_text steps.Med = codes "MED"
step_text steps.Identifier = codes "identifier"
step_text steps.Address = codes "address"
step_text steps.Place = codes "place"

abbrev pub outcome_text : Outcome → List ℕ
outcome_text outcomes.Own = codes "\"own\""
outcome_text outcomes.ServerAs = codes "\"server AS\""
outcome_text outcomes.Dropped = codes "\"dropped\""
outcome_text (outcomes.Lost step) = codes "\"lost\",\"by\":\"" ++ step_text step ++ codes "\""
outcome_text outcomes.Chosen = codes "\"chosen\""
outcome_text outcomes.TooLong = codes "\"too long for a message\""

-- what the rules did, where they were asked: not of the member's own, nor of a route with the server's AS
abbrev pub asked_text : Outcome → List ℕ → List ℕ
asked_text outcomes.Own rules = []
asked_text outcomes.ServerAs rules = []
asked_text outcomes.Dropped rules = rules
asked_text (outcomes.Lost step) rules = rules
asked_text outcomes.Chosen rules = rules
asked_text outcomes.TooLong rules = rules

-- whose route it is
unfoldable pub sender_text : Configuration → Holding → List ℕ
sender_text s h =
    codes "{\"from\":\"" ++ json_text (client_of s h.member).name
    ++ codes "\",\"as\":" ++ decimal (client_of s h.member).client_as
    ++ codes ",\"next_hop\":\"" ++ address_text (unwrap_or (next_hop_of h.attributes) 0)
    ++ codes "\",\"outcome\":"

-- whose route it is, what becomes of it, and by which rules
unfoldable pub told_text : Configuration → ℕ → Prefix → Holding → Outcome → List ℕ
told_text s to p h outcome = sender_text s h ++ outcome_text outcome ++ asked_text outcome (rules_text s to p h) ++ codes "}\n"

-- the same, by all who hold the prefix, and how the member is spoken to
abbrev pub candidate_text : Configuration → ℕ → Option Speech → Prefix → List Holding → Holding → List ℕ
candidate_text s to speech p held h = told_text s to p h (sent_outcome s to speech p (ranks_to s to p held) h)
