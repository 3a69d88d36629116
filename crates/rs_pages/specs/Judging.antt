-- What the rules keep from members.
use Rattle.std.specs.Prelude.{ℕ, ◌==◌, Bool, true, false, not, ◌&&◌, List, is_some}
use Rattle.rs_octets.specs.Prefixes.{Prefix}
use Rattle.rs_attrs.specs.Meaning.{Attribute}
use Rattle.rs_policy.specs.Configuration.{Configuration}
use Rattle.rs_policy.specs.Noted.{import_outcome}
use Rattle.rs_policy.specs.Verdicts.{Judgement, dropped, passed, verdict}
use Rattle.rs_page_parts.specs.Members.{is_client}

abbrev pub is_dropped : Judgement → Bool
is_dropped dropped = true
is_dropped (passed preference taken) = false

-- a client's import list passes what it announced
abbrev pub is_accepted : Configuration → ℕ → Prefix → List Attribute → Bool
is_accepted s from p m = is_client s from && is_some (import_outcome s from from p m)

-- a client's import list drops what it announced
abbrev pub is_filtered : Configuration → ℕ → Prefix → List Attribute → Bool
is_filtered s from p m = is_client s from && not (is_some (import_outcome s from from p m))

-- a client's import list passes what it announced, and another's export list drops it
abbrev pub is_kept_from : Configuration → ℕ → ℕ → Prefix → List Attribute → Bool
is_kept_from s from to p m =
    is_client s from && (is_client s to && (not (from == to) && (is_some (import_outcome s from from p m) && is_dropped (verdict s from to p m))))
