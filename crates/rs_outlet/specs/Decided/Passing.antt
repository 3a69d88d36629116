-- What a route that is passed on holds, whoever owns it; and what is due where one client alone holds the prefix.
use Rattle.std.specs.Prelude.{ℕ, ◌==◌, ◌||◌, Bool, List, Option, None, option_and_then, if◌then◌else◌}
use Rattle.std.specs.Arc.{arc_value}
use Rattle.rs_octets.specs.Prefixes.{Prefix}
use Rattle.rs_attrs.specs.Meaning.{Attribute}
use Rattle.rs_attrs.specs.Getters.{path_has_of}
use Rattle.rs_policy.specs.Verdicts.{verdict}
use Rattle.rs_outlet.specs.declared.answers.Speech.{Speech}
use Rattle.rs_outlet.specs.declared.deciding.Passed.{Passed}
use Rattle.rs_outlet.specs.declared.deciding.Passed.TheVariants.{Whole, Stripped}
use Rattle.rs_outlet.specs.Decided.Due.{Held, if_fits, passed_on}

abbrev pub attributes_passed : Passed → List Attribute
attributes_passed (Whole attrs) = arc_value attrs.now
attributes_passed (Stripped attrs) = arc_value attrs

-- a client's own route, or one with the server's AS in its path
abbrev pub is_kept_back : Held → ℕ → ℕ × List Attribute → Bool
is_kept_back t c h = (h.0 == c) || path_has_of t.settings.top.server_as h.1

-- a holder's route as it is passed on, where it fits
abbrev pub passed_fitting : Held → ℕ → Speech → Prefix → ℕ × List Attribute → Option (List Attribute)
passed_fitting t c speech p h = option_and_then (if_fits speech p) (passed_on h.1 (verdict t.settings h.0 c p h.1))

-- the route of the one that holds the prefix, if it is a candidate
abbrev pub due_alone : Held → ℕ → Speech → Prefix → ℕ × List Attribute → Option (List Attribute)
due_alone t c speech p h = if is_kept_back t c h then None else passed_fitting t c speech p h
