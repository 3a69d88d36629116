-- What is wrong with the attributes of a field, as it is noted: by type and cause, in the order of the field
-- (RFC 7606, 2 to 4 and 7).
use Rattle.std.specs.Prelude.{ℕ, ◌==◌, Bool, true, false, List, [], ◌∷◌, ◌++◌, length, Option, Some, None, option_map, is_some, if◌then◌else◌}
use Rattle.std.specs.List.{find, cons_option}
use Rattle.rs_attrs.specs.declared.mode.Mode.{Mode}
use Rattle.rs_attrs.specs.declared.table.Outcome.{Outcome}
use Rattle.rs_attrs.specs.declared.table.Outcome.TheVariants as outcome
use Rattle.rs_attrs.specs.declared.table.Shape.{Shape}
use Rattle.rs_attrs.specs.declared.table.Shape.TheVariants as shape
use Rattle.rs_attrs.specs.declared.faults.Cause.{Cause}
use Rattle.rs_attrs.specs.declared.faults.Cause.TheVariants as cause
use Rattle.rs_attrs.specs.declared.faults.AttributeFault.{AttributeFault}
use Rattle.rs_attrs.specs.declared.faults.Faulted.{Faulted}
use Rattle.rs_attrs.specs.declared.faults.Flaw.{Flaw}
use Rattle.rs_attrs.specs.Spellings.{Spelling, spellings_of, rest_of}
use Rattle.rs_attrs.specs.Table.{Row, row_of, fits_class, outcome_of, is_kept, is_withdraw, is_discard}
use Rattle.rs_attrs.specs.Meaning.{that_counts}
use Rattle.rs_attrs.specs.Types as types

-- Why a value that isn't well formed is not: ORIGIN of one octet has a bad value, and a path bad segments; else the
-- length is wrong. A type of which no value is well formed is discarded whatever it says: that is no fault.
abbrev pub value_cause : Shape → List ℕ → Option Cause
value_cause shape.Origin value = Some (if length value == 1 then cause.Value else cause.Length)
value_cause shape.AsPath value = Some cause.Value
value_cause shape.Aggregator value = Some cause.Length
value_cause shape.As4Path value = Some cause.Value
value_cause (shape.Length n) value = Some cause.Length
value_cause shape.Communities value = Some cause.Length
value_cause shape.ExtendedCommunities value = Some cause.Length
value_cause shape.LargeCommunities value = Some cause.Length
value_cause shape.Never value = None

-- the flags are looked at before the value; an unrecognized type has none of these faults
abbrev pub cause_by : Option Row → Spelling → Option Cause
cause_by None s = None
cause_by (Some r) s = if fits_class r.class s.flags then value_cause r.shape s.value else Some cause.Flags

-- why an attribute that isn't kept is not
abbrev pub cause_in : Mode → Spelling → Option Cause
cause_in mode s = cause_by (row_of mode s.kind) s

abbrev pub fault : ℕ → Cause → AttributeFault
fault kind why = record { kind = kind; cause = why }

-- what is wrong with an attribute: that one of its type came before, or why it isn't kept
abbrev pub flaw_by : Mode → Bool → Spelling → Option Flaw
flaw_by mode true s = Some (record { outcome = outcome.Discard; fault = fault s.kind cause.Twice })
flaw_by mode false s =
    if is_kept (outcome_of mode s) then None
    else option_map (λ why. record { outcome = outcome_of mode s; fault = fault s.kind why }) (cause_in mode s)

abbrev pub comes_among : ℕ → List Spelling → Bool
comes_among kind spellings = is_some (that_counts kind spellings)

-- what is wrong with the spellings that stand behind these, in their order
abbrev pub flaws_behind : Mode → List Spelling → List Spelling → List Flaw
flaws_behind mode earlier [] = []
flaws_behind mode earlier (s ∷ spellings) =
    cons_option (flaw_by mode (comes_among s.kind earlier) s) (flaws_behind mode (earlier ++ s ∷ []) spellings)

-- a rest: an attribute that is cut off; its type where that is there
abbrev pub cut_off : List ℕ → Option Flaw
cut_off [] = None
cut_off (flags ∷ []) = Some (record { outcome = outcome.Withdraw; fault = fault 0 cause.Position })
cut_off (flags ∷ kind ∷ octets) = Some (record { outcome = outcome.Withdraw; fault = fault kind cause.Position })

abbrev pub flaws_of : List ℕ → Mode → List Flaw
flaws_of octets mode = flaws_behind mode [] (spellings_of octets) ++ cons_option (cut_off (rest_of octets)) []

abbrev pub first_by : (Outcome → Bool) → List Flaw → Option AttributeFault
first_by is_it flaws = option_map (λ flaw. flaw.fault) (find (λ flaw. is_it flaw.outcome) flaws)

-- the first of each kind
abbrev pub firsts_of : List Flaw → Faulted
firsts_of flaws = record { withdraw = first_by is_withdraw flaws; discard = first_by is_discard flaws; mp_reach = false }

-- and whether MP_REACH_NLRI came (RFC 4760, 3)
abbrev pub faulted_of : List ℕ → Mode → Faulted
faulted_of octets mode = record (firsts_of (flaws_of octets mode)) { mp_reach = comes_among types.mp_reach_nlri (spellings_of octets) }

-- ---- with a flaw more

abbrev pub or_fault : Option AttributeFault → Bool → AttributeFault → Option AttributeFault
or_fault (Some first) is_it fault = Some first
or_fault None is_it fault = if is_it then Some fault else None

abbrev pub with_flaw : Faulted → Option Flaw → Faulted
with_flaw faulted None = faulted
with_flaw faulted (Some flaw) = record {
  withdraw = or_fault faulted.withdraw (is_withdraw flaw.outcome) flaw.fault;
  discard = or_fault faulted.discard (is_discard flaw.outcome) flaw.fault;
  mp_reach = faulted.mp_reach;
}
