-- What is due has ORIGIN, AS_PATH and NEXT_HOP, as each route that is held.
use Rattle.std.proofs.Common.{◌≡◌, ℕ, Bool, true, false, ◌||◌, List, refl, sym, ◌∙◌, ap}
use Rattle.std.specs.Prelude.{Option, Some, None, is_none, nat_le, length, [], ◌∷◌, option_and_then, if◌then◌else◌}
use Rattle.rs_octets.specs.Prefixes.{Prefix}
use Rattle.rs_attrs.specs.Meaning.{Attribute}
use Rattle.rs_attrs.specs.Effects.{lacks_mandatory}
use Rattle.rs_attrs.specs.Stripping.{Taken, stripped_of}
use Rattle.rs_attrs.proofs.Strips.StrippedLaws.{others_stay}
use Rattle.rs_open.specs.Notes.{limit_octets}
use Rattle.rs_adjin.specs.AdjIns.{held_of}
use Rattle.rs_adjin.specs.declared.adj_ins.AdjIns.{AdjIns}
use Rattle.rs_policy.specs.Configuration.{Configuration}
use Rattle.rs_policy.specs.Verdicts.{Judgement, dropped, passed, verdict}
use Rattle.rs_decision.specs.declared.rank.Rank.{Rank}
use Rattle.rs_decision.specs.Choice.{best_of}
use Rattle.rs_packer.specs.Packed.{announcement}
use Rattle.rs_outlet.specs.declared.answers.Speech.{Speech}
use Rattle.rs_outlet.specs.Decided.Due.{due_to, route_from, passed_on, if_fits, ranks_among, holders_at}
use Rattle.rs_outlet.specs.Decided.HeldBy.{tables_of}

none_some : (m : List Attribute) → ◌≡◌ {A = Option (List Attribute)} None (Some m) → ⊥
none_some m e = cc

some_is : (k m : List Attribute) → ◌≡◌ {A = Option (List Attribute)} (Some k) (Some m) → k ≡ m
some_is k m e = cc

stripped_mandatory : (t : Taken) (m : List Attribute) → lacks_mandatory (stripped_of t m) ≡ lacks_mandatory m
stripped_mandatory t m =
    λ i. is_none (others_stay t 1 m (λ e. cc) (λ e. cc) i) || is_none (others_stay t 2 m (λ e. cc) (λ e. cc) i) || is_none (others_stay t 3 m (λ e. cc) (λ e. cc) i)

held_mandatory : (ins : AdjIns) (from : ℕ) (p : Prefix) (m : List Attribute) → held_of ins from p ≡ Some m → lacks_mandatory m ≡ false
unfolding held_of
held_mandatory ins from p m e = ins.mandatory from p m e

fits_is : (b : Bool) (k m : List Attribute) → (if b then Some k else None) ≡ Some m → k ≡ m
fits_is true k m e = some_is k m e
fits_is false k m e = absurd (none_some m e)

passed_mandatory : (speech : Speech) (p : Prefix) (n m : List Attribute) (j : Judgement) → lacks_mandatory n ≡ false → option_and_then (if_fits speech p) (passed_on n j) ≡ Some m → lacks_mandatory m ≡ false
passed_mandatory speech p n m dropped has e = absurd (none_some m e)
passed_mandatory speech p n m (passed preference taken) has e =
    let k : List Attribute = stripped_of taken n in
    ap lacks_mandatory (sym (fits_is (nat_le (length (announcement k speech.mode (p ∷ []))) (limit_octets speech.limit)) k m e)) ∙ stripped_mandatory taken n ∙ has

route_mandatory : (config : Configuration) (ins : AdjIns) (c : ℕ) (speech : Speech) (p : Prefix) (from : ℕ) (m : List Attribute) → route_from (tables_of config ins) c speech p from ≡ Some m → lacks_mandatory m ≡ false
route_mandatory config ins c speech p from m e = by_held (held_of ins from p) refl e where
  by_held : (w : Option (List Attribute)) → held_of ins from p ≡ w → option_and_then (if_fits speech p) (option_and_then (λ n. passed_on n (verdict config from c p n)) w) ≡ Some m → lacks_mandatory m ≡ false
  by_held None is f = absurd (none_some m f)
  by_held (Some n) is f = passed_mandatory speech p n m (verdict config from c p n) (held_mandatory ins from p n is) f

pub due_has_mandatory : (config : Configuration) (ins : AdjIns) (c : ℕ) (speech : Speech) (p : Prefix) (m : List Attribute) → due_to (tables_of config ins) c speech p ≡ Some m → lacks_mandatory m ≡ false
due_has_mandatory config ins c speech p m e = by_best (best_of (ranks_among (tables_of config ins) c p (holders_at (tables_of config ins) p))) e where
  by_best : (best : Option Rank) → option_and_then (λ r. route_from (tables_of config ins) c speech p r.place) best ≡ Some m → lacks_mandatory m ≡ false
  by_best None f = absurd (none_some m f)
  by_best (Some r) f = route_mandatory config ins c speech p r.place m f
