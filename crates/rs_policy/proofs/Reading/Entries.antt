-- Entries one after the other.
use Rattle.std.proofs.Common.{◌≡◌, ℕ, ◌+◌, List, [], ◌∷◌, ◌++◌, append_assoc, Option, Some, None, Result, Ok, Err, refl, sym, ap}
use Rattle.std.proofs.lemmas.List.{append-nil}
use Rattle.toml.specs.Data.{Data}
use Rattle.rs_policy.specs.Values.{before, entries_from, entry_place}
use Rattle.rs_policy.specs.declared.faults.Key.{Key}
use Rattle.rs_policy.specs.declared.faults.ConfigFault.{ConfigFault}
use Rattle.rs_policy.specs.declared.faults.ConfigFault.TheVariants.{BadValue}

-- those that were read, and then the rest or its fault
abbrev pub onto : {A : Type 0} → List A → Result (List A) ConfigFault → Result (List A) ConfigFault
onto done (Ok more) = Ok (done ++ more)
onto done (Err f) = Err f

onto_before : {A : Type 0} (done : List A) (a : A) (f : ConfigFault) (r : Result (List A) ConfigFault) → onto done (before (Some a) f r) ≡ onto (done ++ a ∷ []) r
onto_before done a f (Ok more) = ap Ok (sym (append_assoc done (a ∷ []) more))
onto_before done a f (Err g) = refl

pub entries-next : {A : Type 0} (reads : Data → Option A) (n : ℕ) (k : Key) (e : ℕ) (ds rest : List Data) (d : Data) (done : List A) (a : A)
    → ds ≡ d ∷ rest → reads d ≡ Some a → onto done (entries_from reads n k e ds) ≡ onto (done ++ a ∷ []) (entries_from reads n k (e + 1) rest)
unfolding entries_from
entries-next reads n k e ds rest d done a first ok =
    rw (first, ok) (onto_before done a (BadValue (entry_place n k e)) (entries_from reads n k (e + 1) rest))

pub entries-fail : {A : Type 0} (reads : Data → Option A) (n : ℕ) (k : Key) (e : ℕ) (ds rest : List Data) (d : Data) (done : List A)
    → ds ≡ d ∷ rest → reads d ≡ None → onto done (entries_from reads n k e ds) ≡ Err (BadValue (entry_place n k e))
unfolding entries_from
entries-fail reads n k e ds rest d done first bad = rw (first, bad) refl

pub entries-end : {A : Type 0} (reads : Data → Option A) (n : ℕ) (k : Key) (e : ℕ) (ds : List Data) (done : List A)
    → ds ≡ [] → onto done (entries_from reads n k e ds) ≡ Ok done
unfolding entries_from
entries-end reads n k e ds done none = rw none (ap Ok (append-nil done))
