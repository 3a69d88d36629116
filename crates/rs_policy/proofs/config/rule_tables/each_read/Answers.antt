use Rattle.std.proofs.Common.{◌≡◌, List, [], ◌∷◌, ◌++◌, ◌∙◌, Option, Some, None, option_map, refl, sym, ap, append_assoc, arith}
use Rattle.std.proofs.lemmas.List.{append-nil}
use Rattle.toml.specs.Data.{Data}
use Rattle.rs_policy.specs.Rules.{each_read}
use Rattle.rs_policy.proofs.Reading.Documents.{data_of-drop, data_of-end}
use Rattle.rs_policy.proofs.config.rule_tables.each_read.Goals as goal

-- those that were read, and then the rest where it is read too
onto : {A : Type 0} (done : List A) (a : A) (o : Option (List A))
    → option_map (λ xs. done ++ xs) (option_map (λ rest. a ∷ rest) o) ≡ option_map (λ xs. (done ++ a ∷ []) ++ xs) o
onto done a None = refl
onto done a (Some xs) = ap Some (sym (append_assoc done (a ∷ []) xs))

read-next : {A : Type 0} (reads : Data → Option A) (ds rest : List Data) (d : Data) (done : List A) (a : A) → ds ≡ d ∷ rest → reads d ≡ Some a
    → option_map (λ xs. done ++ xs) (each_read reads ds) ≡ option_map (λ xs. (done ++ a ∷ []) ++ xs) (each_read reads rest)
read-next reads ds rest d done a first ok = rw (first, ok) (onto done a (each_read reads rest))

read-fail : {A : Type 0} (reads : Data → Option A) (ds rest : List Data) (d : Data) (done : List A) → ds ≡ d ∷ rest → reads d ≡ None
    → option_map (λ xs. done ++ xs) (each_read reads ds) ≡ None
read-fail reads ds rest d done first bad = rw (first, bad) refl

read-end : {A : Type 0} (reads : Data → Option A) (ds : List Data) (done : List A) → ds ≡ [] → option_map (λ xs. done ++ xs) (each_read reads ds) ≡ Some done
read-end reads ds done none = rw none (ap Some (append-nil done))

pub returns-in_default : goal.returns-in_default
returns-in_default g c =
    sym (c.loop-value.invariant
    ∙ read-fail _ _ _ _ _
    (data_of-drop c.args.values.now c.loop-value.value-index c.value-item.result (omega arith) c.value-item.is)
    (sym c.in_default.ensures))

pub loop-value-preserved : goal.loop-value-preserved
loop-value-preserved g c =
    let grown : c.push.new.self.items ≡ c.loop-value.patterns.items ++ c.in-Some.pattern ∷ [] = c.in_ok-push.ensures.items in
    rw grown
    (c.loop-value.invariant
    ∙ read-next _ _ _ _ _ _
    (data_of-drop c.args.values.now c.loop-value.value-index c.value-item.result (omega arith) c.value-item.is)
    (sym c.in-Some.ensures))

pub returns : goal.returns
returns g c =
    ap Some c.of.ensures
    ∙ sym (c.loop-value.invariant ∙ read-end _ _ _ (data_of-end c.args.values.now c.loop-value.value-index (omega arith)))
