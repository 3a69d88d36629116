-- What waits is exact, and stays so where a message begins.
use Rattle.std.proofs.Common.{◌≡◌, Bool, true, false, cond, not, ◌&&◌, Option, None, Some, List, [], refl, sym, ap, ◌∙◌, inl, inr}
use Rattle.std.specs.List.{list_any}
use Rattle.std.specs.FinMap as fin
use Rattle.std.specs.FinSet as set
use Rattle.rs_octets.specs.Prefixes.{Prefix, prefix_order}
use Rattle.rs_attrs.specs.Meaning.{Attribute}
use Rattle.rs_attrs.specs.ComparisonLaws.{same_attributes_equiv}
use Rattle.rs_outlet.specs.declared.answers.Speech.{Speech}
use Rattle.rs_outlet.specs.Views.{View, WaitsAreExact, waits_at}
use Rattle.rs_outlet.specs.Message.Begins.{Settles, BeginsUpdate}
use Rattle.rs_outlet.proofs.Decided.LocByNumber.{same}

-- what was told just so waits no more
pub none_waits : (due : Option (List Attribute)) → waits_at due due false ≡ None
none_waits None = refl
none_waits (Some m) = ap (λ b. cond (b && true) None (Some false)) (same_attributes_equiv.refl m)

module _ (v w : View) (loc : w.loc ≡ v.loc) (exact : WaitsAreExact v) where
  settled_at : (ps : List Prefix) → Settles v w ps → (q : Prefix) (b : Bool) → list_any (same q) ps ≡ b → fin.get w.waits q ≡ waits_at (fin.get w.loc q) (fin.get w.told q) (set.contains w.marked q)
  settled_at ps s q true is =
      s.waits q ∙ ap (λ b. cond b None (fin.get v.waits q)) is
      ∙ sym (none_waits (fin.get v.loc q))
      ∙ sym (λ i. waits_at (fin.get (loc i) q) ((s.told q ∙ ap (λ b. cond b (fin.get v.loc q) (fin.get v.told q)) is) i) ((s.marked q ∙ ap (λ b. not b && set.contains v.marked q) is) i))
  settled_at ps s q false is =
      s.waits q ∙ ap (λ b. cond b None (fin.get v.waits q)) is
      ∙ exact q
      ∙ sym (λ i. waits_at (fin.get (loc i) q) ((s.told q ∙ ap (λ b. cond b (fin.get v.loc q) (fin.get v.told q)) is) i) ((s.marked q ∙ ap (λ b. not b && set.contains v.marked q) is) i))

  settled_exact : (ps : List Prefix) → Settles v w ps → WaitsAreExact w
  settled_exact ps s = λ q. settled_at ps s q (list_any (same q) ps) refl

  pub update_exact : (speech : Speech) → BeginsUpdate speech v w → WaitsAreExact w
  update_exact speech (inl rests) = settled_exact [] rests.settles
  update_exact speech (inr (inl withdraws)) = settled_exact withdraws.prefixes withdraws.settles
  update_exact speech (inr (inr announces)) = settled_exact announces.prefixes announces.settles

-- nothing is due, and nothing was told
pub exact_empty : (v : View) → v.loc ≡ fin.empty → v.told ≡ fin.empty → v.marked ≡ set.empty → v.waits ≡ fin.empty → WaitsAreExact v
exact_empty v loc told marked waits = λ p.
    ap (λ t. fin.get t p) waits ∙ fin.get-empty prefix_order p
    ∙ sym (λ i. waits_at ((ap (λ t. fin.get t p) loc ∙ fin.get-empty prefix_order p) i) ((ap (λ t. fin.get t p) told ∙ fin.get-empty prefix_order p) i) (set.contains (marked i) p))
