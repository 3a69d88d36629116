-- Octets have one effect, and bodies one table.
use Rattle.std.proofs.Common.{◌≡◌, ℕ, ◌&&◌, ◌||◌, not, Bool, true, false, cond, List, [], ◌∷◌, ◌++◌, Option, Some, None, refl, sym, ap, ◌∙◌, subst, inl, inr, reverse}
use Rattle.std.specs.Prelude.{option_map}
use Rattle.std.specs.List.{AllByRecursion, AllZip, find}
use Rattle.std.proofs.lemmas.List.{reverse-append}
use Rattle.std.proofs.lemmas.List.Elements.{AllZip-push}
use Rattle.std.proofs.lemmas.List.Folds.{list_any-append}
use Rattle.rs_octets.specs.declared.notification.Notification.{Notification}
use Rattle.rs_octets.specs.declared.notification.Notification.TheVariants.{MalformedAttributeList}
use Rattle.rs_octets.specs.Names.{codes_named}
use Rattle.rs_octets.specs.Prefixes.{Prefix}
use Rattle.rs_attrs.specs.declared.mode.Mode.{Mode}
use Rattle.rs_attrs.specs.declared.faults.Faulted.{Faulted}
use Rattle.rs_attrs.specs.declared.faults.Faults.{Faults}
use Rattle.rs_attrs.specs.Flaws.{faulted_of}
use Rattle.rs_attrs.specs.Spellings.{AreOctets}
use Rattle.rs_attrs.specs.Meaning.{Attribute, Reading, Reads, read_of}
use Rattle.rs_attrs.specs.Effects.{Fields, IsBody, Effect, Reset, Changes, Change, IsChange, IsEffect, HasEffect, reset_named, reset_of, announced_by, prefixes_in, has_prefix, same_prefix, is_empty, mentions, attributes_after, once, fields_of, change_of, effect_by, effect_in, effect_of, table_since, behind_its_length, missing_for, faulted_in, with_missing}
use Rattle.rs_attrs.proofs.EachOnce.{once_distinct, once_has, distinct_filtered, filtered_has, same_itself}
use Rattle.rs_attrs.proofs.Overlaying.{newest_overlays}
use Rattle.rs_attrs.proofs.OneMeaning.{same_fields, same_meaning, fit_all, fields_are_read}
use Rattle.rs_update.specs.Laws.{IsSameChange, IsSameEffect, BodiesHaveEffects, BodiesHaveOneEffect, BodiesMeanTables, BodiesMeanOneTable, SameChangesOverlayAlike}
use Rattle.rs_update.proofs.BodyFields.{body_of_fields}
use Rattle.rs_update.proofs.Effecting.{no_fields, is_reset}

-- ---- there is one

octets_before : (xs ys : List ℕ) → AreOctets (xs ++ ys) → AreOctets xs
octets_before [] ys are = tt
octets_before (x ∷ xs) ys are = (are.0, octets_before xs ys are.1)

octets_behind : (xs ys : List ℕ) → AreOctets (xs ++ ys) → AreOctets ys
octets_behind [] ys are = are
octets_behind (x ∷ xs) ys are = octets_behind xs ys are.1

attribute_octets : (body : List ℕ) (fields : Fields) → AreOctets body → IsBody body fields → AreOctets fields.attributes
attribute_octets body fields are is =
    let front : List ℕ = behind_its_length fields.withdrawn ++ behind_its_length fields.attributes in
    let both : AreOctets front = octets_before front fields.nlri (subst AreOctets is.whole are) in
    (octets_behind (behind_its_length fields.withdrawn) (behind_its_length fields.attributes) both).1.1

is_change : (fields : Fields) (read : Reading) → IsChange fields read.attributes read.faults (change_of fields read)
is_change fields read =
    let announced = once (announced_by fields read.attributes read.faults) in
    let named = prefixes_in fields.withdrawn ++ prefixes_in fields.nlri in
    record {
      announced_once = once_distinct (announced_by fields read.attributes read.faults);
      withdrawn_once = distinct_filtered (λ p. not (has_prefix p announced)) (once named) (once_distinct named);
      announced = λ p. once_has p (announced_by fields read.attributes read.faults);
      withdrawn = λ p. filtered_has p announced (once named)
          ∙ ap (λ b. b && not (has_prefix p announced)) (once_has p named ∙ list_any-append (same_prefix p) (prefixes_in fields.withdrawn) (prefixes_in fields.nlri));
      attributes = refl;
    }

is_effect : (fields : Fields) (read : Reading) (r : Option Notification) → reset_of fields read.faults ≡ r → IsEffect fields read.attributes read.faults (effect_by r (change_of fields read))
is_effect fields read None e = (e, is_change fields read)
is_effect fields read (Some name) e = is_reset fields read.attributes read.faults name e

pub have_effects : BodiesHaveEffects
have_effects body mode are = by_fields (fields_of body) refl
  where
    by_fields : (r : Option Fields) → fields_of body ≡ r → HasEffect body mode (effect_in mode r)
    by_fields None e = no_fields body mode e
    by_fields (Some fields) e =
        let is = body_of_fields body fields (fit_all body are) e in
        let read = read_of fields.attributes mode in
        inr (fields, is, read.attributes, read.faults, fields_are_read fields.attributes mode (attribute_octets body fields are is), is_effect fields read (reset_of fields read.faults) refl)

-- ---- and no other

-- sets with the same members are both empty, or neither is
same_empty : (ps qs : List Prefix) → ((p : Prefix) → has_prefix p ps ≡ has_prefix p qs) → is_empty ps ≡ is_empty qs
same_empty [] [] same = refl
same_empty [] (q ∷ qs) same = let no : false ≡ true = same q ∙ ap (λ b. b || has_prefix q qs) (same_itself q) in absurd cc
same_empty (p ∷ ps) [] same = let no : false ≡ true = sym (same p) ∙ ap (λ b. b || has_prefix p ps) (same_itself p) in absurd cc
same_empty (p ∷ ps) (q ∷ qs) same = refl

same_change : (fields : Fields) (m : List Attribute) (faults : Faults) (x y : Change) → IsChange fields m faults x → IsChange fields m faults y → IsSameChange x y
same_change fields m faults x y is are =
    let announced : (p : Prefix) → has_prefix p x.announced ≡ has_prefix p y.announced = λ p. is.announced p ∙ sym (are.announced p) in
    record {
      withdrawn = λ p. is.withdrawn p
          ∙ ap (λ b. (has_prefix p (prefixes_in fields.withdrawn) || has_prefix p (prefixes_in fields.nlri)) && not b) (announced p)
          ∙ sym (are.withdrawn p);
      announced = announced;
      attributes = is.attributes ∙ ap (λ b. cond b None (Some m)) (same_empty x.announced y.announced announced) ∙ sym are.attributes;
    }

same_pair : (r s : ℕ × ℕ) → Some r ≡ Some s → r ≡ s
same_pair r s e = cc

no_pair : (r : ℕ × ℕ) → Some r ≡ None → ⊥
no_pair r e = cc

same_effect : (fields : Fields) (m : List Attribute) (faults : Faults) (x y : Effect) → IsEffect fields m faults x → IsEffect fields m faults y → IsSameEffect x y
same_effect fields m faults (Reset code sub) (Reset other subcode) is are = let pair = same_pair (code, sub) (other, subcode) (sym is ∙ are) in (ap (λ r. r.0) pair, ap (λ r. r.1) pair)
same_effect fields m faults (Reset code sub) (Changes y) is are = absurd (no_pair (code, sub) (sym is ∙ ap (option_map codes_named) are.0))
same_effect fields m faults (Changes x) (Reset code sub) is are = absurd (no_pair (code, sub) (sym are ∙ ap (option_map codes_named) is.0))
same_effect fields m faults (Changes x) (Changes y) is are = same_change fields m faults x y is.1 are.1

pub have_one_effect : BodiesHaveOneEffect
have_one_effect body mode x y (inl (none, e)) (inl (never, f)) =
    subst (λ x. IsSameEffect x y) (sym e) (subst (λ y. IsSameEffect (reset_named MalformedAttributeList) y) (sym f) (refl, refl))
have_one_effect body mode x y (inl (none, e)) (inr (fields, are, m, faults, reads, is)) = absurd (none fields are)
have_one_effect body mode x y (inr (fields, are, m, faults, reads, is)) (inl (none, e)) = absurd (none fields are)
have_one_effect body mode x y (inr (fields, are, m, faults, reads, is)) (inr (others, have, n, flaws, means, has)) =
    let same : others ≡ fields = same_fields body others fields have are in
    let meant = same_meaning fields.attributes mode n m flaws faults (subst (λ fields. Reads fields.attributes mode n flaws) same means) reads in
    let P : Fields → List Attribute → Faults → Type 0 = λ fields m faults. IsEffect fields m faults y in
    same_effect fields m faults x y is
    (subst (λ faults. P fields m faults) meant.1 (subst (λ m. P fields m flaws) meant.0 (subst (λ fields. P fields n flaws) same has)))

-- ---- what is noted

-- of the fields that were found, with their meaning
pub names_faults : (body : List ℕ) (mode : Mode) (found fields : Fields) (m : List Attribute) (faults : Faults) (faulted : Faulted) (missing : Option ℕ) → AreOctets body
    → IsBody body found → IsBody body fields → Reads found.attributes mode m faults → faulted ≡ faulted_of found.attributes mode → missing ≡ missing_for found m
    → with_missing faulted missing ≡ faulted_in fields mode
names_faults body mode found fields m faults faulted missing are is other reads at_fault lacks =
    let read = read_of found.attributes mode in
    let meant = same_meaning found.attributes mode m read.attributes faults read.faults reads (fields_are_read found.attributes mode (attribute_octets body found are is)) in
    (λ i. with_missing (at_fault i) ((lacks ∙ ap (missing_for found) meant.0) i)) ∙ ap (λ (fields : Fields). faulted_in fields mode) (same_fields body found fields is other)

-- ---- tables

pub mean_tables : BodiesMeanTables
mean_tables bodies mode changes are is = (changes, each bodies changes are is, λ p. refl)
  where
    each : (bodies : List (List ℕ)) (changes : List Change) → AllByRecursion AreOctets bodies
        → AllZip (λ body change. effect_of body mode ≡ Changes change) bodies changes → AllZip (λ body change. HasEffect body mode (Changes change)) bodies changes
    each [] [] are is = tt
    each [] (change ∷ changes) are is = absurd is
    each (body ∷ bodies) [] are is = absurd is
    each (body ∷ bodies) (change ∷ changes) are is = (subst (λ effect. HasEffect body mode effect) is.0 (have_effects body mode are.0), each bodies changes are.1 is.1)

same_changes : (bodies : List (List ℕ)) (mode : Mode) (xs ys : List Change) → AllZip (λ body change. HasEffect body mode (Changes change)) bodies xs
    → AllZip (λ body change. HasEffect body mode (Changes change)) bodies ys → AllZip IsSameChange xs ys
same_changes [] mode [] [] is are = tt
same_changes [] mode [] (y ∷ ys) is are = absurd are
same_changes [] mode (x ∷ xs) ys is are = absurd is
same_changes (body ∷ bodies) mode [] ys is are = absurd is
same_changes (body ∷ bodies) mode (x ∷ xs) [] is are = absurd are
same_changes (body ∷ bodies) mode (x ∷ xs) (y ∷ ys) is are = (have_one_effect body mode (Changes x) (Changes y) is.0 are.0, same_changes bodies mode xs ys is.1 are.1)

reversed : (xs ys : List Change) → AllZip IsSameChange xs ys → AllZip IsSameChange (reverse xs) (reverse ys)
reversed [] [] same = tt
reversed [] (y ∷ ys) same = absurd same
reversed (x ∷ xs) [] same = absurd same
reversed (x ∷ xs) (y ∷ ys) same =
    let last = AllZip-push IsSameChange (reverse xs) (reverse ys) x y (reversed xs ys same.1) same.0 in
    subst (λ cs. AllZip IsSameChange cs (reverse (y ∷ ys))) (sym (reverse-append (x ∷ []) xs)) (subst (λ cs. AllZip IsSameChange (reverse xs ++ x ∷ []) cs) (sym (reverse-append (y ∷ []) ys)) last)

same_found : (p : Prefix) (xs ys : List Change) → AllZip IsSameChange xs ys → attributes_after p (find (mentions p) xs) ≡ attributes_after p (find (mentions p) ys)
same_found p [] [] same = refl
same_found p [] (y ∷ ys) same = absurd same
same_found p (x ∷ xs) [] same = absurd same
same_found p (x ∷ xs) (y ∷ ys) same = by_test (mentions p y) (λ i. same.0.withdrawn p i || same.0.announced p i) (same_found p xs ys same.1)
  where
    by_test : (b : Bool) → mentions p x ≡ b → attributes_after p (find (mentions p) xs) ≡ attributes_after p (find (mentions p) ys)
        → attributes_after p (cond (mentions p x) (Some x) (find (mentions p) xs)) ≡ attributes_after p (cond b (Some y) (find (mentions p) ys))
    by_test true e later =
        ap (λ b. attributes_after p (cond b (Some x) (find (mentions p) xs))) e
        ∙ (λ i. cond (same.0.announced p i) (same.0.attributes i) None)
    by_test false e later = ap (λ b. attributes_after p (cond b (Some x) (find (mentions p) xs))) e ∙ later

pub overlay_alike : SameChangesOverlayAlike
overlay_alike x y changes p same =
    newest_overlays x changes p
    ∙ (λ i. cond (same.withdrawn p i || same.announced p i) (cond (same.announced p i) (same.attributes i) None) (table_since changes p))
    ∙ sym (newest_overlays y changes p)

-- an effect of octets is what is computed of them
pub effect_is : (body : List ℕ) (mode : Mode) (x : Effect) → AreOctets body → HasEffect body mode x → IsSameEffect x (effect_of body mode)
effect_is body mode x are has = have_one_effect body mode x (effect_of body mode) has (have_effects body mode are)

pub mean_one_table : BodiesMeanOneTable
mean_one_table bodies mode t u (xs, is, table) (ys, are, other) p =
    table p ∙ same_found p (reverse xs) (reverse ys) (reversed xs ys (same_changes bodies mode xs ys is are)) ∙ sym (other p)
