-- What a walk over two tables finds is how they differ.
use Rattle.std.proofs.Common.{◌≡◌, ◌≢◌, ◌∙◌, Bool, true, false, cond, ◌&&◌, T, List, [], ◌∷◌, ◌++◌, refl, sym, ap, subst}
use Rattle.std.specs.Prelude.{Option, Some, None, is_some}
use Rattle.std.specs.FinMap.Entries.{below_all, find, is_sorted}
use Rattle.std.specs.Ordering.{is_lt, is_eq, eq_by_cmp}
use Rattle.std.specs.Cmp.{tied_itself}
use Rattle.std.specs.declared.cmp.Ordering.{Ordering}
use Rattle.std.specs.declared.cmp.Ordering.TheVariants.{Less, Equal, Greater}
use Rattle.rs_octets.specs.Prefixes.{Prefix, prefix_order}
use Rattle.rs_octets.specs.PrefixOrder.{prefix_order_total, prefix_order_exact}
use Rattle.rs_attrs.specs.Meaning.{Attribute}
use Rattle.rs_attrs.specs.Comparing.{same_attributes}
use Rattle.rs_attrs.specs.ComparisonLaws.{attributes_decides}
use Rattle.rs_compare.specs.declared.compared.Kind.{Kind}
use Rattle.rs_compare.specs.declared.compared.Kind.TheVariants as kinds
use Rattle.rs_compare.specs.Differences.{AreDifferences, EqualTablesDoNotDiffer, kind_of, listed_at}
use Rattle.rs_compare.specs.Merging.{IsBefore, reported, Merges, Over, OfDue, OfSent, OfBoth}

both : (a b : Bool) → T a → T b → T (a && b)
both true b h k = k
both false b h k = absurd h

first : (a b : Bool) → T (a && b) → T a
first true b h = tt
first false b h = h

second : (a b : Bool) → T (a && b) → T b
second true b h = h
second false b h = absurd h

is_less : (o : Ordering) → T (is_lt o) → o ≡ Less
is_less Less h = refl
is_less Equal h = absurd h
is_less Greater h = absurd h

is_equal : (o : Ordering) → is_eq o ≡ true → o ≡ Equal
is_equal Less h = absurd (subst T (sym h) tt)
is_equal Equal h = refl
is_equal Greater h = absurd (subst T (sym h) tt)

unequal : (o : Ordering) → o ≡ Less → is_eq o ≡ false
unequal o e = ap is_eq e

-- ---- tables and what is below them

module _ {X : Type 0} where
  below_less : (p q : Prefix) (es : List (Prefix × X)) → prefix_order p q ≡ Less → T (below_all prefix_order q es) → T (below_all prefix_order p es)
  below_less p q [] less h = tt
  below_less p q (e ∷ es) less h =
      both _ _ (subst (λ o. T (is_lt o)) (sym (prefix_order_total.trans p q e.0 less (is_less _ (first _ _ h)))) tt) (below_less p q es less (second _ _ h))

  -- what is below all has no value there
  none_at : (p : Prefix) (es : List (Prefix × X)) → T (below_all prefix_order p es) → find prefix_order p es ≡ None
  none_at p [] h = refl
  none_at p (e ∷ es) h = ap (λ b. cond b (Some e.1) (find prefix_order p es)) (unequal (prefix_order p e.0) (is_less _ (first _ _ h))) ∙ none_at p es (second _ _ h)

  found_at : (p q : Prefix) (x : X) (es : List (Prefix × X)) (b : Bool) → eq_by_cmp prefix_order p q ≡ b → find prefix_order p ((q, x) ∷ es) ≡ cond b (Some x) (find prefix_order p es)
  found_at p q x es b is = ap (λ t. cond t (Some x) (find prefix_order p es)) is

-- a prefix before the first of a table is below all of it
below_first : (p : Prefix) (es : List (Prefix × List Attribute)) → IsBefore p es → T (is_sorted prefix_order es) → T (below_all prefix_order p es)
below_first p [] before up = tt
below_first p (e ∷ es) before up = both _ _ (subst (λ o. T (is_lt o)) (sym before) tt) (below_less p e.0 es before (first _ _ up))

below_reported : (p q : Prefix) (kind : Option Kind) (found : List (Prefix × Kind)) → T (is_lt (prefix_order p q)) → T (below_all prefix_order p found) → T (below_all prefix_order p (reported q kind ++ found))
below_reported p q None found less h = h
below_reported p q (Some kind) found less h = both _ _ less h

rising_reported : (p : Prefix) (kind : Option Kind) (found : List (Prefix × Kind)) → T (below_all prefix_order p found) → T (is_sorted prefix_order found) → T (is_sorted prefix_order (reported p kind ++ found))
rising_reported p None found below up = up
rising_reported p (Some kind) found below up = both _ _ below up

find_reported : (p q : Prefix) (kind : Option Kind) (found : List (Prefix × Kind)) (b : Bool) → eq_by_cmp prefix_order p q ≡ b → (b ≡ true → find prefix_order p found ≡ None)
    → find prefix_order p (reported q kind ++ found) ≡ cond b kind (find prefix_order p found)
find_reported p q None found true is none = none refl
find_reported p q None found false is none = refl
find_reported p q (Some kind) found b is none = found_at p q kind found b is

-- ---- the walk

-- what is below both tables is below what is found
below_found : (p : Prefix) (due sent : List (Prefix × List Attribute)) (found : List (Prefix × Kind)) → Merges due sent found
    → T (below_all prefix_order p due) → T (below_all prefix_order p sent) → T (below_all prefix_order p found)
below_found p _ _ _ Over h k = tt
below_found p _ _ _ (OfDue q m due sent found before rest) h k = both _ _ (first _ _ h) (below_found p due sent found rest (second _ _ h) k)
below_found p _ _ _ (OfSent q m due sent found before rest) h k = both _ _ (first _ _ k) (below_found p due sent found rest h (second _ _ k))
below_found p _ _ _ (OfBoth q r m n due sent found tied rest) h k =
    below_reported p q (kind_of (Some m) (Some n)) found (first _ _ h) (below_found p due sent found rest (second _ _ h) (second _ _ k))

-- what is found at a prefix, where the first of one table or of both is that prefix or another
exact_due : (p q : Prefix) (m : List Attribute) (due sent : List (Prefix × List Attribute)) (found : List (Prefix × Kind)) (b : Bool) → eq_by_cmp prefix_order p q ≡ b
    → (b ≡ true → find prefix_order p sent ≡ None) → find prefix_order p found ≡ kind_of (find prefix_order p due) (find prefix_order p sent)
    → find prefix_order p ((q, kinds.Missing) ∷ found) ≡ kind_of (find prefix_order p ((q, m) ∷ due)) (find prefix_order p sent)
exact_due p q m due sent found true is none same =
    found_at p q kinds.Missing found true is ∙ sym (ap (λ d. kind_of d (find prefix_order p sent)) (found_at p q m due true is) ∙ ap (kind_of (Some m)) (none refl))
exact_due p q m due sent found false is none same =
    found_at p q kinds.Missing found false is ∙ same ∙ sym (ap (λ d. kind_of d (find prefix_order p sent)) (found_at p q m due false is))

exact_sent : (p q : Prefix) (m : List Attribute) (due sent : List (Prefix × List Attribute)) (found : List (Prefix × Kind)) (b : Bool) → eq_by_cmp prefix_order p q ≡ b
    → (b ≡ true → find prefix_order p due ≡ None) → find prefix_order p found ≡ kind_of (find prefix_order p due) (find prefix_order p sent)
    → find prefix_order p ((q, kinds.NotDue) ∷ found) ≡ kind_of (find prefix_order p due) (find prefix_order p ((q, m) ∷ sent))
exact_sent p q m due sent found true is none same =
    found_at p q kinds.NotDue found true is ∙ sym (ap (kind_of (find prefix_order p due)) (found_at p q m sent true is) ∙ ap (λ d. kind_of d (Some m)) (none refl))
exact_sent p q m due sent found false is none same =
    found_at p q kinds.NotDue found false is ∙ same ∙ sym (ap (kind_of (find prefix_order p due)) (found_at p q m sent false is))

exact_both : (p q : Prefix) (m n : List Attribute) (due sent : List (Prefix × List Attribute)) (found : List (Prefix × Kind)) (b : Bool) → eq_by_cmp prefix_order p q ≡ b
    → (b ≡ true → find prefix_order p found ≡ None) → find prefix_order p found ≡ kind_of (find prefix_order p due) (find prefix_order p sent)
    → find prefix_order p (reported q (kind_of (Some m) (Some n)) ++ found) ≡ kind_of (find prefix_order p ((q, m) ∷ due)) (find prefix_order p ((q, n) ∷ sent))
exact_both p q m n due sent found true is none same =
    find_reported p q (kind_of (Some m) (Some n)) found true is none
    ∙ sym (ap (λ d. kind_of d (find prefix_order p ((q, n) ∷ sent))) (found_at p q m due true is) ∙ ap (kind_of (Some m)) (found_at p q n sent true is))
exact_both p q m n due sent found false is none same =
    find_reported p q (kind_of (Some m) (Some n)) found false is none ∙ same
    ∙ sym (ap (λ d. kind_of d (find prefix_order p ((q, n) ∷ sent))) (found_at p q m due false is) ∙ ap (kind_of (find prefix_order p due)) (found_at p q n sent false is))

-- below what is tied with a prefix is below that prefix
at_tied : {X : Type 0} (p q : Prefix) (es : List (Prefix × X)) → eq_by_cmp prefix_order p q ≡ true → T (below_all prefix_order q es) → find prefix_order p es ≡ None
at_tied p q es is h = subst (λ r. find prefix_order r es ≡ None) (sym (prefix_order_exact p q (is_equal _ is))) (none_at q es h)

pub merged : (due sent : List (Prefix × List Attribute)) (found : List (Prefix × Kind)) → T (is_sorted prefix_order due) → T (is_sorted prefix_order sent) → Merges due sent found → AreDifferences (listed_at due) (listed_at sent) found
merged _ _ _ up rise Over = record { rising = tt; exact = λ p. refl }
merged _ _ _ up rise (OfDue q m due sent found before rest) =
    let later : AreDifferences (listed_at due) (listed_at sent) found = merged due sent found (second _ _ up) rise rest in
    let below : T (below_all prefix_order q sent) = below_first q sent before rise in
    record {
      rising = both _ _ (below_found q due sent found rest (first _ _ up) below) later.rising;
      exact = λ p. exact_due p q m due sent found (eq_by_cmp prefix_order p q) refl (λ is. at_tied p q sent is below) (later.exact p);
    }
merged _ _ _ up rise (OfSent q m due sent found before rest) =
    let later : AreDifferences (listed_at due) (listed_at sent) found = merged due sent found up (second _ _ rise) rest in
    let below : T (below_all prefix_order q due) = below_first q due before up in
    record {
      rising = both _ _ (below_found q due sent found rest below (first _ _ rise)) later.rising;
      exact = λ p. exact_sent p q m due sent found (eq_by_cmp prefix_order p q) refl (λ is. at_tied p q due is below) (later.exact p);
    }
merged _ _ _ up rise (OfBoth q r m n due sent found tied rest) =
    let later : AreDifferences (listed_at due) (listed_at sent) found = merged due sent found (second _ _ up) (second _ _ rise) rest in
    let same : q ≡ r = prefix_order_exact q r tied in
    let below : T (below_all prefix_order q found) = below_found q due sent found rest (first _ _ up) (subst (λ s. T (below_all prefix_order s sent)) (sym same) (first _ _ rise)) in
    record {
      rising = rising_reported q (kind_of (Some m) (Some n)) found below later.rising;
      exact = λ p. subst (λ s. find prefix_order p (reported q (kind_of (Some m) (Some n)) ++ found) ≡ kind_of (find prefix_order p ((q, m) ∷ due)) (find prefix_order p ((s, n) ∷ sent))) same
          (exact_both p q m n due sent found (eq_by_cmp prefix_order p q) refl (λ is. at_tied p q found is below) (later.exact p));
    }

-- ---- equal tables

not_some : {A : Type 0} (x : A) → Some x ≢ None
not_some x e = subst T (ap is_some e) tt

no_kind : (due sent : Option (List Attribute)) → kind_of due sent ≡ None → due ≡ sent
no_kind None None e = refl
no_kind (Some m) None e = absurd (not_some _ e)
no_kind None (Some n) e = absurd (not_some _ e)
no_kind (Some m) (Some n) e = by_test (same_attributes m n) refl e
  where
    by_test : (b : Bool) → same_attributes m n ≡ b → cond b None (Some kinds.OtherAttributes) ≡ None → Some m ≡ Some n
    by_test true is f = ap Some ((attributes_decides m n).0 is)
    by_test false is f = absurd (not_some _ f)

same_kind : (due : Option (List Attribute)) → kind_of due due ≡ None
same_kind None = refl
same_kind (Some m) = ap (λ b. cond b None (Some kinds.OtherAttributes)) ((attributes_decides m m).1 refl)

pub equal_alone : EqualTablesDoNotDiffer
equal_alone due sent found are = (
  λ none p. no_kind _ _ (sym (are.exact p) ∙ ap (find prefix_order p) none),
  λ same. nothing found are.exact same,
)
  where
    nothing : (found : List (Prefix × Kind)) → ((p : Prefix) → find prefix_order p found ≡ kind_of (due p) (sent p)) → ((p : Prefix) → due p ≡ sent p) → found ≡ []
    nothing [] exact same = refl
    nothing ((q, kind) ∷ found) exact same = absurd (not_some kind
        (sym (found_at q q kind found true (ap is_eq (tied_itself prefix_order_total q))) ∙ exact q ∙ ap (kind_of (due q)) (sym (same q)) ∙ same_kind (due q)))
