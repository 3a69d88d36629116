-- What touches leave of an outlet, and what they make touched.
use Rattle.std.proofs.Common.{inl, inr, ◌≡◌, ◌<◌, ℕ, zero, suc, Bool, true, false, ◌||◌, List, [], ◌∷◌, ◌++◌, length, refl, sym, ◌∙◌, ap, subst, arith, slice_index_or, append_assoc, append-nil}
use Rattle.std.specs.Prelude.{Option, Some, None, IsSome, is_some, nat_lt, if◌then◌else◌}
use Rattle.std.proofs.lemmas.List.Elements.{Contains-append_cases}
use Rattle.std.specs.List.{Contains}
use Rattle.std.specs.Map.{keys_of}
use Rattle.std.specs.FinSet as set
use Rattle.std.specs.Ordering.{eq_by_cmp, is_eq}
use Rattle.std.proofs.lemmas.Cmp.{tied_itself}
use Rattle.std.proofs.Math.Bool.{or-true}
use Rattle.rs_octets.specs.Prefixes.{Prefix, prefix_order}
use Rattle.rs_octets.specs.PrefixOrder.{prefix_order_total}
use Rattle.rs_adjin.specs.AdjIns.{number_of}
use Rattle.rs_adjin.specs.declared.adj_ins.AdjIns.{AdjIns}
use Rattle.rs_outlet.specs.declared.answers.Speech.{Speech}
use Rattle.rs_outlet.specs.Views.{View, AreNumbered, IsStaleToo, IsStaleTouched, Prefixes, if_up, is_touched, touched_at, with_touch}
use Rattle.rs_core.specs.Touched.Touches.{touched_with, AreHeld, IsTouchedAt, IsTouchedWhereHeld}

tied : (p : Prefix) → eq_by_cmp prefix_order p p ≡ true
tied p = ap is_eq (tied_itself prefix_order_total p)

-- ---- one touch

inserted_here : (s : Prefixes) (p : Prefix) → set.contains (set.insert s p) p ≡ true
inserted_here s p = set.contains-insert prefix_order_total s p p ∙ ap (λ b. b || set.contains s p) (tied p)

inserted_more : (s : Prefixes) (p q : Prefix) → set.contains s q ≡ true → set.contains (set.insert s p) q ≡ true
inserted_more s p q h = set.contains-insert prefix_order_total s p q ∙ ap (λ b. eq_by_cmp prefix_order q p || b) h ∙ or-true (eq_by_cmp prefix_order q p)

-- the touched prefix, by whether it was touched and whether there is room
here_by : (s : Prefixes) (p : Prefix) (b d : Bool) → set.contains s p ≡ b → is_touched (if b then Some s else if d then Some (set.insert s p) else None) p ≡ true
here_by s p true d e = e
here_by s p false true e = inserted_here s p
here_by s p false false e = refl

pub touched_here : (o : Option Prefixes) (p : Prefix) → is_touched (with_touch o p) p ≡ true
touched_here None p = refl
touched_here (Some s) p = here_by s p (set.contains s p) (nat_lt (set.len s) 4096) refl

more_by : (s : Prefixes) (p q : Prefix) (b d : Bool) → set.contains s q ≡ true → is_touched (if b then Some s else if d then Some (set.insert s p) else None) q ≡ true
more_by s p q true d h = h
more_by s p q false true h = inserted_more s p q h
more_by s p q false false h = refl

pub touched_more : (o : Option Prefixes) (p q : Prefix) → is_touched o q ≡ true → is_touched (with_touch o p) q ≡ true
touched_more None p q h = refl
touched_more (Some s) p q h = more_by s p q (set.contains s p) (nat_lt (set.len s) 4096) h

-- ---- many

pub same_speech : (ps : List Prefix) (v : View) → (touched_with ps v).speech ≡ v.speech
same_speech [] v = refl
same_speech (p ∷ ps) v = same_speech ps (touched_at p v)

same_loc : (ps : List Prefix) (v : View) → (touched_with ps v).loc ≡ v.loc
same_loc [] v = refl
same_loc (p ∷ ps) v = same_loc ps (touched_at p v)

-- what a touch of these prefixes leaves, with the prefixes that it makes stale
pub record IsTouchedAtChange (ps : List Prefix) (v w : View) : Type 0 where
  pub speech : w.speech ≡ v.speech
  pub loc : w.loc ≡ v.loc
  pub still : (q : Prefix) → is_touched v.stale q ≡ true → is_touched w.stale q ≡ true
  pub all : (q : Prefix) (speech : Speech) → v.speech ≡ Some speech → Contains ps q → is_touched w.stale q ≡ true
  pub stale_touched : IsStaleTouched v → IsStaleTouched w

pub touched_others : (ps : List Prefix) (v w : View) → IsTouchedAt ps v w → IsTouchedAtChange ps v w
touched_others ps v w h = record {
  speech = ap (λ (x : View). x.speech) h.is ∙ same_speech ps v;
  loc = ap (λ (x : View). x.loc) h.is ∙ same_loc ps v;
  still = λ q t. h.kept q t;
  all = λ q speech up has. h.added (ap is_some up) q has;
  stale_touched = h.stale_touched;
}

-- ---- one more

with_more : (ps : List Prefix) (p : Prefix) (v : View) → touched_with (ps ++ p ∷ []) v ≡ touched_at p (touched_with ps v)
with_more [] p v = refl
with_more (q ∷ ps) p v = with_more ps p (touched_at q v)

-- nothing is touched
pub none_more : (v : View) → IsTouchedAt [] v v
none_more v = record { is = refl; added = λ up q has. absurd (let lt = has.1 in omega (arith, lt)); kept = λ q t. t; stale_touched = λ h. h }

only : (p q : Prefix) → Contains (p ∷ []) q → q ≡ p
only p q (zero, lt, is) = sym is
only p q (suc k, lt, is) = absurd (omega (arith, lt))

pub one_touched : (p : Prefix) (v w : View) → w ≡ record v { touched = w.touched; stale = w.stale; numbers = w.numbers } → w.touched ≡ (touched_at p v).touched → IsStaleToo p v w → IsStaleTouched w → IsTouchedAt (p ∷ []) v w
one_touched p v w rest touched stale within = record {
  is = rest ∙ ap (λ t. record v { touched = t; stale = w.stale; numbers = w.numbers }) touched;
  added = λ up q has. ap (is_touched w.stale) (only p q has) ∙ stale.added up;
  kept = stale.kept;
  stale_touched = λ _. within;
}

pub more_touched : (ps : List Prefix) (p : Prefix) (v w x : View) → IsTouchedAt ps v w → x ≡ record w { touched = x.touched; stale = x.stale; numbers = x.numbers } → x.touched ≡ (touched_at p w).touched → IsStaleToo p w x → IsStaleTouched x
    → IsTouchedAt (ps ++ p ∷ []) v x
more_touched ps p v w x h rest touched stale within = record {
  is =
      rest ∙ ap (λ t. record w { touched = t; stale = x.stale; numbers = x.numbers }) touched
      ∙ ap (λ (y : View). record (touched_at p y) { stale = x.stale; numbers = x.numbers }) h.is
      ∙ ap (λ (y : View). record y { stale = x.stale; numbers = x.numbers }) (sym (with_more ps p v));
  added = λ up q has. elim (Contains-append_cases ps (p ∷ []) q has) [
    | inl before ↦ stale.kept q (h.added up q before)
    | inr last ↦ ap (is_touched x.stale) (only p q last) ∙ stale.added (subst IsSome (sym (ap (λ (y : View). y.speech) h.is ∙ same_speech ps v)) up)
  ];
  kept = λ q t. stale.kept q (h.kept q t);
  stale_touched = λ _. within;
}

-- ---- a walk over the prefixes that a client holds, each with its number

-- of all these those that aren't left were touched
pub record IsTouching (ins : AdjIns) (all left : List (Prefix × ℕ)) (v w : View) : Type 0 where
  pub done : List (Prefix × ℕ)
  pub split : done ++ left ≡ all
  pub rest : w ≡ record v { touched = w.touched; stale = w.stale; numbers = w.numbers }
  pub touched : AreNumbered v ins → IsTouchedAt (keys_of done) v w
  pub numbered : AreNumbered v ins → AreNumbered w ins

keys_more : (es : List (Prefix × ℕ)) (e : Prefix × ℕ) → keys_of (es ++ e ∷ []) ≡ keys_of es ++ e.0 ∷ []
keys_more [] e = refl
keys_more (x ∷ es) e = ap (λ ps. x.0 ∷ ps) (keys_more es e)

pub touching_on : (ins : AdjIns) (all left : List (Prefix × ℕ)) (e : Prefix × ℕ) (v w x : View) → IsTouching ins all (e ∷ left) v w → x ≡ record w { touched = x.touched; stale = x.stale; numbers = x.numbers }
    → (AreNumbered w ins → x.touched ≡ (touched_at e.0 w).touched) → (AreNumbered w ins → IsStaleToo e.0 w x) → IsStaleTouched x → (AreNumbered w ins → AreNumbered x ins) → IsTouching ins all left v x
touching_on ins all left e v w x h rest touched stale within numbered = record {
  done = h.done ++ e ∷ [];
  split = append_assoc h.done (e ∷ []) left ∙ h.split;
  rest = rest ∙ ap (λ (y : View). record y { touched = x.touched; stale = x.stale; numbers = x.numbers }) h.rest;
  touched = λ k. subst (λ ps. IsTouchedAt ps v x) (sym (keys_more h.done e)) (more_touched (keys_of h.done) e.0 v w x (h.touched k) rest (touched (h.numbered k)) (stale (h.numbered k)) within);
  numbered = λ k. numbered (h.numbered k);
}

between : (P : Prefix × ℕ → Type 0) (done left : List (Prefix × ℕ)) (e : Prefix × ℕ) → ((k : ℕ) (d : Prefix × ℕ) → k < length (done ++ e ∷ left) → P (slice_index_or (done ++ e ∷ left) k d)) → P e
between P [] left e all = all zero e (omega arith)
between P (x ∷ done) left e all = between P done left e (λ k d h. all (suc k) d (omega (arith, h)))

-- the next one stands at its number
pub next_number : (ins : AdjIns) (all left : List (Prefix × ℕ)) (e : Prefix × ℕ) (v w : View) → IsTouching ins all (e ∷ left) v w
    → ((k : ℕ) (d : Prefix × ℕ) → k < length all → number_of ins (slice_index_or all k d).0 ≡ Some (slice_index_or all k d).1) → number_of ins e.0 ≡ Some e.1
next_number ins all left e v w h numbers =
    between (λ x. number_of ins x.0 ≡ Some x.1) h.done left e
    (subst (λ xs. (k : ℕ) (d : Prefix × ℕ) → k < length xs → number_of ins (slice_index_or xs k d).0 ≡ Some (slice_index_or xs k d).1) (sym h.split) numbers)

-- nothing is left
pub touching_ends : (ins : AdjIns) (c : ℕ) (all : List (Prefix × ℕ)) (v w : View) → AreHeld ins c (keys_of all) → IsTouching ins all [] v w → AreNumbered v ins → IsTouchedWhereHeld ins c v w
touching_ends ins c all v w held h numbered = record {
  prefixes = keys_of all;
  held = held;
  touched = subst (λ es. IsTouchedAt (keys_of es) v w) (sym (append-nil h.done) ∙ h.split) (h.touched numbered);
}

-- ---- nothing is left to touch

all_stays : (p : Prefix) (v : View) → v.touched ≡ None → touched_at p v ≡ v
all_stays p v all = ap (λ t. record v { touched = t }) (stays v.speech) where
  stays : (speech : Option Speech) → if_up speech (with_touch v.touched p) v.touched ≡ v.touched
  stays None = refl
  stays (Some s) = ap (λ o. with_touch o p) all ∙ sym all

all_stay : (ps : List Prefix) (v : View) → v.touched ≡ None → touched_with ps v ≡ v
all_stay [] v all = refl
all_stay (p ∷ ps) v all = ap (touched_with ps) (all_stays p v all) ∙ all_stay ps v all

with_all : (ps qs : List Prefix) (v : View) → touched_with (ps ++ qs) v ≡ touched_with qs (touched_with ps v)
with_all [] qs v = refl
with_all (p ∷ ps) qs v = with_all ps qs (touched_at p v)

-- all is touched and stale, so that more touches change nothing
pub touched_too : (ps qs : List Prefix) (v w : View) → w.touched ≡ None → w.stale ≡ None → IsTouchedAt ps v w → IsTouchedAt (ps ++ qs) v w
touched_too ps qs v w all stale h = record {
  is =
      let touched : (touched_with ps v).touched ≡ None = sym (ap (λ (x : View). x.touched) h.is) ∙ all in
      h.is ∙ ap (λ (x : View). record x { stale = w.stale; numbers = w.numbers }) (sym (with_all ps qs v ∙ all_stay qs (touched_with ps v) touched));
  added = λ up q has. ap (λ o. is_touched o q) stale;
  kept = λ q t. ap (λ o. is_touched o q) stale;
  stale_touched = h.stale_touched;
}

keys_of_both : (es fs : List (Prefix × ℕ)) → keys_of (es ++ fs) ≡ keys_of es ++ keys_of fs
keys_of_both [] fs = refl
keys_of_both (e ∷ es) fs = ap (λ ps. e.0 ∷ ps) (keys_of_both es fs)

pub touching_stops : (ins : AdjIns) (c : ℕ) (all left : List (Prefix × ℕ)) (v w : View) → AreHeld ins c (keys_of all) → IsTouching ins all left v w → w.touched ≡ None → w.stale ≡ None → AreNumbered v ins → IsTouchedWhereHeld ins c v w
touching_stops ins c all left v w held h touched stale numbered = record {
  prefixes = keys_of all;
  held = held;
  touched = subst (λ ps. IsTouchedAt ps v w) (sym (keys_of_both h.done left) ∙ ap keys_of h.split) (touched_too (keys_of h.done) (keys_of left) v w touched stale (h.touched numbered));
}
