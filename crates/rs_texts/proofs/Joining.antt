-- A text that is put behind others, and those that follow it.
use Rattle.std.proofs.Common.{◌≡◌, ◌≤◌, ◌<◌, ◌+◌, ◌-◌, ℕ, Bool, true, false, List, [], ◌∷◌, ◌++◌, length, map, fold, take, drop, get_or, Option, Some, None, Result, Ok, Err, IfSome, IfErr, sym, subst, ap, ◌∙◌, arith, length-append}
use Rattle.std.specs.Prelude.{OnOk, IsErrAnd}
use Rattle.std.specs.Prelude.{if◌then◌else◌, slice_get}
use Rattle.std.proofs.lemmas.List.{take_rest}
use Rattle.rs_texts.specs.Joined.{ended, lacks_end, put}

-- what holds of all behind the first text holds of all
pub behind : (P : List ℕ × List ℕ → Type 0) (o : Option (List ℕ)) (os : List (Option (List ℕ))) (front middle : List ℕ × List ℕ) → IfSome o (λ text. middle ≡ put front text) → ((left : List (List ℕ)) → os ≡ map Some left → P (fold put middle left)) → (all : List (List ℕ)) → o ∷ os ≡ map Some all → P (fold put front all)
behind P o os front middle h k [] e = absurd (cc)
behind P None os front middle h k (text ∷ all) e = absurd (cc)
behind P (Some known) os front middle h k (text ∷ all) e =
    let same : known ≡ text = cc in
    let left : os ≡ map Some all = cc in
    let first : middle ≡ put front text = h ∙ ap (put front) same in
    subst P (ap (λ m. fold put m all) first) (k all left)

longer : (b : Bool) (text : List ℕ) → length text ≤ length (if b then text ++ (10 ∷ []) else text)
longer true text = omega (arith, length-append text (10 ∷ []))
longer false text = omega arith

ended-longer : (text : List ℕ) → length text ≤ length (ended text)
ended-longer text = longer (lacks_end (slice_get text (length text - 1))) text

-- texts that are put behind others make them no shorter
grows : (front : List ℕ × List ℕ) (all : List (List ℕ)) → length (front.0) ≤ length ((fold put front all).0)
grows front [] = omega arith
grows front (text ∷ all) = omega (arith, grows (put front text) all, length-append (ended (front.0)) text, ended-longer (front.0))

-- where the first text is too much all are
pub large : (o : Option (List ℕ)) (os : List (Option (List ℕ))) (front : List ℕ × List ℕ) → IfSome o (λ text. 67108864 < length (ended (front.0)) + length text) → (all : List (List ℕ)) → o ∷ os ≡ map Some all → 67108864 < length ((fold put front all).0)
large o os front h [] e = absurd (cc)
large None os front h (text ∷ all) e = absurd (cc)
large (Some known) os front h (text ∷ all) e =
    let same : known ≡ text = cc in
    let more : 67108864 < length (ended (front.0)) + length text = subst (λ t. 67108864 < length (ended (front.0)) + length t) same h in
    omega (arith, more, grows (put front text) all, length-append (ended (front.0)) text)

-- the same of the texts of some things, of which the first is put
pub behind_first : {T : Type 0} (f : T → Option (List ℕ)) (P : List ℕ × List ℕ → Type 0) (things : List T) (first : T) (front middle : List ℕ × List ℕ) → 1 ≤ length things → first ≡ get_or things 0 first → IfSome (f first) (λ text. middle ≡ put front text) → ((left : List (List ℕ)) → map f (take (length things - 1) (drop 1 things)) ≡ map Some left → P (fold put middle left)) → (all : List (List ℕ)) → map f things ≡ map Some all → P (fold put front all)
behind_first f P [] first front middle some is h k all e = absurd (omega (arith, some))
behind_first f P (thing ∷ things) first front middle some is h k all e = behind P (f thing) (map f things) front middle (subst (λ it. IfSome (f it) (λ text. middle ≡ put front text)) is h) (subst (λ rest. (left : List (List ℕ)) → map f rest ≡ map Some left → P (fold put middle left)) (take_rest (thing ∷ things) 1) k) all e

pub large_first : {T : Type 0} (f : T → Option (List ℕ)) (things : List T) (first : T) (front : List ℕ × List ℕ) → 1 ≤ length things → first ≡ get_or things 0 first → IfSome (f first) (λ text. 67108864 < length (ended (front.0)) + length text) → (all : List (List ℕ)) → map f things ≡ map Some all → 67108864 < length ((fold put front all).0)
large_first f [] first front some is h all e = absurd (omega (arith, some))
large_first f (thing ∷ things) first front some is h all e = large (f thing) (map f things) front (subst (λ it. IfSome (f it) (λ text. 67108864 < length (ended (front.0)) + length text)) is h) all e

-- what a call's outcome says, by what it says more closely
pub if_err : {A E : Type 0} (r : Result A E) (P Q : E → Type 0) → ((e : E) → P e → Q e) → IfErr r P → IfErr r Q
if_err (Ok a) P Q f h = h
if_err (Err e) P Q f h = f e h

pub on_ok : {A E : Type 0} (r : Result A E) (P Q : Type 0) → (P → Q) → OnOk r P → OnOk r Q
on_ok (Ok a) P Q f h = f h
on_ok (Err e) P Q f h = h

-- what holds of a fault that is handed on
pub err_is : {A E : Type 0} (r : Result A E) (fault : E) (Q : E → Type 0) → Q fault → IsErrAnd r (λ e. e ≡ fault) → IfErr r Q
err_is (Ok a) fault Q q h = absurd h
err_is (Err e) fault Q q h = subst Q (sym h) q
