-- What the fields of a head say, one after the other.
use Rattle.std.proofs.Common.{◌≡◌, ℕ, ◌+◌, ◌<◌, ◌≤◌, Bool, true, false, List, [], ◌∷◌, ◌++◌, length, take, map, get_or, refl, sym, ap, ◌∙◌, arith}
use Rattle.std.specs.Prelude.{◌||◌, codes, count_by, cond, All}
use Rattle.std.specs.List.{list_any}
use Rattle.std.proofs.lemmas.List.{take_more, map-append}
use Rattle.std.proofs.lemmas.List.Folds.{list_any-append}
use Rattle.std.proofs.lemmas.List.Sums.{sum_by-append}
use Rattle.httparse.specs.declared.spans.HeaderSpan.{HeaderSpan}
use Rattle.httparse.specs.Spans.{IsHeaderWithin, header_bytes, span_bytes}
use Rattle.rs_window.specs.declared.request.Said.{Said}
use Rattle.rs_window.specs.Requests.{said_of, with_field, announces_body, is_foreign, is_named}

or_false : (b : Bool) → (b || false) ≡ b
or_false true = refl
or_false false = refl

-- a test of one element more
any_more : (p : List ℕ × List ℕ → Bool) (xs : List (List ℕ × List ℕ)) (x : List ℕ × List ℕ) → list_any p (xs ++ x ∷ []) ≡ (list_any p xs || p x)
any_more p xs x = list_any-append p xs (x ∷ []) ∙ ap (λ b. list_any p xs || b) (or_false (p x))

count_more : (p : List ℕ × List ℕ → Bool) (xs : List (List ℕ × List ℕ)) (x : List ℕ × List ℕ) → count_by p (xs ++ x ∷ []) ≡ count_by p xs + cond (p x) 1 0
count_more p xs x = sum_by-append (λ y. cond (p y) 1 0) xs (x ∷ []) ∙ omega arith

pub said_of-push : (fields : List (List ℕ × List ℕ)) (name value : List ℕ) → said_of (fields ++ (name, value) ∷ []) ≡ with_field (said_of fields) name value
said_of-push fields name value =
    let a = any_more announces_body fields (name, value) in
    let b = count_more (is_named (codes "host")) fields (name, value) in
    let c = any_more is_foreign fields (name, value) in
    cc

-- spans that lie in a front lie in the whole
pub within_all : (spans : List HeaderSpan) (len n : ℕ) → len ≤ n → All (IsHeaderWithin len) spans → All (IsHeaderWithin n) spans
within_all spans len n h all k d lt = let w = all k d lt in ((w.0.0, omega (arith, w.0.1)), (w.1.0, omega (arith, w.1.1)))

-- a field is read, and said
pub said_step : (octets : List ℕ) (spans : List HeaderSpan) (i : ℕ) (d : HeaderSpan) (said : Said) (name value : List ℕ) → i < length spans → said ≡ said_of (map (header_bytes octets) (take i spans)) → name ≡ span_bytes octets (get_or spans i d).name → value ≡ span_bytes octets (get_or spans i d).value → with_field said name value ≡ said_of (map (header_bytes octets) (take (i + 1) spans))
said_step octets spans i d said name value lt e n v =
    let pair : header_bytes octets (get_or spans i d) ≡ (name, value) = cc in
    let more : map (header_bytes octets) (take (i + 1) spans) ≡ map (header_bytes octets) (take i spans) ++ (name, value) ∷ [] = ap (map (header_bytes octets)) (take_more spans i d lt) ∙ map-append (header_bytes octets) (take i spans) (get_or spans i d ∷ []) ∙ ap (λ x. map (header_bytes octets) (take i spans) ++ x ∷ []) pair in
    sym (ap said_of more ∙ said_of-push (map (header_bytes octets) (take i spans)) name value ∙ ap (λ s. with_field s name value) (sym e))
