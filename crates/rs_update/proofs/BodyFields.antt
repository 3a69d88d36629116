-- A body is cut into its three fields in one way.
use Rattle.std.proofs.Common.{◌≡◌, ℕ, zero, suc, ◌<◌, ◌≤◌, Bool, true, false, cond, List, [], ◌∷◌, ◌++◌, length, take, drop, get_or, Option, Some, None, refl, sym, ap, ◌∙◌, subst, arith, nat_lt, append_assoc, length-append}
use Rattle.std.specs.Int.{w16, from_be_bytes, to_be_bytes}
use Rattle.std.proofs.lemmas.Nat.{be_bytes_2, from_be_bytes-to_be_bytes_2}
use Rattle.std.proofs.lemmas.Bool.{ltb-false, le-ltb}
use Rattle.std.proofs.lemmas.List.{take-append-drop, length-take-le}
use Rattle.std.proofs.Math.Seq.{take-append_seam, drop-append_seam}
use Rattle.rs_attrs.specs.Effects.{Fields, Cut, IsBody, behind_its_length, cut, fields_of, fields_by, fields_behind}

abbrev pub Fit : List ℕ → Type 0
Fit octets = (i : ℕ) → get_or octets i 0 < 256

-- a field behind its length is cut off
pub cut_found : (field after : List ℕ) → length field < 65536 → cut (behind_its_length field ++ after) ≡ Some (record { field = field; after = after })
cut_found field after h =
    let size : from_be_bytes w16 (to_be_bytes w16 (length field)) ≡ length field = from_be_bytes-to_be_bytes_2 (length field) h in
    let octets : List ℕ = field ++ after in
    let room : nat_lt (length octets) (length field) ≡ false = le-ltb (length octets) (length field) (omega (arith, length-append field after)) in
    ap (λ n. cond (nat_lt (length octets) n) None (Some (record { field = take n octets; after = drop n octets }))) size
    ∙ ap (λ b. cond b None (Some (record { field = take (length field) octets; after = drop (length field) octets }))) room
    ∙ (λ i. Some (record { field = take-append_seam field after i; after = drop-append_seam field after i }))

-- what is cut off stands there
pub record Stands (octets : List ℕ) (c : Cut) : Type 0 where
  pub whole : octets ≡ behind_its_length c.field ++ c.after
  pub short : length c.field < 65536

pair_fits : (h l : ℕ) → h < 256 → l < 256 → Fit (h ∷ l ∷ [])
pair_fits h l p q zero = p
pair_fits h l p q (suc zero) = q
pair_fits h l p q (suc (suc i)) = omega arith

pub cut_stands : (octets : List ℕ) (c : Cut) → Fit octets → cut octets ≡ Some c → Stands octets c
cut_stands [] c fit e = absurd cc
cut_stands (h ∷ []) c fit e = absurd cc
cut_stands (h ∷ l ∷ octets) c fit e = by_room (nat_lt (length octets) (from_be_bytes w16 (h ∷ l ∷ []))) refl e
  where
    n : ℕ
    n = from_be_bytes w16 (h ∷ l ∷ [])

    by_room : (b : Bool) → nat_lt (length octets) n ≡ b → cond b None (Some (record { field = take n octets; after = drop n octets })) ≡ Some c → Stands (h ∷ l ∷ octets) c
    by_room true f e = absurd cc
    by_room false f e =
        let high : h < 256 = fit 0 in
        let low : l < 256 = fit 1 in
        let room : n ≤ length octets = ltb-false (length octets) n f in
        let taken : length (take n octets) ≡ n = length-take-le n octets room in
        let bytes : to_be_bytes w16 (length (take n octets)) ≡ h ∷ l ∷ [] = be_bytes_2 (h ∷ l ∷ []) (length (take n octets)) refl (pair_fits h l high low) taken in
        let found : Stands (h ∷ l ∷ octets) (record { field = take n octets; after = drop n octets }) = record {
          whole = sym ((λ i. bytes i ++ take n octets ++ drop n octets) ∙ ap (λ xs. h ∷ l ∷ xs) (take-append-drop n octets));
          short = omega (arith, taken);
        } in
        let is : record { field = take n octets; after = drop n octets } ≡ c = cc in
        subst (λ (c : Cut). Stands (h ∷ l ∷ octets) c) is found

fit_behind : (front octets : List ℕ) → Fit (front ++ octets) → Fit octets
fit_behind [] octets fits = fits
fit_behind (o ∷ front) octets fits = fit_behind front octets (λ i. fits (suc i))

pub body_of_fields : (body : List ℕ) (fields : Fields) → Fit body → fields_of body ≡ Some fields → IsBody body fields
body_of_fields body fields fit e = by_first (cut body) refl e
  where
    by_second : (w : Cut) → Stands body w → (r : Option Cut) → cut w.after ≡ r → fields_behind w.field r ≡ Some fields → IsBody body fields
    by_second w first None f e = absurd cc
    by_second w first (Some a) f e =
        let second = cut_stands w.after a (fit_behind (behind_its_length w.field) w.after (subst Fit first.whole fit)) f in
        let is : record { withdrawn = w.field; attributes = a.field; nlri = a.after } ≡ fields = cc in
        subst (λ (fields : Fields). IsBody body fields) is (record {
          whole = first.whole ∙ ap (λ after. behind_its_length w.field ++ after) second.whole ∙ sym (append_assoc (behind_its_length w.field) (behind_its_length a.field) a.after);
          withdrawn = first.short;
          attributes = second.short;
        })

    by_first : (r : Option Cut) → cut body ≡ r → fields_by r ≡ Some fields → IsBody body fields
    by_first None f e = absurd cc
    by_first (Some w) f e = by_second w (cut_stands body w fit f) (cut w.after) refl e

pub fields_of_body : (body : List ℕ) (fields : Fields) → IsBody body fields → fields_of body ≡ Some fields
fields_of_body body fields is =
    let rest : List ℕ = behind_its_length fields.attributes ++ fields.nlri in
    let whole : body ≡ behind_its_length fields.withdrawn ++ rest = is.whole ∙ append_assoc (behind_its_length fields.withdrawn) (behind_its_length fields.attributes) fields.nlri in
    ap fields_of whole ∙ ap fields_by (cut_found fields.withdrawn rest is.withdrawn) ∙ ap (fields_behind fields.withdrawn) (cut_found fields.attributes fields.nlri is.attributes)

pub no_body : (body : List ℕ) → fields_of body ≡ None → (fields : Fields) → IsBody body fields → ⊥
no_body body e fields is = let no : None ≡ Some fields = sym e ∙ fields_of_body body fields is in absurd cc
