-- Octets that mean a table, and one message more after them.
use Rattle.std.proofs.Common.{◌≡◌, ◌≤◌, ℕ, Bool, true, false, List, [], ◌∷◌, ◌++◌, length, take, refl, sym, ◌∙◌, ap, subst}
use Rattle.std.specs.Prelude.{Option, reverse}
use Rattle.std.specs.List.{AllZip}
use Rattle.std.proofs.lemmas.List.{append-nil, reverse-append}
use Rattle.rs_octets.specs.declared.heads.Kind.{Kind}
use Rattle.rs_octets.specs.declared.heads.Kind.TheVariants as kinds
use Rattle.rs_octets.specs.Headers.{header_of}
use Rattle.rs_octets.specs.Messages.{IsMessageOf, body_of, messages_of, rest_of}
use Rattle.rs_octets.specs.Prefixes.{Prefix}
use Rattle.rs_octets.proofs.Cut.{pieces_join, alone}
use Rattle.rs_octets.proofs.GoodHeaders.{of_type_is}
use Rattle.rs_attrs.specs.declared.mode.Mode.{Mode}
use Rattle.rs_open.specs.declared.short.Limit.{Limit}
use Rattle.rs_open.specs.Notes.{limit_octets}
use Rattle.rs_packer.specs.Packed.{announcement, withdrawal}
use Rattle.rs_packer.proofs.UpdateMessages.{update_is_message}
use Rattle.rs_outlet.specs.declared.answers.Speech.{Speech}
use Rattle.rs_attrs.specs.Meaning.{Attribute}
use Rattle.rs_attrs.specs.Effects.{Change, Changes, HasEffect, MeansTable, overlaid, table_since}
use Rattle.rs_attrs.specs.Writing.{spelt}
use Rattle.rs_attrs.proofs.Overlaying.{newest_overlays}
use Rattle.rs_core.proofs.Session.LongMessages.{longest_to}
use Rattle.rs_core.specs.Told.Telling.{allowed_to, is_update, heads_update, body_if, updates_among, updates_in, no_table, Speaks}

abbrev Table : Type 0
Table = Prefix → Option (List Attribute)

-- ---- one message more

among_more : (limit : Limit) (ms : List (List ℕ)) (m : List ℕ) → updates_among limit (ms ++ m ∷ []) ≡ updates_among limit ms ++ updates_among limit (m ∷ [])
among_more limit [] m = refl
among_more limit (x ∷ ms) m = by_test (heads_update (header_of (allowed_to limit) (take 19 x))) (among_more limit ms m) where
  by_test : (b : Bool) → updates_among limit (ms ++ m ∷ []) ≡ updates_among limit ms ++ updates_among limit (m ∷ [])
      → body_if b x (updates_among limit (ms ++ m ∷ [])) ≡ body_if b x (updates_among limit ms) ++ updates_among limit (m ∷ [])
  by_test true e = ap (λ l. body_of x ∷ l) e
  by_test false e = e

pub messages_more : (limit : Limit) (octets m : List ℕ) (kind : Kind) → rest_of (allowed_to limit) octets ≡ [] → IsMessageOf (allowed_to limit) kind m
    → (messages_of (allowed_to limit) (octets ++ m) ≡ messages_of (allowed_to limit) octets ++ m ∷ []) × (rest_of (allowed_to limit) (octets ++ m) ≡ [])
messages_more limit octets m kind none is =
    let joined = pieces_join (allowed_to limit) octets m in
    let one = alone (allowed_to limit) m (of_type_is (allowed_to limit) kind m is) in (
      joined.0 ∙ ap (λ r. messages_of (allowed_to limit) octets ++ messages_of (allowed_to limit) (r ++ m)) none ∙ ap (λ l. messages_of (allowed_to limit) octets ++ l) one.0,
      joined.1 ∙ ap (λ r. rest_of (allowed_to limit) (r ++ m)) none ∙ one.1,
    )

pub updates_more : (limit : Limit) (octets m : List ℕ) (kind : Kind) → rest_of (allowed_to limit) octets ≡ [] → IsMessageOf (allowed_to limit) kind m
    → updates_in limit (octets ++ m) ≡ updates_in limit octets ++ body_if (is_update kind) m []
updates_more limit octets m kind none is =
    ap (updates_among limit) (messages_more limit octets m kind none is).0
    ∙ among_more limit (messages_of (allowed_to limit) octets) m
    ∙ ap (λ r. updates_in limit octets ++ body_if (heads_update r) m []) is.1

-- ---- an UPDATE that is no longer than the client takes

pub withdrawal_is_message : (limit : Limit) (flight : List ℕ) (ps : List Prefix) → flight ≡ withdrawal ps → length flight ≤ limit_octets limit → IsMessageOf (allowed_to limit) kinds.Update (withdrawal ps)
withdrawal_is_message limit flight ps is fits =
    update_is_message (allowed_to limit) ps [] [] (subst (λ n. length (withdrawal ps) ≤ n) (sym (longest_to limit)) (subst (λ f. length f ≤ limit_octets limit) is fits))

pub announcement_is_message : (speech : Speech) (flight : List ℕ) (m : List Attribute) (ps : List Prefix) → flight ≡ announcement m speech.mode ps → length flight ≤ limit_octets speech.limit
    → IsMessageOf (allowed_to speech.limit) kinds.Update (announcement m speech.mode ps)
announcement_is_message speech flight m ps is fits =
    update_is_message (allowed_to speech.limit) [] (spelt m speech.mode) ps
    (subst (λ n. length (announcement m speech.mode ps) ≤ n) (sym (longest_to speech.limit)) (subst (λ f. length f ≤ limit_octets speech.limit) is fits))

-- ---- what it means then

-- no UPDATE: what was meant still is
pub speaks_on : (speech : Speech) (octets m : List ℕ) (kind : Kind) (t : Table) → is_update kind ≡ false → IsMessageOf (allowed_to speech.limit) kind m → Speaks speech octets t → Speaks speech (octets ++ m) t
speaks_on speech octets m kind t other is s = record {
  whole = (messages_more speech.limit octets m kind s.whole is).1;
  means = subst (λ l. MeansTable l speech.mode t)
      (sym (updates_more speech.limit octets m kind s.whole is ∙ ap (λ b. updates_in speech.limit octets ++ body_if b m []) other ∙ append-nil (updates_in speech.limit octets))) s.means;
}

pub zip_more : {A B : Type 0} (R : A → B → Type 0) (xs : List A) (ys : List B) (x : A) (y : B) → AllZip R xs ys → R x y → AllZip R (xs ++ x ∷ []) (ys ++ y ∷ [])
zip_more R [] [] x y h r = (r, tt)
zip_more R [] (b ∷ ys) x y h r = absurd h
zip_more R (a ∷ xs) [] x y h r = absurd h
zip_more R (a ∷ xs) (b ∷ ys) x y h r = (h.0, zip_more R xs ys x y h.1 r)

-- an UPDATE lies over it
means_more : (bodies : List (List ℕ)) (mode : Mode) (t u : Table) (body : List ℕ) (change : Change) → MeansTable bodies mode t → HasEffect body mode (Changes change)
    → ((p : Prefix) → u p ≡ overlaid t change p) → MeansTable (bodies ++ body ∷ []) mode u
means_more bodies mode t u body change (changes, zip, means) has over = (
  changes ++ change ∷ [],
  zip_more (λ b x. HasEffect b mode (Changes x)) bodies changes body change zip has,
  λ p. over p ∙ ap (λ o. overlaid (λ q. o) change p) (means p) ∙ sym (newest_overlays change (reverse changes) p) ∙ ap (λ l. table_since l p) (sym (reverse-append changes (change ∷ []))),
)

pub speaks_over : (speech : Speech) (octets m : List ℕ) (t u : Table) (change : Change) → IsMessageOf (allowed_to speech.limit) kinds.Update m → HasEffect (body_of m) speech.mode (Changes change)
    → ((p : Prefix) → u p ≡ overlaid t change p) → Speaks speech octets t → Speaks speech (octets ++ m) u
speaks_over speech octets m t u change is has over s = record {
  whole = (messages_more speech.limit octets m kinds.Update s.whole is).1;
  means = subst (λ l. MeansTable l speech.mode u) (sym (updates_more speech.limit octets m kinds.Update s.whole is))
      (means_more (updates_in speech.limit octets) speech.mode t u (body_of m) change s.means has over);
}

-- the same table
pub speaks_same : (speech : Speech) (octets : List ℕ) (t u : Table) → ((p : Prefix) → u p ≡ t p) → Speaks speech octets t → Speaks speech octets u
speaks_same speech octets t u same s = let m = s.means in record { whole = s.whole; means = (m.0, m.1, λ p. same p ∙ m.2 p) }

pub silence_speaks : (speech : Speech) → Speaks speech [] no_table
silence_speaks speech = record { whole = refl; means = ([], tt, λ p. refl) }
