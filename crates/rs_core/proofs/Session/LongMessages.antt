-- What a client reads that takes short messages alone, one that takes long ones reads alike (RFC 8654, 4).
use Rattle.std.proofs.Common.{◌≡◌, inl, inr, ℕ, ◌≤◌, Bool, true, false, cond, List, [], ◌∷◌, ◌++◌, length, take, refl, sym, ◌∙◌, ap, subst, arith}
use Rattle.std.specs.Prelude.{◌&&◌, ◌==◌, Option, Some, None, Ok, Err}
use Rattle.std.specs.List.{flat_map, list_all, AllByRecursion}
use Rattle.std.specs.Int.{is_in_range}
use Rattle.std.proofs.lemmas.Bool.{leb-true}
use Rattle.rs_octets.specs.declared.heads.Head.{Head}
use Rattle.rs_octets.specs.declared.heads.HeaderFault.TheVariants as faults
use Rattle.rs_octets.specs.declared.heads.Kind.{Kind}
use Rattle.rs_octets.specs.declared.heads.Kind.TheVariants as kinds
use Rattle.rs_octets.specs.Headers.{greatest_length, header_of, head_of_type, kind_numbered, least_length, length_field, longest, type_field}
use Rattle.rs_octets.specs.Messages.{IsMessage, IsMessageOf, messages_of, rest_of}
use Rattle.rs_octets.proofs.Cut.{cuts_of, cuts_only, pieces_join}
use Rattle.rs_octets.proofs.GoodHeaders.{has_type, in_range, of_type_is}
use Rattle.rs_open.specs.declared.short.Limit.{Limit}
use Rattle.rs_open.specs.declared.short.Limit.TheVariants as limits
use Rattle.rs_open.specs.Notes.{limit_octets}
use Rattle.rs_open.specs.declared.writing.ServerOpen.{ServerOpen}
use Rattle.rs_core.specs.Session.Keepalives.{KeepaliveMove, FellDue, Begun, IsNext, AreKeepalives}
use Rattle.rs_core.specs.Session.Conversed.{HasNoneLonger}
use Rattle.rs_core.specs.Told.Telling.{allowed_to}

-- ---- one message

both_true : (a b : Bool) → a && b ≡ true → (a ≡ true) × (b ≡ true)
both_true true b h = (refl, h)
both_true false b h = absurd (let f : false ≡ true = h in cc)

wider : (least most more n : ℕ) → most ≤ more → is_in_range least most n ≡ true → is_in_range least more n ≡ true
wider least most more n h e = let both = both_true _ _ e in
    let from = leb-true least n both.0 in
    let to = leb-true n most both.1 in
    in_range least more n from (omega (arith, h, to))

of_type : (kind : Kind) (len number : ℕ) (head : Head) → head_of_type (allowed_to limits.Short) (Some kind) len number ≡ Ok head → head_of_type (allowed_to limits.Long) (Some kind) len number ≡ Ok head
of_type kinds.Open len number head e = e
of_type kinds.Update len number head e = by_tests (is_in_range 23 4096 len) (is_in_range 23 65535 len) (wider 23 4096 65535 len (omega arith)) e where
  by_tests : (short long : Bool) → (short ≡ true → long ≡ true) → cond short (Ok (record { length = len; kind = kinds.Update })) (Err (faults.Length len)) ≡ Ok head
      → cond long (Ok (record { length = len; kind = kinds.Update })) (Err (faults.Length len)) ≡ Ok head
  by_tests false long so e = cc
  by_tests true long so e = ap (λ b. cond b (Ok (record { length = len; kind = kinds.Update })) (Err (faults.Length len))) (so refl) ∙ e
of_type kinds.Note len number head e = by_tests (is_in_range 21 4096 len) (is_in_range 21 65535 len) (wider 21 4096 65535 len (omega arith)) e where
  by_tests : (short long : Bool) → (short ≡ true → long ≡ true) → cond short (Ok (record { length = len; kind = kinds.Note })) (Err (faults.Length len)) ≡ Ok head
      → cond long (Ok (record { length = len; kind = kinds.Note })) (Err (faults.Length len)) ≡ Ok head
  by_tests false long so e = cc
  by_tests true long so e = ap (λ b. cond b (Ok (record { length = len; kind = kinds.Note })) (Err (faults.Length len))) (so refl) ∙ e
of_type kinds.Keepalive len number head e = e
of_type kinds.Refresh len number head e = e

header_longer : (limit : Limit) (header : List ℕ) (head : Head) → header_of (allowed_to limits.Short) header ≡ Ok head → header_of (allowed_to limit) header ≡ Ok head
header_longer limits.Short header head e = e
header_longer limits.Long header head e =
    by_tests (list_all (λ b. b == 255) (take 16 header)) (is_in_range 19 4096 len) (is_in_range 19 65535 len) (kind_numbered (allowed_to limits.Long) number) (wider 19 4096 65535 len (omega arith)) e
  where
    len : ℕ
    len = length_field header

    number : ℕ
    number = type_field header

    by_tests : (marker short long : Bool) (kind : Option Kind) → (short ≡ true → long ≡ true)
        → cond marker (cond short (head_of_type (allowed_to limits.Short) kind len number) (Err (faults.Length len))) (Err faults.Marker) ≡ Ok head
        → cond marker (cond long (head_of_type (allowed_to limits.Long) kind len number) (Err (faults.Length len))) (Err faults.Marker) ≡ Ok head
    by_tests false short long kind so e = e
    by_tests true false long kind so e = cc
    by_tests true true long None so e = cc
    by_tests true true long (Some kind) so e = ap (λ b. cond b (head_of_type (allowed_to limits.Long) (Some kind) len number) (Err (faults.Length len))) (so refl) ∙ of_type kind len number head e

pub of_type_longer : (limit : Limit) (kind : Kind) (m : List ℕ) → IsMessageOf (allowed_to limits.Short) kind m → IsMessageOf (allowed_to limit) kind m
of_type_longer limit kind m is = (is.0, header_longer limit (take 19 m) _ is.1)

message_longer : (limit : Limit) (m : List ℕ) → IsMessage (allowed_to limits.Short) m → IsMessage (allowed_to limit) m
message_longer limit m is = let of = has_type (allowed_to limits.Short) m is in of_type_is (allowed_to limit) of.0 m (of_type_longer limit of.0 m of.1)

-- ---- all of them

each_longer : (limit : Limit) (ms : List (List ℕ)) → AllByRecursion (IsMessage (allowed_to limits.Short)) ms → AllByRecursion (IsMessage (allowed_to limit)) ms
each_longer limit [] all = tt
each_longer limit (m ∷ ms) all = (message_longer limit m all.0, each_longer limit ms all.1)

-- octets that are whole messages are the same ones
pub cut_longer : (limit : Limit) (octets : List ℕ) → rest_of (allowed_to limits.Short) octets ≡ []
    → (messages_of (allowed_to limit) octets ≡ messages_of (allowed_to limits.Short) octets) × (rest_of (allowed_to limit) octets ≡ [])
cut_longer limit octets none =
    let cut = cuts_of (allowed_to limits.Short) octets in
    let ms : List (List ℕ) = messages_of (allowed_to limits.Short) octets in
    let only = cuts_only (allowed_to limit) octets ms [] (record {
      whole = cut.whole ∙ ap (λ r. flat_map (λ (m : List ℕ). m) ms ++ r) none;
      each = each_longer limit ms cut.each;
      stops = (cuts_of (allowed_to limit) []).stops;
    }) in
    (sym only.0, sym only.1)

-- ---- how long they are

-- a good header's length is one that the client takes
header_most : (limit : Limit) (header : List ℕ) (head : Head) → header_of (allowed_to limit) header ≡ Ok head → head.length ≤ longest (allowed_to limit)
header_most limit header head e =
    by_tests (list_all (λ b. b == 255) (take 16 header)) (is_in_range 19 (longest (allowed_to limit)) len) (kind_numbered (allowed_to limit) number) refl e
  where
    len : ℕ
    len = length_field header

    number : ℕ
    number = type_field header

    by_kind : (within : Bool) (kind : Kind) → len ≤ longest (allowed_to limit) → cond within (Ok (record { length = len; kind = kind })) (Err (faults.Length len)) ≡ Ok head → head.length ≤ longest (allowed_to limit)
    by_kind true kind h e = let same : len ≡ head.length = cc in subst (λ n. n ≤ longest (allowed_to limit)) same h
    by_kind false kind h e = cc

    by_tests : (marker within : Bool) (kind : Option Kind) → is_in_range 19 (longest (allowed_to limit)) len ≡ within
        → cond marker (cond within (head_of_type (allowed_to limit) kind len number) (Err (faults.Length len))) (Err faults.Marker) ≡ Ok head → head.length ≤ longest (allowed_to limit)
    by_tests false within kind p e = cc
    by_tests true false kind p e = cc
    by_tests true true None p e = cc
    by_tests true true (Some kind) p e =
        by_kind (is_in_range (least_length kind) (greatest_length (allowed_to limit) kind) len) kind (leb-true len (longest (allowed_to limit)) (both_true _ _ p).1) e

pub longest_to : (limit : Limit) → longest (allowed_to limit) ≡ limit_octets limit
longest_to limits.Short = refl
longest_to limits.Long = refl

message_most : (limit : Limit) (m : List ℕ) → IsMessage (allowed_to limit) m → length m ≤ limit_octets limit
message_most limit m is = let of = has_type (allowed_to limit) m is in subst (λ n. length m ≤ n) (longest_to limit) (header_most limit (take 19 m) _ (of.1).1)

each_most : (limit : Limit) (ms : List (List ℕ)) → AllByRecursion (IsMessage (allowed_to limit)) ms → AllByRecursion (λ m. length m ≤ limit_octets limit) ms
each_most limit [] all = tt
each_most limit (m ∷ ms) all = (message_most limit m all.0, each_most limit ms all.1)

front_all : {A : Type 0} (P : A → Type 0) (xs ys : List A) → AllByRecursion P (xs ++ ys) → AllByRecursion P xs
front_all P [] ys all = tt
front_all P (x ∷ xs) ys all = (all.0, front_all P xs ys all.1)

-- the same messages to one that takes long ones
long_cut : (limit : Limit) (octets : List ℕ) → rest_of (allowed_to limit) octets ≡ [] → messages_of (allowed_to limits.Long) octets ≡ messages_of (allowed_to limit) octets
long_cut limits.Short octets none = (cut_longer limits.Long octets none).0
long_cut limits.Long octets none = refl

-- the front of octets that a client reads as whole messages has none that is longer than it takes
pub none_longer : (limit : Limit) (octets missing : List ℕ) → rest_of (allowed_to limit) (octets ++ missing) ≡ [] → HasNoneLonger limit octets
none_longer limit octets missing none =
    let P : List ℕ → Type 0 = λ m. length m ≤ limit_octets limit in
    front_all P (messages_of (allowed_to limits.Long) octets) _
    (subst (AllByRecursion P) (sym (long_cut limit (octets ++ missing) none) ∙ (pieces_join (allowed_to limits.Long) octets missing).0)
    (each_most limit (messages_of (allowed_to limit) (octets ++ missing)) (cuts_of (allowed_to limit) (octets ++ missing)).each))

-- ---- when KEEPALIVEs go out

next_longer : (limit : Limit) (was : Bool) (octets : List ℕ) → IsNext limits.Short was octets → IsNext limit was octets
next_longer limit true octets next = next
next_longer limit false octets (inl none) = inl none
next_longer limit false octets (inr is) = inr (of_type_longer limit kinds.Update octets is)

pub keepalives_longer : (said : ServerOpen) (limit : Limit) (keepalives : List KeepaliveMove) (octets : List ℕ) (due : Bool) → AreKeepalives said limits.Short keepalives octets due → AreKeepalives said limit keepalives octets due
keepalives_longer said limit [] octets due h = h
keepalives_longer said limit (FellDue ∷ keepalives) octets due (is, was, h) = (is, was, keepalives_longer said limit keepalives octets was h)
keepalives_longer said limit (Begun taken ∷ keepalives) octets due (before, was, h, begun) = (
  before,
  was,
  keepalives_longer said limit keepalives before was h,
  record {
    message = begun.message;
    whole = begun.whole;
    is = elim begun.is [
      | inl waits ↦ inl waits
      | inr (all, next, none) ↦ inr (all, next_longer limit was begun.message next, none)
    ];
  },
)
