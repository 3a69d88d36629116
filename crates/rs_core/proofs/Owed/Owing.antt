-- What is owed to a client by its outlet, as messages begin and octets are taken.
use Rattle.std.proofs.Common.{◌≡◌, inl, inr, ℕ, zero, suc, ◌<◌, ◌≤◌, ◌+◌, ◌-◌, ◌*◌, ◌||◌, cond, Bool, true, false, List, [], ◌∷◌, length, drop, refl, sym, ◌∙◌, ap, subst, arith}
use Rattle.std.specs.Prelude.{Option, Some, None, is_some}
use Rattle.std.specs.List.{AllByRecursion}
use Rattle.std.specs.Ordering.{eq_by_cmp}
use Rattle.std.specs.FinMap as fin
use Rattle.std.specs.FinMap.{FinMap}
use Rattle.std.proofs.lemmas.Nat.{mul-le}
use Rattle.std.proofs.lemmas.List.{length-drop}
use Rattle.rs_octets.specs.Prefixes.{Prefix, prefix_order}
use Rattle.rs_open.specs.Notes.{limit_octets}
use Rattle.rs_open.specs.declared.short.Limit.{Limit}
use Rattle.rs_open.specs.declared.short.Limit.TheVariants as limits
use Rattle.rs_open.specs.declared.short.Short.{Short}
use Rattle.rs_open.specs.Writing.{keepalive}
use Rattle.rs_attrs.specs.Meaning.{Attribute}
use Rattle.rs_attrs.specs.Writing.{spelt}
use Rattle.rs_packer.specs.Packed.{announcement, withdrawal}
use Rattle.rs_packer.proofs.Announcing.{update_length}
use Rattle.rs_packer.proofs.Withdrawing.{withdrawal_length}
use Rattle.rs_outlet.specs.declared.answers.Speech.{Speech}
use Rattle.rs_outlet.specs.Message.Begins.{Settles, BeginsUpdate, is_among}
use Rattle.rs_outlet.specs.Message.Next.{note_octets}
use Rattle.rs_outlet.specs.Views.{View}
use Rattle.rs_octets.specs.PrefixOrder.{prefix_order_total, prefix_order_exact}
use Rattle.rs_core.specs.Owed.Owing.{waiting_octets, owed_behind, owed_by}
use Rattle.rs_outlet.specs.Message.Begun.{HasBegun}

-- ---- maps without some keys

abbrev without : {X : Type 0} → FinMap prefix_order X → List Prefix → FinMap prefix_order X
without t [] = t
without t (p ∷ ps) = without (fin.remove t p) ps

either : {X : Type 0} (a b : Bool) (o : Option X) → cond b None (cond a None o) ≡ cond (a || b) None o
either true true o = refl
either true false o = refl
either false true o = refl
either false false o = refl

get_without : {X : Type 0} (t : FinMap prefix_order X) (ps : List Prefix) (q : Prefix) → fin.get (without t ps) q ≡ cond (is_among q ps) None (fin.get t q)
get_without t [] q = refl
get_without t (p ∷ ps) q =
    get_without (fin.remove t p) ps q
    ∙ ap (λ o. cond (is_among q ps) None o) (fin.get-remove prefix_order_total t p q)
    ∙ either (eq_by_cmp prefix_order q p) (is_among q ps) (fin.get t q)

cond_le : (b : Bool) (n : ℕ) → cond b (n - 1) n ≤ n
cond_le true n = omega arith
cond_le false n = omega arith

remove_le : {X : Type 0} (t : FinMap prefix_order X) (p : Prefix) → fin.len (fin.remove t p) ≤ fin.len t
remove_le t p = subst (λ n. n ≤ fin.len t) (sym (fin.len-remove prefix_order_total t p)) (cond_le (fin.contains_key t p) (fin.len t))

without_le : {X : Type 0} (t : FinMap prefix_order X) (ps : List Prefix) → fin.len (without t ps) ≤ fin.len t
without_le t [] = omega arith
without_le t (p ∷ ps) = let a = without_le (fin.remove t p) ps in let b = remove_le t p in omega (arith, a, b)

-- where there is a value, there is one at least
one_at_least : {X : Type 0} (t : FinMap prefix_order X) (p : Prefix) (x : X) → fin.get t p ≡ Some x → 0 < fin.len t
one_at_least {X} t p x e = by_len (fin.len t) refl where
  by_len : (n : ℕ) → fin.len t ≡ n → 0 < fin.len t
  by_len zero z = absurd (let f : ◌≡◌ {A = Option X} None (Some x) = sym (ap (λ m. fin.get m p) (fin.empty_of_len t z) ∙ fin.get-empty prefix_order p) ∙ e in cc)
  by_len (suc n) z = omega (arith, z)

fewer : {X : Type 0} (t : FinMap prefix_order X) (p : Prefix) (ps : List Prefix) (x : X) → fin.get t p ≡ Some x → fin.len (without t (p ∷ ps)) + 1 ≤ fin.len t
fewer {X} t p ps x e =
    let one = one_at_least t p x e in
    let rest = without_le (fin.remove t p) ps in
    let gone : fin.len (fin.remove t p) ≡ fin.len t - 1 = fin.len-remove prefix_order_total t p ∙ ap (λ (o : Option X). cond (is_some o) (fin.len t - 1) (fin.len t)) e in
    omega (arith, one, rest, gone)

-- nothing is there
none_there : {X : Type 0} (t : FinMap prefix_order X) (p : Prefix) → fin.len t ≡ 0 → fin.get t p ≡ None
none_there t p e = ap (λ m. fin.get m p) (fin.empty_of_len t e) ∙ fin.get-empty prefix_order p

empty_len : {X : Type 0} (t : FinMap prefix_order X) → ((p : Prefix) → fin.get t p ≡ None) → fin.len t ≡ 0
empty_len {X} t none =
    ap fin.len (fin.same_map prefix_order_total prefix_order_exact t fin.empty (λ q. none q ∙ sym (fin.get-empty prefix_order q)))
    ∙ fin.len-empty prefix_order X

waits_are : (v w : View) (ps : List Prefix) → Settles v w ps → w.waits ≡ without v.waits ps
waits_are v w ps s = fin.same_map prefix_order_total prefix_order_exact w.waits (without v.waits ps) (λ q. s.waits q ∙ sym (get_without v.waits ps q))

-- ---- plain numbers

pays : (octets rest limit all : ℕ) → octets ≤ limit → rest + 1 ≤ all → octets + rest * limit ≤ all * limit
pays octets rest limit all most fewer =
    let more : (rest + 1) * limit ≤ all * limit = mul-le (rest + 1) limit all limit fewer (omega arith) in
    let split : (rest + 1) * limit ≡ rest * limit + limit = omega arith in
    omega (arith, most, more, split)

keeps : (rest all limit : ℕ) → rest ≤ all → rest * limit ≤ all * limit
keeps rest all limit le = mul-le rest limit all limit le (omega arith)

pub some_owed : (a b : ℕ) → a + b ≡ 0 → (a ≡ 0) × (b ≡ 0)
some_owed a b e = (omega (arith, e), omega (arith, e))

pub no_length : (octets : List ℕ) → length octets ≡ 0 → octets ≡ []
no_length [] e = refl
no_length (o ∷ os) e = absurd (omega (arith, e))

-- ---- an UPDATE begins

pub limit_least : (limit : Limit) → 1 ≤ limit_octets limit
limit_least limits.Short = omega arith
limit_least limits.Long = omega arith

zero_and : (n : ℕ) → 0 + n ≡ n
zero_and n = omega arith

twice_zero : (n : ℕ) → 0 + (0 + n) ≡ n
twice_zero n = omega arith

pub none_times : (n limit : ℕ) → 1 ≤ limit → n * limit ≡ 0 → n ≡ 0
none_times zero limit one e = refl
none_times (suc n) limit one e = absurd (
    let most : 1 * limit ≤ suc n * limit = mul-le 1 limit (suc n) limit (omega arith) (omega arith) in
    let once : 1 * limit ≡ limit = omega arith in
    omega (arith, most, once, one, e))

-- of those that wait some are told, and wait no more
fewer_wait : (v w : View) (ps : List Prefix) (x : Bool) → 0 < length ps → AllByRecursion (λ p. fin.get v.waits p ≡ Some x) ps → Settles v w ps → fin.len w.waits + 1 ≤ fin.len v.waits
fewer_wait v w [] x some are s = absurd (omega (arith, some))
fewer_wait v w (p ∷ ps) x some are s = subst (λ t. fin.len t + 1 ≤ fin.len v.waits) (sym (waits_are v w (p ∷ ps) s)) (fewer v.waits p ps x are.0)

-- none are told where none wait
none_waits : (v : View) (ps : List Prefix) (x : Bool) → 0 < length ps → AllByRecursion (λ p. fin.get v.waits p ≡ Some x) ps → fin.len v.waits ≡ 0 → ⊥
none_waits v [] x some are none = omega (arith, some)
none_waits v (p ∷ ps) x some are none = let one = one_at_least v.waits p x are.0 in omega (arith, one, none)

nothing_more : (octets a b : ℕ) → octets ≡ 0 → a ≡ b → octets + a ≤ b
nothing_more octets a b none same = omega (arith, none, same)

update_owes : (speech : Speech) (v w : View) → BeginsUpdate speech v w → length w.flight + fin.len w.waits * limit_octets speech.limit ≤ fin.len v.waits * limit_octets speech.limit
update_owes speech v w (inl rests) =
    nothing_more (length w.flight) (fin.len w.waits * limit_octets speech.limit) (fin.len v.waits * limit_octets speech.limit) (ap length rests.flight)
    (ap (λ t. fin.len t * limit_octets speech.limit) (waits_are v w [] rests.settles))
update_owes speech v w (inr (inl gone)) =
    pays (length w.flight) (fin.len w.waits) (limit_octets speech.limit) (fin.len v.waits) gone.fits (fewer_wait v w gone.prefixes true gone.some gone.waited gone.settles)
update_owes speech v w (inr (inr news)) =
    pays (length w.flight) (fin.len w.waits) (limit_octets speech.limit) (fin.len v.waits) news.fits (fewer_wait v w news.prefixes false news.some news.waited news.settles)

-- where none waits no UPDATE begins
none_begins : (speech : Speech) (v w : View) → BeginsUpdate speech v w → fin.len v.waits ≡ 0 → w.flight ≡ []
none_begins speech v w (inl rests) none = rests.flight
none_begins speech v w (inr (inl gone)) none = absurd (none_waits v gone.prefixes true gone.some gone.waited none)
none_begins speech v w (inr (inr news)) none = absurd (none_waits v news.prefixes false news.some news.waited none)

long_octets : (octets : List ℕ) (n : ℕ) → length octets ≡ 23 + n → octets ≡ [] → ⊥
long_octets octets n e none = let z : length octets ≡ 0 = ap length none in omega (arith, e, z)

-- ---- a message begins

owed_is : (v : View) (said : Option Short) (keepalive_due : Bool) (speech : Option Speech) → v.note ≡ said → v.keepalive_due ≡ keepalive_due → v.speech ≡ speech → owed_by v ≡ length v.flight + owed_behind said keepalive_due speech (fin.len v.waits)
owed_is v said keepalive_due speech n b s = λ i. length v.flight + owed_behind (n i) (b i) (s i) (fin.len v.waits)

module _ (v w : View) (b : HasBegun v w) where
  same_speech : w.speech ≡ v.speech
  same_speech = ap (λ (x : View). x.speech) b.rest

  same_owed : w ≡ v → owed_by w ≤ owed_by v
  same_owed e = let f = ap owed_by e in omega (arith, f)

  swapped : (keepalive_due rest : ℕ) → owed_by w ≡ keepalive_due + (0 + rest) → owed_by v ≡ 0 + (keepalive_due + rest) → owed_by w ≤ owed_by v
  swapped keepalive_due rest e f = omega (arith, e, f)

  keepalives : v.flight ≡ [] → v.note ≡ None → v.keepalive_due ≡ true → owed_by w ≤ owed_by v
  keepalives empty quiet keepalive_due = swapped 19 (waiting_octets v.speech (fin.len v.waits))
      (ap owed_by (b.keepalive empty quiet keepalive_due) ∙ (λ i. length keepalive + owed_behind (quiet i) false v.speech (fin.len v.waits)))
      (owed_is v None true v.speech quiet keepalive_due refl ∙ ap (λ f. length f + (19 + waiting_octets v.speech (fin.len v.waits))) empty)

  updates : (speech : Speech) → v.flight ≡ [] → v.note ≡ None → v.keepalive_due ≡ false → v.speech ≡ Some speech → owed_by w ≤ owed_by v
  updates speech empty quiet silent up =
      let less = update_owes speech v w (b.begins speech empty quiet silent up) in
      let then_none = b.update empty quiet silent in
      let e : owed_by w ≡ length w.flight + fin.len w.waits * limit_octets speech.limit =
      owed_is w None false (Some speech) then_none.0 then_none.1 (same_speech ∙ up) ∙ ap (λ n. length w.flight + n) (zero_and (fin.len w.waits * limit_octets speech.limit)) in
      let f : owed_by v ≡ fin.len v.waits * limit_octets speech.limit =
      owed_is v None false (Some speech) quiet silent up ∙ ap (λ l. length l + (0 + fin.len v.waits * limit_octets speech.limit)) empty ∙ twice_zero (fin.len v.waits * limit_octets speech.limit) in
      subst (λ n. n ≤ owed_by v) (sym e) (subst (λ n. length w.flight + fin.len w.waits * limit_octets speech.limit ≤ n) (sym f) less)

  -- no more is owed than before
  pub begun_owes : v.note ≡ None → owed_by w ≤ owed_by v
  begun_owes quiet = by_flight v.flight refl where
    by_speech : (o : Option Speech) → v.flight ≡ [] → v.keepalive_due ≡ false → v.speech ≡ o → owed_by w ≤ owed_by v
    by_speech None empty silent e = same_owed (b.down empty quiet silent e)
    by_speech (Some speech) empty silent e = updates speech empty quiet silent e

    by_keepalive : (d : Bool) → v.flight ≡ [] → v.keepalive_due ≡ d → owed_by w ≤ owed_by v
    by_keepalive true empty e = keepalives empty quiet e
    by_keepalive false empty e = by_speech v.speech empty e refl

    by_flight : (f : List ℕ) → v.flight ≡ f → owed_by w ≤ owed_by v
    by_flight [] e = by_keepalive v.keepalive_due e refl
    by_flight (x ∷ xs) e = same_owed (b.kept (λ empty. let f : ◌≡◌ {A = List ℕ} (x ∷ xs) [] = sym e ∙ empty in cc))

  -- where nothing is owed nothing begins
  pub none_owed : owed_by v ≡ 0 → w.flight ≡ []
  none_owed none = by_note v.note refl where
    empty : v.flight ≡ []
    empty = no_length v.flight (some_owed (length v.flight) (owed_behind v.note v.keepalive_due v.speech (fin.len v.waits)) none).0

    behind : owed_behind v.note v.keepalive_due v.speech (fin.len v.waits) ≡ 0
    behind = (some_owed (length v.flight) (owed_behind v.note v.keepalive_due v.speech (fin.len v.waits)) none).1

    by_speech : (o : Option Speech) → v.note ≡ None → v.keepalive_due ≡ false → v.speech ≡ o → w.flight ≡ []
    by_speech None quiet silent e = ap (λ (x : View). x.flight) (b.down empty quiet silent e) ∙ empty
    by_speech (Some speech) quiet silent e = none_begins speech v w (b.begins speech empty quiet silent e)
        (none_times (fin.len v.waits) (limit_octets speech.limit) (limit_least speech.limit) (sym (zero_and (fin.len v.waits * limit_octets speech.limit)) ∙ sym (λ i. owed_behind (quiet i) (silent i) (e i) (fin.len v.waits)) ∙ behind))

    by_keepalive : (d : Bool) → v.note ≡ None → v.keepalive_due ≡ d → w.flight ≡ []
    by_keepalive true quiet e = absurd (
        let f : 19 + waiting_octets v.speech (fin.len v.waits) ≡ 0 = sym (λ i. owed_behind (quiet i) (e i) v.speech (fin.len v.waits)) ∙ behind in omega (arith, f))
    by_keepalive false quiet e = by_speech v.speech quiet e refl

    by_note : (o : Option Short) → v.note ≡ o → w.flight ≡ []
    by_note (Some note) e = ap (λ (x : View). x.flight) (b.note note empty e) ∙ no_length (note_octets note) (sym (ap (λ o. owed_behind o v.keepalive_due v.speech (fin.len v.waits)) e) ∙ behind)
    by_note None e = by_keepalive v.keepalive_due e refl

  -- where nothing begins nothing is owed
  pub none_begun : w.flight ≡ [] → owed_by v ≡ 0
  none_begun none = by_flight v.flight refl where
    by_update : (speech : Speech) → BeginsUpdate speech v w → fin.len v.waits ≡ 0
    by_update speech (inl rests) = empty_len v.waits rests.none
    by_update speech (inr (inl gone)) = absurd (long_octets (withdrawal gone.prefixes) _ (withdrawal_length gone.prefixes) (sym gone.flight ∙ none))
    by_update speech (inr (inr news)) = absurd (announced_some speech news.attributes news.prefixes (sym news.flight ∙ none)) where
      announced_some : (speech : Speech) (m : List Attribute) (ps : List Prefix) → announcement m speech.mode ps ≡ [] → ⊥
      announced_some speech m ps e = let l = update_length (spelt m speech.mode) ps in let z : length (announcement m speech.mode ps) ≡ 0 = ap length e in omega (arith, l, z)

    by_speech : (o : Option Speech) → v.flight ≡ [] → v.note ≡ None → v.keepalive_due ≡ false → v.speech ≡ o → owed_by v ≡ 0
    by_speech None empty quiet silent e = owed_is v None false None quiet silent e ∙ ap (λ f. length f + 0) empty
    by_speech (Some speech) empty quiet silent e =
        owed_is v None false (Some speech) quiet silent e
        ∙ (λ i. length (empty i) + (0 + by_update speech (b.begins speech empty quiet silent e) i * limit_octets speech.limit))
        ∙ twice_zero (0 * limit_octets speech.limit) ∙ (let z : 0 * limit_octets speech.limit ≡ 0 = omega arith in z)

    by_keepalive : (d : Bool) → v.flight ≡ [] → v.note ≡ None → v.keepalive_due ≡ d → owed_by v ≡ 0
    by_keepalive true empty quiet e = absurd (let f : keepalive ≡ [] = sym (ap (λ (x : View). x.flight) (b.keepalive empty quiet e)) ∙ none in let g : 19 ≡ 0 = ap length f in omega (arith, g))
    by_keepalive false empty quiet e = by_speech v.speech empty quiet e refl

    by_note : (o : Option Short) → v.flight ≡ [] → v.note ≡ o → owed_by v ≡ 0
    by_note (Some note) empty e =
        owed_is v (Some note) v.keepalive_due v.speech e refl refl
        ∙ (λ i. length (empty i) + length ((sym (ap (λ (x : View). x.flight) (b.note note empty e)) ∙ none) i))
    by_note None empty e = by_keepalive v.keepalive_due empty e refl

    by_flight : (f : List ℕ) → v.flight ≡ f → owed_by v ≡ 0
    by_flight [] e = by_note v.note e refl
    by_flight (x ∷ xs) e =
        absurd (let f : ◌≡◌ {A = List ℕ} (x ∷ xs) [] = sym e ∙ sym (ap (λ (x : View). x.flight) (b.kept (λ empty. let g : ◌≡◌ {A = List ℕ} (x ∷ xs) [] = sym e ∙ empty in cc))) ∙ none in cc)

-- ---- octets are taken

pub took_owes : (n : ℕ) (v w : View) → n ≤ length v.flight → w ≡ record v { flight = drop n v.flight } → owed_by w + n ≡ owed_by v
took_owes n v w most e =
    let f : owed_by w ≡ length (drop n v.flight) + owed_behind v.note v.keepalive_due v.speech (fin.len v.waits) = ap owed_by e in
    let l = length-drop n v.flight in
    omega (arith, f, l, most)
