-- What a connection's octets mean, with a message more and with a piece more.
use Rattle.std.proofs.Common.{◌≡◌, ◌∙◌, ◌⊎◌, inl, inr, ◌+◌, ◌-◌, ◌≤◌, ℕ, Bool, true, false, cond, ◌||◌, List, [], ◌∷◌, ◌++◌, length, map, take, drop, refl, sym, ap, subst, arith, append_assoc, length-append, nat_lt}
use Rattle.std.specs.Prelude.{Option, Some, None, Result, Ok, Err, IfOk}
use Rattle.std.specs.Bool.{OnTrue, OnFalse}
use Rattle.std.specs.List.{flat_map, list_any, AllByRecursion, AllZip}
use Rattle.std.proofs.Math.Seq.{drop-append_seam}
use Rattle.std.proofs.lemmas.Bool.{le-ltb}
use Rattle.std.proofs.lemmas.Grind.{flat_map-append}
use Rattle.std.proofs.lemmas.List.{append-nil}
use Rattle.rs_octets.specs.declared.heads.Allowed.{Allowed}
use Rattle.rs_octets.specs.declared.heads.HeaderFault.{HeaderFault}
use Rattle.rs_octets.specs.declared.heads.Kind.{Kind}
use Rattle.rs_octets.specs.declared.heads.Kind.TheVariants as kinds
use Rattle.rs_octets.specs.Headers.{header_of}
use Rattle.rs_octets.specs.Fronts.{BeginsWith, BeginsFaulty, Wants}
use Rattle.rs_octets.specs.Messages.{IsMessageOf, body_of, header_fault_of, heard_of, messages_of, rest_of}
use Rattle.rs_octets.proofs.Cut.{cuts_of, pieces_join}
use Rattle.rs_octets.proofs.Fronting.{message_in_front, waits}
use Rattle.rs_octets.proofs.Pieces.{Faulty, Bad, faulty_is, good_or_faulty, same_header, stays_long}
use Rattle.rs_attrs.specs.declared.mode.Mode.{Mode}
use Rattle.rs_attrs.specs.Effects.{Change, Changes, HasEffect, MeansTable, Reset}
use Rattle.rs_compare.specs.Heard.{table_in}
use Rattle.rs_replay.specs.declared.connection.Connection.{Connection}
use Rattle.rs_replay.specs.Findings.{Table}
use Rattle.rs_replay.specs.Sendings.{IsReadable, IsUnreadable, MeansSent, NoneResets, SomeResets, allowed, is_boundary, is_boundary_by, is_boundary_type, since_last, update_by, update_in, update_of_type, updates_in, updates_since}
use Rattle.rs_replay.specs.Taking.{HasTaken, HearsAll, HearsMessage, HearsUpTo}
use Rattle.rs_replay.specs.Telling.{sent_on}

-- ---- what is given since the last that begins anew

or_true : (b : Bool) → (b || true) ≡ true
or_true true = refl
or_true false = refl

pick : {B : Type 0} (b : Bool) (g s t whole : List B) → whole ≡ s ++ t → cond b whole (g ++ whole) ≡ cond b s (g ++ s) ++ t
pick true g s t whole e = e
pick false g s t whole e = ap (λ xs. g ++ xs) e ∙ sym (append_assoc g s t)

module _ {A B : Type 0} (begins : A → Bool) (gives : A → List B) where
  any_new : (xs : List A) (x : A) → begins x ≡ true → list_any begins (xs ++ x ∷ []) ≡ true
  any_new [] x e = ap (λ b. b || false) e
  any_new (y ∷ xs) x e = ap (λ b. begins y || b) (any_new xs x e) ∙ or_true (begins y)

  any_on : (xs : List A) (x : A) → begins x ≡ false → list_any begins (xs ++ x ∷ []) ≡ list_any begins xs
  any_on [] x e = ap (λ b. b || false) e
  any_on (y ∷ xs) x e = ap (λ b. begins y || b) (any_on xs x e)

  -- one more, which begins anew
  pub since_new : (xs : List A) (x : A) → begins x ≡ true → since_last begins gives (xs ++ x ∷ []) ≡ gives x
  since_new [] x e = append-nil (gives x)
  since_new (y ∷ xs) x e =
      let all : List B = since_last begins gives (xs ++ x ∷ []) in
      ap (λ b. cond b all (gives y ++ all)) (any_new xs x e) ∙ since_new xs x e

  -- one more, which does not
  pub since_on : (xs : List A) (x : A) → begins x ≡ false → since_last begins gives (xs ++ x ∷ []) ≡ since_last begins gives xs ++ gives x
  since_on [] x e = append-nil (gives x)
  since_on (y ∷ xs) x e =
      let all : List B = since_last begins gives (xs ++ x ∷ []) in
      ap (λ b. cond b all (gives y ++ all)) (any_on xs x e)
      ∙ pick (list_any begins xs) (gives y) (since_last begins gives xs) (gives x) all (since_on xs x e)

-- ---- a message

boundary_is : (kind : Kind) (message : List ℕ) → IsMessageOf allowed kind message → is_boundary message ≡ is_boundary_type kind
boundary_is kind message is = ap is_boundary_by is.1

update_is : (kind : Kind) (message : List ℕ) → IsMessageOf allowed kind message → update_in message ≡ update_of_type kind (body_of message)
update_is kind message is = ap (λ head. update_by head (body_of message)) is.1

zip_last : (mode : Mode) (bodies : List (List ℕ)) (body : List ℕ) (changes : List Change) → AllZip (λ body change. HasEffect body mode (Changes change)) (bodies ++ body ∷ []) changes
    → (change : Change) × HasEffect body mode (Changes change)
zip_last mode [] body [] all = absurd all
zip_last mode [] body (change ∷ changes) all = (change, all.0)
zip_last mode (b ∷ bodies) body [] all = absurd all
zip_last mode (b ∷ bodies) body (change ∷ changes) all = zip_last mode bodies body changes all.1

module _ (mode : Mode) (before : List (List ℕ)) (message : List ℕ) where
  -- an UPDATE that changes the table
  pub hears_change : (body : List ℕ) (new : Table) → IsMessageOf allowed kinds.Update message → body ≡ body_of message
      → MeansTable (updates_since before ++ body ∷ []) mode new → HearsMessage mode before message true new
  hears_change body new is same means =
      let one : update_in message ≡ body ∷ [] = update_is kinds.Update message is ∙ ap (λ b. b ∷ []) (sym same) in
      let last = zip_last mode (updates_since before) body means.0 means.1 in (
        subst (λ bodies. NoneResets mode bodies) (sym one) (last, tt),
        subst (λ bodies. MeansTable bodies mode new)
            (sym (since_on is_boundary update_in before message (boundary_is kinds.Update message is) ∙ ap (λ bodies. updates_since before ++ bodies) one)) means,
      )

  -- one that resets the session
  pub hears_reset : (body : List ℕ) (code sub : ℕ) (new : Table) → IsMessageOf allowed kinds.Update message → body ≡ body_of message → HasEffect body mode (Reset code sub)
      → HearsMessage mode before message false new
  hears_reset body code sub new is same has =
      let one : update_in message ≡ body ∷ [] = update_is kinds.Update message is ∙ ap (λ b. b ∷ []) (sym same) in
      subst (λ bodies. SomeResets mode bodies) (sym one) (inl (code, sub, has))

  -- an OPEN or a NOTIFICATION
  pub hears_boundary : (kind : Kind) (new : Table) → IsMessageOf allowed kind message → (kind ≡ kinds.Open) ⊎ (kind ≡ kinds.Note) → MeansTable [] mode new
      → HearsMessage mode before message true new
  hears_boundary kind new is one means =
      let no_update : update_in message ≡ [] = update_is kind message is ∙ none_of one in (
        subst (λ bodies. NoneResets mode bodies) (sym no_update) tt,
        subst (λ bodies. MeansTable bodies mode new) (sym (since_new is_boundary update_in before message (boundary_is kind message is ∙ boundary one) ∙ no_update)) means,
      )
    where
      none_of : (kind ≡ kinds.Open) ⊎ (kind ≡ kinds.Note) → update_of_type kind (body_of message) ≡ []
      none_of (inl e) = ap (λ k. update_of_type k (body_of message)) e
      none_of (inr e) = ap (λ k. update_of_type k (body_of message)) e

      boundary : (kind ≡ kinds.Open) ⊎ (kind ≡ kinds.Note) → is_boundary_type kind ≡ true
      boundary (inl e) = ap is_boundary_type e
      boundary (inr e) = ap is_boundary_type e

  -- another message
  pub hears_other : (kind : Kind) (new : Table) → IsMessageOf allowed kind message → (kind ≡ kinds.Keepalive) ⊎ (kind ≡ kinds.Refresh) → MeansTable (updates_since before) mode new
      → HearsMessage mode before message true new
  hears_other kind new is one means =
      let no_update : update_in message ≡ [] = update_is kind message is ∙ none_of one in (
        subst (λ bodies. NoneResets mode bodies) (sym no_update) tt,
        subst (λ bodies. MeansTable bodies mode new)
            (sym (since_on is_boundary update_in before message (boundary_is kind message is ∙ boundary one) ∙ ap (λ bodies. updates_since before ++ bodies) no_update ∙ append-nil (updates_since before))) means,
      )
    where
      none_of : (kind ≡ kinds.Keepalive) ⊎ (kind ≡ kinds.Refresh) → update_of_type kind (body_of message) ≡ []
      none_of (inl e) = ap (λ k. update_of_type k (body_of message)) e
      none_of (inr e) = ap (λ k. update_of_type k (body_of message)) e

      boundary : (kind ≡ kinds.Keepalive) ⊎ (kind ≡ kinds.Refresh) → is_boundary_type kind ≡ false
      boundary (inl e) = ap is_boundary_type e
      boundary (inr e) = ap is_boundary_type e

-- an UPDATE that was heard
pub hears_update : {E : Type 0} (mode : Mode) (kind : Kind) (body : List ℕ) (old new : Table) (result : Result Bool E) → kind ≡ kinds.Update
    → ((bodies : List (List ℕ)) → MeansTable bodies mode old → IfOk result (λ goes_on. OnTrue goes_on (MeansTable (bodies ++ body ∷ []) mode new)))
    → IfOk result (λ goes_on. OnFalse goes_on ((code : ℕ) × (sub : ℕ) × HasEffect body mode (Reset code sub)))
    → IfOk result (λ goes_on. (before : List (List ℕ)) (message : List ℕ) → IsMessageOf allowed kind message → body ≡ body_of message → MeansTable (updates_since before) mode old → HearsMessage mode before message goes_on new)
hears_update mode kind body old new (Ok true) update table reset = λ before message is same means.
    hears_change mode before message body new (subst (λ k. IsMessageOf allowed k message) update is) same (table (updates_since before) means)
hears_update mode kind body old new (Ok false) update table reset = λ before message is same means.
    hears_reset mode before message body reset.0 reset.1 new (subst (λ k. IsMessageOf allowed k message) update is) same reset.2
hears_update mode kind body old new (Err e) update table reset = tt

-- ---- messages

none_both : (mode : Mode) (xs ys : List (List ℕ)) → NoneResets mode xs → NoneResets mode ys → NoneResets mode (xs ++ ys)
none_both mode [] ys a b = b
none_both mode (x ∷ xs) ys a b = (a.0, none_both mode xs ys a.1 b)

some_front : (mode : Mode) (xs ys : List (List ℕ)) → SomeResets mode xs → SomeResets mode (xs ++ ys)
some_front mode [] ys h = absurd h
some_front mode (x ∷ xs) ys (inl h) = inl h
some_front mode (x ∷ xs) ys (inr h) = inr (some_front mode xs ys h)

some_back : (mode : Mode) (xs ys : List (List ℕ)) → SomeResets mode ys → SomeResets mode (xs ++ ys)
some_back mode [] ys h = h
some_back mode (x ∷ xs) ys h = inr (some_back mode xs ys h)

updates_join : (xs ys : List (List ℕ)) → updates_in (xs ++ ys) ≡ updates_in xs ++ updates_in ys
updates_join xs ys = flat_map-append update_in xs ys

updates_one : (xs : List (List ℕ)) (x : List ℕ) → updates_in (xs ++ x ∷ []) ≡ updates_in xs ++ update_in x
updates_one xs x = updates_join xs (x ∷ []) ∙ ap (λ ys. updates_in xs ++ ys) (append-nil (update_in x))

no_messages : (messages : List (List ℕ)) (faults : List (Result (List ℕ) HeaderFault)) → map Ok messages ++ faults ≡ [] → messages ≡ []
no_messages [] faults e = refl
no_messages (m ∷ messages) faults e = cc

module _ (mode : Mode) (before : List (List ℕ)) (octets : List ℕ) where
  pub up_to_none : (table : Table) → MeansTable (updates_since before) mode table → HearsUpTo mode before octets octets table
  up_to_none table means = record {
    heard = [];
    messages = refl;
    left = refl;
    none_resets = tt;
    table_is = subst (λ ms. MeansTable (updates_since ms) mode table) (sym (append-nil before)) means;
  }

  pub up_to_more : (rest body later : List ℕ) (kind : Kind) (old new : Table) (up : HearsUpTo mode before octets rest old) (at : BeginsWith allowed rest kind body later)
      → HearsMessage mode (before ++ up.heard) at.message true new → HearsUpTo mode before octets later new
  up_to_more rest body later kind old new up at hears =
      let front = message_in_front allowed rest kind body later at in
      record {
        heard = up.heard ++ at.message ∷ [];
        messages = up.messages ∙ ap (λ ms. up.heard ++ ms) front.1 ∙ sym (append_assoc up.heard (at.message ∷ []) (messages_of allowed later));
        left = up.left ∙ front.2;
        none_resets = subst (λ bodies. NoneResets mode bodies) (sym (updates_one up.heard at.message)) (none_both mode (updates_in up.heard) (update_in at.message) up.none_resets hears.0);
        table_is = subst (λ ms. MeansTable (updates_since ms) mode new) (append_assoc before up.heard (at.message ∷ [])) hears.1;
      }

  pub reset_within : (rest body later : List ℕ) (kind : Kind) (old new : Table) (up : HearsUpTo mode before octets rest old) (at : BeginsWith allowed rest kind body later)
      → HearsMessage mode (before ++ up.heard) at.message false new → IsUnreadable mode octets
  reset_within rest body later kind old new up at hears =
      let front = message_in_front allowed rest kind body later at in
      let all : messages_of allowed octets ≡ up.heard ++ (at.message ∷ messages_of allowed later) = up.messages ∙ ap (λ ms. up.heard ++ ms) front.1 in
      let bodies : updates_in (messages_of allowed octets) ≡ updates_in up.heard ++ (update_in at.message ++ updates_in (messages_of allowed later)) =
      ap updates_in all ∙ updates_join up.heard (at.message ∷ messages_of allowed later) in
      inr (subst (λ xs. SomeResets mode xs) (sym bodies)
      (some_back mode (updates_in up.heard) (update_in at.message ++ updates_in (messages_of allowed later)) (some_front mode (update_in at.message) (updates_in (messages_of allowed later)) hears)))

  pub fault_within : (rest : List ℕ) (fault : HeaderFault) (old : Table) → HearsUpTo mode before octets rest old → BeginsFaulty allowed rest fault → IsUnreadable mode octets
  fault_within rest fault old up at =
      let bad = faulty_is allowed rest fault (le-ltb (length rest) 19 at.0) at.1 in
      inl (fault, ap (header_fault_of allowed) (up.left ∙ bad.1) ∙ bad.2)

  ends_here : (rest : List ℕ) (n : ℕ) (table : Table) → HearsUpTo mode before octets rest table → messages_of allowed rest ≡ [] → rest_of allowed rest ≡ rest → header_fault_of allowed rest ≡ []
      → n ≡ length rest → HearsAll mode before octets (Some n) table
  ends_here rest n table up none same good size =
      let all : messages_of allowed octets ≡ up.heard = up.messages ∙ ap (λ ms. up.heard ++ ms) none ∙ append-nil up.heard in
      let left : rest_of allowed octets ≡ rest = up.left ∙ same in (
        size ∙ sym (ap length left),
        (ap (header_fault_of allowed) left ∙ good, subst (λ ms. NoneResets mode (updates_in ms)) (sym all) up.none_resets),
        subst (λ ms. MeansTable (updates_since (before ++ ms)) mode table) (sym all) up.table_is,
      )

  pub ends_waiting : (rest : List ℕ) (n wanted : ℕ) (table : Table) → HearsUpTo mode before octets rest table → Wants allowed rest wanted → n ≡ length rest → HearsAll mode before octets (Some n) table
  ends_waiting rest n wanted table up wants size =
      let w = waits allowed rest wanted wants in
      ends_here rest n table up (no_messages (messages_of allowed rest) (header_fault_of allowed (rest_of allowed rest)) w.0) w.1 w.2 size

  pub ends_empty : (rest : List ℕ) (table : Table) → HearsUpTo mode before octets rest table → rest ≡ [] → HearsAll mode before octets (Some 0) table
  ends_empty rest table up none = ends_here [] 0 table (subst (λ xs. HearsUpTo mode before octets xs table) none up) refl refl refl refl

-- ---- pieces

-- what is left stands at the end
pub left_behind : (octets : List ℕ) (n : ℕ) → n ≡ length octets - length (rest_of allowed octets) → drop n octets ≡ rest_of allowed octets
left_behind octets n is =
    let whole = (cuts_of allowed octets).whole in
    let front : List ℕ = flat_map (λ message. message) (messages_of allowed octets) in
    let size : n ≡ length front = omega (arith, is, ap length whole, length-append front (rest_of allowed octets)) in
    ap (λ k. drop k octets) size ∙ ap (λ xs. drop (length front) xs) whole ∙ drop-append_seam front (rest_of allowed octets)

fault_stays : (octets more : List ℕ) (fault : HeaderFault) → header_fault_of allowed (rest_of allowed octets) ≡ Err fault ∷ []
    → (other : HeaderFault) × (header_fault_of allowed (rest_of allowed (octets ++ more)) ≡ Err other ∷ [])
fault_stays octets more fault e = by_fault (good_or_faulty allowed (rest_of allowed octets))
  where
    by_fault : (header_fault_of allowed (rest_of allowed octets) ≡ []) ⊎ Faulty allowed (rest_of allowed octets)
        → (other : HeaderFault) × (header_fault_of allowed (rest_of allowed (octets ++ more)) ≡ Err other ∷ [])
    by_fault (inl good) = let bad : Err fault ∷ [] ≡ [] = sym e ∙ good in cc
    by_fault (inr (Bad other long head)) =
        let rest : List ℕ = rest_of allowed octets in
        let is = faulty_is allowed (rest ++ more) other (stays_long rest more long) (ap (λ h. header_of allowed h) (same_header rest more long) ∙ head) in
        (other, ap (header_fault_of allowed) ((pieces_join allowed octets more).1 ∙ is.1) ∙ is.2)

module _ (mode : Mode) (before octets : List ℕ) where
  messages_all : messages_of allowed (before ++ octets) ≡ messages_of allowed before ++ messages_of allowed (rest_of allowed before ++ octets)
  messages_all = (pieces_join allowed before octets).0

  rest_all : rest_of allowed (before ++ octets) ≡ rest_of allowed (rest_of allowed before ++ octets)
  rest_all = (pieces_join allowed before octets).1

  stays_unreadable : IsUnreadable mode before → IsUnreadable mode (before ++ octets)
  stays_unreadable (inl (fault, e)) = inl (fault_stays before octets fault e)
  stays_unreadable (inr some) =
      inr (subst (λ ms. SomeResets mode (updates_in ms)) (sym messages_all)
      (subst (λ xs. SomeResets mode xs) (sym (updates_join (messages_of allowed before) (messages_of allowed (rest_of allowed before ++ octets))))
      (some_front mode (updates_in (messages_of allowed before)) (updates_in (messages_of allowed (rest_of allowed before ++ octets))) some)))

  now_unreadable : IsUnreadable mode (rest_of allowed before ++ octets) → IsUnreadable mode (before ++ octets)
  now_unreadable (inl (fault, e)) = inl (fault, ap (header_fault_of allowed) rest_all ∙ e)
  now_unreadable (inr some) =
      inr (subst (λ ms. SomeResets mode (updates_in ms)) (sym messages_all)
      (subst (λ xs. SomeResets mode xs) (sym (updates_join (messages_of allowed before) (messages_of allowed (rest_of allowed before ++ octets))))
      (some_back mode (updates_in (messages_of allowed before)) (updates_in (messages_of allowed (rest_of allowed before ++ octets))) some)))

  still_readable : IsReadable mode before → IsReadable mode (rest_of allowed before ++ octets) → IsReadable mode (before ++ octets)
  still_readable was is = (
    ap (header_fault_of allowed) rest_all ∙ is.0,
    subst (λ ms. NoneResets mode (updates_in ms)) (sym messages_all)
        (subst (λ xs. NoneResets mode xs) (sym (updates_join (messages_of allowed before) (messages_of allowed (rest_of allowed before ++ octets))))
        (none_both mode (updates_in (messages_of allowed before)) (updates_in (messages_of allowed (rest_of allowed before ++ octets))) was.1 is.1)),
  )

  -- a connection that can't be read stays so
  pub takes_unread : (old : Connection) → old.is_readable ≡ false → HasTaken mode before old → HasTaken mode (before ++ octets) old
  takes_unread old unread has =
      let sent : sent_on old ≡ None = ap (λ b. cond b (Some (table_in old.sent)) None) unread in (
        subst (λ o. MeansSent mode (before ++ octets) o) (sym sent) (stays_unreadable (subst (λ o. MeansSent mode before o) sent has.0)),
        λ read. let bad : true ≡ false = sym read ∙ unread in cc,
      )

  sent_when : (old : Connection) → old.is_readable ≡ true → HasTaken mode before old → IsReadable mode before × MeansTable (updates_since (messages_of allowed before)) mode (table_in old.sent)
  sent_when old read has = subst (λ o. MeansSent mode before o) (ap (λ b. cond b (Some (table_in old.sent)) None) read) has.0

  -- what is known where the messages of the buffer are to be heard
  pub means_before : (old : Connection) → old.is_readable ≡ true → HasTaken mode before old → MeansTable (updates_since (messages_of allowed before)) mode (table_in old.sent)
  means_before old read has = (sent_when old read has).1

  -- the octets behind those that waited can't be read
  pub takes_bad : (old new : Connection) (buffer : List ℕ) (left : Option ℕ) (table : Table) → old.is_readable ≡ true → HasTaken mode before old → buffer ≡ old.rest.items ++ octets
      → HearsAll mode (messages_of allowed before) buffer left table → ((n : ℕ) → left ≡ Some n → ⊥) → new.is_readable ≡ false → HasTaken mode (before ++ octets) new
  takes_bad old new buffer (Some n) table read has is hears none unread = absurd (none n refl)
  takes_bad old new buffer None table read has is hears none unread =
      let all : buffer ≡ rest_of allowed before ++ octets = is ∙ ap (λ xs. xs ++ octets) (has.1 read) in
      let sent : sent_on new ≡ None = ap (λ b. cond b (Some (table_in new.sent)) None) unread in (
        subst (λ o. MeansSent mode (before ++ octets) o) (sym sent) (now_unreadable (subst (λ xs. IsUnreadable mode xs) all hears)),
        λ read. let bad : true ≡ false = sym read ∙ unread in cc,
      )

  -- they were heard, and what is left of them waits
  pub takes_more : (old new : Connection) (buffer : List ℕ) (left : ℕ) → old.is_readable ≡ true → HasTaken mode before old → buffer ≡ old.rest.items ++ octets
      → HearsAll mode (messages_of allowed before) buffer (Some left) (table_in new.sent) → new.is_readable ≡ true → new.rest.items ≡ drop (length buffer - left) buffer
      → HasTaken mode (before ++ octets) new
  takes_more old new buffer left was has is hears read rest =
      let all : buffer ≡ rest_of allowed before ++ octets = is ∙ ap (λ xs. xs ++ octets) (has.1 was) in
      let sent : sent_on new ≡ Some (table_in new.sent) = ap (λ b. cond b (Some (table_in new.sent)) None) read in
      let means : MeansSent mode (before ++ octets) (Some (table_in new.sent)) = (
        still_readable (sent_when old was has).0 (subst (λ xs. IsReadable mode xs) all hears.1),
        subst (λ ms. MeansTable (updates_since ms) mode (table_in new.sent)) (sym messages_all)
            (subst (λ xs. MeansTable (updates_since (messages_of allowed before ++ messages_of allowed xs)) mode (table_in new.sent)) all hears.2),
      ) in (
        subst (λ o. MeansSent mode (before ++ octets) o) (sym sent) means,
        λ again. rest ∙ left_behind buffer (length buffer - left) (ap (λ n. length buffer - n) hears.0) ∙ ap (rest_of allowed) all ∙ sym rest_all,
      )
