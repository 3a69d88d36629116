-- What a client holds is listed by rising type.
use Rattle.std.proofs.Common.{◌≡◌, ◌==◌, ℕ, Bool, true, false, List, [], ◌∷◌, sym, ap, subst}
use Rattle.std.specs.Prelude.{⊤, take, Option, Some, None, Result, Ok, Err, find, if◌then◌else◌}
use Rattle.std.specs.List.{AllByRecursion, filter_map}
use Rattle.rs_octets.specs.declared.heads.Head.{Head}
use Rattle.rs_octets.specs.declared.heads.HeaderFault.{HeaderFault}
use Rattle.rs_octets.specs.declared.heads.Kind.{Kind}
use Rattle.rs_octets.specs.declared.heads.Kind.TheVariants as kinds
use Rattle.rs_octets.specs.declared.notification.Notification.{Notification}
use Rattle.rs_octets.specs.Headers.{header_of}
use Rattle.rs_octets.specs.Messages.{body_of, newly_heard}
use Rattle.rs_octets.specs.Prefixes.{Prefix}
use Rattle.rs_attrs.specs.declared.faults.Faulted.{Faulted}
use Rattle.rs_attrs.specs.declared.mode.Mode.{Mode}
use Rattle.rs_attrs.specs.Effects.{Change, Changes, Effect, Fields, Reset, attributes_after, change_of, effect_by, effect_in, effect_of, fields_of, has_prefix, is_empty, mentions, reset_of, table_since}
use Rattle.rs_attrs.specs.Meaning.{Attribute, IsRising, kept, meaning_of, read_of}
use Rattle.rs_attrs.specs.Spellings.{spellings_of, Spelling}
use Rattle.rs_attrs.proofs.Fields.FirstOfTypeWalk.{types_all}
use Rattle.rs_attrs.proofs.Fields.Meant.{gives_own, rising_from}
use Rattle.rs_session.specs.Sessions.{is_live}
use Rattle.rs_policy.specs.Configuration.{Configuration, client_of}
use Rattle.rs_core.specs.Session.Hearing.{Hearing, Said, allowed_in, begins, body_said, commanded, effect_said, faulted_by_fields, is_up, hears, leaves, listens, listens_to, mode_in, said_by, said_in, state_in, takes, takes_in, update_said, with_change}
use Rattle.rs_core.specs.Run.Moves.{Move, Ruled, Came, Heard, Saw, Left, Dropped, Commanded, Turned, Began, Took, config_in}
use Rattle.rs_core.specs.Run.Meaning.{hearing, table}
use Rattle.rs_core.specs.declared.endings.Ending.TheVariants as reasons
use Rattle.rs_core.proofs.Session.Listening.{Heards}

-- ---- changes that announce attributes by rising type

abbrev IsGood : Change → Type 0
IsGood change = (m : List Attribute) → change.attributes ≡ Some m → IsRising m

abbrev AreGood : List Change → Type 0
AreGood changes = AllByRecursion IsGood changes

abbrev IsGoodIf : Option Change → Type 0
IsGoodIf None = ⊤
IsGoodIf (Some change) = IsGood change

abbrev IsGoodEffect : Effect → Type 0
IsGoodEffect (Reset code sub) = ⊤
IsGoodEffect (Changes change) = IsGood change

meant_rising : (mode : Mode) (spellings : List Spelling) → IsRising (meaning_of mode spellings)
meant_rising mode spellings = subst IsRising (sym (ap (filter_map (kept mode spellings)) types_all)) (rising_from (kept mode spellings) (gives_own mode spellings) 0 256)

attributes_good : (none : Bool) (n m : List Attribute) → IsRising n → (if none then None else Some n) ≡ Some m → IsRising m
attributes_good true n m rising e = absurd (let f : ◌≡◌ {A = Option (List Attribute)} None (Some m) = e in cc)
attributes_good false n m rising e = subst IsRising (let f : ◌≡◌ {A = Option (List Attribute)} (Some n) (Some m) = e in cc) rising

effect_good : (name : Option Notification) (change : Change) → IsGood change → IsGoodEffect (effect_by name change)
effect_good None change good = good
effect_good (Some name) change good = tt

body_good : (mode : Mode) (fields : Option Fields) → IsGoodEffect (effect_in mode fields)
body_good mode None = tt
body_good mode (Some fields) =
    let read = read_of fields.attributes mode in
    effect_good (reset_of fields read.faults) (change_of fields read)
    (λ m e. attributes_good (is_empty (change_of fields read).announced) read.attributes m (meant_rising mode (spellings_of fields.attributes)) e)

-- ---- what is said

by_effect : (limit : Option ℕ) (changes : List Change) (faulted : Faulted) (effect : Effect) → IsGoodEffect effect → IsGoodIf (effect_said limit changes faulted effect).change
by_effect limit changes faulted (Reset code sub) good = tt
by_effect limit changes faulted (Changes change) good = good

by_mode : (mode : Option Mode) (limit : Option ℕ) (changes : List Change) (body : List ℕ) → IsGoodIf (update_said mode limit changes body).change
by_mode None limit changes body = tt
by_mode (Some mode) limit changes body = by_effect limit changes (faulted_by_fields mode (fields_of body)) (effect_of body mode) (body_good mode (fields_of body))

by_kind : (s : Configuration) (c : ℕ) (h : Hearing) (kind : Kind) (body : List ℕ) → IsGoodIf (body_said s c h kind body).change
by_kind s c h kinds.Open body = tt
by_kind s c h kinds.Update body = by_mode (mode_in s c h) (client_of s c).limit h.changes body
by_kind s c h kinds.Note body = tt
by_kind s c h kinds.Keepalive body = tt
by_kind s c h kinds.Refresh body = tt

by_header : (s : Configuration) (c : ℕ) (h : Hearing) (body : List ℕ) (header : Result Head HeaderFault) → IsGoodIf (said_by s c h body header).change
by_header s c h body (Ok head) = by_kind s c h head.kind body
by_header s c h body (Err fault) = tt

said_good : (s : Configuration) (c : ℕ) (h : Hearing) (message : Result (List ℕ) HeaderFault) → IsGoodIf (said_in s c h message).change
said_good s c h (Ok message) = by_header s c h (body_of message) (header_of (allowed_in s) (take 19 message))
said_good s c h (Err fault) = tt

-- ---- what is heard

with_good : (change : Option Change) (changes : List Change) → IsGoodIf change → AreGood changes → AreGood (with_change change changes)
with_good None changes new good = good
with_good (Some change) changes new good = (new, good)

if_good : (b : Bool) (xs ys : List Change) → AreGood xs → AreGood ys → AreGood (if b then xs else ys)
if_good true xs ys x y = x
if_good false xs ys x y = y

takes_good : (s : Configuration) (c : ℕ) (said : Said) (h : Hearing) → IsGoodIf said.change → AreGood h.changes → AreGood (takes_in s c said h).changes
takes_good s c said h new good = if_good (is_up (state_in s c h)) (with_change said.change h.changes) [] (with_good said.change h.changes new good) tt

either_good : (b : Bool) (x y : Hearing) → AreGood x.changes → AreGood y.changes → AreGood (if b then x else y).changes
either_good true x y good other = good
either_good false x y good other = other

all_good : (s : Configuration) (c : ℕ) (ms : Heards) (h : Hearing) → AreGood h.changes → AreGood (listens_to s c ms h).changes
all_good s c [] h good = good
all_good s c (m ∷ ms) h good =
    all_good s c ms (listens s c m h) (either_good (is_live (state_in s c h)) (takes_in s c (said_in s c h m) h) h (takes_good s c (said_in s c h m) h (said_good s c h m) good) good)

changes_good : (run : List Move) (c : ℕ) → AreGood (hearing c run).changes
changes_good [] c = tt
changes_good (Ruled config ∷ run) c = changes_good run c
changes_good (Came d ∷ run) c = either_good (d == c) (begins (hearing c run)) (hearing c run) tt (changes_good run c)
changes_good (Heard d octets ∷ run) c =
    let it = hearing c run in
    either_good (d == c) (hears (config_in run) c octets it) it (all_good (config_in run) c (newly_heard (allowed_in (config_in run)) it.octets octets) it (changes_good run c)) (changes_good run c)
changes_good (Saw t ∷ run) c = changes_good run c
changes_good (Left d ∷ run) c = either_good (d == c) (leaves (config_in run) c reasons.Lost (hearing c run)) (hearing c run) tt (changes_good run c)
changes_good (Dropped d octets ∷ run) c = either_good (d == c) (leaves (config_in run) c reasons.Memory (hearing c run)) (hearing c run) tt (changes_good run c)
changes_good (Commanded d command ∷ run) c = either_good (d == c) (commanded (config_in run) c command (hearing c run)) (hearing c run) (changes_good run c) (changes_good run c)
changes_good (Turned refused ∷ run) c = changes_good run c
changes_good (Began d ∷ run) c = changes_good run c
changes_good (Took d octets ∷ run) c = either_good (d == c) (takes octets (hearing c run)) (hearing c run) (changes_good run c) (changes_good run c)

-- ---- what is held

since_good : (changes : List Change) (p : Prefix) (m : List Attribute) → AreGood changes → table_since changes p ≡ Some m → IsRising m
since_good [] p m good e = absurd (let f : ◌≡◌ {A = Option (List Attribute)} None (Some m) = e in cc)
since_good (x ∷ xs) p m good e = by_mention (mentions p x) (λ f. since_good xs p m good.1 f) e where
  by_announced : (b : Bool) → (if b then x.attributes else None) ≡ Some m → IsRising m
  by_announced true f = good.0 m f
  by_announced false f = absurd (let g : ◌≡◌ {A = Option (List Attribute)} None (Some m) = f in cc)

  by_mention : (b : Bool) → (table_since xs p ≡ Some m → IsRising m) → attributes_after p (if b then Some x else find (mentions p) xs) ≡ Some m → IsRising m
  by_mention true later f = by_announced (has_prefix p x.announced) f
  by_mention false later f = later f

pub held_rising : (run : List Move) (c : ℕ) (p : Prefix) (m : List Attribute) → table run c p ≡ Some m → IsRising m
held_rising run c p m e = by_state (is_up (state_in (config_in run) c (hearing c run))) e where
  by_state : (b : Bool) → (if b then table_since (hearing c run).changes p else None) ≡ Some m → IsRising m
  by_state true f = since_good (hearing c run).changes p m (changes_good run c) f
  by_state false f = absurd (let g : ◌≡◌ {A = Option (List Attribute)} None (Some m) = f in cc)
