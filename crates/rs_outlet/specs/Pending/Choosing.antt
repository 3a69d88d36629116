-- The slots that the next UPDATE is about.
use Rattle.std.specs.Prelude.{◌≡◌, ◌≢◌, ◌⊎◌, ℕ, ◌≤◌, ◌<◌, Bool, ◌&&◌, true, false, Option, None, Some, List, [], ◌∷◌, length, option_map, take, slice_get, vec_len, Vec}
use Rattle.std.specs.List.{AllWithin, filter}
use Rattle.std.specs.Global.{Global}
use Rattle.std.specs.Vec.{vec_capacity}
use Rattle.std.specs.declared.cmp.Ordering.TheVariants.{Less}
use Rattle.rs_octets.specs.Prefixes.{Prefix, IsIpv4Prefix, prefix_order}
use Rattle.rs_attrs.specs.Meaning.{Attribute}
use Rattle.rs_attrs.specs.Writing.{IsLegal}
use Rattle.rs_open.specs.Notes.{limit_octets}
use Rattle.rs_packer.specs.Packed.{announcement, withdrawal}
use Rattle.rs_packer.specs.declared.packed.Packed.{Packed}
use Rattle.rs_outlet.specs.declared.answers.Speech.{Speech}
use Rattle.rs_rows.specs.Rows.{Row}
use Rattle.rs_outlet.specs.declared.waiting.Wait.{Wait}
use Rattle.rs_outlet.specs.Pending.Slots.{prefixes_at, open_at, is_announced, is_withdrawal, is_withdrawn, rising}
use Rattle.rs_outlet.specs.Inside.{IsBacked, row_at, row_by, shown}
use Rattle.rs_outlet.specs.Message.Next.{AreAsManyAsFit, has_attributes}

-- no prefix that passes the test comes before this one
abbrev pub NoneBefore : (Wait → Bool) → List Wait → Prefix → Type 0
NoneBefore test ws p = (m : ℕ) (z : Wait) → slice_get ws m ≡ Some z → test z ≡ true → prefix_order z.prefix p ≢ Less

-- the slot of the least prefix that passes the test; none where there is none
abbrev pub IsLeast : (Wait → Bool) → List Wait → Option ℕ → Type 0
IsLeast test ws None = (m : ℕ) (z : Wait) → slice_get ws m ≡ Some z → test z ≡ false
IsLeast test ws (Some n) = (w : Wait) × (slice_get ws n ≡ Some w) × (test w ≡ true) × NoneBefore test ws w.prefix

-- a slot passes the test
abbrev pub AnyPasses : (Wait → Bool) → List Wait → Type 0
AnyPasses test ws = (n : ℕ) × (w : Wait) × (slice_get ws n ≡ Some w) × (test w ≡ true)

-- the slot of the least prefix that passes the test is such a one
abbrev pub IsLeastOf : (Wait → Type 0) → (Wait → Bool) → List Wait → Type 0
IsLeastOf is test ws = (n : ℕ) × (w : Wait) × (slice_get ws n ≡ Some w) × is w × (test w ≡ true) × NoneBefore test ws w.prefix

-- of a slot in the first part and one in the late part, none has a lesser prefix than this one
abbrev pub IsLesser : ℕ → ℕ → ℕ → List Wait → ℕ → Type 0
IsLesser sorted first late ws n =
    (w z : Wait) (m : ℕ) → slice_get ws n ≡ Some w → slice_get ws m ≡ Some z → (((m ≡ first) × (m < sorted)) ⊎ (m ≡ late)) → prefix_order z.prefix w.prefix ≢ Less

-- there is room for a slot and for its prefix
abbrev pub HaveRoom : Vec ℕ Global → Vec Prefix Global → Type 0
HaveRoom chosen front = (vec_len chosen < vec_capacity chosen) × (vec_len front < vec_capacity front)

-- none of the slots is to be withdrawn
abbrev pub NoneWithdrawn : List Wait → Type 0
NoneWithdrawn ws = AllWithin (λ w. is_withdrawn w ≡ false) ws 0 (length ws)

-- a row has the prefix with these attributes
pub record HasRow (rows : List (Option Row)) (p : Prefix) (m : List Attribute) : Type 0 where
  pub number : ℕ
  pub row : Row
  pub at : row_at rows number ≡ Some row
  pub prefix : row.prefix ≡ p
  pub attributes : row.attributes ≡ m

-- what is to be said of a prefix that waits: that it is withdrawn, or these attributes
abbrev pub IsSaid : List (Option Row) → Prefix → Wait → Option (List Attribute) → Type 0
IsSaid rows p w None = is_withdrawal w.due ≡ true
IsSaid rows p w (Some m) = (is_withdrawal w.due ≡ false) × HasRow rows p m

-- the prefix waits at this slot, and this is to be said of it
pub record IsChosen (rows : List (Option Row)) (ws : List Wait) (said : Option (List Attribute)) (n : ℕ) (p : Prefix) : Type 0 where
  pub wait : Wait
  pub at : slice_get ws n ≡ Some wait
  pub prefix : wait.prefix ≡ p
  pub opened : wait.open ≡ true
  pub waits : open_at p ws ≡ Some wait
  pub legal : IsIpv4Prefix p
  pub is : IsSaid rows p wait said

-- each of the prefixes waits at the slot beside it
abbrev pub AreChosen : List (Option Row) → List Wait → Option (List Attribute) → List ℕ → List Prefix → Type 0
AreChosen rows ws said [] [] = Unit {0}
AreChosen rows ws said [] (p ∷ ps) = ⊥
AreChosen rows ws said (n ∷ ns) [] = ⊥
AreChosen rows ws said (n ∷ ns) (p ∷ ps) = IsChosen rows ws said n p × AreChosen rows ws said ns ps

-- the first of the prefixes are in the message, and it stands at the front of the octets
pub record IsWritten (message : List Prefix → List ℕ) (ps : List Prefix) (octets : List ℕ) (packed : Packed) : Type 0 where
  pub some : 0 < packed.prefixes
  pub within : packed.prefixes ≤ length ps
  pub says : take packed.octets octets ≡ message (take packed.prefixes ps)

-- the message that says this of some prefixes
abbrev pub message_of : Speech → Option (List Attribute) → List Prefix → List ℕ
message_of speech None ps = withdrawal ps
message_of speech (Some m) ps = announcement m speech.mode ps

-- what is said is legal
abbrev pub IsLegalSaid : Option (List Attribute) → Type 0
IsLegalSaid None = Unit {0}
IsLegalSaid (Some m) = IsLegal m

-- an announcement comes once nothing is left to be withdrawn
abbrev pub IsInTurn : Option (List Attribute) → List Wait → Type 0
IsInTurn None ws = Unit {0}
IsInTurn (Some m) ws = NoneWithdrawn ws

-- whether this, or the like, is to be said at a slot
abbrev pub is_said : Option (List Attribute) → Wait → Bool
is_said None w = is_withdrawn w
is_said (Some m) w = is_announced w

-- no prefix at which the like is to be said comes before the first of these
abbrev pub IsFirst : Option (List Attribute) → List Wait → List Prefix → Type 0
IsFirst said ws ps = (p : Prefix) → slice_get ps 0 ≡ Some p → NoneBefore (is_said said) ws p

-- whether a slot waits to be announced, with these attributes
abbrev pub shares : List (Option Row) → List Attribute → Wait → Bool
shares rows m w = w.open && has_attributes (shown (row_by rows w.due)) m

-- whether just this is to be said at a slot
abbrev pub is_said_there : List (Option Row) → Option (List Attribute) → Wait → Bool
is_said_there rows None w = is_withdrawn w
is_said_there rows (Some m) w = shares rows m w

-- the prefixes of the slots that pass the test
abbrev pub passing : (Wait → Bool) → List Wait → List Prefix
passing test ws = prefixes_at (filter test ws)

-- an UPDATE about slots chosen
pub record IsUpdate (speech : Speech) (rows : List (Option Row)) (ws : List Wait) (ns : List ℕ) (ps : List Prefix) (octets : List ℕ) (packed : Packed) : Type 0 where
  pub said : Option (List Attribute)
  pub legal : IsLegalSaid said
  pub in_turn : IsInTurn said ws
  pub chosen : AreChosen rows ws said ns ps
  pub first : IsFirst said ws ps
  pub written : IsWritten (message_of speech said) ps octets packed
  pub all : AreAsManyAsFit (message_of speech said) (limit_octets speech.limit) (passing (is_said_there rows said) (rising ws)) (take packed.prefixes ps)

-- none of the slots waits
abbrev pub NoneOpen : List Wait → Type 0
NoneOpen ws = (q : Prefix) → open_at q ws ≡ None

-- a slot that waits for these attributes, and has its row
pub record WaitsFor (rows : List (Option Row)) (m : List Attribute) (w : Wait) : Type 0 where
  pub opened : w.open ≡ true
  pub backed : IsBacked rows w.prefix w.due
  pub said : option_map (λ r. r.attributes) (row_by rows w.due) ≡ Some m

-- nothing was written, which is so only where nothing waits, or an UPDATE
abbrev pub MayUpdate : Speech → List (Option Row) → List Wait → List ℕ → List Prefix → List ℕ → Packed → Type 0
MayUpdate speech rows ws ns ps octets packed = ((packed ≡ record { octets = 0; prefixes = 0 }) × NoneOpen ws) ⊎ IsUpdate speech rows ws ns ps octets packed
