-- What was chosen and packed is an UPDATE.
use Rattle.std.proofs.Common.{◌≡◌, ◌+◌, ◌<◌, ◌≤◌, ◌⊎◌, ℕ, List, Option, None, Some, length, take, inr, subst}
use Rattle.rs_octets.specs.Prefixes.{Prefix}
use Rattle.rs_attrs.specs.Meaning.{Attribute}
use Rattle.rs_attrs.specs.Writing.{IsLegal}
use Rattle.rs_open.specs.Notes.{limit_octets}
use Rattle.rs_packer.specs.Packed.{IsLongestFront, announcement, withdrawal}
use Rattle.rs_packer.specs.declared.packed.Packed.{Packed}
use Rattle.rs_outlet.specs.declared.answers.Speech.{Speech}
use Rattle.rs_rows.specs.Rows.{Row}
use Rattle.rs_outlet.specs.declared.waiting.Wait.{Wait}
use Rattle.rs_outlet.specs.Pending.Slots.{AreApart, is_announced, is_withdrawn, rising}
use Rattle.rs_outlet.specs.Pending.Choosing.{AreChosen, IsLeastOf, MayUpdate, NoneWithdrawn, WaitsFor, passing, shares}
use Rattle.rs_outlet.proofs.Message.Fullest.{announcements_take, longest_of_all, withdrawals_take}
use Rattle.rs_outlet.proofs.Message.Rising.{announced_first, withdrawn_first}

-- the longest front of these prefixes, `qs`, that fits stands in the octets
pub record IsPacked (message : List Prefix → List ℕ) (limit : ℕ) (qs : List Prefix) (octets : List ℕ) (packed : Packed) : Type 0 where
  pub some : 0 < packed.prefixes
  pub within : packed.prefixes ≤ length qs
  pub longest : IsLongestFront message limit qs packed.prefixes
  pub says : take packed.octets octets ≡ message (take packed.prefixes qs)

module _ (speech : Speech) (rows : List (Option Row)) (ws : List Wait) (apart : AreApart ws) (room : ℕ) (ns : List ℕ) (ps : List Prefix) (octets : List ℕ) (packed : Packed) (ends : (packed.prefixes < room) ⊎ (limit_octets speech.limit ≤ 23 + room)) where
  pub withdraws : AreChosen rows ws None ns ps → ps ≡ take room (passing is_withdrawn (rising ws)) → IsPacked withdrawal (limit_octets speech.limit) ps octets packed → MayUpdate speech rows ws ns ps octets packed
  withdraws are all is =
      inr (record {
        said = None;
        legal = tt;
        in_turn = tt;
        chosen = are;
        first = withdrawn_first ws apart room ps all;
        written = record { some = is.some; within = is.within; says = is.says };
        all = longest_of_all withdrawal (limit_octets speech.limit) room (passing is_withdrawn (rising ws)) ps packed.prefixes withdrawals_take ends all is.longest;
      })

  pub announces : (m : List Attribute) → IsLegal m → NoneWithdrawn ws → IsLeastOf (WaitsFor rows m) is_announced ws → AreChosen rows ws (Some m) ns ps → ps ≡ take room (passing (shares rows m) (rising ws)) → IsPacked (announcement m speech.mode) (limit_octets speech.limit) ps octets packed → MayUpdate speech rows ws ns ps octets packed
  announces m legal in_turn least are all is =
      inr (record {
        said = Some m;
        legal = legal;
        in_turn = in_turn;
        chosen = are;
        first = announced_first ws apart room ps rows m least all;
        written = record { some = is.some; within = is.within; says = is.says };
        all = longest_of_all (announcement m speech.mode) (limit_octets speech.limit) room (passing (shares rows m) (rising ws)) ps packed.prefixes (announcements_take m speech.mode) ends all is.longest;
      })

-- what was packed of a list stands so of one that is the same
pub packed_of : (message : List Prefix → List ℕ) (limit : ℕ) (qs ps : List Prefix) (octets : List ℕ) (packed : Packed) → qs ≡ ps → 0 < packed.prefixes → packed.prefixes ≤ length qs → IsLongestFront message limit qs packed.prefixes → take packed.octets octets ≡ message (take packed.prefixes qs) → IsPacked message limit ps octets packed
packed_of message limit qs ps octets packed is some within longest says = subst (λ xs. IsPacked message limit xs octets packed) is (record { some = some; within = within; longest = longest; says = says })
