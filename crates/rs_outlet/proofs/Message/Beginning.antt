-- What an UPDATE leaves with the client, by the slots that it gave up.
use Rattle.std.proofs.Common.{◌≡◌, ◌≢◌, ◌<◌, ◌≤◌, ℕ, Bool, true, false, cond, not, ◌&&◌, Option, None, Some, List, [], ◌∷◌, length, take, refl, sym, ap, ◌∙◌, subst, arith, inl, inr}
use Rattle.std.specs.Prelude.{◌⊎◌, is_none, option_map}
use Rattle.std.specs.List.{AllByRecursion, list_any}
use Rattle.std.specs.Cmp.{first_so}
use mathlib.Core.Bool.{true≢false}
use Rattle.std.proofs.lemmas.List.Elements.{All-from_all_within, recursion_from_All}
use Rattle.std.specs.FinMap as fin
use Rattle.std.specs.FinSet as set
use Rattle.std.proofs.lemmas.List.{length-take, length-take-le}
use Rattle.rs_octets.specs.Prefixes.{Prefix, IsIpv4Prefix, prefix_order}
use Rattle.rs_attrs.specs.Meaning.{Attribute}
use Rattle.rs_adjin.specs.declared.adj_ins.AdjIns.{AdjIns}
use Rattle.rs_adjin.specs.AdjIns.{number_of}
use Rattle.rs_open.specs.Notes.{limit_octets}
use Rattle.rs_packer.specs.declared.packed.Packed.{Packed}
use Rattle.rs_outlet.specs.declared.answers.Speech.{Speech}
use Rattle.rs_rows.specs.Rows.{Row}
use Rattle.rs_outlet.specs.declared.waiting.Wait.{Wait}
use Rattle.rs_outlet.specs.Views.{View, AreNumbered, HaveNumbers}
use Rattle.rs_outlet.specs.Pending.Slots.{open_at, rising, told_by, marked_told, is_withdrawal, is_withdrawn}
use Rattle.rs_outlet.specs.Inside.{AreBacked, told_over, marked_of, waits_of, loc_of, numbers_from, shown}
use Rattle.std.specs.List.Sorted.{IsStrictlySortedBy}
use Rattle.std.proofs.lemmas.Option.{same_Some}
use Rattle.rs_outlet.proofs.Message.Rising.{least_chosen, up_take}
use Rattle.rs_outlet.proofs.Pending.InOrder.{passing_up, rising_open, rising_up}
use Rattle.rs_outlet.proofs.Pending.Unchanged.{backed_same, waits_same}
use Rattle.rs_packer.specs.Packed.{announcement, withdrawal}
use Rattle.rs_outlet.specs.Message.Next.{AreAsManyAsFit}
use Rattle.rs_outlet.specs.Pending.Choosing.{AreChosen, IsFirst, IsInTurn, IsLegalSaid, NoneWithdrawn, is_said_there, message_of, MayUpdate, passing}
use Rattle.rs_outlet.specs.Message.Begins.{AreLeastFirst, NoneGone, Settles, Withdraws, Announces, BeginsUpdate}
use Rattle.rs_outlet.proofs.Decided.LocByNumber.{same, numbered, by_number}
use Rattle.rs_outlet.proofs.Message.Chosen.{first_chosen}
use Rattle.rs_outlet.proofs.Message.AllWaiting.{all_sharing, all_withdrawn}
use Rattle.rs_outlet.proofs.Pending.Standing.{told_at, marked_at, waits_at}

told_cond : (b : Bool) (o : Option Wait) (due : Option (List Attribute)) → told_by (cond b None o) due ≡ cond b due (told_by o due)
told_cond true o due = refl
told_cond false o due = refl

marked_cond : (b : Bool) (o : Option Wait) (due : Option (List Attribute)) → marked_told (cond b None o) due ≡ (not b && marked_told o due)
marked_cond true o due = refl
marked_cond false o due = refl

waits_cond : (b : Bool) (o : Option Wait) → option_map (λ w. is_withdrawal w.due) (cond b None o) ≡ cond b None (option_map (λ w. is_withdrawal w.due) o)
waits_cond true o = refl
waits_cond false o = refl

-- what is due at the prefixes of rows with these attributes
rows_due : (rows : List (Option Row)) (ws : List Wait) (m : List Attribute) (ins : AdjIns) → HaveNumbers (numbers_from 0 rows) ins → (ns : List ℕ) (ps : List Prefix) → AreChosen rows ws (Some m) ns ps → AllByRecursion (λ p. fin.get (loc_of rows) p ≡ Some m) ps
rows_due rows ws m ins h [] [] are = tt
rows_due rows ws m ins h [] (p ∷ ps) are = absurd are
rows_due rows ws m ins h (n ∷ ns) [] are = absurd are
rows_due rows ws m ins h (n ∷ ns) (p ∷ ps) are =
    let r = are.0.is.1 in
    let at : number_of ins p ≡ Some r.number = ap (number_of ins) (sym r.prefix) ∙ numbered ins rows h r.number r.row r.at in
    (by_number ins rows (numbered ins rows h) p (Some r.number) at ∙ ap shown r.at ∙ ap (λ m. Some m) r.attributes, rows_due rows ws m ins h ns ps are.1)

chosen_legal : (rows : List (Option Row)) (ws : List Wait) (said : Option (List Attribute)) (ns : List ℕ) (ps : List Prefix) → AreChosen rows ws said ns ps → AllByRecursion IsIpv4Prefix ps
chosen_legal rows ws said [] [] are = tt
chosen_legal rows ws said [] (p ∷ ps) are = absurd are
chosen_legal rows ws said (n ∷ ns) [] are = absurd are
chosen_legal rows ws said (n ∷ ns) (p ∷ ps) are = (are.0.legal, chosen_legal rows ws said ns ps are.1)

waited_withdrawn : (rows : List (Option Row)) (ws : List Wait) (ns : List ℕ) (ps : List Prefix) → AreChosen rows ws None ns ps → AllByRecursion (λ p. fin.get (waits_of ws) p ≡ Some true) ps
waited_withdrawn rows ws [] [] are = tt
waited_withdrawn rows ws [] (p ∷ ps) are = absurd are
waited_withdrawn rows ws (n ∷ ns) [] are = absurd are
waited_withdrawn rows ws (n ∷ ns) (p ∷ ps) are =
    (waits_at ws p ∙ ap (option_map (λ (w : Wait). is_withdrawal w.due)) are.0.waits ∙ ap (λ b. Some b) are.0.is, waited_withdrawn rows ws ns ps are.1)

waited_announced : (rows : List (Option Row)) (ws : List Wait) (m : List Attribute) (ns : List ℕ) (ps : List Prefix) → AreChosen rows ws (Some m) ns ps → AllByRecursion (λ p. fin.get (waits_of ws) p ≡ Some false) ps
waited_announced rows ws m [] [] are = tt
waited_announced rows ws m [] (p ∷ ps) are = absurd are
waited_announced rows ws m (n ∷ ns) [] are = absurd are
waited_announced rows ws m (n ∷ ns) (p ∷ ps) are =
    (waits_at ws p ∙ ap (option_map (λ (w : Wait). is_withdrawal w.due)) are.0.waits ∙ ap (λ b. Some b) are.0.is.0, waited_announced rows ws m ns ps are.1)

-- where no slot is to be withdrawn, no prefix waits for that
none_open : (ws : List Wait) → AllByRecursion (λ w. is_withdrawn w ≡ false) ws → (q : Prefix) → option_map (λ (w : Wait). is_withdrawal w.due) (open_at q ws) ≢ Some true
none_open [] h q e = cc
none_open (w ∷ ws) h q e =
    elim (w.open && same q w.prefix) as (λ b. (w.open && same q w.prefix) ≡ b → option_map (λ (w : Wait). is_withdrawal w.due) (cond b (Some w) (open_at q ws)) ≡ Some true → ⊥) [
      | true ↦ λ t e. true≢false (sym (λ i. first_so w.open (same q w.prefix) t i && same_Some (is_withdrawal w.due) true e i) ∙ h.0)
      | false ↦ λ _ e. none_open ws h.1 q e
    ] refl e

pub none_gone : (v : View) (ws : List Wait) → v.waits ≡ waits_of ws → NoneWithdrawn ws → NoneGone v
none_gone v ws waits none q e =
    none_open ws (recursion_from_All (λ w. is_withdrawn w ≡ false) ws (All-from_all_within (λ w. is_withdrawn w ≡ false) ws none)) q
    (sym (waits_at ws q) ∙ sym (ap (λ t. fin.get t q) waits) ∙ e)

-- what callers see of rows and slots, before and after
pub record Shows (v : View) (rows : List (Option Row)) (ws : List Wait) : Type 0 where
  pub loc : v.loc ≡ loc_of rows
  pub told : v.told ≡ told_over (loc_of rows) ws
  pub marked : v.marked ≡ marked_of (loc_of rows) ws
  pub waits : v.waits ≡ waits_of ws
  pub numbers : (ins : AdjIns) → AreNumbered v ins → HaveNumbers (numbers_from 0 rows) ins

module _ (speech : Speech) (v w : View) (rows : List (Option Row)) (ws ws' : List Wait) (old : Shows v rows ws) (new : Shows w rows ws') where
  settled : (ps : List Prefix) → ((q : Prefix) → open_at q ws' ≡ cond (list_any (same q) ps) None (open_at q ws)) → Settles v w ps
  settled ps is = record {
    told = λ q.
        ap (λ t. fin.get t q) new.told ∙ told_at (loc_of rows) ws' q ∙ ap (λ o. told_by o (fin.get (loc_of rows) q)) (is q)
        ∙ told_cond (list_any (same q) ps) (open_at q ws) (fin.get (loc_of rows) q)
        ∙ ap (λ t. cond (list_any (same q) ps) (fin.get (loc_of rows) q) t) (sym (ap (λ t. fin.get t q) old.told ∙ told_at (loc_of rows) ws q))
        ∙ ap (λ t. cond (list_any (same q) ps) (fin.get t q) (fin.get v.told q)) (sym old.loc);
    marked = λ q.
        ap (λ s. set.contains s q) new.marked ∙ marked_at (loc_of rows) ws' q ∙ ap (λ o. marked_told o (fin.get (loc_of rows) q)) (is q)
        ∙ marked_cond (list_any (same q) ps) (open_at q ws) (fin.get (loc_of rows) q)
        ∙ ap (λ b. not (list_any (same q) ps) && b) (sym (ap (λ s. set.contains s q) old.marked ∙ marked_at (loc_of rows) ws q));
    waits = λ q.
        ap (λ t. fin.get t q) new.waits ∙ waits_at ws' q ∙ ap (option_map (λ (w : Wait). is_withdrawal w.due)) (is q)
        ∙ waits_cond (list_any (same q) ps) (open_at q ws)
        ∙ ap (cond (list_any (same q) ps) None) (sym (ap (λ t. fin.get t q) old.waits ∙ waits_at ws q));
  }

  some_taken : (n : ℕ) (ps : List Prefix) → 0 < n → n ≤ length ps → 0 < length (take n ps)
  some_taken n ps some within = omega (arith, length-take-le n ps within, some)

  in_order : (said : Option (List Attribute)) (k : ℕ) (ps : List Prefix) → AreAsManyAsFit (message_of speech said) (limit_octets speech.limit) (passing (is_said_there rows said) (rising ws)) (take k ps) → IsFirst said ws ps → AreLeastFirst (λ q. fin.get v.waits q ≡ Some (is_none said)) (take k ps)
  in_order said k ps all first = record {
    rising = subst (IsStrictlySortedBy prefix_order) (sym all.front) (up_take (length (take k ps)) (passing (is_said_there rows said) (rising ws)) (passing_up (is_said_there rows said) (rising ws) (rising_up ws)));
    least = λ p q head waits. least_chosen ws said k ps first p q head (sym (ap (λ t. fin.get t q) old.waits ∙ waits_at ws q) ∙ waits);
  }

  waits_in_order : v.waits ≡ waits_of (rising ws)
  waits_in_order = old.waits ∙ sym (waits_same (loc_of rows) ws (rising ws) (λ q. rising_open q ws))

  begun : (ns : List ℕ) (ps : List Prefix) (packed : Packed) (said : Option (List Attribute))
      → ((said : Option (List Attribute)) (qs : List Prefix) → AreChosen rows ws said (take packed.prefixes ns) qs → (q : Prefix) → open_at q ws' ≡ cond (list_any (same q) qs) None (open_at q ws))
      → AreBacked rows ws → AreAsManyAsFit (message_of speech said) (limit_octets speech.limit) (passing (is_said_there rows said) (rising ws)) (take packed.prefixes ps)
      → IsFirst said ws ps → AreChosen rows ws said ns ps → IsLegalSaid said → IsInTurn said ws → length w.flight ≤ limit_octets speech.limit → 0 < packed.prefixes → packed.prefixes ≤ length ps → w.flight ≡ message_of speech said (take packed.prefixes ps) → Withdraws speech v w ⊎ Announces speech v w
  begun ns ps packed None gave backed all first are legal in_turn fits some within flight =
      let some_chosen = first_chosen rows ws None packed.prefixes ns ps are in
      inl (record {
        prefixes = take packed.prefixes ps;
        some = some_taken packed.prefixes ps some within;
        prefixes_legal = chosen_legal rows ws None (take packed.prefixes ns) (take packed.prefixes ps) some_chosen;
        waited = subst (λ t. AllByRecursion (λ p. fin.get t p ≡ Some true) (take packed.prefixes ps)) (sym old.waits) (waited_withdrawn rows ws (take packed.prefixes ns) (take packed.prefixes ps) some_chosen);
        order = in_order None packed.prefixes ps all first;
        all = subst (λ qs. AreAsManyAsFit withdrawal (limit_octets speech.limit) qs (take packed.prefixes ps)) (sym (all_withdrawn v (rising ws) waits_in_order (rising_up ws))) all;
        settles = settled (take packed.prefixes ps) (gave None (take packed.prefixes ps) some_chosen);
        flight = flight;
        fits = fits;
      })
  begun ns ps packed (Some m) gave backed all first are legal in_turn fits some within flight =
      let some_chosen = first_chosen rows ws (Some m) packed.prefixes ns ps are in
      inr (record {
        gone = none_gone v ws old.waits in_turn;
        prefixes = take packed.prefixes ps;
        attributes = m;
        some = some_taken packed.prefixes ps some within;
        prefixes_legal = chosen_legal rows ws (Some m) (take packed.prefixes ns) (take packed.prefixes ps) some_chosen;
        legal = legal;
        waited = subst (λ t. AllByRecursion (λ p. fin.get t p ≡ Some false) (take packed.prefixes ps)) (sym old.waits) (waited_announced rows ws m (take packed.prefixes ns) (take packed.prefixes ps) some_chosen);
        order = in_order (Some m) packed.prefixes ps all first;
        due = λ ins are_numbered. subst (λ t. AllByRecursion (λ p. fin.get t p ≡ Some m) (take packed.prefixes ps)) (sym old.loc) (rows_due rows ws m ins (old.numbers ins are_numbered) (take packed.prefixes ns) (take packed.prefixes ps) some_chosen);
        all = λ ins are_numbered.
            subst (λ qs. AreAsManyAsFit (announcement m speech.mode) (limit_octets speech.limit) qs (take packed.prefixes ps))
            (sym (all_sharing rows (rising ws) m ins (old.numbers ins are_numbered) (rising_up ws) (backed_same rows ws (rising ws) (λ q. rising_open q ws) backed) v waits_in_order old.loc)) all;
        settles = settled (take packed.prefixes ps) (gave (Some m) (take packed.prefixes ps) some_chosen);
        flight = flight;
        fits = fits;
      })

  pub update_begun : (ns : List ℕ) (ps : List Prefix) (octets : List ℕ) (packed : Packed) → MayUpdate speech rows ws ns ps octets packed → packed.octets ≤ limit_octets speech.limit → w.flight ≡ take packed.octets octets
      → ((said : Option (List Attribute)) (qs : List Prefix) → AreChosen rows ws said (take packed.prefixes ns) qs → (q : Prefix) → open_at q ws' ≡ cond (list_any (same q) qs) None (open_at q ws))
      → AreBacked rows ws → BeginsUpdate speech v w
  update_begun ns ps octets packed (inl none) most flight gave backed = inl (record {
    none = λ p. ap (λ t. fin.get t p) old.waits ∙ waits_at ws p ∙ ap (option_map (λ (w : Wait). is_withdrawal w.due)) (none.1 p);
    settles = settled [] (gave None [] (subst (λ (k : Packed). AreChosen rows ws None (take k.prefixes ns) []) (sym none.0) tt));
    flight = flight ∙ ap (λ (k : Packed). take k.octets octets) none.0;
  })
  update_begun ns ps octets packed (inr is) most flight gave backed =
      let taken : length w.flight ≤ limit_octets speech.limit = omega (arith, ap length flight, length-take packed.octets octets, most) in
      inr (begun ns ps packed is.said gave backed is.all is.first is.chosen is.legal is.in_turn taken is.written.some is.written.within (flight ∙ is.written.says))

-- what waits still has its row
left_open : (b : Bool) (o : Option Wait) (w : Wait) → cond b None o ≡ Some w → o ≡ Some w
left_open true o w e = absurd (let f : ◌≡◌ {A = Option Wait} None (Some w) = e in cc)
left_open false o w e = e

pub backed_left : (speech : Speech) (rows : List (Option Row)) (ws ws' : List Wait) (ns : List ℕ) (ps : List Prefix) (octets : List ℕ) (packed : Packed) → MayUpdate speech rows ws ns ps octets packed
    → ((said : Option (List Attribute)) (qs : List Prefix) → AreChosen rows ws said (take packed.prefixes ns) qs → (q : Prefix) → open_at q ws' ≡ cond (list_any (same q) qs) None (open_at q ws))
    → AreBacked rows ws → AreBacked rows ws'
backed_left speech rows ws ws' ns ps octets packed (inl none) gave backed q w is =
    backed q w (sym (gave None [] (subst (λ (k : Packed). AreChosen rows ws None (take k.prefixes ns) []) (sym none.0) tt) q) ∙ is)
backed_left speech rows ws ws' ns ps octets packed (inr update) gave backed q w is =
    let qs = take packed.prefixes ps in
    backed q w (left_open (list_any (same q) qs) (open_at q ws) w (sym (gave update.said qs (first_chosen rows ws update.said packed.prefixes ns ps update.chosen) q) ∙ is))

-- the same of what callers saw before
pub update_seen : (speech spoken : Speech) (v v' w : View) (rows : List (Option Row)) (ws ws' : List Wait) → v ≡ v' → Some speech ≡ Some spoken → Shows v rows ws → Shows w rows ws'
    → (ns : List ℕ) (ps : List Prefix) (octets : List ℕ) (packed : Packed) → MayUpdate speech rows ws ns ps octets packed → packed.octets ≤ limit_octets speech.limit → w.flight ≡ take packed.octets octets
    → ((said : Option (List Attribute)) (qs : List Prefix) → AreChosen rows ws said (take packed.prefixes ns) qs → (q : Prefix) → open_at q ws' ≡ cond (list_any (same q) qs) None (open_at q ws))
    → AreBacked rows ws → BeginsUpdate spoken v' w
update_seen speech spoken v v' w rows ws ws' is same_speech old new ns ps octets packed may most flight gave backed =
    subst (λ (x : View). BeginsUpdate spoken x w) is
    (subst (λ s. BeginsUpdate s v w) (same_Some speech spoken same_speech) (update_begun speech v w rows ws ws' old new ns ps octets packed may most flight gave backed))
