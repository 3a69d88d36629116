-- Each route that is due to a client is another client's, as that one announced it.
use Rattle.std.proofs.Common.{◌≡◌, ◌≢◌, ◌<◌, ◌==◌, ℕ, Bool, true, false, List, [], ◌∷◌, ◌++◌, length, refl, sym, ◌∙◌, ap, subst, arith, eq-eqb, eqb-true, inl, inr, slice_get}
use Rattle.std.specs.Prelude.{Option, Some, None, nat_le, option_and_then, if◌then◌else◌}
use Rattle.std.specs.List.{flat_map}
use Rattle.std.specs.Int.{w32, to_be_bytes}
use Rattle.rs_octets.specs.Prefixes.{Prefix}
use Rattle.rs_attrs.specs.Meaning.{Attribute, AllAbove, IsRising, get}
use Rattle.rs_attrs.specs.Paths.{quads}
use Rattle.rs_attrs.specs.Patterns.{large_communities_in, parts_of}
use Rattle.rs_attrs.specs.Stripping.{Taken, left_of, numbers_left, stripped_of, unstripped, unstripped_large, with_numbers}
use Rattle.rs_attrs.specs.Writing.{with_value}
use Rattle.rs_attrs.proofs.Strips.Communities.{left_is}
use Rattle.rs_attrs.proofs.Strips.StrippedLaws.{get_above, get_skips, others_stay}
use Rattle.rs_attrs.proofs.Strips.StrippedLegal.{stripped_above}
use Rattle.rs_update.proofs.OneEffect.{mean_one_table}
use Rattle.rs_open.specs.Notes.{limit_octets}
use Rattle.rs_policy.specs.Verdicts.{Judgement, dropped, passed, verdict}
use Rattle.rs_decision.specs.Choice.{best_of, by_place}
use Rattle.rs_decision.specs.declared.rank.Rank.{Rank}
use Rattle.rs_packer.specs.Packed.{announcement}
use Rattle.rs_outlet.specs.declared.answers.Speech.{Speech}
use Rattle.rs_outlet.specs.Decided.Due.{holders_at, if_fits, passed_on, ranks_among, route_from}
use Rattle.rs_core.specs.Run.Moves.{Move, config_in}
use Rattle.rs_core.specs.Run.Meaning.{due_by, held_in, hearing, speech_in, table}
use Rattle.rs_core.specs.Told.Senders.{ArePassedOn, DueRoutesAreTheSenders, IsSendersRoute, ToldRoutesAreTheSenders, communities_left, large_communities_left}
use Rattle.rs_core.proofs.Run.Dues.{best_kept, first_of_all, holders_below, others_among, ranks_below}
use Rattle.rs_core.proofs.Session.RisingTypes.{held_rising}

-- ---- what is left of COMMUNITIES and LARGE_COMMUNITY

here_left : (a : Attribute) (k : ℕ) (numbers : List ℕ) (m : List Attribute) → (a.kind == k) ≡ true → get k m ≡ None → get k (with_numbers a numbers ++ m) ≡ slice_get (with_numbers a numbers) 0
here_left a k [] m here none = none
here_left a k (n ∷ numbers) m here none = ap (λ b. if b then Some (with_value a (flat_map (to_be_bytes w32) (n ∷ numbers))) else get k m) here

module _ (t : Taken) (k : ℕ) (left : Attribute → List ℕ) (is : (a : Attribute) → a.kind ≡ k → left_of t a ≡ with_numbers a (left a)) where
  left_at : (m : List Attribute) → IsRising m → get k (stripped_of t m) ≡ option_and_then (λ a. slice_get (with_numbers a (left a)) 0) (get k m)
  left_at [] rising = refl
  left_at (a ∷ m) rising = by_kind (a.kind == k) refl (left_at m rising.1) where
    by_kind : (b : Bool) → (a.kind == k) ≡ b → get k (stripped_of t m) ≡ option_and_then (λ a. slice_get (with_numbers a (left a)) 0) (get k m)
        → get k (left_of t a ++ stripped_of t m) ≡ option_and_then (λ a. slice_get (with_numbers a (left a)) 0) (if b then Some a else get k m)
    by_kind true e later =
        ap (λ kept. get k (kept ++ stripped_of t m)) (is a (eqb-true a.kind k e))
        ∙ here_left a k (left a) (stripped_of t m) e (get_above k (stripped_of t m) (stripped_above t k m (subst (λ j. AllAbove j m) (eqb-true a.kind k e) rising.0)))
    by_kind false e later = get_skips t k a (stripped_of t m) (λ same. absurd (let here : true ≡ false = sym (eq-eqb a.kind k same) ∙ e in (cc))) ∙ later

communities_are : (t : Taken) (m : List Attribute) → IsRising m → get 8 (stripped_of t m) ≡ communities_left t (get 8 m)
communities_are t = left_at t 8 (λ a. unstripped t (quads a.value)) (λ a kind. left_is t a (inl kind) ∙ ap (λ k. with_numbers a (numbers_left t k (quads a.value))) kind)

large_communities_are : (t : Taken) (m : List Attribute) → IsRising m → get 32 (stripped_of t m) ≡ large_communities_left t (get 32 m)
large_communities_are t =
    left_at t 32 (λ a. flat_map parts_of (unstripped_large t (large_communities_in a.value))) (λ a kind. left_is t a (inr kind) ∙ ap (λ k. with_numbers a (numbers_left t k (quads a.value))) kind)

stripped_passed : (t : Taken) (m : List Attribute) → IsRising m → ArePassedOn t m (stripped_of t m)
stripped_passed t m rising = record {
  next_hop = others_stay t 3 m (λ e. cc) (λ e. cc);
  as_path = others_stay t 2 m (λ e. cc) (λ e. cc);
  multi_exit_disc = others_stay t 4 m (λ e. cc) (λ e. cc);
  others = λ kind other another. others_stay t kind m other another;
  communities = communities_are t m rising;
  large_communities = large_communities_are t m rising;
}

-- ---- the route of a sender

none_some : (m : List Attribute) → ◌≡◌ {A = Option (List Attribute)} None (Some m) → ⊥
none_some m e = cc

fits_is : (b : Bool) (k m : List Attribute) → (if b then Some k else None) ≡ Some m → k ≡ m
fits_is true k m e = (let f : ◌≡◌ {A = Option (List Attribute)} (Some k) (Some m) = e in cc)
fits_is false k m e = absurd (none_some m e)

module _ (run : List Move) (c : ℕ) (speech : Speech) (p : Prefix) (m : List Attribute) where
  by_verdict : (from : ℕ) → from < length (config_in run).clients → from ≢ c → (n : List Attribute) → table run from p ≡ Some n → (j : Judgement) → verdict (config_in run) from c p n ≡ j
      → option_and_then (if_fits speech p) (passed_on n j) ≡ Some m → IsSendersRoute run c p m
  by_verdict from client another n holds dropped is e = absurd (none_some m e)
  by_verdict from client another n holds (passed preference taken) is e = record {
    sender = from;
    client = client;
    another = another;
    announced = n;
    holds = holds;
    preference = preference;
    taken = taken;
    rules = is;
    attributes = subst (ArePassedOn taken n)
        (fits_is (nat_le (length (announcement (stripped_of taken n) speech.mode (p ∷ []))) (limit_octets speech.limit)) (stripped_of taken n) m e)
        (stripped_passed taken n (held_rising run from p n holds));
  }

  by_sender : (from : ℕ) → from < length (config_in run).clients → from ≢ c → (w : Option (List Attribute)) → table run from p ≡ w
      → option_and_then (if_fits speech p) (option_and_then (λ n. passed_on n (verdict (config_in run) from c p n)) w) ≡ Some m → IsSendersRoute run c p m
  by_sender from client another None holds e = absurd (none_some m e)
  by_sender from client another (Some n) holds e = by_verdict from client another n holds (verdict (config_in run) from c p n) refl e

  abbrev ranks : List Rank
  ranks = ranks_among (held_in run) c p (holders_at (held_in run) p)

  by_best : (best : Option Rank) → best_of ranks ≡ best → option_and_then (λ r. route_from (held_in run) c speech p r.place) best ≡ Some m → IsSendersRoute run c p m
  by_best None is e = absurd (none_some m e)
  by_best (Some r) is e =
      let n : ℕ = length (config_in run).clients in
      let below = best_kept (λ r. r.place < n) ranks (ranks_below (held_in run) c n p (holders_at (held_in run) p) (holders_below (λ d. table run d p) n 0 n (omega arith))) in
      let others = best_kept (λ r. r.place ≢ c) ranks (others_among (held_in run) c p (holders_at (held_in run) p)) in
      by_sender r.place (first_of_all (λ r. r.place < n) (by_place ranks) r below is) (first_of_all (λ r. r.place ≢ c) (by_place ranks) r others is) (table run r.place p) refl e

-- ---- the laws

by_speech : (run : List Move) (c : ℕ) (p : Prefix) (m : List Attribute) (o : Option Speech) → due_by (held_in run) c o p ≡ Some m → IsSendersRoute run c p m
by_speech run c p m None e = absurd (none_some m e)
by_speech run c p m (Some speech) e = by_best run c speech p m (best_of (ranks run c speech p m)) refl e

pub due_routes_are_the_senders : DueRoutesAreTheSenders
due_routes_are_the_senders run c p m e = by_speech run c p m (speech_in (config_in run) c (hearing c run)) e

pub told_routes_are_the_senders : ToldRoutesAreTheSenders
told_routes_are_the_senders run c speech table served is means p m e =
    due_routes_are_the_senders run c p m (mean_one_table _ speech.mode _ table (served.told speech is).means means p ∙ e)
