-- For which clients memory was refused at a turn.
use Rattle.std.proofs.Common.{◌≡◌, ◌≢◌, ◌<◌, ◌≤◌, inl, inr, ℕ, zero, suc, Bool, true, false, ◌==◌, ◌||◌, List, ◌∷◌, length, refl, sym, ◌∙◌, ap, subst, arith}
use Rattle.std.specs.Prelude.{if◌then◌else◌}
use Rattle.std.proofs.lemmas.Option.{slice_get_read}
use Rattle.rs_outlet.specs.Views.{View}
use Rattle.rs_core.specs.Core.{client_count, is_refusal, is_refused, refusal_in, refused_below}
use Rattle.rs_core.specs.Run.Meaning.{is_listed}
use Rattle.rs_core.specs.Ribs.{outlet_in}
use Rattle.rs_core.specs.declared.route_server.Core.{Core}
use Rattle.rs_core.proofs.Run.Clients.{equal_or, is_own, is_other}
use Rattle.rs_core.proofs.Run.Loops.{default_same}

listed_more : (c n : ℕ) (b : Bool) (cs : List ℕ) → is_listed c (if b then n ∷ cs else cs) ≡ (if b then (n == c) || is_listed c cs else is_listed c cs)
listed_more c n true cs = refl
listed_more c n false cs = refl

both_ways : (b x y : Bool) → x ≡ y → (if b then false || x else x) ≡ y
both_ways true x y e = e
both_ways false x y e = e

first_is : (b x : Bool) → x ≡ false → (if b then true || x else x) ≡ b
first_is true x e = refl
first_is false x e = e

other_listed : (core : Core) (c n : ℕ) (x : Bool) → n ≢ c → is_listed c (refused_below core n) ≡ x → is_listed c (refused_below core (suc n)) ≡ x
other_listed core c n x ne e = listed_more c n (is_refused core n) (refused_below core n)
    ∙ ap (λ t. if is_refused core n then t || is_listed c (refused_below core n) else is_listed c (refused_below core n)) (is_other n c ne)
    ∙ both_ways (is_refused core n) (is_listed c (refused_below core n)) x e

none_above : (core : Core) (c n : ℕ) → n ≤ c → is_listed c (refused_below core n) ≡ false
none_above core c zero le = refl
none_above core c (suc n) le = other_listed core c n false (λ e. absurd (omega (arith, e, le))) (none_above core c n (omega (arith, le)))

listed_below : (core : Core) (c n : ℕ) → c < n → is_listed c (refused_below core n) ≡ is_refused core c
listed_below core c zero lt = absurd (omega (arith, lt))
listed_below core c (suc n) lt = elim (equal_or n c) [
  | inl same ↦ listed_more c n (is_refused core n) (refused_below core n)
      ∙ ap (λ t. if is_refused core n then t || is_listed c (refused_below core n) else is_listed c (refused_below core n)) (ap (λ k. k == c) same ∙ is_own c)
      ∙ first_is (is_refused core n) (is_listed c (refused_below core n)) (none_above core c n (omega (arith, same)))
      ∙ ap (is_refused core) same
  | inr ne ↦ other_listed core c n (is_refused core c) ne (listed_below core c n (omega (arith, lt, ne)))
]

-- a client is listed where memory was refused for it
pub refused_listed : (core : Core) (c : ℕ) → c < core.count → is_listed c (refused_below core (client_count core)) ≡ is_refused core c
unfolding client_count
refused_listed core c lt = listed_below core c core.count lt

-- and where its outlet says so
pub says_refused : (core : Core) (c : ℕ) (none : View) → c < core.count → is_refused core c ≡ is_refusal (outlet_in core.ribs c none).last
unfolding is_refused
says_refused core c none lt =
    let xs : List View = core.ribs.outlets.items in
    let there : c < length xs = subst (λ n. c < n) (sym (core.ribs.outlets_len ∙ core.ribs_len)) lt in
    ap refusal_in (slice_get_read xs (length xs) c (outlet_in core.ribs c none) refl there (default_same xs c none (outlet_in core.ribs c none) there))

pub listed_is : (core : Core) (c : ℕ) (none : View) → c < core.count → is_listed c (refused_below core (client_count core)) ≡ is_refusal (outlet_in core.ribs c none).last
listed_is core c none lt = refused_listed core c lt ∙ says_refused core c none lt
