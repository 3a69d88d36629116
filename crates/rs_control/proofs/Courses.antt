-- Courses of talks, one behind the other.
use Rattle.std.proofs.Common.{◌≡◌, ◌⊎◌, inl, inr, ℕ, List, Option, Some, None, sym, subst, ◌∙◌}
use Rattle.std.specs.Prelude.{IfSome}
use Rattle.rs_policy.specs.Configuration.{Configuration}
use Rattle.rs_window.specs.declared.page.Page.{Page}
use Rattle.rs_window.specs.declared.page.Next.{Next}
use Rattle.rs_control.specs.declared.orders.Orders.{Orders}
use Rattle.rs_control.specs.declared.talk.Talk.{Talk}
use Rattle.rs_control.specs.Courses.{AreOfThese, Course, Still, Then, Step, Serves, Nobody, ComeAndGo, Somebody}
use Rattle.rs_control.specs.Talks.{IsFresh}

pub one_step : (finds : List ℕ → Option Page → Type 0) (writes : Page → List ℕ → Next → Type 0) (config : Configuration) (o p : Orders) (a b : Talk) → Step finds writes config o p a b → Course finds writes config o a p b
one_step finds writes config o p a b step = Then o o p a a b (Still o a) step

pub followed : (finds : List ℕ → Option Page → Type 0) (writes : Page → List ℕ → Next → Type 0) (config : Configuration) (o p q : Orders) (a b c : Talk) → Course finds writes config o a p b → Course finds writes config p b q c → Course finds writes config o a q c
followed finds writes config o p q a b c first (Still x y) = first
followed finds writes config o p q a b c first (Then x m z f old new rest step) = Then o m q a old c (followed finds writes config o p m a b old first rest) step

pub served : (finds : List ℕ → Option Page → Type 0) (writes : Page → List ℕ → Next → Type 0) (config : Configuration) (o p q : Orders) (t u v : ℕ → Option Talk) → Serves finds writes config o t p u → Serves finds writes config p u q v → Serves finds writes config o t q v
served finds writes config o p q t u v before (Nobody x y) = before
served finds writes config o p q t u v before (ComeAndGo x m f w z rest others) = ComeAndGo o m t w z (served finds writes config o p m t u w before rest) others
served finds writes config o p q t u v before (Somebody x m z f w y key old new rest is course so others) = Somebody o m z t w y key old new (served finds writes config o p m t u w before rest) is course so others

-- a talk that is as it was, one that has begun, and one that is gone
pub as_it_was : (old new : Option Talk) → new ≡ old → IfSome new (λ talk. (old ≡ Some talk) ⊎ IsFresh talk)
as_it_was old None e = tt
as_it_was old (Some talk) e = inl (sym e)

pub begun : (old new : Option Talk) (talk : Talk) → new ≡ Some talk → IsFresh talk → IfSome new (λ it. (old ≡ Some it) ⊎ IsFresh it)
begun old None talk e fresh = tt
begun old (Some it) talk e fresh = let same : talk ≡ it = cc in inr (subst IsFresh same fresh)

pub gone : (old new : Option Talk) → new ≡ None → IfSome new (λ it. (old ≡ Some it) ⊎ IsFresh it)
gone old None e = tt
gone old (Some it) e = absurd (cc)

-- what stands between is left out
between : (first mid last : Option Talk) → IfSome mid (λ it. (first ≡ Some it) ⊎ IsFresh it) → IfSome last (λ it. (mid ≡ Some it) ⊎ IsFresh it) → IfSome last (λ it. (first ≡ Some it) ⊎ IsFresh it)
between first mid None before after = tt
between first mid (Some it) before (inr fresh) = inr fresh
between first None (Some it) before (inl is) = absurd (cc)
between first (Some other) (Some it) (inr fresh) (inl is) = let same : other ≡ it = cc in inr (subst IsFresh same fresh)
between first (Some other) (Some it) (inl was) (inl is) = inl (was ∙ is)

pub of_these : (first mid last : ℕ → Option Talk) → AreOfThese first mid → AreOfThese mid last → AreOfThese first last
of_these first mid last before after = λ key. between (first key) (mid key) (last key) (before key) (after key)
