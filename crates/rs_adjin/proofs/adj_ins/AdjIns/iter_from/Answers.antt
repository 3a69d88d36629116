use Rattle.std.proofs.Common.{◌≡◌, sym, subst, List, ℕ, Some}
use Rattle.std.specs.Prelude.{All, Contains}
use Rattle.std.specs.Map.{keys_of}
use Rattle.rs_octets.specs.Prefixes.{Prefix}
use Rattle.rs_adjin.specs.Numbers.{number_in}
use Rattle.rs_adjin.specs.AdjIns.{held_of, number_of}
use Rattle.rs_adjin.proofs.Listed.{held_number}
use Rattle.rs_adjin.proofs.adj_ins.AdjIns.iter_from.Goals as goal

pub returns-clause-numbers : goal.returns-clause-numbers
unfolding number_of
returns-clause-numbers c = subst (λ (es : List (Prefix × ℕ)). All (λ e. number_in c.args.self.now.table e.0 ≡ Some e.1) es) (sym c.new.ensures) c.iter_from.ensures.numbers

pub returns-clause-each : goal.returns-clause-each
unfolding number_of
returns-clause-each c p = (
  λ h. (c.iter_from.ensures.all p).0 (subst (λ (es : List (Prefix × ℕ)). Contains (keys_of es) p) c.new.ensures h),
  λ h. subst (λ (es : List (Prefix × ℕ)). Contains (keys_of es) p) (sym c.new.ensures) ((c.iter_from.ensures.all p).1 h),
)

pub returns-clause-all : goal.returns-clause-all
unfolding held_of
returns-clause-all c d p f h = subst (λ (es : List (Prefix × ℕ)). Contains (keys_of es) p) (sym c.new.ensures) ((c.iter_from.ensures.all p).1 (f, held_number d c.args.self.now.table p h))
