use Rattle.std.proofs.Common.{ℕ, ◌<◌, Decides}
use Rattle.session.specs.Models.{lists_of}
use Rattle.holdings.specs.Giving.{Lent}
use Rattle.holdings.specs.Rows.{has, can}
use Rattle.holdings.proofs.carried.of_roles.Given as goal

-- the roles before x are done
abbrev pub invariant-loop-x : goal.invariant-loop-x
invariant-loop-x l = record {
  holds : (q k e : ℕ) → k < 7 → Decides (has l.all q k e) (Lent (lists_of l.model) (has l.own) l.x q k e);
  grants : (q k e : ℕ) → k < 7 → Decides (can l.all q k e) (Lent (lists_of l.model) (can l.own) l.x q k e);
}
