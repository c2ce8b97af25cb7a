-- `costs::rests` meets its contract. Assumes nothing.
use mathlib.Core.Path.{◌∙◌}
use Prim.Native.Nat.{◌-◌}
use native.Mathlib.Omega.{arith}
use Rattle.family.specs.Family.{below}
use Rattle.table.proofs.Stops.{zeros}
use Rattle.costs.proofs.Sums.{below_is}
use Rattle.costs.proofs.rests.Goals as goal

pub returns-then-k-eq1 : goal.returns-then-k-eq1
unfolding below
returns-then-k-eq1 c = λ q h. rw c.if-k-eq1.true (zeros 256 q)

pub returns : goal.returns
returns c =
    λ q h.
    let a = c.args in
    (c.sums_to.ensures q h).is ∙ below_is _ (a.k - 1) q a.j (omega arith)
