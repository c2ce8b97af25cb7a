-- `costs::sums_to` meets its contract. The loop's invariant: the sums from p on. Assumes nothing.
use mathlib.Core.Path.{refl}
use Prim.Native.Nat.{◌-◌, ◌≤◌}
use native.Mathlib.Omega.{arith}
use lib.ListN.{length-set}
use Rattle.table.specs.Table.{costs}
use Rattle.table.specs.Path.{SumAt}
use Rattle.algebra.proofs.Fill.{filled}
use Rattle.table.proofs.Stops.{zeros}
use Rattle.costs.proofs.Sums.{sums_end}
use Rattle.costs.proofs.sums_to.Goals as goal

pub loop-p-init : goal.loop-p-init
loop-p-init c = (λ q a b. sums_end _ c.args.j q (omega arith) _ (zeros 256 q), refl)

pub loop-p-preserved : goal.loop-p-preserved
loop-p-preserved c =
    let a = c.args in
    let d = c.loop-p.invariant in (
      filled (λ q s. SumAt (costs a.table a.k) q a.j s) (λ q. q ≤ a.j) c.loop-p.sums (c.loop-p.p - 1) _ (omega arith) c.least_sum.ensures (λ q x y. d.0 q (omega arith) y),
      simp length-set d.1,
    )
