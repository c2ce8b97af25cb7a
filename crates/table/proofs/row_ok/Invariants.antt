-- `table::row_ok` meets its contract. The loop's invariant: whether no cell passed is bad, and the most that the last may be. Assumes nothing.
use Rattle.std.proofs.Common.{◌≡◌, ◌+◌, ◌-◌, ◌*◌}
use Rattle.table.proofs.Check.{so_far}
use Rattle.table.proofs.row_ok.Given as goal

abbrev pub invariant-loop-cost : goal.invariant-loop-cost
invariant-loop-cost l = (l.most ≡ 1 + (l.k - 1) * l.cost-index) × (l.ok ≡ so_far l.row l.k l.cost-index)
