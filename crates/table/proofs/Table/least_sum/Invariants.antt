-- `table::Table::least_sum` meets its contract. The loop's invariant: the lesser of the step to j and of the stops below x. Assumes nothing.
use Rattle.table.specs.Table.{costs}
use Rattle.table.proofs.Stops.{Lesser}
use Rattle.table.proofs.Table.least_sum.Given as goal

abbrev pub invariant-loop-x : goal.invariant-loop-x
invariant-loop-x l = Lesser (costs l.self l.k) l.p l.j l.x l.sum
