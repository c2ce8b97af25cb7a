-- `table::Table::best_stop` meets its contract. The loop's invariant: the best of the stops from x on. Assumes nothing.
use Rattle.table.specs.Table.{costs}
use Rattle.table.proofs.Stops.{Found}
use Rattle.table.proofs.Table.best_stop.Given as goal

abbrev pub invariant-loop-x : goal.invariant-loop-x
invariant-loop-x l = Found (costs l.self l.k) l.p l.j l.x l.sum l.to
