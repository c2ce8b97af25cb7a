-- `readout::stops` meets its contract. The loop's invariant: the scan down to x. Assumes nothing.
use lib.ListN.{length}
use Rattle.table.specs.Table.{costs}
use Rattle.readout.specs.Read.{rank}
use Rattle.readout.proofs.Scan.{Scan}
use Rattle.readout.proofs.stops.Given as goal

abbrev pub invariant-loop-x : goal.invariant-loop-x
invariant-loop-x l = Scan (costs l.table l.k) (rank l.ranks) l.k (length l.ranks) l.x l.j l.sums l.to
