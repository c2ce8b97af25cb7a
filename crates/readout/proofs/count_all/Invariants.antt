-- `readout::count_all` meets its contract. The loop's invariant: the first l levels are counted. Assumes nothing.
use lib.ListN.{length}
use Prim.Native.Nat.{◌*◌, ◌≤◌}
use Rattle.readout.specs.Read.{rank}
use Rattle.readout.specs.Lay.{Counted}
use Rattle.readout.proofs.count_all.Given as goal

abbrev pub invariant-loop-l : goal.invariant-loop-l
invariant-loop-l l = Counted (rank l.ranks) l.l (length l.ranks) l.per l.total × (l.total ≤ 255 * l.l)
