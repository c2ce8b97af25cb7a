-- `readout::lay_level` meets its contract. The loop's invariant: the level is laid up to p. Assumes nothing.
use mathlib.Core.Path.{◌≡◌}
use Prim.Native.Nat.{◌-◌}
use lib.ListN.{length}
use Rattle.table.specs.Table.{costs}
use Rattle.readout.specs.Read.{rank}
use Rattle.readout.specs.Lay.{Laying}
use Rattle.readout.proofs.lay_level.Given as goal

abbrev pub invariant-loop-p : goal.invariant-loop-p
invariant-loop-p l = Laying (costs l.table l.k) l.k (length l.initial.ranks) l.p (rank l.initial.ranks) (rank l.ranks) × (length l.ranks ≡ length l.initial.ranks)

abbrev pub decreases-loop-p : goal.decreases-loop-p
decreases-loop-p l = length l.initial.ranks - l.p
