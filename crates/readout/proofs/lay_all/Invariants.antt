-- `readout::lay_all` meets its contract. The loop's invariant: the levels above k are laid. Assumes nothing.
use mathlib.Core.Path.{◌≡◌}
use lib.ListN.{length}
use Rattle.table.specs.Table.{costs}
use Rattle.readout.specs.Read.{rank}
use Rattle.readout.proofs.Down.{Down}
use Rattle.readout.proofs.lay_all.Given as goal

abbrev pub invariant-loop-k : goal.invariant-loop-k
invariant-loop-k l = Down (costs l.table) l.m (length l.initial.ranks) l.k (rank l.initial.ranks) (rank l.ranks) × (length l.ranks ≡ length l.initial.ranks)
