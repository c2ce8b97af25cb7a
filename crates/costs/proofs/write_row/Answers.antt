-- `costs::write_row` meets its contract. The loop's invariant: the cells of the starts below i are written. Assumes nothing.
use Prim.Native.Nat.{◌<◌}
use native.Mathlib.Omega.{arith}
use lib.ListN.{length}
use Rattle.table.specs.Table.{at}
use Rattle.table.proofs.Address.{at_in}
use Rattle.costs.proofs.Rows.{row_more}
use Rattle.costs.proofs.write_row.Goals as goal
use Rattle.costs.proofs.write_row.Goals.{After-cell_at-a}

-- the cell's address is in the table
in_table : (c : After-cell_at-a) → let a = c.args in at a.cap a.k c.loop-i.i a.j < length c.loop-i.table
in_table c = at_in _ _ _ _ _ (omega arith) (omega arith) (omega arith) (rw c.loop-i.invariant.0.same c.requires.cap_in_bounds)

pub loop-i-preserved : goal.loop-i-preserved
loop-i-preserved c =
    let d = c.loop-i.invariant in
    (rw c.cell_at-a.ensures.0 (row_more _ _ _ _ (omega arith) (omega arith) _ _ c.loop-i.i _ d.0 (omega arith) (in_table (goal.at.loop-i-preserved c).After-cell_at-a) c.price.ensures), omega arith)
