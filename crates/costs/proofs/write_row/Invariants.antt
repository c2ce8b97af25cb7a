-- `costs::write_row` meets its contract. The loop's invariant: the cells of the starts below i are written. Assumes nothing.
use mathlib.Core.Path.{◌≡◌}
use lib.ListN.{get_or}
use Rattle.table.specs.Table.{Wrote}
use Rattle.costs.specs.Walk.{Row, price}
use Rattle.costs.proofs.write_row.Given as goal

abbrev pub invariant-loop-i : goal.invariant-loop-i
invariant-loop-i l =
    let a = l.fn in
    Wrote a.cap (Row a.k a.j l.i) (λ k' i' j'. price k' (get_or a.finest i' 0) (get_or a.sums i' 0)) a.table l.table × (l.count ≡ l.i)
