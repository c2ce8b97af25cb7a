-- `costs::write_rows` meets its contract. The loop's invariant: the rows of the levels below k are written. Assumes nothing.
use mathlib.Core.Path.{◌≡◌}
use Prim.Native.Nat.{◌+◌, ◌-◌, ◌*◌}
use Rattle.costs.specs.Walk.{Rewritten, Rows, from_finest}
use Rattle.costs.proofs.write_rows.Given as goal

abbrev pub invariant-loop-k : goal.invariant-loop-k
invariant-loop-k l =
    let a = l.fn in
    Rewritten a.s.capacity (from_finest a.finest) (Rows (l.k - 1) a.j a.top) a.table l.table × (l.count + a.top ≡ l.k * a.top)
