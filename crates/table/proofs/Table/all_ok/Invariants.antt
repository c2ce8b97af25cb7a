-- `table::Table::all_ok` meets its contract. The loop's invariant: every level passed may hold what it holds. Assumes nothing.
use Rattle.std.proofs.Common.{◌≡◌, ℕ, true, ◌≤◌, ◌<◌}
use Rattle.table.specs.Check.{level_ok}
use Rattle.table.proofs.Table.all_ok.Given as goal

abbrev pub invariant-loop-k : goal.invariant-loop-k
invariant-loop-k l = (x : ℕ) → 1 ≤ x → x < l.k → level_ok l.self.cells.now l.self.capacity l.held x ≡ true
