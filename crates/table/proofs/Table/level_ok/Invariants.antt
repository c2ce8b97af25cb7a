-- `table::Table::level_ok` meets its contract. The loop's invariant: every row passed may hold what it holds. Assumes nothing.
use Rattle.std.proofs.Common.{◌≡◌, ℕ, true, ◌-◌, ◌≤◌, ◌<◌}
use Rattle.table.specs.Table.{at}
use Rattle.table.specs.Check.{row_ok}
use Rattle.table.proofs.Table.level_ok.Given as goal

abbrev pub invariant-loop-j : goal.invariant-loop-j
invariant-loop-j l = (x : ℕ) → 1 ≤ x → x < l.j → row_ok l.self.cells.now (at l.self.capacity l.k (x - 1) x) l.k (l.held - x) ≡ true
