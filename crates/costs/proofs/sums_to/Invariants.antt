-- `costs::sums_to` meets its contract. The loop's invariant: the sums from p on. Assumes nothing.
use mathlib.Core.Path.{◌≡◌}
use Prim.Native.Nat.{ℕ, ◌≤◌}
use lib.ListN.{length, get_or}
use Rattle.table.specs.Table.{costs}
use Rattle.table.specs.Path.{SumAt}
use Rattle.costs.proofs.sums_to.Given as goal

abbrev pub invariant-loop-p : goal.invariant-loop-p
invariant-loop-p l = ((q : ℕ) → l.p ≤ q → q ≤ l.fn.j → SumAt (costs l.fn.table l.fn.k) q l.fn.j (get_or l.sums q 0)) × (length l.sums ≡ 256)
