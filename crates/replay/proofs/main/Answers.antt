-- `replay::main` is safe and ends. The length of the cells is by a law, since so long a list is not computed. Assumes nothing.
use mathlib.Core.Path.{sym}
use lib.ListN.{length-replicate}
use Rattle.std.proofs.Common.{ℕ}
use Rattle.replay.proofs.main.Goals as goal

pub slice_bounds-run-end : goal.slice_bounds-run-end
slice_bounds-run-end c = sym (length-replicate {0} {A = ℕ} 1048576 0)
