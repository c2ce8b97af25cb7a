-- `sizes::tolerances_ok` meets its contract. The invariant: every tolerance passed is right, `least` one more than the last. Assumes nothing.
use mathlib.Core.Path.{◌≡◌}
use Prim.Native.Nat.{◌+◌}
use lib.ListN.{length}
use Rattle.refusal.proofs.Laws.{Passed}
use Rattle.sizes.specs.Rows.{before, tolerance_ok}
use Rattle.sizes.proofs.tolerances_ok.Given as goal

abbrev pub invariant-loop-e : goal.invariant-loop-e
invariant-loop-e l = Passed (length l.tolerances) (tolerance_ok l.tolerances) l.e-index × (l.least ≡ before l.tolerances l.e-index + 1)
