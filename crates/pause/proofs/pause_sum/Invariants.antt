-- `pause::pause_sum` meets its contract. The loop's invariant: the sum so far, at most 4,294,967,295 a record. Assumes nothing.
use Rattle.std.proofs.Common.{◌≡◌, ◌*◌, ◌≤◌}
use Rattle.pause.specs.Pause.{pause_sum}
use Rattle.pause.proofs.pause_sum.Given as goal

abbrev pub invariant-loop-i : goal.invariant-loop-i
invariant-loop-i l = (l.sum ≡ pause_sum l.s l.i) × (l.sum ≤ 4294967295 * l.i)
