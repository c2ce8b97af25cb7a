-- `pause::records_outcome` meets its contract. The loop's invariant: no record passed is refused. Assumes nothing.
use Rattle.std.proofs.Common.{◌≡◌}
use Rattle.std.specs.Prelude.{Ok}
use Rattle.pause.specs.Pause.{records_outcome}
use Rattle.pause.proofs.records_outcome.Given as goal

abbrev pub invariant-loop-i : goal.invariant-loop-i
invariant-loop-i l = records_outcome l.s l.i ≡ Ok tt
