-- `day::add_all` meets its contract. The invariant: the trace holds i samples, the first i records. Assumes nothing.
use Rattle.std.proofs.Common.{◌≡◌}
use Rattle.sample.specs.Samples.{samples}
use Rattle.day.specs.Fill.{day_trace, Filled}
use Rattle.day.proofs.add_all.Given as goal

abbrev pub invariant-loop-i : goal.invariant-loop-i
invariant-loop-i l = (l.trace ≡ day_trace l.i) × Filled l.file l.i (samples l.xs l.ys l.marks) l.table
