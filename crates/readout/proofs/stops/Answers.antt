-- `readout::stops` meets its contract. Assumes nothing.
use Rattle.std.proofs.Common.{rules}
use Rattle.readout.proofs.stops.Goals as goal

pub loop-x-preserved : goal.loop-x-preserved
loop-x-preserved c = search rules
