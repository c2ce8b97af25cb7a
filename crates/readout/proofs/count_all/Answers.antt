-- `readout::count_all` meets its contract. Assumes nothing.
use Rattle.std.proofs.Common.{refl, arith}
use Rattle.table.proofs.Stops.{zeros}
use Rattle.readout.proofs.Count.{counted_none, counted_more}
use Rattle.readout.proofs.count_all.Goals as goal

pub loop-l-init : goal.loop-l-init
loop-l-init c = (counted_none _ _ _ refl (λ x. zeros 16 x), omega arith)

pub loop-l-preserved : goal.loop-l-preserved
loop-l-preserved c = (counted_more _ _ _ _ _ _ (omega (arith, c.loop-l.invariant.0.room)) c.count_level-count.ensures.0 c.loop-l.invariant.0, omega arith)
