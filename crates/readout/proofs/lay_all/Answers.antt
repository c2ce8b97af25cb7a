-- `readout::lay_all` meets its contract. Assumes nothing.
use Rattle.std.proofs.Common.{◌∙◌, arith}
use Rattle.readout.specs.Read.{rank}
use Rattle.readout.proofs.Down.{down_more}
use Rattle.readout.proofs.lay_all.Goals as goal

pub loop-k-preserved : goal.loop-k-preserved
loop-k-preserved c =
    let l = c.lay_level in
    let v = c.loop-k.invariant in
    (down_more _ _ _ (omega arith) (omega arith) _ _ (rank c.loop-k.ranks) _ (omega arith) (omega arith) v.0 (rw v.1 at l.ensures), l.auto.ranks ∙ v.1)
