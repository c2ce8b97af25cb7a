-- `readout::read` meets its contract. Assumes nothing.
use Rattle.std.proofs.Common.{arith}
use Rattle.readout.proofs.Unique.{read_part}
use Rattle.readout.proofs.read.Goals as goal

pub returns : goal.returns
returns c = read_part _ _ _ _ _ c.lay_all.new.ranks _ _ (omega arith) (omega arith) c.lay_all.ensures c.count_all.ensures
