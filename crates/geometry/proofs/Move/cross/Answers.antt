-- `geometry::Move::cross` meets its contract. Assumes nothing.
use Rattle.geometry.proofs.Ways.{cross_fits, cross_back}
use Rattle.geometry.proofs.Move.cross.Goals as goal

pub overflow_sub-result : goal.overflow_sub-result
overflow_sub-result c = cross_fits c.args.other.in_range c.args.self.in_range

pub returns : goal.returns
returns c = cross_back c.args.other.in_range c.args.self.in_range
