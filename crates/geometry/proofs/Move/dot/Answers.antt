-- `geometry::Move::dot` meets its contract. Assumes nothing.
use Rattle.geometry.proofs.Ways.{dot_fits, dot_back}
use Rattle.geometry.proofs.Move.dot.Goals as goal

pub overflow_add-result : goal.overflow_add-result
overflow_add-result c = dot_fits c.args.other.in_range c.args.self.in_range

pub returns : goal.returns
returns c = dot_back c.args.other.in_range c.args.self.in_range
