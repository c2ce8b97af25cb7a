-- `geometry::Segment::near` meets its contract: its one comparison decides. Assumes nothing.
use Rattle.geometry.proofs.Decide.{distance_decides}
use Rattle.geometry.proofs.Segment.near.Goals as goal

pub returns : goal.returns
returns c = rw c.distance-d.ensures (distance_decides _ _ _ _ c.args.reach)
