-- `lines::coordinate` meets its contract: it is read back from its bits. Assumes nothing.
use Rattle.std.proofs.Common.{to_z-of_z}
use Rattle.text.proofs.Written.{writes_more}
use Rattle.lines.proofs.coordinate.Goals as goal

pub returns : goal.returns
returns c = writes_more c.byte.ensures (rw (to_z-of_z c.ranges.z) at c.signed.ensures)
