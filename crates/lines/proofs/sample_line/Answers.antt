-- `lines::sample_line` meets its contract: a coordinate is read back from its bits. Assumes nothing.
use Rattle.std.proofs.Common.{to_z-of_z}
use Rattle.text.proofs.Written.{writes_more}
use Rattle.lines.proofs.sample_line.Goals as goal

pub returns : goal.returns
returns c =
    let x = rw (to_z-of_z c.ranges.x) at c.coordinate.ensures in
    let y = rw (to_z-of_z c.ranges.y) at c.coordinate-2.ensures in
    writes_more (writes_more (writes_more (writes_more c.number.ensures x) y) c.labelled.ensures) c.byte.ensures
