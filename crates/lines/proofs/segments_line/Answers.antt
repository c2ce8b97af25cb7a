-- `lines::segments_line` meets its contract: one text after another. Assumes nothing.
use Rattle.text.proofs.Written.{writes_more}
use Rattle.lines.proofs.segments_line.Goals as goal

pub returns : goal.returns
returns c = writes_more (writes_more (writes_more (writes_more c.labelled.ensures c.labelled-2.ensures) c.labelled-3.ensures) c.labelled-4.ensures) c.byte.ensures
