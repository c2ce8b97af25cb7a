-- `lines::pause_line` meets its contract: one text after another. Assumes nothing.
use Rattle.text.proofs.Written.{writes_more}
use Rattle.lines.proofs.pause_line.Goals as goal

pub returns : goal.returns
returns c = writes_more c.labelled.ensures c.byte.ensures
