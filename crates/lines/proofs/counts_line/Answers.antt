-- `lines::counts_line` meets its contract: one text after another. Assumes nothing.
use Rattle.text.proofs.Written.{writes_more}
use Rattle.lines.proofs.Held.{three}
use Rattle.lines.proofs.counts_line.Goals as goal

pub returns : goal.returns
returns c = writes_more c.labelled.ensures (writes_more (rw three at c.labelled-2.ensures) c.byte.ensures)
