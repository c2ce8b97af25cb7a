-- `lines::refused_line` meets its contract: one text after another, with the number that `number` gives. Assumes nothing.
use Rattle.std.proofs.Common.{rules}
use Rattle.text.proofs.Written.{writes_more}
use Rattle.lines.proofs.refused_line.Goals as goal

pub returns : goal.returns
returns c = let w = rw c.number.ensures at (writes_more c.labelled.ensures c.byte.ensures).written in search rules
