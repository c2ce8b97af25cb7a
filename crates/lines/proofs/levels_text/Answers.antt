-- `lines::levels_text` meets its contract: one line, or some, after another. Assumes nothing.
use Rattle.std.proofs.Common.{rules}
use Rattle.text.proofs.Written.{writes_more}
use Rattle.lines.proofs.levels_text.Goals as goal

pub returns : goal.returns
returns c =
    let w = (writes_more (writes_more (writes_more c.counts_line.ensures c.sample_lines.ensures) c.segments_line.ensures) c.pause_line.ensures).written in
    search rules
