-- `dayline::main` meets its contract: the bytes that are written are those that were reported. Assumes nothing.
use Rattle.std.proofs.Common.{take, arith}
use Rattle.day.specs.Day.{DayText}
use Rattle.day.proofs.Day.{whole_text}
use Rattle.dayline.proofs.main.Goals.{After-report-k}

-- at the write, the bytes lent to it are the whole text of the bytes that were read
pub printed : (c : After-report-k) → DayText (take c.read_full-n.result c.read_full-n.new.buf) (take c.report-k.result c.report-k.new.out)
printed c = whole_text (omega arith) c.report-k.ensures.reported
