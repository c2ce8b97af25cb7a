-- `text::Text::labelled` meets its contract: one text after another. Assumes nothing.
use Rattle.text.proofs.Written.{writes_more}
use Rattle.text.proofs.Text.labelled.Goals as goal

pub returns : goal.returns
returns c = writes_more c.bytes.ensures c.number.ensures
