-- `text::Text::bytes` meets its contract: as much of the text as there is room for stands in its place. Assumes nothing.
use Rattle.std.proofs.Common.{refl, arith}
use Rattle.text.proofs.Written.{written_text}
use Rattle.text.proofs.Text.bytes.Goals as goal

pub returns : goal.returns
returns c = record { same_buffer = refl; written = written_text _ _ c.args.text.now _ _ _ (omega arith) c.min-n.ensures (omega arith) c.copy_from_slice.ensures.after }
