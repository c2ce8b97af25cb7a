-- `text::Text::number` meets its contract: the digits that `io::decimal` gives are the decimal. Assumes nothing.
use Rattle.std.proofs.Common.{◌∙◌, arith}
use Rattle.text.proofs.Written.{writes_as}
use Rattle.text.proofs.Decimal.{fewest_decimal}
use Rattle.text.proofs.Text.number.Goals as goal

pub returns : goal.returns
returns c = let d = c.decimal-k.ensures in writes_as c.bytes.ensures _ (d.digits ∙ fewest_decimal _ _ (omega arith) d.len)
