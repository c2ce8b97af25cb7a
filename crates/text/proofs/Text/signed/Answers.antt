-- `text::Text::signed` meets its contract: a negative number is a minus and the decimal of its magnitude. Assumes nothing.
use Rattle.std.proofs.Common.{to_z-of_z}
use Rattle.text.proofs.Written.{writes_more}
use Rattle.text.proofs.Size.{negative_text, positive_text}
use Rattle.text.proofs.Text.signed.Goals as goal
use Rattle.text.proofs.Text.signed.Goals.{then-z-lt0, else-z-lt0}

pub returns : goal.returns
returns c =
    let b = to_z-of_z c.ranges.z in
    let m = rw b at c.magnitude.ensures.0 in
    elim c.if-z-lt0.branch [
      | then-z-lt0 w ↦ rw (negative_text _ (rw b at w.if-z-lt0.true)) (writes_more w.byte.ensures (rw (w.self-is, m) at c.number.ensures))
      | else-z-lt0 w ↦ rw (positive_text _ (rw b at w.if-z-lt0.false)) (rw (w.self-is, m) at c.number.ensures)
    ]
