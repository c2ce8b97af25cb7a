-- `lines::sample_lines` meets its contract. The invariant: the lines of the first i samples are written. Assumes nothing.
use Rattle.text.specs.Writes.{Writes}
use Rattle.lines.specs.Held.{held_lines}
use Rattle.lines.proofs.sample_lines.Given as goal

abbrev pub invariant-loop-i : goal.invariant-loop-i
invariant-loop-i l = Writes l.fn.text (held_lines l.xs l.ys l.ranks l.i) l.text
