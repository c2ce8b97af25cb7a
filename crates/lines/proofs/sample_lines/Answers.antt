-- `lines::sample_lines` meets its contract: no line is `held_none`, and a line more `line_more`. Assumes nothing.
use Rattle.std.proofs.Common.{rules}
use Rattle.text.proofs.Written.{writes_none}
use Rattle.lines.proofs.Held.{held_none, line_more}
use Rattle.lines.proofs.sample_lines.Goals as goal

pub loop-i-init : goal.loop-i-init
loop-i-init c = rw (held_none _ _ _) (writes_none _)

pub loop-i-preserved : goal.loop-i-preserved
loop-i-preserved c = let a = c.args in line_more a.xs.now a.ys.now a.ranks.now _ c.loop-i.invariant c.sample_line.ensures (search rules)
