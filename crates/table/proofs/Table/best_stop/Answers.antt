-- `table::Table::best_stop` meets its contract. Assumes nothing.
use Rattle.std.proofs.Common.{◌-◌, arith}
use Rattle.table.proofs.Stops.{found_last, found_take, found_skip, found_all}
use Rattle.table.proofs.Table.best_stop.Goals as goal

pub loop-x-init : goal.loop-x-init
loop-x-init c = found_last (omega arith) c.cost_at-sum.ensures.0 c.cost_at-sum.ensures.1

pub loop-x-preserved-then-by-sum : goal.loop-x-preserved-then-by-sum
loop-x-preserved-then-by-sum c =
    let rest = c.requires.by_index (c.loop-x.x - 1) (omega arith) (omega arith) in
    found_take (omega arith) (omega arith) c.loop-x.invariant rest (rw c.cost_at.ensures.0) c.if-by-sum.true

pub loop-x-preserved : goal.loop-x-preserved
loop-x-preserved c =
    let rest = c.requires.by_index (c.loop-x.x - 1) (omega arith) (omega arith) in
    found_skip (omega arith) (omega arith) c.loop-x.invariant rest (rw c.cost_at.ensures.0) c.if-by-sum.false

pub returns : goal.returns
returns c = found_all (omega arith) (omega arith) c.loop-x.invariant
