-- `day::add_all` meets its contract: a record more is added, or there is no room for it. Assumes nothing.
use Rattle.std.proofs.Common.{arith}
use Rattle.std.proofs.lemmas.Result.{err_from_is_err_and}
use Rattle.sample.specs.Samples.{samples}
use Rattle.day.proofs.Filled.{filled_more, all_refused}
use Rattle.day.proofs.add_all.Goals as goal

pub returns-in_err-added : goal.returns-in_err-added
returns-in_err-added c =
    let n = c.put-added.new in
    let i = c.loop-i.invariant in
    let p = err_from_is_err_and c.from_residual.result c.from_residual.ensures.1 in
    rw (p.1, p.2) (all_refused _ c.requires.0 _ i.1 (omega arith) {xs' = samples n.xs n.ys n.marks} i.0 c.sample_of.ensures.value c.put-added.ensures _ c.in_err-added.was)

pub loop-i-preserved : goal.loop-i-preserved
loop-i-preserved c =
    let n = c.put-added.new in
    let i = c.loop-i.invariant in
    filled_more _ c.requires.0 _ i.1 (omega arith) {xs' = samples n.xs n.ys n.marks} i.0 c.sample_of.ensures.value c.put-added.ensures c.in_ok-added.was
