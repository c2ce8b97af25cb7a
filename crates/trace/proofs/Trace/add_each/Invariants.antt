-- `trace::Trace::add_each` meets its contract. The invariant: i samples are on their way. Assumes nothing.
use Rattle.sample.specs.Samples.{samples}
use Rattle.trace.specs.Calls.{buffers}
use Rattle.trace.specs.Upload.{zipped}
use Rattle.trace.proofs.Upload.{Underway}
use Rattle.trace.proofs.Trace.add_each.Given as goal

abbrev pub invariant-loop-i : goal.invariant-loop-i
invariant-loop-i l =
    Underway l.fn.self (buffers (samples l.fn.xs l.fn.ys l.fn.marks) l.fn.table) (zipped l.lists.across.now l.lists.up.now l.lists.marks.now) l.i l.cells l.trace (buffers (samples l.xs l.ys l.marks) l.table)
