-- `trace::Trace::upload` meets its contract. Assumes nothing.
use mathlib.Core.Path.{refl}
use Prim.Native.Nat.{◌<◌}
use lib.ListN.{length}
use Rattle.sample.specs.Samples.{samples, lent}
use Rattle.trace.specs.Calls.{sizes, buffers}
use Rattle.checks.specs.Numbers.{OneLength}
use Rattle.checks.specs.Rows.{Passed, PassedTable}
use Rattle.trace.proofs.Upload.{upload_stopped, upload_ready}
use Rattle.trace.proofs.Trace.upload.Goals as goal
use Rattle.trace.proofs.Trace.upload.Goals.{In-Ok}

pub returns-in_default : goal.returns-in_default
returns-in_default c =
    let a = c.args in
    rw c.in_default.is
    (upload_stopped a.self (buffers (samples a.xs.now a.ys.now a.marks.now) a.table.now) (lent a.lists)
    (rw (c.upload_outcome-stop.ensures, c.sizes.ensures, c.lengths_of.ensures) at c.in_default.is))

ready : (c : In-Ok) → let a = c.args in OneLength (lent a.lists) × (0 < length a.lists.across.now → Passed (sizes a.self) (samples a.xs.now a.ys.now a.marks.now) × PassedTable (sizes a.self) a.table.now)
ready c =
    let a = c.args in
    upload_ready a.self (buffers (samples a.xs.now a.ys.now a.marks.now) a.table.now) (lent a.lists)
    (rw (c.upload_outcome-stop.ensures, c.sizes.ensures, c.lengths_of.ensures) at c.in-Ok.is)

pub add_each-requires : goal.add_each-requires
add_each-requires c = ready (goal.at.add_each-requires c).In-Ok

pub returns : goal.returns
returns c = record {
  unequal = λ n. absurd (n (ready (goal.at.returns c).In-Ok).0);
  puts = λ h. c.add_each.ensures;
  lists = refl;
}
