-- `trace::Trace::admit` meets its contract: the two rows together are put's, and the change does the rest. Assumes nothing.
use native.Mathlib.Omega.{arith}
use Rattle.sample.specs.Samples.{samples}
use Rattle.checks.specs.Numbers.{PutNumber}
use Rattle.checks.proofs.Passed.{put_passed}
use Rattle.trace.specs.Calls.{sizes, buffers}
use Rattle.trace.proofs.Ready.{put_ready}
use Rattle.trace.proofs.Calls.{put_says, refused_gives, changed_gives}
use Rattle.trace.proofs.Trace.admit.Goals as goal
use Rattle.trace.proofs.Trace.admit.Goals.{In-Ok}

pub returns-in_default : goal.returns-in_default
returns-in_default c = refused_gives (put_says _ _ _ _ c.requires (rw c.sizes.ensures at c.sample_outcome-own.ensures) c.and-outcome.ensures) c.in_default.is

-- where it goes on, no check refuses
zero : (c : In-Ok) → let a = c.args in PutNumber (sizes a.self) (samples a.xs.now a.ys.now a.marks.now) a.table.now a.v a.sample 0
zero c =
    let a = c.args in
    rw c.in-Ok.is at (put_says a.self (buffers (samples a.xs.now a.ys.now a.marks.now) a.table.now) a.v a.sample c.requires (rw c.sizes.ensures at c.sample_outcome-own.ensures) c.and-outcome.ensures)

pub held_with-requires : goal.held_with-requires
held_with-requires c =
    let p = put_passed _ _ _ _ _ (zero (goal.at.held_with-requires c).In-Ok) in
    omega (arith, p.0.held, p.0.sized.3)

pub change-cells-requires : goal.change-cells-requires
change-cells-requires c = rw (c.sizes-2.ensures, c.holding-next.ensures, c.held_with.ensures) (put_ready _ _ _ _ _ (zero (goal.at.change-cells-requires c).In-Ok))

pub returns : goal.returns
returns c =
    rw (c.in-Ok.is, c.holding-next.ensures, c.held_with.ensures)
    (changed_gives {e = buffers (samples c.change-cells.new.xs c.change-cells.new.ys c.change-cells.new.marks) c.change-cells.new.table} (zero (goal.at.returns c).In-Ok)
    (rw (c.sizes-2.ensures, c.holding-next.ensures, c.held_with.ensures) at c.change-cells.ensures))
