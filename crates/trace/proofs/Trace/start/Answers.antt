-- `trace::Trace::start` meets its contract. Assumes nothing.
use mathlib.Core.Path.{refl}
use native.Mathlib.Omega.{arith}
use Rattle.refusal.specs.Number.{code}
use Rattle.checks.specs.Numbers.{StartNumber}
use Rattle.checks.proofs.Numbers.{start_number}
use Rattle.checks.proofs.Passed.{start_passed}
use Rattle.trace.proofs.Calls.{done_refused}
use Rattle.trace.proofs.Trace.start.Goals as goal
use Rattle.trace.proofs.Trace.start.Goals.{After-setup_outcome-outcome}

number : (c : After-setup_outcome-outcome) → let a = c.args in StartNumber a.levels a.capacity a.tolerances (code c.setup_outcome-outcome.result)
number c = rw c.setup_outcome-outcome.ensures (start_number _ _ _)

pub returns-in_default : goal.returns-in_default
returns-in_default c = record {
  number = number (goal.at.returns-in_default c).After-setup_outcome-outcome;
  done = λ d. done_refused d c.in_default.is;
  refused = λ w g. refl;
}

pub keep-requires : goal.keep-requires
keep-requires c =
    let p = start_passed _ _ _ (rw c.in-Ok.is at (number (goal.at.keep-requires c).After-setup_outcome-outcome)) in
    omega (arith, p.0)

pub returns : goal.returns
returns c = record {
  number = number (goal.at.returns c).After-setup_outcome-outcome;
  done = λ d. rw c.keep.ensures refl;
  refused = λ w g. done_refused c.in-Ok.is g;
}
