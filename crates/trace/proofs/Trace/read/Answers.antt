-- `trace::Trace::read` meets its contract. Assumes nothing.
use mathlib.Core.Path.{◌≡◌, refl}
use mathlib.Core.List.{List}
use Prim.Native.Nat.{ℕ, ◌≤◌}
use native.Mathlib.Omega.{arith}
use lib.ListN.{length}
use Rattle.refusal.specs.Number.{Outcome, code}
use Rattle.sample.specs.Samples.{Samples, lent}
use Rattle.sizes.specs.declared.Sizes.{Sizes}
use Rattle.checks.specs.Numbers.{ReadNumber}
use Rattle.checks.proofs.Numbers.{read_number}
use Rattle.checks.specs.Rows.{read_outcome, Passed, PassedTable}
use Rattle.checks.proofs.Passed.{read_passed}
use Rattle.readout.proofs.Meaning.{read_ranks}
use Rattle.trace.proofs.Calls.{done_refused}
use Rattle.trace.specs.declared.Trace.{Trace}
use Rattle.trace.specs.Calls.{sizes}
use Rattle.trace.proofs.Trace.read.Goals as goal
use Rattle.trace.proofs.Trace.read.Goals.{In-Ok}

-- what the checks say is a number of the paper
said : (a : Trace) (xs : Samples) (t ranks : List ℕ) {s : Sizes} {o : Outcome} → s ≡ sizes a → o ≡ read_outcome s xs t (length ranks) → ReadNumber (sizes a) xs t ranks (code o)
said a xs t ranks e f = rw (f, e) (read_number (sizes a) xs t ranks)

pub returns-in_default : goal.returns-in_default
returns-in_default c = record {
  number = said _ _ _ _ c.sizes.ensures c.read_outcome-outcome.ensures;
  done = λ d. done_refused d c.in_default.is;
  refused = λ w g. record { kept = refl; segments = refl; total = refl };
  lent = refl;
}

-- where it goes on, none refuses
passed : (c : In-Ok) → let a = c.args in Passed (sizes a.self) (lent a.samples) × PassedTable (sizes a.self) a.table.now × (a.self.held ≤ length a.ranks.now) × (2 ≤ a.self.held)
passed c =
    let a = c.args in
    read_passed _ _ _ a.ranks.now (rw c.in-Ok.is at (said a.self (lent a.samples) a.table.now a.ranks.now c.sizes.ensures c.read_outcome-outcome.ensures))

pub read-total-requires : goal.read-total-requires
read-total-requires c =
    let p = passed (goal.at.read-total-requires c).In-Ok in
    let z = p.0.sized in
    record { le_m = (z.0, z.1, z.3, p.3, p.0.held); cap_in_bounds = (p.1.room, p.2) }

pub returns : goal.returns
returns c =
    let p = passed (goal.at.returns c).In-Ok in
    let z = p.0.sized in
    let h = p.0.held in
    record {
      number = said _ _ _ _ c.sizes.ensures c.read_outcome-outcome.ensures;
      done = λ o. read_ranks _ _ _ _ z.0 z.1 (omega arith) (omega arith) p.1.cells _ _ _ _ c.read-total.ensures;
      refused = λ w g. done_refused c.in-Ok.is g;
      lent = refl;
    }
