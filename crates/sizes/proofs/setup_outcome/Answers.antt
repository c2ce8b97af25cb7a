-- `sizes::setup_outcome` meets its contract: where the setup passed, m tolerances are there. Assumes nothing.
use mathlib.Core.Path.{sym, ◌∙◌}
use Prim.Native.Nat.{◌≤◌}
use native.Mathlib.Omega.{arith}
use lib.ListN.{length}
use lib.Seq.{length-take-le}
use Rattle.refusal.proofs.Laws.{unless_done}
use Rattle.sizes.specs.Rows.{setup_outcome}
use Rattle.sizes.proofs.Decided.{setup_decided, tolerances_taken}
use Rattle.sizes.proofs.setup_outcome.Goals as goal
use Rattle.sizes.proofs.setup_outcome.Goals.{In_ok-unless}

there : (c : In_ok-unless) → c.args.m ≤ length c.args.tolerances
there c =
    let r = (setup_decided _ _).right (sym c.setup_ok.ensures ∙ unless_done _ _ (sym c.unless.ensures ∙ c.in_ok-unless.was)) in
    omega (arith, r.1)

pub slice_bounds-tolerances-end : goal.slice_bounds-tolerances-end
slice_bounds-tolerances-end c = there (goal.at.slice_bounds-tolerances-end c).In_ok-unless

pub slice_bounds-tolerances_ok-end : goal.slice_bounds-tolerances_ok-end
slice_bounds-tolerances_ok-end c = sym (length-take-le _ _ (there (goal.at.slice_bounds-tolerances_ok-end c).In_ok-unless))

pub returns : goal.returns
unfolding setup_outcome
returns c =
    let t = tolerances_taken _ _ (there (goal.at.returns c).In_ok-unless) in
    rw (c.unless-2.ensures, c.tolerances_ok.ensures, t, ← c.setup_ok.ensures, ← c.unless.ensures, c.in_ok-unless.was)
