-- `trace::Trace::ask` meets its contract. Assumes nothing.
use mathlib.Core.Path.{◌≡◌, refl}
use Prim.Native.Nat.{ℕ, ◌≤◌, ◌<◌, ◌-◌}
use native.Mathlib.Omega.{arith}
use Rattle.std.proofs.lemmas.Result.{err_from_is_err_and}
use Rattle.refusal.specs.Number.{Outcome, code}
use Rattle.sample.specs.Samples.{Samples, lent}
use Rattle.sample.proofs.Coordinate.{fewer_ranged}
use Rattle.sizes.specs.declared.Sizes.{Sizes}
use Rattle.checks.specs.Rows.{ask_outcome, Passed}
use Rattle.checks.specs.Numbers.{AskNumber}
use Rattle.checks.proofs.Numbers.{ask_number}
use Rattle.checks.proofs.Passed.{ask_passed, in_range}
use Rattle.trace.specs.declared.Trace.{Trace}
use Rattle.trace.specs.Calls.{sizes}
use Rattle.trace.proofs.Trace.ask.Goals as goal
use Rattle.trace.proofs.Trace.ask.Goals.{In_ok-ask_outcome}

-- what the checks say is a number of the paper
said : (a : Trace) (xs : Samples) (k i j : ℕ) {s : Sizes} {o p : Outcome} → s ≡ sizes a → o ≡ ask_outcome s xs k i j → o ≡ p → AskNumber (sizes a) xs k i j (code p)
said a xs k i j e f g = rw (← g, f, e) (ask_number (sizes a) xs k i j)

pub returns-in_err-ask_outcome : goal.returns-in_err-ask_outcome
returns-in_err-ask_outcome c =
    let a = c.args in
    let p = err_from_is_err_and c.from_residual.result c.from_residual.ensures.1 in
    rw (p.1, p.2) (record { number = said a.self (lent a.samples) a.k a.i a.j c.sizes.ensures c.ask_outcome.ensures c.in_err-ask_outcome.was; says = tt; lent = refl })

-- where it goes on, none refuses
none : (c : In_ok-ask_outcome) → let a = c.args in AskNumber (sizes a.self) (lent a.samples) a.k a.i a.j 0
none c = let a = c.args in said a.self (lent a.samples) a.k a.i a.j c.sizes.ensures c.ask_outcome.ensures c.in_ok-ask_outcome.was

passed : (c : In_ok-ask_outcome) → let a = c.args in Passed (sizes a.self) (lent a.samples) × (a.i < a.j) × (a.j < a.self.held) × (1 ≤ a.k) × (a.k ≤ a.self.levels)
passed c = ask_passed _ _ _ _ _ (none c)

pub overflow_sub-k : goal.overflow_sub-k
overflow_sub-k c = omega (arith, passed (goal.at.overflow_sub-k c).In_ok-ask_outcome)

pub offset_bounds-self-k : goal.offset_bounds-self-k
offset_bounds-self-k c = omega (arith, passed (goal.at.offset_bounds-self-k c).In_ok-ask_outcome)

pub bounds-self-k : goal.bounds-self-k
bounds-self-k c = omega (arith, passed (goal.at.bounds-self-k c).In_ok-ask_outcome)

pub permitted-requires : goal.permitted-requires
permitted-requires c =
    let p = passed (goal.at.permitted-requires c).In_ok-ask_outcome in
    (fewer_ranged (omega arith) (in_range p.0), omega (arith, p.0.held, p.0.lent.2), p.1, omega (arith, p.0.tolerances.high (c.args.k - 1) (omega arith)))

-- where none refuses, the stretch is judged at the level's tolerance:
-- the verdict says what `permitted` says
pub returns : goal.returns
returns c = record { number = none (goal.at.returns c).In_ok-ask_outcome; says = c.permitted.ensures; lent = refl }
