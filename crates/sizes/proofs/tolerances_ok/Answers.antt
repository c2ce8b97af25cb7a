-- `sizes::tolerances_ok` meets its contract. Assumes nothing.
use mathlib.Core.Path.{sym, ap}
use Prim.Native.Nat.{ℕ, ◌+◌}
use native.Mathlib.Omega.{arith}
use native.Mathlib.Numerals.{add-one}
use lib.Dec.{ltb}
use lib.ListN.{get_or}
use borrow.Author.Tests.{lt-ltb, le-ltb, le-leb, lt-leb}
use Rattle.refusal.proofs.Laws.{and_yes, and_no_left, and_no_right, all_no, passed_more, passed_all}
use Rattle.sizes.specs.Rows.{before, tolerance_ok, tolerances_ok}
use Rattle.sizes.proofs.tolerances_ok.Goals as goal
use Rattle.sizes.proofs.tolerances_ok.Goals.{then-e-least-via-then-e-least, then-e-least-via-else-e-least+then-e-gt-TOLERANCE_MOST}

pub returns-then-e-least : goal.returns-then-e-least
unfolding tolerance_ok tolerances_ok
returns-then-e-least c =
    let t = c.args.tolerances.now in
    let l = c.loop-e.e-index in
    elim c.then-e-least.branch [
      | then-e-least-via-then-e-least w ↦ sym (all_no _ l _ c.loop-e-test.true (and_no_left _ (le-ltb (before t l) (get_or t l 0) (omega (arith, w.if-e-least, c.loop-e.invariant.1)))))
      | then-e-least-via-else-e-least+then-e-gt-TOLERANCE_MOST w ↦ sym (all_no _ l _ c.loop-e-test.true (and_no_right (ltb (before t l) (get_or t l 0)) (lt-leb (get_or t l 0) 32768 (omega (arith, w.if-e-gt-TOLERANCE_MOST)))))
    ]

pub loop-e-preserved : goal.loop-e-preserved
unfolding tolerance_ok
loop-e-preserved c =
    let t = c.args.tolerances.now in
    let l = c.loop-e.e-index in (
      passed_more c.loop-e.invariant.0 c.loop-e-test.true (and_yes (lt-ltb (before t l) (get_or t l 0) (omega (arith, c.loop-e.invariant.1))) (le-leb (get_or t l 0) 32768 (omega arith))),
      ap (λ (x : ℕ). x + 1) (rw add-one),
    )

pub returns : goal.returns
unfolding tolerances_ok
returns c = sym (passed_all c.loop-e.invariant.0 (omega arith))
