-- What put gives, by which of the two it is, and the cells that it counts, by the paper's formulas. Assumes nothing.
use mathlib.Core.Path.{◌≡◌, sym, ap, subst, ◌∙◌}
use Prim.Native.Nat.{ℕ, ◌+◌, ◌-◌, ◌*◌, ◌<◌}
use native.Mathlib.Omega.{arith}
use Rattle.std.specs.Prelude.{Ok}
use Rattle.sample.specs.declared.Sample.{Sample}
use Rattle.costs.proofs.Tally.{named_formula, named_add}
use Rattle.trace.specs.declared.Trace.{Trace}
use Rattle.trace.specs.declared.Changed.{Changed}
use Rattle.trace.specs.Calls.{Buffers, Put, PutGives}
use Rattle.sizes.proofs.Held.{held_corrected, held_added}

module _ (a : Trace) (b : Buffers) (v : ℕ) (x : Sample) (r : Changed) (e : Buffers) (G : PutGives a b v x r e) (d : r.outcome ≡ Ok tt) where
  -- below n it is a correction: sample v is another, and as many are held
  pub put_corrects : v < a.held → Put a b v a.held x r e
  put_corrects h = subst (λ n. Put a b v n x r e) (held_corrected a.held v h) (G.done d)

  -- at n an addition: sample n is new, and one more is held
  pub put_adds : v ≡ a.held → Put a b a.held (a.held + 1) x r e
  put_adds h = subst (λ u. Put a b u (a.held + 1) x r e) h (subst (λ n. Put a b v n x r e) (held_added a.held v (omega arith)) (G.done d))

  -- of n' samples after the call, m · ((v + 1) · (n' - v) - 1) cells are written
  pub put_cells : r.cells ≡ a.levels * ((v + 1) * (r.trace.held - v) - 1)
  put_cells = (G.done d).count ∙ named_formula a.levels v _ ∙ ap (λ n. a.levels * ((v + 1) * (n - v) - 1)) (sym (ap (λ (t : Trace). t.held) (G.done d).trace))

  -- which is m · ((v + 1) · (n - v) - 1) for a correction
  pub corrected_cells : v < a.held → r.cells ≡ a.levels * ((v + 1) * (a.held - v) - 1)
  corrected_cells h = (put_corrects h).count ∙ named_formula a.levels v a.held

  -- and m · n for an addition
  pub added_cells : v ≡ a.held → r.cells ≡ a.levels * a.held
  added_cells h = (put_adds h).count ∙ named_add a.levels a.held
