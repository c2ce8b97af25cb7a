-- `costs::rewrite` meets its contract. The loop's invariant: the named cells of the ends before j are written. Assumes nothing.
use mathlib.Core.Path.{◌≡◌, sym}
use Prim.Native.Nat.{◌+◌, min}
use native.Mathlib.Omega.{arith}
use native.Mathlib.Nat.{mul-le-mul}
use Rattle.sample.specs.Samples.{lent}
use Rattle.permission.specs.Finest.{perm}
use Rattle.sample.proofs.Coordinate.{fewer_ranged}
use Rattle.permission.proofs.Perm.{perm_adjacent}
use Rattle.costs.proofs.Rows.{ends_none, ends_more}
use Rattle.costs.proofs.Sums.{ends_settled}
use Rattle.costs.proofs.Tally.{named_none, named_more, named_small}
use Rattle.costs.proofs.rewrite.Goals as goal

pub loop-j-init : goal.loop-j-init
loop-j-init c = (ends_none _ _ _ _ _, sym (named_none _ _))

pub write_end-count-requires : goal.write_end-count-requires
write_end-count-requires c =
    let a = c.args in
    let p = c.requires in record {
      le_levels = (omega arith, omega arith, omega arith, omega arith, omega arith, p.le_levels.5);
      ranged = (fewer_ranged (omega arith) p.ranged.0, omega arith, rw c.loop-j.invariant.0.same p.ranged.2);
      settled = ends_settled a.s.capacity (perm (lent a.samples) a.s.tolerances) (perm_adjacent _ _) a.s.levels a.v a.s.held c.loop-j.j a.table.now c.loop-j.table (omega arith) (omega arith) p.low_steps c.loop-j.invariant.0;
    }

pub overflow_add-count : goal.overflow_add-count
overflow_add-count c =
    let a = c.args in
    omega (
      arith,
      c.loop-j.invariant.1,
      c.write_end-count.ensures.value,
      named_small a.s.levels a.v c.loop-j.j (omega arith) (omega arith) (omega arith),
      mul-le-mul {n₁ = a.s.levels} {m₁ = min c.loop-j.j (a.v + 1)} {n₂ = 16} {m₂ = 256} (omega arith) (omega arith),
    )

pub loop-j-preserved : goal.loop-j-preserved
loop-j-preserved c =
    let a = c.args in
    let done = c.write_end-count.ensures in (
      ends_more a.s.capacity (perm (lent a.samples) a.s.tolerances) a.s.levels a.v a.table.now c.loop-j.j c.loop-j.table _ (omega arith) (omega arith) c.loop-j.invariant.0 done.rewritten,
      rw (c.loop-j.invariant.1, done.value) (named_more a.s.levels a.v c.loop-j.j (omega arith)),
    )

pub returns : goal.returns
returns c =
    let h = c.loop-j.invariant in
    let e : c.loop-j.j ≡ c.args.s.held = omega arith in
    record { value = rw e at h.1; rewritten = rw e at h.0 }
