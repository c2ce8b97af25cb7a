-- `costs::write_rows` meets its contract. The loop's invariant: the rows of the levels below k are written. Assumes nothing.
use mathlib.Core.Path.{◌≡◌}
use Prim.Native.Nat.{◌+◌, ◌-◌, ◌*◌, ◌≤◌}
use native.Mathlib.Omega.{arith}
use native.Mathlib.Nat.{mul-le-mul}
use lib.ListN.{length}
use Rattle.table.proofs.Address.{room_below}
use Rattle.costs.proofs.Rows.{rows_more}
use Rattle.costs.proofs.Sums.{rows_small}
use Rattle.costs.proofs.write_rows.Goals as goal
use Rattle.costs.proofs.write_rows.Goals.{In-loop-k}

-- the table has room for level k
room : (c : In-loop-k) → let a = c.args in c.loop-k.k * (a.s.capacity * a.s.capacity) ≤ length c.loop-k.table
room c = rw c.loop-k.invariant.0.same (room_below _ _ c.args.s.levels _ (omega arith) c.requires.cap_in_bounds)

pub write_row-count-requires : goal.write_row-count-requires
write_row-count-requires c =
    let a = c.args in
    let p = c.requires in
    record {
      le_k = omega arith;
      cap_in_bounds = room (goal.at.write_row-count-requires c).In-loop-k;
      by_index = λ i h. rw (c.rests-sums.ensures i (omega arith))
          (rows_small _ _ _ _ (omega arith) (omega arith) _ _ a.s.levels (c.loop-k.k - 1) (omega arith) p.settled p.by_index c.loop-k.invariant.0 (omega arith) (omega arith) i (omega arith));
    }

pub overflow_add-count : goal.overflow_add-count
overflow_add-count c =
    let k = c.loop-k.k in
    let t = c.args.top in
    omega (arith, c.loop-k.invariant.1, c.write_row-count.ensures.value, mul-le-mul {n₁ = k} {m₁ = t} {n₂ = 16} {m₂ = 256} (omega arith) (omega arith))

pub loop-k-preserved : goal.loop-k-preserved
loop-k-preserved c =
    let a = c.args in
    let sums = c.rests-sums in
    let done = c.write_row-count.ensures in (
      rows_more a.s.capacity a.finest.now a.j a.top (omega arith) (omega arith) a.table.now c.loop-k.k sums.result c.loop-k.table _ (omega arith) c.loop-k.invariant.0 sums.ensures done.wrote,
      omega (arith, c.loop-k.invariant.1, done.value),
    )

pub returns : goal.returns
returns c =
    let h = c.loop-k.invariant in
    let e : c.loop-k.k ≡ c.args.s.levels + 1 = omega arith in
    let u : c.args.s.levels + 1 - 1 ≡ c.args.s.levels = omega arith in
    record { value = omega (arith, rw e at h.1); rewritten = rw (e, u) at h.0 }
