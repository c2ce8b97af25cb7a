-- `costs::write_end` meets its contract. Assumes nothing.
use mathlib.Core.Path.{◌≡◌}
use mathlib.Core.Logic.{inl, inr, ⊎_elim}
use Prim.Native.Nat.{◌+◌, min}
use native.Mathlib.Omega.{arith}
use Rattle.sample.specs.Samples.{lent}
use Rattle.permission.specs.Finest.{perm}
use Rattle.permission.proofs.Perm.{perm_adjacent, finest_near}
use Rattle.costs.proofs.Rows.{rows_said}
use Rattle.costs.proofs.write_end.Goals as goal

pub write_rows-requires : goal.write_rows-requires
write_rows-requires c =
    let a = c.args in
    let p = c.requires in
    let e : c.min-top.result ≡ min a.j (a.v + 1) = c.min-top.ensures in
    record {
      m_bound = omega arith;
      cap_in_bounds = p.ranged.2;
      settled = λ k x u w z o. p.settled k x u w z (⊎_elim (λ y. inl y) (λ y. inr (omega arith)) o);
      by_index = λ x u w. finest_near (perm (lent a.samples) a.s.tolerances) (perm_adjacent (lent a.samples) a.s.tolerances) _ _ _ _ (c.finests-levels.ensures x w) u (omega arith);
    }

pub returns : goal.returns
returns c =
    let a = c.args in
    let e : c.min-top.result ≡ min a.j (a.v + 1) = c.min-top.ensures in
    let w = c.write_rows.ensures in
    record {
      value = rw e at w.value;
      rewritten = rw e at (rows_said _ (perm (lent a.samples) a.s.tolerances) _ _ _ _ _ _ (omega arith) (omega arith) c.finests-levels.ensures w.rewritten);
    }
