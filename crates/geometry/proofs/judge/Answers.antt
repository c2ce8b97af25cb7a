-- `geometry::judge` meets its contract. The loop's invariant: the samples before k lie near. Assumes nothing.
use mathlib.Core.Logic.{⊎_elim}
use native.Mathlib.Nat.{eq-or-lt_of_le}
use native.Mathlib.Omega.{arith}
use Rattle.refusal.specs.Check.{Decides}
use Rattle.sample.proofs.Coordinate.{fewer}
use Rattle.geometry.specs.Near.{Along}
use Rattle.geometry.proofs.Link.{near_by}
use Rattle.geometry.proofs.judge.Goals as goal
use Rattle.geometry.proofs.judge.Goals.{After-near}

pub loop-k-init : goal.loop-k-init
loop-k-init c = (c.requires.in_range.2, c.requires.clear)

pub way-requires : goal.way-requires
way-requires c = let p = c.requires.in_range in (fewer (omega arith) p.0, fewer (omega arith) p.1, omega arith)

-- what the comparison decides of the ways it decides of sample k
judged : (c : After-near) → let a = c.args in Decides (Along a.samples.across.now a.samples.up.now a.i a.j a.e c.loop-k.k) c.near.result
judged c =
    let e = c.way-end.ensures in
    let w = c.way.ensures in
    near_by (rw (e.0, e.1, w.0, w.1) at c.near.ensures)

pub loop-k-preserved : goal.loop-k-preserved
loop-k-preserved c =
    let d = c.loop-k.invariant in (
      omega arith,
      λ l a b. ⊎_elim
          (λ e. rw e ((judged (goal.at.loop-k-preserved c).After-near).right c.if-not-near.false))
          (d.1 l a)
          (eq-or-lt_of_le {m = c.loop-k.k} (omega arith)),
    )
