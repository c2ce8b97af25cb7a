-- `permission::finest` meets its contract. The loop's invariant: no level below k permits the stretch, and at level k its samples before `from` lie near. Assumes nothing.
use mathlib.Core.Path.{◌≡◌}
use mathlib.Core.Bool.{false}
use Prim.Native.Nat.{ℕ, ◌-◌, ◌≤◌, ◌<◌}
use lib.ListN.{get_or}
use Rattle.geometry.specs.Near.{Along}
use Rattle.geometry.specs.Spoiler.{Clear}
use Rattle.sample.specs.Samples.{samples}
use Rattle.sample.specs.Sweep.{no_marks}
use Rattle.permission.specs.Finest.{perm}
use Rattle.permission.proofs.finest.Given as goal

abbrev pub invariant-loop-k : goal.invariant-loop-k
invariant-loop-k l =
    let a = l.fn in
    let xs = a.samples.across.now in
    let ys = a.samples.up.now in
    (1 ≤ l.k) × (a.i < l.from) × (l.from ≤ a.j) × ((p : ℕ) → 1 ≤ p → p < l.k → perm (samples xs ys no_marks) a.tolerances p a.i a.j ≡ false)
    × (l.k ≤ a.m → Clear (Along xs ys a.i a.j (get_or a.tolerances (l.k - 1) 0)) a.i l.from)
