-- `permission::finest` meets its contract. The loop's invariant: no level below k permits the stretch, and at level k its samples before `from` lie near. Assumes nothing.
use mathlib.Core.Path.{◌≡◌}
use mathlib.Core.Logic.{⊎_elim}
use native.Mathlib.Nat.{eq-or-lt_of_le}
use Prim.Native.Nat.{◌+◌, ◌-◌}
use native.Mathlib.Omega.{arith}
use Rattle.geometry.specs.Spoiler.{is_yes}
use Rattle.geometry.proofs.Permits.{along_wider}
use Rattle.sample.specs.Samples.{samples}
use Rattle.sample.specs.Sweep.{no_marks}
use Rattle.permission.specs.Finest.{perm}
use Rattle.permission.proofs.Perm.{perm_judged, rising, perm_higher, finest_is}
use Rattle.permission.proofs.finest.Goals as goal
use Rattle.permission.proofs.finest.Goals.{After-judge-verdict}

pub loop-k-init : goal.loop-k-init
loop-k-init c = (omega arith, omega arith, omega arith, λ l a b. absurd (omega arith), λ h l a b. absurd (omega arith))

pub judge-verdict-requires : goal.judge-verdict-requires
judge-verdict-requires c =
    let p = c.requires in
    let d = c.loop-k.invariant in
    record { in_range = (p.0, p.1, d.1, d.2, omega arith, p.4.small _ (omega arith)); clear = d.4 (omega arith) }

-- the verdict at level k is whether it permits the stretch
permits : (c : After-judge-verdict) → let a = c.args in perm (samples a.samples.across.now a.samples.up.now no_marks) a.tolerances.now c.loop-k.k a.i a.j ≡ is_yes c.judge-verdict.result
permits c =
    let a = c.args in
    let p = c.requires in
    perm_judged a.samples.across.now a.samples.up.now a.tolerances.now c.loop-k.k a.i a.j c.judge-verdict.result p.0 p.1 p.2 c.judge-verdict.ensures

pub returns-in_default : goal.returns-in_default
returns-in_default c =
    let y = rw c.in_default.is at (permits (goal.at.returns-in_default c).After-judge-verdict) in
    finest_is _ _ _ _ _ c.loop-k.invariant.3 (λ q a b. perm_higher _ _ _ _ q _ _ c.requires.4 c.loop-k.invariant.0 a b y)

pub loop-k-preserved : goal.loop-k-preserved
loop-k-preserved c =
    let a = c.args in
    let e = c.in-No.is in
    let n = rw e at (permits (goal.at.loop-k-preserved c).After-judge-verdict) in
    let s = rw e at c.judge-verdict.ensures in (
      omega arith,
      s.after,
      omega (arith, s.before),
      λ q x y. ⊎_elim (λ h. rw h n) (λ h. c.loop-k.invariant.3 q x h) (eq-or-lt_of_le {m = c.loop-k.k} (omega arith)),
      λ h. along_wider a.samples.across.now a.samples.up.now a.i a.j _ (rising _ _ c.requires.4 (c.loop-k.k - 1) (c.loop-k.k + 1 - 1) (omega arith) (omega arith)) s.lowest,
    )

pub returns : goal.returns
returns c = finest_is _ _ _ _ _ (λ q a b. c.loop-k.invariant.3 q a (omega arith)) (λ q a b. absurd (omega arith))
