-- `permission::finests` meets its contract. The loop's invariant: the levels of the starts before i that are not before the last marked sample, and m + 1 before it. Assumes nothing.
use mathlib.Core.Path.{refl, ◌∙◌}
use mathlib.Core.Logic.{⊎_elim}
use Prim.Native.Nat.{◌+◌, ◌<◌}
use native.Mathlib.Nat.{eq-or-lt_of_le}
use native.Mathlib.Decide.{dec_le}
use native.Mathlib.Omega.{arith}
use lib.ListN.{length-set, get_or-replicate}
use lib.Seq.{get_or-set_same, get_or-set_other}
use Rattle.sample.specs.Samples.{lent}
use Rattle.permission.proofs.Perm.{perm_unmarked, perm_stops, finest_is, finest_same}
use Rattle.permission.proofs.finests.Goals as goal

pub loop-i-init : goal.loop-i-init
loop-i-init c = (λ q a b. absurd (omega arith), λ q h. get_or-replicate 256 q (c.args.m + 1) 0 (omega arith), omega arith, refl)

-- the start i is not before the last marked sample
pub loop-i-preserved : goal.loop-i-preserved
loop-i-preserved c =
    let a = c.args in
    let l = c.loop-i.levels in
    let i = c.loop-i.i in (
      λ q x y. ⊎_elim
          (λ e. rw (e, get_or-set_same l i c.finest.result 0 (omega arith))
          (finest_same (λ k. perm_unmarked (lent a.samples) a.tolerances.now k i a.j (λ q x y. c.last_marked-last.ensures.highest q (omega arith) y)) c.finest.ensures))
          (λ (h : q < i). rw (get_or-set_other l i q c.finest.result 0 (λ e. omega arith)) (c.loop-i.invariant.0 q h y))
          (eq-or-lt_of_le {m = i} (omega arith)),
      λ q h. get_or-set_other l i q _ 0 (λ e. omega arith) ∙ c.loop-i.invariant.1 q h,
      omega arith,
      simp length-set c.loop-i.invariant.3,
    )

-- those before it have none
pub returns : goal.returns
returns c =
    let a = c.args in
    let u = c.last_marked-last in
    λ q h. elim (dec_le u.result q) [
      | yes y ↦ c.loop-i.invariant.0 q (omega arith) y
      | no y ↦ rw (c.loop-i.invariant.1 q (omega arith)) (finest_is _ a.m q a.j (a.m + 1)
          (λ k x z. ⊎_elim (λ t. perm_stops (lent a.samples) a.tolerances.now k q a.j u.result t.1 (omega arith) t.0) (λ t. absurd (omega arith)) u.ensures.there)
          (λ k x z. absurd (omega arith)))
    ]
