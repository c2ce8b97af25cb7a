-- `permission::finests` meets its contract. The loop's invariant: the levels of the starts before i that are not before the last marked sample, and m + 1 before it. Assumes nothing.
use mathlib.Core.Path.{◌≡◌}
use Prim.Native.Nat.{ℕ, ◌+◌, ◌≤◌, ◌<◌}
use lib.ListN.{length, get_or}
use Rattle.sample.specs.Samples.{lent}
use Rattle.permission.specs.Finest.{perm, Finest}
use Rattle.permission.proofs.finests.Given as goal

abbrev pub invariant-loop-i : goal.invariant-loop-i
invariant-loop-i l =
    let a = l.fn in
    ((q : ℕ) → q < l.i → l.last ≤ q → Finest (perm (lent a.samples) a.tolerances) a.m q a.j (get_or l.levels q 0)) × ((q : ℕ) → q < l.last → get_or l.levels q 0 ≡ a.m + 1) × (l.last ≤ l.i) × (length l.levels ≡ 256)
