-- `geometry::judge` meets its contract. The loop's invariant: the samples before k lie near. Assumes nothing.
use Prim.Native.Nat.{◌<◌}
use Rattle.geometry.specs.Near.{Along}
use Rattle.geometry.specs.Spoiler.{Clear}
use Rattle.geometry.proofs.judge.Given as goal

abbrev pub invariant-loop-k : goal.invariant-loop-k
invariant-loop-k l = (l.fn.i < l.k) × Clear (Along l.fn.samples.across.now l.fn.samples.up.now l.fn.i l.fn.j l.fn.e) l.fn.i l.k
