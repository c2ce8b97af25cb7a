-- `costs::rewrite` meets its contract. The loop's invariant: the named cells of the ends before j are written. Assumes nothing.
use mathlib.Core.Path.{◌≡◌}
use Rattle.costs.specs.Costs.{Named, named}
use Rattle.sample.specs.Samples.{lent}
use Rattle.permission.specs.Finest.{perm}
use Rattle.costs.specs.Walk.{Rewritten}
use Rattle.costs.proofs.rewrite.Given as goal

abbrev pub invariant-loop-j : goal.invariant-loop-j
invariant-loop-j l =
    let a = l.fn in
    let s = a.s in
    Rewritten s.capacity (perm (lent a.samples) s.tolerances) (Named s.levels a.v l.j) a.table l.table × (l.count ≡ named s.levels a.v l.j)
