-- `geometry::permitted` meets its contract. Assumes nothing.
use mathlib.Core.Logic.{⊎_elim}
use native.Mathlib.Omega.{arith}
use Rattle.sample.specs.Samples.{lent}
use Rattle.geometry.proofs.Marks.{far_first, marked_first, none_marked}
use Rattle.geometry.proofs.permitted.Goals as goal

pub judge-verdict-requires : goal.judge-verdict-requires
judge-verdict-requires c =
    let p = c.requires in
    let f = c.first_marked-first.ensures in
    record {
      in_range = (p.0.across, p.0.up, omega arith, omega (arith, f.from), ⊎_elim (λ t. omega arith) (λ t. omega arith) f.there, p.3);
      clear = λ l a b. absurd (omega arith);
    }

pub returns-in_default : goal.returns-in_default
returns-in_default c =
    let a = c.args in
    let g = c.in_default.is in
    rw g (far_first (lent a.samples) a.i a.j a.e c.first_marked-first.ensures (rw g at c.judge-verdict.ensures))

pub returns-then-first-j : goal.returns-then-first-j
returns-then-first-j c =
    let a = c.args in
    marked_first (lent a.samples) a.i a.j a.e c.first_marked-first.ensures (omega arith) (rw c.in-Yes.is at c.judge-verdict.ensures)

pub returns : goal.returns
returns c =
    let a = c.args in
    let g = c.in-Yes.is in
    rw g (none_marked (lent a.samples) a.i a.j a.e c.first_marked-first.ensures (omega arith) (rw g at c.judge-verdict.ensures))
