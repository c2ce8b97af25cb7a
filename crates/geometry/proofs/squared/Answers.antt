-- `geometry::squared` meets its contract. Assumes nothing.
use mathlib.Core.Path.{refl}
use native.Mathlib.Omega.{arith}
use Rattle.geometry.proofs.Ways.{squares_back, squares_fit}
use Rattle.geometry.proofs.squared.Goals as goal

pub overflow_cast-result : goal.overflow_cast-result
overflow_cast-result c =
    let m = c.args in
    let p = c.requires in
    rw (squares_back m.across m.up p.0 p.1) (tt, omega (arith, squares_fit m.across m.up p.0 p.1))

pub returns : goal.returns
returns c = rw (squares_back c.args.across c.args.up c.requires.0 c.requires.1) refl
