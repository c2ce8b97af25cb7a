-- `geometry::Segment::distance_from` meets its contract: what each case works out is the fraction of that case. Assumes nothing.
use mathlib.Core.Path.{◌≡◌, refl}
use Prim.Native.Nat.{ℕ, ◌≤◌}
use native.Mathlib.Omega.{arith}
use lib.IntN.{nat_abs}
use Rattle.geometry.specs.declared.Fraction.{Fraction}
use Rattle.geometry.proofs.Ways.{past_back, cross_size, square_fits, square_back, square_size}
use Rattle.geometry.proofs.Segment.distance_from.Goals as goal
use Rattle.geometry.proofs.Segment.distance_from.Goals.{After-cross-cross}

-- fractions of equal parts
parts : {t u b d : ℕ} → t ≡ u → b ≡ d → ◌≡◌ {A = Fraction} (record { top = t; bottom = b }) (record { top = u; bottom = d })
parts e f = rw (e, f) refl

small : (c : After-cross-cross) → nat_abs c.cross-cross.result ≤ 2147483648
small c = rw c.cross-cross.ensures (cross_size c.args.self.end.in_range c.args.to.in_range)

pub returns-in-End : goal.returns-in-End
returns-in-End c =
    let e = past_back c.args.self.end.in_range c.args.to.in_range in
    rw c.in-End.is (parts (rw (e.0, e.1) at c.squared-in-End.ensures) refl)

pub overflow_mul-result : goal.overflow_mul-result
overflow_mul-result c = square_fits c.cross-cross.result (small c)

pub overflow_cast-result : goal.overflow_cast-result
overflow_cast-result c = let z = c.cross-cross.result in rw (square_back z (small c)) (tt, omega (arith, square_size z (small c)))

pub returns-in-Between : goal.returns-in-Between
returns-in-Between c =
    rw c.in-Between.is (parts (rw (square_back c.cross-cross.result (small c), c.cross-cross.ensures) refl) (omega (arith, c.args.self.measured)))
