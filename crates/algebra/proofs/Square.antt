-- The algebra of the square of a difference. A difference a − b of ℤ is carried as the pair of its two sides, so that `omega arith`,
-- which multiplies products out, proves the identities. Assumes nothing.
use mathlib.Core.Path.{◌≡◌, ap}
use Prim.Native.Nat.{ℕ, ◌+◌, ◌*◌, ◌-◌, ◌≤◌}
use native.Mathlib.Decide.{dec_le}
use native.Mathlib.Omega.{arith}
use Rattle.algebra.specs.Square.{Square}

pub up_sq : (x y d : ℕ) → x + d ≡ y → Square (d * d) x y
up_sq x y d e = rw (← e) (omega arith)

pub square_swap : (k x y : ℕ) → Square k x y → Square k y x
square_swap k x y h = omega arith

-- 2xy ≤ x² + y²
pub two_mul_le : (x y : ℕ) → 2 * (x * y) ≤ x * x + y * y
two_mul_le x y = elim (dec_le x y) [
  | yes h ↦ omega (arith, up_sq x y (y - x) (omega arith))
  | no n ↦ omega (arith, up_sq y x (x - y) (omega arith))
]

-- (r·(x − y))²
pub square_scale : (r k x y : ℕ) → Square k x y → Square (r * r * k) (r * x) (r * y)
square_scale r k x y h = omega (arith, ap (λ (t : ℕ). r * r * t) h)

-- the square m of a sum of two differences, whose squares are k and l
pub square_sum : (m k l x y z w : ℕ) → Square m (x + z) (y + w) → Square k x y → Square l z w → m + 2 * (x * w + y * z) ≡ k + l + 2 * (x * z + y * w)
square_sum m k l x y z w g h j = omega arith

-- (x − y)² (z − w)² = ((xz + yw) − (xw + yz))²
pub square_mul : (k l x y z w : ℕ) → Square k x y → Square l z w → Square (k * l) (x * z + y * w) (x * w + y * z)
square_mul k l x y z w h g =
    omega (arith, ap (λ (t : ℕ). t * l) h, ap (λ (t : ℕ). (2 * (x * y)) * t) g, ap (λ (t : ℕ). (x * x + y * y) * t) g)
