-- The ways v = (dx, dy) to a segment's end and u = (px, py) to a sample give a `Frame`. Assumes nothing.
use mathlib.Core.Path.{◌≡◌}
use Prim.Native.Nat.{ℕ, ◌+◌, ◌*◌}
use native.Mathlib.Omega.{arith}
use lib.IntN.{ℤ, pos, ◌-ℤ◌, ◌*ℤ◌}
use Rattle.algebra.specs.Square.{Square}
use Rattle.algebra.specs.Parts.{up, dn, sq, Is}
use Rattle.algebra.proofs.Square.{square_mul, square_swap, square_scale, square_sum}
use Rattle.algebra.proofs.Parts.{is_own, is_mul, is_minus, is_plus, is_times, is_sq}
use Rattle.geometry.specs.Nearest.{dot, cross}
use Rattle.geometry.specs.Way.{offset_by}
use Rattle.geometry.proofs.Core.{Frame}

-- the dot and the cross product are each a sum of two products; what their squares add up to
both : (m n k₁ k₂ k₃ k₄ c₁ d₁ c₂ d₂ : ℕ) → m + 2 * c₁ ≡ k₁ + k₂ + 2 * d₁ → n + 2 * c₂ ≡ k₃ + k₄ + 2 * d₂ → d₁ + d₂ ≡ c₁ + c₂ → m + n ≡ k₁ + k₂ + (k₃ + k₄)
both m n k₁ k₂ k₃ k₄ c₁ d₁ c₂ d₂ g h e = omega arith

exchange : (x y z w x' y' z' w' : ℕ)
    → (x * z + y * w) * (x' * z' + y' * w') + (x * w + y * z) * (x' * w' + y' * z') + ((x * z' + y * w') * (x' * w + y' * z) + (x * w' + y * z') * (x' * z + y' * w))
    ≡ (x * z + y * w) * (x' * w' + y' * z') + (x * w + y * z) * (x' * z' + y' * w') + ((x * z' + y * w') * (x' * z + y' * w) + (x * w' + y * z') * (x' * w + y' * z))
exchange x y z w x' y' z' w' = omega arith

parts_square : (z : ℤ) → Square (sq z) (up z) (dn z)
parts_square z = is_sq z (up z) (dn z) (is_own z)

-- the two sides of a product
abbrev more : ℤ → ℤ → ℕ
more a b = up a * up b + dn a * dn b

abbrev less : ℤ → ℤ → ℕ
less a b = up a * dn b + dn a * up b

times : (a b : ℤ) → Is (a *ℤ b) (more a b) (less a b)
times a b = is_times a b _ _ _ _ (is_own a) (is_own b)

part_mul : (a b : ℤ) → Square (sq a * sq b) (more a b) (less a b)
part_mul a b = square_mul _ _ _ _ _ _ (parts_square a) (parts_square b)

-- the two sides of u·v
abbrev pub fore : ℤ → ℤ → ℤ → ℤ → ℕ
fore dx dy px py = more px dx + more py dy

abbrev pub aft : ℤ → ℤ → ℤ → ℤ → ℕ
aft dx dy px py = less px dx + less py dy

module _ (dx dy px py : ℤ) where
  pub dot_is : Is (dot dx dy px py) (fore dx dy px py) (aft dx dy px py)
  dot_is = is_plus _ _ _ _ _ _ (times px dx) (times py dy)

  cross_is : Is (cross dx dy px py) (more px dy + less py dx) (less px dy + more py dx)
  cross_is = is_minus _ _ _ _ _ _ (times px dy) (times py dx)

  products : sq (dot dx dy px py) + sq (cross dx dy px py) ≡ sq px * sq dx + sq py * sq dy + (sq px * sq dy + sq py * sq dx)
  products =
      both _ _ _ _ _ _ _ _ _ _
      (square_sum _ _ _ _ _ _ _ (is_sq _ _ _ dot_is) (part_mul px dx) (part_mul py dy))
      (square_sum _ _ _ _ _ _ _ (is_sq _ _ _ cross_is) (part_mul px dy) (square_swap _ _ _ (part_mul py dx)))
      (exchange (up px) (dn px) (up dx) (dn dx) (up py) (dn py) (up dy) (dn dy))

  lagrange : (sq dx + sq dy) * (sq px + sq py) + 2 * (fore dx dy px py * aft dx dy px py)
      ≡ sq (cross dx dy px py) + fore dx dy px py * fore dx dy px py + aft dx dy px py * aft dx dy px py
  lagrange = joined _ _ _ _ _ _ _ _ products (is_sq _ _ _ dot_is)
    where
      joined : (u v w t m c f g : ℕ) → m + c ≡ u * v + w * t + (u * t + w * v) → Square m f g → (v + t) * (u + w) + 2 * (f * g) ≡ c + f * f + g * g
      joined u v w t m c f g h j = omega arith

  axis : (p d : ℤ) (r s : ℕ) → sq (pos r *ℤ p -ℤ pos s *ℤ d) + 2 * (r * s * more p d) ≡ r * r * sq p + 2 * (r * s * less p d) + s * s * sq d
  axis p d r s =
      omega (arith, square_sum _ _ _ _ _ _ _ (is_sq _ _ _ (is_minus _ _ _ _ _ _ (is_mul r p _ _ (is_own p)) (is_mul s d _ _ (is_own d)))) (square_scale r _ _ _ (parts_square p)) (square_swap _ _ _ (square_scale s _ _ _ (parts_square d))))

  scaled : (r s : ℕ) → offset_by dx dy px py r s + 2 * (r * s * fore dx dy px py)
      ≡ r * r * (sq px + sq py) + 2 * (r * s * aft dx dy px py) + s * s * (sq dx + sq dy)
  scaled r s = joined r s _ _ _ _ _ _ _ _ _ _ (axis px dx r s) (axis py dy r s)
    where
      joined : (r s m n f g h j u v w t : ℕ) → m + 2 * (r * s * f) ≡ r * r * u + 2 * (r * s * h) + s * s * w → n + 2 * (r * s * g) ≡ r * r * v + 2 * (r * s * j) + s * s * t
          → m + n + 2 * (r * s * (f + g)) ≡ r * r * (u + v) + 2 * (r * s * (h + j)) + s * s * (w + t)
      joined r s m n f g h j u v w t e k = omega arith

  pub frame : Frame (offset_by dx dy px py) (sq px + sq py) (sq dx + sq dy) (fore dx dy px py) (aft dx dy px py) (sq (cross dx dy px py))
  frame = record { scaled = scaled; lagrange = lagrange }
