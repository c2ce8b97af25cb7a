-- What the distance test works out, of ways between samples in range, fits the numbers that hold it. Assumes nothing.
use mathlib.Core.Path.{◌≡◌, refl, ◌∙◌}
use Prim.Native.Nat.{◌+◌, ◌≤◌, ◌<◌}
use native.Mathlib.Nat.{mul-le-mul}
use native.Mathlib.Omega.{arith}
use lib.IntN.{ℤ, pos, nat_abs, ◌+ℤ◌, ◌-ℤ◌, ◌*ℤ◌}
use lib.Signed.{mag}
use mir.Syntax.{w16, w64}
use mir.Val.{SFits, to_z, of_z}
use mir.Facts.{to_z-of_z}
use Rattle.algebra.specs.Parts.{sq}
use Rattle.algebra.proofs.Parts.{size_add, size_sub, size_mul, size_fits, square_is}
use Rattle.sample.proofs.Move.{narrow, wide}
use Rattle.sample.specs.Coordinate.{Coord}
use Rattle.geometry.specs.Nearest.{dot, cross}
use Rattle.geometry.specs.Way.{Way}

-- ---- between samples
pub way_size : {a b : ℤ} → Coord a → Coord b → nat_abs (b -ℤ a) ≤ 32768
way_size {a} {b} h g = omega (arith, size_sub b a, h.low, g.low)

-- ---- what the code works out fits a signed 64-bit number
pub way_fits : {a b : ℤ} → Coord a → Coord b → SFits w64 (b -ℤ a)
way_fits {a} {b} h g = size_fits (b -ℤ a) (omega (arith, way_size h g))

product_size : (a b : ℤ) → nat_abs a ≤ 32768 → nat_abs b ≤ 32768 → nat_abs (a *ℤ b) ≤ 1073741824
product_size a b h g = omega (arith, size_mul a b, mul-le-mul h g)

-- a number that was handed on by its bits
abbrev pub back : ℤ → ℤ
back z = to_z w64 (of_z w64 z)

pub handed : (z : ℤ) → mag z < 9223372036854775808 → back z ≡ z
handed z h = to_z-of_z {w = w64} (record { sfits = h })

product_back : (a b : ℤ) → nat_abs a ≤ 32768 → nat_abs b ≤ 32768 → back (a *ℤ b) ≡ a *ℤ b
product_back a b h g = to_z-of_z (size_fits (a *ℤ b) (omega (arith, product_size a b h g)))

-- the way between two coordinates, read from their bits
abbrev pub read : ℤ → ℤ
read z = back (to_z w16 (of_z w16 z))

pub way_back : {a b : ℤ} → Coord a → Coord b → back (read b -ℤ read a) ≡ b -ℤ a
way_back h g = rw (to_z-of_z (narrow h), to_z-of_z (narrow g), to_z-of_z (wide h), to_z-of_z (wide g), to_z-of_z (way_fits h g)) refl

pub way_small : {a b : ℤ} → Coord a → Coord b → nat_abs (back (read b -ℤ read a)) ≤ 32768
way_small h g = rw (way_back h g) (way_size h g)

-- the square of a number that was handed on so
module _ (z : ℤ) (h : nat_abs z ≤ 2147483648) where
  square_of : back z *ℤ back z ≡ pos (sq z)
  square_of = rw (to_z-of_z (size_fits z (omega arith))) (square_is z)

  pub square_size : sq z ≤ 4611686018427387904
  square_size = omega (arith, mul-le-mul h h)

  pub square_fits : SFits w64 (back z *ℤ back z)
  square_fits = rw square_of (size_fits (pos (sq z)) (omega (arith, square_size)))

  pub square_back : back (back z *ℤ back z) ≡ pos (sq z)
  square_back = to_z-of_z square_fits ∙ square_of

-- a sum of two squares, each step of it handed on so
module _ (x y : ℤ) (h : nat_abs x ≤ 65536) (g : nat_abs y ≤ 65536) where
  pub squares_size : sq x + sq y ≤ 8589934592
  squares_size = omega (arith, mul-le-mul h h, mul-le-mul g g)

  pub squares_sum : back (back x *ℤ back x) +ℤ back (back y *ℤ back y) ≡ pos (sq x + sq y)
  squares_sum = rw (square_back x (omega arith), square_back y (omega arith)) refl

  pub squares_back : back (back (back x *ℤ back x) +ℤ back (back y *ℤ back y)) ≡ pos (sq x + sq y)
  squares_back = rw squares_sum (to_z-of_z (size_fits (pos (sq x + sq y)) (omega (arith, squares_size))))

  pub squares_fit : sq x + sq y < 18446744073709551616
  squares_fit = omega (arith, squares_size)

-- what the code works out of the ways to the segment's end and to the sample, each step of it handed on so
module _ {dx dy px py : ℤ} (w : Way dx dy) (v : Way px py) where
  pub ways_back : (back dx ≡ dx) × (back dy ≡ dy) × (back px ≡ px) × (back py ≡ py)
  ways_back = (handed_on dx w.across, handed_on dy w.up, handed_on px v.across, handed_on py v.up)
    where
      handed_on : (z : ℤ) → nat_abs z ≤ 32768 → back z ≡ z
      handed_on z l = to_z-of_z (size_fits z (omega arith))

  -- from the segment's end to the sample
  pub past_back : (back (back px -ℤ back dx) ≡ px -ℤ dx) × (back (back py -ℤ back dy) ≡ py -ℤ dy)
  past_back =
      let e = ways_back in (
        rw (e.0, e.2) (to_z-of_z (size_fits (px -ℤ dx) (omega (arith, size_sub px dx, w.across, v.across)))),
        rw (e.1, e.3) (to_z-of_z (size_fits (py -ℤ dy) (omega (arith, size_sub py dy, w.up, v.up)))),
      )

  pub dot_size : nat_abs (dot dx dy px py) ≤ 2147483648
  dot_size =
      omega (arith, size_add (px *ℤ dx) (py *ℤ dy), product_size px dx v.across w.across, product_size py dy v.up w.up)

  dot_sum : back (back px *ℤ back dx) +ℤ back (back py *ℤ back dy) ≡ dot dx dy px py
  dot_sum = let e = ways_back in rw (e.0, e.1, e.2, e.3, product_back px dx v.across w.across, product_back py dy v.up w.up) refl

  pub dot_fits : SFits w64 (back (back px *ℤ back dx) +ℤ back (back py *ℤ back dy))
  dot_fits = rw dot_sum (size_fits (dot dx dy px py) (omega (arith, dot_size)))

  pub dot_back : back (back (back px *ℤ back dx) +ℤ back (back py *ℤ back dy)) ≡ dot dx dy px py
  dot_back = to_z-of_z dot_fits ∙ dot_sum

  pub cross_size : nat_abs (cross dx dy px py) ≤ 2147483648
  cross_size =
      omega (arith, size_sub (px *ℤ dy) (py *ℤ dx), product_size px dy v.across w.up, product_size py dx v.up w.across)

  cross_rest : back (back px *ℤ back dy) -ℤ back (back py *ℤ back dx) ≡ cross dx dy px py
  cross_rest = let e = ways_back in rw (e.0, e.1, e.2, e.3, product_back px dy v.across w.up, product_back py dx v.up w.across) refl

  pub cross_fits : SFits w64 (back (back px *ℤ back dy) -ℤ back (back py *ℤ back dx))
  cross_fits = rw cross_rest (size_fits (cross dx dy px py) (omega (arith, cross_size)))

  pub cross_back : back (back (back px *ℤ back dy) -ℤ back (back py *ℤ back dx)) ≡ cross dx dy px py
  cross_back = to_z-of_z cross_fits ∙ cross_rest
