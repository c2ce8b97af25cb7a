-- The three cases of the distance test: where on the segment from a to b the point nearest to a sample q lies, and how far away it is. The way to the segment's end is
-- v = b - a = (dx, dy), that to the sample u = q - a = (px, py).
--
--      q                         q                          q
--       \                        |                         /
--        a---------b        a----+----b          a---------b
--
--       Beginning             Between                   End             where the nearest point lies
--        u·v ≤ 0          0 < u·v < |v|²            |v|² ≤ u·v          when
--       |u|² / 1         (u × v)² / |v|²           |u - v|² / 1         its squared distance from q, top / bottom
--
-- Assumes nothing.
use Rattle.std.specs.Prelude.{◌≡◌, cond, ℕ, ◌+◌, ◌*◌, ◌≤◌, ◌<◌, ℤ, pos, ◌+ℤ◌, ◌-ℤ◌, ◌*ℤ◌}
use Rattle.std.specs.Int.Signed.{le_z}
use Rattle.algebra.specs.Parts.{sq}
use Rattle.geometry.specs.declared.Nearest.{Nearest}
use Rattle.geometry.specs.declared.Nearest.TheVariants.{Beginning, End, Between}
use Rattle.geometry.specs.declared.Fraction.{Fraction}

-- u·v and u × v
abbrev pub dot : ℤ → ℤ → ℤ → ℤ → ℤ
dot dx dy px py = px *ℤ dx +ℤ py *ℤ dy

abbrev pub cross : ℤ → ℤ → ℤ → ℤ → ℤ
cross dx dy px py = px *ℤ dy -ℤ py *ℤ dx

-- where the nearest point lies
unfoldable pub nearest : ℤ → ℤ → ℤ → ℤ → Nearest
nearest dx dy px py =
    cond (le_z (dot dx dy px py) (pos 0)) Beginning
    (cond (le_z (pos (sq dx + sq dy)) (dot dx dy px py)) End
    Between)

-- the squared distance of the sample from there, top / bottom
abbrev pub distance_from : Nearest → ℤ → ℤ → ℤ → ℤ → Fraction
distance_from Beginning dx dy px py = record { top = sq px + sq py; bottom = 1 }
distance_from End dx dy px py = record { top = sq (px -ℤ dx) + sq (py -ℤ dy); bottom = 1 }
distance_from Between dx dy px py = record { top = sq (cross dx dy px py); bottom = sq dx + sq dy }

abbrev pub distance : ℤ → ℤ → ℤ → ℤ → Fraction
distance dx dy px py = distance_from (nearest dx dy px py) dx dy px py

-- What they mean. M r s is r² times the squared distance of the sample from the point s / r of the way along the segment, as `offset` is.

-- no point is nearer than top / bottom
abbrev pub NoneNearer : (ℕ → ℕ → ℕ) → ℕ → ℕ → Type 0
NoneNearer M top bottom = (r s : ℕ) → s ≤ r → 1 ≤ r → top * (r * r) ≤ M r s * bottom

-- none is nearer than the point s / r
abbrev pub Closest : (ℕ → ℕ → ℕ) → ℕ → ℕ → Type 0
Closest M r s = NoneNearer M (M r s) (r * r)

-- a nearest point that is neither end
pub record Inside (M : ℕ → ℕ → ℕ) : Type 0 where
  pub s : ℕ
  pub r : ℕ
  pub after : 0 < s
  pub before : s < r
  pub closest : Closest M r s

-- the nearest point lies there; that of a segment without length lies at its beginning
abbrev pub Lies : (ℕ → ℕ → ℕ) → Nearest → Type 0
Lies M Beginning = Closest M 1 0
Lies M End = (Closest M 1 0 → ⊥) × Closest M 1 1
Lies M Between = (Closest M 1 0 → ⊥) × (Closest M 1 1 → ⊥) × Inside M

-- the squared distance from the segment is top / bottom: no point is nearer, and of one it is that
pub record Exact (M : ℕ → ℕ → ℕ) (d : Fraction) : Type 0 where
  pub divides : 1 ≤ d.bottom
  pub least : NoneNearer M d.top d.bottom
  pub s : ℕ
  pub r : ℕ
  pub along : s ≤ r
  pub whole : 1 ≤ r
  pub attained : M r s * d.bottom ≡ d.top * (r * r)
