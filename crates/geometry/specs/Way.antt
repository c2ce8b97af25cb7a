-- The same geometry by ways from a segment's beginning. No public contract cites it. Assumes nothing.
use Rattle.std.specs.Prelude.{List, ℕ, ◌+◌, ◌*◌, ◌≤◌, ℤ, pos, nat_abs, ◌-ℤ◌, ◌*ℤ◌, get_or}
use Rattle.algebra.specs.Parts.{sq}

-- the way from sample i to sample k, across or up
abbrev pub way : List ℤ → ℕ → ℕ → ℤ
way xs i k = get_or xs k (pos 0) -ℤ get_or xs i (pos 0)

-- a way between two samples in range
pub record Way (dx dy : ℤ) : Type 0 where
  pub across : nat_abs dx ≤ 32768
  pub up : nat_abs dy ≤ 32768

-- `offset`, of the ways (dx, dy) to the segment's end and (px, py) to the sample
abbrev pub offset_by : ℤ → ℤ → ℤ → ℤ → ℕ → ℕ → ℕ
offset_by dx dy px py r s = sq (pos r *ℤ px -ℤ pos s *ℤ dx) + sq (pos r *ℤ py -ℤ pos s *ℤ dy)

-- a point within reach, a squared tolerance
pub record Close (M : ℕ → ℕ → ℕ) (reach : ℕ) : Type 0 where
  pub s : ℕ
  pub r : ℕ
  pub along : s ≤ r
  pub whole : 1 ≤ r
  pub within : M r s ≤ reach * (r * r)

-- `Near`, by those ways
abbrev pub NearBy : ℤ → ℤ → ℤ → ℤ → ℕ → Type 0
NearBy dx dy px py = Close (offset_by dx dy px py)
