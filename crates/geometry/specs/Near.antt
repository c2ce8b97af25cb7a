-- The geometry, exactly: when a sample lies within a tolerance of a segment, and when a stretch is permitted. Assumes nothing.
use Rattle.std.specs.Prelude.{List, ℕ, ◌+◌, ◌*◌, ◌≤◌, ◌<◌, ℤ, pos, ◌-ℤ◌, ◌*ℤ◌, get_or}
use Rattle.algebra.specs.Parts.{sq}
use Rattle.sample.specs.Mark.{Marked}
use Rattle.sample.specs.Samples.{Samples}

-- the squared length of r·(q - a) - s·(b - a)
abbrev pub offset : ℤ → ℤ → ℤ → ℤ → ℤ → ℤ → ℕ → ℕ → ℕ
offset ax ay bx by qx qy r s =
    sq (pos r *ℤ (qx -ℤ ax) -ℤ pos s *ℤ (bx -ℤ ax)) + sq (pos r *ℤ (qy -ℤ ay) -ℤ pos s *ℤ (by -ℤ ay))

-- a point of the closed segment from a to b, the fraction s / r of the way along, lies within e of q
pub record Near (ax ay bx by qx qy : ℤ) (e : ℕ) : Type 0 where
  pub s : ℕ
  pub r : ℕ
  pub along : s ≤ r
  pub whole : 1 ≤ r
  pub within : offset ax ay bx by qx qy r s ≤ e * e * (r * r)

-- sample k is near the segment from sample i to sample j
abbrev pub Along : List ℤ → List ℤ → ℕ → ℕ → ℕ → ℕ → Type 0
Along xs ys i j e k =
    Near (get_or xs i (pos 0)) (get_or ys i (pos 0)) (get_or xs j (pos 0)) (get_or ys j (pos 0)) (get_or xs k (pos 0)) (get_or ys k (pos 0)) e

-- that segment may pass over sample k: it is not marked, and near
abbrev pub Passable : Samples → ℕ → ℕ → ℕ → ℕ → Type 0
Passable xs i j e k = (Marked xs.marks k → ⊥) × Along xs.across xs.up i j e k

-- and over each sample strictly between i and j; the marks of i and j do not count
pub record Permitted (xs : Samples) (i j e : ℕ) : Type 0 where
  pub each : (k : ℕ) → i < k → k < j → Passable xs i j e k
