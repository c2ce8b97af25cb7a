-- What the code that judges samples asks of them, and what its sweeps find: coordinates in range, the first and the last marked sample. Only contracts below the calls cite
-- it. Assumes nothing.
use Rattle.std.specs.Prelude.{ℕ, ◌≤◌, ◌<◌, ◌≡◌, ◌⊎◌, List, []}
use Rattle.sample.specs.Coordinate.{InRange}
use Rattle.sample.specs.Mark.{Marked}
use Rattle.sample.specs.Samples.{Samples}

-- the coordinates of the first n samples are there, and in range
pub record Ranged (xs : Samples) (n : ℕ) : Type 0 where
  pub across : InRange xs.across n
  pub up : InRange xs.up n

-- r is the lowest marked sample of those from a on and below j, or j where there is none
pub record FirstMarked (ms : List ℕ) (a j r : ℕ) : Type 0 where
  pub there : ((r < j) × Marked ms r) ⊎ (r ≡ j)
  pub from : a ≤ r
  pub lowest : (k : ℕ) → a ≤ k → k < r → Marked ms k → ⊥

-- r is the highest marked sample below j, or 0 where there is none
pub record LastMarked (ms : List ℕ) (j r : ℕ) : Type 0 where
  pub there : ((r < j) × Marked ms r) ⊎ (r ≡ 0)
  pub highest : (k : ℕ) → r < k → k < j → Marked ms k → ⊥

-- marks of which none is set: by them distances alone decide
abbrev pub no_marks : List ℕ
no_marks = []
