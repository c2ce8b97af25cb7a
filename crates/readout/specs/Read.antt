-- What a read-out leaves: the ranks written, and the counts of segments. Levels are from 1. Assumes nothing.
use Rattle.std.specs.Prelude.{◌≡◌, List, ℕ, ◌-◌, ◌≤◌, length, get_or}
use Rattle.family.specs.Path.{ReadsBest}
use Rattle.family.specs.Levels.{levels, size}
use Rattle.table.specs.Table.{cell}

-- a rank buffer as ranks of samples
abbrev pub rank : List ℕ → ℕ → ℕ
rank e x = get_or e x 0

-- from r to e the ranks of n samples are written, read out over m levels of the table t with room for N samples, and no other byte: each level is the best path between
-- neighbours of the level above; the counts are those of the lists of sample numbers written
pub record RanksRead (t : List ℕ) (N m n : ℕ) (r e per : List ℕ) (sum : ℕ) : Type 0 where
  pub same : length e ≡ length r
  pub best : ReadsBest (cell t N) m n (rank e)
  pub other : (x : ℕ) → n ≤ x → rank e x ≡ rank r x
  pub room : length per ≡ 16
  pub level : (k : ℕ) → 1 ≤ k → k ≤ m → get_or per (k - 1) 0 ≡ length (levels (rank e) 0 (n - 1) k) - 1
  pub past : (x : ℕ) → m ≤ x → get_or per x 0 ≡ 0
  pub all : sum ≡ size (levels (rank e) 0 (n - 1)) m
