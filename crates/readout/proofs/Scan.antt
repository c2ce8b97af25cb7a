-- The scan of one level from the last sample down, which finds the chosen stop after each sample. Assumes nothing.
use mathlib.Core.Path.{◌≡◌}
use mathlib.Core.Logic.{◌⊎◌}
use mathlib.Core.List.{List}
use Prim.Native.Nat.{ℕ, ◌+◌, ◌≤◌, ◌<◌}
use lib.ListN.{length, get_or}
use Rattle.table.specs.Path.{SumAt}
use Rattle.readout.specs.Lay.{Way}

-- the scan of a level from the last sample down: j is the first sample from x on of a level above k, or the last
pub record Scan (c : ℕ → ℕ → ℕ) (f : ℕ → ℕ) (k n x j : ℕ) (sums to : List ℕ) : Type 0 where
  pub room_sums : length sums ≡ 256
  pub room_to : length to ≡ 256
  pub within : x ≤ j
  pub inside : j < n
  pub held : (j + 1 ≡ n) ⊎ (k < f j)
  pub clear : (y : ℕ) → x ≤ y → y < j → f y ≤ k
  pub sum_at : (y : ℕ) → x ≤ y → y < j → SumAt c y j (get_or sums y 0)
  pub way : (y : ℕ) → x ≤ y → y + 1 < n → Way c f k n y (get_or to y 0)
