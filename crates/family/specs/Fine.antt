-- Check 5 of the table. Assumes nothing.
use Rattle.std.specs.Prelude.{ℕ, ◌+◌, ◌-◌, ◌*◌, ◌≤◌, ◌<◌, ◌≡◌, ◌⊎◌}
use Rattle.family.specs.Lists.{none}

-- the cell of level k and a stretch i to j may hold v: `none`, where i and j are not adjacent, or from k to 1 + (k - 1) (j - i)
abbrev pub Fine : ℕ → ℕ → ℕ → ℕ → Type 0
Fine k i j v = ((v ≡ none) × (i + 1 < j)) ⊎ ((k ≤ v) × (v ≤ 1 + (k - 1) * (j - i)))

-- every cell of a stretch i < j < n
abbrev pub Checked : (ℕ → ℕ → ℕ → ℕ) → ℕ → ℕ → Type 0
Checked c m n = (k i j : ℕ) → 1 ≤ k → k ≤ m → i < j → j < n → Fine k i j (c k i j)
