-- A path over the cells of one level, as code finds it. Assumes nothing.
use Rattle.std.specs.Prelude.{◌≡◌, ℕ, ◌≤◌}
use Rattle.family.specs.Family.{least, next}

-- the least sum of a path from p to j; it is at most the cost of the one step
pub record SumAt (c : ℕ → ℕ → ℕ) (p j sum : ℕ) : Type 0 where
  pub is : sum ≡ least c p j
  pub small : sum ≤ 65535

-- and the chosen stop after p
pub record Stopped (c : ℕ → ℕ → ℕ) (p j sum to : ℕ) : Type 0 where
  pub sum_at : SumAt c p j sum
  pub to_is : to ≡ next c p j
