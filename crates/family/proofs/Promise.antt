-- Demand 2 in the paper's words: a table is genuine exactly when every cell is its cost, and then the read-out is the chosen minimal family. Assumes nothing.
use Prim.Native.Nat.{ℕ, suc, ◌-◌, ◌*◌, ◌≤◌, ◌<◌}
use mathlib.Core.Path.{◌≡◌}
use mathlib.Core.Logic.{◌↔◌}
use mathlib.Core.Bool.{Bool, true}
use Rattle.refusal.specs.Check.{Decides}
use Rattle.family.specs.Family.{Costs, Genuine, Readout}
use Rattle.family.specs.Lists.{none}
use Rattle.family.specs.Levels as Levels
use Rattle.family.specs.Levels.{levels}
use Rattle.family.proofs.Costs.{genuine_costs, costs_genuine}
use Rattle.family.proofs.Readouts.{readout_chosen}
use Rattle.family.proofs.Levels.{cost_levels}
use Rattle.family.proofs.Choices.{chosen_levels}

module _ (Permit : ℕ → ℕ → ℕ → Type 0) (perm : ℕ → ℕ → ℕ → Bool) (near : (k i : ℕ) → perm k i (suc i) ≡ true) (m n : ℕ) (room : m * n < none)
    (decides : (k i j : ℕ) → 1 ≤ k → k ≤ m → i < j → j < n → Decides (Permit k i j) (perm k i j)) (c : ℕ → ℕ → ℕ → ℕ) where
  pub genuine_meant : Genuine perm c m n ↔ Levels.Costs Permit c m n
  unfolding Costs
  genuine_meant = (
    λ g k i j a b o h. (cost_levels Permit perm m n decides k i j (c k i j) a b o h).0 (genuine_costs perm near c m n room g k i j a b o h),
    λ C. costs_genuine perm near c m n room (λ k i j a b o h. (cost_levels Permit perm m n decides k i j (c k i j) a b o h).1 (C k i j a b o h)),
  )

  -- the ranks that are read from the costs are the chosen one of the minimal families
  pub read_promised : 0 < n → Levels.Costs Permit c m n → (r : ℕ → ℕ) → Readout c m n r → Levels.Chosen Permit m 0 (n - 1) (levels r 0 (n - 1))
  read_promised some C r R =
      (chosen_levels Permit perm m n decides some r R.highest).0 (readout_chosen perm near c m n room (genuine_meant.1 C) some r R)
