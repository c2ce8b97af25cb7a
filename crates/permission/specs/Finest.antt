-- The test of a permission, and the finest level that permits a stretch. No public contract cites it. Assumes nothing.
use Rattle.std.specs.Prelude.{◌≡◌, Bool, List, ℕ, ◌+◌, ◌-◌, ◌≤◌, ◌<◌, leb, get_or}
use Rattle.sample.specs.Samples.{Samples}
use Rattle.geometry.specs.Test.{permits}

-- the stretch i to j of the samples is permitted at the tolerance of level k, by computing
unfoldable pub perm : Samples → List ℕ → ℕ → ℕ → ℕ → Bool
perm xs tols k i j = permits xs i j (get_or tols (k - 1) 0)

-- the tolerances of levels 1 to m rise, and none is above 65,536
pub record Rising (tols : List ℕ) (m : ℕ) : Type 0 where
  pub rise : (l : ℕ) → l + 1 < m → get_or tols l 0 < get_or tols (l + 1) 0
  pub small : (l : ℕ) → l < m → get_or tols l 0 ≤ 65536

-- r is the finest level at which the stretch i to j is permitted, and above m where there is none
pub record Finest (perm : ℕ → ℕ → ℕ → Bool) (m i j r : ℕ) : Type 0 where
  pub says : (k : ℕ) → 1 ≤ k → k ≤ m → perm k i j ≡ leb r k
