-- Paths over the cells of one level, as lists of sample numbers, the best of them by sum and the rule for ties; what a call writes and how any table is read out, by such paths.
-- `proofs/Foreign.antt` shows that these are `value` and `Readout` of `Family.antt`. Assumes nothing.
use Rattle.std.specs.Prelude.{ℕ, suc, ◌+◌, ◌-◌, ◌≤◌, ◌<◌, ◌≡◌, ◌⊎◌, List, [], ◌∷◌}
use Rattle.family.specs.Lists.{none, Neighbours, numbers, Larger}

-- a path from p to j over cells of one level, none of them `none`: its sample numbers and its sum
pub data Path (c : ℕ → ℕ → ℕ) (j : ℕ) : ℕ → List ℕ → ℕ → Type 0 where
  done : Path c j j (j ∷ []) 0
  step : {p q v : ℕ} {l : List ℕ} → p < q → c p q < none → Path c j q l v → Path c j p (p ∷ l) (c p q + v)

-- l is the path of least sum from p to j, and of those the choice of the rule for ties
pub record Best (c : ℕ → ℕ → ℕ) (p j : ℕ) (l : List ℕ) : Type 0 where
  pub sum : ℕ
  pub path : Path c j p l sum
  pub least_sum : (k : List ℕ) (v : ℕ) → Path c j p k v → sum ≤ v
  pub tie : (k : List ℕ) → Path c j p k sum → (l ≡ k) ⊎ Larger l k

-- v is the least sum of a path from p to j
pub record LeastSum (c : ℕ → ℕ → ℕ) (p j v : ℕ) : Type 0 where
  pub some : (l : List ℕ) × Path c j p l v
  pub every : (l : List ℕ) (w : ℕ) → Path c j p l w → v ≤ w

-- v is what a call writes into the cell (k, i, j) over the cells c: `none` where the stretch is not permitted, else 1 at level 1 and above it 1 plus the least sum of a path through the stretch over the level below
pub record Written (Permit : ℕ → ℕ → ℕ → Type 0) (c : ℕ → ℕ → ℕ → ℕ) (k i j v : ℕ) : Type 0 where
  pub refused : (Permit k i j → ⊥) → v ≡ none
  pub finest : Permit k i j → k ≡ 1 → v ≡ 1
  pub above : Permit k i j → (ℓ : ℕ) → 1 ≤ ℓ → k ≡ suc ℓ → (s : ℕ) × LeastSum (c ℓ) i j s × (v ≡ suc s)

-- the ranks r of n samples are read from level m down: level m is the best path from the first sample to the last, and each level below is, between neighbours u, v of the level above, the best path from u to v
pub record ReadsBest (c : ℕ → ℕ → ℕ → ℕ) (m n : ℕ) (r : ℕ → ℕ) : Type 0 where
  pub first : r 0 ≡ m
  pub last : r (n - 1) ≡ m
  pub highest : (x : ℕ) → x < n → r x ≤ m
  pub top : Best (c m) 0 (n - 1) (numbers r m 0 n)
  pub lower : (ℓ u v : ℕ) → 1 ≤ ℓ → ℓ < m → v < n → Neighbours r (suc ℓ) u v → Best (c ℓ) u v (numbers r ℓ u (suc (v - u)))
