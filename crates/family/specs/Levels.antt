-- Families in the paper's words: a level is the list of its sample numbers, and `Permit k i j` says that the stretch (i, j) is permitted at level k, from 1.
-- `proofs/Levels.antt` and `proofs/Choices.antt` show that the rank form of `Family.antt` says the same. Assumes nothing.
use Rattle.std.specs.Prelude.{ℕ, zero, suc, ◌+◌, ◌-◌, ◌≤◌, ◌<◌, ◌≡◌, ◌⊎◌, cond, eqb, length}
use mathlib.Core.List.{List, [], ◌∷◌, Memᴰ as In}
use Rattle.family.specs.Lists.{none, numbers, Larger}

-- the list goes up from i to j, and each pair of neighbours in it is a stretch that P permits
pub data Chain (P : ℕ → ℕ → Type 0) (j : ℕ) : ℕ → List ℕ → Type 0 where
  end : Chain P j j (j ∷ [])
  link : {i x : ℕ} {l : List ℕ} → i < x → P i x → Chain P j x l → Chain P j i (i ∷ l)

-- the segments of the levels 1 to k together: a level has one fewer than samples
unfoldable pub size : (ℕ → List ℕ) → ℕ → ℕ
size L zero = 0
size L (suc k) = (length (L (suc k)) - 1) + size L k

-- their samples together: the families with the fewest are those with the fewest segments (`minimal_samples`)
unfoldable pub samples : (ℕ → List ℕ) → ℕ → ℕ
samples L zero = 0
samples L (suc k) = length (L (suc k)) + samples L k

-- L is chosen before M by the rule for ties, or is M: level k first, and where it is the same in both, the levels below it
unfoldable pub Preferred : ℕ → (ℕ → List ℕ) → (ℕ → List ℕ) → Type 0
Preferred zero L M = Unit {0}
Preferred (suc k) L M = Larger (L (suc k)) (M (suc k)) ⊎ ((L (suc k) ≡ M (suc k)) × Preferred k L M)

module _ (Permit : ℕ → ℕ → ℕ → Type 0) (k i j : ℕ) where
  -- L is a family of the samples i to j over the levels 1 to k: each level a chain of permitted stretches from i to j, and its samples also in the level below
  pub record Family (L : ℕ → List ℕ) : Type 0 where
    pub chain : (ℓ : ℕ) → 1 ≤ ℓ → ℓ ≤ k → Chain (Permit ℓ) j i (L ℓ)
    pub nested : (ℓ x : ℕ) → 1 ≤ ℓ → ℓ < k → In x (L (suc ℓ)) → In x (L ℓ)

  -- and no family has a smaller total
  pub record Minimal (L : ℕ → List ℕ) : Type 0 where
    pub family : Family L
    pub least : (M : ℕ → List ℕ) → Family M → size L k ≤ size M k

  -- and of those it is the choice of the rule for ties
  pub record Chosen (L : ℕ → List ℕ) : Type 0 where
    pub minimal : Minimal L
    pub preferred : (M : ℕ → List ℕ) → Minimal M → Preferred k L M

  -- v is the cost of the cell (k, i, j): the least total of a family whose level k is the single segment (i, j)
  pub record Cost (v : ℕ) : Type 0 where
    pub refused : (Permit k i j → ⊥) → v ≡ none
    pub some : Permit k i j → (L : ℕ → List ℕ) × Family L × (L k ≡ i ∷ j ∷ []) × (size L k ≡ v)
    pub every : Permit k i j → (L : ℕ → List ℕ) → Family L → L k ≡ i ∷ j ∷ [] → v ≤ size L k

-- every cell of a stretch i < j < n is its cost
abbrev pub Costs : (ℕ → ℕ → ℕ → Type 0) → (ℕ → ℕ → ℕ → ℕ) → ℕ → ℕ → Type 0
Costs Permit c m n = (k i j : ℕ) → 1 ≤ k → k ≤ m → i < j → j < n → Cost Permit k i j (c k i j)

-- the levels that ranks give the samples i to j: level ℓ is those of rank at least ℓ
unfoldable pub levels : (ℕ → ℕ) → ℕ → ℕ → ℕ → List ℕ
levels r i j ℓ = numbers r ℓ i (suc (j - i))

-- 1 where the list has x, else 0
unfoldable pub holds : List ℕ → ℕ → ℕ
holds [] x = 0
holds (a ∷ l) x = cond (eqb x a) 1 (holds l x)

-- the rank of x: how many of the levels 1 to k have it
unfoldable pub ranks : (ℕ → List ℕ) → ℕ → ℕ → ℕ
ranks L zero x = 0
ranks L (suc k) x = holds (L (suc k)) x + ranks L k x
