-- Levels of ranks: neighbours in a level, the list of its sample numbers, and which of two lists the rule for ties prefers. Assumes nothing.
use Rattle.std.specs.Prelude.{ℕ, zero, suc, ◌≤◌, ◌<◌, ◌≡◌, ◌⊎◌, cond, List, [], ◌∷◌, leb}

-- what a cell holds when its stretch is not permitted
abbrev pub none : ℕ
none = 65535

-- level ℓ of ranks r is the samples of rank at least ℓ; p and q are neighbours in it: both in it, and nothing in it strictly between
pub record Neighbours (r : ℕ → ℕ) (ℓ p q : ℕ) : Type 0 where
  pub order : p < q
  pub left : ℓ ≤ r p
  pub right : ℓ ≤ r q
  pub between : (x : ℕ) → p < x → x < q → r x < ℓ

-- the numbers of the samples of level ℓ, of the d samples from x on
unfoldable pub numbers : (ℕ → ℕ) → ℕ → ℕ → ℕ → List ℕ
numbers r ℓ x zero = []
numbers r ℓ x (suc d) = cond (leb ℓ (r x)) (x ∷ numbers r ℓ (suc x) d) (numbers r ℓ (suc x) d)

-- at the first place where the two lists differ, the first has the larger number
abbrev pub Larger : List ℕ → List ℕ → Type 0
Larger [] v = ⊥
Larger (a ∷ u) [] = ⊥
Larger (a ∷ u) (b ∷ v) = (b < a) ⊎ ((a ≡ b) × Larger u v)
