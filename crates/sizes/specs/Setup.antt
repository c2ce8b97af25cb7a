-- How large a trace is: the ranges, refusals 1 and 2, the tolerances that start keeps, and how many samples are held. Assumes nothing.
use Rattle.std.specs.Prelude.{cond, List, ◌++◌, ℕ, ◌+◌, ◌-◌, ◌≤◌, ◌<◌, ltb, get_or, take, replicate}
use Rattle.refusal.specs.Check.{First}

-- levels and capacity are in range
abbrev pub Sized : ℕ → ℕ → Type 0
Sized m N = (1 ≤ m) × (m ≤ 16) × (2 ≤ N) × (N ≤ 256)

-- the tolerances of levels 1 to m are in range, each larger than the one before; those past m are not spoken of
pub record Tolerances (m : ℕ) (tols : List ℕ) : Type 0 where
  pub low : (l : ℕ) → l < m → 1 ≤ get_or tols l 0
  pub high : (l : ℕ) → l < m → get_or tols l 0 ≤ 32768
  pub rise : (l : ℕ) → l + 1 < m → get_or tols l 0 < get_or tols (l + 1) 0

-- 1 and 2, of every call
abbrev pub SetupNumber : ℕ → ℕ → List ℕ → (ℕ → Type 0) → ℕ → Type 0
SetupNumber m N tols rest = First 1 (Sized m N → ⊥) (First 2 (Tolerances m tols → ⊥) rest)

-- the first m tolerances, then zeros up to 16
abbrev pub kept : ℕ → List ℕ → List ℕ
kept m tols = take m tols ++ replicate (16 - m) 0

-- how many samples are held once sample v is put among n: as many for a correction, where v is below n, and one more for an addition, where v is n
abbrev pub held_with : ℕ → ℕ → ℕ
held_with n v = cond (ltb v n) n (n + 1)
