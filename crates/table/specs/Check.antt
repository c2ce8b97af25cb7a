-- Check 5 of the cells, as tests; proofs/Check.antt has the law that joins them to the plain words. Assumes nothing.
use Rattle.std.specs.Prelude.{Bool, ◌&&◌, ◌||◌, List, ℕ, ◌+◌, ◌-◌, ◌*◌, ltb, eqb, get_or}
use Rattle.refusal.specs.Check.{all_below, from_to}
use Rattle.family.specs.Lists.{none}
use Rattle.table.specs.Table.{at}

-- a cell of level k and a stretch of so many steps: 65,535, but not of neighbours, or from k to 1 + (k - 1) steps
unfoldable pub cell_ok : ℕ → ℕ → ℕ → Bool
cell_ok k steps v = eqb v none && ltb 1 steps || from_to k (1 + (k - 1) * steps) v

-- that of a stretch that is not of neighbours, by the most that it may be
unfoldable pub long_ok : ℕ → ℕ → ℕ → Bool
long_ok k most v = eqb v none || from_to k most v

-- the cells of stretches of 1, 2, .. steps from one sample, which stand one after another; of all samples; of levels 1 to m
unfoldable pub row_ok : List ℕ → ℕ → ℕ → ℕ → Bool
row_ok t base k count = all_below count (λ d. cell_ok k (d + 1) (get_or t (base + d) 0))

unfoldable pub level_ok : List ℕ → ℕ → ℕ → ℕ → Bool
level_ok t N n k = all_below (n - 1) (λ i. row_ok t (at N k i (i + 1)) k (n - (i + 1)))

unfoldable pub cells_ok : List ℕ → ℕ → ℕ → ℕ → Bool
cells_ok t N n m = all_below m (λ l. level_ok t N n (l + 1))
