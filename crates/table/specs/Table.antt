-- The table: where a cell stands, and what it means that exactly some cells were written. Levels are from 1. Assumes nothing.
use Rattle.std.specs.Prelude.{◌≡◌, List, ℕ, ◌+◌, ◌-◌, ◌*◌, length, get_or}
use Rattle.table.specs.declared.Table.{Table}

-- the address of the cell of level k and stretch i to j, with room for N samples
abbrev pub at : ℕ → ℕ → ℕ → ℕ → ℕ
at N k i j = (k - 1) * (N * N) + i * N + j

-- what the table t holds there
abbrev pub cell : List ℕ → ℕ → ℕ → ℕ → ℕ → ℕ
cell t N k i j = get_or t (at N k i j) 0

-- what a table that is lent holds there
abbrev pub costs : Table → ℕ → ℕ → ℕ → ℕ
costs t = cell t.cells.now t.capacity

-- from t to e exactly the cells that S names are written, with the values G; every other address holds what it held
pub record Wrote (N : ℕ) (S : ℕ → ℕ → ℕ → Type 0) (G : ℕ → ℕ → ℕ → ℕ) (t e : List ℕ) : Type 0 where
  pub same : length e ≡ length t
  pub named : (k i j : ℕ) → S k i j → cell e N k i j ≡ G k i j
  pub other : (a : ℕ) → ((k i j : ℕ) → S k i j → a ≡ at N k i j → ⊥) → get_or e a 0 ≡ get_or t a 0
