-- What the walk asks and leaves, by tests and values: `proofs/Meaning.antt` joins it to the paper's words. Assumes nothing.
use Rattle.std.specs.Prelude.{◌≡◌, Bool, cond, List, ◌⊎◌, ℕ, suc, ◌≤◌, ◌<◌, leb, get_or}
use Rattle.family.specs.Lists.{none}
use Rattle.family.specs.Family.{value}
use Rattle.table.specs.Table.{cell, Wrote}

-- the cells of adjacent samples without sample v, of n samples at levels 1 to m, hold at most their level
abbrev pub LowSteps : List ℕ → ℕ → ℕ → ℕ → ℕ → Type 0
LowSteps t N m v n = (k x : ℕ) → 1 ≤ k → k ≤ m → suc x < n → (suc x < v) ⊎ (v < x) → cell t N k x (suc x) ≤ k

-- from t to e exactly the cells that S names are written, each with its value over the cells of e; every other address holds what it held
abbrev pub Rewritten : ℕ → (ℕ → ℕ → ℕ → Bool) → (ℕ → ℕ → ℕ → Type 0) → List ℕ → List ℕ → Type 0
Rewritten N perm S t e = Wrote N S (value perm (cell e N)) t e

-- ---- one end and one level at a time: only private functions' contracts cite the rest
-- the cells of level k and end j, from the starts below top; and of the levels 1 to m
abbrev pub Row : ℕ → ℕ → ℕ → ℕ → ℕ → ℕ → Type 0
Row k j top k' i j' = (k' ≡ k) × (j' ≡ j) × (i < top)

abbrev pub Rows : ℕ → ℕ → ℕ → ℕ → ℕ → ℕ → Type 0
Rows m j top k i j' = (1 ≤ k) × (k ≤ m) × (j' ≡ j) × (i < top)

-- the permissions that the finest levels of the starts say
unfoldable pub from_finest : List ℕ → ℕ → ℕ → ℕ → Bool
from_finest finest k i j = leb (get_or finest i 0) k

-- what a cell of level k is to hold, by the finest level of its stretch and the least sum below
unfoldable pub price : ℕ → ℕ → ℕ → ℕ
price k finest rest = cond (leb finest k) (suc rest) none

-- the cells of neighbours up to j that the rows of end j do not have hold at most their level
abbrev pub Settled : List ℕ → ℕ → ℕ → ℕ → ℕ → Type 0
Settled t N m j top = (k x : ℕ) → 1 ≤ k → k ≤ m → suc x ≤ j → (suc x < j) ⊎ (top ≤ x) → cell t N k x (suc x) ≤ k
