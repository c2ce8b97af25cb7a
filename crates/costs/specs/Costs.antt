-- The permissions of a trace, the cells that a call about a sample names, what it writes into them, and how many they are. Assumes nothing.
use Rattle.std.specs.Prelude.{◌≡◌, Bool, ◌&&◌, cond, List, ℕ, zero, suc, ◌+◌, ◌-◌, ◌≤◌, ◌<◌, leb, ltb, length, get_or}
use Rattle.sample.specs.Samples.{Samples}
use Rattle.geometry.specs.Near.{Permitted}
use Rattle.family.specs.Path.{Written}
use Rattle.table.specs.Table.{at, cell}

-- the stretch i to j of the samples is permitted at the tolerance of level k
abbrev pub Permit : Samples → List ℕ → ℕ → ℕ → ℕ → Type 0
Permit xs tols k i j = Permitted xs i j (get_or tols (k - 1) 0)

-- the cells that a call about sample v names, of n samples at levels 1 to m: those of stretches with v
abbrev pub Named : ℕ → ℕ → ℕ → ℕ → ℕ → ℕ → Type 0
Named m v n k i j = (1 ≤ k) × (k ≤ m) × (i ≤ v) × (v ≤ j) × (i < j) × (j < n)

-- from t to e exactly the named cells are written, each with what the paper says over the cells of e, those of this call as written and all others as found; every other address holds what it held
pub record CellsWritten (N : ℕ) (Permit : ℕ → ℕ → ℕ → Type 0) (m v n : ℕ) (t e : List ℕ) : Type 0 where
  pub same : length e ≡ length t
  pub named : (k i j : ℕ) → Named m v n k i j → Written Permit (cell e N) k i j (cell e N k i j)
  pub other : (a : ℕ) → ((k i j : ℕ) → Named m v n k i j → a ≡ at N k i j → ⊥) → get_or e a 0 ≡ get_or t a 0

-- whether a cell is named (`proofs/Tally.antt` shows that the test decides `Named`)
abbrev pub named_test : ℕ → ℕ → ℕ → ℕ → ℕ → ℕ → Bool
named_test m v n k i j = leb 1 k && (leb k m && (leb i v && (leb v j && (ltb i j && ltb j n))))

-- the sum of f below n
unfoldable pub sum : ℕ → (ℕ → ℕ) → ℕ
sum zero f = 0
sum (suc n) f = sum n f + f n

-- how many cells are named, counted one by one
unfoldable pub named : ℕ → ℕ → ℕ → ℕ
named m v n = sum m (λ l. sum n (λ j. sum n (λ i. cond (named_test m v n (suc l) i j) 1 0)))
