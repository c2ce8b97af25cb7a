-- What a read-out and its steps leave, by ranks: `proofs/Meaning.antt` joins it to the paper's words. Assumes nothing.
use Rattle.std.specs.Prelude.{◌≡◌, ◌⊎◌, List, ℕ, ◌+◌, ◌-◌, ◌≤◌, ◌<◌, max, length, get_or}
use Rattle.family.specs.Lists.{Neighbours}
use Rattle.family.specs.Family.{segments, total, next, Readout}
use Rattle.table.specs.Table.{cell}
use Rattle.readout.specs.Read.{rank}

-- from r to e the ranks of n samples, read out over m levels of the table t with room for N samples, are written and nothing else
pub record Ranked (t : List ℕ) (N m n : ℕ) (r e : List ℕ) : Type 0 where
  pub same : length e ≡ length r
  pub readout : Readout (cell t N) m n (rank e)
  pub other : (x : ℕ) → n ≤ x → rank e x ≡ rank r x

-- the segments of each of the first m levels of n samples with ranks r, 0 past m, and their total
pub record Counted (r : ℕ → ℕ) (m n : ℕ) (per : List ℕ) (sum : ℕ) : Type 0 where
  pub room : length per ≡ 16
  pub level : (k : ℕ) → 1 ≤ k → k ≤ m → get_or per (k - 1) 0 ≡ segments r k 0 (n - 1)
  pub past : (x : ℕ) → m ≤ x → get_or per x 0 ≡ 0
  pub all : sum ≡ total r m 0 (n - 1)

-- a read-out: the ranks are written, and the counts are those of the ranks written
pub record ReadBy (t : List ℕ) (N m n : ℕ) (r e per : List ℕ) (sum : ℕ) : Type 0 where
  pub ranks : Ranked t N m n r e
  pub counts : Counted (rank e) m n per sum

-- ---- the steps of it: only private functions' contracts cite the rest
-- j is the first sample after p of a level above k, or the last sample
pub record Above (f : ℕ → ℕ) (k n p j : ℕ) : Type 0 where
  pub after : p < j
  pub inside : j < n
  pub held : (j + 1 ≡ n) ⊎ (k < f j)
  pub clear : (x : ℕ) → p < x → x < j → f x ≤ k

-- the chosen stop after p on the way to the first sample of a level above k
pub record Way (c : ℕ → ℕ → ℕ) (f : ℕ → ℕ) (k n p to : ℕ) : Type 0 where
  pub end : ℕ
  pub above : Above f k n p end
  pub goes : to ≡ next c p end

-- level k of the n samples that the ranks f say, up to the sample u: each pair of neighbours is on the chosen path
pub record LaidTo (c : ℕ → ℕ → ℕ) (k n u : ℕ) (f : ℕ → ℕ) : Type 0 where
  pub step : (p q j : ℕ) → p < u → q < n → Neighbours f k p q → Above f k n p j → q ≡ next c p j

-- from the ranks f to the ranks g a level k is laid up to u: ranks 0 may become k, after u nothing has changed
pub record Laying (c : ℕ → ℕ → ℕ) (k n u : ℕ) (f g : ℕ → ℕ) : Type 0 where
  pub grown : (x : ℕ) → (g x ≡ f x) ⊎ ((f x ≡ 0) × (g x ≡ k))
  pub ahead : (x : ℕ) → u < x → g x ≡ f x
  pub here : k ≤ g u
  pub inside : u < n
  pub laid : LaidTo c k n u g

-- what a level needs of the ranks that it starts from: both ends, and of what is between only samples of the levels above
pub record Bare (k n : ℕ) (f : ℕ → ℕ) : Type 0 where
  pub first : k ≤ f 0
  pub last : (x : ℕ) → x + 1 ≡ n → k ≤ f x
  pub between : (x : ℕ) → 0 < x → x + 1 < n → (f x ≡ 0) ⊎ (k < f x)

-- the rank of q is raised to k
pub record Marked (q k : ℕ) (r e : List ℕ) : Type 0 where
  pub same : length e ≡ length r
  pub raised : rank e q ≡ max (rank r q) k
  pub other : (x : ℕ) → (x ≡ q → ⊥) → rank e x ≡ rank r x

-- both ends of n samples have rank m and those between rank 0, and nothing else has changed
pub record Started (m n : ℕ) (r e : List ℕ) : Type 0 where
  pub same : length e ≡ length r
  pub first : rank e 0 ≡ m
  pub last : (x : ℕ) → x + 1 ≡ n → rank e x ≡ m
  pub between : (x : ℕ) → 0 < x → x + 1 < n → rank e x ≡ 0
  pub other : (x : ℕ) → n ≤ x → rank e x ≡ rank r x
