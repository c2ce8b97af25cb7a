-- Families of levels in rank form, the cost of a cell, the least path over cells, and the read-out. Samples are numbers; levels are from 1.
-- A family is given by ranks: level ℓ is the samples x with ℓ ≤ r x, so level ℓ+1 lies in level ℓ. Assumes nothing.
use Rattle.std.specs.Prelude.{ℕ, zero, suc, ◌+◌, ◌-◌, ◌≤◌, ◌<◌, min, ◌≡◌, ◌↔◌, Bool, true, false, cond, leb, ltb}
use Rattle.family.specs.Lists.{none, Neighbours}

-- the segments of level ℓ from i to j: as many as samples x of the level with i < x ≤ j
unfoldable pub segments : (ℕ → ℕ) → ℕ → ℕ → ℕ → ℕ
segments r ℓ i zero = 0
segments r ℓ i (suc j) = cond (leb i j) (segments r ℓ i j + cond (leb ℓ (r (suc j))) 1 0) 0

-- the segments of the levels 1 to k together
unfoldable pub total : (ℕ → ℕ) → ℕ → ℕ → ℕ → ℕ
total r zero i j = 0
total r (suc k) i j = segments r (suc k) i j + total r k i j

-- the least sum of a path from p over x, or over a later sample, to the end x + d, a path's first step being from p
unfoldable pub via : (ℕ → ℕ → ℕ) → ℕ → ℕ → ℕ → ℕ
via c p x zero = c p x
via c p x (suc d) = min (c p x + via c x (suc x) d) (via c p (suc x) d)

-- the largest first stop of such a path that has the least sum
unfoldable pub hop : (ℕ → ℕ → ℕ) → ℕ → ℕ → ℕ → ℕ
hop c p x zero = x
hop c p x (suc d) = cond (leb (via c p (suc x) d) (c p x + via c x (suc x) d)) (hop c p (suc x) d) x

unfoldable pub least_by : (ℕ → ℕ → ℕ) → ℕ → ℕ → ℕ
least_by c p zero = 0
least_by c p (suc d) = via c p (suc p) d

-- the least sum of a path from p to j over the cells c of one level
unfoldable pub least : (ℕ → ℕ → ℕ) → ℕ → ℕ → ℕ
least c p j = least_by c p (j - p)

-- the sample after p on the chosen path of least sum from p to j: the largest that begins such a path
unfoldable pub next : (ℕ → ℕ → ℕ) → ℕ → ℕ → ℕ
next c p j = hop c p (suc p) (j - suc p)

-- the least sum over the cells of level k, and nothing below level 1
unfoldable pub below : (ℕ → ℕ → ℕ → ℕ) → ℕ → ℕ → ℕ → ℕ
below c zero i j = 0
below c (suc k) i j = least (c (suc k)) i j

-- r over the samples p to q is read from the cells: each neighbours a, b of level k are on the chosen path from p to q, and the levels below are read between them
unfoldable pub Read : (ℕ → ℕ → ℕ → ℕ) → ℕ → ℕ → ℕ → (ℕ → ℕ) → Type 0
Read c zero p q r = Unit {0}
Read c (suc k) p q r = (a b : ℕ) → p ≤ a → b ≤ q → Neighbours r (suc k) a b → (b ≡ next (c (suc k)) a q) × Read c k a b r

-- the read-out of the cells of n samples over m levels
pub record Readout (c : ℕ → ℕ → ℕ → ℕ) (m n : ℕ) (r : ℕ → ℕ) : Type 0 where
  pub first : r 0 ≡ m
  pub last : r (n - 1) ≡ m
  pub highest : (x : ℕ) → x < n → r x ≤ m
  pub read : Read c m 0 (n - 1) r

-- the ranks of the samples of the chosen path from a to q, `top` at its stops, and between two stops as f says
unfoldable pub along : (ℕ → ℕ → ℕ) → ℕ → (ℕ → ℕ → ℕ → ℕ) → ℕ → ℕ → ℕ → ℕ → ℕ
along c top f zero a q x = top
along c top f (suc d) a q x = cond (leb x a) top (cond (ltb x (next c a q)) (f a (next c a q) x) (along c top f d (next c a q) q x))

-- the read-out over the levels 1 to k between p and q, worked out
unfoldable pub rank : (ℕ → ℕ → ℕ → ℕ) → ℕ → ℕ → ℕ → ℕ → ℕ
rank c zero p q x = 0
rank c (suc k) p q x = along (c (suc k)) (suc k) (rank c k) (q - p) p q x

-- r comes before s by the rule for ties, or is s: where the levels above ℓ are the same in both, and so is level ℓ below sample y, a y in level ℓ of r is in that of s.
-- So at the first place where the lists of numbers differ, r has the larger number
unfoldable pub Prefers : ℕ → ℕ → (ℕ → ℕ) → (ℕ → ℕ) → Type 0
Prefers m n r s = (ℓ y : ℕ) → 1 ≤ ℓ → ℓ ≤ m → y < n
    → ((h x : ℕ) → ℓ < h → h ≤ m → x < n → h ≤ r x ↔ h ≤ s x)
    → ((x : ℕ) → x < y → ℓ ≤ r x ↔ ℓ ≤ s x)
    → ℓ ≤ r y → ℓ ≤ s y

module _ (perm : ℕ → ℕ → ℕ → Bool) where
  -- the ranks r of the samples i to j are a family over the levels 1 to k
  pub record Family (k i j : ℕ) (r : ℕ → ℕ) : Type 0 where
    pub first : k ≤ r i
    pub last : k ≤ r j
    pub permitted : (ℓ p q : ℕ) → 1 ≤ ℓ → ℓ ≤ k → i ≤ p → q ≤ j → Neighbours r ℓ p q → perm ℓ p q ≡ true

  -- v is the cost of the cell (k, i, j)
  pub record Cost (k i j v : ℕ) : Type 0 where
    pub refused : perm k i j ≡ false → v ≡ none
    pub some : perm k i j ≡ true → (r : ℕ → ℕ) × Family k i j r × Neighbours r k i j × (total r k i j ≡ v)
    pub every : perm k i j ≡ true → (r : ℕ → ℕ) → Family k i j r → Neighbours r k i j → v ≤ total r k i j

  -- what a call writes into the cell (k, i, j), k from 1
  unfoldable pub value : (ℕ → ℕ → ℕ → ℕ) → ℕ → ℕ → ℕ → ℕ
  value c zero i j = none
  value c (suc k) i j = cond (perm (suc k) i j) (suc (below c k i j)) none

  -- the cells of a trace, worked out from its permissions level by level
  unfoldable pub cells : ℕ → ℕ → ℕ → ℕ
  cells zero i j = none
  cells (suc k) i j = value (λ ℓ. cells k) (suc k) i j

  -- the cells after a call about sample v, level by level: written where i ≤ v ≤ j, over the level below as it then is, and as found elsewhere
  unfoldable pub after : (ℕ → ℕ → ℕ → ℕ) → ℕ → ℕ → ℕ → ℕ → ℕ
  after c v zero i j = c zero i j
  after c v (suc k) i j = cond (leb i v) (cond (leb v j) (value (λ ℓ. after c v k) (suc k) i j) (c (suc k) i j)) (c (suc k) i j)

  -- every cell of a stretch i < j < n is its cost
  unfoldable pub Costs : (ℕ → ℕ → ℕ → ℕ) → ℕ → ℕ → Type 0
  Costs c m n = (k i j : ℕ) → 1 ≤ k → k ≤ m → i < j → j < n → Cost k i j (c k i j)

  -- every cell of a stretch i < j < n is what a call writes
  unfoldable pub Genuine : (ℕ → ℕ → ℕ → ℕ) → ℕ → ℕ → Type 0
  Genuine c m n = (k i j : ℕ) → 1 ≤ k → k ≤ m → i < j → j < n → c k i j ≡ value c k i j

  -- r is a family of the samples 0 to n-1 with the least total
  pub record Minimal (m n : ℕ) (r : ℕ → ℕ) : Type 0 where
    pub family : Family m 0 (n - 1) r
    pub least_total : (s : ℕ → ℕ) → Family m 0 (n - 1) s → total r m 0 (n - 1) ≤ total s m 0 (n - 1)

  -- and of those it is the choice of the rule for ties
  pub record Chosen (m n : ℕ) (r : ℕ → ℕ) : Type 0 where
    pub highest : (x : ℕ) → x < n → r x ≤ m
    pub minimal : Minimal m n r
    pub prefers : (s : ℕ → ℕ) → Minimal m n s → Prefers m n r s
