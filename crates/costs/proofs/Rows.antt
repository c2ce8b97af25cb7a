-- How the walk's writes add up: cell by cell to a row, row by row to an end, and end by end to what a call names. Assumes nothing.
use mathlib.Core.Path.{◌≡◌, refl, sym, ◌∙◌}
use mathlib.Core.Logic.{◌⊎◌, inl, inr, ⊎_elim}
use mathlib.Core.Bool.{Bool}
use mathlib.Core.List.{List}
use Prim.Native.Nat.{ℕ, zero, suc, ◌+◌, ◌-◌, ◌≤◌, ◌<◌, min}
use native.Mathlib.Nat.{eq-or-lt_of_le}
use native.Mathlib.Omega.{arith}
use lib.ListN.{length, get_or, set}
use Rattle.family.specs.Family.{below, value}
use Rattle.family.proofs.Local.{value_same}
use Rattle.table.specs.Table.{at, cell, Wrote}
use Rattle.table.proofs.Writes.{Inside, One, wrote_none, wrote_one, wrote_kept, wrote_as, wrote_more}
use Rattle.costs.specs.Costs.{Named}
use Rattle.permission.specs.Finest.{Finest}
use Rattle.costs.specs.Walk.{Rewritten, Row, Rows, from_finest, price}

-- a row, cell by cell
module _ (N : ℕ) (G : ℕ → ℕ → ℕ → ℕ) (k j : ℕ) (hk : 1 ≤ k) (hj : j < N) where
  pub row_none : (t : List ℕ) → Wrote N (Row k j 0) G t t
  row_none t = wrote_none N G (Row k j 0) t (λ k' i' j' s. omega arith)

  pub row_more : (t e : List ℕ) (i v : ℕ) → Wrote N (Row k j i) G t e → i < N → at N k i j < length e → v ≡ G k i j
      → Wrote N (Row k j (i + 1)) G t (set e (at N k i j) v)
  row_more t e i v w hi h g =
      wrote_more N G (Row k j i) t e w (λ k' i' j' s. omega arith)
      (One k i j) (Row k j (i + 1)) (set e (at N k i j) v) (wrote_one N G e k i j v h g) (λ k' i' j' s. omega arith)
      (λ k' i' j' s r. omega arith)
      (λ k' i' j' s. ⊎_elim (λ q. inr (s.0, q, s.1)) (λ q. inl (s.0, s.1, q)) (eq-or-lt_of_le {m = i} (omega arith)))
      (λ k' i' j' s. omega arith)
      (λ k' i' j' s. omega arith)

-- a later write that has no cell that an earlier one wrote, and none that its values are over
rewritten_more : (N : ℕ) (perm : ℕ → ℕ → ℕ → Bool) (S R Q : ℕ → ℕ → ℕ → Type 0) (t e f : List ℕ) → Rewritten N perm S t e → Rewritten N perm R e f
    → Inside N S → Inside N R → ((k i j : ℕ) → S k i j → i < j)
    → ((k i j : ℕ) → S k i j → R k i j → ⊥)
    → ((k i j l p q : ℕ) → S k i j → suc l ≡ k → q ≤ j → R l p q → ⊥)
    → ((k i j : ℕ) → Q k i j → S k i j ⊎ R k i j)
    → ((k i j : ℕ) → S k i j → Q k i j) → ((k i j : ℕ) → R k i j → Q k i j)
    → Rewritten N perm Q t f
rewritten_more N perm S R Q t e f w x insideS insideR order apart reads split left right =
    wrote_more N (value perm (cell f N)) S t e (wrote_as N (value perm (cell e N)) S t e w insideS (value perm (cell f N)) same) insideS R Q f x insideR apart split left right
  where
    same : (k i j : ℕ) → S k i j → value perm (cell e N) k i j ≡ value perm (cell f N) k i j
    same k i j s =
        value_same perm perm (cell e N) (cell f N) k i j (order k i j s) refl
        (λ l p q a g u o z. let b = (insideS k i j s).2 in sym (wrote_kept N (value perm (cell f N)) R e f x insideR l p q a (omega arith) (omega arith) (reads k i j l p q s g z)))

-- the price of a cell is its value
price_value : (finest : List ℕ) (c : ℕ → ℕ → ℕ → ℕ) (k i j rest : ℕ) → 1 ≤ k → rest ≡ below c (k - 1) i j → price k (get_or finest i 0) rest ≡ value (from_finest finest) c k i j
unfolding price value from_finest
price_value finest c zero i j rest a h = absurd (omega arith)
price_value finest c (suc k) i j rest a h = let e : suc k - 1 ≡ k = omega arith in rw (h, e)

-- the rows of an end, level by level
module _ (N : ℕ) (finest : List ℕ) (j top : ℕ) (hj : j < N) (ht : top ≤ j) (t : List ℕ) where
  pub rows_none : Rewritten N (from_finest finest) (Rows 0 j top) t t
  rows_none = wrote_none N (value (from_finest finest) (cell t N)) (Rows 0 j top) t (λ k i j' s. omega arith)

  row_rewritten : (k : ℕ) (sums e f : List ℕ) → 1 ≤ k → ((i : ℕ) → i ≤ j → get_or sums i 0 ≡ below (cell e N) (k - 1) i j)
      → Wrote N (Row k j top) (λ k' i j'. price k' (get_or finest i 0) (get_or sums i 0)) e f → Rewritten N (from_finest finest) (Row k j top) e f
  row_rewritten k sums e f hk rest x =
      wrote_as N _ (Row k j top) e f x inside (value (from_finest finest) (cell f N)) (λ k' i j' s. rw (s.0, s.1) (
      price_value finest (cell e N) k i j (get_or sums i 0) hk (rest i (omega arith))
      ∙ value_same (from_finest finest) (from_finest finest) (cell e N) (cell f N) k i j (omega arith) refl
      (λ l p q a g u o z. sym (wrote_kept N _ (Row k j top) e f x inside l p q a (omega arith) (omega arith) (λ r. omega arith)))))
    where
      inside : Inside N (Row k j top)
      inside k' i j' s = (omega arith, omega arith, omega arith)

  pub rows_more : (k : ℕ) (sums e f : List ℕ) → 1 ≤ k → Rewritten N (from_finest finest) (Rows (k - 1) j top) t e
      → ((i : ℕ) → i ≤ j → get_or sums i 0 ≡ below (cell e N) (k - 1) i j)
      → Wrote N (Row k j top) (λ k' i' j'. price k' (get_or finest i' 0) (get_or sums i' 0)) e f
      → Rewritten N (from_finest finest) (Rows (k + 1 - 1) j top) t f
  rows_more k sums e f hk w rest x =
      rewritten_more N (from_finest finest) (Rows (k - 1) j top) (Row k j top) (Rows (k + 1 - 1) j top) t e f w (row_rewritten k sums e f hk rest x)
      (λ k' i j' s. omega arith) (λ k' i j' s. omega arith) (λ k' i j' s. omega arith)
      (λ k' i j' s r. omega arith)
      (λ k' i j' l p q s g z r. omega arith)
      (λ k' i j' s. ⊎_elim (λ q. inr (q, s.2, s.3)) (λ q. inl (s.0, omega arith, s.2, s.3)) (eq-or-lt_of_le {m = k} (omega arith)))
      (λ k' i j' s. omega arith)
      (λ k' i j' s. omega arith)

-- the finest levels say the permissions
pub rows_said : (N : ℕ) (perm : ℕ → ℕ → ℕ → Bool) (finest : List ℕ) (m j top : ℕ) (t e : List ℕ) → j < N → top ≤ j → ((i : ℕ) → i < top → Finest perm m i j (get_or finest i 0))
    → Rewritten N (from_finest finest) (Rows m j top) t e → Rewritten N perm (Rows m j top) t e
unfolding from_finest
rows_said N perm finest m j top t e a b f w =
    wrote_as N (value (from_finest finest) (cell e N)) (Rows m j top) t e w (λ k i j' s. omega arith) (value perm (cell e N)) (λ k i j' s.
    value_same (from_finest finest) perm (cell e N) (cell e N) k i j' (omega arith) (rw s.2 (sym ((f i s.3).says k s.0 s.1))) (λ l p q x g u o z. refl))

-- the ends of a call, one by one
module _ (N : ℕ) (perm : ℕ → ℕ → ℕ → Bool) (m v : ℕ) (t : List ℕ) where
  pub ends_none : Rewritten N perm (Named m v v) t t
  ends_none = wrote_none N (value perm (cell t N)) (Named m v v) t (λ k i j s. omega arith)

  pub ends_more : (j : ℕ) (e f : List ℕ) → v ≤ j → j < N → Rewritten N perm (Named m v j) t e → Rewritten N perm (Rows m j (min j (v + 1))) e f → Rewritten N perm (Named m v (j + 1)) t f
  ends_more j e f a b w x =
      rewritten_more N perm (Named m v j) (Rows m j (min j (v + 1))) (Named m v (j + 1)) t e f w x
      (λ k i j' s. omega arith) (λ k i j' s. omega arith) (λ k i j' s. omega arith)
      (λ k i j' s r. omega arith)
      (λ k i j' l p q s g z r. omega arith)
      (λ k i j' s. ⊎_elim (λ q. inr (s.0, s.1, q, omega arith)) (λ q. inl (s.0, s.1, s.2, s.3, s.4, q)) (eq-or-lt_of_le {m = j} (omega arith)))
      (λ k i j' s. omega arith)
      (λ k i j' s. omega arith)
