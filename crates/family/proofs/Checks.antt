-- Check 5: what it says of the cells of adjacent samples and of the least sums, and that cells that are found fine or written as their values pass it. Assumes nothing.
use Prim.Native.Nat.{ℕ, zero, suc, ◌+◌, ◌-◌, ◌*◌, ◌≤◌, ◌<◌, zero-le}
use mathlib.Core.Path.{◌≡◌, refl, sym, ◌∙◌}
use mathlib.Core.Logic.{◌⊎◌, inl, inr}
use mathlib.Core.Bool.{Bool, true, false, true≢false}
use native.Mathlib.Omega.{arith}
use native.Mathlib.Decide.{dec_le, dec_lt}
use native.Mathlib.Nat.{mul-one, mul-le-mul}
use Rattle.family.specs.Family.{next, below, value}
use Rattle.family.specs.Lists.{none}
use Rattle.family.specs.Fine.{Fine, Checked}
use Rattle.family.proofs.Paths.{least_bound, least_next, next_after, next_within}

-- the paper's numbers leave room
pub room : (m n : ℕ) → m ≤ 16 → n ≤ 256 → m * n < none
room m n a b = omega (arith, mul-le-mul {n₁ = m} {m₁ = n} {n₂ = 16} {m₂ = 256} a b)

-- a table whose cells of adjacent samples are at most k at level k
module _ (c : ℕ → ℕ → ℕ → ℕ) (m n : ℕ) (near : (k x : ℕ) → 1 ≤ k → k ≤ m → suc x < n → c k x (suc x) ≤ k) where
  pub near_bound : (k i j : ℕ) → k ≤ m → i ≤ j → j < n → below c k i j ≤ k * (j - i)
  unfolding below
  near_bound zero i j a o h = zero-le
  near_bound (suc k) i j a o h = least_bound (c (suc k)) (suc k) (j - i) i j (λ x u v. near (suc k) x (omega arith) a (omega arith)) (omega arith)

  pub near_small : m * n < none → (k i j : ℕ) → k ≤ m → i ≤ j → j < n → below c k i j < none
  near_small fits k i j a o h = omega (arith, near_bound k i j a o h, mul-le-mul {n₁ = k} {m₁ = j - i} {n₂ = m} {m₂ = n} a (omega arith))

pub fine_near : (k x v : ℕ) → 1 ≤ k → Fine k x (suc x) v → v ≡ k
fine_near k x v a (inl f) = omega arith
fine_near k x v a (inr f) = let e : suc x - x ≡ 1 = omega arith in omega (arith, rw (e, mul-one) at f.1)

fine_floor : (k i j v : ℕ) → k ≤ none → Fine k i j v → k ≤ v
fine_floor k i j v a (inl f) = omega arith
fine_floor k i j v a (inr f) = f.0

module _ (c : ℕ → ℕ → ℕ → ℕ) (m n : ℕ) (checked : Checked c m n) where
  -- the cell of adjacent samples is k
  pub checked_near : (k x : ℕ) → 1 ≤ k → k ≤ m → suc x < n → c k x (suc x) ≡ k
  checked_near k x a b h = fine_near k x (c k x (suc x)) a (checked k x (suc x) a b (omega arith) h)

  pub checked_most : (k x : ℕ) → 1 ≤ k → k ≤ m → suc x < n → c k x (suc x) ≤ k
  checked_most k x a b h = omega (arith, checked_near k x a b h)

  pub checked_bound : (k i j : ℕ) → k ≤ m → i ≤ j → j < n → below c k i j ≤ k * (j - i)
  checked_bound = near_bound c m n checked_most

  module _ (fits : m * n < none) where
    pub checked_small : (k i j : ℕ) → k ≤ m → i ≤ j → j < n → below c k i j < none
    checked_small = near_small c m n checked_most fits

    pub checked_floor : (k i j : ℕ) → k ≤ m → i < j → j < n → k ≤ below c k i j
    unfolding below
    checked_floor zero i j a o h = zero-le
    checked_floor (suc k) i j a o h =
        let q = next (c (suc k)) i j in
        let u : i < q = next_after (c (suc k)) j i o in
        let v : q ≤ j = next_within (c (suc k)) j i o in
        let w = mul-le-mul {n₁ = suc k} {m₁ = 1} {n₂ = m} {m₂ = n} a (omega arith) in
        omega (arith, least_next (c (suc k)) j i o, fine_floor (suc k) i q (c (suc k) i q) (omega arith) (checked (suc k) i q (omega arith) a u (omega arith)))

-- each cell is found fine or is written as its value
module _ (perm : ℕ → ℕ → ℕ → Bool) (near : (k i : ℕ) → perm k i (suc i) ≡ true) (c : ℕ → ℕ → ℕ → ℕ) (m n : ℕ) (fits : m * n < none)
    (each : (k i j : ℕ) → 1 ≤ k → k ≤ m → i < j → j < n → Fine k i j (c k i j) ⊎ (c k i j ≡ value perm c k i j)) where
  value_fine : (k i j : ℕ) (t : Bool) → perm (suc k) i j ≡ t → i < j → k ≤ below c k i j → below c k i j ≤ k * (j - i) → Fine (suc k) i j (value perm c (suc k) i j)
  unfolding value
  value_fine k i j true e o low high = let f : suc k - 1 ≡ k = omega arith in rw (e, f) (inr (omega arith, omega arith))
  value_fine k i j false e o low high =
      rw e (inl (refl, elim (dec_lt (i + 1) j) [ yes y ↦ y | no y ↦ (let f : j ≡ suc i = omega arith in absurd (true≢false (sym (near (suc k) i) ∙ rw f at e))) ]))

  -- one more level
  more : (k : ℕ) → suc k ≤ m → Checked c k n → (i j : ℕ) → i < j → j < n → Fine (suc k) i j (c (suc k) i j) ⊎ (c (suc k) i j ≡ value perm c (suc k) i j) → Fine (suc k) i j (c (suc k) i j)
  more k b under i j o h (inl f) = f
  more k b under i j o h (inr e) = rw e (value_fine k i j (perm (suc k) i j) refl o
      (checked_floor c k n under (omega (arith, mul-le-mul {n₁ = k} {m₁ = n} {n₂ = m} {m₂ = n} (omega arith) (omega arith))) k i j (omega arith) o h)
      (checked_bound c k n under k i j (omega arith) (omega arith) h))

  up_to : (k : ℕ) → k ≤ m → Checked c k n
  up_to zero b = λ ℓ i j a d o h. absurd (omega arith)
  up_to (suc k) b = λ ℓ i j a d o h. elim (dec_le ℓ k) [
    | yes y ↦ up_to k (omega arith) ℓ i j a y o h
    | no y ↦ (let e : ℓ ≡ suc k = omega arith in rw e (more k b (up_to k (omega arith)) i j o h (each (suc k) i j (omega arith) b o h)))
  ]

  pub checked_by : Checked c m n
  checked_by = up_to m (omega arith)
