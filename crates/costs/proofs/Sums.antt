-- The least sums that the walk meets are small, as the cells of adjacent samples hold at most their level, found or written. Assumes nothing.
use mathlib.Core.Path.{◌≡◌, refl, sym, ◌∙◌}
use mathlib.Core.Logic.{◌⊎◌, inl, inr, ⊎_elim}
use mathlib.Core.Bool.{Bool, true}
use mathlib.Core.List.{List}
use Prim.Native.Nat.{ℕ, zero, suc, ◌+◌, ◌≤◌, ◌<◌}
use native.Mathlib.Decide.{dec_lt}
use native.Mathlib.Omega.{arith}
use borrow.Author.Tests.{le-leb}
use lib.ListN.{get_or}
use Rattle.family.specs.Family.{least, below, value}
use Rattle.family.specs.Lists.{none}
use Rattle.family.proofs.Paths.{least_end, least_le}
use Rattle.family.proofs.Checks.{room, near_small}
use Rattle.family.proofs.Local.{Without, with?}
use Rattle.table.specs.Table.{cell}
use Rattle.table.specs.Path.{SumAt}
use Rattle.table.proofs.Writes.{wrote_kept}
use Rattle.costs.specs.Costs.{Named}
use Rattle.costs.specs.Walk.{LowSteps, Rewritten, Rows, from_finest, Settled}

-- nothing is added from the end itself
pub sums_end : (c : ℕ → ℕ → ℕ) (j q : ℕ) → q ≡ j → (s : ℕ) → s ≡ 0 → SumAt c q j s
sums_end c j q e s z = record { is = z ∙ sym (rw e (least_end c j)); small = omega arith }

-- below a level from 1 on
pub below_is : (c : ℕ → ℕ → ℕ → ℕ) (k i j : ℕ) → 1 ≤ k → least (c k) i j ≡ below c k i j
unfolding below
below_is c zero i j a = absurd (omega arith)
below_is c (suc k) i j a = refl

-- the cells of neighbours that are written hold at most their level
near_value : (perm : ℕ → ℕ → ℕ → Bool) (c : ℕ → ℕ → ℕ → ℕ) (k x : ℕ) → perm (suc k) x (suc x) ≡ true → (1 ≤ k → c k x (suc x) ≤ k) → value perm c (suc k) x (suc x) ≤ suc k
unfolding value below
near_value perm c zero x p h = rw p (omega arith)
near_value perm c (suc k) x p h = rw p (omega (arith, least_le (c (suc k)) (suc x) x (omega arith) (suc x) (omega arith) (omega arith), least_end (c (suc k)) (suc x), h (omega arith)))

near_written : (perm : ℕ → ℕ → ℕ → Bool) (c : ℕ → ℕ → ℕ → ℕ) (m x : ℕ) → ((k : ℕ) → 1 ≤ k → k ≤ m → (perm k x (suc x) ≡ true) × (c k x (suc x) ≡ value perm c k x (suc x)))
    → (k : ℕ) → 1 ≤ k → k ≤ m → c k x (suc x) ≤ k
near_written perm c m x h zero a b = absurd (omega arith)
near_written perm c m x h (suc k) a b =
    omega (arith, (h (suc k) a b).1, near_value perm c k x (h (suc k) a b).0 (λ d. near_written perm c m x h k d (omega arith)))

-- while the rows of an end are written
module _ (N : ℕ) (finest : List ℕ) (j top : ℕ) (hj : j < N) (ht : top ≤ j) (t e : List ℕ) (m k : ℕ) (hk : k ≤ m) (settled : Settled t N m j top)
    (near : (x : ℕ) → suc x ≡ j → x < top → get_or finest x 0 ≤ 1) (w : Rewritten N (from_finest finest) (Rows k j top) t e) where
  kept : (l x : ℕ) → 1 ≤ l → l ≤ k → suc x ≤ j → (suc x < j) ⊎ (top ≤ x) → cell e N l x (suc x) ≤ l
  kept l x a b d s =
      omega (
        arith,
        settled l x a (omega arith) d s,
        wrote_kept N (value (from_finest finest) (cell e N)) (Rows k j top) t e w (λ k' i' j' s. omega arith) l x (suc x) a (omega arith) (omega arith) (λ r. ⊎_elim (λ y. omega arith) (λ y. omega arith) s),
      )

  rows_near : (l x : ℕ) → 1 ≤ l → l ≤ k → suc x < suc j → cell e N l x (suc x) ≤ l
  unfolding from_finest
  rows_near l x a b d = elim (dec_lt (suc x) j) [
    | yes y ↦ kept l x a b (omega arith) (inl y)
    | no y ↦ elim (dec_lt x top) [
      | no z ↦ kept l x a b (omega arith) (inr (omega arith))
      | yes z ↦ near_written (from_finest finest) (cell e N) k x
          (λ l' a' b'. (le-leb (get_or finest x 0) l' (omega (arith, near x (omega arith) z)), w.named l' x (suc x) (a', b', omega arith, z))) l a b
    ]
  ]

  -- the sums that the next row is written from
  pub rows_small : m ≤ 16 → N ≤ 256 → (i : ℕ) → i ≤ j → below (cell e N) k i j ≤ 65534
  rows_small p q i o = let h : below (cell e N) k i j < none = near_small (cell e N) k (suc j) rows_near (room k (suc j) (omega arith) (omega arith)) k i j (omega arith) o (omega arith) in omega arith

-- while the ends of a call are written
pub ends_settled : (N : ℕ) (perm : ℕ → ℕ → ℕ → Bool) → ((k i : ℕ) → perm k i (suc i) ≡ true) → (m v n j : ℕ) (t e : List ℕ) → j < n → n ≤ N → LowSteps t N m v n → Rewritten N perm (Named m v j) t e
    → Settled e N m j (v + 1)
ends_settled N perm adjacent m v n j t e hj hn near w k x a b d s = go (with? v x (suc x))
  where
    go : Without v x (suc x) ⊎ ((x ≤ v) × (v ≤ suc x)) → cell e N k x (suc x) ≤ k
    go (inl y) = omega (
      arith,
      near k x a b (omega arith) y,
      wrote_kept N (value perm (cell e N)) (Named m v j) t e w (λ k' i' j' s. omega arith) k x (suc x) a (omega arith) (omega arith) (λ r. ⊎_elim (λ z. omega arith) (λ z. omega arith) y),
    )
    go (inr y) = near_written perm (cell e N) m x (λ l a' b'. (adjacent l x, w.named l x (suc x) (a', b', y.0, y.1, omega arith, ⊎_elim (λ z. z) (λ z. omega arith) s))) k a b
