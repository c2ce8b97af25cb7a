-- Segments and totals: they split at any sample, depend on the ranks up to the level only, and a level that is one segment counts 1. Assumes nothing.
use Prim.Native.Nat.{ℕ, zero, suc, ◌+◌, ◌≤◌, ◌<◌, min}
use mathlib.Core.Path.{◌≡◌, refl, sym, ◌∙◌}
use mathlib.Core.Bool.{cond}
use native.Mathlib.Omega.{arith}
use native.Mathlib.Decide.{dec_le}
use lib.Dec.{leb}
use borrow.Author.Tests.{le-leb, lt-leb}
use Rattle.family.specs.Family.{segments, total}
use Rattle.family.specs.Lists.{Neighbours}

-- whether x is in level ℓ, as a number
unfoldable pub one : (ℕ → ℕ) → ℕ → ℕ → ℕ
one r ℓ x = cond (leb ℓ (r x)) 1 0

pub one_yes : (r : ℕ → ℕ) (ℓ x : ℕ) → ℓ ≤ r x → one r ℓ x ≡ 1
unfolding one
one_yes r ℓ x h = rw (le-leb ℓ (r x) h)

pub one_no : (r : ℕ → ℕ) (ℓ x : ℕ) → r x < ℓ → one r ℓ x ≡ 0
unfolding one
one_no r ℓ x h = rw (lt-leb ℓ (r x) h)

one_same : (r s : ℕ → ℕ) (k ℓ x : ℕ) → ℓ ≤ k → min (r x) k ≡ min (s x) k → one r ℓ x ≡ one s ℓ x
one_same r s k ℓ x h e = go (dec_le ℓ (r x))
  where
    go : Dec (ℓ ≤ r x) → one r ℓ x ≡ one s ℓ x
    go (yes y) = one_yes r ℓ x y ∙ sym (one_yes s ℓ x (omega arith))
    go (no n) = one_no r ℓ x (omega arith) ∙ sym (one_no s ℓ x (omega arith))

module _ (r : ℕ → ℕ) (ℓ : ℕ) where
  pub segments_nil : (i j : ℕ) → j ≤ i → segments r ℓ i j ≡ 0
  unfolding segments
  segments_nil i zero h = refl
  segments_nil i (suc j) h = rw (lt-leb i j h)

  pub segments_suc : (i j : ℕ) → i ≤ j → segments r ℓ i (suc j) ≡ segments r ℓ i j + one r ℓ (suc j)
  unfolding segments one
  segments_suc i j h = rw (le-leb i j h)

  pub segments_none : (i j : ℕ) → ((x : ℕ) → i < x → x ≤ j → r x < ℓ) → segments r ℓ i j ≡ 0
  unfolding segments
  segments_none i zero h = refl
  segments_none i (suc j) h = elim (dec_le i j) [
    | yes y ↦ omega (arith, segments_suc i j y, segments_none i j (λ x a b. h x a (omega arith)), one_no r ℓ (suc j) (h (suc j) (omega arith) (omega arith)))
    | no n ↦ segments_nil i (suc j) (omega arith)
  ]

  pub segments_one : (i j : ℕ) → Neighbours r ℓ i j → segments r ℓ i j ≡ 1
  segments_one i zero h = omega (arith, h.order)
  segments_one i (suc j) h = omega (arith, h.order, segments_suc i j (omega (arith, h.order)), segments_none i j (λ x a b. h.between x a (omega arith)), one_yes r ℓ (suc j) h.right)

  pub segments_split : (i x j : ℕ) → i ≤ x → x ≤ j → segments r ℓ i j ≡ segments r ℓ i x + segments r ℓ x j
  segments_split i x zero a b = omega (arith, segments_nil i 0 (omega arith), segments_nil i x (omega arith), segments_nil x 0 (omega arith))
  segments_split i x (suc j) a b = elim (dec_le x j) [
    | yes y ↦ omega (arith, segments_suc i j (omega arith), segments_suc x j y, segments_split i x j a y)
    | no n ↦ (let e : x ≡ suc j = omega arith in rw e (omega (arith, segments_nil (suc j) (suc j) (omega arith))))
  ]

pub total_split : (r : ℕ → ℕ) (k i x j : ℕ) → i ≤ x → x ≤ j → total r k i j ≡ total r k i x + total r k x j
unfolding total
total_split r zero i x j a b = refl
total_split r (suc k) i x j a b = omega (arith, segments_split r (suc k) i x j a b, total_split r k i x j a b)

-- a level that is one segment counts 1
pub total_one : (r : ℕ → ℕ) (k i j : ℕ) → Neighbours r (suc k) i j → total r (suc k) i j ≡ suc (total r k i j)
unfolding total
total_one r k i j h = omega (arith, segments_one r (suc k) i j h)

-- only the ranks up to k of the samples past the first count
pub segments_same : (r s : ℕ → ℕ) (k ℓ i j : ℕ) → ℓ ≤ k → ((x : ℕ) → i < x → x ≤ j → min (r x) k ≡ min (s x) k) → segments r ℓ i j ≡ segments s ℓ i j
segments_same r s k ℓ i zero h e = omega (arith, segments_nil r ℓ i 0 (omega arith), segments_nil s ℓ i 0 (omega arith))
segments_same r s k ℓ i (suc j) h e = elim (dec_le i j) [
  | yes y ↦ omega (arith, segments_suc r ℓ i j y, segments_suc s ℓ i j y, segments_same r s k ℓ i j h (λ x a b. e x a (omega arith)), one_same r s k ℓ (suc j) h (e (suc j) (omega arith) (omega arith)))
  | no n ↦ omega (arith, segments_nil r ℓ i (suc j) (omega arith), segments_nil s ℓ i (suc j) (omega arith))
]

pub total_same : (r s : ℕ → ℕ) (k i j : ℕ) → ((x : ℕ) → i < x → x ≤ j → min (r x) k ≡ min (s x) k) → total r k i j ≡ total s k i j
unfolding total
total_same r s zero i j e = refl
total_same r s (suc k) i j e = omega (arith, segments_same r s (suc k) (suc k) i j (omega arith) e, total_same r s k i j (λ x a b. omega (arith, e x a b)))

pub total_nil : (r : ℕ → ℕ) (k i : ℕ) → total r k i i ≡ 0
unfolding total
total_nil r zero i = refl
total_nil r (suc k) i = omega (arith, segments_nil r (suc k) i i (omega arith), total_nil r k i)
