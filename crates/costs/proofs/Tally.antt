-- How many cells a call names: the test decides `Named`, and the count one by one is the formula. Assumes nothing.
use mathlib.Core.Path.{◌≡◌, refl, ap, sym, ◌∙◌}
use mathlib.Core.Bool.{cond}
use mathlib.Core.Logic.{⊎_elim}
use Prim.Native.Nat.{ℕ, zero, suc, ◌+◌, ◌-◌, ◌*◌, ◌≤◌, ◌<◌, min}
use native.Mathlib.Nat.{eq-or-lt_of_le, mul-zero, mul-one, mul-suc, mul-add, suc-mul, zero-mul, mul-le-mul, mul-le-mul_left}
use native.Mathlib.Numerals.{add-one}
use native.Mathlib.Decide.{dec_le}
use native.Mathlib.Omega.{arith}
use borrow.Author.Tests.{lt-ltb, le-ltb}
use lib.Dec.{leb, ltb}
use Rattle.refusal.specs.Check.{Decides}
use Rattle.refusal.proofs.Plain.{carry, by_test, by_less, both_decided, decides_unique}
use Rattle.costs.specs.Costs.{Named, named_test, sum, named}

pub named_decided : (m v n k i j : ℕ) → Decides (Named m v n k i j) (named_test m v n k i j)
named_decided m v n k i j =
    carry (λ p. (p.0, p.1.0, p.1.1.0, p.1.1.1.0, p.1.1.1.1.0, p.1.1.1.1.1)) (λ p. (p.0, (p.1, (p.2, (p.3, (p.4, p.5))))))
    (both_decided (leb 1 k) _ (by_test _ 1 k (λ h. h) (λ h. h))
    (both_decided (leb k m) _ (by_test _ k m (λ h. h) (λ h. h))
    (both_decided (leb i v) _ (by_test _ i v (λ h. h) (λ h. h))
    (both_decided (leb v j) _ (by_test _ v j (λ h. h) (λ h. h))
    (both_decided (ltb i j) (ltb j n) (by_less i j) (by_less j n))))))

-- the stretches of n samples with sample v
abbrev area : ℕ → ℕ → ℕ
area v n = (v + 1) * (n - v) - 1

area_few : (v n : ℕ) → n ≤ v → area v n ≡ 0
area_few v n h = let e : n - v ≡ zero = omega arith in rw (e, mul-zero) (omega arith)

area_more : (v j : ℕ) → v ≤ j → area v j + min j (v + 1) ≡ area v (j + 1)
area_more v j h =
    let e : j + 1 - v ≡ suc (j - v) = omega arith in
    rw (e, mul-suc) (⊎_elim
    (λ q. let z : (v + 1) * (j - v) ≡ (v + 1) * zero = ap (λ x. (v + 1) * x) (omega arith) in omega (arith, z ∙ mul-zero (v + 1)))
    (λ q. omega (arith, mul-le-mul_left {m = 1} {n = j - v} (v + 1) (omega arith)))
    (eq-or-lt_of_le h))

pub sum_same : (n : ℕ) (f g : ℕ → ℕ) → ((x : ℕ) → f x ≡ g x) → sum n f ≡ sum n g
unfolding sum
sum_same zero f g h = refl
sum_same (suc n) f g h = rw (sum_same n f g h, h n)

sum_below : (n t : ℕ) → sum n (λ x. cond (ltb x t) 1 0) ≡ min t n
unfolding sum
sum_below zero t = omega arith
sum_below (suc n) t = rw (sum_below n t) (elim (dec_le t n) [ yes h ↦ rw (le-ltb n t h) (omega arith) | no h ↦ rw (lt-ltb n t (omega arith)) (omega arith) ])

-- the named cells of a level and an end: those of the starts below t
row_count : (m v n k j t : ℕ) → ((i : ℕ) → Named m v n k i j → i < t) → ((i : ℕ) → i < t → Named m v n k i j) → t ≤ n → sum n (λ i. cond (named_test m v n k i j) 1 0) ≡ t
row_count m v n k j t f g h =
    sum_same n _ _ (λ i. ap (λ b. cond b 1 0) (decides_unique (named_test m v n k i j) (ltb i t) (named_decided m v n k i j) (carry (g i) (f i) (by_less i t))))
    ∙ sum_below n t ∙ omega arith

level_count : (m v n k : ℕ) → 1 ≤ k → k ≤ m → (u : ℕ) → u ≤ n → sum u (λ j. sum n (λ i. cond (named_test m v n k i j) 1 0)) ≡ area v u
unfolding sum
level_count m v n k a b zero h = sym (area_few v 0 (omega arith))
level_count m v n k a b (suc u) h = rw (level_count m v n k a b u (omega arith)) (elim (dec_le v u) [
  | yes y ↦ rw (row_count m v n k u (min u (v + 1)) (λ i s. omega arith) (λ i s. omega arith) (omega arith), ← add-one u) (area_more v u y)
  | no y ↦ rw (row_count m v n k u 0 (λ i s. omega arith) (λ i s. omega arith) (omega arith), area_few v u (omega arith), area_few v (suc u) (omega arith)) (omega arith)
])

-- the count is the formula
pub named_formula : (m v n : ℕ) → named m v n ≡ m * ((v + 1) * (n - v) - 1)
unfolding named sum
named_formula m v n = upto m (omega arith)
  where
    upto : (u : ℕ) → u ≤ m → sum u (λ l. sum n (λ j. sum n (λ i. cond (named_test m v n (suc l) i j) 1 0))) ≡ u * area v n
    upto zero h = sym (zero-mul _)
    upto (suc u) h = rw (upto u (omega arith), level_count m v n (suc u) (omega arith) h n (omega arith)) (sym (suc-mul u (area v n)))

-- a sample added after n
pub named_add : (m n : ℕ) → named m n (n + 1) ≡ m * n
named_add m n = named_formula m n (n + 1) ∙ ap (λ x. m * x) (let e : n + 1 - n ≡ 1 = omega arith in rw (e, mul-one) (omega arith))

-- end by end
pub named_none : (m v : ℕ) → named m v v ≡ 0
named_none m v = named_formula m v v ∙ rw (area_few v v (omega arith)) (mul-zero m)

pub named_more : (m v j : ℕ) → v ≤ j → named m v j + m * min j (v + 1) ≡ named m v (j + 1)
named_more m v j h = rw (named_formula m v j, named_formula m v (j + 1), ← area_more v j h) (sym (mul-add m _ _))

pub named_small : (m v n : ℕ) → m ≤ 16 → v < 256 → n ≤ 256 → named m v n ≤ 1048576
named_small m v n a b d =
    let p : area v n ≤ 65536 = omega (arith, mul-le-mul {n₁ = v + 1} {m₁ = n - v} {n₂ = 256} {m₂ = 256} (omega arith) (omega arith)) in
    omega (arith, named_formula m v n, mul-le-mul {n₁ = m} {m₁ = area v n} {n₂ = 16} {m₂ = 65536} a p)
