-- Decimal numbers: how many digits they have, and that the fewest that hold a number are those. Assumes nothing.
use mathlib.Core.Path.{◌≡◌, refl, ap, ◌∙◌}
use Prim.Native.Nat.{ℕ, zero, suc, ◌/◌, ◌^◌, ◌≤◌, ◌<◌}
use native.Mathlib.Nat.{pow-suc, pow-zero, pow-le-pow_right}
use native.Mathlib.Numerals.{sub-one}
use native.Mathlib.Decide.{dec_lt}
use native.Mathlib.Omega.{arith}
use lib.ListN.{length, length-append}
use borrow.Author.Tests.{lt-ltb, le-ltb}
use Rattle.io.specs.Digits.{last_digits, IsDigitCount}
use Rattle.text.specs.Text.{places, decimal}

-- ---- how many digits
pub few : (f n : ℕ) → n < 10 → places f n ≡ 1
unfolding places
few zero n h = refl
few (suc f) n h = rw (lt-ltb n 10 h)

pub one_place : (n : ℕ) → places 0 n ≡ 1
unfolding places
one_place n = refl

pub many : (f n : ℕ) → 10 ≤ n → places (suc f) n ≡ suc (places f (n / 10))
unfolding places
many f n h = rw (le-ltb n 10 h)

places_is : (f n j : ℕ) → j ≤ f → n < 10 ^ suc j → (1 ≤ j → 10 ^ j ≤ n) → places f n ≡ suc j
places_is f n zero h p q = few f n (omega (arith, pow-suc 10 0, pow-zero 10))
places_is zero n (suc j) h p q = absurd (omega arith)
places_is (suc f) n (suc j) h p q =
    let e = pow-suc 10 j in
    let d = pow-suc 10 (suc j) in
    let low : 10 ^ suc j ≤ n = q (omega arith) in
    let one : 1 ≤ 10 ^ j = omega (arith, pow-le-pow_right {n = 10} (omega arith) {i = 0} {j = j} (omega arith), pow-zero 10) in
    many f n (omega arith) ∙ ap suc (places_is f (n / 10) j (omega arith) (omega arith) (λ z. omega arith))

-- the fewest digits that hold a number are its decimal
pub fewest_decimal : (n k : ℕ) → n < 10 ^ 20 → IsDigitCount 10 1 n k → last_digits 10 k n ≡ decimal n
unfolding decimal
fewest_decimal n zero h F = absurd (omega arith)
fewest_decimal n (suc j) h F =
    let low : 1 ≤ j → 10 ^ j ≤ n = λ z. rw sub-one at (F.2 (omega arith)) in elim (dec_lt j 20) [
      | yes y ↦ rw (places_is 19 n j (omega arith) F.1 low)
      | no y ↦ absurd (omega (arith, low (omega arith), pow-le-pow_right {n = 10} (omega arith) {i = 20} {j = j} (omega arith)))
    ]

places_most : (f n j : ℕ) → n < 10 ^ suc j → places f n ≤ suc j
places_most f n zero p = omega (arith, few f n (omega (arith, pow-suc 10 0, pow-zero 10)))
places_most zero n (suc j) p = omega (arith, one_place n)
places_most (suc f) n (suc j) p =
    let d = pow-suc 10 (suc j) in elim (dec_lt n 10) [
      | yes y ↦ omega (arith, few (suc f) n y)
      | no y ↦ omega (arith, many f n (omega arith), places_most f (n / 10) j (omega arith))
    ]

length_digits : (k n : ℕ) → length (last_digits 10 k n) ≡ k
length_digits zero n = refl
length_digits (suc k) n = simp length-append (omega (arith, length_digits k (n / 10)))

pub decimal_length : (n k : ℕ) → n < 10 ^ k → 1 ≤ k → length (decimal n) ≤ k
unfolding decimal
decimal_length n zero h l = absurd (omega arith)
decimal_length n (suc j) h l = rw (length_digits (places 19 n) n) (places_most 19 n j h)

-- and never more than 20
places_cap : (f n : ℕ) → places f n ≤ suc f
places_cap zero n = omega (arith, one_place n)
places_cap (suc f) n = elim (dec_lt n 10) [
  | yes y ↦ omega (arith, few (suc f) n y)
  | no y ↦ omega (arith, many f n (omega arith), places_cap f (n / 10))
]

pub decimal_most : (n : ℕ) → length (decimal n) ≤ 20
unfolding decimal
decimal_most n = rw (length_digits (places 19 n) n) (places_cap 19 n)
