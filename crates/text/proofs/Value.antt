-- A decimal can be trusted: its digits stand for the number; that no fewer digits hold it is `decimal_length`. Assumes nothing.
use mathlib.Core.Path.{◌≡◌, refl, ◌∙◌}
use mathlib.Core.List.{List, [], ◌∷◌, ◌++◌}
use Prim.Native.Nat.{ℕ, zero, suc, ◌+◌, ◌*◌, ◌-◌, ◌/◌, ◌%◌, ◌^◌, ◌<◌}
use native.Mathlib.Nat.{pow-suc, pow-zero}
use native.Mathlib.Decide.{dec_lt}
use native.Mathlib.Omega.{arith}
use borrow.Author.Tests.{lt-ltb}
use Rattle.io.specs.Digits.{hex_digit_ascii, last_digits}
use Rattle.text.specs.Text.{places, decimal}
use Rattle.text.proofs.Decimal.{few, many, one_place}

-- what a row of digits stands for after a number a: each makes ten of what stands before it (48 is `0`)
unfoldable pub value : ℕ → List ℕ → ℕ
value a [] = a
value a (d ∷ l) = value (10 * a + (d - 48)) l

value_more : (a : ℕ) (l : List ℕ) (d : ℕ) → value a (l ++ (d ∷ [])) ≡ 10 * value a l + (d - 48)
unfolding value
value_more a [] d = refl
value_more a (b ∷ l) d = value_more (10 * a + (b - 48)) l d

glyph_value : (d : ℕ) → d < 10 → hex_digit_ascii d - 48 ≡ d
glyph_value d h = rw (lt-ltb d 10 h) (omega arith)

digits_value : (k n : ℕ) → n < 10 ^ k → value 0 (last_digits 10 k n) ≡ n
unfolding value
digits_value zero n h = omega (arith, pow-zero 10)
digits_value (suc k) n h =
    let d = pow-suc 10 k in
    value_more 0 (last_digits 10 k (n / 10)) (hex_digit_ascii (n % 10))
    ∙ omega (arith, digits_value k (n / 10) (omega arith), glyph_value (n % 10) (omega arith))

-- the digits are enough
places_enough : (f n : ℕ) → n < 10 ^ suc f → n < 10 ^ places f n
places_enough zero n h = rw (one_place n) h
places_enough (suc f) n h = elim (dec_lt n 10) [
  | yes y ↦ rw (few (suc f) n y) (omega (arith, pow-suc 10 0, pow-zero 10))
  | no y ↦
      (let d = pow-suc 10 (suc f) in
      rw (many f n (omega arith)) (omega (arith, pow-suc 10 (places f (n / 10)), places_enough f (n / 10) (omega arith))))
]

pub decimal_value : (n : ℕ) → n < 10 ^ 20 → value 0 (decimal n) ≡ n
unfolding decimal
decimal_value n h = digits_value (places 19 n) n (places_enough 19 n h)
