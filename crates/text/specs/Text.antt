-- Numbers as text, and what a writer leaves of a lent buffer. Bytes are ASCII codes. Assumes nothing.
use Rattle.std.specs.Prelude.{◌≡◌, cond, List, ◌∷◌, ◌++◌, ℕ, zero, suc, ◌/◌, ◌≤◌, ltb, ℤ, pos, negsuc, length, take, drop}
use Rattle.io.specs.Digits.{last_digits}

-- how many decimal digits n has, where it has no more than f + 1
unfoldable pub places : ℕ → ℕ → ℕ
places zero n = 1
places (suc f) n = cond (ltb n 10) 1 (suc (places f (n / 10)))

-- a number below 10^20, in decimal
unfoldable pub decimal : ℕ → List ℕ
decimal n = last_digits 10 (places 19 n) n

-- a signed number in decimal: a minus before a negative one (`negsuc n` is -(n + 1))
abbrev pub signed_decimal : ℤ → List ℕ
signed_decimal (pos n) = decimal n
signed_decimal (negsuc n) = 45 ∷ decimal (suc n)

-- the text t was written after the first `at` bytes of the buffer, cut where the buffer ends; the text now ends at r, and every byte from there on is as it was
pub record Written (out : List ℕ) (at : ℕ) (t out' : List ℕ) (r : ℕ) : Type 0 where
  pub same : length out' ≡ length out
  pub fits : r ≤ length out'
  pub text : take r out' ≡ take (length out) (take at out ++ t)
  pub rest : drop r out' ≡ drop r out
