-- Whole numbers of several bytes, low byte first. Assumes nothing.
use Rattle.std.specs.Prelude.{ℕ, ◌+◌, ◌*◌, ◌-◌, cond, List, ltb, ℤ, pos, negsuc, get_or}

-- two bytes from place p
unfoldable pub word : List ℕ → ℕ → ℕ
word s p = get_or s p 0 + 256 * get_or s (p + 1) 0

-- four bytes from place p
unfoldable pub long : List ℕ → ℕ → ℕ
long s p = word s p + 65536 * word s (p + 2)

-- 16 bits read as a signed number: below 32,768 itself, else itself less 65,536 (`negsuc n` is -(n + 1))
unfoldable pub signed : ℕ → ℤ
signed u = cond (ltb u 32768) (pos u) (negsuc (65535 - u))

unfoldable pub signed_at : List ℕ → ℕ → ℤ
signed_at s p = signed (word s p)
