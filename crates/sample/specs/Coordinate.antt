-- The range of a coordinate, in plain words and as the tests of checks 5 and 6. Assumes nothing.
use Rattle.std.specs.Prelude.{ℕ, ◌≤◌, ◌<◌, Bool, ◌&&◌, List, ℤ, pos, negsuc, nat_abs, get_or, length}
use Rattle.std.specs.Int.Signed.{le_z}
use Rattle.refusal.specs.Check.{all_below}

-- from -16,384 to 16,384
pub record Coord (z : ℤ) : Type 0 where
  pub low : nat_abs z ≤ 16384

-- the first n coordinates of a buffer are there, and in range
pub record InRange (xs : List ℤ) (n : ℕ) : Type 0 where
  pub held : n ≤ length xs
  pub each : (k : ℕ) → k < n → Coord (get_or xs k (pos 0))

-- the tests (`negsuc 16383` is -16,384)
unfoldable pub coordinate_ok : ℤ → Bool
coordinate_ok z = le_z (negsuc 16383) z && le_z z (pos 16384)

unfoldable pub coordinates_ok : List ℤ → ℕ → Bool
coordinates_ok s n = all_below n (λ k. coordinate_ok (get_or s k (pos 0)))
