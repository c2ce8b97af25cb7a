-- The square of a difference of two naturals. Assumes nothing.
use Rattle.std.specs.Prelude.{◌≡◌, ℕ, ◌+◌, ◌*◌}

-- k is (x − y)²
abbrev pub Square : ℕ → ℕ → ℕ → Type 0
Square k x y = k + 2 * (x * y) ≡ x * x + y * y
