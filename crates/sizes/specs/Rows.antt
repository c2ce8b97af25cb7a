-- Refusals 1 and 2 as the tests that the code is proved against. By `proofs/Decided.antt` they decide what `Setup.antt` says. Assumes nothing.
use Rattle.std.specs.Prelude.{ℕ, zero, suc, Bool, ◌&&◌, List, leb, ltb, get_or}
use Rattle.refusal.specs.declared.Refusal.TheVariants.{Setup, Tolerance}
use Rattle.refusal.specs.Number.{Outcome}
use Rattle.refusal.specs.Check.{unless, and_then, all_below, from_to}

-- 1
unfoldable pub setup_ok : ℕ → ℕ → Bool
setup_ok m N = from_to 1 16 m && from_to 2 256 N

-- 2: each tolerance is above the one before, the first above 0
abbrev pub before : List ℕ → ℕ → ℕ
before tols zero = 0
before tols (suc l) = get_or tols l 0

unfoldable pub tolerance_ok : List ℕ → ℕ → Bool
tolerance_ok tols l = ltb (before tols l) (get_or tols l 0) && leb (get_or tols l 0) 32768

unfoldable pub tolerances_ok : ℕ → List ℕ → Bool
tolerances_ok m tols = all_below m (tolerance_ok tols)

unfoldable pub setup_outcome : ℕ → ℕ → List ℕ → Outcome
setup_outcome m N tols = and_then (unless (setup_ok m N) Setup) (unless (tolerances_ok m tols) Tolerance)
