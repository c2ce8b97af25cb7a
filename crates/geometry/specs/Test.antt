-- The answer about a stretch, by computing. Assumes nothing.
use Rattle.std.specs.Prelude.{Bool, ◌&&◌, not, cond, ℕ, zero, suc, ◌*◌, ◌-◌, leb, ℤ}
use Rattle.geometry.specs.declared.Verdict.{Verdict}
use Rattle.geometry.specs.declared.Verdict.TheVariants.{Yes, No}
use Rattle.sample.specs.Mark.{marked}
use Rattle.geometry.specs.Nearest.{distance}
use Rattle.sample.specs.Samples.{Samples}
use Rattle.geometry.specs.Spoiler.{is_yes}
use Rattle.geometry.specs.Way.{way}

-- a sample lies within reach, a squared tolerance: one comparison, whichever case it is
unfoldable pub reaches : ℤ → ℤ → ℤ → ℤ → ℕ → Bool
reaches dx dy px py reach = leb (distance dx dy px py).top (reach * (distance dx dy px py).bottom)

-- the lowest of n numbers from k on that a test does not pass
unfoldable pub lowest : (ℕ → Bool) → ℕ → ℕ → Verdict
lowest f k zero = Yes
lowest f k (suc n) = cond (f k) (lowest f (suc k) n) (No k)

-- the answer about the stretch from i to j at e
unfoldable pub judged : Samples → ℕ → ℕ → ℕ → Verdict
judged xs i j e =
    lowest
    (λ k.
    not (marked xs.marks k)
    && reaches (way xs.across i j) (way xs.up i j) (way xs.across i k) (way xs.up i k) (e * e))
    (suc i) (j - suc i)

-- whether it is yes: the stretch is permitted
unfoldable pub permits : Samples → ℕ → ℕ → ℕ → Bool
permits xs i j e = is_yes (judged xs i j e)
