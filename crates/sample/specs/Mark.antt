-- The mark of a sample, in plain words and as the tests of checks 5 and 6; and which samples are marked. Assumes nothing.
use Rattle.std.specs.Prelude.{ℕ, ◌≤◌, ◌≡◌, Bool, List, leb, eqb, get_or}
use Rattle.refusal.specs.Check.{all_below}

-- 0 or 1
abbrev pub Mark : ℕ → Type 0
Mark mark = mark ≤ 1

-- sample k is marked
abbrev pub Marked : List ℕ → ℕ → Type 0
Marked ms k = get_or ms k 0 ≡ 1

-- the tests
unfoldable pub mark_ok : ℕ → Bool
mark_ok mark = leb mark 1

unfoldable pub marks_ok : List ℕ → ℕ → Bool
marks_ok ms n = all_below n (λ k. mark_ok (get_or ms k 0))

unfoldable pub marked : List ℕ → ℕ → Bool
marked ms k = eqb (get_or ms k 0) 1
