-- The lines of buffers that hold a file's samples and its ranks are the file's. Assumes nothing.
use mathlib.Core.Path.{◌≡◌, refl}
use mathlib.Core.List.{List}
use Prim.Native.Nat.{ℕ, zero, suc, ◌*◌, ◌<◌}
use native.Mathlib.Omega.{arith}
use lib.IntN.{ℤ, pos}
use lib.ListN.{get_or}
use Rattle.family.specs.Levels.{ranks}
use Rattle.record.specs.Record.{across, up}
use Rattle.lines.specs.Held.{held_lines}
use Rattle.day.specs.Day.{sample_lines}

pub held_lines_lem : (s : List ℕ) (L : ℕ → List ℕ) (xs ys : List ℤ) (e : List ℕ) (n : ℕ) → ((q : ℕ) → q < n → get_or xs q (pos 0) ≡ across s (16 * q))
    → ((q : ℕ) → q < n → get_or ys q (pos 0) ≡ up s (16 * q)) → ((q : ℕ) → q < n → get_or e q 0 ≡ ranks L 3 q) → held_lines xs ys e n ≡ sample_lines s L n
unfolding held_lines sample_lines
held_lines_lem s L xs ys e zero a b c = refl
held_lines_lem s L xs ys e (suc n) a b c =
    let before = held_lines_lem s L xs ys e n (λ q h. a q (omega arith)) (λ q h. b q (omega arith)) (λ q h. c q (omega arith)) in
    rw (before, a n (omega arith), b n (omega arith), c n (omega arith))
