-- The lines of what buffers hold, a handier form for the code. Assumes nothing.
use Rattle.std.specs.Prelude.{List, [], ◌++◌, ℕ, zero, suc, ℤ, pos, get_or}
use Rattle.lines.specs.Lines.{counts_line, sample_line, counted_line, pause_text}

-- the lines of the first n samples as the buffers hold them
unfoldable pub held_lines : List ℤ → List ℤ → List ℕ → ℕ → List ℕ
held_lines xs ys bytes zero = []
held_lines xs ys bytes (suc n) = held_lines xs ys bytes n ++ sample_line n (get_or xs n (pos 0)) (get_or ys n (pos 0)) (get_or bytes n 0)

-- the whole text
abbrev pub held_text : List ℤ → List ℤ → List ℕ → ℕ → ℕ → List ℕ → ℕ → List ℕ
held_text xs ys bytes n total segments sum =
    counts_line n ++ held_lines xs ys bytes n ++ counted_line total (get_or segments 0 0) (get_or segments 1 0) (get_or segments 2 0)
    ++ pause_text sum
