-- The lines of a day's text. Bytes are ASCII codes: 10 ends a line, 32 is a space. Assumes nothing.
use Rattle.std.specs.Prelude.{List, [], ◌∷◌, ◌++◌, ℕ, ℤ}
use Rattle.text.specs.Text.{decimal, signed_decimal}

-- "refused ", the number
abbrev pub refused_line : ℕ → List ℕ
refused_line k = 114 ∷ 101 ∷ 102 ∷ 117 ∷ 115 ∷ 101 ∷ 100 ∷ 32 ∷ (decimal k ++ (10 ∷ []))

-- "samples ", their count, " levels 3"
abbrev pub counts_line : ℕ → List ℕ
counts_line n =
    (115 ∷ 97 ∷ 109 ∷ 112 ∷ 108 ∷ 101 ∷ 115 ∷ 32 ∷ decimal n) ++ (32 ∷ 108 ∷ 101 ∷ 118 ∷ 101 ∷ 108 ∷ 115 ∷ 32 ∷ 51 ∷ 10 ∷ [])

-- a sample: its number, across, up, rank
abbrev pub sample_line : ℕ → ℤ → ℤ → ℕ → List ℕ
sample_line i x y rank = decimal i ++ (32 ∷ signed_decimal x) ++ (32 ∷ signed_decimal y) ++ (32 ∷ decimal rank) ++ (10 ∷ [])

-- "segments ", a total and three counts
abbrev pub counted_line : ℕ → ℕ → ℕ → ℕ → List ℕ
counted_line total a b c =
    (115 ∷ 101 ∷ 103 ∷ 109 ∷ 101 ∷ 110 ∷ 116 ∷ 115 ∷ 32 ∷ decimal total)
    ++ (32 ∷ decimal a) ++ (32 ∷ decimal b) ++ (32 ∷ decimal c) ++ (10 ∷ [])

-- "pause ", the line in milliseconds
abbrev pub pause_text : ℕ → List ℕ
pause_text sum = 112 ∷ 97 ∷ 117 ∷ 115 ∷ 101 ∷ 32 ∷ (decimal sum ++ (10 ∷ []))
