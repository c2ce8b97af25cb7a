-- What dayline prints of a file of records, by the lines of crate lines. Assumes nothing.
use Rattle.std.specs.Prelude.{◌≡◌, ◌⊎◌, List, [], ◌∷◌, ◌++◌, ℕ, zero, suc, ◌*◌, ◌-◌, ◌/◌, ◌<◌, length, replicate}
use Rattle.refusal.specs.Check.{First}
use Rattle.sample.specs.declared.Sample.{Sample}
use Rattle.sample.specs.Samples.{Samples, sample, samples}
use Rattle.family.specs.Levels.{Chosen, size, ranks}
use Rattle.costs.specs.Costs.{Permit}
use Rattle.record.specs.Record.{across, up}
use Rattle.pause.specs.Pause.{pause_sum}
use Rattle.pause.specs.Plain.{FileGiven}
use Rattle.pause.specs.Restart.{mark_at}
use Rattle.text.specs.Text.{Written}
use Rattle.lines.specs.Lines.{refused_line, counts_line, sample_line, counted_line, pause_text}

-- how many records a file has
abbrev pub count : List ℕ → ℕ
count s = length s / 16

-- f 0, f 1, .. up to n of them
unfoldable pub listed : {A : Type 0} → (ℕ → A) → ℕ → List A
listed f zero = []
listed f (suc n) = listed f n ++ (f n ∷ [])

-- the sample of its record i: marked where a restart lies before it
abbrev pub day_sample : List ℕ → ℕ → Sample
day_sample s i = sample (across s (16 * i)) (up s (16 * i)) (mark_at s i)

-- those of its first n records
abbrev pub day_samples : List ℕ → ℕ → Samples
day_samples s n =
    samples (listed (λ i. (day_sample s i).across) n) (listed (λ i. (day_sample s i).up) n) (listed (λ i. (day_sample s i).mark) n)

-- tolerances 1, 4, 16 at three levels
abbrev pub tolerances : List ℕ
tolerances = 1 ∷ 4 ∷ 16 ∷ replicate 13 0

-- the number of a refused day, 0 for none: the pause line's first, then that of each sample put, of which the 105th finds no
-- room, then the read's
abbrev pub DayNumber : List ℕ → ℕ → Type 0
DayNumber s k = (FileGiven s k × (k ≡ 0 → ⊥)) ⊎ (FileGiven s 0 × First 7 (104 < count s) (First 9 (count s < 2) (λ k. k ≡ 0)) k)

-- ---- the lines
-- of the first n samples of a file, in the levels L
unfoldable pub sample_lines : List ℕ → (ℕ → List ℕ) → ℕ → List ℕ
sample_lines s L zero = []
sample_lines s L (suc n) = sample_lines s L n ++ sample_line n (across s (16 * n)) (up s (16 * n)) (ranks L 3 n)

-- of the segments of the levels L: 1, 2, 3
abbrev pub segments_line : (ℕ → List ℕ) → List ℕ
segments_line L = counted_line (size L 3) (length (L 1) - 1) (length (L 2) - 1) (length (L 3) - 1)

-- ---- the whole
-- the text of a day whose levels are L
unfoldable pub levels_text : List ℕ → (ℕ → List ℕ) → List ℕ
levels_text s L = counts_line (count s) ++ sample_lines s L (count s) ++ segments_line L ++ pause_text (pause_sum s (count s))

-- L is the chosen minimal family of the file's samples
abbrev pub DayLevels : List ℕ → (ℕ → List ℕ) → Type 0
DayLevels s L = Chosen (Permit (day_samples s (count s)) tolerances) 3 0 (count s - 1) L

-- t is what is printed of the file s: the number alone where it is refused, else the text of its levels
pub record DayText (s t : List ℕ) : Type 0 where
  pub number : ℕ
  pub given : DayNumber s number
  pub refused : (number ≡ 0 → ⊥) → t ≡ refused_line number
  pub done : number ≡ 0 → (L : ℕ → List ℕ) × DayLevels s L × (t ≡ levels_text s L)

-- that text is written at the start of a buffer
abbrev pub Reported : List ℕ → List ℕ → List ℕ → ℕ → Type 0
Reported s out out' r = (t : List ℕ) × DayText s t × Written out 0 t out' r
