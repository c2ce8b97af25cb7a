-- A day as the code holds it: a trace with a file's first records. Only contracts of private functions cite it. Assumes nothing.
use Rattle.std.specs.Prelude.{◌≡◌, List, ℕ, ◌≤◌, ◌<◌, pos, length, get_or, Result, Ok, Err}
use Rattle.refusal.specs.declared.Refusal.{Refusal}
use Rattle.refusal.specs.Number.{number}
use Rattle.sample.specs.Samples.{Samples}
use Rattle.family.specs.Levels.{Costs}
use Rattle.table.specs.Table.{cell}
use Rattle.costs.specs.Costs.{Permit}
use Rattle.trace.specs.declared.Trace.{Trace}
use Rattle.day.specs.Day.{count, day_sample, tolerances}

-- the day's setup, with n samples
abbrev pub day_trace : ℕ → Trace
day_trace n = record { levels = 3; capacity = 104; held = n; tolerances = tolerances }

-- the buffers have the day's places, and nothing is asked of what they hold
abbrev pub Lent : Samples → List ℕ → Type 0
Lent xs t = (length xs.across ≡ 104) × (length xs.up ≡ 104) × (length xs.marks ≡ 104) × (length t ≡ 32768)

-- the first n records of the file s are added: their samples are stored, and every cell is the cost of its stretch
pub record Filled (s : List ℕ) (n : ℕ) (xs : Samples) (t : List ℕ) : Type 0 where
  pub room : n ≤ 104
  pub lent : Lent xs t
  pub across : (q : ℕ) → q < n → get_or xs.across q (pos 0) ≡ (day_sample s q).across
  pub up : (q : ℕ) → q < n → get_or xs.up q (pos 0) ≡ (day_sample s q).up
  pub marks : (q : ℕ) → q < n → get_or xs.marks q 0 ≡ (day_sample s q).mark
  pub costs : Costs (Permit xs tolerances) (cell t 104) 3 n

-- every record was added, or the 105th found no room
abbrev pub AddsAll : List ℕ → Result Trace Refusal → Samples → List ℕ → Type 0
AddsAll s (Ok a) xs t = (a ≡ day_trace (count s)) × Filled s (count s) xs t
AddsAll s (Err why) xs t = (104 < count s) × (number why ≡ 7)
