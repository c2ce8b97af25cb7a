-- The rows of tests that the code is proved against, and what holds once they have passed.
-- `proofs/Numbers.antt` shows that each row gives the number of `Numbers.antt`. Assumes nothing.
use Rattle.std.specs.Prelude.{ℕ, ◌*◌, ◌≤◌, Bool, ◌&&◌, cond, List, leb, ltb, eqb, length, Ok}
use Rattle.refusal.specs.declared.Refusal.TheVariants.{Buffer, Held, Stored, Coordinate, Full, Missing, Few}
use Rattle.refusal.specs.Number.{Outcome}
use Rattle.refusal.specs.Check.{unless, and_then, from_to}
use Rattle.sample.specs.declared.Sample.{Sample}
use Rattle.sample.specs.Samples.{Samples}
use Rattle.sample.specs.Valid.{sample_ok, samples_ok}
use Rattle.sizes.specs.declared.Sizes.{Sizes}
use Rattle.sizes.specs.Setup.{Sized, Tolerances}
use Rattle.sizes.specs.Rows.{setup_outcome}
use Rattle.table.specs.Check.{cells_ok}
use Rattle.checks.specs.declared.Lengths.{Lengths}
use Rattle.checks.specs.Numbers.{LentSamples, LentTable, StoredSamples, StoredCells}

-- 3, by lengths, a test for each buffer: N places across, up and of marks, and m · N · N cells
abbrev pub lengths : Samples → Lengths
lengths xs = record { across = length xs.across; up = length xs.up; marks = length xs.marks }

abbrev pub samples_lent : ℕ → Lengths → Bool
samples_lent N l = (leb N l.across && leb N l.up) && leb N l.marks

abbrev pub table_lent : Sizes → ℕ → Bool
table_lent a cells = leb (a.levels * (a.capacity * a.capacity)) cells

-- 1 to 4, by whether all that is lent is long enough
unfoldable pub lent_outcome : Sizes → Bool → Outcome
lent_outcome a lent =
    and_then (setup_outcome a.levels a.capacity a.tolerances)
    (and_then (unless lent Buffer) (unless (leb a.held a.capacity) Held))

-- 5 of the samples and of the cells
unfoldable pub stored_ok : Sizes → Samples → List ℕ → Bool
stored_ok a xs t = samples_ok xs a.held && cells_ok t a.capacity a.held a.levels

-- 1 to 5 of a call that is lent the samples alone; of one that is lent the table too, by whether all that it is lent is long enough
unfoldable pub samples_outcome : Sizes → Samples → Outcome
samples_outcome a xs = and_then (lent_outcome a (samples_lent a.capacity (lengths xs))) (unless (samples_ok xs a.held) Stored)

unfoldable pub stored_outcome : Sizes → Bool → Samples → List ℕ → Outcome
stored_outcome a long xs t = and_then (lent_outcome a long) (unless (stored_ok a xs t) Stored)

unfoldable pub trace_outcome : Sizes → Samples → List ℕ → Outcome
trace_outcome a xs t = stored_outcome a (samples_lent a.capacity (lengths xs) && table_lent a (length t)) xs t

-- 8 of a stretch and a level
unfoldable pub stretch_ok : Sizes → ℕ → ℕ → ℕ → Bool
stretch_ok a k i j = ltb i j && (ltb j a.held && from_to 1 a.levels k)

-- 7 of the next place, 8 of one past it
unfoldable pub place_outcome : Sizes → ℕ → Outcome
place_outcome a v = cond (eqb v a.held) (unless (ltb a.held a.capacity) Full) (unless (ltb v a.held) Missing)

-- 6 to 8
unfoldable pub sample_outcome : Sizes → ℕ → Sample → Outcome
sample_outcome a v x = and_then (unless (sample_ok x) Coordinate) (place_outcome a v)

-- 3 of the lists of an upload, by their lengths
abbrev pub lists_ok : Lengths → Bool
lists_ok l = eqb l.across l.up && eqb l.across l.marks

-- the row of each call; an upload's up to its first sample, by the lengths of its lists
unfoldable pub put_outcome : Sizes → Samples → List ℕ → ℕ → Sample → Outcome
put_outcome a xs t v x = and_then (trace_outcome a xs t) (sample_outcome a v x)

unfoldable pub upload_outcome : Sizes → Samples → List ℕ → Lengths → Outcome
upload_outcome a xs t lists = and_then (unless (lists_ok lists) Buffer) (cond (eqb lists.across 0) (Ok tt) (trace_outcome a xs t))

unfoldable pub ask_outcome : Sizes → Samples → ℕ → ℕ → ℕ → Outcome
ask_outcome a xs k i j = and_then (samples_outcome a xs) (unless (stretch_ok a k i j) Missing)

-- the rank buffer, by its length, has n bytes
unfoldable pub read_outcome : Sizes → Samples → List ℕ → ℕ → Outcome
read_outcome a xs t bytes =
    and_then (stored_outcome a ((samples_lent a.capacity (lengths xs) && table_lent a (length t)) && leb a.held bytes) xs t)
    (unless (leb 2 a.held) Few)

-- what holds once 1 to 5 have passed, of the setup and the samples
pub record Passed (a : Sizes) (xs : Samples) : Type 0 where
  pub sized : Sized a.levels a.capacity
  pub tolerances : Tolerances a.levels a.tolerances
  pub lent : LentSamples a xs
  pub held : a.held ≤ a.capacity
  pub stored : StoredSamples a xs

-- and of the table
pub record PassedTable (a : Sizes) (t : List ℕ) : Type 0 where
  pub room : LentTable a t
  pub cells : StoredCells a t
