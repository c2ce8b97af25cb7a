-- When a sample is valid, in plain words and as the tests of checks 5 and 6. Assumes nothing.
use Rattle.std.specs.Prelude.{ℕ, ◌<◌, Bool, ◌&&◌}
use Rattle.sample.specs.Coordinate.{Coord, coordinate_ok, coordinates_ok}
use Rattle.sample.specs.Mark.{Mark, mark_ok, marks_ok}
use Rattle.sample.specs.declared.Sample.{Sample}
use Rattle.sample.specs.Samples.{Samples, sample_at}

-- its coordinates are in range, and its mark is 0 or 1
abbrev pub Valid : Sample → Type 0
Valid x = Coord x.across × Coord x.up × Mark x.mark

-- each of the first n samples is
abbrev pub AllValid : Samples → ℕ → Type 0
AllValid xs n = (q : ℕ) → q < n → Valid (sample_at xs q)

-- the tests
unfoldable pub sample_ok : Sample → Bool
sample_ok x = coordinate_ok x.across && (coordinate_ok x.up && mark_ok x.mark)

unfoldable pub samples_ok : Samples → ℕ → Bool
samples_ok xs n = coordinates_ok xs.across n && (coordinates_ok xs.up n && marks_ok xs.marks n)
