-- The paper's number of each refusal. Assumes nothing.
use Rattle.std.specs.Prelude.{ℕ, Result, Ok, Err}
use Rattle.refusal.specs.declared.Refusal.{Refusal}
use Rattle.refusal.specs.declared.Refusal.TheVariants.{Setup, Tolerance, Buffer, Held, Stored, Coordinate, Full, Missing, Few, Length, Record}

abbrev pub number : Refusal → ℕ
number Setup = 1
number Tolerance = 2
number Buffer = 3
number Held = 4
number Stored = 5
number Coordinate = 6
number Full = 7
number Missing = 8
number Few = 9
number Length = 10
number Record = 11

-- a call or a check: carried out, or refused
abbrev pub Outcome : Type 0
Outcome = Result (Unit {0}) Refusal

-- 0 where the call was carried out
abbrev pub code : Outcome → ℕ
code (Ok done) = 0
code (Err why) = number why
