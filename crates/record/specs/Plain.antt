-- When a record is refused, in plain words: a statement says which number k is given. Assumes nothing.
use Rattle.std.specs.Prelude.{◌≡◌, ◌⊎◌, List, ℕ, ◌+◌, ◌<◌, length, get_or}
use Rattle.refusal.specs.Check.{First}
use Rattle.sample.specs.Coordinate.{Coord}
use Rattle.record.specs.Record.{across, up, rank, boot, edition}

-- both coordinates of the record at place p are in range
abbrev pub Placed : List ℕ → ℕ → Type 0
Placed s p = Coord (across s p) × Coord (up s p)

-- a spare byte of it is not zero
pub record SpareSet (s : List ℕ) (p : ℕ) : Type 0 where
  pub at : ℕ
  pub spare : at < 4
  pub set : get_or s (p + 12 + at) 0 ≡ 0 → ⊥

-- its edition is above 1, or 0 with a boot number above 0
abbrev pub EditionWrong : List ℕ → ℕ → Type 0
EditionWrong s p = (1 < edition s p) ⊎ ((edition s p ≡ 0) × (0 < boot s p))

-- its rank is above 16, its edition is wrong or a spare byte is not zero
abbrev pub Marred : List ℕ → ℕ → Type 0
Marred s p = (16 < rank s p) ⊎ (EditionWrong s p ⊎ SpareSet s p)

-- the number that it is given, 0 for none
abbrev pub RecordGiven : List ℕ → ℕ → ℕ → Type 0
RecordGiven s p = First 6 (Placed s p → ⊥) (First 11 (Marred s p) (λ k. k ≡ 0))

-- one record alone: 10 where it is not of 16 bytes
abbrev pub DecodeGiven : List ℕ → ℕ → Type 0
DecodeGiven s = First 10 (length s ≡ 16 → ⊥) (RecordGiven s 0)
