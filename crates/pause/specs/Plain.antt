-- When a file is refused, what a record adds to the pause line and when it comes after a restart, in plain words. Assumes nothing.
use Rattle.std.specs.Prelude.{◌≡◌, ℕ, ◌+◌, ◌*◌, ◌/◌, ◌%◌, ◌<◌, ◌≤◌, ◌⊎◌, List, length, ◌≢◌}
use Rattle.refusal.specs.Check.{First}
use Rattle.record.specs.Record.{counter, boot, edition}
use Rattle.record.specs.Plain.{RecordGiven}

-- k is the number of the first of n records, in file order, that is refused
pub record FirstRefused (s : List ℕ) (n k : ℕ) : Type 0 where
  pub at : ℕ
  pub below : at < n
  pub before : (i : ℕ) → i < at → RecordGiven s (16 * i) 0
  pub given : RecordGiven s (16 * at) k
  pub refused : k ≡ 0 → ⊥

-- or none of them is, and k is 0
abbrev pub RecordsGiven : List ℕ → ℕ → ℕ → Type 0
RecordsGiven s n k = FirstRefused s n k ⊎ (((i : ℕ) → i < n → RecordGiven s (16 * i) 0) × (k ≡ 0))

-- a file is not a multiple of 16 bytes, or has more than 4,096 records
abbrev pub Misfit : List ℕ → Type 0
Misfit s = (length s % 16 ≢ 0) ⊎ (4096 < length s / 16)

-- it is given 10 there, and else as its records say
abbrev pub FileGiven : List ℕ → ℕ → Type 0
FileGiven s = First 10 (Misfit s) (RecordsGiven s (length s / 16))

-- d is what the record at place q adds after the one at place p
pub record Adds (s : List ℕ) (p q d : ℕ) : Type 0 where
  -- between two of edition 1 of equal boot: the number below 4,294,967,296 that, added to the earlier counter, gives the later modulo 4,294,967,296
  pub same_boot : edition s p ≡ 1 → edition s q ≡ 1 → boot s p ≡ boot s q → (d < 4294967296) × ((counter s p + d) % 4294967296 ≡ counter s q)
  -- of unequal boot: the later counter
  pub new_boot : edition s p ≡ 1 → edition s q ≡ 1 → (boot s p ≢ boot s q) → d ≡ counter s q
  -- where either is of edition 0, a later counter that is not lower: later minus earlier
  pub not_lower : (edition s p ≡ 0) ⊎ (edition s q ≡ 0) → counter s p ≤ counter s q → counter s p + d ≡ counter s q
  -- and a lower one: the later counter itself
  pub lower : (edition s p ≡ 0) ⊎ (edition s q ≡ 0) → counter s q < counter s p → d ≡ counter s q

-- both records are of edition 1
abbrev pub BothWithBoot : List ℕ → ℕ → ℕ → Type 0
BothWithBoot s p q = (edition s p ≡ 1) × (edition s q ≡ 1)

-- a restart lies between them: of two of edition 1 the boot differs, of any other pair the later counter is lower
abbrev pub Restarted : List ℕ → ℕ → ℕ → Type 0
Restarted s p q = (BothWithBoot s p q × (boot s p ≢ boot s q)) ⊎ ((BothWithBoot s p q → ⊥) × (counter s q < counter s p))
