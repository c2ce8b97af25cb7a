-- The pause line of a file of records. Assumes nothing.
use Rattle.std.specs.Prelude.{ℕ, zero, suc, ◌+◌, ◌-◌, ◌*◌, ◌/◌, ◌%◌, Bool, cond, ◌&&◌, List, [], length, take, drop, ◌==◌, nat_le, nat_lt, Ok, Err}
use Rattle.refusal.specs.declared.Refusal.TheVariants.{Length}
use Rattle.refusal.specs.Number.{Outcome}
use Rattle.refusal.specs.Check.{need, and_then}
use Rattle.pause.specs.declared.PauseLine.{PauseLine}
use Rattle.record.specs.Record.{counter, boot, edition, record_outcome}

-- record i of a file: its 16 bytes, and none where there is no such record
unfoldable pub record_bytes : List ℕ → ℕ → List ℕ
record_bytes s i = cond (nat_lt i (length s / 16)) (take 16 (drop (16 * i) s)) []

-- whole records, and at most 4,096
unfoldable pub file_length_ok : ℕ → Bool
file_length_ok len = len % 16 == 0 && nat_le (len / 16) 4096

-- the first n records in file order
unfoldable pub records_outcome : List ℕ → ℕ → Outcome
records_outcome s zero = Ok tt
records_outcome s (suc n) = and_then (records_outcome s n) (record_outcome s (16 * n))

-- 10 for the whole, then 6 and 11 of each record
unfoldable pub file_outcome : List ℕ → Outcome
file_outcome s = need (file_length_ok (length s)) (Err Length) (records_outcome s (length s / 16))

-- the old rule: later minus earlier when the later counter is not lower; a lower one means a restart, and then it is the later counter itself
unfoldable pub old_increase : ℕ → ℕ → ℕ
old_increase earlier later = cond (nat_le earlier later) (later - earlier) later

-- the difference of two counters, taken modulo 4,294,967,296
unfoldable pub difference : ℕ → ℕ → ℕ
difference earlier later = ((later + 4294967296) - earlier) % 4294967296

-- the records at places p and q are both of edition 1
unfoldable pub both_with_boot : List ℕ → ℕ → ℕ → Bool
both_with_boot s p q = edition s p == 1 && edition s q == 1

-- what the record at place q adds after the one at place p: between two of edition 1 the difference where their boot is equal, else the later
-- counter; where either is of edition 0, by the old rule
unfoldable pub increase : List ℕ → ℕ → ℕ → ℕ
increase s p q =
    cond (both_with_boot s p q)
    (cond (boot s p == boot s q) (difference (counter s p) (counter s q)) (counter s q))
    (old_increase (counter s p) (counter s q))

-- what record n adds: nothing where it is the first
unfoldable pub increase_at : List ℕ → ℕ → ℕ
increase_at s zero = 0
increase_at s (suc n) = increase s (16 * n) (16 * suc n)

-- what the first n records add
unfoldable pub pause_sum : List ℕ → ℕ → ℕ
pause_sum s zero = 0
pause_sum s (suc n) = pause_sum s n + increase_at s n

-- the sum where nothing was refused, else 0
abbrev pub line_by : Outcome → List ℕ → PauseLine
line_by (Ok _) s = record { outcome = Ok tt; sum = pause_sum s (length s / 16) }
line_by (Err r) s = record { outcome = Err r; sum = 0 }

unfoldable pub pause_line_of : List ℕ → PauseLine
pause_line_of s = line_by (file_outcome s) s
