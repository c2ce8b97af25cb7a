-- When a record comes after a restart, its mark, and the sample that it gives. Assumes nothing.
use Rattle.std.specs.Prelude.{ℕ, zero, suc, ◌*◌, ◌/◌, Bool, cond, not, List, length, ◌==◌, nat_lt}
use Rattle.sample.specs.declared.Sample.{Sample}
use Rattle.sample.specs.Samples.{sample}
use Rattle.record.specs.Record.{counter, boot, decode_of}
use Rattle.pause.specs.Pause.{record_bytes, both_with_boot}

-- a restart lies between the records at places p and q: of two of edition 1 the boot differs, of others the later counter is lower
unfoldable pub restarted : List ℕ → ℕ → ℕ → Bool
restarted s p q = cond (both_with_boot s p q) (not (boot s p == boot s q)) (nat_lt (counter s q) (counter s p))

-- the mark of record n of a file: 1 where a restart lies before it, else 0; the first never has one
unfoldable pub mark_at : List ℕ → ℕ → ℕ
mark_at s zero = 0
mark_at s (suc n) = cond (restarted s (16 * n) (16 * suc n)) 1 0

-- and 0 where there is no such record
unfoldable pub mark_of : List ℕ → ℕ → ℕ
mark_of s i = cond (nat_lt i (length s / 16)) (mark_at s i) 0

-- its sample: the coordinates as decoded, zeros where there is no such record or it is refused, and the mark
unfoldable pub sample_of : List ℕ → ℕ → Sample
sample_of s i = sample (decode_of (record_bytes s i)).across (decode_of (record_bytes s i)).up (mark_of s i)
