-- The records of a file that is not refused are in range. Assumes nothing.
use mathlib.Core.Path.{◌≡◌, refl}
use mathlib.Core.Logic.{⊎_elim}
use mathlib.Core.List.{List}
use Prim.Native.Nat.{ℕ, ◌*◌, ◌<◌}
use native.Mathlib.Omega.{arith}
use Rattle.std.specs.Prelude.{Ok}
use Rattle.refusal.proofs.Plain.{not_refuted, both_decided}
use Rattle.sample.proofs.Coordinate.{coordinate_decided}
use Rattle.record.specs.Record.{across, up}
use Rattle.pause.specs.Pause.{pause_line_of, pause_sum}
use Rattle.record.specs.Plain.{Placed, RecordGiven}
use Rattle.pause.specs.Plain.{FileGiven}
use Rattle.pause.proofs.Pause.{file_good, line_by_lem}
use Rattle.record.proofs.Plain.{record_given}
use Rattle.pause.proofs.Plain.{file_given}
use Rattle.day.specs.Day.{count}

-- a record that is given 0 is in range
pub placed : (s : List ℕ) (p : ℕ) → RecordGiven s p 0 → Placed s p
placed s p h =
    not_refuted _ (both_decided _ _ (coordinate_decided (across s p)) (coordinate_decided (up s p))) (⊎_elim (λ a. absurd (omega (arith, a.1))) (λ a. a.0) h)

module _ (s : List ℕ) (good : (pause_line_of s).outcome ≡ Ok tt) where
  pub good_given : FileGiven s 0
  good_given = rw good at (file_given s)

  pub good_sum : (pause_line_of s).sum ≡ pause_sum s (count s)
  good_sum = rw (line_by_lem s, good) refl

  module _ (i : ℕ) (h : i < count s) where
    pub good_placed : Placed s (16 * i)
    good_placed = placed s (16 * i) (rw (file_good s i good h) at (record_given s (16 * i)))
