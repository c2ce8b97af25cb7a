-- The sample of a record of a file that is not refused is what stands in the file. Assumes nothing.
use Rattle.std.proofs.Common.{◌≡◌, ℕ, ℤ, ◌*◌, ◌/◌, ◌<◌, List, length, refl, ap, ◌∙◌}
use Rattle.refusal.specs.Number.{Outcome}
use Rattle.std.specs.Prelude.{Ok}
use Rattle.sample.specs.Samples.{sample}
use Rattle.record.specs.Record.{across, up, decode_of, decoded_by}
use Rattle.pause.specs.Pause.{record_bytes, pause_line_of}
use Rattle.pause.specs.Restart.{mark_at, sample_of}
use Rattle.pause.proofs.Bytes.{decode_alone}
use Rattle.pause.proofs.Marks.{mark_there}
use Rattle.pause.proofs.Pause.{file_good}

-- two samples are one where their parts are
pub samples_same : {x y z w : ℤ} {a b : ℕ} → x ≡ z → y ≡ w → a ≡ b → sample x y a ≡ sample z w b
samples_same {x} {y} {z} {w} {a} {b} e f g = let h : sample x y a ≡ sample z w b = cc in h

module _ (s : List ℕ) (good : (pause_line_of s).outcome ≡ Ok tt) (i : ℕ) (h : i < length s / 16) where
  decoded : decode_of (record_bytes s i) ≡ decoded_by (Ok tt) s (16 * i)
  decoded = decode_alone s i h ∙ ap (λ (o : Outcome). decoded_by o s (16 * i)) (file_good s i good h)

  pub sample_there : sample_of s i ≡ sample (across s (16 * i)) (up s (16 * i)) (mark_at s i)
  unfolding sample_of
  sample_there = rw (decoded, mark_there s i h) refl
