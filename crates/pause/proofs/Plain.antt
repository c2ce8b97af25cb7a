-- A file is given exactly the number of the plain statements, whatever its bytes; and these leave no choice. Assumes nothing.
use Rattle.std.proofs.Common.{◌≡◌, ℕ, zero, suc, ◌*◌, ◌/◌, List, length, refl, inl, inr, arith}
use Rattle.std.proofs.lemmas.Bool.Decides.{nat_tests}
use Rattle.refusal.specs.declared.Refusal.TheVariants.{Length}
use Rattle.refusal.specs.Number.{Outcome, code}
use Rattle.std.specs.Prelude.{Ok, Err}
use Rattle.refusal.specs.Check.{and_then}
use Rattle.refusal.proofs.Rows.{first_row, numbered}
use Rattle.record.specs.Record.{record_outcome}
use Rattle.record.specs.Plain.{RecordGiven}
use Rattle.record.proofs.Plain.{record_given, record_one}
use Rattle.pause.specs.Pause.{file_length_ok, records_outcome, file_outcome, pause_line_of}
use Rattle.pause.specs.Plain.{FirstRefused, RecordsGiven, FileGiven}
use Rattle.pause.proofs.Pause.{line_outcome}

one_more : (s : List ℕ) (n : ℕ) (p q : Outcome) → RecordsGiven s n (code p) → RecordGiven s (16 * n) (code q) → RecordsGiven s (suc n) (code (and_then p q))
one_more s n (Err r) q (inl f) g = inl (record { at = f.at; below = omega (arith, f.below); before = f.before; given = f.given; refused = f.refused })
one_more s n (Err r) q (inr z) g = absurd (numbered r z.1)
one_more s n (Ok _) q (inl f) g = absurd (f.refused refl)
one_more s n (Ok _) (Err r) (inr z) g = inl (record { at = n; below = omega arith; before = z.0; given = g; refused = numbered r })
one_more s n (Ok _) (Ok _) (inr z) g = inr (λ i l. grind (arith, z.0 i), refl)

records_given : (s : List ℕ) (n : ℕ) → RecordsGiven s n (code (records_outcome s n))
unfolding records_outcome
records_given s zero = inr (λ i l. grind arith, refl)
records_given s (suc n) = one_more s n (records_outcome s n) (record_outcome s (16 * n)) (records_given s n) (record_given s (16 * n))

pub file_given : (s : List ℕ) → FileGiven s (code (pause_line_of s).outcome)
unfolding file_outcome file_length_ok
file_given s =
    let n = length s / 16 in
    rw (line_outcome s)
    (first_row (file_length_ok (length s)) Length _ (RecordsGiven s n) (λ e m. grind (arith, nat_tests)) (λ e. grind (arith, nat_tests)) (records_given s n))

-- two numbers that a file is given are equal
refused_one : (s : List ℕ) (n j k : ℕ) → FirstRefused s n j → FirstRefused s n k → j ≡ k
refused_one s n j k x y = grind (arith, record_one s, x.before, y.before, x.given, y.given, x.refused, y.refused)

pub records_one : (s : List ℕ) (n j k : ℕ) → RecordsGiven s n j → RecordsGiven s n k → j ≡ k
records_one s n j k (inl x) (inl y) = refused_one s n j k x y
records_one s n j k (inl x) (inr y) = grind (arith, record_one s, x.given, x.refused, x.below, y.0)
records_one s n j k (inr x) (inl y) = grind (arith, record_one s, y.given, y.refused, y.below, x.0)
records_one s n j k (inr x) (inr y) = grind arith

pub file_one : (s : List ℕ) (j k : ℕ) → FileGiven s j → FileGiven s k → j ≡ k
file_one s j k x y = grind (arith, records_one)
