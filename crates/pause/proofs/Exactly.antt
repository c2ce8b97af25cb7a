-- Exactly when a file is given each number: `k ≡ number ↔ (what passed before it) × (its row)`, and 0 where every check passes. Assumes nothing.
use Rattle.std.proofs.Common.{◌≡◌, ℕ, ◌*◌, ◌/◌, ◌<◌, ◌↔◌, List, length, inl, inr, arith}
use Rattle.record.specs.Plain.{RecordGiven}
use Rattle.record.proofs.Exactly.{not_ten}
use Rattle.pause.specs.Plain.{FirstRefused, RecordsGiven, Misfit, FileGiven}
use Rattle.pause.proofs.Plain.{records_one}

pub record FileRows (s : List ℕ) (k : ℕ) : Type 0 where
  -- not a multiple of 16 bytes, or more than 4,096 records
  pub row_10 : k ≡ 10 ↔ Misfit s
  -- 6 or 11: the number of the first record, in file order, that is refused
  pub row_first : (num : ℕ) → (num ≡ 10 → ⊥) → (num ≡ 0 → ⊥) → k ≡ num ↔ (Misfit s → ⊥) × FirstRefused s (length s / 16) num
  -- every check of every record passes
  pub row_0 : k ≡ 0 ↔ (Misfit s → ⊥) × ((i : ℕ) → i < length s / 16 → RecordGiven s (16 * i) 0)

records_not_ten : (s : List ℕ) (n : ℕ) {k : ℕ} → RecordsGiven s n k → k ≡ 10 → ⊥
records_not_ten s n (inl f) e = not_ten s (16 * f.at) f.given e
records_not_ten s n (inr z) e = grind arith

pub file_rows : (s : List ℕ) {k : ℕ} → FileGiven s k → FileRows s k
file_rows s {k} h = record {
  row_10 = (λ e. grind (arith, records_not_ten s (length s / 16)), λ m. grind arith);
  row_first = λ num a b. (λ e. grind arith, λ q. grind (arith, records_one));
  row_0 = (λ e. grind arith, λ q. grind (arith, records_one));
}
