-- Exactly when each number of the paper's table is given to a record: `k ≡ number ↔ (what passed before it) × (its row)`, and 0 where every check passes. Assumes nothing.
use mathlib.Core.Path.{◌≡◌}
use mathlib.Core.Logic.{◌↔◌}
use mathlib.Core.List.{List}
use Prim.Native.Nat.{ℕ}
use native.Mathlib.Omega.{arith}
use lib.ListN.{length}
use Rattle.refusal.proofs.Plain.{both_decided, not_refuted}
use Rattle.sample.proofs.Coordinate.{coordinate_decided}
use Rattle.record.specs.Record.{across, up}
use Rattle.record.specs.Plain.{Placed, Marred, RecordGiven, DecodeGiven}

-- a record gives no 10
pub not_ten : (s : List ℕ) (p : ℕ) {k : ℕ} → RecordGiven s p k → k ≡ 10 → ⊥
not_ten s p r e = grind arith

-- ---- one record
pub record DecodeRows (s : List ℕ) (k : ℕ) : Type 0 where
  -- a record not of 16 bytes
  pub row_10 : k ≡ 10 ↔ (length s ≡ 16 → ⊥)
  -- a coordinate out of range
  pub row_6 : k ≡ 6 ↔ (length s ≡ 16) × (Placed s 0 → ⊥)
  -- a rank above 16, an edition above 1, edition 0 with a boot number above 0, or a spare byte not zero
  pub row_11 : k ≡ 11 ↔ (length s ≡ 16) × (Placed s 0 × Marred s 0)
  -- every check passes
  pub row_0 : k ≡ 0 ↔ (length s ≡ 16) × (Placed s 0 × (Marred s 0 → ⊥))

pub decode_rows : (s : List ℕ) {k : ℕ} → DecodeGiven s k → DecodeRows s k
decode_rows s {k} h =
    let placed : ((Placed s 0 → ⊥) → ⊥) → Placed s 0 = not_refuted _ (both_decided _ _ (coordinate_decided (across s 0)) (coordinate_decided (up s 0))) in
    record {
      row_10 = (λ e. grind arith, λ n. grind arith);
      row_6 = (λ e. grind arith, λ p. grind arith);
      row_11 = (λ e. grind (arith, placed), λ p. grind arith);
      row_0 = (λ e. grind (arith, placed), λ p. grind arith);
    }
