-- A record is given exactly the number of the plain statements, whatever its bytes. Assumes nothing.
use mathlib.Core.Path.{◌≡◌}
use mathlib.Core.Bool.{true, false}
use mathlib.Core.List.{List}
use Prim.Native.Nat.{ℕ, ◌+◌, ◌≤◌}
use native.Mathlib.Omega.{arith}
use lib.Dec.{eqb}
use lib.ListN.{length, get_or}
use borrow.Author.Tests.{eqb-true, eqb-false}
use Rattle.refusal.specs.declared.Refusal.TheVariants.{Coordinate, Length, Record}
use Rattle.std.proofs.lemmas.Bool.Decides.{nat_tests}
use Rattle.std.specs.Prelude.{Ok}
use Rattle.refusal.specs.Number.{code}
use Rattle.refusal.proofs.Laws.{all_at, some_fails}
use Rattle.refusal.proofs.Plain.{by_equal, both_decided}
use Rattle.refusal.proofs.Rows.{first_row, test_row, unless_row, then_row, row_number}
use Rattle.sample.specs.Coordinate.{coordinate_ok}
use Rattle.sample.proofs.Coordinate.{coordinate_decided}
use Rattle.record.specs.Record.{across, up, edition, edition_ok, spare_ok, fields_ok, record_outcome, decode_outcome, decode_of}
use Rattle.record.specs.Plain.{SpareSet, Marred, RecordGiven, DecodeGiven}
use Rattle.record.proofs.Record.{decode_outcome_lem}

-- ---- one record
spare_right : (s : List ℕ) (p : ℕ) → spare_ok s p ≡ true → SpareSet s p → ⊥
unfolding spare_ok
spare_right s p h g = g.set (eqb-true _ 0 (all_at 4 (λ k. eqb (get_or s (p + 12 + k) 0) 0) h g.at g.spare))

spare_wrong : (s : List ℕ) (p : ℕ) → spare_ok s p ≡ false → SpareSet s p
unfolding spare_ok
spare_wrong s p h = let g = some_fails 4 (λ k. eqb (get_or s (p + 12 + k) 0) 0) h in record { at = g.at; spare = g.below; set = eqb-false _ 0 g.fails }

fields_right : (s : List ℕ) (p : ℕ) → fields_ok s p ≡ true → Marred s p → ⊥
unfolding fields_ok edition_ok
fields_right s p h m = grind (arith, nat_tests, spare_right s p)

fields_wrong : (s : List ℕ) (p : ℕ) → fields_ok s p ≡ false → Marred s p
unfolding fields_ok edition_ok
fields_wrong s p h = grind (arith, nat_tests, spare_wrong s p)

pub record_given : (s : List ℕ) (p : ℕ) → RecordGiven s p (code (record_outcome s p))
unfolding record_outcome
record_given s p =
    let d = both_decided (coordinate_ok (across s p)) (coordinate_ok (up s p)) (coordinate_decided (across s p)) (coordinate_decided (up s p)) in
    row_number _ _ (then_row _ _ (unless_row _ Coordinate d) (λ e. test_row _ Record (fields_right s p) (fields_wrong s p)))

-- so a record that is not refused has no edition above 1
pub good_edition : (s : List ℕ) (p : ℕ) → record_outcome s p ≡ Ok tt → edition s p ≤ 1
unfolding record_outcome fields_ok edition_ok
good_edition s p h = grind (arith, nat_tests)

pub decode_given : (s : List ℕ) → DecodeGiven s (code (decode_of s).outcome)
unfolding decode_outcome
decode_given s =
    let d = by_equal (length s) 16 in
    rw (decode_outcome_lem s) (first_row _ Length _ (RecordGiven s 0) (λ e n. n (d.right e)) d.wrong (record_given s 0))

-- ---- the plain statements leave no choice: two numbers that one of them gives are equal
pub record_one : (s : List ℕ) (p j k : ℕ) → RecordGiven s p j → RecordGiven s p k → j ≡ k
record_one s p j k x y = grind arith

pub decode_one : (s : List ℕ) (j k : ℕ) → DecodeGiven s j → DecodeGiven s k → j ≡ k
decode_one s j k x y = grind arith
