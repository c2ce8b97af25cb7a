-- The house record: 16 bytes, low byte first; 0-1 across, 2-3 up, 4-7 pause counter, 8 rank, 9-10 boot, 11 edition, 12-15 spare. Assumes nothing.
use Rattle.std.specs.Prelude.{ℕ, ◌+◌, Bool, ◌&&◌, cond, List, leb, eqb, ℤ, pos, length, get_or, Ok, Err}
use Rattle.refusal.specs.declared.Refusal.TheVariants.{Coordinate, Length, Record}
use Rattle.refusal.specs.Number.{Outcome}
use Rattle.refusal.specs.Check.{need, unless, and_then, all_below}
use Rattle.words.specs.Word.{word, long, signed_at}
use Rattle.sample.specs.Coordinate.{coordinate_ok}
use Rattle.record.specs.declared.Decoded.{Decoded}

-- the fields of the record at place p
abbrev pub across : List ℕ → ℕ → ℤ
across s p = signed_at s p

abbrev pub up : List ℕ → ℕ → ℤ
up s p = signed_at s (p + 2)

unfoldable pub counter : List ℕ → ℕ → ℕ
counter s p = long s (p + 4)

abbrev pub rank : List ℕ → ℕ → ℕ
rank s p = get_or s (p + 8) 0

abbrev pub boot : List ℕ → ℕ → ℕ
boot s p = word s (p + 9)

abbrev pub edition : List ℕ → ℕ → ℕ
edition s p = get_or s (p + 11) 0

-- its edition is 0, and then its boot number is 0 too, or 1
unfoldable pub edition_ok : List ℕ → ℕ → Bool
edition_ok s p = cond (eqb (edition s p) 0) (eqb (boot s p) 0) (eqb (edition s p) 1)

-- its four spare bytes are zero
unfoldable pub spare_ok : List ℕ → ℕ → Bool
spare_ok s p = all_below 4 (λ k. eqb (get_or s (p + 12 + k) 0) 0)

-- all that 11 is given for is in order
unfoldable pub fields_ok : List ℕ → ℕ → Bool
fields_ok s p = leb (rank s p) 16 && (edition_ok s p && spare_ok s p)

-- the record at place p: 6, then 11
unfoldable pub record_outcome : List ℕ → ℕ → Outcome
record_outcome s p =
    and_then (unless (coordinate_ok (across s p) && coordinate_ok (up s p)) Coordinate)
    (unless (fields_ok s p) Record)

-- one record alone: 10, then 6, then 11
unfoldable pub decode_outcome : List ℕ → Outcome
decode_outcome s = need (eqb (length s) 16) (Err Length) (record_outcome s 0)

-- what the record at place p says where nothing was refused, else zeros
abbrev pub decoded_by : Outcome → List ℕ → ℕ → Decoded
decoded_by (Ok _) s p =
    record { outcome = Ok tt; across = across s p; up = up s p; pause = counter s p; rank = rank s p; boot = boot s p; edition = edition s p }
decoded_by (Err r) s p = record { outcome = Err r; across = pos 0; up = pos 0; pause = 0; rank = 0; boot = 0; edition = 0 }

unfoldable pub decode_of : List ℕ → Decoded
decode_of s = decoded_by (decode_outcome s) s 0
