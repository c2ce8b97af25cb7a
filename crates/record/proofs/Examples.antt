-- The paper's record, as a theorem about the definition. Assumes nothing.
use mathlib.Core.Path.{◌≡◌, refl}
use mathlib.Core.List.{List, [], ◌∷◌}
use Prim.Native.Nat.{ℕ}
use lib.IntN.{pos}
use Rattle.std.specs.Prelude.{Ok}
use Rattle.refusal.specs.Check.{all_below}
use Rattle.sample.specs.Coordinate.{coordinate_ok}
use Rattle.words.specs.Word.{word, long, signed, signed_at}
use Rattle.record.specs.Record.{counter, edition_ok, spare_ok, fields_ok, record_outcome, decode_outcome, decode_of}

-- 0A 00 01 00 84 03 00 00, then eight zeros
abbrev pub ten_one : List ℕ
ten_one = 0x0a ∷ 0 ∷ 1 ∷ 0 ∷ 0x84 ∷ 3 ∷ 0 ∷ 0 ∷ 0 ∷ 0 ∷ 0 ∷ 0 ∷ 0 ∷ 0 ∷ 0 ∷ 0 ∷ []

pub record_example : decode_of ten_one ≡ record { outcome = Ok tt; across = pos 10; up = pos 1; pause = 900; rank = 0; boot = 0; edition = 0 }
unfolding decode_of decode_outcome record_outcome counter edition_ok spare_ok fields_ok word long signed signed_at coordinate_ok all_below
record_example = refl
