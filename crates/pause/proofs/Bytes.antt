-- A record of a file, taken alone, says what it says in the file. Assumes nothing.
use Rattle.std.proofs.Common.{◌≡◌, ℕ, ◌+◌, ◌*◌, ◌/◌, ◌<◌, ◌≤◌, eqb, List, length, get_or, take, drop, sym, refl, ap, ◌∙◌, add-zero, add_assoc, arith, length-drop, length-take-le, get_or-drop, get_or-take, lt-ltb, eq-eqb}
use native.Mathlib.Nat.{mul-div-le}
use Rattle.refusal.specs.Number.{Outcome}
use Rattle.std.specs.Prelude.{Ok, Err}
use Rattle.refusal.proofs.Laws.{all_same}
use Rattle.words.specs.Word.{word, long, signed, signed_at}
use Rattle.record.specs.Record.{counter, edition_ok, spare_ok, fields_ok, record_outcome, decode_outcome, decoded_by, decode_of}
use Rattle.pause.specs.Pause.{record_bytes, pause_line_of}
use Rattle.record.proofs.Record.{decode_outcome_lem}
use Rattle.pause.proofs.Pause.{file_good}

module _ (s : List ℕ) (i : ℕ) (h : i < length s / 16) where
  bytes : record_bytes s i ≡ take 16 (drop (16 * i) s)
  unfolding record_bytes
  bytes = simp (lt-ltb i (length s / 16) h)

  bytes_length : length (record_bytes s i) ≡ 16
  bytes_length = let m : 16 * (length s / 16) ≤ length s = mul-div-le (length s) 16 in ap length bytes ∙ length-take-le 16 (drop (16 * i) s) (rw length-drop (omega arith))

  byte : (j : ℕ) → j < 16 → get_or (record_bytes s i) j 0 ≡ get_or s (16 * i + j) 0
  byte j l = rw (bytes, get_or-take 16 (drop (16 * i) s) j 0 l, get_or-drop)

  words : (j : ℕ) → j + 1 < 16 → word (record_bytes s i) j ≡ word s (16 * i + j)
  unfolding word
  words j l = rw (byte j (omega arith), byte (j + 1) l, add_assoc (16 * i) j 1)

  fields : (j : ℕ) → j + 1 < 16 → signed_at (record_bytes s i) j ≡ signed_at s (16 * i + j)
  unfolding signed_at
  fields j l = ap signed (words j l)

  acrosses : signed_at (record_bytes s i) 0 ≡ signed_at s (16 * i)
  acrosses = fields 0 (omega arith) ∙ ap (signed_at s) (add-zero (16 * i))

  counters : counter (record_bytes s i) 0 ≡ counter s (16 * i)
  unfolding counter long
  counters = rw (words 4 (omega arith), words 6 (omega arith), add_assoc (16 * i) 4 2)

  spares : spare_ok (record_bytes s i) 0 ≡ spare_ok s (16 * i)
  unfolding spare_ok
  spares = all_same 4 _ _ (λ k l. ap (λ (x : ℕ). eqb x 0) (byte (12 + k) (omega arith) ∙ ap (λ (x : ℕ). get_or s x 0) (sym (add_assoc (16 * i) 12 k))))

  editions : edition_ok (record_bytes s i) 0 ≡ edition_ok s (16 * i)
  unfolding edition_ok
  editions = rw (byte 11 (omega arith), words 9 (omega arith))

  rest : fields_ok (record_bytes s i) 0 ≡ fields_ok s (16 * i)
  unfolding fields_ok
  rest = rw (byte 8 (omega arith), editions, spares)

  outcomes : decode_outcome (record_bytes s i) ≡ record_outcome s (16 * i)
  unfolding decode_outcome record_outcome
  outcomes = simp (eq-eqb _ _ bytes_length, acrosses, fields 2 (omega arith), rest)

  said : (o : Outcome) → decoded_by o (record_bytes s i) 0 ≡ decoded_by o s (16 * i)
  said (Ok _) = rw (acrosses, fields 2 (omega arith), counters, byte 8 (omega arith), words 9 (omega arith), byte 11 (omega arith))
  said (Err r) = refl

  pub decode_alone : decode_of (record_bytes s i) ≡ decoded_by (record_outcome s (16 * i)) s (16 * i)
  unfolding decode_of
  decode_alone = ap (λ (o : Outcome). decoded_by o (record_bytes s i) 0) outcomes ∙ said (record_outcome s (16 * i))

  -- so no record of a file whose pause line is given is refused
  pub decode_good : (pause_line_of s).outcome ≡ Ok tt → (decode_of (record_bytes s i)).outcome ≡ Ok tt
  decode_good g = decode_outcome_lem (record_bytes s i) ∙ outcomes ∙ file_good s i g h
