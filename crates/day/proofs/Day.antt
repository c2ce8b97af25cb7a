-- The text of a day is one, and fits the buffer: so dayline's buffer holds the text and no part of it, of all that was to be read. Assumes nothing.
use mathlib.Core.Path.{◌≡◌, refl, sym, ap, subst, ◌∙◌}
use mathlib.Core.Logic.{inl, inr, ⊎_elim}
use mathlib.Core.List.{List}
use Prim.Native.Nat.{ℕ, zero, suc, ◌*◌, ◌-◌, ◌/◌, ◌≤◌, ◌<◌}
use native.Mathlib.Decide.{dec_lt}
use native.Mathlib.Omega.{arith}
use lib.IntN.{ℤ, pos, negsuc}
use lib.ListN.{length, take, length-append, length-take}
use lib.Seq.{take_all}
use Rattle.refusal.specs.Check.{First}
use Rattle.refusal.proofs.Rows.{first_one, first_has}
use Rattle.sample.specs.Coordinate.{Coord}
use Rattle.family.specs.Levels.{size, ranks}
use Rattle.family.proofs.Choices.{chosen_one}
use Rattle.family.proofs.Levels.{ranks_in}
use Rattle.record.specs.Record.{across, up}
use Rattle.pause.specs.Pause.{pause_sum}
use Rattle.record.specs.Plain.{Placed}
use Rattle.pause.specs.Plain.{RecordsGiven, Misfit, FileGiven}
use Rattle.pause.proofs.Plain.{file_one}
use Rattle.pause.proofs.Exactly.{file_rows}
use Rattle.text.specs.Text.{signed_decimal}
use Rattle.text.proofs.Decimal.{decimal_length, decimal_most}
use Rattle.text.proofs.Written.{written_as, written_one}
use Rattle.lines.specs.Lines.{refused_line, sample_line}
use Rattle.day.specs.Day.{count, DayNumber, DayLevels, DayText, Reported, sample_lines, levels_text}
use Rattle.day.proofs.Records.{placed}

-- ---- one number, and one text
number_one : (s : List ℕ) (j k : ℕ) → DayNumber s j → DayNumber s k → j ≡ k
number_one s j k (inl a) (inl b) = file_one s j k a.0 b.0
number_one s j k (inl a) (inr b) = absurd (a.1 (file_one s j 0 a.0 b.0))
number_one s j k (inr a) (inl b) = absurd (b.1 (file_one s k 0 b.0 a.0))
number_one s j k (inr a) (inr b) =
    first_one 7 (104 < count s) (First 9 (count s < 2) (λ k. k ≡ 0)) (first_one 9 (count s < 2) (λ k. k ≡ 0) (λ j k x y. x ∙ sym y)) j k a.1 b.1

module _ (s : List ℕ) (L M : ℕ → List ℕ) (one : L 1 ≡ M 1) (two : L 2 ≡ M 2) (three : L 3 ≡ M 3) where
  lines_one : (n : ℕ) → sample_lines s L n ≡ sample_lines s M n
  unfolding sample_lines ranks
  lines_one zero = refl
  lines_one (suc n) = rw (lines_one n, one, two, three)

  levels_one : levels_text s L ≡ levels_text s M
  unfolding levels_text size
  levels_one = rw (lines_one (count s), one, two, three)

pub day_one : {s t u : List ℕ} → DayText s t → DayText s u → t ≡ u
day_one {s} T U =
    let e = number_one s T.number U.number T.given U.given in
    elim (dec_lt 0 T.number) [
      | yes y ↦ T.refused (λ z. omega arith) ∙ ap refused_line e ∙ sym (U.refused (λ z. omega arith))
      | no y ↦
          (let a = T.done (omega arith) in
          let b = U.done (omega arith) in
          let c = chosen_one _ 3 0 (count s - 1) a.0 b.0 a.1 b.1 in
          a.2 ∙ levels_one s a.0 b.0 (c 1 (omega arith) (omega arith)) (c 2 (omega arith) (omega arith)) (c 3 (omega arith) (omega arith)) ∙ sym b.2)
    ]

-- so any two reports of a file into a buffer leave the same bytes and end at the same place
pub report_one : {s out o p : List ℕ} {r q : ℕ} → Reported s out o r → Reported s out p q → (r ≡ q) × (o ≡ p)
report_one R S = written_one (omega arith) R.2 (written_as (day_one S.1 R.1) S.2)

-- ---- how long it is
abbrev Small : ℕ → Type 0
Small k = k < 100

records_small : (s : List ℕ) (n k : ℕ) → RecordsGiven s n k → Small k
records_small s n k (inl F) = first_has Small (omega arith) (first_has Small (omega arith) (λ z. omega arith)) F.given
records_small s n k (inr z) = omega (arith, z.1)

file_small : (s : List ℕ) (k : ℕ) → FileGiven s k → Small k
file_small s k h = first_has Small (omega arith) (records_small s (count s) k) h

number_small : (s : List ℕ) (k : ℕ) → DayNumber s k → Small k
number_small s k (inl a) = file_small s k a.0
number_small s k (inr a) = first_has Small (omega arith) (first_has Small (omega arith) (λ z. omega arith)) a.1

signed_length : (z : ℤ) → Coord z → length (signed_decimal z) ≤ 6
signed_length (pos n) h = omega (arith, decimal_length n 5 (omega (arith, h.low)) (omega arith))
signed_length (negsuc n) h = omega (arith, decimal_length (suc n) 5 (omega (arith, h.low)) (omega arith))

sample_length : (i : ℕ) (x y : ℤ) (r : ℕ) → i < 1000 → Coord x → Coord y → r ≤ 3 → length (sample_line i x y r) ≤ 20
sample_length i x y r h a b c =
    simp length-append (omega (arith, decimal_length i 3 h (omega arith), signed_length x a, signed_length y b, decimal_length r 1 (omega arith) (omega arith)))

refused_length : (k : ℕ) → k < 100 → length (refused_line k) ≤ 4096
refused_length k h = simp length-append (omega (arith, decimal_length k 2 h (omega arith)))

-- of a day that is not refused
good_day : (s : List ℕ) → DayNumber s 0 → (count s ≤ 104) × ((i : ℕ) → i < count s → Placed s (16 * i))
good_day s (inl a) = absurd (a.1 refl)
good_day s (inr a) = (
  ⊎_elim (λ f. absurd (omega (arith, f.1))) (λ f. omega (arith, f.0)) a.1,
  λ i h. placed s (16 * i) (((file_rows s a.0).row_0.0 refl).1 i h),
)

module _ (s : List ℕ) (L : ℕ → List ℕ) (few : count s ≤ 104) (good : (i : ℕ) → i < count s → Placed s (16 * i)) (C : DayLevels s L) where
  lines_length : (n : ℕ) → n ≤ count s → length (sample_lines s L n) ≤ n * 20
  unfolding sample_lines
  lines_length zero h = omega arith
  lines_length (suc n) h =
      let g = good n (omega arith) in
      let line = sample_line n (across s (16 * n)) (up s (16 * n)) (ranks L 3 n) in
      omega (
        arith,
        length-append (sample_lines s L n) line,
        lines_length n (omega arith),
        sample_length n (across s (16 * n)) (up s (16 * n)) (ranks L 3 n) (omega arith) g.0 g.1
            (ranks_in L n 3 (λ ℓ a b. C.minimal.family.nested ℓ n a b)).0,
      )

  text_length : length (levels_text s L) ≤ 4096
  unfolding levels_text
  text_length =
      simp length-append
      (omega (
        arith,
        lines_length (count s) (omega arith),
        decimal_length (count s) 3 (omega arith) (omega arith),
        decimal_most (size L 3),
        decimal_most (length (L 1) - 1),
        decimal_most (length (L 2) - 1),
        decimal_most (length (L 3) - 1),
        decimal_most (pause_sum s (count s)),
      ))

pub text_fits : {s t : List ℕ} → DayText s t → length t ≤ 4096
text_fits {s} {t} T = elim (dec_lt 0 T.number) [
  | yes y ↦ rw (T.refused (λ z. omega arith)) (refused_length T.number (number_small s T.number T.given))
  | no y ↦
      (let e : T.number ≡ 0 = omega arith in
      let D = T.done e in
      let g = good_day s (subst (DayNumber s) e T.given) in
      rw D.2 (text_length s D.0 g.0 g.1 D.1))
]

-- ---- so a buffer of 4,096 bytes holds the text
pub whole_text : {s out out' : List ℕ} {r : ℕ} → 4096 ≤ length out → Reported s out out' r → DayText s (take r out')
whole_text {s} {out} h R = subst (DayText s) (sym (R.2.text ∙ take_all (length out) R.0 (omega (arith, text_fits R.1)))) R.1

-- ---- and of a file it is enough to read 65,537 bytes: one that has more is refused, and so is what was read of it
long_text : (s : List ℕ) → 65536 < length s → DayText s (refused_line 10)
long_text s h = record { number = 10; given = inl (inl (misfit, refl), λ z. omega arith); refused = λ n. refl; done = λ z. absurd (omega arith) }
  where
    misfit : Misfit s
    misfit = elim (dec_lt 4096 (length s / 16)) [ yes y ↦ inr y | no y ↦ inl (λ z. omega arith) ]

pub read_enough : {s t : List ℕ} → DayText (take 65537 s) t → DayText s t
read_enough {s} T = elim (dec_lt 65537 (length s)) [
  | yes y ↦ subst (DayText s) (day_one (long_text (take 65537 s) (omega (arith, length-take 65537 s))) T) (long_text s (omega arith))
  | no y ↦ rw (take_all 65537 s (omega arith)) at T
]
