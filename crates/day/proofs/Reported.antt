-- What is reported of a file: its refusal, or the text of its levels. Assumes nothing.
use mathlib.Core.Path.{◌≡◌, refl, sym, ap}
use mathlib.Core.Logic.{inl, inr, ⊎_elim}
use mathlib.Core.List.{List}
use Prim.Native.Nat.{ℕ, ◌-◌, ◌≤◌, ◌<◌, zero-le}
use native.Mathlib.Omega.{arith}
use lib.ListN.{length}
use Rattle.refusal.specs.declared.Refusal.{Refusal}
use Rattle.refusal.specs.Number.{number, code}
use Rattle.std.specs.Prelude.{Ok, Err}
use Rattle.refusal.specs.Check.{First}
use Rattle.refusal.proofs.Rows.{numbered}
use Rattle.sample.specs.Samples.{Samples}
use Rattle.family.specs.Levels.{levels}
use Rattle.family.proofs.Levels.{ranks_levels}
use Rattle.readout.specs.Read.{rank}
use Rattle.pause.specs.Pause.{pause_line_of, pause_sum}
use Rattle.pause.proofs.Plain.{file_given}
use Rattle.trace.specs.declared.Levels.{Levels}
use Rattle.trace.specs.Calls.{ReadGives, buffers}
use Rattle.history.specs.Run.Call.{read}
use Rattle.history.specs.Run.Step.{reads}
use Rattle.history.specs.Hold.{Shown}
use Rattle.history.proofs.Sound.{state}
use Rattle.history.proofs.Follows.{sound_shown, step_number}
use Rattle.text.specs.Text.{Written}
use Rattle.text.proofs.Written.{written_as}
use Rattle.lines.specs.Lines.{refused_line}
use Rattle.lines.specs.Held.{held_text}
use Rattle.day.specs.Day.{count, tolerances, DayNumber, DayLevels, Reported, levels_text}
use Rattle.day.specs.Fill.{day_trace, Filled}
use Rattle.day.proofs.Records.{good_given}
use Rattle.day.proofs.Filled.{past_trace, filled_ranged, filled_sound}
use Rattle.day.proofs.Listed.{chosen_listed}
use Rattle.day.proofs.Lines.{held_lines_lem}

-- ---- refused
pub reported_refused : {s out out' : List ℕ} {r : ℕ} (why : Refusal) → DayNumber s (number why) → Written out 0 (refused_line (number why)) out' r → Reported s out out' r
reported_refused why g W =
    (refused_line (number why), record { number = number why; given = g; refused = λ n. refl; done = λ z. absurd (numbered why z) }, W)

-- by the pause line
pub number_file : (s : List ℕ) (why : Refusal) → (pause_line_of s).outcome ≡ Err why → DayNumber s (number why)
number_file s why h = inl (rw h at (file_given s), numbered why)

-- by a put
pub number_full : (s : List ℕ) (k : ℕ) → (pause_line_of s).outcome ≡ Ok tt → 104 < count s → k ≡ 7 → DayNumber s k
number_full s k good more e = inr (good_given s good, inl (more, e))

-- ---- a day whose records are added, and read
module _ (s : List ℕ) (good : (pause_line_of s).outcome ≡ Ok tt) {xs : Samples} {t : List ℕ} (F : Filled s (count s) xs t) {bytes bytes' : List ℕ} {l : Levels}
    (room : length bytes ≡ 104) (G : ReadGives (day_trace (count s)) (buffers xs t) bytes l (buffers xs t) bytes') where
  read_number : First 9 (count s < 2) (λ k. k ≡ 0) (code l.outcome)
  read_number =
      past_trace read (count s) F.room (omega (arith, F.lent), omega (arith, F.lent), omega (arith, F.room))
      (step_number {e = state (day_trace (count s)) (buffers xs t) bytes'} (filled_sound s good (count s) F (omega arith) bytes) (reads G refl)) G.number

  fits : 104 < count s → ⊥
  fits h = omega (arith, F.room)

  -- refused by the read
  pub number_few : (why : Refusal) → l.outcome ≡ Err why → DayNumber s (number why)
  number_few why h = inr (good_given s good, inr (fits, rw h at read_number))

  module _ (d : l.outcome ≡ Ok tt) where
    shown : Shown (state (day_trace (count s)) (buffers xs t) bytes') l
    shown = sound_shown (filled_sound s good (count s) F (omega arith) bytes) (reads G refl) (ap code d)

    given : First 9 (count s < 2) (λ k. k ≡ 0) 0
    given = rw d at read_number

    some : 2 ≤ count s
    some = ⊎_elim (λ a. absurd (omega (arith, a.1))) (λ a. omega (arith, a.0)) given

    abbrev L : ℕ → List ℕ
    L = levels (rank bytes') 0 (count s - 1)

    day_levels : DayLevels s L
    day_levels =
        chosen_listed s xs tolerances 3 (count s) (filled_ranged s good (count s) F (omega arith)) F.across F.up F.marks
        (omega (arith, some)) (rank bytes') (G.done d).best.highest shown.chosen

    day_text : held_text xs.across xs.up bytes' (count s) l.total l.segments (pause_sum s (count s)) ≡ levels_text s L
    unfolding levels_text
    day_text = rw (
      held_lines_lem s L xs.across xs.up bytes' (count s) F.across F.up
          (λ q h. sym (ranks_levels (rank bytes') 3 0 (count s - 1) q zero-le zero-le (omega arith) ((G.done d).best.highest q h))),
      shown.total,
      shown.level 1 (omega arith) (omega arith),
      shown.level 2 (omega arith) (omega arith),
      shown.level 3 (omega arith) (omega arith),
    )

    -- the text of its levels
    pub reported_day : {out out' : List ℕ} {r : ℕ}
        → Written out 0 (held_text xs.across xs.up bytes' (count s) l.total l.segments (pause_sum s (count s))) out' r → Reported s out out' r
    reported_day W = (
      levels_text s L,
      record { number = 0; given = inr (good_given s good, inr (fits, given)); refused = λ n. absurd (n refl); done = λ z. (L, day_levels, refl) },
      written_as day_text W,
    )
