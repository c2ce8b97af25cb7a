-- What a record adds to the pause line: the difference modulo 4,294,967,296 in plain words, the increase by whether a restart lies before it,
-- and the increase exactly as the plain statement says. Assumes nothing.
use Rattle.std.proofs.Common.{◌≡◌, ℕ, suc, ◌+◌, ◌*◌, ◌/◌, ◌%◌, ◌<◌, ◌≤◌, true, false, ◌↔◌, List, length, get_or, sym, subst, arith}
use Rattle.std.proofs.lemmas.Bool.Decides.{nat_tests}
use Rattle.std.specs.Prelude.{Ok}
use Rattle.refusal.specs.Check.{Decides}
use Rattle.words.specs.Word.{word, long}
use Rattle.record.specs.Record.{counter, edition}
use Rattle.pause.specs.Pause.{old_increase, difference, both_with_boot, increase, increase_at, pause_line_of}
use Rattle.pause.specs.Restart.{restarted}
use Rattle.pause.specs.Plain.{Adds, Restarted}
use Rattle.pause.proofs.Pause.{file_good}
use Rattle.record.proofs.Plain.{good_edition}

-- the difference is the one number below 4,294,967,296 that, added to the earlier counter, gives the later one modulo 4,294,967,296
pub difference_meant : (earlier later : ℕ) → earlier < 4294967296 → later < 4294967296
    → (d : ℕ) → d ≡ difference earlier later ↔ (d < 4294967296) × ((earlier + d) % 4294967296 ≡ later)
unfolding difference
difference_meant earlier later e l d = (λ q. (omega arith, omega arith), λ q. omega arith)

-- ---- two records
module _ (s : List ℕ) (p q : ℕ) where
  -- it says whether a restart lies between them
  pub restarted_decided : Decides (Restarted s p q) (restarted s p q)
  unfolding restarted both_with_boot
  restarted_decided = record { right = λ t. grind (arith, nat_tests); wrong = λ t r. grind (arith, nat_tests) }

  -- after a restart the increase is the later counter
  pub increase_restarted : restarted s p q ≡ true → increase s p q ≡ counter s q
  unfolding increase restarted both_with_boot old_increase
  increase_restarted h = grind (arith, nat_tests)

  module _ (x : counter s p < 4294967296) (y : counter s q < 4294967296) where
    -- and else the difference
    pub increase_on : restarted s p q ≡ false → increase s p q ≡ difference (counter s p) (counter s q)
    unfolding increase restarted both_with_boot old_increase difference
    increase_on h = grind (arith, nat_tests)

    -- it is what the plain statement says
    increase_adds : Adds s p q (increase s p q)
    unfolding increase both_with_boot old_increase difference
    increase_adds = record {
      same_boot = λ e f b. (grind (arith, nat_tests), grind (arith, nat_tests));
      new_boot = λ e f n. grind (arith, nat_tests);
      not_lower = λ z l. grind (arith, nat_tests);
      lower = λ z l. grind (arith, nat_tests);
    }

    -- and nothing else is, where there is no edition above 1
    adds_increase : edition s p ≤ 1 → edition s q ≤ 1 → (d : ℕ) → Adds s p q d → d ≡ increase s p q
    unfolding increase both_with_boot old_increase difference
    adds_increase a b d h = grind (arith, nat_tests, h.same_boot, h.new_boot, h.not_lower, h.lower)

-- ---- a file that is not refused: d is what the record after record i adds, exactly when the plain statement says so
module _ (s : List ℕ) (bytes : (k : ℕ) → get_or s k 0 < 256) where
  counter_below : (p : ℕ) → counter s p < 4294967296
  unfolding counter long word
  counter_below p = omega (arith, bytes (p + 4), bytes (p + 4 + 1), bytes (p + 4 + 2), bytes (p + 4 + 2 + 1))

  pub line_adds : (pause_line_of s).outcome ≡ Ok tt → (i : ℕ) → suc i < length s / 16 → (d : ℕ) → d ≡ increase_at s (suc i) ↔ Adds s (16 * i) (16 * suc i) d
  unfolding increase_at
  line_adds g i l d =
      let x = counter_below (16 * i) in
      let y = counter_below (16 * suc i) in
      let a = good_edition s (16 * i) (file_good s i g (omega arith)) in
      let b = good_edition s (16 * suc i) (file_good s (suc i) g l) in
      (λ e. subst (Adds s (16 * i) (16 * suc i)) (sym e) (increase_adds s _ _ x y), adds_increase s _ _ x y a b d)
