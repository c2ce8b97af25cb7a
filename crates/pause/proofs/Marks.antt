-- Laws of a record's mark: it is 0 or 1, and 1 exactly where the record is not the first and a restart lies before it. Assumes nothing.
use Rattle.std.proofs.Common.{◌≡◌, ℕ, zero, suc, ◌-◌, ◌*◌, ◌/◌, ◌<◌, ◌≤◌, cond, ◌↔◌, List, length, ap, ⊎_elim, arith}
use Rattle.std.proofs.lemmas.Bool.Decides.{nat_tests}
use Rattle.record.specs.Record.{boot, edition}
use Rattle.pause.specs.Pause.{both_with_boot}
use Rattle.pause.specs.Restart.{restarted, mark_at, mark_of}
use Rattle.pause.specs.Plain.{Restarted}

pub mark_first : (s : List ℕ) (n : ℕ) → n ≡ 0 → mark_at s n ≡ 0
unfolding mark_at
mark_first s n e = ap (mark_at s) e

pub mark_after : (s : List ℕ) (n : ℕ) → (n ≡ 0 → ⊥) → mark_at s n ≡ cond (restarted s (16 * (n - 1)) (16 * n)) 1 0
unfolding mark_at
mark_after s zero h = grind arith
mark_after s (suc n) h = grind arith

pub mark_small : (s : List ℕ) (n : ℕ) → mark_at s n ≤ 1
unfolding mark_at
mark_small s zero = grind arith
mark_small s (suc n) = grind (arith, nat_tests)

pub mark_exactly : (s : List ℕ) (n : ℕ) → mark_at s n ≡ 1 ↔ (0 < n) × Restarted s (16 * (n - 1)) (16 * n)
unfolding mark_at restarted both_with_boot
mark_exactly s zero = (λ e. grind arith, λ p. grind arith)
mark_exactly s (suc n) = (λ h. grind (arith, nat_tests), λ p. grind (arith, nat_tests))

-- so a record of the same boot as the one before has none, whatever the two counters: a roll-over is no restart
pub same_boot_unmarked : (s : List ℕ) (n : ℕ) → edition s (16 * (n - 1)) ≡ 1 → edition s (16 * n) ≡ 1 → boot s (16 * (n - 1)) ≡ boot s (16 * n) → mark_at s n ≡ 1 → ⊥
same_boot_unmarked s n e f b h = ⊎_elim (λ r. r.1 b) (λ r. r.0 (e, f)) ((mark_exactly s n).0 h).1

-- record i of a file that has it
pub mark_there : (s : List ℕ) (i : ℕ) → i < length s / 16 → mark_of s i ≡ mark_at s i
unfolding mark_of
mark_there s i h = grind (arith, nat_tests)

pub mark_absent : (s : List ℕ) (i : ℕ) → length s / 16 ≤ i → mark_of s i ≡ 0
unfolding mark_of
mark_absent s i h = grind (arith, nat_tests)
