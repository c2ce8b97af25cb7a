-- Laws of the pause line's definitions. Assumes nothing.
use Rattle.std.proofs.Common.{◌≡◌, ℕ, zero, suc, ◌+◌, ◌-◌, ◌*◌, ◌/◌, ◌<◌, ◌≤◌, List, length, sym, ap, ⊎_elim, le_of_suc-le-suc, eq-or-lt_of_le, arith}
use Rattle.std.proofs.lemmas.Bool.Decides.{nat_tests}
use Rattle.refusal.specs.declared.Refusal.{Refusal}
use Rattle.refusal.specs.Number.{Outcome}
use Rattle.std.specs.Prelude.{Ok, Err}
use Rattle.refusal.proofs.Laws.{then_done}
use Rattle.record.specs.Record.{record_outcome}
use Rattle.pause.specs.Pause.{file_length_ok, records_outcome, file_outcome, increase, increase_at, pause_sum, line_by, pause_line_of}

-- one record more
pub records_more : (s : List ℕ) (n : ℕ) (o : Outcome) → records_outcome s n ≡ Ok tt → record_outcome s (16 * n) ≡ o → records_outcome s (n + 1) ≡ o
unfolding records_outcome
records_more s n o h e = grind arith

-- the first refusal stays
pub records_refused : (s : List ℕ) (i n : ℕ) (r : Refusal) → records_outcome s i ≡ Ok tt → record_outcome s (16 * i) ≡ Err r → i < n → records_outcome s n ≡ Err r
unfolding records_outcome
records_refused s i zero r h e l = grind arith
records_refused s i (suc n) r h e l = ⊎_elim (λ q. rw (← q, h, e)) (λ lt. rw (records_refused s i n r h e lt)) (eq-or-lt_of_le (le_of_suc-le-suc l))

pub increase_after : (s : List ℕ) (n : ℕ) → (n ≡ 0 → ⊥) → increase_at s n ≡ increase s (16 * (n - 1)) (16 * n)
unfolding increase_at
increase_after s zero h = grind arith
increase_after s (suc n) h = grind arith

pub sum_more : (s : List ℕ) (n : ℕ) → pause_sum s (n + 1) ≡ pause_sum s n + increase_at s n
unfolding pause_sum
sum_more s n = grind arith

pub file_count : (s : List ℕ) → file_outcome s ≡ Ok tt → length s / 16 ≤ 4096
unfolding file_outcome file_length_ok
file_count s h = grind (arith, nat_tests)

pub line_outcome : (s : List ℕ) → (pause_line_of s).outcome ≡ file_outcome s
unfolding pause_line_of
line_outcome s = grind arith

-- the outcome fixes the sum: a refusal comes with 0
pub line_by_lem : (s : List ℕ) → pause_line_of s ≡ line_by (pause_line_of s).outcome s
unfolding pause_line_of
line_by_lem s = ap (λ (o : Outcome). line_by o s) (sym (line_outcome s))

sum_few : (s : List ℕ) (n : ℕ) → n ≤ 1 → pause_sum s n ≡ 0
unfolding pause_sum increase_at
sum_few s zero h = grind arith
sum_few s (suc zero) h = grind arith
sum_few s (suc (suc n)) h = grind arith

-- for no record or one the line is 0
pub line_few : (s : List ℕ) → length s / 16 ≤ 1 → (pause_line_of s).sum ≡ 0
unfolding pause_line_of
line_few s h = grind (arith, sum_few)

-- where a file is good, so is every record of it
records_good : (s : List ℕ) (n i : ℕ) → records_outcome s n ≡ Ok tt → i < n → record_outcome s (16 * i) ≡ Ok tt
unfolding records_outcome
records_good s zero i h l = grind arith
records_good s (suc n) i h l = grind (arith, records_good s n i, then_done)

pub file_good : (s : List ℕ) (i : ℕ) → (pause_line_of s).outcome ≡ Ok tt → i < length s / 16 → record_outcome s (16 * i) ≡ Ok tt
unfolding file_outcome
file_good s i h l = grind (arith, records_good, line_outcome)
