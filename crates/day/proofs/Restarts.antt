-- In the text of a day every record after a restart has rank 3: it is in each of the three levels. Assumes nothing.
use mathlib.Core.Path.{◌≡◌, ◌∙◌}
use mathlib.Core.List.{List, Memᴰ as In}
use Prim.Native.Nat.{ℕ, ◌*◌, ◌-◌, ◌≤◌, ◌<◌, zero-le}
use native.Mathlib.Nat.{le_antisymm}
use native.Mathlib.Omega.{arith}
use Rattle.family.specs.Levels.{ranks}
use Rattle.family.proofs.Levels.{ranks_in}
use Rattle.costs.proofs.Meaning.{marked_held}
use Rattle.pause.specs.Plain.{Restarted}
use Rattle.pause.specs.Restart.{mark_at}
use Rattle.pause.proofs.Marks.{mark_exactly}
use Rattle.day.specs.Day.{count, day_sample, day_samples, tolerances, DayLevels}
use Rattle.day.proofs.Listed.{listed_at}

module _ (s : List ℕ) (L : ℕ → List ℕ) (C : DayLevels s L) (q : ℕ) (h : q < count s) where
  marked_in : mark_at s q ≡ 1 → (ℓ : ℕ) → 1 ≤ ℓ → ℓ ≤ 3 → In q (L ℓ)
  marked_in m =
      marked_held (day_samples s (count s)) tolerances q (listed_at 0 (λ i. (day_sample s i).mark) (count s) q h ∙ m) C.minimal.family zero-le (omega arith)

  pub restart_rank : 0 < q → Restarted s (16 * (q - 1)) (16 * q) → ranks L 3 q ≡ 3
  restart_rank o r =
      let t = ranks_in L q 3 (λ ℓ a b. C.minimal.family.nested ℓ q a b) in
      le_antisymm t.0 ((t.1 3 (omega arith) (omega arith)).1 (marked_in ((mark_exactly s q).1 (o, r)) 3 (omega arith) (omega arith)))
