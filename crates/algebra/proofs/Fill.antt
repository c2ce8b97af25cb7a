-- A list that a loop fills from its end. Assumes nothing.
use mathlib.Core.Logic.{⊎_elim}
use mathlib.Core.List.{List}
use Prim.Native.Nat.{ℕ, ◌≤◌, ◌<◌}
use native.Mathlib.Nat.{eq-or-lt_of_le}
use native.Mathlib.Omega.{arith}
use lib.ListN.{length, get_or, set}
use lib.Seq.{get_or-set_same, get_or-set_other}

-- a list that holds P at the places after x, with P stored at x
pub filled : (P : ℕ → ℕ → Type 0) (Q : ℕ → Type 0) (l : List ℕ) (x v : ℕ) → x < length l → P x v → ((y : ℕ) → x < y → Q y → P y (get_or l y 0))
    → (y : ℕ) → x ≤ y → Q y → P y (get_or (set l x v) y 0)
filled P Q l x v h here rest y a b =
    ⊎_elim (λ e. rw (← e, get_or-set_same l x v 0 h) here) (λ q. rw (get_or-set_other l x y v 0 (omega arith)) (rest y q b)) (eq-or-lt_of_le a)
