-- How many samples are held once one is put: as many after a correction, one more after an addition. Assumes nothing.
use mathlib.Core.Path.{◌≡◌, refl}
use mathlib.Core.Logic.{◌⊎◌, inl, inr, ⊎_elim}
use Prim.Native.Nat.{ℕ, ◌+◌, ◌≤◌, ◌<◌}
use native.Mathlib.Nat.{eq-or-lt_of_le}
use native.Mathlib.Omega.{arith}
use borrow.Author.Tests.{lt-ltb, le-ltb}
use Rattle.sizes.specs.Setup.{held_with}

pub held_corrected : (n v : ℕ) → v < n → held_with n v ≡ n
held_corrected n v h = rw (lt-ltb v n h) refl

pub held_added : (n v : ℕ) → n ≤ v → held_with n v ≡ n + 1
held_added n v h = rw (le-ltb v n h) refl

-- it is one of the two
pub held_either : (n v : ℕ) → v ≤ n → ((v < n) × (held_with n v ≡ n)) ⊎ ((v ≡ n) × (held_with n v ≡ n + 1))
held_either n v h = ⊎_elim (λ e. inr (e, held_added n v (omega arith))) (λ l. inl (l, held_corrected n v l)) (eq-or-lt_of_le h)

-- sample v is then held
pub held_there : (n v : ℕ) → v ≤ n → v < held_with n v
held_there n v h = ⊎_elim (λ p. omega arith) (λ p. omega arith) (held_either n v h)

-- within the capacity, where v is
pub held_room : (n v N : ℕ) → n ≤ N → v ≤ n → v < N → held_with n v ≤ N
held_room n v N h o l = ⊎_elim (λ p. omega arith) (λ p. omega arith) (held_either n v o)

-- and all but v were held before
pub held_others : (n v : ℕ) → v ≤ n → (q : ℕ) → q < held_with n v → (q ≡ v → ⊥) → q < n
held_others n v h q l d = ⊎_elim (λ p. omega arith) (λ p. omega arith) (held_either n v h)
