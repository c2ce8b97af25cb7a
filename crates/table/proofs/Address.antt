-- Addresses: they are below the table's end, and no two cells have one. Assumes nothing.
use mathlib.Core.Path.{◌≡◌, refl, ap, sym, ◌∙◌}
use Prim.Native.Nat.{ℕ, suc, ◌+◌, ◌-◌, ◌*◌, ◌/◌, ◌%◌, ◌≤◌, ◌<◌}
use native.Mathlib.Nat.{add-mul, mul_assoc, mul-le-mul_right, lt_of_lt_of_le, le_trans, div-add-mod'}
use native.Mathlib.Omega.{arith}
use lib.Arith.{digits_lt, digits_div, digits_mod}
use Rattle.table.specs.Table.{at}

-- an address in digits of base N
pub at_digits : (N k i j : ℕ) → at N k i j ≡ ((k - 1) * N + i) * N + j
at_digits N k i j = rw (add-mul, mul_assoc) refl

pub at_below : (N m k i j : ℕ) → 1 ≤ k → k ≤ m → i < N → j < N → at N k i j < m * (N * N)
at_below N m k i j a b hi hj = let l : k - 1 < m = omega arith in rw (at_digits, ← mul_assoc m N N) (digits_lt (digits_lt l hi) hj)

-- a cell of a level that the table has room for stands in the table
pub at_in : (N k i j len : ℕ) → 1 ≤ k → i < N → j < N → k * (N * N) ≤ len → at N k i j < len
at_in N k i j len a hi hj h = lt_of_lt_of_le (at_below N k k i j a (omega arith) hi hj) h

pub record Same (k i j k' i' j' : ℕ) : Type 0 where
  pub level : k ≡ k'
  pub from : i ≡ i'
  pub to : j ≡ j'

-- one address, one cell
pub at_same : (N k i j k' i' j' : ℕ) → 1 ≤ k → 1 ≤ k' → i < N → j < N → i' < N → j' < N → at N k i j ≡ at N k' i' j' → Same k i j k' i' j'
at_same N k i j k' i' j' a a' hi hj hi' hj' e =
    let e2 : ((k - 1) * N + i) * N + j ≡ ((k' - 1) * N + i') * N + j' = sym (at_digits N k i j) ∙ e ∙ at_digits N k' i' j' in
    let hj2 : j ≡ j' = sym (digits_mod ((k - 1) * N + i) hj) ∙ ap (λ x. x % N) e2 ∙ digits_mod ((k' - 1) * N + i') hj' in
    let hq : (k - 1) * N + i ≡ (k' - 1) * N + i' = sym (digits_div ((k - 1) * N + i) hj) ∙ ap (λ x. x / N) e2 ∙ digits_div ((k' - 1) * N + i') hj' in
    let hl : k - 1 ≡ k' - 1 = sym (digits_div (k - 1) hi) ∙ ap (λ x. x / N) hq ∙ digits_div (k' - 1) hi' in
    record { level = omega arith; from = sym (digits_mod (k - 1) hi) ∙ ap (λ x. x % N) hq ∙ digits_mod (k' - 1) hi'; to = hj2 }

-- every number is an address
pub at_all : (N a : ℕ) → at N (suc (a / N / N)) (a / N % N) (a % N) ≡ a
at_all N a =
    at_digits N (suc (a / N / N)) (a / N % N) (a % N)
    ∙ (let e : suc (a / N / N) - 1 ≡ a / N / N = omega arith in ap (λ x. (x * N + a / N % N) * N + a % N) e)
    ∙ ap (λ x. x * N + a % N) (div-add-mod' (a / N) N) ∙ div-add-mod' a N

-- a lower level has room where a higher one has
pub room_below : (N k m len : ℕ) → k ≤ m → m * (N * N) ≤ len → k * (N * N) ≤ len
room_below N k m len h l = le_trans (mul-le-mul_right (N * N) h) l
