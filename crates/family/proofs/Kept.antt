-- A sample that no permitted stretch passes over is in every level of every family. Assumes nothing.
use Prim.Native.Nat.{ℕ, ◌≤◌, ◌<◌}
use mathlib.Core.Path.{◌≡◌}
use mathlib.Core.List.Memᴰ.{head as here, tail as there}
use mathlib.Core.List.{List, Memᴰ as In}
use native.Mathlib.Decide.{ℕ_discrete, dec_le}
use native.Mathlib.Omega.{arith}
use Rattle.family.specs.Levels.{Chain, end, link, Family}

-- the chain goes past it by no step
chain_holds : {P : ℕ → ℕ → Type 0} {j i : ℕ} {l : List ℕ} (q : ℕ) → ((x y : ℕ) → x < q → q < y → P x y → ⊥) → Chain P j i l → i ≤ q → q ≤ j → In q l
chain_holds {i = i} q past end a b = let e : q ≡ i = omega arith in here e
chain_holds {i = i} q past (link {x = x} o p C) a b = elim (ℕ_discrete q i) [
  | yes e ↦ here e
  | no d ↦ elim (dec_le x q) [
    | yes h ↦ there (chain_holds q past C h b)
    | no h ↦ absurd (past i x (omega arith) (omega arith) p)
  ]
]

pub family_holds : {Permit : ℕ → ℕ → ℕ → Type 0} {k i j : ℕ} {L : ℕ → List ℕ} (q : ℕ) → ((ℓ x y : ℕ) → x < q → q < y → Permit ℓ x y → ⊥) → Family Permit k i j L → i ≤ q → q ≤ j
    → (ℓ : ℕ) → 1 ≤ ℓ → ℓ ≤ k → In q (L ℓ)
family_holds q past F a b ℓ u v = chain_holds q (past ℓ) (F.chain ℓ u v) a b
