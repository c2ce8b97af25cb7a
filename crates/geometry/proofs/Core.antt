-- The three cases of the distance from a segment, over naturals alone. Of u = q − a and v = b − a: U = |u|², L = |v|², u·v = P − N, C = (u × v)²,
-- and M r s = |r·u − s·v|². All that is asked of them are the two identities `scaled` and `lagrange`. Assumes nothing.
use mathlib.Core.Path.{◌≡◌, ap}
use Prim.Native.Nat.{ℕ, ◌+◌, ◌*◌, ◌-◌, ◌≤◌, ◌<◌}
use native.Mathlib.Nat.{mul-le-mul, mul-le-mul_left}
use native.Mathlib.Omega.{arith}
use Rattle.algebra.proofs.Square.{two_mul_le}
use Rattle.geometry.specs.declared.Nearest.TheVariants.{Beginning, End, Between}
use Rattle.geometry.specs.Nearest.{NoneNearer, Lies, Exact}
use Rattle.geometry.proofs.Exact.{attained_closest}

pub record Frame (M : ℕ → ℕ → ℕ) (U L P N C : ℕ) : Type 0 where
  pub scaled : (r s : ℕ) → M r s + 2 * (r * s * P) ≡ r * r * U + 2 * (r * s * N) + s * s * L
  pub lagrange : L * U + 2 * (P * N) ≡ C + P * P + N * N

-- what the cases need, over numbers that need not be a segment's
past_least : (U L P N W m s t : ℕ) → W + 2 * P ≡ U + 2 * N + L
    → m + 2 * ((s + t) * s * P) ≡ (s + t) * (s + t) * U + 2 * ((s + t) * s * N) + s * s * L → N + L ≤ P → (s + t) * (s + t) * W ≤ m
past_least U L P N W m s t h g l =
    omega (arith, ap (λ (x : ℕ). (s + t) * (s + t) * x) h, mul-le-mul_left (2 * ((s + t) * t)) l)

-- with u·v = d ≥ 0, the two identities have no difference in them
dot_lagrange : (U L N C d : ℕ) → L * U + 2 * ((N + d) * N) ≡ C + (N + d) * (N + d) + N * N → L * U ≡ C + d * d
dot_lagrange U L N C d h = omega arith

dot_scaled : (U L N d m r s : ℕ) → m + 2 * (r * s * (N + d)) ≡ r * r * U + 2 * (r * s * N) + s * s * L
    → m + 2 * (r * s * d) ≡ r * r * U + s * s * L
dot_scaled U L N d m r s h = omega arith

foot : (U L C d m : ℕ) → L * U ≡ C + d * d → m + 2 * (L * d * d) ≡ L * L * U + d * d * L → m ≡ L * C
foot U L C d m h g = omega (arith, ap (λ (x : ℕ). L * x) h)

across : (U L C d m r s : ℕ) → L * U ≡ C + d * d → m + 2 * (r * s * d) ≡ r * r * U + s * s * L → r * r * C ≤ L * m
across U L C d m r s h g =
    omega (arith, ap (λ (x : ℕ). r * r * x) h, ap (λ (x : ℕ). L * x) g, two_mul_le (r * d) (s * L))

-- the ends are farther than the foot: U = |q − a|², W = |q − b|², where L = d + t
begin_farther : (U L C d : ℕ) → L * U ≡ C + d * d → 1 ≤ L → 1 ≤ d → L * C < L * L * U
begin_farther U L C d h l g = omega (arith, ap (λ (x : ℕ). L * x) h, mul-le-mul l (mul-le-mul g g))

end_farther : (U W C d t : ℕ) → (d + t) * U ≡ C + d * d → W + 2 * d ≡ U + (d + t) → 1 ≤ t → (d + t) * C < (d + t) * (d + t) * W
end_farther U W C d t h e g =
    let w : (d + t) * W ≡ C + t * t = omega (arith, ap (λ (x : ℕ). (d + t) * x) e) in
    let l : 1 ≤ d + t = omega arith in
    omega (arith, ap (λ (x : ℕ). (d + t) * x) w, mul-le-mul l (mul-le-mul g g))

module _ {M : ℕ → ℕ → ℕ} {U L P N C : ℕ} (f : Frame M U L P N C) where
  at_begin : M 1 0 ≡ U
  at_begin = omega (arith, f.scaled 1 0)

  -- behind a: u·v ≤ 0
  module _ (h : P ≤ N) where
    behind : NoneNearer M U 1
    behind r s a b = omega (arith, f.scaled r s, mul-le-mul_left (r * s) h)

    pub lies_beginning : Lies M Beginning
    lies_beginning = attained_closest M U 1 1 0 (omega arith) behind (omega (arith, at_begin))

    pub exact_beginning : Exact M (record { top = U; bottom = 1 })
    exact_beginning = record { divides = omega arith; least = behind; s = 0; r = 1; along = omega arith; whole = omega arith; attained = omega (arith, at_begin) }

  -- past b: |v|² ≤ u·v; |q − b|² is M 1 1
  module _ (g : N < P) (h : N + L ≤ P) where
    past : NoneNearer M (M 1 1) 1
    past r s a b =
        let t : ℕ = r - s in
        let k : r ≡ s + t = omega arith in
        omega (arith, rw (← k) at (past_least U L P N (M 1 1) (M r s) s t (omega (arith, f.scaled 1 1)) (rw (← k) (f.scaled r s)) h))

    pub lies_end : Lies M End
    lies_end = (
      λ c. let n : M 1 0 * (1 * 1) ≤ M 1 1 * (1 * 1) = c 1 1 (omega arith) (omega arith) in omega (arith, at_begin, f.scaled 1 1),
      attained_closest M (M 1 1) 1 1 1 (omega arith) past (omega arith),
    )

    pub exact_end : Exact M (record { top = M 1 1; bottom = 1 })
    exact_end = record { divides = omega arith; least = past; s = 1; r = 1; along = omega arith; whole = omega arith; attained = omega arith }

  -- abreast: 0 < u·v < |v|²; the foot is the point d / L
  module _ (h : N < P) (k : P < N + L) where
    d : ℕ
    d = P - N

    whole_p : N + d ≡ P
    unfolding d
    whole_p = omega arith

    lag : L * U ≡ C + d * d
    lag = dot_lagrange U L N C d (rw whole_p f.lagrange)

    sca : (r s : ℕ) → M r s + 2 * (r * s * d) ≡ r * r * U + s * s * L
    sca r s = dot_scaled U L N d (M r s) r s (rw whole_p (f.scaled r s))

    at_foot : M L d ≡ L * C
    at_foot = foot U L C d (M L d) lag (sca L d)

    attained : M L d * L ≡ C * (L * L)
    attained = omega (arith, ap (λ (x : ℕ). x * L) at_foot)

    abreast : NoneNearer M C L
    abreast r s a b = omega (arith, across U L C d (M r s) r s lag (sca r s))

    pub lies_between : Lies M Between
    lies_between = (
      λ c. let n : M 1 0 * (L * L) ≤ M L d * (1 * 1) = c L d (omega (arith, whole_p)) (omega arith) in
          omega (arith, ap (λ (x : ℕ). L * L * x) at_begin, at_foot, begin_farther U L C d lag (omega arith) (omega (arith, whole_p))),
      λ c. let n : M 1 1 * (L * L) ≤ M L d * (1 * 1) = c L d (omega (arith, whole_p)) (omega arith) in
          let t : ℕ = L - d in
          let e : L ≡ d + t = omega (arith, whole_p) in
          omega (arith, at_foot, rw (← e) at (end_farther U (M 1 1) C d t (rw (← e) lag) (omega (arith, sca 1 1)) (omega (arith, whole_p)))),
      record { s = d; r = L; after = omega (arith, whole_p); before = omega (arith, whole_p); closest = attained_closest M C L L d (omega arith) abreast attained },
    )

    pub exact_between : Exact M (record { top = C; bottom = L })
    exact_between = record { divides = omega arith; least = abreast; s = d; r = L; along = omega (arith, whole_p); whole = omega arith; attained = attained }
