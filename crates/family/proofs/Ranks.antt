-- There is a read-out of every table: `rank`. Assumes nothing.
use Prim.Native.Nat.{ℕ, zero, suc, ◌+◌, ◌-◌, ◌≤◌, ◌<◌, min, zero-le}
use mathlib.Core.Path.{◌≡◌, refl, ◌∙◌}
use native.Mathlib.Omega.{arith}
use native.Mathlib.Decide.{dec_le, dec_lt}
use native.Mathlib.Nat.{le_refl}
use borrow.Author.Tests.{le-leb, lt-leb, lt-ltb, le-ltb}
use Rattle.family.specs.Family.{next, Read, Readout, along, rank}
use Rattle.family.specs.Lists.{Neighbours}
use Rattle.family.proofs.Paths.{next_after, next_within}
use Rattle.family.proofs.Families.{neighbours_same}

pub read_same : (c : ℕ → ℕ → ℕ → ℕ) (k p q : ℕ) (r s : ℕ → ℕ) → ((x : ℕ) → p ≤ x → x ≤ q → min (r x) k ≡ min (s x) k) → Read c k p q r → Read c k p q s
unfolding Read
read_same c zero p q r s e R = tt
read_same c (suc k) p q r s e R = λ a b u v N.
    let t = R a b u v (neighbours_same {r = r} {s = s} (suc k) (suc k) a b (le_refl (suc k)) (λ x g h. e x (omega arith) (omega arith)) N) in
    (t.0, read_same c k a b r s (λ x g h. omega (arith, e x (omega arith) (omega arith))) t.1)

module _ (c : ℕ → ℕ → ℕ) (k : ℕ) (f : ℕ → ℕ → ℕ → ℕ) (q : ℕ) (low : (a b x : ℕ) → a < x → x < b → f a b x ≤ k) where
  at_first : (d a x : ℕ) → x ≤ a → along c (suc k) f d a q x ≡ suc k
  unfolding along
  at_first zero a x h = refl
  at_first (suc d) a x h = rw (le-leb x a h)

  at_between : (d a x : ℕ) → a < x → x < next c a q → along c (suc k) f (suc d) a q x ≡ f a (next c a q) x
  unfolding along
  at_between d a x g h = rw (lt-leb x a g, lt-ltb x (next c a q) h)

  at_after : (d a x : ℕ) → a < x → next c a q ≤ x → along c (suc k) f (suc d) a q x ≡ along c (suc k) f d (next c a q) q x
  unfolding along
  at_after d a x g h = rw (lt-leb x a g, le-ltb x (next c a q) h)

  at_last : (d a : ℕ) → a ≤ q → q ≤ a + d → along c (suc k) f d a q q ≡ suc k
  at_last zero a g h = let e : a ≡ q = omega arith in rw e (at_first zero q q (le_refl q))
  at_last (suc d) a g h = elim (dec_lt a q) [
    | no n ↦ (let e : a ≡ q = omega arith in rw e (at_first (suc d) q q (le_refl q)))
    | yes y ↦
        (let u = next_after c q a y in
        let v = next_within c q a y in
        at_after d a q y v ∙ at_last d (next c a q) v (omega arith))
  ]

  at_most : (d a x : ℕ) → along c (suc k) f d a q x ≤ suc k
  at_most zero a x = unfold along in le_refl (suc k)
  at_most (suc d) a x = elim (dec_le x a) [
    | yes y ↦ omega (arith, at_first (suc d) a x y)
    | no y ↦ elim (dec_lt x (next c a q)) [
      | yes z ↦ omega (arith, at_between d a x (omega arith) z, low a (next c a q) x (omega arith) z)
      | no z ↦ omega (arith, at_after d a x (omega arith) (omega arith), at_most d (next c a q) x)
    ]
  ]

  stops : (d a : ℕ) → a ≤ q → q ≤ a + d → (i j : ℕ) → a ≤ i → j ≤ q → Neighbours (along c (suc k) f d a q) (suc k) i j
      → (j ≡ next c i q) × ((x : ℕ) → i < x → x < j → along c (suc k) f d a q x ≡ f i j x)
  stops zero a g h i j u v N = absurd (omega (arith, N.order))
  stops (suc d) a g h i j u v N =
      let o : i < j = N.order in
      let b = next c a q in
      let y : a < b = next_after c q a (omega arith) in
      let z : b ≤ q = next_within c q a (omega arith) in
      elim (dec_lt a i) [
        | no n ↦
            (let e : i ≡ a = omega arith in
            let l : j ≤ b = elim (dec_le j b) [
              | yes w ↦ w
              | no w ↦ absurd (omega (arith, N.between b (omega arith) (omega arith), at_after d a b y (le_refl b), at_first d b b (le_refl b)))
            ] in
            let m : b ≤ j = elim (dec_le b j) [
              | yes w ↦ w
              | no w ↦ absurd (omega (arith, N.right, at_between d a j (omega arith) (omega arith), low a b j (omega arith) (omega arith)))
            ] in
            let t : j ≡ b = omega arith in
            (rw e t, λ x w s. rw (e, t) (at_between d a x (omega arith) (omega arith))))
        | yes n ↦
            (let l : b ≤ i = elim (dec_le b i) [
              | yes w ↦ w
              | no w ↦ absurd (omega (arith, N.left, at_between d a i n (omega arith), low a b i n (omega arith)))
            ] in
            let t = stops d b z (omega arith) i j l v (record {
              order = o;
              left = omega (arith, N.left, at_after d a i n l);
              right = omega (arith, N.right, at_after d a j (omega arith) (omega arith));
              between = λ x w s. omega (arith, N.between x w s, at_after d a x (omega arith) (omega arith));
            }) in
            (t.0, λ x w s. at_after d a x (omega arith) (omega arith) ∙ t.1 x w s))
      ]

pub rank_most : (c : ℕ → ℕ → ℕ → ℕ) (k p q x : ℕ) → rank c k p q x ≤ k
unfolding rank
rank_most c zero p q x = le_refl 0
rank_most c (suc k) p q x = at_most (c (suc k)) k (rank c k) q (λ a b y u v. rank_most c k a b y) (q - p) p x

pub rank_first : (c : ℕ → ℕ → ℕ → ℕ) (k p q : ℕ) → rank c k p q p ≡ k
unfolding rank
rank_first c zero p q = refl
rank_first c (suc k) p q = at_first (c (suc k)) k (rank c k) q (λ a b y u v. rank_most c k a b y) (q - p) p p (le_refl p)

pub rank_last : (c : ℕ → ℕ → ℕ → ℕ) (k p q : ℕ) → p ≤ q → rank c k p q q ≡ k
unfolding rank
rank_last c zero p q h = refl
rank_last c (suc k) p q h = at_last (c (suc k)) k (rank c k) q (λ a b y u v. rank_most c k a b y) (q - p) p h (omega arith)

pub rank_read : (c : ℕ → ℕ → ℕ → ℕ) (k p q : ℕ) → p ≤ q → Read c k p q (rank c k p q)
unfolding Read rank
rank_read c zero p q h = tt
rank_read c (suc k) p q h = λ i j u v N.
    let o : i < j = N.order in
    let t = stops (c (suc k)) k (rank c k) q (λ a b y u v. rank_most c k a b y) (q - p) p h (omega arith) i j u v N in (
      t.0,
      read_same c k i j (rank c k i j) (rank c (suc k) p q)
          (λ x a b. elim (dec_lt i x) [
            | no n ↦ (let e : x ≡ i = omega arith in rw e (omega (arith, rank_first c k i j, N.left)))
            | yes y ↦ elim (dec_lt x j) [
              | no n ↦ (let e : x ≡ j = omega arith in rw e (omega (arith, rank_last c k i j (omega arith), N.right)))
              | yes z ↦ omega (arith, t.1 x y z)
            ]
          ])
          (rank_read c k i j (omega arith)),
    )

-- the read-out, worked out
pub readout : (c : ℕ → ℕ → ℕ → ℕ) (m n : ℕ) → Readout c m n (rank c m 0 (n - 1))
readout c m n = record {
  first = rank_first c m 0 (n - 1);
  last = rank_last c m 0 (n - 1) zero-le;
  highest = λ x h. rank_most c m 0 (n - 1) x;
  read = rank_read c m 0 (n - 1) zero-le;
}

-- level by level, as a call that goes from level k down shows it: each level's neighbours are on the chosen paths between neighbours of the level above
pub read_flat : (c : ℕ → ℕ → ℕ → ℕ) (k p q : ℕ) (r : ℕ → ℕ)
    → ((a b : ℕ) → p ≤ a → b ≤ q → Neighbours r k a b → b ≡ next (c k) a q)
    → ((ℓ u v : ℕ) → 1 ≤ ℓ → ℓ < k → p ≤ u → v ≤ q → Neighbours r (suc ℓ) u v → (a b : ℕ) → u ≤ a → b ≤ v → Neighbours r ℓ a b → b ≡ next (c ℓ) a v)
    → Read c k p q r
unfolding Read
read_flat c zero p q r top lower = tt
read_flat c (suc zero) p q r top lower = λ a b u v N. (top a b u v N, tt)
read_flat c (suc (suc k)) p q r top lower = λ a b u v N. (
  top a b u v N,
  read_flat c (suc k) a b r (λ i j x y M. lower (suc k) a b (omega arith) (le_refl (suc (suc k))) u v N i j x y M)
      (λ ℓ i j x y g h M. lower ℓ i j x (omega arith) (omega arith) (omega arith) M),
)
