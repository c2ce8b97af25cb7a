-- The rule for ties: a read-out comes before every family whose steps go no farther, and no two ranks come before each other. Assumes nothing.
use Prim.Native.Nat.{ℕ, zero, suc, ◌+◌, ◌-◌, ◌≤◌, ◌<◌, zero-le}
use mathlib.Core.Path.{◌≡◌}
use mathlib.Core.Logic.{◌↔◌}
use native.Mathlib.Omega.{arith}
use native.Mathlib.Decide.{dec_le, dec_lt}
use native.Mathlib.Nat.{le_refl, le_antisymm}
use Rattle.family.specs.Family.{next, Read, Readout, Prefers}
use Rattle.family.specs.Lists.{Neighbours}

-- the members of level k nearest to a sample y that is none
module _ (s : ℕ → ℕ) (k : ℕ) where
  before : (p y : ℕ) → k ≤ s p → p < y → (a : ℕ) × (p ≤ a) × (a < y) × (k ≤ s a) × ((x : ℕ) → a < x → x < y → s x < k)
  before p zero h o = absurd (omega arith)
  before p (suc y) h o = elim (dec_le k (s y)) [
    | yes u ↦ (y, omega arith, le_refl (suc y), u, λ x v w. absurd (omega arith))
    | no u ↦ (let o' : p < y = elim (dec_lt p y) [ yes w ↦ w | no w ↦ (let e : p ≡ y = omega arith in absurd (u (rw e at h))) ] in
        let t = before p y h o' in
        (t.0, t.1, omega arith, t.3, λ x v w. elim (dec_lt x y) [ yes z ↦ t.4 x v z | no z ↦ (let e : x ≡ y = omega arith in rw e (omega arith)) ]))
  ]

  after : (d y q : ℕ) → y + d ≡ q → k ≤ s q → 0 < d → (b : ℕ) × (y < b) × (b ≤ q) × (k ≤ s b) × ((x : ℕ) → y < x → x < b → s x < k)
  after zero y q e h o = absurd (omega arith)
  after (suc d) y q e h o = elim (dec_le k (s (suc y))) [
    | yes u ↦ (suc y, le_refl (suc y), omega arith, u, λ x v w. absurd (omega arith))
    | no u ↦ (let o' : 0 < d = elim (dec_lt 0 d) [ yes w ↦ w | no w ↦ (let f : q ≡ suc y = omega arith in absurd (u (rw f at h))) ] in
        let t = after d (suc y) q (omega arith) h o' in
        (t.0, omega arith, t.2, t.3, λ x v w. elim (dec_lt (suc y) x) [ yes z ↦ t.4 x z w | no z ↦ (let f : x ≡ suc y = omega arith in rw f (omega arith)) ]))
  ]

  around : (p y q : ℕ) → k ≤ s p → k ≤ s q → p ≤ y → y ≤ q → s y < k → (a b : ℕ) × (p ≤ a) × (a < y) × (y < b) × (b ≤ q) × Neighbours s k a b
  around p y q g h u v n =
      let o : p < y = elim (dec_lt p y) [ yes w ↦ w | no w ↦ (let e : y ≡ p = omega arith in let g' : k ≤ s y = rw e g in absurd (omega arith)) ] in
      let o' : y < q = elim (dec_lt y q) [ yes w ↦ w | no w ↦ (let e : y ≡ q = omega arith in let h' : k ≤ s y = rw e h in absurd (omega arith)) ] in
      let l = before p y g o in
      let t = after (q - y) y q (omega arith) h (omega arith) in (
        l.0,
        t.0,
        l.1,
        l.2,
        t.1,
        t.2,
        record { order = omega arith; left = l.3; right = t.3; between = λ x a b. elim (dec_lt x y) [ yes z ↦ l.4 x a z | no z ↦ elim (dec_lt y x) [ yes w ↦ t.4 x w b | no w ↦ (let e : x ≡ y = omega arith in rw e n) ] ] },
      )

-- the steps of s go no farther than those of the read-out
abbrev pub Low : (ℕ → ℕ → ℕ → ℕ) → ℕ → ℕ → ℕ → (ℕ → ℕ) → Type 0
Low c zero p q s = Unit {0}
Low c (suc k) p q s = (a b : ℕ) → p ≤ a → b ≤ q → Neighbours s (suc k) a b → (b ≤ next (c (suc k)) a q) × Low c k a b s

pub read_low : (c : ℕ → ℕ → ℕ → ℕ) (k p q : ℕ) (r : ℕ → ℕ) → Read c k p q r → Low c k p q r
unfolding Read
read_low c zero p q r R = tt
read_low c (suc k) p q r R = λ a b u v N. (let t = R a b u v N in (omega (arith, t.0), read_low c k a b r t.1))

module _ (c : ℕ → ℕ → ℕ → ℕ) (r s : ℕ → ℕ) where
  -- the two agree on the levels above ℓ, up to k, from p to q
  abbrev Above : ℕ → ℕ → ℕ → ℕ → Type 0
  Above ℓ k p q = (h x : ℕ) → ℓ < h → h ≤ k → p ≤ x → x ≤ q → h ≤ r x ↔ h ≤ s x

  pub tie : (k p q : ℕ) → Read c k p q r → Low c k p q s → k ≤ s p → k ≤ s q → (ℓ y : ℕ) → 1 ≤ ℓ → ℓ ≤ k → p ≤ y → y ≤ q
      → Above ℓ k p q → ((x : ℕ) → p ≤ x → x < y → ℓ ≤ r x ↔ ℓ ≤ s x) → ℓ ≤ r y → ℓ ≤ s y
  unfolding Read
  tie zero p q R L f g ℓ y a b u v A B h = absurd (omega arith)
  tie (suc k) p q R L f g ℓ y a b u v A B h = elim (dec_le (suc k) (s y)) [
    | yes w ↦ omega arith
    | no w ↦
        (let (i, j, i0, i1, j0, j1, N) = around s (suc k) p y q f g u v (omega arith) in
        elim (dec_le ℓ k) [
          | yes z ↦
              (let M : Neighbours r (suc k) i j = record {
                order = N.order;
                left = (A (suc k) i (omega arith) (le_refl (suc k)) i0 (omega arith)).1 N.left;
                right = (A (suc k) j (omega arith) (le_refl (suc k)) (omega arith) j1).1 N.right;
                between = λ x d e. elim (dec_lt (r x) (suc k)) [
                  | yes t ↦ t
                  | no t ↦ absurd (omega (arith, N.between x d e, (A (suc k) x (omega arith) (le_refl (suc k)) (omega arith) (omega arith)).0 (omega arith)))
                ];
              } in
              tie k i j (R i j i0 j1 M).1 (L i j i0 j1 N).1 (omega (arith, N.left)) (omega (arith, N.right)) ℓ y a z (omega arith) (omega arith)
              (λ h x d e m o. A h x d (omega arith) (omega arith) (omega arith))
              (λ x d e. B x (omega arith) e) h)
          | no z ↦
              (let M : Neighbours r (suc k) i y = record {
                order = i1;
                left = omega (arith, (B i i0 i1).1 (omega (arith, N.left)));
                right = omega arith;
                between = λ x d e. elim (dec_lt (r x) (suc k)) [
                  | yes t ↦ t
                  | no t ↦ absurd (omega (arith, N.between x d (omega arith), (B x (omega arith) e).0 (omega arith)))
                ];
              } in
              absurd (omega (arith, (R i y i0 v M).0, (L i j i0 j1 N).0)))
        ])
  ]

-- two ranks that come before each other are the same
module _ (m n : ℕ) (r s : ℕ → ℕ) (f : Prefers m n r s) (g : Prefers m n s r) where
  -- level ℓ, the levels above it being the same
  level : (ℓ : ℕ) → 1 ≤ ℓ → ℓ ≤ m → ((h x : ℕ) → ℓ < h → h ≤ m → x < n → h ≤ r x ↔ h ≤ s x) → (d x : ℕ) → x < d → x < n → ℓ ≤ r x ↔ ℓ ≤ s x
  unfolding Prefers
  level ℓ a b A zero x u v = absurd (omega arith)
  level ℓ a b A (suc d) x u v = (
    f ℓ x a b v A (λ y w. level ℓ a b A d y (omega arith) (omega arith)),
    g ℓ x a b v (λ h z o p q. ((A h z o p q).1, (A h z o p q).0)) (λ y w. ((level ℓ a b A d y (omega arith) (omega arith)).1, (level ℓ a b A d y (omega arith) (omega arith)).0)),
  )

  levels : (d ℓ : ℕ) → m < ℓ + d → 1 ≤ ℓ → ℓ ≤ m → (x : ℕ) → x < n → ℓ ≤ r x ↔ ℓ ≤ s x
  levels zero ℓ o a b x v = absurd (omega arith)
  levels (suc d) ℓ o a b x v = level ℓ a b (λ h y p q w. levels d h (omega arith) (omega arith) q y w) (suc x) x (le_refl (suc x)) v

  half : (x a b : ℕ) → a ≤ m → (1 ≤ a → a ≤ a → a ≤ b) → a ≤ b
  half x a b h t = elim (dec_le 1 a) [ yes y ↦ t y (le_refl a) | no y ↦ omega arith ]

  pub same_ranks : ((x : ℕ) → x < n → r x ≤ m) → ((x : ℕ) → x < n → s x ≤ m) → (x : ℕ) → x < n → r x ≡ s x
  same_ranks hr hs x v = le_antisymm
      (half x (r x) (s x) (hr x v) (λ a b. (levels (suc m) (r x) (omega arith) a (hr x v) x v).0 b))
      (half x (s x) (r x) (hs x v) (λ a b. (levels (suc m) (s x) (omega arith) a (hs x v) x v).1 b))

-- a read-out comes before all ranks whose steps go no farther
pub readout_prefers : (c : ℕ → ℕ → ℕ → ℕ) (m n : ℕ) (r s : ℕ → ℕ) → Readout c m n r → Low c m 0 (n - 1) s → m ≤ s 0 → m ≤ s (n - 1) → Prefers m n r s
unfolding Prefers
readout_prefers c m n r s R L a b ℓ y u v w A B h =
    tie c r s m 0 (n - 1) R.read L a b ℓ y u v zero-le (omega arith) (λ h x d e i j. A h x d e (omega arith)) (λ x i j. B x j) h

-- the read-out of a table is one, whatever the cells
pub readout_unique : (c : ℕ → ℕ → ℕ → ℕ) (m n : ℕ) (r s : ℕ → ℕ) → Readout c m n r → Readout c m n s → (x : ℕ) → x < n → r x ≡ s x
readout_unique c m n r s R S = same_ranks m n r s
    (readout_prefers c m n r s R (read_low c m 0 (n - 1) s S.read) (omega (arith, S.first)) (omega (arith, S.last)))
    (readout_prefers c m n s r S (read_low c m 0 (n - 1) r R.read) (omega (arith, R.first)) (omega (arith, R.last)))
    R.highest S.highest
