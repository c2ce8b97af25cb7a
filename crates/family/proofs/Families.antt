-- Families: what joins, restricts and lifts them, and the walk along a level. Assumes nothing.
use Prim.Native.Nat.{ℕ, zero, suc, ◌+◌, ◌-◌, ◌≤◌, ◌<◌, min}
use mathlib.Core.Path.{◌≡◌, sym, ◌∙◌, ap, ap₂}
use mathlib.Core.Bool.{Bool, true, cond}
use native.Mathlib.Omega.{arith}
use native.Mathlib.Decide.{dec_le, dec_lt}
use native.Mathlib.Nat.{le_refl}
use lib.Dec.{leb}
use borrow.Author.Tests.{le-leb, lt-leb}
use Rattle.family.specs.Family.{Family, total}
use Rattle.family.specs.Lists.{Neighbours}
use Rattle.family.proofs.Counts.{total_split, total_one, total_same}

-- the walk along the members of level k from any of them to the last, j
module _ (r : ℕ → ℕ) (k j : ℕ) (P : ℕ → Type 0) (last : k ≤ r j) (base : P j) (step : (a b : ℕ) → Neighbours r k a b → b ≤ j → P b → P a) where
  scan : (d p x : ℕ) → x + d ≡ j → p < x → k ≤ r p → ((y : ℕ) → p < y → y < x → r y < k) → P p
  scan zero p x e a h f = step p j (record { order = omega arith; left = h; right = last; between = λ y u v. f y u (omega arith) }) (le_refl j) base
  scan (suc d) p x e a h f = elim (dec_le k (r x)) [
    | yes y ↦ step p x (record { order = a; left = h; right = y; between = f }) (omega arith) (scan d x (suc x) (omega arith) (le_refl (suc x)) y (λ z u v. absurd (omega arith)))
    | no n ↦ scan d p (suc x) (omega arith) (omega arith) h (λ z u v. elim (dec_lt z x) [ yes w ↦ f z u w | no w ↦ (let t : z ≡ x = omega arith in rw t (omega arith)) ])
  ]

  pub walk : (p : ℕ) → p ≤ j → k ≤ r p → P p
  walk p a h = elim (dec_lt p j) [
    | yes y ↦ scan (j - suc p) p (suc p) (omega arith) (le_refl (suc p)) h (λ z u v. absurd (omega arith))
    | no n ↦ (let t : p ≡ j = omega arith in rw t base)
  ]

-- the neighbours of a level depend on the ranks up to k only
pub neighbours_same : {r s : ℕ → ℕ} (k ℓ p q : ℕ) → ℓ ≤ k → ((x : ℕ) → p ≤ x → x ≤ q → min (r x) k ≡ min (s x) k) → Neighbours s ℓ p q → Neighbours r ℓ p q
neighbours_same k ℓ p q h e N = record {
  order = N.order;
  left = omega (arith, e p (le_refl p) (omega (arith, N.order)), N.left);
  right = omega (arith, e q (omega (arith, N.order)) (le_refl q), N.right);
  between = λ x a b. omega (arith, e x (omega arith) (omega arith), N.between x a b);
}

module _ (perm : ℕ → ℕ → ℕ → Bool) where
  pub family_same : {r s : ℕ → ℕ} (k i j : ℕ) → i ≤ j → ((x : ℕ) → i ≤ x → x ≤ j → min (r x) k ≡ min (s x) k) → Family perm k i j r → Family perm k i j s
  family_same k i j o e F = record {
    first = omega (arith, e i (le_refl i) o, F.first);
    last = omega (arith, e j o (le_refl j), F.last);
    permitted = λ ℓ p q a b u v N. F.permitted ℓ p q a b u v (neighbours_same k ℓ p q b (λ x w z. e x (omega arith) (omega arith)) N);
  }

  pub family_join : {r : ℕ → ℕ} (k i x j : ℕ) → Family perm k i x r → Family perm k x j r → Family perm k i j r
  family_join {r} k i x j F G = record {
    first = F.first;
    last = G.last;
    permitted = λ ℓ p q a b u v N. elim (dec_le q x) [
      | yes y ↦ F.permitted ℓ p q a b u y N
      | no n ↦ elim (dec_le x p) [
        | yes y ↦ G.permitted ℓ p q a b y v N
        | no n' ↦ absurd (omega (arith, N.between x (omega arith) (omega arith), F.last))
      ]
    ];
  }

  -- a part of a family between two of its highest samples
  pub family_part : {r : ℕ → ℕ} (k i j p q : ℕ) → i ≤ p → q ≤ j → k ≤ r p → k ≤ r q → Family perm k i j r → Family perm k p q r
  family_part k i j p q a b u v F = record { first = u; last = v; permitted = λ ℓ p' q' g h w z N. F.permitted ℓ p' q' g h (omega arith) (omega arith) N }

  pub family_down : {r : ℕ → ℕ} (k i j : ℕ) → Family perm (suc k) i j r → Family perm k i j r
  family_down k i j F = record { first = omega (arith, F.first); last = omega (arith, F.last); permitted = λ ℓ p q g h w z N. F.permitted ℓ p q g (omega arith) w z N }

  -- one more level, of the one segment from i to j
  pub family_up : {r : ℕ → ℕ} (k i j : ℕ) → Neighbours r (suc k) i j → perm (suc k) i j ≡ true → Family perm k i j r → Family perm (suc k) i j r
  family_up {r} k i j M t F = record {
    first = M.left;
    last = M.right;
    permitted = λ ℓ p q g h w z N. elim (dec_le ℓ k) [
      | yes y ↦ F.permitted ℓ p q g y w z N
      | no n ↦
          (let a : ℓ ≡ suc k = omega arith in
          let o : p < q = N.order in
          let b : p ≡ i = elim (dec_lt i p) [ yes y ↦ omega (arith, M.between p y (omega arith), N.left) | no y ↦ omega arith ] in
          let d : q ≡ j = elim (dec_lt q j) [ yes y ↦ omega (arith, M.between q (omega arith) y, N.right) | no y ↦ omega arith ] in
          rw (a, b, d) t)
    ];
  }

  -- two families side by side, of ranks r up to x and s after it
  glue : (ℕ → ℕ) → (ℕ → ℕ) → ℕ → ℕ → ℕ
  glue r s x y = cond (leb y x) (r y) (s y)

  glue_left : (r s : ℕ → ℕ) (x y : ℕ) → y ≤ x → glue r s x y ≡ r y
  unfolding glue
  glue_left r s x y h = rw (le-leb y x h)

  glue_right : (r s : ℕ → ℕ) (x y : ℕ) → x < y → glue r s x y ≡ s y
  unfolding glue
  glue_right r s x y h = rw (lt-leb y x h)

  pub family_glue : (r s : ℕ → ℕ) (k i x j : ℕ) → i ≤ x → x ≤ j → Family perm k i x r → Family perm k x j s
      → (t : ℕ → ℕ) × Family perm k i j t × (total t k i j ≡ total r k i x + total s k x j)
  family_glue r s k i x j a b F G =
      let t = glue r s x in
      let l : (y : ℕ) → y ≤ x → min (r y) k ≡ min (t y) k = λ y h. omega (arith, glue_left r s x y h) in
      let g : (y : ℕ) → x ≤ y → min (s y) k ≡ min (t y) k =
      λ y h. elim (dec_lt x y) [
        | yes u ↦ omega (arith, glue_right r s x y u)
        | no u ↦ (let e : y ≡ x = omega arith in rw e (omega (arith, glue_left r s x x (le_refl x), F.last, G.first)))
      ] in (
        t,
        family_join k i x j (family_same k i x a (λ y u v. l y v) F) (family_same k x j b (λ y u v. g y u) G),
        (total_split t k i x j a b ∙ ap₂ ◌+◌ (total_same t r k i x (λ y u v. sym (l y v))) (total_same t s k x j (λ y u v. sym (g y (omega arith))))),
      )

  -- a family lifted to one more level, of the one segment from i to j
  lift : (ℕ → ℕ) → ℕ → ℕ → ℕ → ℕ → ℕ
  lift r k i j y = cond (leb y i) (suc k) (cond (leb j y) (suc k) (min (r y) k))

  lift_first : (r : ℕ → ℕ) (k i j : ℕ) → lift r k i j i ≡ suc k
  unfolding lift
  lift_first r k i j = rw (le-leb i i (le_refl i))

  lift_last : (r : ℕ → ℕ) (k i j : ℕ) → i < j → lift r k i j j ≡ suc k
  unfolding lift
  lift_last r k i j h = rw (lt-leb j i h, le-leb j j (le_refl j))

  lift_between : (r : ℕ → ℕ) (k i j y : ℕ) → i < y → y < j → lift r k i j y ≡ min (r y) k
  unfolding lift
  lift_between r k i j y a b = rw (lt-leb y i a, lt-leb j y b)

  pub family_lift : (r : ℕ → ℕ) (k i j : ℕ) → i < j → perm (suc k) i j ≡ true → Family perm k i j r
      → (t : ℕ → ℕ) × Family perm (suc k) i j t × Neighbours t (suc k) i j × (total t (suc k) i j ≡ suc (total r k i j))
  family_lift r k i j o e F =
      let t = lift r k i j in
      let l : (y : ℕ) → i ≤ y → y ≤ j → min (r y) k ≡ min (t y) k =
      λ y a b. elim (dec_lt i y) [
        | yes u ↦ elim (dec_lt y j) [
          | yes v ↦ omega (arith, lift_between r k i j y u v)
          | no v ↦ (let q : y ≡ j = omega arith in rw q (omega (arith, lift_last r k i j o, F.last)))
        ]
        | no u ↦ (let q : y ≡ i = omega arith in rw q (omega (arith, lift_first r k i j, F.first)))
      ] in
      let N : Neighbours t (suc k) i j = record {
        order = o;
        left = omega (arith, lift_first r k i j);
        right = omega (arith, lift_last r k i j o);
        between = λ y a b. omega (arith, lift_between r k i j y a b);
      } in (
        t,
        family_up k i j N e (family_same k i j (omega arith) l F),
        N,
        (total_one t k i j N ∙ ap suc (total_same t r k i j (λ y a b. sym (l y (omega arith) b)))),
      )
