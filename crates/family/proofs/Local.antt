-- What a cell's value depends on: the cells of the level below of stretches within its own, and its own permission. So a table stays genuine when a sample is
-- put at a place (`genuine_put`) and when the first samples go (`genuine_drop`). Assumes nothing.
use Prim.Native.Nat.{ℕ, zero, suc, ◌+◌, ◌-◌, ◌≤◌, ◌<◌, min}
use mathlib.Core.Path.{◌≡◌, refl, sym, ◌∙◌, ap₂}
use mathlib.Core.Logic.{◌⊎◌, inl, inr}
use mathlib.Core.Bool.{Bool}
use native.Mathlib.Omega.{arith}
use native.Mathlib.Decide.{dec_lt}
use native.Mathlib.Nat.{le_refl, suc-add}
use Rattle.family.specs.Family.{via, hop, least, least_by, next, below, value, Genuine, Read, Readout}

module _ (c d : ℕ → ℕ → ℕ) (i j : ℕ) (same : (p q : ℕ) → i ≤ p → p < q → q ≤ j → c p q ≡ d p q) where
  via_same : (p x e : ℕ) → x + e ≡ j → i ≤ p → p < x → via c p x e ≡ via d p x e
  unfolding via
  via_same p x zero h a b = same p x a b (omega arith)
  via_same p x (suc e) h a b = ap₂ min (ap₂ ◌+◌ (same p x a b (omega arith)) (via_same x (suc x) e (omega arith) (omega arith) (le_refl (suc x)))) (via_same p (suc x) e (omega arith) a (omega arith))

  hop_same : (p x e : ℕ) → x + e ≡ j → i ≤ p → p < x → hop c p x e ≡ hop d p x e
  unfolding hop
  hop_same p x zero h a b = refl
  hop_same p x (suc e) h a b =
      rw (same p x a b (omega arith), via_same x (suc x) e (omega arith) (omega arith) (le_refl (suc x)), via_same p (suc x) e (omega arith) a (omega arith), hop_same p (suc x) e (omega arith) a (omega arith))

  least_by_same : (p e : ℕ) → p + e ≡ j → i ≤ p → least_by c p e ≡ least_by d p e
  unfolding least_by
  least_by_same p zero h a = refl
  least_by_same p (suc e) h a = via_same p (suc p) e (omega arith) a (le_refl (suc p))

  pub least_same : (p : ℕ) → i ≤ p → p ≤ j → least c p j ≡ least d p j
  unfolding least
  least_same p a b = least_by_same p (j - p) (omega arith) a

  pub next_same : (p : ℕ) → i ≤ p → p < j → next c p j ≡ next d p j
  unfolding next
  next_same p a b = hop_same p (suc p) (j - suc p) (omega arith) a (le_refl (suc p))

-- the value of a cell
pub value_same : (perm perm' : ℕ → ℕ → ℕ → Bool) (c d : ℕ → ℕ → ℕ → ℕ) (k i j : ℕ) → i < j → perm k i j ≡ perm' k i j
    → ((ℓ p q : ℕ) → 1 ≤ ℓ → suc ℓ ≡ k → i ≤ p → p < q → q ≤ j → c ℓ p q ≡ d ℓ p q) → value perm c k i j ≡ value perm' d k i j
unfolding value below
value_same perm perm' c d zero i j o e f = refl
value_same perm perm' c d (suc zero) i j o e f = rw e
value_same perm perm' c d (suc (suc k)) i j o e f =
    rw (e, least_same (c (suc k)) (d (suc k)) i j (λ p q a b h. f (suc k) p q (omega arith) refl a b h) i (le_refl i) (omega arith))

-- the stretch i to j is without the sample v
abbrev pub Without : ℕ → ℕ → ℕ → Type 0
Without v i j = (j < v) ⊎ (v < i)

within : (v i j p q : ℕ) → i ≤ p → q ≤ j → Without v i j → Without v p q
within v i j p q a b (inl h) = inl (omega arith)
within v i j p q a b (inr h) = inr (omega arith)

pub with? : (v i j : ℕ) → Without v i j ⊎ ((i ≤ v) × (v ≤ j))
with? v i j = elim (dec_lt j v) [
  | yes a ↦ inl (inl a)
  | no a ↦ elim (dec_lt v i) [
    | yes b ↦ inl (inr b)
    | no b ↦ inr (omega arith, omega arith)
  ]
]

-- sample v put anew, or added: the cells of stretches without it stay, and those of stretches with it are written
pub genuine_put : (perm perm' : ℕ → ℕ → ℕ → Bool) (c d : ℕ → ℕ → ℕ → ℕ) (m n v : ℕ)
    → ((k i j : ℕ) → 1 ≤ k → k ≤ m → i < j → j < n → Without v i j → c k i j ≡ value perm c k i j)
    → ((k i j : ℕ) → 1 ≤ k → k ≤ m → i < j → j < n → Without v i j → perm k i j ≡ perm' k i j)
    → ((k i j : ℕ) → 1 ≤ k → k ≤ m → i < j → j < n → Without v i j → c k i j ≡ d k i j)
    → ((k i j : ℕ) → 1 ≤ k → k ≤ m → i < j → j < n → i ≤ v → v ≤ j → d k i j ≡ value perm' d k i j)
    → Genuine perm' d m n
unfolding Genuine
genuine_put perm perm' c d m n v old perms stay new k i j a b o h = go (with? v i j)
  where
    go : Without v i j ⊎ ((i ≤ v) × (v ≤ j)) → d k i j ≡ value perm' d k i j
    go (inr w) = new k i j a b o h w.0 w.1
    go (inl w) = sym (stay k i j a b o h w) ∙ old k i j a b o h w
        ∙ value_same perm perm' c d k i j o (perms k i j a b o h w) (λ ℓ p q x y f g z. stay ℓ p q x (omega arith) g (omega arith) (within v i j p q f z w))

-- the samples moved down by t
module _ (t : ℕ) where
  abbrev pub moved : {A : Type 0} → (ℕ → ℕ → A) → ℕ → ℕ → A
  moved c p q = c (p + t) (q + t)

  via_moved : (c : ℕ → ℕ → ℕ) (p x e : ℕ) → via (moved c) p x e ≡ via c (p + t) (x + t) e
  unfolding via
  via_moved c p x zero = refl
  via_moved c p x (suc e) = rw (via_moved c x (suc x) e, via_moved c p (suc x) e, suc-add x t)

  least_by_moved : (c : ℕ → ℕ → ℕ) (p e : ℕ) → least_by (moved c) p e ≡ least_by c (p + t) e
  unfolding least_by
  least_by_moved c p zero = refl
  least_by_moved c p (suc e) = via_moved c p (suc p) e ∙ rw (suc-add p t)

  pub least_moved : (c : ℕ → ℕ → ℕ) (p j : ℕ) → least (moved c) p j ≡ least c (p + t) (j + t)
  unfolding least
  least_moved c p j = least_by_moved c p (j - p) ∙ (let e : j - p ≡ j + t - (p + t) = omega arith in rw e)

  pub value_moved : (perm : ℕ → ℕ → ℕ → Bool) (c : ℕ → ℕ → ℕ → ℕ) (k i j : ℕ) → value (λ k. moved (perm k)) (λ k. moved (c k)) k i j ≡ value perm c k (i + t) (j + t)
  unfolding value below
  value_moved perm c zero i j = refl
  value_moved perm c (suc zero) i j = refl
  value_moved perm c (suc (suc k)) i j = rw (least_moved (c (suc k)) i j)

  -- the first t samples gone
  pub genuine_drop : (perm : ℕ → ℕ → ℕ → Bool) (c : ℕ → ℕ → ℕ → ℕ) (m n : ℕ) → Genuine perm c m n → Genuine (λ k. moved (perm k)) (λ k. moved (c k)) m (n - t)
  unfolding Genuine
  genuine_drop perm c m n g k i j a b o h = g k (i + t) (j + t) a b (omega arith) (omega arith) ∙ sym (value_moved perm c k i j)

-- only the cells and permissions of stretches i < j < n count
pub genuine_same : (perm perm' : ℕ → ℕ → ℕ → Bool) (c d : ℕ → ℕ → ℕ → ℕ) (m n : ℕ)
    → ((k i j : ℕ) → 1 ≤ k → k ≤ m → i < j → j < n → perm k i j ≡ perm' k i j)
    → ((k i j : ℕ) → 1 ≤ k → k ≤ m → i < j → j < n → c k i j ≡ d k i j)
    → Genuine perm c m n → Genuine perm' d m n
unfolding Genuine
genuine_same perm perm' c d m n e f g k i j a b o h =
    sym (f k i j a b o h) ∙ g k i j a b o h ∙ value_same perm perm' c d k i j o (e k i j a b o h) (λ ℓ p q x y u v w. f ℓ p q x (omega arith) v (omega arith))

-- what is written is one: two tables with the same cells of stretches without v, and each with the values of its own cells in the others, are the same
pub put_unique : (perm : ℕ → ℕ → ℕ → Bool) (c d : ℕ → ℕ → ℕ → ℕ) (m n v : ℕ)
    → ((k i j : ℕ) → 1 ≤ k → k ≤ m → i < j → j < n → Without v i j → c k i j ≡ d k i j)
    → ((k i j : ℕ) → 1 ≤ k → k ≤ m → i < j → j < n → i ≤ v → v ≤ j → c k i j ≡ value perm c k i j)
    → ((k i j : ℕ) → 1 ≤ k → k ≤ m → i < j → j < n → i ≤ v → v ≤ j → d k i j ≡ value perm d k i j)
    → (k i j : ℕ) → 1 ≤ k → k ≤ m → i < j → j < n → c k i j ≡ d k i j
put_unique perm c d m n v stay f g zero i j a b o h = absurd (omega arith)
put_unique perm c d m n v stay f g (suc k) i j a b o h =
    go (λ p q y u w. put_unique perm c d m n v stay f g k p q y (omega arith) u w) (with? v i j)
  where
    go : ((p q : ℕ) → 1 ≤ k → p < q → q < n → c k p q ≡ d k p q) → Without v i j ⊎ ((i ≤ v) × (v ≤ j)) → c (suc k) i j ≡ d (suc k) i j
    go t (inl w) = stay (suc k) i j a b o h w
    go t (inr w) =
        f (suc k) i j a b o h w.0 w.1
        ∙ value_same perm perm c d (suc k) i j o refl (λ ℓ p q x y z u e. (let l : ℓ ≡ k = omega arith in rw l (t p q (omega arith) u (omega arith))))
        ∙ sym (g (suc k) i j a b o h w.0 w.1)

-- the read-out reads the cells of stretches i < j < n only
pub read_cells : (c d : ℕ → ℕ → ℕ → ℕ) (k p q : ℕ) (r : ℕ → ℕ) → ((ℓ i j : ℕ) → 1 ≤ ℓ → ℓ ≤ k → p ≤ i → i < j → j ≤ q → c ℓ i j ≡ d ℓ i j) → Read c k p q r → Read d k p q r
unfolding Read
read_cells c d zero p q r e R = tt
read_cells c d (suc k) p q r e R = λ a b u v N.
    let o : a < b = N.order in
    let t = R a b u v N in (
      t.0 ∙ next_same (c (suc k)) (d (suc k)) p q (λ i j x y z. e (suc k) i j (omega arith) (le_refl (suc k)) x y z) a u (omega arith),
      read_cells c d k a b r (λ ℓ i j x y z w s. e ℓ i j x (omega arith) (omega arith) w (omega arith)) t.1,
    )

pub readout_cells : (c d : ℕ → ℕ → ℕ → ℕ) (m n : ℕ) (r : ℕ → ℕ) → 0 < n → ((ℓ i j : ℕ) → 1 ≤ ℓ → ℓ ≤ m → i < j → j < n → c ℓ i j ≡ d ℓ i j) → Readout c m n r → Readout d m n r
readout_cells c d m n r some e R = record {
  first = R.first;
  last = R.last;
  highest = R.highest;
  read = read_cells c d m 0 (n - 1) r (λ ℓ i j a b u v w. e ℓ i j a b v (omega arith)) R.read;
}
