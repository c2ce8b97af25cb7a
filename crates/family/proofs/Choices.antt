-- The rule for ties, and the chosen family, say in the rank form what the paper says on lists (`prefers_levels`, `chosen_levels`), and the paper's choice is one
-- (`chosen_one`). Assumes nothing.
use Prim.Native.Nat.{ℕ, zero, suc, ◌-◌, ◌≤◌, ◌<◌, zero-le}
use mathlib.Core.Path.{◌≡◌, refl, sym, ◌∙◌}
use mathlib.Core.Logic.{◌↔◌, inl, inr}
use mathlib.Core.Bool.{Bool}
use mathlib.Core.List.{List, Memᴰ as In}
use native.Mathlib.Omega.{arith}
use native.Mathlib.Decide.{dec_le, dec_lt}
use native.Mathlib.Nat.{le_refl}
use Rattle.refusal.specs.Check.{Decides}
use Rattle.family.specs.Family.{Prefers, Chosen}
use Rattle.family.specs.Levels
use Rattle.family.specs.Levels.{Preferred, levels, ranks}
use Rattle.family.proofs.Lists.{Rising, same_list, larger_both, larger_not, larger_keeps, keeps_larger}
use Rattle.family.proofs.Levels.{levels_in, in_levels, levels_rising, ranks_in, levels_ranks, minimal_levels, minimal_ranks}

-- two families that come before each other have the same levels
preferred_same : (L M : ℕ → List ℕ) (k : ℕ) → Preferred k L M → Preferred k M L → (ℓ : ℕ) → 1 ≤ ℓ → ℓ ≤ k → L ℓ ≡ M ℓ
unfolding Preferred
preferred_same L M zero P Q ℓ a b = absurd (omega arith)
preferred_same L M (suc k) P Q ℓ a b = elim P [
  | inl h ↦ elim Q [
    | inl g ↦ absurd (larger_both (L (suc k)) (M (suc k)) h g)
    | inr t ↦ absurd (larger_not (L (suc k)) (M (suc k)) (sym t.0) h)
  ]
  | inr s ↦ elim Q [
    | inl g ↦ absurd (larger_not (M (suc k)) (L (suc k)) (sym s.0) g)
    | inr t ↦ elim (dec_le ℓ k) [
      | yes y ↦ preferred_same L M k s.1 t.1 ℓ a y
      | no y ↦ (let e : ℓ ≡ suc k = omega arith in rw e s.0)
    ]
  ]
]

-- only the levels 1 to k count
preferred_by : (L M L' M' : ℕ → List ℕ) (k : ℕ) → ((ℓ : ℕ) → 1 ≤ ℓ → ℓ ≤ k → (L ℓ ≡ L' ℓ) × (M ℓ ≡ M' ℓ)) → Preferred k L M → Preferred k L' M'
unfolding Preferred
preferred_by L M L' M' zero e P = tt
preferred_by L M L' M' (suc k) e P =
    let f = e (suc k) (omega arith) (le_refl (suc k)) in
    elim P [
      | inl h ↦ inl (rw (f.0, f.1) at h)
      | inr t ↦ inr (sym f.0 ∙ t.0 ∙ f.1, preferred_by L M L' M' k (λ ℓ a b. e ℓ a (omega arith)) t.1)
    ]

module _ (n : ℕ) (some : 0 < n) where
  abbrev level : (ℕ → ℕ) → ℕ → List ℕ
  level r = levels r 0 (n - 1)

  give : (r s : ℕ → ℕ) (ℓ x : ℕ) → x < n → (In x (level r ℓ) → In x (level s ℓ)) → ℓ ≤ r x → ℓ ≤ s x
  give r s ℓ x o f h = (in_levels s ℓ 0 (n - 1) x zero-le (f (levels_in r ℓ 0 (n - 1) x zero-le (omega arith) h))).2

  take : (r s : ℕ → ℕ) (ℓ x : ℕ) → (x < n → ℓ ≤ r x → ℓ ≤ s x) → In x (level r ℓ) → In x (level s ℓ)
  take r s ℓ x f h = let t = in_levels r ℓ 0 (n - 1) x zero-le h in levels_in s ℓ 0 (n - 1) x zero-le t.1 (f (omega (arith, t.1)) t.2)

  rising : (r : ℕ → ℕ) (ℓ : ℕ) → Rising 0 (level r ℓ)
  rising r ℓ = levels_rising r ℓ 0 (n - 1)

  module _ (m : ℕ) (r s : ℕ → ℕ) where
    -- the two agree on the levels above k
    abbrev Above : ℕ → Type 0
    Above k = (h x : ℕ) → k < h → h ≤ m → x < n → h ≤ r x ↔ h ≤ s x

    to_lists : Prefers m n r s → m ≤ r (n - 1) → (k : ℕ) → k ≤ m → Above k → Preferred k (level r) (level s)
    unfolding Preferred Prefers
    to_lists P last zero b A = tt
    to_lists P last (suc k) b A = elim (keeps_larger (level r (suc k)) (level s (suc k)) 0 0 (rising r (suc k)) (rising s (suc k))
        (λ z h. (n - 1, levels_in r (suc k) 0 (n - 1) (n - 1) zero-le (le_refl (n - 1)) (omega arith), (in_levels s (suc k) 0 (n - 1) z zero-le h).1))
        (λ y f. take r s (suc k) y (λ o. P (suc k) y (omega arith) b o A
        (λ x g. (give r s (suc k) x (omega arith) (f x g).0, give s r (suc k) x (omega arith) (f x g).1))))) [
          | inl h ↦ inl h
          | inr e ↦ inr (
            e,
            to_lists P last k (omega arith) (λ h x a c o. elim (dec_lt (suc k) h) [
              | yes y ↦ A h x y c o
              | no y ↦ (let g : h ≡ suc k = omega arith in rw g (give r s (suc k) x o (λ i. rw e at i), give s r (suc k) x o (λ i. rw e i)))
            ]),
          )
        ]

    to_ranks : (k : ℕ) → k ≤ m → Preferred k (level r) (level s) → (ℓ y : ℕ) → 1 ≤ ℓ → ℓ ≤ k → y < n → Above ℓ → ((x : ℕ) → x < y → ℓ ≤ r x ↔ ℓ ≤ s x) → ℓ ≤ r y → ℓ ≤ s y
    unfolding Preferred
    to_ranks zero b P ℓ y a c o A f = absurd (omega arith)
    to_ranks (suc k) b P ℓ y a c o A f = elim (dec_le ℓ k) [
      | yes u ↦ elim P [
        | inl h ↦ absurd (larger_not (level r (suc k)) (level s (suc k))
            (same_list (level r (suc k)) (level s (suc k)) 0 0 (rising r (suc k)) (rising s (suc k))
            (λ z. (take r s (suc k) z (λ w. (A (suc k) z (omega arith) b w).0), take s r (suc k) z (λ w. (A (suc k) z (omega arith) b w).1)))) h)
        | inr t ↦ to_ranks k (omega arith) t.1 ℓ y a u o A f
      ]
      | no u ↦
          (let e : suc k ≡ ℓ = omega arith in
          give r s ℓ y o (elim P [
            | inl h ↦ larger_keeps (level r ℓ) (level s ℓ) 0 0 (rising r ℓ) (rising s ℓ) (rw e at h) y (λ z w. take s r ℓ z (λ v. (f z w).1))
            | inr t ↦ (λ i. rw (rw e at t.0) at i)
          ]))
    ]

    -- the rule for ties
    pub prefers_levels : m ≤ r (n - 1) → Prefers m n r s ↔ Preferred m (levels r 0 (n - 1)) (levels s 0 (n - 1))
    unfolding Prefers
    prefers_levels last = (λ P. to_lists P last m (le_refl m) (λ h x a b o. absurd (omega arith)), λ P. to_ranks m (le_refl m) P)

-- the chosen family is one
pub chosen_one : (Permit : ℕ → ℕ → ℕ → Type 0) (k i j : ℕ) (L M : ℕ → List ℕ) → Levels.Chosen Permit k i j L → Levels.Chosen Permit k i j M
    → (ℓ : ℕ) → 1 ≤ ℓ → ℓ ≤ k → L ℓ ≡ M ℓ
chosen_one Permit k i j L M C D = preferred_same L M k (C.preferred M D.minimal) (D.preferred L C.minimal)

module _ (Permit : ℕ → ℕ → ℕ → Type 0) (perm : ℕ → ℕ → ℕ → Bool) (m n : ℕ)
    (decides : (k i j : ℕ) → 1 ≤ k → k ≤ m → i < j → j < n → Decides (Permit k i j) (perm k i j)) (some : 0 < n) where
  -- ranks up to m are chosen exactly when their levels are
  pub chosen_levels : (r : ℕ → ℕ) → ((x : ℕ) → x < n → r x ≤ m) → Chosen perm m n r ↔ Levels.Chosen Permit m 0 (n - 1) (levels r 0 (n - 1))
  chosen_levels r high = (
    λ C. record {
      minimal = (minimal_levels Permit perm m n decides some r).0 C.minimal;
      preferred = λ M D. preferred_by (levels r 0 (n - 1)) (levels (ranks M m) 0 (n - 1)) (levels r 0 (n - 1)) M m
          (λ ℓ a b. (refl, levels_ranks Permit m 0 (n - 1) M D.family zero-le ℓ a b))
          ((prefers_levels n some m r (ranks M m) C.minimal.family.last).0 (C.prefers (ranks M m) ((minimal_ranks Permit perm m n decides some M D.family).1 D)));
    },
    λ C. (let M = (minimal_levels Permit perm m n decides some r).1 C.minimal in
        record {
          highest = high;
          minimal = M;
          prefers = λ s D. (prefers_levels n some m r s M.family.last).1 (C.preferred (levels s 0 (n - 1)) ((minimal_levels Permit perm m n decides some s).0 D));
        }),
  )

  -- the ranks of the chosen family are chosen
  pub chosen_ranks : (L : ℕ → List ℕ) → Levels.Chosen Permit m 0 (n - 1) L → Chosen perm m n (ranks L m)
  chosen_ranks L C =
      let F = C.minimal.family in
      let M = (minimal_ranks Permit perm m n decides some L F).1 C.minimal in
      record {
        highest = λ x o. (ranks_in L x m (λ ℓ a b. F.nested ℓ x a b)).0;
        minimal = M;
        prefers = λ s D. (prefers_levels n some m (ranks L m) s M.family.last).1
            (preferred_by L (levels s 0 (n - 1)) (levels (ranks L m) 0 (n - 1)) (levels s 0 (n - 1)) m (λ ℓ a b. (sym (levels_ranks Permit m 0 (n - 1) L F zero-le ℓ a b), refl))
            (C.preferred (levels s 0 (n - 1)) ((minimal_levels Permit perm m n decides some s).0 D)));
      }
