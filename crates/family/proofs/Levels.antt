-- The rank form of families, minimal families and costs says what the paper says: ranks are a family exactly when their levels are one, a family's ranks give back its
-- levels, with the same segments, and so for minimal families (`minimal_levels`, `minimal_ranks`, `minimal_samples`) and costs (`cost_levels`). Assumes nothing.
use Prim.Native.Nat.{ℕ, zero, suc, ◌+◌, ◌-◌, ◌≤◌, ◌<◌, zero-le}
use mathlib.Core.Path.{◌≡◌, refl, sym, ◌∙◌, ap, ap₂}
use mathlib.Core.Logic.{◌↔◌, ◌⊎◌, inl, inr}
use mathlib.Core.Bool.{Bool, false}
use mathlib.Core.List.Memᴰ.{cases_cons as in-cons, eq_of_singleton as in_one, head as here, not-nil as in-nil, tail as there}
use mathlib.Core.List.{List, [], ◌∷◌, Memᴰ as In}
use native.Mathlib.Omega.{arith}
use native.Mathlib.Decide.{dec_le, dec_lt, ℕ_discrete}
use native.Mathlib.Nat.{le_refl, le_antisymm}
use lib.ListN.{length}
use borrow.Author.Tests.{eq-eqb, ne_eqb}
use Rattle.refusal.specs.Check.{Decides}
use Rattle.refusal.proofs.Plain.{decides_true, decides_unique, no_decides}
use Rattle.family.specs.Family.{Family, Minimal, Cost, segments, total}
use Rattle.family.specs.Lists.{Neighbours, numbers}
use Rattle.family.specs.Levels
use Rattle.family.specs.Levels.{Chain, end, link, size, samples, levels, holds, ranks}
use Rattle.family.proofs.Counts.{one_yes, one_no, segments_nil, segments_suc, segments_split}
use Rattle.family.proofs.Families.{walk}
use Rattle.family.proofs.Lists.{Rising, rising_down, rising_in, in_tail, same_list, numbers_yes, numbers_no, numbers_rising, numbers_skip, numbers_in, in_numbers}

-- a chain rises from its first sample to its last
module _ {P : ℕ → ℕ → Type 0} {j : ℕ} where
  chain_rising : {i : ℕ} {l : List ℕ} → Chain P j i l → Rising i l
  chain_rising end = (le_refl j, tt)
  chain_rising (link {i = i} {x = x} {l = l} o p C) = (le_refl i, rising_down x (suc i) l o (chain_rising C))

  chain_first : {i : ℕ} {l : List ℕ} → Chain P j i l → In i l
  chain_first end = here refl
  chain_first (link o p C) = here refl

  chain_some : {i : ℕ} {l : List ℕ} → Chain P j i l → 1 ≤ length l
  chain_some end = le_refl 1
  chain_some (link o p C) = omega arith

  chain_last : {i : ℕ} {l : List ℕ} → Chain P j i l → In j l
  chain_last end = here refl
  chain_last (link o p C) = there (chain_last C)

  chain_within : {i : ℕ} {l : List ℕ} → Chain P j i l → (z : ℕ) → In z l → z ≤ j
  chain_within end z h = omega (arith, in_one h)
  chain_within (link o p C) z h = elim (in-cons h) [ inl e ↦ omega (arith, chain_within C _ (chain_first C)) | inr t ↦ chain_within C z t ]

  -- two of its samples with none between are a stretch that P permits
  chain_permits : {i : ℕ} {l : List ℕ} → Chain P j i l → (a b : ℕ) → In a l → In b l → a < b → ((x : ℕ) → a < x → x < b → In x l → ⊥) → P a b
  chain_permits end a b g h o n = absurd (omega (arith, in_one g, in_one h))
  chain_permits (link {i = i} {x = x} {l = l} u p C) a b g h o n =
      let low : (z : ℕ) → In z l → x ≤ z = λ z. rising_in x l (chain_rising C) z in
      elim (in-cons g) [
        | inl e ↦
            (let f : b ≡ x = le_antisymm
            (elim (dec_le b x) [ yes y ↦ y | no y ↦ absurd (n x (omega arith) (omega arith) (there (chain_first C))) ])
            (low b (in_tail i l b (omega arith) h)) in
            rw (e, f) p)
        | inr t ↦ chain_permits C a b t (in_tail i l b (omega (arith, low a t)) h) o (λ z v w k. n z v w (there k))
      ]

from_one : (a b : ℕ) → (1 ≤ a → a ≤ b) → a ≤ b
from_one zero b f = zero-le
from_one (suc a) b f = f (omega arith)

-- the levels that ranks give the samples i to j
module _ (r : ℕ → ℕ) (ℓ : ℕ) where
  pub levels_in : (i j z : ℕ) → i ≤ z → z ≤ j → ℓ ≤ r z → In z (levels r i j ℓ)
  unfolding levels
  levels_in i j z a b h = numbers_in r ℓ (suc (j - i)) i z a (omega arith) h

  pub in_levels : (i j z : ℕ) → i ≤ j → In z (levels r i j ℓ) → (i ≤ z) × (z ≤ j) × (ℓ ≤ r z)
  unfolding levels
  in_levels i j z o h = let t = in_numbers r ℓ (suc (j - i)) i z h in (t.0, omega (arith, t.1), t.2)

  pub levels_rising : (i j : ℕ) → Rising i (levels r i j ℓ)
  unfolding levels
  levels_rising i j = numbers_rising r ℓ (suc (j - i)) i

  levels_end : (j : ℕ) → ℓ ≤ r j → levels r j j ℓ ≡ j ∷ []
  unfolding levels numbers
  levels_end j h = let e : j - j ≡ 0 = omega arith in rw e (numbers_yes r ℓ j 0 h)

  levels_next : (a b j : ℕ) → Neighbours r ℓ a b → b ≤ j → levels r a j ℓ ≡ a ∷ levels r b j ℓ
  unfolding levels
  levels_next a b j N o = numbers_yes r ℓ a (j - a) N.left ∙ ap (λ l. a ∷ l) (numbers_skip r ℓ (j - a) (suc (j - b)) (suc a) b N.order (omega (arith, N.order)) N.between)

  -- a level is one segment exactly when its list is the two ends
  single : (i j : ℕ) → i < j → Neighbours r ℓ i j ↔ (levels r i j ℓ ≡ i ∷ j ∷ [])
  single i j o = (
    λ N. levels_next i j j N (le_refl j) ∙ ap (λ l. i ∷ l) (levels_end j N.right),
    λ e. record {
      order = o;
      left = (in_levels i j i (omega arith) (rw e (here refl))).2;
      right = (in_levels i j j (omega arith) (rw e (there (here refl)))).2;
      between = λ x a b. elim (dec_lt (r x) ℓ) [
        | yes y ↦ y
        | no y ↦ (let h : In x (i ∷ j ∷ []) = rw e at (levels_in i j x (omega arith) (omega arith) (omega arith)) in
            elim (in-cons h) [ inl f ↦ absurd (omega arith) | inr t ↦ absurd (omega (arith, in_one t)) ])
      ];
    },
  )

  numbers_segments : (d i j : ℕ) → i + d ≡ j → segments r ℓ i j ≡ length (numbers r ℓ (suc i) d)
  numbers_segments zero i j e = segments_nil r ℓ i j (omega arith) ∙ unfold numbers in refl
  numbers_segments (suc d) i j e =
      let s = segments_split r ℓ i (suc i) j (omega arith) (omega arith) in
      let t = segments_suc r ℓ i i (le_refl i) in
      let u = segments_nil r ℓ i i (le_refl i) in
      let v = numbers_segments d (suc i) j (omega arith) in
      elim (dec_le ℓ (r (suc i))) [
        | yes y ↦ rw (numbers_yes r ℓ (suc i) d y) (omega (arith, one_yes r ℓ (suc i) y))
        | no y ↦ rw (numbers_no r ℓ (suc i) d (omega arith)) (omega (arith, one_no r ℓ (suc i) (omega arith)))
      ]

  -- they have the same segments
  pub levels_segments : (i j : ℕ) → i ≤ j → ℓ ≤ r i → segments r ℓ i j ≡ length (levels r i j ℓ) - 1
  unfolding levels
  levels_segments i j o h = rw (numbers_yes r ℓ i (j - i) h) (omega (arith, numbers_segments (j - i) i j (omega arith)))

-- and the same total
pub levels_total : (r : ℕ → ℕ) (k i j : ℕ) → i ≤ j → k ≤ r i → total r k i j ≡ size (levels r i j) k
unfolding total size
levels_total r zero i j o h = refl
levels_total r (suc k) i j o h = ap₂ ◌+◌ (levels_segments r (suc k) i j o h) (levels_total r k i j o (omega arith))

size_same : (L M : ℕ → List ℕ) (k : ℕ) → ((ℓ : ℕ) → 1 ≤ ℓ → ℓ ≤ k → L ℓ ≡ M ℓ) → size L k ≡ size M k
unfolding size
size_same L M zero e = refl
size_same L M (suc k) e = rw (e (suc k) (omega arith) (le_refl (suc k)), size_same L M k (λ ℓ a b. e ℓ a (omega arith)))

holds_in : (l : List ℕ) (x : ℕ) → (In x l × (holds l x ≡ 1)) ⊎ ((In x l → ⊥) × (holds l x ≡ 0))
unfolding holds
holds_in [] x = inr (in-nil, refl)
holds_in (a ∷ l) x = elim (ℕ_discrete x a) [
  | yes e ↦ inl (here e, rw (eq-eqb x a e))
  | no n ↦ elim (holds_in l x) [
    | inl t ↦ inl (there t.0, rw (ne_eqb x a n) t.1)
    | inr t ↦ inr (λ h. elim (in-cons h) [ inl e ↦ n e | inr g ↦ t.0 g ], rw (ne_eqb x a n) t.1)
  ]
]

-- of levels each in the one below, level ℓ is the samples of rank at least ℓ
pub ranks_in : (L : ℕ → List ℕ) (x k : ℕ) → ((ℓ : ℕ) → 1 ≤ ℓ → ℓ < k → In x (L (suc ℓ)) → In x (L ℓ))
    → (ranks L k x ≤ k) × ((ℓ : ℕ) → 1 ≤ ℓ → ℓ ≤ k → ℓ ≤ ranks L k x ↔ In x (L ℓ))
unfolding ranks
ranks_in L x zero n = (zero-le, λ ℓ a b. absurd (omega arith))
ranks_in L x (suc k) n =
    let t = ranks_in L x k (λ ℓ a b. n ℓ a (omega arith)) in
    elim (holds_in (L (suc k)) x) [
      | inl y ↦
          (let full : k ≤ ranks L k x = from_one k (ranks L k x) (λ p. (t.1 k p (le_refl k)).1 (n k p (le_refl (suc k)) y.0)) in (
            omega (arith, y.1, t.0),
            λ ℓ a b. (
              λ h. elim (dec_le ℓ k) [ yes p ↦ (t.1 ℓ a p).0 (omega arith) | no p ↦ (let e : ℓ ≡ suc k = omega arith in rw e y.0) ],
              λ h. omega (arith, y.1),
            ),
          ))
      | inr y ↦ (
        omega (arith, y.1, t.0),
        λ ℓ a b. elim (dec_le ℓ k) [
          | yes p ↦ (λ h. (t.1 ℓ a p).0 (omega (arith, y.1)), λ h. omega (arith, (t.1 ℓ a p).1 h))
          | no p ↦ (let e : ℓ ≡ suc k = omega arith in (λ h. absurd (omega (arith, y.1, t.0)), λ h. absurd (y.0 (rw e at h))))
        ],
      )
    ]

-- the ranks of the levels of ranks up to k are those ranks
pub ranks_levels : (r : ℕ → ℕ) (k i j x : ℕ) → i ≤ j → i ≤ x → x ≤ j → r x ≤ k → ranks (levels r i j) k x ≡ r x
ranks_levels r k i j x o u v h =
    let t = ranks_in (levels r i j) x k (λ ℓ a b g. levels_in r ℓ i j x u v (omega (arith, (in_levels r (suc ℓ) i j x o g).2))) in
    le_antisymm
    (from_one (ranks (levels r i j) k x) (r x) (λ y. (in_levels r (ranks (levels r i j) k x) i j x o ((t.1 (ranks (levels r i j) k x) y t.0).0 (le_refl _))).2))
    (from_one (r x) (ranks (levels r i j) k x) (λ y. (t.1 (r x) y h).1 (levels_in r (r x) i j x u v (le_refl (r x)))))

module _ (Permit : ℕ → ℕ → ℕ → Type 0) (k i j : ℕ) (L : ℕ → List ℕ) (F : Levels.Family Permit k i j L) where
  family_in : (ℓ x : ℕ) → 1 ≤ ℓ → ℓ ≤ k → ℓ ≤ ranks L k x ↔ In x (L ℓ)
  family_in ℓ x a b = (ranks_in L x k (λ ℓ u v. F.nested ℓ x u v)).1 ℓ a b

  -- the ranks of a family give back its levels
  pub levels_ranks : i ≤ j → (ℓ : ℕ) → 1 ≤ ℓ → ℓ ≤ k → levels (ranks L k) i j ℓ ≡ L ℓ
  levels_ranks o ℓ a b =
      let C = F.chain ℓ a b in
      same_list (levels (ranks L k) i j ℓ) (L ℓ) i i (levels_rising (ranks L k) ℓ i j) (chain_rising C) (λ z. (
        λ h. (family_in ℓ z a b).0 (in_levels (ranks L k) ℓ i j z o h).2,
        λ h. levels_in (ranks L k) ℓ i j z (rising_in i (L ℓ) (chain_rising C) z h) (chain_within C z h) ((family_in ℓ z a b).1 h),
      ))

  ranks_first : k ≤ ranks L k i
  ranks_first = from_one k (ranks L k i) (λ y. (family_in k i y (le_refl k)).1 (chain_first (F.chain k y (le_refl k))))

  -- its segments
  pub ranks_segments : i ≤ j → (ℓ : ℕ) → 1 ≤ ℓ → ℓ ≤ k → segments (ranks L k) ℓ i j ≡ length (L ℓ) - 1
  ranks_segments o ℓ a b = levels_segments (ranks L k) ℓ i j o (omega (arith, ranks_first)) ∙ ap (λ l. length l - 1) (levels_ranks o ℓ a b)

  -- and its total
  pub ranks_total : i ≤ j → total (ranks L k) k i j ≡ size L k
  ranks_total o = levels_total (ranks L k) k i j o ranks_first ∙ size_same (levels (ranks L k) i j) L k (levels_ranks o)

  samples_by : (h : ℕ) → h ≤ k → samples L h ≡ size L h + h
  unfolding samples size
  samples_by zero b = refl
  samples_by (suc h) b = omega (arith, chain_some (F.chain (suc h) (omega arith) b), samples_by h (omega arith))

-- a family is minimal exactly when none has fewer samples
pub minimal_samples : (Permit : ℕ → ℕ → ℕ → Type 0) (k i j : ℕ) (L : ℕ → List ℕ)
    → Levels.Minimal Permit k i j L ↔ (Levels.Family Permit k i j L × ((M : ℕ → List ℕ) → Levels.Family Permit k i j M → samples L k ≤ samples M k))
minimal_samples Permit k i j L = (
  λ M. (M.family, λ K G. omega (arith, M.least K G, samples_by Permit k i j L M.family k (le_refl k), samples_by Permit k i j K G k (le_refl k))),
  λ t. record { family = t.0; least = λ K G. omega (arith, t.1 K G, samples_by Permit k i j L t.0 k (le_refl k), samples_by Permit k i j K G k (le_refl k)) },
)

-- a test `perm` that decides what is permitted
module _ (Permit : ℕ → ℕ → ℕ → Type 0) (perm : ℕ → ℕ → ℕ → Bool) (m n : ℕ)
    (decides : (k i j : ℕ) → 1 ≤ k → k ≤ m → i < j → j < n → Decides (Permit k i j) (perm k i j)) where
  module _ (k i j : ℕ) (top : k ≤ m) (o : i ≤ j) (within : j < n) where
    -- ranks with the levels of a family are one
    family_by : (r : ℕ → ℕ) (L : ℕ → List ℕ) → Levels.Family Permit k i j L → ((ℓ x : ℕ) → 1 ≤ ℓ → ℓ ≤ k → i ≤ x → x ≤ j → ℓ ≤ r x ↔ In x (L ℓ)) → Family perm k i j r
    family_by r L F e = record {
      first = from_one k (r i) (λ y. (e k i y (le_refl k) (le_refl i) o).1 (chain_first (F.chain k y (le_refl k))));
      last = from_one k (r j) (λ y. (e k j y (le_refl k) o (le_refl j)).1 (chain_last (F.chain k y (le_refl k))));
      permitted = λ ℓ p q a b u v N.
          let w : p < q = N.order in
          decides_true (perm ℓ p q) (decides ℓ p q a (omega arith) w (omega arith))
          (chain_permits (F.chain ℓ a b) p q ((e ℓ p a b u (omega arith)).0 N.left) ((e ℓ q a b (omega arith) v).0 N.right) w
          (λ x y z h. absurd (omega (arith, N.between x y z, (e ℓ x a b (omega arith) (omega arith)).1 h))));
    }

    -- ranks are a family exactly when their levels are
    pub family_levels : (r : ℕ → ℕ) → Family perm k i j r ↔ Levels.Family Permit k i j (levels r i j)
    family_levels r = (
      λ F. record {
        chain = λ ℓ a b. walk r ℓ j (λ p. i ≤ p → Chain (Permit ℓ) j p (levels r p j ℓ)) (omega (arith, F.last))
            (λ u. rw (levels_end r ℓ j (omega (arith, F.last))) end)
            (λ p q N v C u.
            let w : p < q = N.order in
            rw (levels_next r ℓ p q j N v) (link w ((decides ℓ p q a (omega arith) w (omega arith)).right (F.permitted ℓ p q a b u v N)) (C (omega arith))))
            i o (omega (arith, F.first)) (le_refl i);
        nested = λ ℓ x a b h. (let t = in_levels r (suc ℓ) i j x o h in levels_in r ℓ i j x t.0 t.1 (omega (arith, t.2)));
      },
      λ F. family_by r (levels r i j) F (λ ℓ x a b u v. (levels_in r ℓ i j x u v, λ h. (in_levels r ℓ i j x o h).2)),
    )

    -- the ranks of a family are one
    pub family_ranks : (L : ℕ → List ℕ) → Levels.Family Permit k i j L → Family perm k i j (ranks L k)
    family_ranks L F = family_by (ranks L k) L F (λ ℓ x a b u v. family_in Permit k i j L F ℓ x a b)

  -- v is the cost in one form exactly when in the other
  pub cost_levels : (k i j v : ℕ) → 1 ≤ k → k ≤ m → i < j → j < n → Cost perm k i j v ↔ Levels.Cost Permit k i j v
  cost_levels k i j v a b o w =
      let D = decides k i j a b o w in
      let u : i ≤ j = omega arith in (
        λ C. record {
          refused = λ p. C.refused (decides_unique (perm k i j) false D (no_decides p));
          some = λ p. (let t = C.some (decides_true (perm k i j) D p) in
              (levels t.0 i j, (family_levels k i j b u w t.0).0 t.1, (single t.0 k i j o).0 t.2, (sym (levels_total t.0 k i j u t.1.first) ∙ t.3)));
          every = λ p L F e. omega (
            arith,
            C.every (decides_true (perm k i j) D p) (ranks L k) (family_ranks k i j b u w L F) ((single (ranks L k) k i j o).1 (levels_ranks Permit k i j L F u k a (le_refl k) ∙ e)),
            ranks_total Permit k i j L F u,
          );
        },
        λ C. record {
          refused = λ e. C.refused (D.wrong e);
          some = λ e. (let t = C.some (D.right e) in (
            ranks t.0 k,
            family_ranks k i j b u w t.0 t.1,
            (single (ranks t.0 k) k i j o).1 (levels_ranks Permit k i j t.0 t.1 u k a (le_refl k) ∙ t.2),
            (ranks_total Permit k i j t.0 t.1 u ∙ t.3),
          ));
          every = λ e r F N. omega (arith, C.every (D.right e) (levels r i j) ((family_levels k i j b u w r).0 F) ((single r k i j o).0 N), levels_total r k i j u F.first);
        },
      )

  module _ (some : 0 < n) where
    minimal_by : (r : ℕ → ℕ) (L : ℕ → List ℕ) → Family perm m 0 (n - 1) r ↔ Levels.Family Permit m 0 (n - 1) L
        → (Family perm m 0 (n - 1) r → total r m 0 (n - 1) ≡ size L m) → Minimal perm m n r ↔ Levels.Minimal Permit m 0 (n - 1) L
    minimal_by r L f e = (
      λ M. record {
        family = f.0 M.family;
        least = λ K G. omega (
          arith,
          e M.family,
          M.least_total (ranks K m) (family_ranks m 0 (n - 1) (le_refl m) zero-le (omega arith) K G),
          ranks_total Permit m 0 (n - 1) K G zero-le,
        );
      },
      λ M. record {
        family = f.1 M.family;
        least_total = λ s G. omega (
          arith,
          e (f.1 M.family),
          M.least (levels s 0 (n - 1)) ((family_levels m 0 (n - 1) (le_refl m) zero-le (omega arith) s).0 G),
          levels_total s m 0 (n - 1) zero-le G.first,
        );
      },
    )

    -- ranks are minimal exactly when their levels are
    pub minimal_levels : (r : ℕ → ℕ) → Minimal perm m n r ↔ Levels.Minimal Permit m 0 (n - 1) (levels r 0 (n - 1))
    minimal_levels r = minimal_by r (levels r 0 (n - 1)) (family_levels m 0 (n - 1) (le_refl m) zero-le (omega arith) r) (λ F. levels_total r m 0 (n - 1) zero-le F.first)

    -- a family is minimal exactly when its ranks are
    pub minimal_ranks : (L : ℕ → List ℕ) → Levels.Family Permit m 0 (n - 1) L → Minimal perm m n (ranks L m) ↔ Levels.Minimal Permit m 0 (n - 1) L
    minimal_ranks L F =
        minimal_by (ranks L m) L (λ G. F, λ G. family_ranks m 0 (n - 1) (le_refl m) zero-le (omega arith) L F) (λ G. ranks_total Permit m 0 (n - 1) L F zero-le)
