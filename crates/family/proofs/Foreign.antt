-- Any table whose cells of adjacent samples are as check 5 has them: following `next` is the best path, so the read-out is the one by best paths (`readout_best`), and ranks read by best paths
-- are the read-out (`best_readout`). Assumes nothing.
use Prim.Native.Nat.{ℕ, zero, suc, ◌+◌, ◌-◌, ◌*◌, ◌≤◌, ◌<◌, zero-le}
use mathlib.Core.Path.{◌≡◌, refl, sym, ◌∙◌, ap}
use mathlib.Core.Logic.{◌⊎◌, inl, inr}
use mathlib.Core.List.{List, [], ◌∷◌}
use native.Mathlib.Omega.{arith}
use native.Mathlib.Decide.{dec_le, dec_lt}
use native.Mathlib.Nat.{le_refl, le_antisymm}
use mathlib.Core.Bool.{Bool, true, false, cond}
use Rattle.refusal.specs.Check.{Decides}
use Rattle.family.specs.Family.{least, next, below, value, Read, Readout}
use Rattle.family.specs.Lists.{none, Neighbours, numbers, Larger}
use Rattle.family.specs.Path.{Path, done, step, Best, LeastSum, Written, ReadsBest}
use Rattle.family.proofs.Paths.{least_end, least_next, least_lt, least_bound, next_after, next_within, path_least}
use Rattle.family.proofs.Checks.{near_small}
use Rattle.family.proofs.Families.{walk}
use Rattle.family.proofs.Ranks.{read_flat}
use Rattle.family.proofs.Ties.{readout_unique}
use Rattle.family.proofs.Lists.{larger_both, numbers_yes, numbers_skip}

-- there is one best list
pub best_unique : (c : ℕ → ℕ → ℕ) (p j : ℕ) (l k : List ℕ) → Best c p j l → Best c p j k → l ≡ k
best_unique c p j l k B D = go (B.tie k (rw e D.path)) (D.tie l (rw (sym e) B.path))
  where
    e : B.sum ≡ D.sum
    e = le_antisymm (B.least_sum k D.sum D.path) (D.least_sum l B.sum B.path)

    go : (l ≡ k) ⊎ Larger l k → (k ≡ l) ⊎ Larger k l → l ≡ k
    go (inl f) g = f
    go (inr f) (inl g) = sym g
    go (inr f) (inr g) = absurd (larger_both l k f g)

module _ (c : ℕ → ℕ → ℕ) (j : ℕ) where
  -- the samples l after p are those of the chosen path from p to j
  unfoldable pub Follows : ℕ → List ℕ → Type 0
  Follows p [] = p ≡ j
  Follows p (q ∷ l) = (p < j) × (q ≡ next c p j) × Follows q l

  follow : (d p : ℕ) → p ≤ j → j ≤ p + d → (l : List ℕ) × Follows p l
  unfolding Follows
  follow zero p a b = ([], omega arith)
  follow (suc d) p a b = elim (dec_lt p j) [
    | no n ↦ ([], omega arith)
    | yes y ↦
        (let u = next_after c j p y in
        let v = next_within c j p y in
        let t = follow d (next c p j) v (omega arith) in
        (next c p j ∷ t.0, (y, refl, t.1)))
  ]

  follows_path : (p : ℕ) (l : List ℕ) → least c p j < none → Follows p l → Path c j p (p ∷ l) (least c p j)
  unfolding Follows
  follows_path p [] h e = rw (e, least_end c j) done
  follows_path p (q ∷ l) h (y, e, o) =
      let w : least c p j ≡ c p q + least c q j = rw e (least_next c j p y) in
      let u : p < q = rw e (next_after c j p y) in
      rw w (step u (omega arith) (follows_path q l (omega arith) o))

  -- a path that begins before q
  sooner : {p v : ℕ} {k : List ℕ} → Path c j p k v → (q : ℕ) (l : List ℕ) → p < q → Larger (q ∷ l) k
  sooner done q l h = inl h
  sooner (step a b t) q l h = inl h

  tie_more : (p q : ℕ) (l k : List ℕ) → (q ∷ l ≡ k) ⊎ Larger (q ∷ l) k → (p ∷ q ∷ l ≡ p ∷ k) ⊎ Larger (p ∷ q ∷ l) (p ∷ k)
  tie_more p q l k (inl e) = inl (ap (λ u. p ∷ u) e)
  tie_more p q l k (inr h) = inr (inr (refl, h))

  follows_tie : {p v : ℕ} {k : List ℕ} → Path c j p k v → v ≡ least c p j → (l : List ℕ) → Follows p l → (p ∷ l ≡ k) ⊎ Larger (p ∷ l) k
  unfolding Follows
  follows_tie done e [] o = inl refl
  follows_tie done e (x ∷ l) (y, f, o) = absurd (omega arith)
  follows_tie (step {p = p} {q = q} a h t) e [] o = let z = path_least c t in absurd (omega arith)
  follows_tie (step {p = p} {q = q} {v = v} {l = k} a h t) e (x ∷ l) (y, f, o) =
      let z = path_least c t in
      let w : least c p j ≡ c p x + least c x j = rw f (least_next c j p y) in
      elim (dec_lt q x) [
        | yes u ↦ tie_more p x l k (inr (sooner t x l u))
        | no u ↦ elim (dec_lt x q) [
          | yes g ↦ absurd (omega (arith, least_lt c j p y q (rw (sym f) g) z.0))
          | no g ↦
              (let s : x ≡ q = omega arith in
              let w' : least c p j ≡ c p q + least c q j = rw s at w in
              tie_more p x l k (rw s (follows_tie t (omega arith) l (rw s at o))))
        ]
      ]

  -- following `next` gives the best path
  pub follows_best : (p : ℕ) (l : List ℕ) → least c p j < none → Follows p l → Best c p j (p ∷ l)
  follows_best p l h o = record {
    sum = least c p j;
    path = follows_path p l h o;
    least_sum = λ k v t. (path_least c t).1;
    tie = λ k t. follows_tie t refl l o;
  }

  -- and the best path follows it
  pub best_follows : (p : ℕ) (l : List ℕ) → p ≤ j → least c p j < none → Best c p j (p ∷ l) → Follows p l
  best_follows p l a h B =
      let t = follow (j - p) p a (omega arith) in
      let e : p ∷ l ≡ p ∷ t.0 = best_unique c p j (p ∷ l) (p ∷ t.0) B (follows_best p t.0 h t.1) in
      let f : l ≡ t.0 = cc in
      rw f t.1

  -- `least` is the least sum of a path
  pub least_sum : (p : ℕ) → p ≤ j → least c p j < none → LeastSum c p j (least c p j)
  least_sum p a h = let t = follow (j - p) p a (omega arith) in record { some = (p ∷ t.0, follows_path p t.0 h t.1); every = λ l v o. (path_least c o).1 }

  -- there is a best path where the cells of adjacent samples are at most k
  pub best_some : (k p : ℕ) → p ≤ j → ((x : ℕ) → p ≤ x → x < j → c x (suc x) ≤ k) → k * (j - p) < none → (l : List ℕ) × Follows p l × Best c p j (p ∷ l)
  best_some k p a near room =
      let t = follow (j - p) p a (omega arith) in
      (t.0, t.1, follows_best p t.0 (omega (arith, least_bound c k (j - p) p j near (omega arith))) t.1)

-- each step of level ℓ between p and q is the chosen one to q
abbrev Steps : (ℕ → ℕ → ℕ) → (ℕ → ℕ) → ℕ → ℕ → ℕ → Type 0
Steps c r ℓ q p = (a b : ℕ) → p ≤ a → b ≤ q → Neighbours r ℓ a b → b ≡ next c a q

-- the numbers of a level from its member p to its member q, and its steps
module _ (c : ℕ → ℕ → ℕ) (r : ℕ → ℕ) (ℓ q : ℕ) (last : ℓ ≤ r q) where
  numbers_next : (a b : ℕ) → Neighbours r ℓ a b → b ≤ q → numbers r ℓ (suc a) (q - a) ≡ b ∷ numbers r ℓ (suc b) (q - b)
  numbers_next a b N v =
      let o : a < b = N.order in
      numbers_skip r ℓ (q - a) (suc (q - b)) (suc a) b o (omega arith) (λ y u w. N.between y u w) ∙ numbers_yes r ℓ b (q - b) N.right

  numbers_last : numbers r ℓ (suc q) (q - q) ≡ []
  unfolding numbers
  numbers_last = let e : q - q ≡ 0 = omega arith in rw e

  steps_follow : (p : ℕ) → Steps c r ℓ q p → p ≤ q → ℓ ≤ r p → Follows c q p (numbers r ℓ (suc p) (q - p))
  unfolding Follows
  steps_follow p S o h = walk r ℓ q (λ a. p ≤ a → Follows c q a (numbers r ℓ (suc a) (q - a))) last
      (λ u. rw numbers_last refl)
      (λ a b N v f u. let w : a < b = N.order in rw (numbers_next a b N v) (omega arith, S a b u v N, f (omega arith)))
      p o h (le_refl p)

  follow_steps : (p : ℕ) → p ≤ q → ℓ ≤ r p → Follows c q p (numbers r ℓ (suc p) (q - p)) → Steps c r ℓ q p
  unfolding Follows
  follow_steps = walk r ℓ q (λ p. Follows c q p (numbers r ℓ (suc p) (q - p)) → Steps c r ℓ q p) last
      (λ f a b u v N. absurd (omega (arith, N.order)))
      (λ p x M w more f a b u v N.
      let o : p < x = M.order in
      let o' : a < b = N.order in
      let g = rw (numbers_next p x M w) at f in
      elim (dec_le x a) [
        | yes y ↦ more g.2 a b y v N
        | no y ↦ elim (dec_lt p a) [
          | yes z ↦ absurd (omega (arith, M.between a z (omega arith), N.left))
          | no z ↦
              (let e : a ≡ p = omega arith in
              let h : b ≤ x = elim (dec_le b x) [ yes s ↦ s | no s ↦ absurd (omega (arith, N.between x (omega arith) (omega arith), M.right)) ] in
              let k : x ≤ b = elim (dec_le x b) [ yes s ↦ s | no s ↦ absurd (omega (arith, M.between b (omega arith) (omega arith), N.right)) ] in
              let s : b ≡ x = omega arith in
              rw (e, s) g.1)
        ]
      ])

  module _ (p : ℕ) (o : p ≤ q) (first : ℓ ≤ r p) (small : least c p q < none) where
    steps_best : Steps c r ℓ q p → Best c p q (numbers r ℓ p (suc (q - p)))
    steps_best S = rw (numbers_yes r ℓ p (q - p) first) (follows_best c q p (numbers r ℓ (suc p) (q - p)) small (steps_follow p S o first))

    best_steps : Best c p q (numbers r ℓ p (suc (q - p))) → Steps c r ℓ q p
    best_steps B = follow_steps p o first (best_follows c q p (numbers r ℓ (suc p) (q - p)) o small (rw (numbers_yes r ℓ p (q - p) first) at B))

-- what is read over the levels 1 to k, of level k and of a level ℓ below it: the converse of `read_flat`
read_top : (c : ℕ → ℕ → ℕ → ℕ) (r : ℕ → ℕ) (k p q : ℕ) → 1 ≤ k → Read c k p q r → Steps (c k) r k q p
unfolding Read
read_top c r zero p q one R = absurd (omega arith)
read_top c r (suc k) p q one R = λ a b u v N. (R a b u v N).0

module _ (c : ℕ → ℕ → ℕ → ℕ) (r : ℕ → ℕ) (ℓ u v : ℕ) (one : 1 ≤ ℓ) (N : Neighbours r (suc ℓ) u v) where
  read_level : (k p q : ℕ) → ℓ < k → p ≤ u → v ≤ q → k ≤ r p → k ≤ r q → Read c k p q r → Steps (c ℓ) r ℓ v u
  unfolding Read
  read_level zero p q h x y f g R = absurd (omega arith)
  read_level (suc k) p q h x y f g R = elim (dec_lt ℓ k) [
    | no d ↦ (let e : k ≡ ℓ = omega arith in read_top c r ℓ u v one (rw e at R u v x y N).1)
    | yes d ↦ walk r (suc k) q (λ s. p ≤ s → s ≤ u → Steps (c ℓ) r ℓ v u) g
        (λ w z. absurd (omega (arith, N.order)))
        (λ s t M w more z o. elim (dec_le t u) [
          | yes e ↦ more (omega (arith, M.order)) e
          | no e ↦
              (let inside : v ≤ t = elim (dec_le v t) [ yes i ↦ i | no i ↦ absurd (omega (arith, N.between t (omega arith) (omega arith), M.right)) ] in
              read_level k s t d o inside (omega (arith, M.left)) (omega (arith, M.right)) (R s t z w M).1)
        ])
        p (omega (arith, N.order)) f (le_refl p) x
  ]

-- a table whose cells of adjacent samples are as check 5 has them
pub value_written : (Permit : ℕ → ℕ → ℕ → Type 0) (perm : ℕ → ℕ → ℕ → Bool) (c : ℕ → ℕ → ℕ → ℕ) (m n : ℕ)
    → ((k x : ℕ) → 1 ≤ k → k ≤ m → suc x < n → c k x (suc x) ≤ k) → m * n < none
    → (k i j : ℕ) → 1 ≤ k → k ≤ m → i < j → j < n → Decides (Permit k i j) (perm k i j) → Written Permit c k i j (value perm c k i j)
unfolding value below
value_written Permit perm c m n near room zero i j a b o h D = absurd (omega arith)
value_written Permit perm c m n near room (suc k) i j a b o h D = go (perm (suc k) i j) refl
  where
    sums : (ℓ : ℕ) → 1 ≤ ℓ → k ≡ ℓ → LeastSum (c ℓ) i j (below c k i j)
    sums zero e f = absurd (omega arith)
    sums (suc ℓ) e f = rw f (least_sum (c (suc ℓ)) j i (omega arith) (near_small c m n near room (suc ℓ) i j (omega arith) (omega arith) h))

    go : (t : Bool) → perm (suc k) i j ≡ t → Written Permit c (suc k) i j (cond (perm (suc k) i j) (suc (below c k i j)) none)
    go true e = record {
      refused = λ p. absurd (p (D.right e));
      finest = λ p f. (let z : k ≡ 0 = omega arith in rw (e, z) refl);
      above = λ p ℓ x f. (below c k i j, sums ℓ x (omega arith), rw e refl);
    }
    go false e = record { refused = λ p. rw e refl; finest = λ p. absurd (D.wrong e p); above = λ p. absurd (D.wrong e p) }

-- and nothing else may be written
pub written_one : (Permit : ℕ → ℕ → ℕ → Type 0) (c : ℕ → ℕ → ℕ → ℕ) (k i j v w : ℕ) (t : Bool) → 1 ≤ k → Decides (Permit k i j) t
    → Written Permit c k i j v → Written Permit c k i j w → v ≡ w
written_one Permit c zero i j v w t a D F G = absurd (omega arith)
written_one Permit c (suc k) i j v w false a D F G = F.refused (D.wrong refl) ∙ sym (G.refused (D.wrong refl))
written_one Permit c (suc zero) i j v w true a D F G = F.finest (D.right refl) refl ∙ sym (G.finest (D.right refl) refl)
written_one Permit c (suc (suc k)) i j v w true a D F G =
    let x = F.above (D.right refl) (suc k) (omega arith) refl in
    let y = G.above (D.right refl) (suc k) (omega arith) refl in
    omega (arith, x.2, y.2, x.1.every y.1.some.0 y.0 y.1.some.1, y.1.every x.1.some.0 x.0 x.1.some.1)

module _ (c : ℕ → ℕ → ℕ → ℕ) (m n : ℕ) (near : (k x : ℕ) → 1 ≤ k → k ≤ m → suc x < n → c k x (suc x) ≤ k) (room : m * n < none) (one : 1 ≤ m) (some : 0 < n) where
  small : (k i j : ℕ) → 1 ≤ k → k ≤ m → i ≤ j → j < n → least (c k) i j < none
  small zero i j a b o h = absurd (omega arith)
  small (suc k) i j a b o h = unfold below in near_small c m n near room (suc k) i j b o h

  all : suc (n - 1 - 0) ≡ n
  all = omega arith

  -- the read-out is read by best paths
  pub readout_best : (r : ℕ → ℕ) → Readout c m n r → ReadsBest c m n r
  readout_best r R =
      let f : m ≤ r 0 = omega (arith, R.first) in
      let g : m ≤ r (n - 1) = omega (arith, R.last) in
      record {
        first = R.first;
        last = R.last;
        highest = R.highest;
        top = rw all at (steps_best (c m) r m (n - 1) g 0 zero-le f (small m 0 (n - 1) one (le_refl m) zero-le (omega arith)) (read_top c r m 0 (n - 1) one R.read));
        lower = λ ℓ u v a b h N.
            let o : u < v = N.order in
            steps_best (c ℓ) r ℓ v (omega (arith, N.right)) u (omega arith) (omega (arith, N.left)) (small ℓ u v a (omega arith) (omega arith) h)
            (read_level c r ℓ u v a N m 0 (n - 1) b zero-le (omega arith) f g R.read);
      }

  -- and what is read by best paths is the read-out
  pub best_readout : (r : ℕ → ℕ) → ReadsBest c m n r → Readout c m n r
  best_readout r B =
      let f : m ≤ r 0 = omega (arith, B.first) in
      let g : m ≤ r (n - 1) = omega (arith, B.last) in
      record {
        first = B.first;
        last = B.last;
        highest = B.highest;
        read = read_flat c m 0 (n - 1) r
            (best_steps (c m) r m (n - 1) g 0 zero-le f (small m 0 (n - 1) one (le_refl m) zero-le (omega arith)) (rw all B.top))
            (λ ℓ u v a b x y N.
            let o : u < v = N.order in
            best_steps (c ℓ) r ℓ v (omega (arith, N.right)) u (omega arith) (omega (arith, N.left)) (small ℓ u v a (omega arith) (omega arith) (omega arith)) (B.lower ℓ u v a b (omega arith) N));
      }

  -- so it is one
  pub reads_unique : (r s : ℕ → ℕ) → ReadsBest c m n r → ReadsBest c m n s → (x : ℕ) → x < n → r x ≡ s x
  reads_unique r s R S = readout_unique c m n r s (best_readout r R) (best_readout s S)
