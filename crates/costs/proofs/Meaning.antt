-- What the walk writes, in the paper's words: the values of the named cells in any table that passes check 5, and demand 3's step: where every cell was
-- the cost of its stretch, it is again after a sample is put. Assumes nothing.
use mathlib.Core.Path.{◌≡◌, refl}
use mathlib.Core.Logic.{◌↔◌, ⊎_elim}
use mathlib.Core.List.{List, [], ◌∷◌, Memᴰ as In}
use Prim.Native.Nat.{ℕ, zero, suc, ◌+◌, ◌-◌, ◌≤◌, ◌<◌}
use native.Mathlib.Omega.{arith}
use lib.ListN.{get_or}
use Rattle.refusal.specs.Check.{Decides}
use Rattle.sample.specs.Mark.{Marked}
use Rattle.sample.specs.declared.Sample.{Sample}
use Rattle.sample.specs.Samples.{Samples, store}
use Rattle.sample.specs.Sweep.{Ranged}
use Rattle.sample.proofs.Coordinate.{fewer_ranged}
use Rattle.family.specs.Family.{value, Genuine}
use Rattle.family.specs.Levels as Levels
use Rattle.family.specs.Fine.{Fine}
use Rattle.family.specs.Path.{done, step, Written}
use Rattle.family.proofs.Checks.{room as fits, fine_near, checked_most}
use Rattle.family.proofs.Foreign.{value_written, written_one}
use Rattle.geometry.proofs.Permits.{marked_stops}
use Rattle.geometry.proofs.Spoiler.{permits_decided}
use Rattle.family.proofs.Kept.{family_holds}
use Rattle.family.proofs.Local.{Without, with?}
use Rattle.family.proofs.Promise.{genuine_meant}
use Rattle.table.specs.Table.{cell}
use Rattle.costs.specs.Costs.{Permit, Named, CellsWritten}
use Rattle.permission.specs.Finest.{perm}
use Rattle.costs.specs.Walk.{Rewritten}
use Rattle.permission.proofs.Perm.{perm_adjacent}
use Rattle.costs.proofs.Exit.{named_kept, rewritten_checked, rewritten_unique, Others, put_genuine}

module _ (xs : Samples) (tols : List ℕ) (m n : ℕ) (ranged : Ranged xs n) where
  -- the test decides each stretch of the n samples
  pub permissions : (k i j : ℕ) → 1 ≤ k → k ≤ m → i < j → j < n → Decides (Permit xs tols k i j) (perm xs tols k i j)
  unfolding perm
  permissions k i j a b o h = permits_decided xs i j (get_or tols (k - 1) 0) (fewer_ranged (omega arith) ranged) o

  -- a table is genuine exactly when every cell is its cost
  pub genuine_is : m ≤ 16 → n ≤ 256 → (c : ℕ → ℕ → ℕ → ℕ) → Genuine (perm xs tols) c m n ↔ Levels.Costs (Permit xs tols) c m n
  genuine_is a b c = genuine_meant (Permit xs tols) (perm xs tols) (perm_adjacent xs tols) m n (fits m n a b) permissions c

-- in every family of the samples a marked one is in every level, since no permitted stretch passes over it
pub marked_held : (xs : Samples) (tols : List ℕ) {k i j : ℕ} {L : ℕ → List ℕ} (q : ℕ) → Marked xs.marks q → Levels.Family (Permit xs tols) k i j L → i ≤ q → q ≤ j
    → (ℓ : ℕ) → 1 ≤ ℓ → ℓ ≤ k → In q (L ℓ)
marked_held xs tols q m = family_holds q (λ ℓ x y a b p. marked_stops m a b p)

-- what is written into the cell of neighbours is at most its level, where the one below is
written_near : (P : ℕ → ℕ → ℕ → Type 0) (c : ℕ → ℕ → ℕ → ℕ) (k x w : ℕ) → suc k ≤ 16 → P (suc k) x (suc x) → (1 ≤ k → c k x (suc x) ≤ k)
    → Written P c (suc k) x (suc x) w → w ≤ suc k
written_near P c zero x w b p under W = omega (arith, W.finest p refl)
written_near P c (suc k) x w b p under W =
    let u = under (omega arith) in
    let s = W.above p (suc k) (omega arith) refl in
    omega (arith, s.2, s.1.every (x ∷ suc x ∷ []) (c (suc k) x (suc x) + 0) (step (omega arith) (omega arith) done))

-- the samples xs, of which n are held, and a table t whose cells of stretches without v pass check 5
module _ (N : ℕ) (xs : Samples) (tols : List ℕ) (m v n : ℕ) (t : List ℕ) (few : m ≤ 16) (small : n ≤ 256) (room : n ≤ N) (ranged : Ranged xs n)
    (fine : (k i j : ℕ) → 1 ≤ k → k ≤ m → i < j → j < n → Without v i j → Fine k i j (cell t N k i j)) where
  -- the value of a named cell is what the paper says, where the cells of neighbours are at most their level
  value_is : (e : List ℕ) → ((k x : ℕ) → 1 ≤ k → k ≤ m → suc x < n → cell e N k x (suc x) ≤ k)
      → (k i j : ℕ) → Named m v n k i j → Written (Permit xs tols) (cell e N) k i j (value (perm xs tols) (cell e N) k i j)
  value_is e near k i j s = value_written (Permit xs tols) (perm xs tols) (cell e N) m n near (fits m n few small) k i j s.0 s.1 s.4 s.5
      (permissions xs tols m n ranged k i j s.0 s.1 s.4 s.5)

  -- they are at most their level, found or written
  near : (e : List ℕ) → CellsWritten N (Permit xs tols) m v n t e → (k x : ℕ) → 1 ≤ k → k ≤ m → suc x < n → cell e N k x (suc x) ≤ k
  near e w zero x a b h = absurd (omega arith)
  near e w (suc k) x a b h = ⊎_elim
      (λ y. omega (
        arith,
        named_kept N (cell e N) m v n room t e (record { same = w.same; named = λ k i j s. refl; other = w.other }) (suc k) x (suc x) a b (omega arith) h y,
        fine_near (suc k) x (cell t N (suc k) x (suc x)) a (fine (suc k) x (suc x) a b (omega arith) h y),
      ))
      (λ y. written_near (Permit xs tols) (cell e N) k x (cell e N (suc k) x (suc x)) (omega arith)
      ((permissions xs tols m n ranged (suc k) x (suc x) a b (omega arith) h).right (perm_adjacent xs tols (suc k) x))
      (λ o. near e w k x o (omega arith) h) (w.named (suc k) x (suc x) (a, b, y.0, y.1, omega arith, h)))
      (with? v x (suc x))

  -- what the walk leaves is what the paper says
  pub rewritten_cells : (e : List ℕ) → Rewritten N (perm xs tols) (Named m v n) t e → CellsWritten N (Permit xs tols) m v n t e
  rewritten_cells e w =
      let C = rewritten_checked N (perm xs tols) m v n room t e w (perm_adjacent xs tols) few small fine in
      record { same = w.same; named = λ k i j s. rw (w.named k i j s) (value_is e (checked_most (cell e N) m n C) k i j s); other = w.other }

  -- and what the paper says is what the walk leaves
  pub cells_rewritten : (e : List ℕ) → CellsWritten N (Permit xs tols) m v n t e → Rewritten N (perm xs tols) (Named m v n) t e
  cells_rewritten e w = record {
    same = w.same;
    named = λ k i j s. written_one (Permit xs tols) (cell e N) k i j (cell e N k i j) (value (perm xs tols) (cell e N) k i j) (perm xs tols k i j) s.0
        (permissions xs tols m n ranged k i j s.0 s.1 s.4 s.5) (w.named k i j s) (value_is e (near e w) k i j s);
    other = w.other;
  }

  -- so it is one table
  pub cells_one : v < n → (e f : List ℕ) → CellsWritten N (Permit xs tols) m v n t e → CellsWritten N (Permit xs tols) m v n t f → e ≡ f
  cells_one o e f w x = rewritten_unique N (perm xs tols) m v n o room t e f (cells_rewritten e w) (cells_rewritten f x)

-- the samples before, of which n are held, sample v put as x, n' then held, and the tables before and after
module _ (N : ℕ) (xs : Samples) (tols : List ℕ) (x : Sample) (m v n n' : ℕ) (t e : List ℕ) (few : m ≤ 16) (small : N ≤ 256) (room : n ≤ N) (ranged : Ranged xs n)
    (others : Others v n n') where
  pub put_costs : n' ≤ N → Ranged (store xs v x) n' → Rewritten N (perm (store xs v x) tols) (Named m v n') t e
      → Levels.Costs (Permit xs tols) (cell t N) m n → Levels.Costs (Permit (store xs v x) tols) (cell e N) m n'
  put_costs h ranged' w C =
      (genuine_is (store xs v x) tols m n' ranged' few (omega arith) (cell e N)).0
      (put_genuine N m v n n' others t xs tols e h x w ((genuine_is xs tols m n ranged few (omega arith) (cell t N)).1 C))
