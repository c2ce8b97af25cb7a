-- The test of the cells decides check 5 in plain words. Assumes nothing.
use mathlib.Core.Path.{◌≡◌, refl, sym}
use mathlib.Core.Bool.{Bool, true, false, ◌&&◌, not, and-true, and_assoc}
use mathlib.Core.List.{List}
use mathlib.Core.Logic.{◌⊎◌, inl, inr, ⊎_elim}
use Prim.Native.Nat.{ℕ, zero, suc, ◌+◌, ◌-◌, ◌*◌, ◌≤◌, ◌<◌}
use native.Mathlib.Nat.{zero-add}
use native.Mathlib.Numerals.{add-one}
use native.Mathlib.Omega.{arith}
use lib.Dec.{eqb, ltb}
use lib.ListN.{length, get_or, take, drop, length-take, length-drop}
use Rattle.std.proofs.lemmas.List.{get_or-take, get_or-drop}
use borrow.Author.Tests.{le-leb}
use Rattle.std.proofs.lemmas.Bool.Decides.{nat_tests}
use Rattle.refusal.specs.Check.{Decides, all_below, from_to}
use Rattle.refusal.proofs.Laws.{all_yes, all_no, all_same}
use Rattle.refusal.proofs.Plain.{carry, by_equal, by_less, both_decided, either_decided, from_to_decided, all_decided}
use Rattle.family.specs.Lists.{none}
use Rattle.family.specs.Fine.{Fine, Checked}
use Rattle.table.specs.Table.{at, cell}
use Rattle.table.specs.Check.{cell_ok, long_ok, row_ok, level_ok, cells_ok}

-- a cell of a stretch of so many steps, in plain words
abbrev FineBy : ℕ → ℕ → ℕ → Type 0
FineBy k steps v = ((v ≡ none) × (1 < steps)) ⊎ ((k ≤ v) × (v ≤ 1 + (k - 1) * steps))

cell_decided : (k steps v : ℕ) → Decides (FineBy k steps v) (cell_ok k steps v)
unfolding cell_ok
cell_decided k steps v =
    either_decided (eqb v none && ltb 1 steps) (from_to k (1 + (k - 1) * steps) v)
    (both_decided (eqb v none) (ltb 1 steps) (by_equal v none) (by_less 1 steps))
    (from_to_decided k (1 + (k - 1) * steps) v)

-- that of a stretch that is not of neighbours is known by the most that it may be
pub longer_by : (k d most v : ℕ) → 1 ≤ d → most ≡ 1 + (k - 1) * (d + 1) → long_ok k most v ≡ cell_ok k (d + 1) v
unfolding cell_ok long_ok
longer_by k d most v h e = rw (e, le-leb 2 (d + 1) (omega arith)) (simp and-true)

-- that of neighbours, which is not none, too
first_by : (k v : ℕ) → 1 ≤ k → k ≤ 16 → not (eqb v none) && long_ok k (1 + (k - 1) * 1) v ≡ cell_ok k 1 v
unfolding cell_ok long_ok
first_by k v h g = grind (arith, nat_tests)

-- a row, cell by cell: the first is not none, and each of the first d is none or from k to its most
module _ (row : List ℕ) (k : ℕ) where
  abbrev pub so_far : ℕ → Bool
  so_far d = not (eqb (get_or row 0 0) none) && all_below d (λ x. long_ok k (1 + (k - 1) * (x + 1)) (get_or row x 0))

  pub row_none : not (eqb (get_or row 0 0) none) ≡ so_far 0
  unfolding all_below
  row_none = sym (and-true _)

  pub row_more : (d most : ℕ) (ok next : Bool) → most ≡ 1 + (k - 1) * (d + 1) → ok ≡ so_far d → next ≡ long_ok k most (get_or row d 0) → ok && next ≡ so_far (d + 1)
  unfolding all_below
  row_more d most ok next e a b = rw (add-one d, b, a, e, and_assoc) refl

  pub row_all : 1 ≤ k → k ≤ 16 → (n : ℕ) → 1 ≤ n → so_far n ≡ row_ok row 0 k n
  unfolding row_ok all_below
  row_all h g zero o = absurd (omega arith)
  row_all h g (suc zero) o = first_by k (get_or row 0 0) h g
  row_all h g (suc (suc n)) o =
      let l = longer_by k (suc n) (1 + (k - 1) * (suc n + 1)) (get_or row (suc n) 0) (omega arith) refl in
      rw (zero-add (suc n), ← l, ← row_all h g (suc n) (omega arith)) (simp and_assoc)

-- a row as a part of the table
pub row_part : (t : List ℕ) (base count k size : ℕ) → size ≡ count → base + count ≤ length t
    → row_ok (take size (drop base t)) 0 k (length (take size (drop base t))) ≡ row_ok t base k count
unfolding row_ok
row_part t base count k size e h =
    let z : length (take size (drop base t)) ≡ count = simp (length-take, length-drop) (omega arith) in
    rw z (all_same count _ _ (λ d l. let m : d < size = omega arith in rw (zero-add d, get_or-take, get_or-drop) refl))

-- the rows of a level, one after another
module _ (t : List ℕ) (N n k : ℕ) where
  pub level_no : (j : ℕ) → 1 ≤ j → j < n → row_ok t (at N k (j - 1) j) k (n - j) ≡ false → level_ok t N n k ≡ false
  unfolding level_ok
  level_no j a b h = let z : j - 1 + 1 ≡ j = omega arith in all_no (n - 1) (j - 1) _ (omega arith) (rw z h)

  pub level_yes : ((j : ℕ) → 1 ≤ j → j < n → row_ok t (at N k (j - 1) j) k (n - j) ≡ true) → level_ok t N n k ≡ true
  unfolding level_ok
  level_yes h = all_yes (n - 1) _ (λ i l. let z : i + 1 - 1 ≡ i = omega arith in rw z at (h (i + 1) (omega arith) (omega arith)))

-- and the levels of a table
module _ (t : List ℕ) (N n m : ℕ) where
  pub levels_no : (k : ℕ) → 1 ≤ k → k ≤ m → level_ok t N n k ≡ false → cells_ok t N n m ≡ false
  unfolding cells_ok
  levels_no k a b h = let z : k - 1 + 1 ≡ k = omega arith in all_no m (k - 1) _ (omega arith) (rw z h)

  pub levels_yes : ((k : ℕ) → 1 ≤ k → k ≤ m → level_ok t N n k ≡ true) → cells_ok t N n m ≡ true
  unfolding cells_ok
  levels_yes h = all_yes m _ (λ l a. h (l + 1) (omega arith) (omega arith))

-- a stretch of i to j has j - i steps
fine_by : (k i j v : ℕ) → i < j → (Fine k i j v → FineBy k (j - i) v) × (FineBy k (j - i) v → Fine k i j v)
fine_by k i j v o = (
  (λ f. ⊎_elim (λ p. inl (p.0, omega arith)) (λ p. inr p) f),
  (λ f. ⊎_elim (λ p. inl (p.0, omega arith)) (λ p. inr p) f),
)

module _ (t : List ℕ) (N n : ℕ) where
  row_decided : (k i : ℕ) → i < n → Decides ((j : ℕ) → i < j → j < n → Fine k i j (cell t N k i j)) (row_ok t (at N k i (i + 1)) k (n - (i + 1)))
  unfolding row_ok
  row_decided k i h =
      carry
      (λ p j a b. to j a (p (j - (i + 1)) (omega arith)))
      (λ p d a. of d (p (i + 1 + d) (omega arith) (omega arith)))
      (all_decided (λ d. FineBy k (d + 1) (get_or t (at N k i (i + 1) + d) 0)) _ (n - (i + 1)) (λ d a. cell_decided k (d + 1) (get_or t (at N k i (i + 1) + d) 0)))
    where
      to : (j : ℕ) → i < j → FineBy k (j - (i + 1) + 1) (get_or t (at N k i (i + 1) + (j - (i + 1))) 0) → Fine k i j (cell t N k i j)
      to j a f =
          let e : at N k i (i + 1) + (j - (i + 1)) ≡ at N k i j = omega arith in
          let g : j - (i + 1) + 1 ≡ j - i = omega arith in
          (fine_by k i j (cell t N k i j) a).1 (rw (e, g) at f)

      of : (d : ℕ) → Fine k i (i + 1 + d) (cell t N k i (i + 1 + d)) → FineBy k (d + 1) (get_or t (at N k i (i + 1) + d) 0)
      of d f =
          let e : at N k i (i + 1 + d) ≡ at N k i (i + 1) + d = omega arith in
          let g : i + 1 + d - i ≡ d + 1 = omega arith in
          rw (e, g) at ((fine_by k i (i + 1 + d) (cell t N k i (i + 1 + d)) (omega arith)).0 f)

  level_decided : (k : ℕ) → Decides ((i j : ℕ) → i < j → j < n → Fine k i j (cell t N k i j)) (level_ok t N n k)
  unfolding level_ok
  level_decided k =
      carry
      (λ p i j a b. p i (omega arith) j a b)
      (λ p i a j b d. p i j b d)
      (all_decided (λ i. (j : ℕ) → i < j → j < n → Fine k i j (cell t N k i j)) _ (n - 1) (λ i a. row_decided k i (omega arith)))

  -- check 5 of the cells: yes exactly when every cell of a stretch i < j < n may hold what it holds
  pub cells_decided : (m : ℕ) → Decides (Checked (cell t N) m n) (cells_ok t N n m)
  unfolding cells_ok
  cells_decided m =
      carry
      (λ p k i j a b o h. to k a (p (k - 1) (omega arith)) i j o h)
      (λ p l a i j o h. p (l + 1) i j (omega arith) (omega arith) o h)
      (all_decided (λ l. (i j : ℕ) → i < j → j < n → Fine (l + 1) i j (cell t N (l + 1) i j)) _ m (λ l a. level_decided (l + 1)))
    where
      to : (k : ℕ) → 1 ≤ k → ((i j : ℕ) → i < j → j < n → Fine (k - 1 + 1) i j (cell t N (k - 1 + 1) i j)) → (i j : ℕ) → i < j → j < n → Fine k i j (cell t N k i j)
      to k a f = let e : k - 1 + 1 ≡ k = omega arith in rw e at f
