-- The cells of a genuine table are the costs (`genuine_costs`), and a table whose cells are the costs is genuine (`costs_genuine`), and the least path over the cells of a level is the least total of a family (`below_least`, `below_some`).
-- Assumes nothing.
use Prim.Native.Nat.{ℕ, zero, suc, ◌+◌, ◌-◌, ◌*◌, ◌≤◌, ◌<◌, zero-le}
use mathlib.Core.Path.{◌≡◌, refl, sym, ◌∙◌}
use mathlib.Core.Logic.{inr}
use mathlib.Core.Bool.{Bool, true, false}
use native.Mathlib.Omega.{arith}
use native.Mathlib.Decide.{dec_lt}
use native.Mathlib.Nat.{le_refl}
use Rattle.family.specs.Family.{Family, Cost, Costs, cells, total, least, next, below, value, Genuine}
use Rattle.family.specs.Lists.{none}
use Rattle.family.specs.Fine.{Checked}
use Rattle.family.proofs.Counts.{total_split, total_one, total_nil}
use Rattle.family.proofs.Paths.{least_end, least_le, least_next, next_after, next_within}
use Rattle.family.proofs.Checks.{checked_by, checked_small}
use Rattle.family.proofs.Local.{genuine_same}
use Rattle.family.proofs.Families.{walk, family_part, family_down, family_glue, family_lift}

module _ (perm : ℕ → ℕ → ℕ → Bool) (near : (k i : ℕ) → perm k i (suc i) ≡ true) (c : ℕ → ℕ → ℕ → ℕ) (m n : ℕ) (room : m * n < none) (genuine : Genuine perm c m n) where
  pub cell_yes : (k i j : ℕ) → k < m → i < j → j < n → perm (suc k) i j ≡ true → c (suc k) i j ≡ suc (below c k i j)
  unfolding Genuine value
  cell_yes k i j a b d e = genuine (suc k) i j (omega arith) a b d ∙ rw e

  pub cell_no : (k i j : ℕ) → k < m → i < j → j < n → perm (suc k) i j ≡ false → c (suc k) i j ≡ none
  unfolding Genuine value
  cell_no k i j a b d e = genuine (suc k) i j (omega arith) a b d ∙ rw e

  -- a cell that is not `none` is of a permitted stretch
  pub cell_open : (k i j : ℕ) → k < m → i < j → j < n → c (suc k) i j < none → perm (suc k) i j ≡ true
  cell_open k i j a b d h = go (perm (suc k) i j) refl
    where
      go : (t : Bool) → perm (suc k) i j ≡ t → perm (suc k) i j ≡ true
      go true e = e
      go false e = absurd (omega (arith, cell_no k i j a b d e))

  -- the table passes check 5
  pub genuine_checked : Checked c m n
  unfolding Genuine
  genuine_checked = checked_by perm near c m n room (λ k i j a b o h. inr (genuine k i j a b o h))

  -- no family has a smaller total than the least path
  pub below_least : (k i j : ℕ) (r : ℕ → ℕ) → k ≤ m → i ≤ j → j < n → Family perm k i j r → below c k i j ≤ total r k i j
  unfolding below
  below_least zero i j r a b d F = zero-le
  below_least (suc k) i j r a b d F =
      walk r (suc k) j (λ p. i ≤ p → least (c (suc k)) p j ≤ total r (suc k) p j) F.last
      (λ u. omega (arith, least_end (c (suc k)) j))
      (λ p q N v f u.
      let o : p < q = N.order in
      let t : perm (suc k) p q ≡ true = F.permitted (suc k) p q (omega arith) (le_refl (suc k)) u v N in
      omega (
        arith,
        least_le (c (suc k)) j p (omega arith) q o v,
        f (omega arith),
        total_split r (suc k) p q j (omega arith) v,
        total_one r k p q N,
        cell_yes k p q a o (omega arith) t,
        below_least k p q r (omega arith) (omega arith) (omega arith) (family_down perm k p q (family_part perm (suc k) i j p q u v N.left N.right F)),
      ))
      i b F.first (le_refl i)

  abbrev Some : ℕ → ℕ → ℕ → Type 0
  Some k i j = (r : ℕ → ℕ) × Family perm k i j r × (total r k i j ≡ below c k i j)

  none_yet : (k j : ℕ) → Some (suc k) j j
  unfolding below
  none_yet k j = (
    (λ x. suc k),
    record { first = le_refl (suc k); last = le_refl (suc k); permitted = λ ℓ p q a b u v N. absurd (omega (arith, N.order)) },
    (total_nil (λ x. suc k) (suc k) j ∙ sym (least_end (c (suc k)) j)),
  )

  -- families along the path of least sum
  along : (k : ℕ) → suc k ≤ m → ((i j : ℕ) → i ≤ j → j < n → Some k i j) → (d i j : ℕ) → i ≤ j → j ≤ i + d → j < n → Some (suc k) i j
  unfolding below
  along k a f zero i j o e b = let q : i ≡ j = omega arith in rw q (none_yet k j)
  along k a f (suc d) i j o e b = elim (dec_lt i j) [
    | no h ↦ (let q : i ≡ j = omega arith in rw q (none_yet k j))
    | yes h ↦
        (let q = next (c (suc k)) i j in
        let u : i < q = next_after (c (suc k)) j i h in
        let v : q ≤ j = next_within (c (suc k)) j i h in
        let w = least_next (c (suc k)) j i h in
        let t : perm (suc k) i q ≡ true = cell_open k i q a u (omega arith) (omega (arith, w, checked_small c m n genuine_checked room (suc k) i j a o b)) in
        let g = f i q (omega arith) (omega arith) in
        let l = family_lift perm g.0 k i q u t g.1 in
        let s = along k a f d q j v (omega arith) b in
        let x = family_glue perm l.0 s.0 (suc k) i q j (omega arith) v l.1 s.1 in
        (x.0, x.1, omega (arith, x.2, l.3, g.2, s.2, w, cell_yes k i q a u (omega arith) t)))
  ]

  -- some family has that total
  pub below_some : (k i j : ℕ) → k ≤ m → i ≤ j → j < n → Some k i j
  unfolding below total
  below_some zero i j a b d = ((λ x. 0), record { first = zero-le; last = zero-le; permitted = λ ℓ p q g h u v N. absurd (omega arith) }, refl)
  below_some (suc k) i j a b d = along k a (λ i j u v. below_some k i j (omega arith) u v) (j - i) i j b (omega arith) d

  -- T1: every cell is the cost of its stretch
  pub genuine_costs : Costs perm c m n
  unfolding Costs
  genuine_costs zero i j a b u v = absurd (omega arith)
  genuine_costs (suc k) i j a b u v = record {
    refused = cell_no k i j b u v;
    some = λ e.
        (let f = below_some k i j (omega arith) (omega arith) v in
        let l = family_lift perm f.0 k i j u e f.1 in
        (l.0, l.1, l.2, omega (arith, l.3, f.2, cell_yes k i j b u v e)));
    every = λ e r F N. omega (arith, cell_yes k i j b u v e, total_one r k i j N, below_least k i j r (omega arith) (omega arith) v (family_down perm k i j F));
  }

-- a cell has one cost
pub cost_unique : (perm : ℕ → ℕ → ℕ → Bool) (k i j v w : ℕ) → Cost perm k i j v → Cost perm k i j w → v ≡ w
cost_unique perm k i j v w X W = go (perm k i j) refl
  where
    go : (t : Bool) → perm k i j ≡ t → v ≡ w
    go false e = X.refused e ∙ sym (W.refused e)
    go true e =
        let x = X.some e in
        let y = W.some e in
        omega (arith, x.3, y.3, X.every e y.0 y.1 y.2, W.every e x.0 x.1 x.2)

pub cells_genuine : (perm : ℕ → ℕ → ℕ → Bool) (m n : ℕ) → Genuine perm (cells perm) m n
unfolding Genuine cells value below
cells_genuine perm m n zero i j a b o h = refl
cells_genuine perm m n (suc zero) i j a b o h = refl
cells_genuine perm m n (suc (suc k)) i j a b o h = refl

-- a table whose cells are the costs is genuine
pub costs_genuine : (perm : ℕ → ℕ → ℕ → Bool) → ((k i : ℕ) → perm k i (suc i) ≡ true) → (c : ℕ → ℕ → ℕ → ℕ) (m n : ℕ) → m * n < none → Costs perm c m n → Genuine perm c m n
unfolding Costs
costs_genuine perm near c m n room C =
    genuine_same perm perm (cells perm) c m n (λ k i j a b o h. refl)
    (λ k i j a b o h. cost_unique perm k i j (cells perm k i j) (c k i j) (genuine_costs perm near (cells perm) m n room (cells_genuine perm m n) k i j a b o h) (C k i j a b o h))
    (cells_genuine perm m n)

pub costs_checked : (perm : ℕ → ℕ → ℕ → Bool) → ((k i : ℕ) → perm k i (suc i) ≡ true) → (c : ℕ → ℕ → ℕ → ℕ) (m n : ℕ) → m * n < none → Costs perm c m n → Checked c m n
costs_checked perm near c m n room C = genuine_checked perm near c m n room (costs_genuine perm near c m n room C)
