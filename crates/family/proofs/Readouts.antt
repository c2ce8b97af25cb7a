-- The read-out of a genuine table is the chosen one of the minimal families (`readout_chosen`), and there is one chosen family (`chosen_unique`). Assumes nothing.
use Prim.Native.Nat.{ℕ, zero, suc, ◌+◌, ◌-◌, ◌*◌, ◌≤◌, ◌<◌, zero-le}
use mathlib.Core.Path.{◌≡◌, refl, sym, ◌∙◌}
use mathlib.Core.Bool.{Bool, true}
use native.Mathlib.Omega.{arith}
use native.Mathlib.Decide.{dec_le}
use native.Mathlib.Nat.{le_refl}
use Rattle.family.specs.Family.{Family, Chosen, total, least, next, below, Genuine, Read, Readout, rank}
use Rattle.family.specs.Lists.{none}
use Rattle.family.proofs.Counts.{total_split, total_one, total_nil}
use Rattle.family.proofs.Paths.{least_end, least_le, least_lt, least_next, least_join}
use Rattle.family.proofs.Families.{walk, family_part, family_down, family_up, family_join}
use Rattle.family.proofs.Costs.{cell_yes, cell_open, genuine_checked, below_least}
use Rattle.family.proofs.Checks.{checked_small}
use Rattle.family.proofs.Ties.{Low, same_ranks, readout_prefers}
use Rattle.family.proofs.Ranks.{readout}

module _ (perm : ℕ → ℕ → ℕ → Bool) (near : (k i : ℕ) → perm k i (suc i) ≡ true) (c : ℕ → ℕ → ℕ → ℕ) (m n : ℕ) (room : m * n < none) (genuine : Genuine perm c m n) where
  -- what is read over the levels 1 to k is a family with the least total
  read_family : (k p q : ℕ) (r : ℕ → ℕ) → k ≤ m → p ≤ q → q < n → k ≤ r p → k ≤ r q → Read c k p q r → Family perm k p q r × (total r k p q ≡ below c k p q)
  unfolding Read below total
  read_family zero p q r a b d f g R = (record { first = f; last = g; permitted = λ ℓ i j x y u v N. absurd (omega arith) }, refl)
  read_family (suc k) p q r a b d f g R =
      walk r (suc k) q (λ i. p ≤ i → Family perm (suc k) i q r × (total r (suc k) i q ≡ least (c (suc k)) i q)) g
      (λ u. (record { first = g; last = g; permitted = λ ℓ i j x y u v N. absurd (omega (arith, N.order)) }, (total_nil r (suc k) q ∙ sym (least_end (c (suc k)) q))))
      (λ i j N v t u.
      let o : i < j = N.order in
      let x = R i j u v N in
      let w : least (c (suc k)) i q ≡ c (suc k) i j + least (c (suc k)) j q = rw x.0 (least_next (c (suc k)) q i (omega arith)) in
      let y = cell_open perm near c m n room genuine k i j a o (omega arith) (omega (arith, w, checked_small c m n (genuine_checked perm near c m n room genuine) room (suc k) i q a (omega arith) d)) in
      let z = read_family k i j r (omega arith) (omega arith) (omega arith) (omega (arith, N.left)) (omega (arith, N.right)) x.1 in
      let l = t (omega arith) in (
        family_join perm (suc k) i j q (family_up perm k i j N y z.0) l.0,
        omega (arith, total_split r (suc k) i j q (omega arith) v, total_one r k i j N, z.1, l.1, w, cell_yes perm near c m n room genuine k i j a o (omega arith) y),
      ))
      p b f (le_refl p)

  -- a family with the least total has it between neighbours too, and no step of it goes farther than the chosen one
  tight_low : (k p q : ℕ) (s : ℕ → ℕ) → k ≤ m → p ≤ q → q < n → Family perm k p q s → total s k p q ≡ below c k p q → Low c k p q s
  unfolding below
  tight_low zero p q s a b d F e = tt
  tight_low (suc k) p q s a b d F e = λ i j u v N.
      let o : i < j = N.order in
      let y = F.permitted (suc k) i j (omega arith) (le_refl (suc k)) u v N in
      let G = family_down perm k i j (family_part perm (suc k) p q i j u v N.left N.right F) in
      let x0 = below_least perm near c m n room genuine (suc k) p i s a u (omega arith) (family_part perm (suc k) p q p i (le_refl p) (omega arith) F.first N.left F) in
      let x1 = below_least perm near c m n room genuine k i j s (omega arith) (omega arith) (omega arith) G in
      let x2 = below_least perm near c m n room genuine (suc k) j q s a v d (family_part perm (suc k) p q j q (omega arith) (le_refl q) N.right F.last F) in
      let x3 = total_split s (suc k) p i q u (omega arith) in
      let x4 = total_split s (suc k) i j q (omega arith) v in
      let x5 = total_one s k i j N in
      let x6 = least_join (c (suc k)) p i q u (omega arith) in
      let x7 = least_le (c (suc k)) q i (omega arith) j o v in
      let x8 = cell_yes perm near c m n room genuine k i j a o (omega arith) y in (
        elim (dec_le j (next (c (suc k)) i q)) [ yes z ↦ z | no z ↦ absurd (omega (arith, least_lt (c (suc k)) q i (omega arith) j (omega arith) v)) ],
        tight_low k i j s (omega arith) (omega arith) (omega arith) G (omega arith),
      )

  module _ (some : 0 < n) where
    -- T2: the read-out of a genuine table is a family, of the least total of all, and of those the choice of the rule for ties
    pub readout_chosen : (r : ℕ → ℕ) → Readout c m n r → Chosen perm m n r
    readout_chosen r R =
        let x = read_family m 0 (n - 1) r (le_refl m) zero-le (omega arith) (omega (arith, R.first)) (omega (arith, R.last)) R.read in
        record {
          highest = R.highest;
          minimal = record { family = x.0; least_total = λ s F. omega (arith, x.1, below_least perm near c m n room genuine m 0 (n - 1) s (le_refl m) zero-le (omega arith) F) };
          prefers = λ s M. readout_prefers c m n r s R
              (tight_low m 0 (n - 1) s (le_refl m) zero-le (omega arith) M.family
              (omega (arith, x.1, M.least_total r x.0, below_least perm near c m n room genuine m 0 (n - 1) s (le_refl m) zero-le (omega arith) M.family)))
              M.family.first M.family.last;
        }

-- there is one chosen family at most
pub chosen_unique : (perm : ℕ → ℕ → ℕ → Bool) (m n : ℕ) (r s : ℕ → ℕ) → Chosen perm m n r → Chosen perm m n s → (x : ℕ) → x < n → r x ≡ s x
chosen_unique perm m n r s R S = same_ranks m n r s (R.prefers s S.minimal) (S.prefers r R.minimal) R.highest S.highest

-- it is the read-out of the costs
pub chosen_rank : (perm : ℕ → ℕ → ℕ → Bool) → ((k i : ℕ) → perm k i (suc i) ≡ true) → (c : ℕ → ℕ → ℕ → ℕ) (m n : ℕ) → m * n < none → Genuine perm c m n → 0 < n
    → (r : ℕ → ℕ) → Chosen perm m n r → (x : ℕ) → x < n → r x ≡ rank c m 0 (n - 1) x
chosen_rank perm near c m n room genuine some r R =
    chosen_unique perm m n r (rank c m 0 (n - 1)) R (readout_chosen perm near c m n room genuine some (rank c m 0 (n - 1)) (readout c m n))
