-- The cells after a call about sample v: what they are, that no other table has them, and that they stay genuine and pass check 5. Assumes nothing.
use Prim.Native.Nat.{ℕ, zero, suc, ◌≤◌, ◌<◌}
use mathlib.Core.Path.{◌≡◌, refl, sym, ◌∙◌}
use mathlib.Core.Logic.{◌⊎◌, inl, inr}
use mathlib.Core.Bool.{Bool, true}
use native.Mathlib.Omega.{arith}
use native.Mathlib.Decide.{dec_le}
use borrow.Author.Tests.{le-leb, lt-leb}
use Rattle.family.specs.Family.{below, value, after, Genuine}
use Rattle.family.specs.Fine.{Fine, Checked}
use Rattle.family.proofs.Checks.{room, checked_by}
use Rattle.family.proofs.Local.{Without, with?, genuine_put, put_unique}

module _ (perm : ℕ → ℕ → ℕ → Bool) (c : ℕ → ℕ → ℕ → ℕ) (v : ℕ) where
  -- a stretch with v has its value over the cells after the call
  pub after_with : (k i j : ℕ) → 1 ≤ k → i ≤ v → v ≤ j → after perm c v k i j ≡ value perm (after perm c v) k i j
  unfolding after value below
  after_with zero i j a u w = absurd (omega arith)
  after_with (suc zero) i j a u w = rw (le-leb i v u, le-leb v j w)
  after_with (suc (suc k)) i j a u w = rw (le-leb i v u, le-leb v j w)

  -- a stretch without v is as found
  pub after_without : (k i j : ℕ) → Without v i j → after perm c v k i j ≡ c k i j
  unfolding after
  after_without zero i j w = refl
  after_without (suc k) i j (inr w) = rw (lt-leb i v w)
  after_without (suc k) i j (inl w) = elim (dec_le i v) [ yes y ↦ rw (le-leb i v y, lt-leb v j w) | no y ↦ rw (lt-leb i v (omega arith)) ]

  -- a table with the cells found in stretches without v, and with the values of its own cells in the others, is this one
  pub after_unique : (d : ℕ → ℕ → ℕ → ℕ) (m n : ℕ)
      → ((k i j : ℕ) → 1 ≤ k → k ≤ m → i < j → j < n → Without v i j → d k i j ≡ c k i j)
      → ((k i j : ℕ) → 1 ≤ k → k ≤ m → i < j → j < n → i ≤ v → v ≤ j → d k i j ≡ value perm d k i j)
      → (k i j : ℕ) → 1 ≤ k → k ≤ m → i < j → j < n → d k i j ≡ after perm c v k i j
  after_unique d m n stay new =
      put_unique perm d (after perm c v) m n v (λ k i j a b o h w. stay k i j a b o h w ∙ sym (after_without k i j w)) new (λ k i j a b o h u w. after_with k i j a u w)

-- cells that were genuine under old permissions, the permissions of stretches without v being as they were
pub after_genuine : (perm perm' : ℕ → ℕ → ℕ → Bool) (c : ℕ → ℕ → ℕ → ℕ) (m n v : ℕ)
    → ((k i j : ℕ) → 1 ≤ k → k ≤ m → i < j → j < n → Without v i j → c k i j ≡ value perm c k i j)
    → ((k i j : ℕ) → 1 ≤ k → k ≤ m → i < j → j < n → Without v i j → perm k i j ≡ perm' k i j)
    → Genuine perm' (after perm' c v) m n
after_genuine perm perm' c m n v old perms =
    genuine_put perm perm' c (after perm' c v) m n v old perms (λ k i j a b o h w. sym (after_without perm' c v k i j w)) (λ k i j a b o h u w. after_with perm' c v k i j a u w)

-- check 5 holds after the call where it held of the stretches without v
pub after_checked : (perm : ℕ → ℕ → ℕ → Bool) → ((k i : ℕ) → perm k i (suc i) ≡ true) → (c : ℕ → ℕ → ℕ → ℕ) (v m n : ℕ) → m ≤ 16 → n ≤ 256
    → ((k i j : ℕ) → 1 ≤ k → k ≤ m → i < j → j < n → Without v i j → Fine k i j (c k i j))
    → Checked (after perm c v) m n
after_checked perm near c v m n g h found = checked_by perm near (after perm c v) m n (room m n g h) (λ k i j a b o d. go k i j a b o d (with? v i j))
  where
    go : (k i j : ℕ) → 1 ≤ k → k ≤ m → i < j → j < n → Without v i j ⊎ ((i ≤ v) × (v ≤ j)) → Fine k i j (after perm c v k i j) ⊎ (after perm c v k i j ≡ value perm (after perm c v) k i j)
    go k i j a b o d (inl w) = inl (rw (after_without perm c v k i j w) (found k i j a b o d w))
    go k i j a b o d (inr w) = inr (after_with perm c v k i j a w.0 w.1)
