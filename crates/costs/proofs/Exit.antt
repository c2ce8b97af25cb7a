-- What is known of the table after a call about sample v: there is one, it is the only one, its cells stay the costs, and it passes check 5 again. Assumes nothing.
use mathlib.Core.Path.{◌≡◌, refl, sym, ◌∙◌}
use mathlib.Core.Logic.{◌⊎◌, inl, inr, ⊎_elim}
use mathlib.Core.Bool.{Bool, true}
use mathlib.Core.List.{List}
use Prim.Native.Nat.{ℕ, suc, ◌*◌, ◌≤◌, ◌<◌}
use native.Mathlib.Nat.{le_of_lt}
use native.Mathlib.Omega.{arith}
use lib.IntN.{pos}
use lib.ListN.{length, get_or, set}
use lib.Seq.{get_or-set_other}
use Rattle.refusal.proofs.Plain.{decided}
use Rattle.sample.specs.declared.Sample.{Sample}
use Rattle.sample.specs.Samples.{Samples, store}
use Rattle.family.specs.Family.{value, after, Genuine}
use Rattle.family.specs.Fine.{Fine, Checked}
use Rattle.family.proofs.Checks.{room, checked_near, checked_by}
use Rattle.family.proofs.Local.{Without, with?, value_same, genuine_put}
use Rattle.family.proofs.After.{after_with, after_without, after_unique}
use Rattle.table.specs.Table.{cell, Wrote}
use Rattle.table.proofs.Address.{at_in, room_below}
use Rattle.table.proofs.Writes.{wrote_kept, wrote_as, wrote_unique, wrote_some}
use Rattle.costs.specs.Costs.{Named, named_test}
use Rattle.permission.specs.Finest.{perm}
use Rattle.costs.specs.Walk.{LowSteps, Rewritten}
use Rattle.permission.proofs.Perm.{perm_adjacent, perm_same}
use Rattle.costs.proofs.Tally.{named_decided}

-- a sample stored anew at v
other_put : {A : Type 0} (s : List A) (v q i j : ℕ) (x d : A) → Without v i j → i ≤ q → q ≤ j → get_or s q d ≡ get_or (set s v x) q d
other_put s v q i j x d (inl h) a b = sym (get_or-set_other s v q x d (λ e. omega arith))
other_put s v q i j x d (inr h) a b = sym (get_or-set_other s v q x d (λ e. omega arith))

pub perm_put : (xs : Samples) (tols : List ℕ) (v k i j : ℕ) (x : Sample) → Without v i j → perm xs tols k i j ≡ perm (store xs v x) tols k i j
perm_put xs tols v k i j x w = perm_same xs (store xs v x) tols k i j (record {
  across = λ q a b. other_put xs.across v q i j x.across (pos 0) w a b;
  up = λ q a b. other_put xs.up v q i j x.up (pos 0) w a b;
  marks = λ q a b. let e = other_put xs.marks v q i j x.mark 0 w (le_of_lt a) (le_of_lt b) in (λ h. sym e ∙ h, λ h. e ∙ h);
})

-- the cells of stretches without v are as found, whatever the others are written with
pub named_kept : (N : ℕ) (G : ℕ → ℕ → ℕ → ℕ) (m v n : ℕ) → n ≤ N → (t e : List ℕ) → Wrote N (Named m v n) G t e
    → (k i j : ℕ) → 1 ≤ k → k ≤ m → i < j → j < n → Without v i j → cell e N k i j ≡ cell t N k i j
named_kept N G m v n hn t e w k i j a b o h y =
    wrote_kept N G (Named m v n) t e w (λ k' i' j' s. omega arith) k i j a (omega arith) (omega arith) (λ s. ⊎_elim (λ z. omega arith) (λ z. omega arith) y)

module _ (N : ℕ) (perm : ℕ → ℕ → ℕ → Bool) (m v n : ℕ) (hn : n ≤ N) (t e : List ℕ) (w : Rewritten N perm (Named m v n) t e) where
  pub rewritten_kept : (k i j : ℕ) → 1 ≤ k → k ≤ m → i < j → j < n → Without v i j → cell e N k i j ≡ cell t N k i j
  rewritten_kept = named_kept N (value perm (cell e N)) m v n hn t e w

  -- the cells of stretches i < j < n are those after the call
  pub rewritten_after : (k i j : ℕ) → 1 ≤ k → k ≤ m → i < j → j < n → cell e N k i j ≡ after perm (cell t N) v k i j
  rewritten_after = after_unique perm (cell t N) v (cell e N) m n rewritten_kept (λ k i j a b o h x y. w.named k i j (a, b, x, y, o, h))

  as_after : Wrote N (Named m v n) (after perm (cell t N) v) t e
  as_after = wrote_as N (value perm (cell e N)) (Named m v n) t e w (λ k i j s. omega arith) (after perm (cell t N) v)
      (λ k i j s. sym (w.named k i j s) ∙ rewritten_after k i j s.0 s.1 s.4 s.5)

  -- the table stays genuine where the permissions of stretches without v are as they were
  pub rewritten_genuine : (perm₀ : ℕ → ℕ → ℕ → Bool)
      → ((k i j : ℕ) → 1 ≤ k → k ≤ m → i < j → j < n → Without v i j → cell t N k i j ≡ value perm₀ (cell t N) k i j)
      → ((k i j : ℕ) → 1 ≤ k → k ≤ m → i < j → j < n → Without v i j → perm₀ k i j ≡ perm k i j)
      → Genuine perm (cell e N) m n
  rewritten_genuine perm₀ old same =
      genuine_put perm₀ perm (cell t N) (cell e N) m n v old same (λ k i j a b o h y. sym (rewritten_kept k i j a b o h y)) (λ k i j a b o h x y. w.named k i j (a, b, x, y, o, h))

  -- check 5 holds where it held of the stretches without v
  pub rewritten_checked : ((k i : ℕ) → perm k i (suc i) ≡ true) → m ≤ 16 → n ≤ 256
      → ((k i j : ℕ) → 1 ≤ k → k ≤ m → i < j → j < n → Without v i j → Fine k i j (cell t N k i j))
      → Checked (cell e N) m n
  rewritten_checked adjacent p q fine = checked_by perm adjacent (cell e N) m n (room m n p q) (λ k i j a b o h. go k i j a b o h (with? v i j))
    where
      go : (k i j : ℕ) → 1 ≤ k → k ≤ m → i < j → j < n → Without v i j ⊎ ((i ≤ v) × (v ≤ j)) → Fine k i j (cell e N k i j) ⊎ (cell e N k i j ≡ value perm (cell e N) k i j)
      go k i j a b o h (inl y) = inl (rw (rewritten_kept k i j a b o h y) (fine k i j a b o h y))
      go k i j a b o h (inr y) = inr (w.named k i j (a, b, y.0, y.1, o, h))

-- no other table can come of the call
pub rewritten_unique : (N : ℕ) (perm : ℕ → ℕ → ℕ → Bool) (m v n : ℕ) → v < n → n ≤ N → (t e f : List ℕ) → Rewritten N perm (Named m v n) t e → Rewritten N perm (Named m v n) t f → e ≡ f
rewritten_unique N perm m v n o hn t e f w x =
    wrote_unique N (Named m v n) (after perm (cell t N) v) (omega arith) (λ k i j s. omega arith) (λ k i j. decided (named_test m v n k i j) (named_decided m v n k i j)) t e f
    (as_after N perm m v n hn t e w) (as_after N perm m v n hn t f x)

-- and there is one, where the table has room
pub rewritten_some : (N : ℕ) (perm : ℕ → ℕ → ℕ → Bool) (m v n : ℕ) → v < n → n ≤ N → (t : List ℕ) → m * (N * N) ≤ length t → (e : List ℕ) × Rewritten N perm (Named m v n) t e
rewritten_some N perm m v n o hn t room =
    let w = wrote_some N (Named m v n) (after perm (cell t N) v) (omega arith) (λ k i j s. omega arith) (λ k i j. decided (named_test m v n k i j) (named_decided m v n k i j)) t
    (λ k i j s. at_in N k i j (length t) s.0 (omega arith) (omega arith) (room_below N k m (length t) s.1 room)) in
    (w.0, values w.0 w.1)
  where
    -- every cell of a stretch i < j < n is the one after the call, found or written
    cells : (e : List ℕ) → Wrote N (Named m v n) (after perm (cell t N) v) t e → (k i j : ℕ) → 1 ≤ k → k ≤ m → i < j → j < n → after perm (cell t N) v k i j ≡ cell e N k i j
    cells e w k i j a b d h = ⊎_elim
        (λ y. after_without perm (cell t N) v k i j y ∙ sym (named_kept N (after perm (cell t N) v) m v n hn t e w k i j a b d h y))
        (λ y. sym (w.named k i j (a, b, y.0, y.1, d, h)))
        (with? v i j)

    values : (e : List ℕ) → Wrote N (Named m v n) (after perm (cell t N) v) t e → Rewritten N perm (Named m v n) t e
    values e w = wrote_as N (after perm (cell t N) v) (Named m v n) t e w (λ k i j s. omega arith) (value perm (cell e N))
        (λ k i j s. after_with perm (cell t N) v k i j s.0 s.2 s.3
        ∙ value_same perm perm (after perm (cell t N) v) (cell e N) k i j s.4 refl (λ ℓ p q a b u d h. cells e w ℓ p q a (omega arith) d (omega arith)))

-- sample v is put: of the n' samples then held, all but v were among the n held before
abbrev pub Others : ℕ → ℕ → ℕ → Type 0
Others v n n' = (q : ℕ) → q < n' → (q ≡ v → ⊥) → q < n

-- so the end of a stretch without v was held before
pub held_end : {v n n' : ℕ} → Others v n n' → (i j : ℕ) → i < j → j < n' → Without v i j → j < n
held_end others i j o h (inl y) = others j h (λ e. omega arith)
held_end others i j o h (inr y) = others j h (λ e. omega arith)

module _ (N m v n n' : ℕ) (others : Others v n n') (t : List ℕ) where
  -- what check 5 gives the walk
  pub put_steps : Checked (cell t N) m n → LowSteps t N m v n'
  put_steps checked k x a b h z = omega (arith, checked_near (cell t N) m n checked k x a b (held_end others x (suc x) (omega arith) h z))

  module _ (xs : Samples) (tols : List ℕ) (e : List ℕ) (room : n' ≤ N) where
    -- it holds again
    pub put_checked : m ≤ 16 → N ≤ 256 → Checked (cell t N) m n → Rewritten N (perm xs tols) (Named m v n') t e → Checked (cell e N) m n'
    put_checked hm hN checked w =
        rewritten_checked N (perm xs tols) m v n' room t e w (perm_adjacent xs tols) hm (omega arith) (λ k i j a b o d z. checked k i j a b o (held_end others i j o d z))

    pub put_genuine : (x : Sample) → Rewritten N (perm (store xs v x) tols) (Named m v n') t e
        → Genuine (perm xs tols) (cell t N) m n → Genuine (perm (store xs v x) tols) (cell e N) m n'
    unfolding Genuine
    put_genuine x w g =
        rewritten_genuine N (perm (store xs v x) tols) m v n' room t e w (perm xs tols)
        (λ k i j a b o d z. g k i j a b o (held_end others i j o d z)) (λ k i j a b o d z. perm_put xs tols v k i j x z)
