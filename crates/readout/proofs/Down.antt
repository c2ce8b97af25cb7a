-- The walk down the levels, from the ranks to start from to the read-out. Assumes nothing.
use mathlib.Core.Path.{◌≡◌, ◌∙◌}
use mathlib.Core.Logic.{◌⊎◌, inl, inr, ⊎_elim}
use mathlib.Core.List.{List}
use Prim.Native.Nat.{ℕ, suc, ◌+◌, ◌-◌, ◌≤◌, ◌<◌}
use native.Mathlib.Decide.{ℕ_discrete}
use native.Mathlib.Omega.{arith}
use lib.ListN.{length}
use Rattle.family.specs.Family.{Readout}
use Rattle.family.proofs.Ranks.{read_flat}
use Rattle.table.specs.Table.{cell}
use Rattle.readout.specs.Read.{rank}
use Rattle.readout.specs.Lay.{Ranked, LaidTo, Laying, Started}

-- the levels above l of the read-out are laid: f the ranks at entry, g now
pub record Down (c : ℕ → ℕ → ℕ → ℕ) (m n l : ℕ) (f g : ℕ → ℕ) : Type 0 where
  pub first : g 0 ≡ m
  pub last : (x : ℕ) → x + 1 ≡ n → g x ≡ m
  pub top : (x : ℕ) → x < n → g x ≤ m
  pub between : (x : ℕ) → 0 < x → x + 1 < n → (g x ≡ 0) ⊎ (l < g x)
  pub laid : (k : ℕ) → l < k → k ≤ m → LaidTo (c k) k n (n - 1) g
  pub other : (x : ℕ) → n ≤ x → g x ≡ f x

-- a level stays laid where only ranks of 0 become k, below it
module _ (c : ℕ → ℕ → ℕ) (k h n u : ℕ) (low : k < h) (g e : ℕ → ℕ) (grown : (x : ℕ) → (e x ≡ g x) ⊎ ((g x ≡ 0) × (e x ≡ k))) where
  held_back : (x v : ℕ) → k < v → v ≤ e x → v ≤ g x
  held_back x v b a = ⊎_elim (λ z. omega arith) (λ z. omega arith) (grown x)

  lower : (x v : ℕ) → e x < v → g x < v
  lower x v a = ⊎_elim (λ z. omega arith) (λ z. omega arith) (grown x)

  laid_kept : LaidTo c h n u g → LaidTo c h n u e
  laid_kept w = record {
    step = λ p q j a hn N above. w.step p q j a hn
        (record { order = N.order; left = held_back p h low N.left; right = held_back q h low N.right; between = λ x y z. lower x h (N.between x y z) })
        (record {
          after = above.after;
          inside = above.inside;
          held = ⊎_elim (λ z. inl z) (λ z. inr (held_back j (suc h) (omega arith) z)) above.held;
          clear = λ x y z. (let r = lower x (suc h) (omega (arith, above.clear x y z)) in omega arith);
        });
  }

module _ (c : ℕ → ℕ → ℕ → ℕ) (m n : ℕ) (hm : 0 < m) (hn : 1 < n) (f : ℕ → ℕ) where
  pub down_more : (k : ℕ) (g e : ℕ → ℕ) → 0 < k → k ≤ m → Down c m n k f g → Laying (c k) k n (n - 1) g e → Down c m n (k - 1) f e
  down_more k g e h0 h w y = record {
    first = keep 0 w.first;
    last = λ x z. keep x (w.last x z);
    top = λ x z. (let t = w.top x z in ⊎_elim (λ r. omega arith) (λ r. omega arith) (y.grown x));
    between = λ x a b. ⊎_elim (λ r. ⊎_elim (λ z. inl (r ∙ z)) (λ z. inr (omega arith)) (w.between x a b)) (λ r. inr (omega arith)) (y.grown x);
    laid = λ ℓ a b. elim (ℕ_discrete ℓ k) [ yes r ↦ rw r y.laid | no r ↦ laid_kept (c ℓ) k ℓ n (n - 1) (omega arith) g e y.grown (w.laid ℓ (omega arith) b) ];
    other = λ x a. y.ahead x (omega arith) ∙ w.other x a;
  }
    where
      keep : (x : ℕ) → g x ≡ m → e x ≡ m
      keep x z = ⊎_elim (λ r. r ∙ z) (λ r. omega arith) (y.grown x)

  down_all : (g : ℕ → ℕ) → Down c m n 0 f g → Readout c m n g
  down_all g w = record {
    first = w.first;
    last = w.last (n - 1) (omega arith);
    highest = w.top;
    read = read_flat c m 0 (n - 1) g
        (λ a b u v N. (w.laid m hm (omega arith)).step a b (n - 1) (omega (arith, N.order)) (omega arith) N
        (record { after = omega (arith, N.order); inside = omega arith; held = inl (omega arith); clear = λ x y z. w.top x (omega arith) }))
        (λ ℓ p q a b u v M i j x y N. (w.laid ℓ a (omega arith)).step i j q (omega (arith, N.order)) (omega arith) N
        (record { after = omega (arith, N.order); inside = omega arith; held = inr M.right; clear = λ z s t. omega (arith, M.between z (omega arith) t) }));
  }

-- after the last level
module _ (m n : ℕ) (r e : List ℕ) (S : Started m n r e) where
  pub ranked : (t : List ℕ) (N : ℕ) (g : List ℕ) → 0 < m → 1 < n → length g ≡ length e → Down (cell t N) m n 0 (rank e) (rank g) → Ranked t N m n r g
  ranked t N g hm hn same D = record {
    same = same ∙ S.same;
    readout = down_all (cell t N) m n hm hn (rank e) (rank g) D;
    other = λ x a. D.other x a ∙ S.other x a;
  }
