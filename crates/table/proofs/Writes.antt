-- What is written: one cell, two writes after one another, what is kept, and that there is one written table and no other. Assumes nothing.
use mathlib.Core.Path.{◌≡◌, refl, sym, ap, ◌∙◌}
use mathlib.Core.Logic.{◌⊎◌, ⊎_elim}
use mathlib.Core.List.{List, [], ◌∷◌}
use Prim.Native.Nat.{ℕ, zero, suc, ◌/◌, ◌%◌, ◌≤◌, ◌<◌}
use native.Mathlib.Nat.{le_refl, mod-lt}
use native.Mathlib.Decide.{dec_lt}
use native.Mathlib.Omega.{arith}
use lib.ListN.{length, get_or, set, length-set}
use lib.Seq.{get_or-set_same, get_or-set_other, ext_get_or}
use Rattle.table.specs.Table.{at, cell, Wrote}
use Rattle.table.proofs.Address.{Same, at_same, at_all}

-- from t to e each of the first n places holds something that R asks there, and every other place what it held
pub record Anew (R : ℕ → ℕ → Type 0) (n : ℕ) (t e : List ℕ) : Type 0 where
  pub same : length e ≡ length t
  pub first : (a : ℕ) → a < n → R a (get_or e a 0)
  pub other : (a : ℕ) → n ≤ a → get_or e a 0 ≡ get_or t a 0

-- there is such a list where R can be met at each place
pub anew : (R : ℕ → ℕ → Type 0) (n : ℕ) (t : List ℕ) → n ≤ length t → ((a : ℕ) → a < n → (x : ℕ) × R a x) → (e : List ℕ) × Anew R n t e
anew R zero t h some = (t, record { same = refl; first = λ a l. absurd (omega arith); other = λ a l. refl })
anew R (suc n) [] h some = absurd (omega arith)
anew R (suc n) (y ∷ t) h some =
    let x = some 0 (omega arith) in
    let w = anew (λ a. R (suc a)) n t (omega arith) (λ a l. some (suc a) (omega arith)) in
    (x.0 ∷ w.0, record { same = ap suc w.1.same; first = first x.0 x.1 w.0 w.1; other = other x.0 w.0 w.1 })
  where
    first : (x : ℕ) → R 0 x → (e : List ℕ) → Anew (λ a. R (suc a)) n t e → (a : ℕ) → a < suc n → R a (get_or (x ∷ e) a 0)
    first x r e w zero l = r
    first x r e w (suc a) l = w.first a (omega arith)

    other : (x : ℕ) (e : List ℕ) → Anew (λ a. R (suc a)) n t e → (a : ℕ) → suc n ≤ a → get_or (x ∷ e) a 0 ≡ get_or (y ∷ t) a 0
    other x e w zero l = absurd (omega arith)
    other x e w (suc a) l = w.other a (omega arith)

-- the cells that S names are cells of the table
abbrev pub Inside : ℕ → (ℕ → ℕ → ℕ → Type 0) → Type 0
Inside N S = (k i j : ℕ) → S k i j → (1 ≤ k) × (i < N) × (j < N)

-- one cell
abbrev pub One : ℕ → ℕ → ℕ → ℕ → ℕ → ℕ → Type 0
One k i j k' i' j' = (k' ≡ k) × (i' ≡ i) × (j' ≡ j)

module _ (N : ℕ) (G : ℕ → ℕ → ℕ → ℕ) where
  pub wrote_none : (S : ℕ → ℕ → ℕ → Type 0) (t : List ℕ) → ((k i j : ℕ) → S k i j → ⊥) → Wrote N S G t t
  wrote_none S t h = record { same = refl; named = λ k i j s. absurd (h k i j s); other = λ a off. refl }

  pub wrote_one : (t : List ℕ) (k i j v : ℕ) → at N k i j < length t → v ≡ G k i j → Wrote N (One k i j) G t (set t (at N k i j) v)
  wrote_one t k i j v h e = record {
    same = length-set t (at N k i j) v;
    named = λ k' i' j' s. rw (s.0, s.1, s.2) (get_or-set_same t (at N k i j) v 0 h ∙ e);
    other = λ a off. get_or-set_other t (at N k i j) a v 0 (off k i j (refl, refl, refl));
  }

  module _ (S : ℕ → ℕ → ℕ → Type 0) (t e : List ℕ) (w : Wrote N S G t e) (inside : Inside N S) where
    -- a cell that S does not name holds what it held
    pub wrote_kept : (k i j : ℕ) → 1 ≤ k → i < N → j < N → (S k i j → ⊥) → cell e N k i j ≡ cell t N k i j
    wrote_kept k i j hk hi hj off = w.other (at N k i j) (λ k' i' j' s p.
        let x = inside k' i' j' s in
        let q = at_same N k i j k' i' j' hk x.0 hi hj x.1 x.2 p in
        off (rw (q.level, q.from, q.to) s))

    pub wrote_as : (H : ℕ → ℕ → ℕ → ℕ) → ((k i j : ℕ) → S k i j → G k i j ≡ H k i j) → Wrote N S H t e
    wrote_as H h = record { same = w.same; named = λ k i j s. w.named k i j s ∙ h k i j s; other = w.other }

    pub wrote_more : (R Q : ℕ → ℕ → ℕ → Type 0) (f : List ℕ) → Wrote N R G e f → Inside N R
        → ((k i j : ℕ) → S k i j → R k i j → ⊥)
        → ((k i j : ℕ) → Q k i j → S k i j ⊎ R k i j)
        → ((k i j : ℕ) → S k i j → Q k i j) → ((k i j : ℕ) → R k i j → Q k i j)
        → Wrote N Q G t f
    wrote_more R Q f x in_r apart split left right = record {
      same = x.same ∙ w.same;
      named = λ k i j s. ⊎_elim
          (λ p. keep k i j p ∙ w.named k i j p)
          (λ p. x.named k i j p) (split k i j s);
      other = λ a off. x.other a (λ k i j p. off k i j (right k i j p)) ∙ w.other a (λ k i j p. off k i j (left k i j p));
    }
      where
        keep : (k i j : ℕ) → S k i j → cell f N k i j ≡ cell e N k i j
        keep k i j p = x.other (at N k i j) (λ k' i' j' r g.
            let y = inside k i j p in
            let z = in_r k' i' j' r in
            let q = at_same N k i j k' i' j' y.0 z.0 y.1 y.2 z.1 z.2 g in
            apart k i j p (rw (q.level, q.from, q.to) r))

module _ (N : ℕ) (S : ℕ → ℕ → ℕ → Type 0) (G : ℕ → ℕ → ℕ → ℕ) (pos : 0 < N) (inside : Inside N S) (dec : (k i j : ℕ) → Dec (S k i j)) (t : List ℕ) where
  -- S names the cell of the address a
  abbrev Hit : ℕ → Type 0
  Hit a = S (suc (a / N / N)) (a / N % N) (a % N)

  hit? : (a : ℕ) → Dec (Hit a)
  hit? a = dec (suc (a / N / N)) (a / N % N) (a % N)

  -- no other cell that S names has that address
  here : (a k i j : ℕ) → S k i j → a ≡ at N k i j → Same (suc (a / N / N)) (a / N % N) (a % N) k i j
  here a k i j s g = let z = inside k i j s in at_same N (suc (a / N / N)) (a / N % N) (a % N) k i j (omega arith) z.0 (mod-lt _ pos) (mod-lt _ pos) z.1 z.2 (at_all N a ∙ g)

  miss : (a : ℕ) → (Hit a → ⊥) → (k i j : ℕ) → S k i j → a ≡ at N k i j → ⊥
  miss a off k i j s g = let q = here a k i j s g in off (rw (q.level, q.from, q.to) s)

  -- the written table is one
  pub wrote_unique : (e f : List ℕ) → Wrote N S G t e → Wrote N S G t f → e ≡ f
  wrote_unique e f w x = ext_get_or 0 e f (w.same ∙ sym x.same) (λ a h. same_at a (hit? a))
    where
      same_at : (a : ℕ) → Dec (Hit a) → get_or e a 0 ≡ get_or f a 0
      same_at a (yes s) = rw (at_all N a) at (w.named _ _ _ s ∙ sym (x.named _ _ _ s))
      same_at a (no off) = w.other a (miss a off) ∙ sym (x.other a (miss a off))

  -- what an address is to hold
  record Holds (a x : ℕ) : Type 0 where
    pub named : (k i j : ℕ) → S k i j → a ≡ at N k i j → x ≡ G k i j
    pub other : ((k i j : ℕ) → S k i j → a ≡ at N k i j → ⊥) → x ≡ get_or t a 0

  holds_some : (a : ℕ) → Dec (Hit a) → (x : ℕ) × Holds a x
  holds_some a (yes s) = (
    G (suc (a / N / N)) (a / N % N) (a % N),
    record { named = λ k i j p g. let q = here a k i j p g in rw (q.level, q.from, q.to) refl; other = λ off. absurd (off _ _ _ s (sym (at_all N a))) },
  )
  holds_some a (no off) = (get_or t a 0, record { named = λ k i j p g. absurd (miss a off k i j p g); other = λ h. refl })

  -- and there is one, where the table has room for every cell that S names
  pub wrote_some : ((k i j : ℕ) → S k i j → at N k i j < length t) → (e : List ℕ) × Wrote N S G t e
  wrote_some room =
      let w = anew Holds (length t) t (le_refl (length t)) (λ a h. holds_some a (hit? a)) in (
        w.0,
        record {
          same = w.1.same;
          named = λ k i j s. (w.1.first (at N k i j) (room k i j s)).named k i j s refl;
          other = λ a off. elim (dec_lt a (length t)) [ yes h ↦ (w.1.first a h).other off | no h ↦ w.1.other a (omega arith) ];
        },
      )
